use Rattle.std.proofs.Common.{◌≡◌, ◌≤◌, subst, sym, length, drop, refl, arith, Ok, Err, true, false}
use Rattle.resp_value.specs.declared.value.Value.{Value, Nil}
use Rattle.resp_parse.specs.declared.read_error.ReadError.TheVariants as record_fault
use Rattle.resp_parse.specs.Limits.{usual}
use Rattle.resp_parse.specs.FirstValue.{malformed, incomplete}
use Rattle.resp_parse.specs.Resume.{ReadsInto, Completes}
use Rattle.resp_parse.proofs.Holding.{Resumes-fresh, well_formed-from_reads, malformed-from_runs, incomplete-from_waits}
use Rattle.resp_parse.proofs.LimitedReadings.{HasValue-all, HasFault-all}
use Rattle.resp_parse.proofs.decoder.prefix.parse_redis_value.Goals as goal

pub returns-in-Ok-default-true : goal.returns-in-Ok-default-true
returns-in-Ok-default-true c =
    let bytes = c.args.bytes.now in
    let few : length bytes ≤ usual.bytes = omega arith in
    let n = c.in-Ok-default-true.field-0-0 in
    let value = c.read.new.out in
    let got : ReadsInto {T = Value} (λ x y. x ≡ y) c.new-machine.result bytes c.read.new.self Nil value (Ok (n, true)) =
    rw c.in-Ok-default-true.field-0-1-test at c.in-Ok-default-true.ensures.reads in
    let d : Completes c.new-machine.result bytes c.read.new.self n value = subst
    (Completes c.new-machine.result bytes c.read.new.self n) (sym got.1.0) got.1.1 in
    record {
      answers = (
        drop n bytes,
        HasValue-all usual bytes few (drop n bytes) value (rw (←
            c.new-machine.ensures.limit)
            (well_formed-from_reads c.new-machine.result c.read.new.self bytes bytes
            (Resumes-fresh c.new-machine.result bytes c.new-machine.ensures.fresh c.new-machine.ensures.scanned) n value
            d)),
      );
    }

pub returns-in-Ok-default-false : goal.returns-in-Ok-default-false
returns-in-Ok-default-false c =
    let bytes = c.args.bytes.now in
    let few : length bytes ≤ usual.bytes = omega arith in
    let n = c.in-Ok-default-false.field-0-0 in
    let r : ReadsInto {T = Value} (λ x y. x ≡ y) c.new-machine.result bytes c.read.new.self Nil c.read.new.out
    (Ok (n, false)) = rw c.in-Ok-default-false.field-0-1-test at c.in-Ok-default-false.ensures.reads in
    let d = r.0 in
    record {
      answers = incomplete refl
          (record {
            few = few;
            incomplete = rw (← c.new-machine.ensures.limit)
                (incomplete-from_waits c.new-machine.result c.read.new.self bytes bytes
                (Resumes-fresh c.new-machine.result bytes c.new-machine.ensures.fresh c.new-machine.ensures.scanned) n
                d);
          });
    }

pub returns-in-Err-Fault : goal.returns-in-Err-Fault
returns-in-Err-Fault c =
    let bytes = c.args.bytes.now in
    let few : length bytes ≤ usual.bytes = omega arith in
    let r : ReadsInto {T = Value} (λ x y. x ≡ y) c.new-machine.result bytes c.read.new.self Nil c.read.new.out
    (Err (record_fault.Fault c.in-Err-Fault.fault)) = rw c.in-Err-Fault.field-0-is at
    c.in-Err-Fault.ensures.reads in
    let d = r.0 in
    record {
      answers = malformed c.in-Err-Fault.fault refl
          (HasFault-all usual bytes few c.in-Err-Fault.fault
          (rw (← c.new-machine.ensures.limit)
          (malformed-from_runs c.new-machine.result c.read.new.self bytes bytes
          (Resumes-fresh c.new-machine.result bytes c.new-machine.ensures.fresh c.new-machine.ensures.scanned)
          c.in-Err-Fault.fault d)));
    }
