use Rattle.std.proofs.Common.{◌≡◌, ◌<◌, ◌+◌, ◌-◌, ◌∙◌, [], length, take, drop, ap, arith, refl, subst, sym, Some}
use Rattle.std.proofs.lemmas.Grind.{common_steps}
use Rattle.resp_parse.specs.declared.machine.Machine.{Machine}
use Rattle.resp_parse.specs.declared.type_byte.TypeByte.TheVariants as type_byte
use Rattle.resp_parse.specs.TypeBytes.{type_of}
use Rattle.resp_parse.proofs.HeadersInPieces.{empty-waits, unknown_type, line-waits, header-stops, header-goes}
use Rattle.resp_parse.proofs.HeadersInPieces.{header-whole, header-bulk}
use Rattle.resp_parse.specs.declared.shape.BodyKind.TheVariants as body_kind
use Rattle.resp_parse.specs.Resume.{BeginsWithBulk}
use Rattle.resp_parse.specs.Built.{built}
use Rattle.resp_parse.proofs.Sizes.{body-small}
use Rattle.resp_parse.proofs.AmortisedCost.{header-looks, header-cost}
use Rattle.resp_parse.proofs.machine.Machine.header.Goals as goal

pub returns-in_default-first_line-clause-steps : goal.returns-in_default-first_line-clause-steps
returns-in_default-first_line-clause-steps g c =
    let l : length c.args.self.now.open_aggregates < c.args.self.now.depth = omega arith in
    rw c.in-Some.ensures.cases.0
    (line-waits c.args.self.now c.in-Some.first.now c.in-Some.after.now c.requires.no_body l c.in-Some-from_byte.kind
    (sym c.in-Some-from_byte.ensures.kind) c.in_default-first_line.ensures.line _ refl)

pub returns-in-Err-clause-steps : goal.returns-in-Err-clause-steps
returns-in-Err-clause-steps g c =
    let l : length c.args.self.now.open_aggregates < c.args.self.now.depth = omega arith in
    rw (c.record_fault-in-Err.ensures.why, c.in-Some.ensures.cases.0)
    (header-stops c.args.self.now c.in-Some.first.now c.in-Some.after.now c.requires.no_body l c.in-Some-from_byte.kind
    (sym c.in-Some-from_byte.ensures.kind) c.in-Some-first_line.line.len c.in-Some-first_line.ensures.line
    c.begin.new.self c.record_fault-in-Err.new.self c.in-Err.why
    (ap (λ (m : Machine _). m.shown) c.record_fault-in-Err.ensures.shown) c.in-Err.ensures.goes)

pub returns-in-Ok-Some-clause-steps : goal.returns-in-Ok-Some-clause-steps
returns-in-Ok-Some-clause-steps g c =
    let l : length c.args.self.now.open_aggregates < c.args.self.now.depth = omega arith in
    rw c.in-Some.ensures.cases.0
    (header-whole c.args.self.now c.in-Some.first.now c.in-Some.after.now c.requires.no_body l c.in-Some-from_byte.kind
    (sym c.in-Some-from_byte.ensures.kind) c.in-Some-first_line.line.len c.in-Some-first_line.ensures.line
    c.begin.new.self c.in-Ok-Some.whole c.in-Ok-Some.ensures.scanned
    (rw c.in-Ok-Some.field-0-is at c.in-Ok-Some.ensures.goes))

pub returns-in-Ok-None-clause-steps : goal.returns-in-Ok-None-clause-steps
returns-in-Ok-None-clause-steps g c =
    let l : length c.args.self.now.open_aggregates < c.args.self.now.depth = omega arith in
    rw c.in-Some.ensures.cases.0
    (header-goes c.args.self.now c.in-Some.first.now c.in-Some.after.now c.requires.no_body l c.in-Some-from_byte.kind
    (sym c.in-Some-from_byte.ensures.kind) c.in-Some-first_line.line.len c.in-Some-first_line.ensures.line
    c.begin.new.self c.in-Ok-None.ensures.scanned (rw c.in-Ok-None.field-0-is at c.in-Ok-None.ensures.goes))

pub overflow_sub-len : goal.overflow_sub-len
overflow_sub-len g c = omega (arith, c.in-Some-first_line.ensures.looks.2)

pub returns-in-Ok-Some-clause-cost : goal.returns-in-Ok-Some-clause-cost
returns-in-Ok-Some-clause-cost g c =
    let p = rw c.in-Ok-Some.field-0-is at c.in-Ok-Some.ensures.begins in
    let q = header-cost c.args.self.now c.begin.new.self c.args.counts.now c.first_line.new.counts c.examine-2.new.self
    c.examine-2.new.self c.in-Some-first_line.line.len (c.args.self.now.scanned - 1) c.in-Some.after.now
    refl c.in-Some-first_line.ensures.looks c.examine-2.ensures refl 1 (omega (arith, p))
    c.in-Ok-Some.ensures.scanned in (
      header-looks c.args.self.now c.begin.new.self c.args.counts.now c.first_line.new.counts c.examine-2.new.self
          c.examine-2.new.self c.in-Some-first_line.line.len (c.args.self.now.scanned - 1) c.in-Some.after.now
          refl c.in-Some-first_line.ensures.looks c.examine-2.ensures refl
          c.in-Ok-Some.ensures.scanned,
      omega (arith, q),
    )

pub returns-in-Ok-None-clause-cost : goal.returns-in-Ok-None-clause-cost
returns-in-Ok-None-clause-cost g c =
    let p = rw c.in-Ok-None.field-0-is at c.in-Ok-None.ensures.begins in
    let q = header-cost c.args.self.now c.begin.new.self c.args.counts.now c.first_line.new.counts c.examine-2.new.self
    c.examine-2.new.self c.in-Some-first_line.line.len (c.args.self.now.scanned - 1) c.in-Some.after.now
    refl c.in-Some-first_line.ensures.looks c.examine-2.ensures refl 0 (omega (arith, p))
    c.in-Ok-None.ensures.scanned in (
      header-looks c.args.self.now c.begin.new.self c.args.counts.now c.first_line.new.counts c.examine-2.new.self
          c.examine-2.new.self c.in-Some-first_line.line.len (c.args.self.now.scanned - 1) c.in-Some.after.now
          refl c.in-Some-first_line.ensures.looks c.examine-2.ensures refl
          c.in-Ok-None.ensures.scanned,
      omega (arith, q),
    )

pub returns-in_default-clause-steps : goal.returns-in_default-clause-steps
returns-in_default-clause-steps g c =
    let none : c.args.bytes.now ≡ [] = grind (arith, common_steps, c.in_default.ensures.cases) in
    empty-waits c.args.self.now c.args.bytes.now none c.requires.scanned

pub returns-in_default-from_byte-clause-steps : goal.returns-in_default-from_byte-clause-steps
returns-in_default-from_byte-clause-steps g c =
    let l : length c.args.self.now.open_aggregates < c.args.self.now.depth = omega arith in
    rw (c.record_fault-in_default-from_byte.ensures.why, c.in-Some.ensures.cases.0)
    (unknown_type c.args.self.now c.in-Some.first.now c.in-Some.after.now c.requires.no_body l
    c.record_fault-in_default-from_byte.new.self
    (ap (λ (m : Machine _). m.shown) c.record_fault-in_default-from_byte.ensures.shown)
    (sym c.in_default-from_byte.ensures.kind))

-- a bulk string whose body is at hand
pub returns-in-Some-bulk_at_hand-clause-steps : goal.returns-in-Some-bulk_at_hand-clause-steps
returns-in-Some-bulk_at_hand-clause-steps g c =
    let l : length c.args.self.now.open_aggregates < c.args.self.now.depth = omega arith in
    let n = c.in-Some-first_line.line.len in
    let after = c.in-Some.after.now in
    let x : take (length after - (n + 2)) (drop (n + 2) after) ≡ drop (n + 2) after = grind (arith, common_steps) in
    let b = subst (λ s. BeginsWithBulk c.in-Some-from_byte.kind c.in-Some-first_line.line.number s
    c.in-Some-bulk_at_hand.body.now) x c.in-Some-bulk_at_hand.ensures.body in
    rw (c.in_ok-whole.ensures.seen, c.in-Some.ensures.cases.0)
    (header-bulk c.args.self.now c.in-Some.first.now after c.requires.no_body l c.in-Some-from_byte.kind
    (sym c.in-Some-from_byte.ensures.kind) n c.in-Some-first_line.ensures.line
    _ c.in-Some-first_line.line.number c.in-Some-bulk_at_hand.body.now c.in-Some-first_line.ensures.number b refl refl
    c.requires.no_body refl)

pub returns-in-Some-bulk_at_hand-clause-built_within : goal.returns-in-Some-bulk_at_hand-clause-built_within
returns-in-Some-bulk_at_hand-clause-built_within g c =
    let one : built c.in_ok-whole.whole ≡ 1 = ap built c.in_ok-whole.ensures.seen
    ∙ body-small body_kind.Bulk c.in-Some-bulk_at_hand.body.now _ refl in
    omega (arith, one)

-- a bulk string of one digit or two, whole
pub returns-in-Some-short_bulk-clause-steps : goal.returns-in-Some-short_bulk-clause-steps
unfolding type_of
returns-in-Some-short_bulk-clause-steps g c =
    let l : length c.args.self.now.open_aggregates < c.args.self.now.depth = omega arith in
    let after = c.in-Some.after.now in
    let bulk = c.in-Some-short_bulk.bulk in
    let short = c.in-Some-short_bulk.ensures.bulk in
    let begins : BeginsWithBulk type_byte.BulkString (Some (length bulk.body.now)) (drop (bulk.len + 2) after)
    bulk.body.now = record { kind_is = refl; number_is = refl; begins = short.begins } in
    rw (c.in_ok-short.ensures.seen, c.in-Some.ensures.cases.0)
    (header-bulk c.args.self.now c.in-Some.first.now after c.requires.no_body l type_byte.BulkString
    (ap type_of c.in-Some-short_bulk.ensures.dollar) bulk.len short.line
    _ (Some (length bulk.body.now)) bulk.body.now short.number begins refl refl c.requires.no_body refl)

pub returns-in-Some-short_bulk-clause-built_within : goal.returns-in-Some-short_bulk-clause-built_within
returns-in-Some-short_bulk-clause-built_within g c =
    let one : built c.in_ok-short.short ≡ 1 = ap built c.in_ok-short.ensures.seen
    ∙ body-small body_kind.Bulk c.in-Some-short_bulk.bulk.body.now _ refl in
    omega (arith, one)
