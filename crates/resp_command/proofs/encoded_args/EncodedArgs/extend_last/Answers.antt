use Rattle.std.proofs.Common.{rules, arith, ◌≡◌, ◌≤◌, ◌+◌, ◌-◌, ◌∙◌, List, ap, refl, length, length-set, decimal}
use Rattle.std.specs.Prelude.{get_or, set}
use Rattle.smallvec.specs.SmallVec.{with_items}
use Rattle.smallvec.proofs.SmallVecLemmas.{items-with_items}
use Rattle.resp_args.specs.Args.{Args, extended}
use Rattle.resp_command.specs.EncodedArgs.{args_at}
use Rattle.resp_command.specs.declared.encoded_args.Span.{Span}
use Rattle.resp_command.proofs.FramedArgs.{Holds, extended_holds, last_arg, last_from, last_starts, more-digits}
use Rattle.resp_command.proofs.FramedArgs.{some-spans, whole_length}
use Rattle.resp_command.proofs.encoded_args.EncodedArgs.extend_last.Goals as goal

-- what is read where there is no place
abbrev none : Span
none = record { from = 0; to = 0 }

pub extend_last-requires-clause-place : goal.extend_last-requires-clause-place
extend_last-requires-clause-place c =
    let inside = c.self.inside in
    let h = c.self.invariant in
    let some = some-spans inside.bytes inside.spans.items h c.args.self.now c.self.view_is c.requires in
    let n : c.len-last.result ≡ length inside.spans.items = search rules in
    let start = last_starts inside.bytes inside.spans.items h some c.args.self.now c.start_of-start.result
    c.len-last.result c.self.view_is n c.start_of-start.ensures.place in
    let from = last_from inside.bytes inside.spans.items h some c.deref.result.now none c.len-last.result n
    c.deref.ensures in
    let whole = whole_length inside.bytes inside.spans.items h some in
    (omega (arith, start, from), omega (arith, from, whole))

pub extend_last-requires-clause-grows : goal.extend_last-requires-clause-grows
extend_last-requires-clause-grows c = λ n small enough.
    let inside = c.self.inside in
    let h = c.self.invariant in
    let some = some-spans inside.bytes inside.spans.items h c.args.self.now c.self.view_is c.requires in
    let count : c.len-last.result ≡ length inside.spans.items = search rules in
    let start = last_starts inside.bytes inside.spans.items h some c.args.self.now c.start_of-start.result
    c.len-last.result c.self.view_is count c.start_of-start.ensures.place in
    let from = last_from inside.bytes inside.spans.items h some c.deref.result.now none c.len-last.result count
    c.deref.ensures in
    let whole = whole_length inside.bytes inside.spans.items h some in
    let le : length (last_arg inside.bytes inside.spans.items h some) ≤ n = omega
    (arith, enough, from, whole) in
    let digits = more-digits n (length (last_arg inside.bytes inside.spans.items h some)) n (omega arith) le
    small in
    omega (arith, digits, start, from)

held : (c : goal.After-self-1) → Holds c.extend_last.new.self
    (with_items c.self.inside.spans (set c.deref_mut.result.now (c.len-last.result - 1)
    (record { from = ((c.start_of-start.result + 1) + c.in_ok-digits.digits) + 2; to = c.len.result - 2 }))).items
    (extended (args_at c.self.inside.bytes c.self.inside.spans.items) c.args.more.now)
held c =
    let inside = c.self.inside in
    let h = c.self.invariant in
    let some = some-spans inside.bytes inside.spans.items h c.args.self.now c.self.view_is c.requires in
    let count : c.len-last.result ≡ length inside.spans.items = search rules in
    let start = last_starts inside.bytes inside.spans.items h some c.args.self.now c.start_of-start.result
    c.len-last.result c.self.view_is count c.start_of-start.ensures.place in
    let from = last_from inside.bytes inside.spans.items h some c.deref.result.now none c.len-last.result count
    c.deref.ensures in
    let size' : c.len.result ≡ length c.extend_last.new.self = search rules in
    let place : Span = get_or c.deref.result.now (c.len-last.result - 1) none in
    let digits : c.in_ok-digits.digits ≡ length
    (decimal ((length inside.bytes - 2) - place.from + length c.args.more.now)) =
    c.in_ok-digits.ensures.digits in
    let new : Span = record {
      from = ((c.start_of-start.result + 1) + c.in_ok-digits.digits) + 2;
      to = c.len.result - 2;
    } in
    let written : List Span = set c.deref_mut.result.now (c.len-last.result - 1) new in
    let same : length written ≡ length inside.spans.items = length-set c.deref_mut.result.now (c.len-last.result - 1)
    new ∙ ap length c.deref_mut.ensures.value in
    let stored : (with_items inside.spans written).items ≡ set inside.spans.items (length inside.spans.items - 1)
    (record {
      from = ((c.start_of-start.result + 1) + c.in_ok-digits.digits) + 2;
      to = length c.extend_last.new.self - 2;
    }) =
    items-with_items inside.spans written same ∙ rw (c.deref_mut.ensures.value, count, size') refl in
    extended_holds inside.bytes inside.spans.items h some c.extend_last.new.self c.args.more.now _
    (c.start_of-start.result + 1) place.from c.in_ok-digits.digits
    (ap (λ n. n + 1) start) from c.in_ok-digits.ensures.items digits stored

pub invariant_of-self-2 : goal.invariant_of-self-2
invariant_of-self-2 c = (held c).framed

pub returns : goal.returns
returns c = (held c).view ∙ ap (λ (args : Args). extended args c.args.more.now) c.self.view_is
