use Rattle.std.proofs.Common.{◌≡◌, ◌++◌, ◌+◌, ◌-◌, ◌∙◌, append_assoc, ap, take, drop, refl, sym, subst, length, rules}
use Rattle.std.proofs.Common.{arith, List, ℕ}
use Rattle.std.specs.Prelude.{get_or}
use Rattle.std.specs.List.{flat_map}
use Rattle.std.proofs.lemmas.List.{drop_all, length-map}
use Rattle.resp_command.specs.Packed.{bulk, length_line}
use Rattle.resp_command.specs.Pieces.{sent, interleaved}
use Rattle.resp_command.proofs.PiecesAgree.{interleaved-counted}
use Rattle.resp_command.proofs.PackedPieces.{PartPacked, all_packed, one_packed, next_after, next_place, next_within}
use Rattle.resp_command.proofs.PackedPieces.{none_packed, passed_below}
use Rattle.resp_command.proofs.PrefixOfPrefix.{prefix_of_prefix}
use Rattle.resp_command.proofs.packing.append_pieces.Goals as goal

pub loop-place-init : goal.loop-place-init
loop-place-init c =
    let start : List ℕ = c.args.out.now.items ++ length_line 42
    (length c.args.encoded_args.now + length c.args.cursors.now) in
    let e : c.write_length_line.new.bytes.items ≡ start = search rules in
    record {
      passed_is = refl;
      part = subst (λ (out : List ℕ). PartPacked c.args.text.now c.args.encoded_args.now c.args.cursors.now 0 0 start
          out) (sym e) (none_packed c.args.text.now c.args.encoded_args.now c.args.cursors.now start c.requires);
    }

pub overflow_sub-next : goal.overflow_sub-next
overflow_sub-next c =
    let p = c.loop-place.invariant.part in
    let more = next_place c.args.cursors.now c.loop-place.passed c.loop-place.place-index
    c.loop-place.invariant.passed_is c.loop-place-test.true in
    passed_below _ _ _ _ _ _ _ _ p more

pub range-requires : goal.range-requires
range-requires c =
    let p = c.loop-place.invariant.part in
    let more = next_place c.args.cursors.now c.loop-place.passed c.loop-place.place-index
    c.loop-place.invariant.passed_is c.loop-place-test.true in
    (next_after _ _ _ _ _ _ _ _ p more, next_within _ _ _ _ _ _ _ _ p more)

pub loop-place-preserved : goal.loop-place-preserved
loop-place-preserved c =
    let p = c.loop-place.invariant.part in
    let more = next_place c.args.cursors.now c.loop-place.passed c.loop-place.place-index
    c.loop-place.invariant.passed_is c.loop-place-test.true in
    let next = get_or c.args.cursors.now c.loop-place.place-index 0 - c.loop-place.passed in
    let e : c.write_frame.new.bytes.items ≡ (c.loop-place.out.items
    ++ flat_map bulk (take (next - c.loop-place.done) (drop c.loop-place.done c.args.encoded_args.now)))
    ++ bulk c.args.text.now = search rules in
    record {
      passed_is = ap (λ n. n + 1) c.loop-place.invariant.passed_is;
      part = one_packed _ _ _ _ _ _ _ _ p more _ e;
    }

pub returns-clause-written : goal.returns-clause-written
returns-clause-written c =
    let p = c.loop-place.invariant.part in
    let none = drop_all c.loop-place.passed c.args.cursors.now
    (omega (arith, c.loop-place.invariant.passed_is, c.loop-place-test.false)) in
    let e : c.extend_from_slice-2.new.self.items ≡ c.loop-place.out.items
    ++ flat_map bulk (take (length c.args.encoded_args.now - c.loop-place.done)
    (drop c.loop-place.done c.args.encoded_args.now)) = search rules in
    let count = length-map (interleaved 0 c.args.cursors.now c.args.encoded_args.now) (sent c.args.text.now)
    ∙ interleaved-counted 0 c.args.cursors.now c.args.encoded_args.now in
    e ∙ all_packed _ _ _ _ _ _ _ p none ∙ rw count (append_assoc c.args.out.now.items _ _)

pub returns-in_err-write_frame-clause-prefix : goal.returns-in_err-write_frame-clause-prefix
returns-in_err-write_frame-clause-prefix c =
    let p = c.loop-place.invariant.part in
    let start : List ℕ = c.args.out.now.items in
    let more : List ℕ = length_line 42 (length c.args.encoded_args.now + length c.args.cursors.now)
    ++ (p.written ++ c.range.result.now) in
    let middle : c.extend_from_slice.new.self.items ≡ start ++ more = c.in_ok-extend_from_slice.ensures.items
    ∙ ap (λ (bytes : List ℕ). bytes ++ c.range.result.now) p.out_is ∙ simp append_assoc refl in
    prefix_of_prefix start c.extend_from_slice.new.self.items c.write_frame.new.bytes.items more middle
    c.write_frame.ensures.prefix
