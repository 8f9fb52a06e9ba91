use Rattle.std.proofs.Common.{◌≡◌, ◌+◌, ◌-◌, ◌∷◌, [], ◌++◌, length, take, drop, ap, ◌∙◌, arith, rules, length-append}
use Rattle.std.proofs.Common.{length-drop}
use Rattle.std.proofs.lemmas.Grind.{common_steps}
use Rattle.std.specs.Prelude.{decimal, vec_len, slice_range}
use Rattle.resp_command.proofs.LongerFrame.{grown}
use Rattle.resp_command.proofs.framing.extend_frame.Goals as goal

pub returns-clause-items : goal.returns-clause-items
returns-clause-items c =
    let k : c.args.start + (c.args.from - 2 - c.args.start) ≡ c.args.from - 2 = omega (arith, c.requires.place.0) in
    let now : c.replace_length.new.bytes.items ≡ take c.args.start c.args.bytes.now.items
    ++ (decimal ((vec_len c.args.bytes.now - 2) - c.args.from + length c.args.more.now)
    ++ drop (c.args.from - 2) c.args.bytes.now.items) = rw (← k) (search rules) in
    let m : vec_len c.args.bytes.now ≡ length c.args.bytes.now.items = search rules in
    let n : vec_len c.replace_length.new.bytes ≡ length c.replace_length.new.bytes.items = search rules in
    let len : length c.replace_length.new.bytes.items
    ≡ length (take c.args.start c.args.bytes.now.items
    ++ (decimal ((vec_len c.args.bytes.now - 2) - c.args.from + length c.args.more.now)
    ++ drop (c.args.from - 2) c.args.bytes.now.items)) = ap length now in
    let all : c.extend_from_slice-2.new.self.items
    ≡ (take (vec_len c.replace_length.new.bytes - 2) c.replace_length.new.bytes.items ++ c.args.more.now)
    ++ (13 ∷ 10 ∷ []) = search rules in
    let done : c.extend_from_slice-2.new.self.items ≡ take c.args.start c.args.bytes.now.items
    ++ (decimal ((vec_len c.args.bytes.now - 2) - c.args.from + length c.args.more.now)
    ++ (slice_range c.args.bytes.now.items (c.args.from - 2) (length c.args.bytes.now.items - 2)
    ++ (c.args.more.now ++ 13 ∷ 10 ∷ []))) =
    (all ∙ grown c.args.bytes.now.items _ c.args.more.now _ c.args.start (c.args.from - 2) _ (omega arith)
    (omega (arith, m)) now (omega (
      arith,
      n,
      len,
      length-append (take c.args.start c.args.bytes.now.items)
          (decimal ((vec_len c.args.bytes.now - 2) - c.args.from + length c.args.more.now)
          ++ drop (c.args.from - 2) c.args.bytes.now.items),
      length-append (decimal ((vec_len c.args.bytes.now - 2) - c.args.from + length c.args.more.now))
          (drop (c.args.from - 2) c.args.bytes.now.items),
      length-drop (c.args.from - 2) c.args.bytes.now.items,
      m,
    ))) in
    rw (← m) (rw (← m) at done)

pub returns-in_err-extend_from_slice-clause-items : goal.returns-in_err-extend_from_slice-clause-items
returns-in_err-extend_from_slice-clause-items c = grind (arith, common_steps)

pub returns-in_err-extend_from_slice-2-clause-items : goal.returns-in_err-extend_from_slice-2-clause-items
returns-in_err-extend_from_slice-2-clause-items c = grind (arith, common_steps)
