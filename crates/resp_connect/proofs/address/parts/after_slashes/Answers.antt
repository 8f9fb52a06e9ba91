use Rattle.std.proofs.Common.{Some, None, sym, ap, ◌∙◌, arith, lit<, length, rules}
use Rattle.std.proofs.lemmas.Str.Pattern.{strip_prefix_char}
use Rattle.resp_connect.proofs.Slashes.{after_slash, no_slash}
use Rattle.resp_connect.proofs.address.parts.after_slashes.Goals as goal

pub loop-next-preserved : goal.loop-next-preserved
loop-next-preserved c =
    let rest = c.loop-next.rest.now in
    let begins = strip_prefix_char 47 rest (Some c.in-Some.next) c.in-Some.ensures.cases (lit< tt) in
    (search rules, after_slash rest c.in-Some.next.now begins ∙ c.loop-next.invariant.1)

pub loop-next-smaller : goal.loop-next-smaller
loop-next-smaller c =
    let begins = strip_prefix_char 47 c.loop-next.rest.now (Some c.in-Some.next) c.in-Some.ensures.cases (lit< tt) in
    omega (arith, ap length begins)

pub returns : goal.returns
returns c =
    let rest = c.loop-next.rest.now in
    let none = strip_prefix_char 47 rest None c.in_default.ensures.cases (lit< tt) in
    sym (no_slash rest none) ∙ c.loop-next.invariant.1
