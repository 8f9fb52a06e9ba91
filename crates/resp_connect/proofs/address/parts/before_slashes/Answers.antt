use Rattle.std.proofs.Common.{◌∷◌, [], Some, None, sym, ap, ◌∙◌, arith, lit<, length, length-append, rules}
use Rattle.std.proofs.lemmas.Str.Pattern.{strip_suffix_char}
use Rattle.resp_connect.proofs.Slashes.{before_slash, no_last_slash}
use Rattle.resp_connect.proofs.address.parts.before_slashes.Goals as goal

pub loop-next-preserved : goal.loop-next-preserved
loop-next-preserved c =
    let rest = c.loop-next.rest.now in
    let ends = strip_suffix_char 47 rest (Some c.in-Some.next) c.in-Some.ensures.cases (lit< tt) in
    (search rules, before_slash rest c.in-Some.next.now ends ∙ c.loop-next.invariant.1)

pub loop-next-smaller : goal.loop-next-smaller
loop-next-smaller c =
    let ends = strip_suffix_char 47 c.loop-next.rest.now (Some c.in-Some.next) c.in-Some.ensures.cases (lit< tt) in
    omega (arith, ap length ends, length-append c.in-Some.next.now (47 ∷ []))

pub returns : goal.returns
returns c =
    let rest = c.loop-next.rest.now in
    let none = strip_suffix_char 47 rest None c.in_default.ensures.cases (lit< tt) in
    sym (no_last_slash rest none) ∙ c.loop-next.invariant.1
