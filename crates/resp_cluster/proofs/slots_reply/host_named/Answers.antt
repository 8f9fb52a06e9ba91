use Rattle.std.proofs.Common.{◌≡◌, ℕ, ◌==◌, Bool, List, length, true, false, Ok, Err, Some, codes, refl, sym}
use Rattle.std.proofs.lemmas.Str.{is_utf8-from_IsUtf8, IsUtf8-from_is_utf8}
use Rattle.std.specs.Str.{IsUtf8, is_utf8, bytes_eq}
use Rattle.resp_cluster.specs.Replies.{host_named}
use Rattle.resp_cluster.specs.declared.node.TopologyError.TheVariants.{BadNode}
use Rattle.resp_cluster.proofs.slots_reply.host_named.Goals as goal

not_utf8 : (text : List ℕ) → (IsUtf8 text → ⊥) → is_utf8 text ≡ false
not_utf8 text not = of_test (is_utf8 text) refl
  where
    of_test : (test : Bool) → is_utf8 text ≡ test → is_utf8 text ≡ false
    of_test true is = absurd (not (IsUtf8-from_is_utf8 text is))
    of_test false is = is

named : (asked text mark host : List ℕ) → false ≡ (length text == 0) → false ≡ bytes_eq text mark → mark ≡ codes "?"
    → IsUtf8 text → host ≡ text → host_named asked text ≡ Ok (Some host)
named asked text mark host some other is utf8 same =
    let differs : bytes_eq text (codes "?") ≡ false = rw is at (sym other) in
    rw (sym some, differs, is_utf8-from_IsUtf8 text utf8, same) refl

unnamed : (asked text mark : List ℕ) → false ≡ (length text == 0) → false ≡ bytes_eq text mark → mark ≡ codes "?"
    → (IsUtf8 text → ⊥) → host_named asked text ≡ Err BadNode
unnamed asked text mark some other is not =
    let differs : bytes_eq text (codes "?") ≡ false = rw is at (sym other) in
    rw (sym some, differs, not_utf8 text not) refl

pub returns-in-Ok : goal.returns-in-Ok
returns-in-Ok c =
    named _ _ _ _ c.if-is_empty.ensures c.if-eq.ensures c.as_slice.ensures c.in-Ok.ensures.cases.1 c.in-Ok.ensures.cases.0

pub returns-in-Err : goal.returns-in-Err
returns-in-Err c =
    unnamed _ _ _ c.if-is_empty.ensures c.if-eq.ensures c.as_slice.ensures c.in-Err.ensures.cases.0
