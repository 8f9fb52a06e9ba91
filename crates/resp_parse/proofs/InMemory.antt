-- The tokens of a flat reply in progress were paid for by bytes.
use Rattle.std.proofs.Common.{ℕ, ◌*◌, ◌≤◌, List, [], ◌∷◌, length, map, ap, ◌∙◌, arith}
use Rattle.std.proofs.lemmas.List.{length-append, append-nil}
use Rattle.resp_flat.specs.declared.flat_reply.FlatReply.{FlatReply}
use Rattle.resp_flat.specs.FlatReplies.{placed, joined, tokens_of}
use Rattle.resp_parse.specs.declared.open_aggregates.OpenAggregate.{OpenAggregate}
use Rattle.resp_parse.specs.FlatBuilders.{opening, tokens_in, HoldsFlat, IsPaidFor}
use Rattle.resp_parse.specs.Costs.{aggregates_least_bytes}
use Rattle.resp_parse.proofs.FlatTokens.{placed-length}
use Rattle.resp_parse.proofs.TokenCounts.{elements-tokens}

tokens-few : (fs : List OpenAggregate) → 3 * length (tokens_in fs) ≤ 2 * aggregates_least_bytes fs
tokens-few [] = omega arith
tokens-few (f ∷ fs) =
    let e = length-append (tokens_in fs) (opening f ∷ joined (map tokens_of f.seen)) in
    omega (arith, e, tokens-few fs, elements-tokens f.seen)

pub flat-paid : (reply : FlatReply) (opens : List ℕ) (fs : List OpenAggregate) (x : List ℕ)
    → HoldsFlat reply opens fs [] x → IsPaidFor reply fs
flat-paid reply opens fs x h =
    let e = ap length (h.tokens ∙ ap (placed 0) (append-nil (tokens_in fs))) ∙ placed-length 0 (tokens_in fs) in
    omega (arith, e, tokens-few fs)
