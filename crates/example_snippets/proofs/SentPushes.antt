-- Pushes that are sent one after another.
use Rattle.std.proofs.Common.{◌≡◌, ℕ, List, [], ◌∷◌, ◌++◌, Option, Some, None, refl, sym, ap, ◌∙◌, append_assoc}
use Rattle.std.proofs.Common.{append-nil, inl, inr}
use Rattle.std.specs.Fmt.{◌++?◌}
use Rattle.resp_encode.specs.Encodings.{RefusesValue}
use Rattle.resp_core.specs.declared.RedisError.{RedisError}
use Rattle.resp_core.specs.declared.ProtocolVersion.TheVariants.{RESP3}
use Rattle.resp_value.specs.declared.value.Value.{Push}
use Rattle.resp_value.specs.declared.value.PushInfo.{PushInfo}
use Rattle.example_snippets.specs.Relayed.{sent_for, sent_for_each}

grouped : (t u : Option (List ℕ)) (b c : List ℕ) → (Some b ++? t) ≡ Some c → (Some b ++? (t ++? u)) ≡ (Some c ++? u)
grouped (Some x) (Some y) b c h = let z : b ++ x ≡ c = cc in
    ap (λ s. Some s) (sym (append_assoc b x y) ∙ ap (λ s. s ++ y) z)
grouped (Some x) None b c h = refl
grouped None u b c h = absurd (cc)

-- no push was sent yet
pub none_sent : (all : List PushInfo) → (Some [] ++? sent_for_each all) ≡ sent_for_each all
none_sent all = before (sent_for_each all)
  where
    before : (t : Option (List ℕ)) → (Some [] ++? t) ≡ t
    before (Some x) = refl
    before None = refl

-- the next push was sent
pub one_more : (p : PushInfo) (left now all : List PushInfo) (before after : List ℕ) → left ≡ p ∷ now
    → (Some before ++? sent_for_each left) ≡ sent_for_each all
    → (Some before ++? sent_for RESP3 (Push p.kind p.payload)) ≡ Some after → (Some after ++? sent_for_each now)
    ≡ sent_for_each all
one_more p left now all before after e h k =
    sym (grouped (sent_for RESP3 (Push p.kind p.payload)) (sent_for_each now) before after k)
    ∙ ap (λ ps. Some before ++? sent_for_each ps) (sym e) ∙ h

-- all were sent
pub all_sent : (left all : List PushInfo) (bytes : List ℕ) → left ≡ [] → (Some bytes ++? sent_for_each left)
    ≡ sent_for_each all → sent_for_each all ≡ Some bytes
all_sent left all bytes e h =
    sym h ∙ (ap (λ ps. Some bytes ++? sent_for_each ps) e ∙ ap (λ s. Some s) (append-nil bytes))

-- the next push isn't sent
pub not_sent : (p : PushInfo) (left now all : List PushInfo) (before : List ℕ) (error : RedisError) → left ≡ p ∷ now
    → (Some before ++? sent_for_each left) ≡ sent_for_each all
    → RefusesValue (sent_for RESP3 (Push p.kind p.payload)) error → RefusesValue (sent_for_each all) error
not_sent p left now all before error e h (inl m) = inl m
not_sent p left now all before error e h (inr r) =
    inr (
      sym h ∙ (ap (λ ps. Some before ++? sent_for_each ps) e ∙ ap (λ t. Some before ++? (t ++? sent_for_each now))
          r.0),
      r.1,
    )

pub ruleset sending = (none_sent, one_more, all_sent, not_sent)
