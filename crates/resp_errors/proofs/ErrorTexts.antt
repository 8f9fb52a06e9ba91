-- The code and the detail of an error that was read join to its text.
use Rattle.std.proofs.Common.{◌≡◌, ℕ, ◌<◌, ◌==◌, Bool, true, false, not, cond, List, ◌∷◌, ◌++◌, length, refl, sym, ap}
use Rattle.std.proofs.Common.{◌∙◌, Option, None, Some, append-nil, bytes_eq, IfSome, eqb-true, arith}
use Rattle.std.specs.List.{position_or_len, before_first, after_first}
use Rattle.std.proofs.lemmas.List.Sums.{split_at_first, passes_at_first, prefix_len-le-length}
use Rattle.std.proofs.lemmas.Bool.Decides.{nat_tests}
use Rattle.std.proofs.lemmas.Slice.Eq.{bytes_eq-Decides}
use Rattle.resp_errors.specs.declared.kinds.ServerErrorKind.{ServerErrorKind}
use Rattle.resp_errors.specs.declared.kinds.ServerErrorKind.TheVariants as kind
use Rattle.resp_errors.specs.declared.server_error.ServerError.TheVariants.{Known, Extension}
use Rattle.resp_errors.specs.ServerErrors.{code_of_kind, kind_of_code, error_with, is_space, server_error, after_code}
use Rattle.resp_errors.specs.ServerErrors.{text_of}

-- the kind, if there is one, has this code
abbrev HasCode : List ℕ → Option ServerErrorKind → Type 0
HasCode code known = IfSome known (λ k. code_of_kind k ≡ code)

or_else : (code : List ℕ) (k : ServerErrorKind) (others : Option ServerErrorKind) → HasCode code others
    → HasCode code (cond (bytes_eq code (code_of_kind k)) (Some k) others)
or_else code k others h = by (bytes_eq code (code_of_kind k)) (λ e. sym ((bytes_eq-Decides code (code_of_kind k)).0 e))
  where
    by : (b : Bool) → (b ≡ true → code_of_kind k ≡ code) → HasCode code (cond b (Some k) others)
    by true same = same refl
    by false same = h

known : (code : List ℕ) → HasCode code (kind_of_code code)
unfolding kind_of_code
known code =
    or_else code kind.ResponseError _ (or_else code kind.ExecAbort _ (or_else code kind.BusyLoading _
    (or_else code kind.NoScript _ (or_else code kind.Moved _ (or_else code kind.Ask _
    (or_else code kind.TryAgain _ (or_else code kind.ClusterDown _ (or_else code kind.CrossSlot _
    (or_else code kind.MasterDown _ (or_else code kind.ReadOnly _ (or_else code kind.NotBusy _
    (or_else code kind.NoSub _ (or_else code kind.NoPerm None tt)))))))))))))

text_with : (code : List ℕ) (detail : Option (List ℕ)) → text_of (error_with code detail) ≡ code ++ after_code detail
text_with code detail = by (kind_of_code code) (known code)
  where
    by : (k : Option ServerErrorKind) → HasCode code k
        → text_of (elim k [ Some kind ↦ Known kind detail | None ↦ Extension code detail ]) ≡ code ++ after_code detail
    by (Some k) h = ap (λ code. code ++ after_code detail) h
    by None h = refl

below : (text : List ℕ) → (position_or_len is_space text == length text) ≡ false
    → position_or_len is_space text < length text
below text e =
    let most = prefix_len-le-length (λ byte. not (is_space byte)) text in
    grind (arith, nat_tests, most, e)

pub joined : (text : List ℕ) → text_of (server_error text) ≡ text
unfolding server_error
joined text = by (position_or_len is_space text == length text) refl
  where
    by : (b : Bool) → (position_or_len is_space text == length text) ≡ b
        → text_of (cond b (error_with text None) (error_with (before_first is_space text) (Some (after_first is_space
        text)))) ≡ text
    by true e = text_with text None ∙ append-nil text
    by false e =
        let inside = below text e in
        let space = eqb-true _ _ (passes_at_first is_space text 0 inside) in
        text_with (before_first is_space text) (Some (after_first is_space text))
        ∙ ap (λ byte. before_first is_space text ++ (byte ∷ after_first is_space text)) (sym space)
        ∙ sym (split_at_first is_space text 0 inside)
