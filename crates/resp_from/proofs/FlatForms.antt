-- What a cursor in a flat reply shows.
use Rattle.std.proofs.Common.{◌≡◌, ℕ, true, List, [], ◌∷◌, Option, Some, None, IfSome, refl, sym, ◌∙◌, subst, ◌⊎◌}
use Rattle.std.proofs.Common.{inl, inr, Bor}
use Rattle.std.specs.Option.{option_copied}
use Rattle.std.specs.Prelude.{MatchOption}
use Rattle.std.specs.List.{All, AllZip}
use Rattle.std.specs.Str.{IsUtf8}
use Rattle.std.specs.Iterator.{YieldsFirstBy}
use Rattle.std.proofs.lemmas.List.Elements.{All-head, All-tail}
use Rattle.resp_value.specs.declared.value.Value.{Value, out-Value}
use Rattle.resp_value.specs.declared.value.Value.TheOpen.{Value-F}
use Rattle.resp_flat.specs.declared.token.TokenKind.{TokenKind}
use Rattle.resp_flat.specs.declared.token.TokenKind.TheVariants as kind
use Rattle.resp_flat.specs.declared.flat_value.FlatValue.{FlatValue}
use Rattle.resp_flat.specs.declared.flat_iter.FlatElements.{FlatElements}
use Rattle.resp_flat.specs.declared.flat_iter.FlatPairs.{FlatPairs}
use Rattle.resp_flat.specs.FlatValues.{View, IsShownIn, BothAreShownIn, bytes_in, kind_in, kind_of, leaf_bytes, view_of}
use Rattle.resp_flat.specs.FlatValues.{views_of, elements_left, pairs_left}
use Rattle.resp_flat.specs.Readable.{BothAre, IsReadableLayer, IsReadable}
use Rattle.resp_from.specs.Lines.{IsLine, is_list}
use Rattle.resp_from.specs.Replies.{GivesNext, BothShow, ShowsReadable, ShowReadable, PairsShowReadable}

-- ---- a line

simple-line : (P : Value → Type 0) (y : Value-F Value) (bytes : List ℕ) → IsReadableLayer P y
    → kind_in y ≡ kind.SimpleString → Some bytes ≡ bytes_in y → IsLine y bytes
simple-line P (Value-F.SimpleString text) bytes readable is same = let e : bytes ≡ text = cc in
    (subst IsUtf8 (sym e) readable, e)
simple-line P _ bytes readable is same = absurd (cc)

pub simple_line : (v : Value) (bytes : List ℕ) → IsReadable 1000 v → kind_of v ≡ kind.SimpleString
    → Some bytes ≡ leaf_bytes v → IsLine (out-Value v) bytes
unfolding IsReadable
simple_line v bytes readable is same = simple-line (IsReadable 999) (out-Value v) bytes readable is same

bulk-line : (y : Value-F Value) (bytes : List ℕ) → kind_in y ≡ kind.BulkString → Some bytes ≡ bytes_in y
    → IsLine y bytes
bulk-line (Value-F.BulkString body) bytes is same = cc
bulk-line _ bytes is same = absurd (cc)

pub bulk_line : (v : Value) (bytes : List ℕ) → kind_of v ≡ kind.BulkString → Some bytes ≡ leaf_bytes v
    → IsLine (out-Value v) bytes
bulk_line v bytes is same = bulk-line (out-Value v) bytes is same

pub line_shown : (v : Value) (r : Option (Bor (List ℕ))) (k : TokenKind) → IsReadable 1000 v → k ≡ kind_of v
    → (k ≡ kind.SimpleString) ⊎ (k ≡ kind.BulkString) → option_copied r ≡ leaf_bytes v
    → IfSome r (λ bytes. IsLine (out-Value v) bytes.now)
line_shown v None k readable is either same = tt
line_shown v (Some bytes) k readable is (inl simple) same = simple_line v bytes.now readable (sym is ∙ simple) same
line_shown v (Some bytes) k readable is (inr bulk) same = bulk_line v bytes.now (sym is ∙ bulk) same

-- ---- a list

array-list : (y : Value-F Value) → kind_in y ≡ kind.Array → is_list y ≡ true
array-list (Value-F.Array elements) is = refl
array-list _ is = absurd (cc)

set-list : (y : Value-F Value) → kind_in y ≡ kind.Set → is_list y ≡ true
set-list (Value-F.Set elements) is = refl
set-list _ is = absurd (cc)

pub list_shown : (v : Value) (k : TokenKind) → k ≡ kind_of v → (k ≡ kind.Array) ⊎ (k ≡ kind.Set)
    → is_list (out-Value v) ≡ true
list_shown v k is (inl array) = array-list (out-Value v) (sym is ∙ array)
list_shown v k is (inr set) = set-list (out-Value v) (sym is ∙ set)

-- ---- what comes next

views-next : (r : Option FlatValue) (new : FlatElements) (views : List View) (vs : List Value)
    → MatchOption r ((views ≡ []) × (elements_left new ≡ [])) (λ c. views ≡ view_of c ∷ elements_left new)
    → AllZip IsShownIn views vs → All (IsReadable 1000) vs → GivesNext ShowsReadable (ShowReadable new) r vs
views-next None new views [] yields shown readable = tt
views-next None new views (v ∷ vs) yields shown readable = absurd
    (subst (λ ws. AllZip IsShownIn ws (v ∷ vs)) yields.0 shown)
views-next (Some c) new views [] yields shown readable = absurd (subst (λ ws. AllZip IsShownIn ws []) yields shown)
views-next (Some c) new views (v ∷ vs) yields shown readable =
    let seen : AllZip IsShownIn (view_of c ∷ elements_left new) (v ∷ vs) = subst (λ ws. AllZip IsShownIn ws (v ∷ vs))
    yields shown in
    ((seen.0, All-head (IsReadable 1000) v vs readable), (seen.1, All-tail (IsReadable 1000) v vs readable))

pub element_next : (r : Option FlatValue) (old new : FlatElements) (vs : List Value)
    → YieldsFirstBy view_of elements_left old r new → ShowReadable old vs
    → GivesNext ShowsReadable (ShowReadable new) r vs
element_next None old new vs yields show = views-next None new (elements_left old) vs yields show.0 show.1
element_next (Some c) old new vs yields show = views-next (Some c) new (elements_left old) vs yields show.0 show.1

pairs-next : (r : Option (FlatValue × FlatValue)) (new : FlatPairs) (views : List (View × View))
    (ps : List (Value × Value)) → MatchOption r ((views ≡ []) × (pairs_left new ≡ []))
    (λ c. views ≡ views_of c ∷ pairs_left new)
    → AllZip BothAreShownIn views ps → All (BothAre (IsReadable 1000)) ps
    → GivesNext (BothShow ShowsReadable) (PairsShowReadable new) r ps
pairs-next None new views [] yields shown readable = tt
pairs-next None new views (p ∷ ps) yields shown readable = absurd
    (subst (λ ws. AllZip BothAreShownIn ws (p ∷ ps)) yields.0 shown)
pairs-next (Some c) new views [] yields shown readable = absurd (subst (λ ws. AllZip BothAreShownIn ws []) yields shown)
pairs-next (Some c) new views (p ∷ ps) yields shown readable =
    let seen : AllZip BothAreShownIn (views_of c ∷ pairs_left new) (p ∷ ps) = subst
    (λ ws. AllZip BothAreShownIn ws (p ∷ ps)) yields shown in
    let both = All-head (BothAre (IsReadable 1000)) p ps readable in
    (((seen.0.0, both.0), (seen.0.1, both.1)), (seen.1, All-tail (BothAre (IsReadable 1000)) p ps readable))

pub pair_next_of : (r : Option (FlatValue × FlatValue)) (old new : FlatPairs) (ps : List (Value × Value))
    → YieldsFirstBy views_of pairs_left old r new → PairsShowReadable old ps
    → GivesNext (BothShow ShowsReadable) (PairsShowReadable new) r ps
pair_next_of None old new ps yields show = pairs-next None new (pairs_left old) ps yields show.0 show.1
pair_next_of (Some c) old new ps yields show = pairs-next (Some c) new (pairs_left old) ps yields show.0 show.1
