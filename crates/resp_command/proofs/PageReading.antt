-- A page, read by its parts.
use Rattle.std.proofs.Common.{◌≡◌, ◌≢◌, ℕ, length, true, false, List, [], ◌∷◌, Vec, Global, refl, sym, arith, subst}
use Rattle.std.proofs.Common.{Option, Some, None, Result, Ok, Err, MatchResult}
use Rattle.std.proofs.lemmas.Grind.{common_steps}
use Rattle.std.specs.Result.{result_ok}
use Rattle.std.specs.List.{AllZip}
use Rattle.resp_errors.specs.declared.parsing_error.ParsingError.{ParsingError}
use Rattle.resp_errors.specs.declared.parsing_error.ParsingError.TheVariants as parsing
use Rattle.resp_value.specs.declared.value.Value.{Value, BulkString, out-Value}
use Rattle.resp_value.specs.declared.value.Value.TheOpen.{Value-F}
use Rattle.resp_from.specs.Attributes.{stripped}
use Rattle.resp_from.specs.Conversion.{RefusesIf}
use Rattle.resp_from.specs.Integers.{OfInteger, UnsignedNumber, UnsignedText}
use Rattle.resp_from.specs.Lists.{IsVec, single_maps}
use Rattle.resp_from.specs.Tuples.{First, NoMore, in_turn, of_length, values_of_width}
use Rattle.resp_command.specs.PageParts.{HasParts, OfItems, is_list_like}
use Rattle.resp_command.specs.ScanReplies.{IsListOf, ReadsPage}
use Rattle.resp_command.specs.declared.pages.Page.{Page}

abbrev Same : Value → Value → Type 0
Same item v = v ≡ item

same_each : (items : List Value) → AllZip Same items items
same_each [] = tt
same_each (item ∷ items) = (refl, same_each items)

-- a reply that is like a list is one
listed : (layer : Value-F Value) → is_list_like layer ≡ true → (items : List Value) × IsVec 0 false Same layer items
listed (Value-F.Array items) h = (items, record { pieces = items; cut = refl; each = same_each items })
listed (Value-F.Set items) h = (items, record { pieces = items; cut = refl; each = same_each items })
listed (Value-F.Map pairs) h = (single_maps pairs, same_each (single_maps pairs))
listed (Value-F.BulkString bytes) h = (BulkString bytes ∷ [], same_each (BulkString bytes ∷ []))
listed Value-F.Nil h = ([], refl)
listed _ h = absurd (let f = h in cc)

like_list : (layer : Value-F Value) (items : List Value) → IsVec 0 false Same layer items → is_list_like layer ≡ true
like_list (Value-F.Array xs) items h = refl
like_list (Value-F.Set xs) items h = refl
like_list (Value-F.Map pairs) items h = refl
like_list (Value-F.BulkString bytes) items h = refl
like_list Value-F.Nil items h = refl
like_list _ items h = absurd h

pub list_has_items : (list : Value) → is_list_like (out-Value list) ≡ true → (items : List Value) × IsListOf list items
list_has_items list h = listed (out-Value list) h

-- so only want of memory keeps its items from being had
pub only_memory : (list : Value) → is_list_like (out-Value list) ≡ true → (e : ParsingError)
    → RefusesIf e ((items : List Value) → IsListOf list items → ⊥) → e ≡ parsing.OutOfMemory
only_memory list h (parsing.Described text) none = let some = list_has_items list h in absurd (none some.0 some.1)
only_memory list h (parsing.Fault fault) none = absurd none
only_memory list h parsing.OutOfMemory none = refl

-- ---- the two values of a page

abbrev Cursor : Value → ℕ → Type 0
Cursor v cursor = OfInteger (UnsignedNumber 64) (UnsignedText 64) v cursor

abbrev Are : Option (List Value) → (List Value → Type 0) → Type 0
Are found Fits = elim found [ Some values ↦ Fits values | None ↦ ⊥ ]

page_of : (found : Option (List Value)) (cursor : ℕ) (list : Value) (items : List Value)
    → Are found (First Cursor cursor (First (λ v l. v ≡ l) list NoMore)) → IsListOf list items
    → Are found (First Cursor cursor (First IsListOf items NoMore))
page_of None cursor list items h l = h
page_of (Some []) cursor list items h l = h
page_of (Some (a ∷ [])) cursor list items h l = h
page_of (Some (a ∷ b ∷ more)) cursor list items h l = (h.0, (subst (λ v. IsListOf v items) (sym h.1.0) l, h.1.1))

parts_of : (found : Option (List Value)) (cursor : ℕ) (items : List Value)
    → Are found (First Cursor cursor (First IsListOf items NoMore)) → (list : Value) × IsListOf list items
    × Are found (First Cursor cursor (First (λ v l. v ≡ l) list NoMore))
parts_of None cursor items h = absurd h
parts_of (Some []) cursor items h = absurd h
parts_of (Some (a ∷ [])) cursor items h = absurd h.1
parts_of (Some (a ∷ b ∷ more)) cursor items h = (b, h.1.0, (h.0, (refl, h.1.1)))

of_length_other : (n : ℕ) (values : List Value) → length values ≢ n → of_length n values ≡ None
of_length_other n values h = grind (arith, common_steps)

-- a map of another number of pairs than one holds other than two values
pub in_turn_other : (pairs : List (Value × Value)) → length pairs ≢ 1 → of_length 2 (in_turn pairs) ≡ None
in_turn_other [] h = refl
in_turn_other (p ∷ []) h = absurd (h refl)
in_turn_other (p ∷ q ∷ pairs) h = of_length_other 2 (in_turn (p ∷ q ∷ pairs)) (λ e. absurd (omega (arith, e)))

module _ {X : Type 0} (n : ℕ) (Of : Value → X → Type 0) (reply : Value) where
  pub page_read : (cursor : ℕ) (list : Value) (r : Result (Vec (Result X ParsingError) Global) ParsingError)
      (results : Option (Vec (Result X ParsingError) Global)) → HasParts reply cursor list
      → MatchResult r (λ v. OfItems n Of list v.items) (λ e. e ≡ parsing.OutOfMemory) → results ≡ result_ok r
      → ReadsPage n Of reply (record { cursor = cursor; results = results })
  page_read cursor list (Ok v) results h m e = record {
    items = m.items;
    page = page_of (values_of_width 2 (out-Value (stripped reply))) cursor list m.items h.values m.listed;
    results = rw e m.each;
  }
  page_read cursor list (Err x) results h m e =
      let some = list_has_items list h.listed in
      record {
        items = some.0;
        page = page_of (values_of_width 2 (out-Value (stripped reply))) cursor list some.0 h.values some.1;
        results = rw e tt;
      }

  pub no_page : ((r : ℕ × Value) → HasParts reply r.0 r.1 → ⊥) → (page : Page X) → ReadsPage n Of reply page → ⊥
  no_page none page h =
      let parts = parts_of (values_of_width 2 (out-Value (stripped reply))) page.cursor h.items h.page in
      none (page.cursor, parts.0) (record {
        values = parts.2;
        listed = like_list (out-Value parts.0) h.items parts.1;
      })
