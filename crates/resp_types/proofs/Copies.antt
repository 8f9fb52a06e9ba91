-- Entries that are copied one after another, in the order of their keys.
use Rattle.std.proofs.Common.{◌≡◌, List, [], ◌∷◌, ◌++◌, String, Global, string_bytes, string_cmp, refl, sym, ap, subst}
use Rattle.std.proofs.Common.{◌∙◌, append-nil, append_assoc}
use Rattle.std.specs.declared.cmp.Ordering.TheVariants.{Less, Greater}
use Rattle.std.specs.BTreeMap.{insert_entry}
use Rattle.std.specs.Cmp.Lexicographic.{slice_cmp}
use Rattle.std.specs.List.{AllZip, AllByRecursion}
use Rattle.std.specs.List.Sorted.{IsStrictlySortedBy}
use Rattle.std.specs.Map.{keys_of}
use Rattle.std.specs.Ordering.{match_ordering, ordering_reverse, nat_cmp}
use Rattle.std.specs.String.{string_cmp_total}
use Rattle.resp_value.specs.declared.value.Value.{Value}
use Rattle.resp_from.proofs.Conversions.{AllZip-more}
use Rattle.resp_types.specs.Info.{SameEntry}

abbrev Entry : Type 0
Entry = String Global × Value

-- the key stands after those of the entries
abbrev IsPast : String Global → List Entry → Type 0
IsPast key [] = Unit {0}
IsPast key (e ∷ es) = (string_cmp key e.0 ≡ Greater) × IsPast key es

-- an entry whose key stands after all others comes last
appended : (es : List Entry) (key : String Global) (value : Value) → IsPast key es
    → insert_entry string_cmp es key value ≡ es ++ (key, value) ∷ []
appended [] key value h = refl
appended (e ∷ es) key value h =
    ap (λ o. match_ordering o ((key, value) ∷ e ∷ es) ((e.0, value) ∷ es) (e ∷ insert_entry string_cmp es key value))
    h.0
    ∙ ap (λ more. e ∷ more) (appended es key value h.1)

-- keys that ascend are below one that stands after them
below : (P : String Global → Type 0) (done rest : List Entry) (key : String Global) (value : Value)
    → AllByRecursion P (keys_of (done ++ (key, value) ∷ rest)) → P key
below P [] rest key value h = h.0
below P (d ∷ done) rest key value h = below P done rest key value h.1

past : (done rest copies : List Entry) (key : String Global) (value : Value) (copied : String Global)
    → IsStrictlySortedBy string_cmp (keys_of (done ++ (key, value) ∷ rest))
    → AllZip SameEntry done copies → string_bytes copied ≡ string_bytes key → IsPast copied copies
unfolding IsStrictlySortedBy
past [] rest [] key value copied s z e = tt
past [] rest (c ∷ copies) key value copied s z e = absurd z
past (d ∷ done) rest [] key value copied s z e = absurd z
past (d ∷ done) rest (c ∷ copies) key value copied s z e =
    let first : string_cmp d.0 key ≡ Less = below (λ k. string_cmp d.0 k ≡ Less) done rest key value s.0 in
    let less : string_cmp c.0 copied ≡ Less = (λ i. slice_cmp nat_cmp (z.0.0 i) (e i)) ∙ first in (
      string_cmp_total.antisymm copied c.0 ∙ ap ordering_reverse less,
      past done rest copies key value copied s.1 z.1 e,
    )

-- what was copied of all entries while the rest is still to come
pub record Copied (all rest copies : List Entry) : Type 0 where
  pub done : List Entry
  pub split : all ≡ done ++ rest
  pub same : AllZip SameEntry done copies
  pub ordered : IsStrictlySortedBy string_cmp (keys_of all)

pub none_copied : (all rest copies : List Entry) → rest ≡ all → copies ≡ []
    → IsStrictlySortedBy string_cmp (keys_of all) → Copied all rest copies
none_copied all rest copies e none o = record {
  done = [];
  split = sym e;
  same = subst (AllZip SameEntry []) (sym none) tt;
  ordered = o;
}

pub one_copied : (all rest after copies new : List Entry) (key : String Global) (value : Value)
    (copied : String Global) (copy : Value) → Copied all rest copies
    → rest ≡ (key, value) ∷ after → new ≡ insert_entry string_cmp copies copied copy
    → string_bytes copied ≡ string_bytes key → copy ≡ value → Copied all after new
one_copied all rest after copies new key value copied copy h e put k v =
    let whole : all ≡ h.done ++ (key, value) ∷ after = h.split ∙ ap (λ end. h.done ++ end) e in
    let sorted = subst (λ es. IsStrictlySortedBy string_cmp (keys_of es)) whole h.ordered in
    let last = put ∙ appended copies copied copy (past h.done after copies key value copied sorted h.same k) in
    record {
      done = h.done ++ (key, value) ∷ [];
      split = whole ∙ sym (append_assoc h.done ((key, value) ∷ []) after);
      same = subst (AllZip SameEntry (h.done ++ (key, value) ∷ [])) (sym last)
          (AllZip-more SameEntry h.done copies (key, value) (copied, copy) h.same (k, v));
      ordered = h.ordered;
    }

pub all_copied : (all rest copies : List Entry) → Copied all rest copies → rest ≡ []
    → AllZip SameEntry all copies
all_copied all rest copies h e =
    subst (λ es. AllZip SameEntry es copies)
    (sym (h.split ∙ (ap (λ end. h.done ++ end) e ∙ append-nil h.done))) h.same
