-- What makes a value readable: its elements, and names that are read as what they name.
use Rattle.std.proofs.Common.{◌≡◌, ℕ, zero, suc, ◌==◌, false, List, [], ◌∷◌, length, sym, ap, subst, ◌∙◌, arith}
use Rattle.std.specs.List.{All, position_or_len, before_first, after_first}
use Rattle.std.specs.Str.{IsUtf8}
use Rattle.resp_value.specs.declared.value.Value.{Value}
use Rattle.resp_value.specs.Views.{pairs}
use Rattle.resp_value.specs.Names.{kind_named, format_named}
use Rattle.resp_errors.specs.ServerErrors.{server_error}
use Rattle.resp_errors.proofs.ErrorTexts as error_texts
use Rattle.resp_flat.specs.Reading.{is_colon}
use Rattle.resp_flat.specs.Readable.{HasOwnText, HasOwnName, HasOwnFormat, BothAre}
use Rattle.resp_flat.proofs.ReadsOnly.{name-kind_named, name-format_named, text-joined}

-- ---- elements

abbrev pub Each : (Value → Type 0) → List Value → Type 0
Each P [] = Unit {0}
Each P (v ∷ vs) = P v × Each P vs

pub all-each : (P : Value → Type 0) (vs : List Value) → Each P vs → All P vs
all-each P [] h k v below = absurd (omega arith)
all-each P (w ∷ vs) h zero v below = h.0
all-each P (w ∷ vs) h (suc k) v below = all-each P vs h.1 k v (omega arith)

pub all-pairs : (P : Value → Type 0) (vs : List Value) → Each P vs → All (BothAre P) (pairs vs)
all-pairs P [] h k p below = absurd (omega arith)
all-pairs P (key ∷ []) h k p below = absurd (omega arith)
all-pairs P (key ∷ value ∷ vs) h zero p below = (h.0, h.1.0)
all-pairs P (key ∷ value ∷ vs) h (suc k) p below = all-pairs P vs h.1.1 k p (omega arith)

-- ---- names

pub own-text : (text : List ℕ) → IsUtf8 text → HasOwnText (server_error text)
own-text text u = record {
  utf8 = subst IsUtf8 (sym (error_texts.joined text)) u;
  own = ap server_error (error_texts.joined text);
}

pub own-name : (name : List ℕ) → IsUtf8 name → HasOwnName (kind_named name)
own-name name u = record
    { utf8 = subst IsUtf8 (sym (name-kind_named name)) u; own = ap kind_named (name-kind_named name) }

pub own-format : (u : List ℕ) → IsUtf8 u → (position_or_len is_colon u == length u) ≡ false
    → HasOwnFormat (format_named (before_first is_colon u)) (after_first is_colon u)
own-format u utf8 is =
    let name = before_first is_colon u in
    let whole = text-joined u is in record {
      utf8 = subst IsUtf8 (sym whole) utf8;
      cut = ap (λ (x : List ℕ). before_first is_colon x) whole ∙ sym (name-format_named name);
      own = ap format_named (name-format_named name);
    }
