-- A header that isn't a bulk string's announces other bulk string.
use Rattle.std.proofs.Common.{◌≡◌, ◌≢◌, ℕ, zero, suc, ◌+◌, ◌*◌, Bool, true, false, cond, List, [], ◌∷◌, ◌++◌, ◌==◌, refl, ap, sym, ◌∙◌}
use Rattle.std.proofs.Common.{ℤ, pos, negsuc, Option, None, Some, Result, Ok, Err, length}
use Rattle.std.specs.Str.{trim}
use Rattle.std.specs.List.{position_or_len}
use Rattle.resp_value.specs.declared.value.Value.{Value, BulkString, Okay, SimpleString, Double, Int}
use Rattle.resp_value.specs.declared.value.Value.{Array, Boolean, Map, Set}
use Rattle.resp_value.specs.Views.{pairs}
use Rattle.resp_errors.specs.declared.kinds.FrameFault.{FrameFault}
use Rattle.resp_errors.specs.declared.kinds.FrameFault.TheVariants.{NotDouble, NotBoolean}
use Rattle.resp_containers.specs.Lossy.{lossy}
use Rattle.resp_value.specs.declared.names.PushKind.{PushKind}
use Rattle.resp_parse.specs.declared.type_byte.TypeByte.{TypeByte}
use Rattle.resp_parse.specs.declared.type_byte.TypeByte.TheVariants as type_byte
use Rattle.resp_parse.specs.TypeBytes.{byte_of}
use Rattle.resp_parse.specs.Number.{integer_in, length_in}
use Rattle.resp_parse.specs.Double.{double_in, is_double}
use Rattle.resp_parse.specs.Grammar.{Announcement, complete, body, elements, invalid, announced, with_valid, or_nil}
use Rattle.resp_parse.specs.Grammar.{or_empty_push, boolean_in, verbatim, push, push_kind, Follows}
use Rattle.resp_parse.specs.Grammar.{is_colon, Spelled, WellFormed, bulk_error, attribute}
use Rattle.resp_parse.specs.BulkBodies.{BeginsOther}

abbrev IsOther : Value → Type 0
IsOther v = (x : List ℕ) → v ≢ BulkString x

-- what is announced makes other bulk string
abbrev MakesOther : Announcement → Type 0
MakesOther (complete w) = IsOther w
MakesOther (body n make) = (x : List ℕ) (v : Value) → make x ≡ Ok v → IsOther v
MakesOther (elements n make) = (vs : List Value) (v : Value) → make vs ≡ Ok v → IsOther v
MakesOther (invalid f) = Unit {0}

follows-other : (P : List ℕ → Value → Type 0) (a : Announcement) (rest : List ℕ) (v : Value) → MakesOther a
    → Follows P a rest v → IsOther v
follows-other P (complete w) rest v m (e, f) = λ x k. m x (sym f ∙ k)
follows-other P (body n make) rest v m h = m h.content v h.makes
follows-other P (elements n make) rest v m h = m h.values v h.makes
follows-other P (invalid f) rest v m h = absurd h

with_valid-other : {A : Type 0} (r : Result A FrameFault) (follows : A → Announcement)
    → ((x : A) → r ≡ Ok x → MakesOther (follows x)) → MakesOther (with_valid r follows)
with_valid-other (Ok x) follows m = m x refl
with_valid-other (Err f) follows m = tt

or_nil-other : (follows : ℕ → Announcement) → ((n : ℕ) → MakesOther (follows n)) → (z : ℤ) → MakesOther (or_nil follows z)
or_nil-other follows m (pos n) = m n
or_nil-other follows m (negsuc n) = λ x k. cc

or_empty_push-other : (follows : ℕ → Announcement) → ((n : ℕ) → MakesOther (follows n)) → (z : ℤ)
    → MakesOther (or_empty_push follows z)
or_empty_push-other follows m (pos zero) = λ x k. cc
or_empty_push-other follows m (pos (suc n)) = m (suc n)
or_empty_push-other follows m (negsuc n) = λ x k. cc

simple-other : (t : Bool) (text : List ℕ) → IsOther (cond t Okay (SimpleString text))
simple-other true text = λ x k. cc
simple-other false text = λ x k. cc

checked-other : (t : Bool) (v w : Value) (f : FrameFault) → IsOther v → cond t (Ok v) (Err f) ≡ Ok w → IsOther w
checked-other true v w f m e = λ x k. m x (let i : v ≡ w = cc in i ∙ k)
checked-other false v w f m e = λ x k. cc

double-other : (text : List ℕ) (w : Value) → double_in text ≡ Ok w → IsOther w
unfolding double_in
double-other text w e = checked-other (is_double (trim text)) (Double (trim text)) w NotDouble (λ x k. cc) e

boolean-other : (a b : Bool) (u v w : Value) (f : FrameFault) → IsOther u → IsOther v
    → cond a (Ok u) (cond b (Ok v) (Err f)) ≡ Ok w → IsOther w
boolean-other true b u v w f m n e = λ x k. m x (let i : u ≡ w = cc in i ∙ k)
boolean-other false b u v w f m n e = checked-other b v w f n e

refused-other : (t : Bool) (v w : Value) (f : FrameFault) → IsOther v → cond t (Err f) (Ok v) ≡ Ok w → IsOther w
refused-other true v w f m e = λ x k. cc
refused-other false v w f m e = λ x k. m x (let i : v ≡ w = cc in i ∙ k)

verbatim-other : (x : List ℕ) (w : Value) → verbatim x ≡ Ok w → IsOther w
verbatim-other x w e = refused-other (position_or_len is_colon (lossy x) == length (lossy x)) _ w _ (λ y k. cc) e

push-other : (vs : List Value) (w : Value) → push vs ≡ Ok w → IsOther w
push-other [] w e = λ x k. cc
push-other (first ∷ payload) w e = by_kind (push_kind first) refl
  where
    by_kind : (o : Option PushKind) → push_kind first ≡ o → IsOther w
    by_kind None k = λ x i. let z = rw (push, k) at e in cc
    by_kind (Some kind) k = λ x i. cc

announced-other : (kind : TypeByte) (text : List ℕ) → byte_of kind ≢ 36 → MakesOther (announced kind text)
announced-other type_byte.SimpleString text other = simple-other _ text
announced-other type_byte.SimpleError text other = λ x k. cc
announced-other type_byte.Integer text other = with_valid-other (integer_in text) (λ n. complete (Int n)) (λ n e x k. cc)
announced-other type_byte.BulkString text other = absurd (other refl)
announced-other type_byte.Array text other =
    let follows : ℕ → Announcement = λ n. elements n (λ vs. Ok (Array vs)) in
    with_valid-other (integer_in text) (or_nil follows) (λ z e. or_nil-other follows (λ n vs v i x k. cc) z)
announced-other type_byte.Null text other = λ x k. cc
announced-other type_byte.Boolean text other = with_valid-other (boolean_in text) complete
    (λ w e. boolean-other _ _ (Boolean true) (Boolean false) w NotBoolean (λ x k. cc) (λ x k. cc) e)
announced-other type_byte.Double text other = with_valid-other (double_in text) complete (λ w e. double-other text w e)
announced-other type_byte.BigNumber text other = λ x k. cc
announced-other type_byte.BulkError text other =
    with_valid-other (length_in text) (λ n. body n (λ bytes. Ok (bulk_error bytes))) (λ n e y v i x k. cc)
announced-other type_byte.VerbatimString text other =
    with_valid-other (length_in text) (λ n. body n verbatim) (λ n e y v i. verbatim-other y v i)
announced-other type_byte.Map text other =
    with_valid-other (length_in text) (λ n. elements (2 * n) (λ vs. Ok (Map (pairs vs)))) (λ n e vs v i x k. cc)
announced-other type_byte.Attribute text other =
    with_valid-other (length_in text) (λ n. elements (2 * n + 1) (λ vs. Ok (attribute vs))) (λ n e vs v i x k. cc)
announced-other type_byte.Set text other =
    let follows : ℕ → Announcement = λ n. elements n (λ vs. Ok (Set vs)) in
    with_valid-other (integer_in text) (or_nil follows) (λ z e. or_nil-other follows (λ n vs v i x k. cc) z)
announced-other type_byte.Push text other =
    let follows : ℕ → Announcement = λ n. elements n push in
    with_valid-other (integer_in text) (or_empty_push follows)
    (λ z e. or_empty_push-other follows (λ n vs v i. push-other vs v i) z)

-- the first byte isn't that of a bulk string
pub other-type : (c : ℕ) (after : List ℕ) → c ≢ 36 → BeginsOther (c ∷ after)
other-type c after other zero later rest x h = absurd h.well_formed
other-type c after other (suc d) later rest x h =
    let s : Spelled (WellFormed d) h.prefix (BulkString x) = h.well_formed in
    let e : c ∷ (after ++ later) ≡ h.prefix ++ rest = h.whole in
    let z = ap (λ y. y ++ rest) s.header.bytes in
    let first : c ≡ byte_of s.kind = cc in
    follows-other (WellFormed d) (announced s.kind s.text) s.rest (BulkString x)
    (announced-other s.kind s.text (λ k. other (first ∙ k))) s.follows x refl
