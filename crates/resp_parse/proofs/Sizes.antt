-- How many values a value is built of, by what its header announces.
use Rattle.std.proofs.Common.{◌≡◌, ℕ, zero, suc, ◌+◌, ◌-◌, ◌*◌, ◌<◌, ◌≤◌, Bool, true, false, cond, List, [], ◌∷◌}
use Rattle.std.proofs.Common.{length, take, map, refl, arith, Option, None, Some, Result, Ok, Err, ◌==◌, ℤ, pos, negsuc}
use Rattle.std.proofs.Common.{codes}
use Rattle.std.specs.Str.{bytes_eq, trim}
use Rattle.std.specs.List.{position_or_len, before_first, after_first}
use Rattle.resp_value.specs.Names.{format_named, kind_named}
use Rattle.resp_errors.specs.ServerErrors.{server_error}
use Rattle.resp_errors.specs.declared.kinds.FrameFault.TheVariants.{NotDouble, NotBoolean}
use Rattle.resp_errors.specs.declared.kinds.FrameFault.TheVariants.{NoVerbatimFormat, BadPushKind}
use Rattle.resp_value.specs.declared.value.Value.{Value, Okay, Int, SimpleString, BulkString, Array, Map, Boolean, Set}
use Rattle.resp_value.specs.declared.value.Value.{VerbatimString, Push, Double, ServerError, BigNumber}
use Rattle.resp_value.specs.declared.names.PushKind.{PushKind}
use Rattle.resp_value.specs.declared.names.PushKind.TheVariants.{Other}
use Rattle.resp_errors.specs.declared.kinds.FrameFault.{FrameFault}
use Rattle.resp_value.specs.Views.{pairs}
use Rattle.resp_parse.specs.declared.type_byte.TypeByte.{TypeByte}
use Rattle.resp_parse.specs.declared.type_byte.TypeByte.TheVariants as type_byte
use Rattle.resp_parse.specs.declared.shape.BodyKind.{BodyKind}
use Rattle.resp_parse.specs.declared.shape.BodyKind.TheVariants as body_kind
use Rattle.resp_parse.specs.declared.shape.LineKind.{LineKind}
use Rattle.resp_parse.specs.declared.shape.LineKind.TheVariants as line_kind
use Rattle.resp_parse.specs.declared.shape.ElementsKind.{ElementsKind}
use Rattle.resp_parse.specs.declared.shape.ElementsKind.TheVariants as elements_kind
use Rattle.resp_parse.specs.Number.{integer_in, length_in}
use Rattle.resp_parse.specs.Double.{double_in, is_double}
use Rattle.resp_containers.specs.Lossy.{lossy}
use Rattle.resp_parse.specs.Grammar.{Announcement, complete, body, elements, invalid, with_valid, or_nil, or_empty_push}
use Rattle.resp_parse.specs.Grammar.{simple, empty_push, boolean_in, bulk_error, verbatim_text, verbatim, is_colon, last_element}
use Rattle.resp_parse.specs.Grammar.{attribute, push_kind, push, announced}
use Rattle.resp_parse.specs.Shapes.{body_value, elements_value, line_value}
use Rattle.resp_parse.specs.Built.{sum_of_pairs, first_built, built}
use Rattle.std.proofs.lemmas.List.Sums.{sum_by-cons, sum-map}
use Rattle.resp_parse.proofs.BuiltOf.{built_pair, built-Nil, built-Okay, built-Int, built-SimpleString}
use Rattle.resp_parse.proofs.BuiltOf.{built-BulkString, built-ServerError, built-Boolean, built-Double, built-BigNumber}
use Rattle.resp_parse.proofs.BuiltOf.{built-VerbatimString, built-Array, built-Set, built-Push, built-Map}
use Rattle.resp_parse.proofs.BuiltOf.{built-Attribute}
use Rattle.resp_parse.specs.Costs.{built_of}

-- pairs are built of no more than the values that they join
pairs-small : (vs : List Value) → sum_of_pairs (map built_pair (pairs vs)) ≤ built_of vs
pairs-small [] = omega arith
pairs-small (k ∷ []) = omega arith
pairs-small (k ∷ v ∷ vs) =
    let later : sum_of_pairs (map built_pair (pairs vs)) ≤ built_of vs = pairs-small vs in
    omega (arith, later, sum_by-cons built k (v ∷ vs), sum_by-cons built v vs)

last-small : (v : Value) (vs : List Value)
    → built (last_element (v ∷ vs)) + built_of (take (length vs) (v ∷ vs)) ≤ built_of (v ∷ vs)
last-small v [] = omega (arith, sum_by-cons built v [])
last-small v (w ∷ vs) =
    let later : built (last_element (w ∷ vs)) + built_of (take (length vs) (w ∷ vs)) ≤ built_of (w ∷ vs) = last-small w
    vs in omega (arith, later, sum_by-cons built v (w ∷ vs), sum_by-cons built v (take (length vs) (w ∷ vs)))

attribute-small : (v : Value) (vs : List Value) → built (attribute (v ∷ vs)) ≤ suc (built_of (v ∷ vs))
attribute-small v vs =
    let e : length (v ∷ vs) - 1 ≡ length vs = omega arith in
    let p : sum_of_pairs (map built_pair (pairs (take (length vs) (v ∷ vs)))) ≤ built_of (take (length vs) (v ∷ vs)) =
    pairs-small (take (length vs) (v ∷ vs)) in
    rw e (omega (
      arith,
      last-small v vs,
      p,
      built-Attribute (last_element (v ∷ vs)) (pairs (take (length vs) (v ∷
          vs))),
    ))

first-most : (k : PushKind) (ns : List ℕ) → first_built k ns ≤ 1
first-most (Other []) [] = omega arith
first-most _ _ = omega arith

-- the first element of a push is one value
named-built : (v : Value) (k : PushKind) → push_kind v ≡ Some k → built v ≡ 1
named-built (SimpleString name) k e = built-SimpleString name
named-built (BulkString name) k e = built-BulkString name
named-built _ k e = absurd (cc)

push-small : (vs : List Value) (v : Value) → push vs ≡ Ok v → built v ≤ suc (built_of vs)
push-small [] v e = absurd (cc)
push-small (first ∷ vs) v e = by_kind (push_kind first) refl e
  where
    by_kind : (k : Option PushKind) → push_kind first ≡ k
        → elim k as (λ _. Result Value FrameFault) [ Some kind ↦ Ok (Push kind vs) | None ↦ Err BadPushKind ] ≡ Ok v
        → built v ≤ suc (built_of (first ∷ vs))
    by_kind (Some kind) h i =
        let z : Push kind vs ≡ v = cc in
        rw (← z) (omega (
          arith,
          built-Push kind vs,
          first-most kind (map built vs),
          named-built first kind h,
          sum-map
              built vs,
          sum_by-cons built first vs,
        ))
    by_kind None h i = absurd (cc)

pub elements-small : (kind : ElementsKind) (vs : List Value) (v : Value) → 0 < length vs → elements_value kind vs ≡ Ok v
    → built v ≤ suc (built_of vs)
elements-small elements_kind.Array vs v l e =
    let z : Array vs ≡ v = cc in rw (← z) (omega (arith, built-Array vs, sum-map built vs))
elements-small elements_kind.Set vs v l e =
    let z : Set vs ≡ v = cc in rw (← z) (omega (arith, built-Set vs, sum-map built vs))
elements-small elements_kind.Map vs v l e =
    let z : Map (pairs vs) ≡ v = cc in rw (← z) (omega (arith, pairs-small vs, built-Map (pairs vs)))
elements-small elements_kind.Attribute [] v l e = absurd (omega arith)
elements-small elements_kind.Attribute (w ∷ vs) v l e =
    let z : attribute (w ∷ vs) ≡ v = cc in rw (← z) (attribute-small w vs)
elements-small elements_kind.Push vs v l e = push-small vs v e

verbatim-small : (text : List ℕ) (v : Value) → verbatim_text text ≡ Ok v → built v ≡ 1
verbatim-small text v e = by_test (position_or_len is_colon text == length text) e
  where
    by_test : (b : Bool) → cond b (Err NoVerbatimFormat)
        (Ok (VerbatimString (format_named (before_first is_colon text)) (after_first is_colon text))) ≡ Ok v → built v
        ≡ 1
    by_test true i = absurd (cc)
    by_test false i =
        let z : VerbatimString (format_named (before_first is_colon text)) (after_first is_colon text) ≡ v = cc in
        rw (← z) (built-VerbatimString (format_named (before_first is_colon text)) (after_first is_colon text))

pub body-small : (kind : BodyKind) (bytes : List ℕ) (v : Value) → body_value kind bytes ≡ Ok v → built v ≡ 1
body-small body_kind.Bulk bytes v e = let z : BulkString bytes ≡ v = cc in rw (← z) (built-BulkString bytes)
body-small body_kind.Error bytes v e =
    let z : bulk_error bytes ≡ v = cc in rw (← z) (built-ServerError (server_error (lossy bytes)))
body-small body_kind.Verbatim bytes v e = verbatim-small (lossy bytes) v e

-- a value that is complete with its header is built of itself; elements make one value more
abbrev pub Small : Announcement → Type 0
Small (complete v) = built v ≡ 1
Small (body n make) = (bytes : List ℕ) (v : Value) → make bytes ≡ Ok v → built v ≡ 1
Small (elements n make) = (vs : List Value) (v : Value) → length vs ≡ n → make vs ≡ Ok v → built v ≤ suc (built_of vs)
Small (invalid f) = Unit {0}

valid-small : {A : Type 0} (r : Result A FrameFault) (follows : A → Announcement)
    → ((x : A) → r ≡ Ok x → Small (follows x)) → Small (with_valid r follows)
valid-small (Ok x) follows h = h x refl
valid-small (Err f) follows h = tt

nil-small : (follows : ℕ → Announcement) (n : ℤ) → ((k : ℕ) → Small (follows k)) → Small (or_nil follows n)
nil-small follows (pos k) h = h k
nil-small follows (negsuc k) h = built-Nil

-- a push of no elements
empty_push-small : built (Push (kind_named []) []) ≡ 1
unfolding kind_named
empty_push-small = built-Push (kind_named []) []

push-or-small : (follows : ℕ → Announcement) (n : ℤ) → ((k : ℕ) → Small (follows k)) → Small (or_empty_push follows n)
push-or-small follows (pos zero) h = empty_push-small
push-or-small follows (pos (suc k)) h = h (suc k)
push-or-small follows (negsuc k) h = empty_push-small

simple-small : (text : List ℕ) → built (simple text) ≡ 1
simple-small text = by_test (bytes_eq text (codes "OK"))
  where
    by_test : (b : Bool) → built (cond b Okay (SimpleString text)) ≡ 1
    by_test true = built-Okay
    by_test false = built-SimpleString text

boolean-small : (text : List ℕ) (v : Value) → boolean_in text ≡ Ok v → built v ≡ 1
boolean-small text v e = by_tests (bytes_eq text (codes "t")) (bytes_eq text (codes "f")) e
  where
    by_tests : (b c : Bool) → cond b (Ok (Boolean true)) (cond c (Ok (Boolean false)) (Err NotBoolean)) ≡ Ok v → built v
        ≡ 1
    by_tests true c i = let z : Boolean true ≡ v = cc in rw (← z) (built-Boolean true)
    by_tests false true i = let z : Boolean false ≡ v = cc in rw (← z) (built-Boolean false)
    by_tests false false i = absurd (cc)

double-small : (text : List ℕ) (v : Value) → double_in text ≡ Ok v → built v ≡ 1
unfolding double_in
double-small text v e = by_test (is_double (trim text)) e
  where
    by_test : (b : Bool) → cond b (Ok (Double (trim text))) (Err NotDouble) ≡ Ok v → built v ≡ 1
    by_test true i = let z : Double (trim text) ≡ v = cc in rw (← z) (built-Double (trim text))
    by_test false i = absurd (cc)

pub announced-small : (kind : TypeByte) (text : List ℕ) → Small (announced kind text)
announced-small type_byte.SimpleString text = simple-small text
announced-small type_byte.SimpleError text = built-ServerError (server_error text)
announced-small type_byte.Integer text = valid-small (integer_in text) (λ n. complete (Int n)) (λ n _. built-Int n)
announced-small type_byte.BulkString text = valid-small (integer_in text)
    (or_nil (λ n. body n (λ bytes. Ok (BulkString bytes))))
    (λ n _. nil-small (λ n. body n (λ bytes. Ok (BulkString bytes))) n
    (λ k bytes v e. body-small body_kind.Bulk bytes v e))
announced-small type_byte.Array text = valid-small (integer_in text)
    (or_nil (λ n. elements n (λ values. Ok (Array values))))
    (λ n _. nil-small (λ n. elements n (λ values. Ok (Array values))) n
    (λ k vs v l e. let z : Array vs ≡ v = cc in rw (← z) (omega (arith, built-Array vs, sum-map built vs))))
announced-small type_byte.Null text = built-Nil
announced-small type_byte.Boolean text = valid-small (boolean_in text) complete (boolean-small text)
announced-small type_byte.Double text = valid-small (double_in text) complete (double-small text)
announced-small type_byte.BigNumber text = built-BigNumber text
announced-small type_byte.BulkError text = valid-small (length_in text) (λ n. body n (λ bytes. Ok (bulk_error bytes)))
    (λ n _ bytes v e. body-small body_kind.Error bytes v e)
announced-small type_byte.VerbatimString text = valid-small (length_in text) (λ n. body n verbatim)
    (λ n _ bytes v e. body-small body_kind.Verbatim bytes v e)
announced-small type_byte.Map text = valid-small (length_in text)
    (λ n. elements (2 * n) (λ values. Ok (Map (pairs values))))
    (λ n _ vs v l e. let z : Map (pairs vs) ≡ v = cc in rw (← z) (omega (arith, pairs-small vs, built-Map (pairs vs))))
announced-small type_byte.Attribute text = valid-small (length_in text)
    (λ n. elements (2 * n + 1) (λ values. Ok (attribute values)))
    (λ n _ vs v l e. elements-small elements_kind.Attribute vs v (omega arith) e)
announced-small type_byte.Set text = valid-small (integer_in text)
    (or_nil (λ n. elements n (λ values. Ok (Set values))))
    (λ n _. nil-small (λ n. elements n (λ values. Ok (Set values))) n
    (λ k vs v l e. let z : Set vs ≡ v = cc in rw (← z) (omega (arith, built-Set vs, sum-map built vs))))
announced-small type_byte.Push text = valid-small (integer_in text) (or_empty_push (λ n. elements n push))
    (λ n _. push-or-small (λ n. elements n push) n (λ k vs v l e. push-small vs v e))

-- a value that is read from its line
pub line-small : (kind : LineKind) (text : List ℕ) (v : Value) → line_value kind text ≡ Ok v → built v ≡ 1
line-small line_kind.Error text v e =
    let z : ServerError (server_error text) ≡ v = cc in rw (← z) (built-ServerError (server_error text))
line-small line_kind.Double text v e = double-small text v e
line-small line_kind.BigNumber text v e =
    let z : BigNumber text ≡ v = cc in rw (← z) (built-BigNumber text)
line-small line_kind.EmptyPush text v e =
    let z : empty_push ≡ v = cc in rw (← z) empty_push-small
