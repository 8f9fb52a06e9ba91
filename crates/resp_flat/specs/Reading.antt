-- What is read of tokens and a text, value by value.
use Rattle.std.specs.Prelude.{◌≡◌, ℕ, zero, suc, ◌+◌, ◌-◌, ℤ, pos, Bool, true, false, cond, not, ◌&&◌, ◌||◌, ◌==◌}
use Rattle.std.specs.Prelude.{nat_le, List, [], ◌∷◌, length, take, drop, Option, None, Some, Result, Ok, Err}
use Rattle.std.specs.Borrow.{Bor}
use Rattle.std.specs.Ordering.{int_eq}
use Rattle.std.specs.List.{position_or_len, before_first, after_first}
use Rattle.std.specs.Str.{is_utf8}
use Rattle.resp_value.specs.declared.value.Value.{Value, Nil, Okay, Int, SimpleString, BulkString, Array, Map}
use Rattle.resp_value.specs.declared.value.Value.{Attribute, ServerError, Boolean, Double, BigNumber, Set}
use Rattle.resp_value.specs.declared.value.Value.{VerbatimString, Push}
use Rattle.resp_value.specs.declared.names.PushKind.{PushKind}
use Rattle.resp_value.specs.Names.{kind_named, format_named}
use Rattle.resp_errors.specs.ServerErrors.{server_error}
use Rattle.resp_flat.specs.declared.token.Token.{Token}
use Rattle.resp_flat.specs.declared.token.TokenKind.{TokenKind}
use Rattle.resp_flat.specs.declared.token.TokenKind.TheVariants as kind
use Rattle.resp_flat.specs.declared.reading.Place.{Place}
use Rattle.resp_flat.specs.declared.flat_error.FlatError.{FlatError}
use Rattle.resp_flat.specs.declared.flat_error.FlatError.TheVariants.{Memory, NotReply}

-- something that is read, the tokens that are left, and where their bytes begin; or a refusal
pub data Read (A : Type 0) : Type 0 where
  refused : Read A
  got : A → List Token → ℕ → Read A

-- one after another
abbrev pub then : {A B : Type 0} → Read A → (A → List Token → ℕ → Read B) → Read B
then refused next = refused
then (got a ts at) next = next a ts at

-- something that is made of what is read, if it can be
abbrev pub made_of : {A : Type 0} → Option A → List Token → ℕ → Read A
made_of None ts at = refused
made_of (Some a) ts at = got a ts at

-- a token of this kind may have this size and this number
abbrev pub may_have : TokenKind → ℕ → ℤ → Bool
may_have kind.Nil n z = (n == 0) && int_eq z (pos 0)
may_have kind.Okay n z = (n == 0) && int_eq z (pos 0)
may_have kind.Int n z = n == 0
may_have kind.Boolean n z = (n == 0) && (int_eq z (pos 0) || int_eq z (pos 1))
may_have kind.Push n z = not (n == 0) && int_eq z (pos 0)
may_have _ n z = int_eq z (pos 0)

-- the next token, whose bytes begin here
abbrev pub next_token : List Token → ℕ → Read Token
next_token [] at = refused
next_token (t ∷ ts) at =
    cond ((t.start == at) && may_have t.kind t.size t.number) (got t ts at) refused

-- the next n bytes
abbrev pub next_bytes : List ℕ → ℕ → List Token → ℕ → Read (List ℕ)
next_bytes x n ts at =
    cond (nat_le (at + n) (length x)) (got (take n (drop at x)) ts (at + n)) refused

-- something of a text
abbrev pub of_text : {A : Type 0} → (List ℕ → A) → List ℕ → Option A
of_text make bytes = cond (is_utf8 bytes) (Some (make bytes)) None

abbrev pub is_colon : ℕ → Bool
is_colon byte = byte == 58

-- a text that is cut at its first colon
abbrev pub cut : List ℕ → Option Value
cut text = cond (position_or_len is_colon text == length text) None
    (Some (VerbatimString (format_named (before_first is_colon text)) (after_first is_colon text)))

-- the same of bytes
abbrev pub cut_text : List ℕ → Option Value
cut_text bytes = cond (is_utf8 bytes) (cut bytes) None

-- the leaf of this kind that has these bytes
abbrev pub leaf_of : TokenKind → List ℕ → Option Value
leaf_of kind.SimpleString bytes = of_text SimpleString bytes
leaf_of kind.BulkString bytes = Some (BulkString bytes)
leaf_of kind.ServerError bytes = of_text (λ text. ServerError (server_error text)) bytes
leaf_of kind.Double bytes = of_text Double bytes
leaf_of kind.BigNumber bytes = Some (BigNumber bytes)
leaf_of kind.VerbatimString bytes = cut_text bytes
leaf_of _ bytes = None

-- the next leaf of this kind and size
abbrev pub next_leaf : List ℕ → TokenKind → ℕ → List Token → ℕ → Read Value
next_leaf x k n ts at = then (next_bytes x n ts at) (λ bytes. made_of (leaf_of k bytes))

abbrev pub is_bulk : TokenKind → Bool
is_bulk kind.BulkString = true
is_bulk _ = false

-- the kind of a push, by the bulk string that names it
abbrev pub next_kind : List ℕ → List Token → ℕ → Read PushKind
next_kind x ts at = then (next_token ts at) (λ t us from. cond (is_bulk t.kind)
    (then (next_bytes x t.size us from) (λ name. made_of (of_text kind_named name))) refused)

-- as many values, each read by `read`
abbrev pub next_values : (List Token → ℕ → Read Value) → ℕ → List Token → ℕ → Read (List Value)
next_values read zero ts at = got [] ts at
next_values read (suc n) ts at =
    then (read ts at) (λ v us from. then (next_values read n us from) (λ vs. got (v ∷ vs)))

-- as many pairs
abbrev pub next_pairs : (List Token → ℕ → Read Value) → ℕ → List Token → ℕ →
    Read (List (Value × Value))
next_pairs read zero ts at = got [] ts at
next_pairs read (suc n) ts at = then (read ts at) (λ k us from. then (read us from) (λ v ws to.
    then (next_pairs read n ws to) (λ ps. got ((k, v) ∷ ps))))

-- as many pairs, and the value that they describe
abbrev pub next_attribute : (List Token → ℕ → Read Value) → ℕ → List Token → ℕ → Read Value
next_attribute read n ts at = then (next_pairs read n ts at) (λ ps us from.
    then (read us from) (λ v. got (Attribute v ps)))

-- the kind of a push, and as many values
abbrev pub next_push : (List Token → ℕ → Read Value) → List ℕ → ℕ → List Token → ℕ → Read Value
next_push read x n ts at = then (next_kind x ts at) (λ k us from.
    then (next_values read n us from) (λ vs. got (Push k vs)))

-- what a token of this kind, size and number begins, where those inside it are read by `read`
abbrev pub after_token : (List Token → ℕ → Read Value) → List ℕ → TokenKind → ℕ → ℤ →
    List Token → ℕ → Read Value
after_token read x kind.Nil n z ts at = got Nil ts at
after_token read x kind.Okay n z ts at = got Okay ts at
after_token read x kind.Int n z ts at = got (Int z) ts at
after_token read x kind.Boolean n z ts at = got (Boolean (int_eq z (pos 1))) ts at
after_token read x kind.Array n z ts at = then (next_values read n ts at) (λ vs. got (Array vs))
after_token read x kind.Set n z ts at = then (next_values read n ts at) (λ vs. got (Set vs))
after_token read x kind.Map n z ts at = then (next_pairs read n ts at) (λ ps. got (Map ps))
after_token read x kind.Attribute n z ts at = next_attribute read n ts at
after_token read x kind.Push n z ts at = next_push read x (n - 1) ts at
after_token read x k n z ts at = next_leaf x k n ts at

-- a value, where so many levels are left
unfoldable pub next_value : List ℕ → ℕ → List Token → ℕ → Read Value
next_value x zero ts at = refused
next_value x (suc d) ts at =
    then (next_token ts at) (λ t. after_token (next_value x d) x t.kind t.size t.number)

-- what is read of tokens and a text, if nothing of either is left
abbrev pub whole : ℕ → Read Value → Option Value
whole size (got v [] at) = cond (at == size) (Some v) None
whole size _ = None

-- what is read first, whatever is left
abbrev pub first_of : {A : Type 0} → Read A → Option A
first_of refused = None
first_of (got a ts at) = Some a

-- the value that this token begins, if its bytes begin within the text
abbrev pub value_from : List ℕ → ℕ → Token → List Token → Option Value
value_from x d t ts = cond (nat_le t.start (length x)) (first_of (next_value x d (t ∷ ts) t.start)) None

-- a call answers what was read, or that memory ran out, and stands where reading goes on
abbrev pub Answers : {A : Type 0} → Read A → Result A FlatError → Place → Type 0
Answers r (Ok a) new = r ≡ got a new.tokens.now new.at
Answers r (Err Memory) new = Unit {0}
Answers r (Err NotReply) new = r ≡ refused

-- it reads from the place where it stood
abbrev pub Reads : {A : Type 0} → (List Token → ℕ → Read A) → Place → Result A FlatError →
    Place → Type 0
Reads read old result new = Answers (read old.tokens.now old.at) result new

-- the same of bytes that are lent, for which no memory is wanted
abbrev pub AnswersBytes : Read (List ℕ) → Result (Bor (List ℕ)) FlatError → Place → Type 0
AnswersBytes r (Ok bytes) new = r ≡ got bytes.now new.tokens.now new.at
AnswersBytes r (Err Memory) new = ⊥
AnswersBytes r (Err NotReply) new = r ≡ refused

abbrev pub ReadsBytes : (List Token → ℕ → Read (List ℕ)) → Place →
    Result (Bor (List ℕ)) FlatError → Place → Type 0
ReadsBytes read old result new = AnswersBytes (read old.tokens.now old.at) result new

-- a call answers what is made, or that memory ran out
abbrev pub Makes : {A : Type 0} → Option A → Result A FlatError → Type 0
Makes o (Ok a) = o ≡ Some a
Makes o (Err Memory) = Unit {0}
Makes o (Err NotReply) = o ≡ None
