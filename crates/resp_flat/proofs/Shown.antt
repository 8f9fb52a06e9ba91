-- What a place in a reply shows, by its first token and those after it.
use Rattle.std.proofs.Common.{◌≡◌, ℕ, suc, ◌+◌, ◌*◌, ◌≤◌, nat_le, min, Bool, true, false, cond, List, [], ◌∷◌, ◌++◌}
use Rattle.std.proofs.Common.{length, map, take, drop, refl, sym, ap, subst, ◌∙◌, append_assoc, append-nil, add-zero}
use Rattle.std.proofs.Common.{zero-add, arith, Option, Some, None, is_some, MatchOption}
use Rattle.std.specs.List.{AllZip}
use Rattle.std.proofs.lemmas.Bool.Decides.{nat_tests}
use Rattle.std.proofs.lemmas.List.{length-append, length-map}
use Rattle.resp_value.specs.declared.value.Value.{Value, BulkString, out-Value, roll-out-Value, map-Value}
use Rattle.resp_value.specs.declared.value.Value.{fold-roll-Value}
use Rattle.resp_value.specs.declared.value.Value.TheVariants.{rolls-BulkString}
use Rattle.resp_value.specs.declared.value.Value.TheOpen.{Value-F}
use Rattle.resp_value.specs.Names.{name_of_push_kind}
use Rattle.resp_errors.specs.ServerErrors.{text_of as error_text}
use Rattle.resp_flat.specs.declared.token.Token.{Token}
use Rattle.resp_flat.specs.declared.token.TokenKind.{TokenKind}
use Rattle.resp_flat.specs.declared.token.TokenKind.TheVariants as kind
use Rattle.resp_flat.specs.declared.flat_reply.FlatReply.{FlatReply}
use Rattle.resp_flat.specs.declared.flat_value.FlatValue.{FlatValue}
use Rattle.resp_flat.specs.FlatReplies.{sized, numbered, has_text, bytes_of, placed, joined, joined_pairs, truth_number}
use Rattle.resp_flat.specs.FlatReplies.{verbatim_text, tokens_step, tokens_of, text_step, text_of, tokens_of_pair}
use Rattle.resp_flat.specs.FlatReplies.{text_of_pair, IsFlatOf}
use Rattle.resp_flat.specs.FlatValues.{View, IsShownIn, BothAreShownIn, view_of, Shows, ShowsIf, kind_of, int_of}
use Rattle.resp_flat.specs.FlatValues.{truth_of, leaf_bytes, elements_of, pairs_of, count_of, described_by, kind_in}
use Rattle.resp_flat.specs.FlatValues.{int_in, truth_in, bytes_in, elements_in, pairs_in, described_in, int_at}
use Rattle.resp_flat.specs.FlatValues.{truth_at, bytes_at, element_count, pair_count, is_attribute, part_count}
use Rattle.resp_flat.specs.FlatValues.{after_values, views_from, two_by_two}
use Rattle.resp_flat.proofs.TokenSizes.{total, placed-append, sizes, pairs-total}
use Rattle.resp_flat.specs.Reading.{Read, got, next_value, first_of, value_from}
use Rattle.resp_flat.specs.Readable.{IsReadable}
use Rattle.resp_flat.proofs.ReadsBack.{inside, its_bytes, finds-value}
use Rattle.resp_flat.proofs.Skips.{skips, apart}

abbrev Tokens : Type 0
Tokens = List Token

-- ---- the first token of a value, and the others

abbrev tokens_form : Value-F Value → Tokens
tokens_form y = tokens_step (map-Value Value Tokens tokens_of y)

abbrev text_form : Value-F Value → List ℕ
text_form y = text_step (map-Value Value (List ℕ) text_of y)

abbrev head_of : Value-F Value → Token
head_of Value-F.Nil = sized kind.Nil 0
head_of Value-F.Okay = sized kind.Okay 0
head_of (Value-F.Int n) = numbered kind.Int n
head_of (Value-F.SimpleString text) = sized kind.SimpleString (length text)
head_of (Value-F.BulkString bytes) = sized kind.BulkString (length bytes)
head_of (Value-F.Array vs) = sized kind.Array (length (map tokens_of vs))
head_of (Value-F.Map ps) = sized kind.Map (length (map tokens_of_pair ps))
head_of (Value-F.Attribute v ps) = sized kind.Attribute (length (map tokens_of_pair ps))
head_of (Value-F.ServerError error) = sized kind.ServerError (length (error_text error))
head_of (Value-F.Boolean truth) = numbered kind.Boolean (truth_number truth)
head_of (Value-F.Double text) = sized kind.Double (length text)
head_of (Value-F.BigNumber bytes) = sized kind.BigNumber (length bytes)
head_of (Value-F.Set vs) = sized kind.Set (length (map tokens_of vs))
head_of (Value-F.VerbatimString format text) = sized kind.VerbatimString (length (verbatim_text format text))
head_of (Value-F.Push k vs) = sized kind.Push (suc (length (map tokens_of vs)))

abbrev tail_of : Value-F Value → Tokens
tail_of (Value-F.Array vs) = joined (map tokens_of vs)
tail_of (Value-F.Map ps) = joined_pairs (map tokens_of_pair ps)
tail_of (Value-F.Attribute v ps) = joined_pairs (map tokens_of_pair ps) ++ tokens_of v
tail_of (Value-F.Set vs) = joined (map tokens_of vs)
tail_of (Value-F.Push k vs) = sized kind.BulkString (length (name_of_push_kind k)) ∷ joined (map tokens_of vs)
tail_of _ = []

parted : (y : Value-F Value) → tokens_form y ≡ head_of y ∷ tail_of y
parted Value-F.Nil = refl
parted Value-F.Okay = refl
parted (Value-F.Int n) = refl
parted (Value-F.SimpleString text) = refl
parted (Value-F.BulkString bytes) = refl
parted (Value-F.Array vs) = refl
parted (Value-F.Map ps) = refl
parted (Value-F.Attribute v ps) = refl
parted (Value-F.ServerError error) = refl
parted (Value-F.Boolean truth) = refl
parted (Value-F.Double text) = refl
parted (Value-F.BigNumber bytes) = refl
parted (Value-F.Set vs) = refl
parted (Value-F.VerbatimString format text) = refl
parted (Value-F.Push k vs) = refl

tokens-parted : (v : Value) → tokens_of v ≡ head_of (out-Value v) ∷ tail_of (out-Value v)
tokens-parted v = ap tokens_of (sym (roll-out-Value v)) ∙ fold-roll-Value Tokens tokens_step (out-Value v)
    ∙ parted (out-Value v)

text-formed : (v : Value) → text_of v ≡ text_form (out-Value v)
text-formed v = ap text_of (sym (roll-out-Value v)) ∙ fold-roll-Value (List ℕ) text_step (out-Value v)

-- a cursor at a value of this layer
record Stands (c : FlatValue) (y : Value-F Value) : Type 0 where
  before : List ℕ
  after : List ℕ
  rest : Tokens
  token : c.token.now ≡ record (head_of y) { start = length before }
  others : c.others.now ≡ placed (length before + bytes_of (head_of y)) (tail_of y) ++ rest
  text : c.text.now ≡ before ++ (text_form y ++ after)

heads : (t u : Token) (ts us : Tokens) → t ∷ ts ≡ u ∷ us → (t ≡ u) × (ts ≡ us)
heads t u ts us e = (cc, cc)

stands : (c : FlatValue) (v : Value) → Shows c v → Stands c (out-Value v)
stands c v shows =
    let y = out-Value v in
    let n = length shows.before in
    let tokens : c.token.now ∷ c.others.now ≡ record (head_of y) { start = n } ∷
    (placed (n + bytes_of (head_of y)) (tail_of y) ++ shows.rest) =
    shows.tokens ∙ ap (λ (ts : Tokens). placed n ts ++ shows.rest) (tokens-parted v) in
    let both = heads _ _ _ _ tokens in
    record {
      before = shows.before;
      after = shows.after;
      rest = shows.rest;
      token = both.0;
      others = both.1;
      text = shows.text ∙ ap (λ (u : List ℕ). shows.before ++ (u ++ shows.after)) (text-formed v);
    }

-- ---- what the first token says

record Says (y : Value-F Value) : Type 0 where
  kind_is : (head_of y).kind ≡ kind_in y
  int_is : int_at (head_of y).kind (head_of y).number ≡ int_in y
  truth_is : truth_at (head_of y).kind (head_of y).number ≡ truth_in y
  elements_are : element_count (head_of y).kind (head_of y).size ≡ length (elements_in y)
  pairs_are : pair_count (head_of y).kind (head_of y).size ≡ length (pairs_in y)
  attribute_is : is_attribute (head_of y).kind ≡ is_some (described_in y)

says : (y : Value-F Value) → Says y
says Value-F.Nil = record
    { kind_is = refl; int_is = refl; truth_is = refl; elements_are = refl; pairs_are = refl; attribute_is = refl }
says Value-F.Okay = record
    { kind_is = refl; int_is = refl; truth_is = refl; elements_are = refl; pairs_are = refl; attribute_is = refl }
says (Value-F.Int n) = record
    { kind_is = refl; int_is = refl; truth_is = refl; elements_are = refl; pairs_are = refl; attribute_is = refl }
says (Value-F.SimpleString text) = record
    { kind_is = refl; int_is = refl; truth_is = refl; elements_are = refl; pairs_are = refl; attribute_is = refl }
says (Value-F.BulkString bytes) = record
    { kind_is = refl; int_is = refl; truth_is = refl; elements_are = refl; pairs_are = refl; attribute_is = refl }
says (Value-F.Array vs) = record {
  kind_is = refl;
  int_is = refl;
  truth_is = refl;
  elements_are = length-map vs tokens_of;
  pairs_are = refl;
  attribute_is = refl;
}
says (Value-F.Map ps) = record {
  kind_is = refl;
  int_is = refl;
  truth_is = refl;
  elements_are = refl;
  pairs_are = length-map ps tokens_of_pair;
  attribute_is = refl;
}
says (Value-F.Attribute v ps) = record {
  kind_is = refl;
  int_is = refl;
  truth_is = refl;
  elements_are = refl;
  pairs_are = length-map ps tokens_of_pair;
  attribute_is = refl;
}
says (Value-F.ServerError error) = record
    { kind_is = refl; int_is = refl; truth_is = refl; elements_are = refl; pairs_are = refl; attribute_is = refl }
says (Value-F.Boolean true) = record
    { kind_is = refl; int_is = refl; truth_is = refl; elements_are = refl; pairs_are = refl; attribute_is = refl }
says (Value-F.Boolean false) = record
    { kind_is = refl; int_is = refl; truth_is = refl; elements_are = refl; pairs_are = refl; attribute_is = refl }
says (Value-F.Double text) = record
    { kind_is = refl; int_is = refl; truth_is = refl; elements_are = refl; pairs_are = refl; attribute_is = refl }
says (Value-F.BigNumber bytes) = record
    { kind_is = refl; int_is = refl; truth_is = refl; elements_are = refl; pairs_are = refl; attribute_is = refl }
says (Value-F.Set vs) = record {
  kind_is = refl;
  int_is = refl;
  truth_is = refl;
  elements_are = length-map vs tokens_of;
  pairs_are = refl;
  attribute_is = refl;
}
says (Value-F.VerbatimString format text) = record
    { kind_is = refl; int_is = refl; truth_is = refl; elements_are = refl; pairs_are = refl; attribute_is = refl }
says (Value-F.Push k vs) = record {
  kind_is = refl;
  int_is = refl;
  truth_is = refl;
  elements_are = ap (λ (n : ℕ). suc n) (length-map vs tokens_of);
  pairs_are = refl;
  attribute_is = refl;
}

pub kind_shown : (c : FlatValue) (v : Value) → Shows c v → c.token.now.kind ≡ kind_of v
kind_shown c v shows = ap (λ (t : Token). t.kind) (stands c v shows).token ∙ (says (out-Value v)).kind_is

pub int_shown : (c : FlatValue) (v : Value) → Shows c v → int_at c.token.now.kind c.token.now.number ≡ int_of v
int_shown c v shows = ap (λ (t : Token). int_at t.kind t.number) (stands c v shows).token ∙ (says (out-Value v)).int_is

pub truth_shown : (c : FlatValue) (v : Value) → Shows c v → truth_at c.token.now.kind c.token.now.number ≡ truth_of v
truth_shown c v shows = ap (λ (t : Token). truth_at t.kind t.number) (stands c v shows).token
    ∙ (says (out-Value v)).truth_is

pub elements_counted : (c : FlatValue) (v : Value) → Shows c v → element_count c.token.now.kind c.token.now.size
    ≡ length (elements_of v)
elements_counted c v shows = ap (λ (t : Token). element_count t.kind t.size) (stands c v shows).token
    ∙ (says (out-Value v)).elements_are

pairs_counted : (c : FlatValue) (v : Value) → Shows c v → pair_count c.token.now.kind c.token.now.size
    ≡ length (pairs_of v)
pairs_counted c v shows = ap (λ (t : Token). pair_count t.kind t.size) (stands c v shows).token
    ∙ (says (out-Value v)).pairs_are

pub count_shown : (c : FlatValue) (v : Value) → Shows c v
    → element_count c.token.now.kind c.token.now.size + pair_count c.token.now.kind c.token.now.size ≡ count_of v
count_shown c v shows =
    ap (λ (n : ℕ). n + pair_count c.token.now.kind c.token.now.size) (elements_counted c v shows)
    ∙ ap (λ (n : ℕ). length (elements_of v) + n) (pairs_counted c v shows)

-- the bytes that lie between others
bytes-here : (before u after : List ℕ) → bytes_at (before ++ (u ++ after)) (length before) (length u) ≡ Some u
bytes-here before u after =
    ap (λ (b : Bool). cond b (Some (take (length u) (drop (length before) (before ++ (u ++ after))))) None)
    (inside before u after)
    ∙ ap (λ (y : List ℕ). Some y) (its_bytes before u after)

abbrev own_bytes : Token → List ℕ → Option (List ℕ)
own_bytes t x = cond (has_text t.kind) (bytes_at x t.start t.size) None

pub bytes_shown : (c : FlatValue) (v : Value) → Shows c v → own_bytes c.token.now c.text.now ≡ leaf_bytes v
bytes_shown c v shows =
    let s = stands c v shows in
    ap (λ (t : Token). own_bytes t c.text.now) s.token
    ∙ ap (λ (x : List ℕ). own_bytes (record (head_of (out-Value v)) { start = length s.before }) x) s.text
    ∙ by (out-Value v) s.before s.after
  where
    by : (y : Value-F Value) (before after : List ℕ)
        → own_bytes (record (head_of y) { start = length before }) (before ++ (text_form y ++ after)) ≡ bytes_in y
    by Value-F.Nil before after = refl
    by Value-F.Okay before after = refl
    by (Value-F.Int n) before after = refl
    by (Value-F.SimpleString text) before after = bytes-here before text after
    by (Value-F.BulkString bytes) before after = bytes-here before bytes after
    by (Value-F.Array vs) before after = refl
    by (Value-F.Map ps) before after = refl
    by (Value-F.Attribute v ps) before after = refl
    by (Value-F.ServerError error) before after = bytes-here before (error_text error) after
    by (Value-F.Boolean truth) before after = refl
    by (Value-F.Double text) before after = bytes-here before text after
    by (Value-F.BigNumber bytes) before after = bytes-here before bytes after
    by (Value-F.Set vs) before after = refl
    by (Value-F.VerbatimString format text) before after = bytes-here before (verbatim_text format text) after
    by (Value-F.Push k vs) before after = refl

-- ---- the values inside

-- one more view, where the value's tokens come first
view-first : (m : ℕ) (v : Value) (at : ℕ) (rest : Tokens) (x : List ℕ)
    → views_from (suc m) (placed at (tokens_of v) ++ rest) x
    ≡ (placed at (tokens_of v) ++ rest, x) ∷ views_from m rest x
view-first m v at rest x =
    let y = out-Value v in
    let ts = placed at (tokens_of v) ++ rest in
    let head = record (head_of y) { start = at } in
    let tail = placed (at + bytes_of (head_of y)) (tail_of y) ++ rest in
    let is : ts ≡ head ∷ tail = ap (λ (us : Tokens). placed at us ++ rest) (tokens-parted v) in
    let behind : after_values (0 + part_count head.kind head.size) tail
    ≡ rest = sym (ap (λ (us : Tokens). after_values 1 us) is) ∙ skips v 0 at rest in
    ap (λ (us : Tokens). views_from (suc m) us x) is
    ∙ ap (λ (us : Tokens). (head ∷ tail, x) ∷ views_from m us x)
    (ap (λ (k : ℕ). after_values k tail) (sym (zero-add (part_count head.kind head.size))) ∙ behind)
    ∙ ap (λ (us : Tokens). (us, x) ∷ views_from m rest x) (sym is)

shown-first : (v : Value) (before after : List ℕ) (rest : Tokens) (x : List ℕ) → x ≡ before ++ (text_of v ++ after)
    → IsShownIn (placed (length before) (tokens_of v) ++ rest, x) v
shown-first v before after rest x e = record { before = before; after = after; rest = rest; tokens = refl; text = e }

-- the tokens of what comes behind
behind_at : (v : Value) (before : List ℕ) (us rest : Tokens) → placed (length before) (tokens_of v ++ us) ++ rest
    ≡ placed (length before) (tokens_of v) ++ (placed (length (before ++ text_of v)) us ++ rest)
behind_at v before us rest =
    ap (λ (ms : Tokens). ms ++ rest) (placed-append (length before) (tokens_of v) us)
    ∙ append_assoc (placed (length before) (tokens_of v)) (placed (length before + total (tokens_of v)) us) rest
    ∙ ap (λ (n : ℕ). placed (length before) (tokens_of v) ++ (placed n us ++ rest))
    (ap (λ (n : ℕ). length before + n) (sizes v) ∙ sym (length-append before (text_of v)))

behind_text : (before t u after : List ℕ) → before ++ ((t ++ u) ++ after) ≡ (before ++ t) ++ (u ++ after)
behind_text before t u after = ap (λ (y : List ℕ). before ++ y) (append_assoc t u after)
    ∙ sym (append_assoc before t (u ++ after))

views-shown : (vs : List Value) (before after : List ℕ) (rest : Tokens) (x : List ℕ) → x ≡ before
    ++ (joined (map text_of vs) ++ after)
    → AllZip IsShownIn (views_from (length vs) (placed (length before) (joined (map tokens_of vs)) ++ rest) x) vs
views-shown [] before after rest x e = tt
views-shown (v ∷ vs) before after rest x e =
    let us = joined (map tokens_of vs) in
    let others = placed (length (before ++ text_of v)) us ++ rest in
    let u = joined (map text_of vs) in
    let views : views_from (suc (length vs)) (placed (length before) (tokens_of v ++ us) ++ rest) x
    ≡ (placed (length before) (tokens_of v) ++ others, x) ∷ views_from (length vs) others x =
    ap (λ (ts : Tokens). views_from (suc (length vs)) ts x) (behind_at v before us rest)
    ∙ view-first (length vs) v (length before) others x in
    subst (λ (ws : List View). AllZip IsShownIn ws (v ∷ vs)) (sym views) (
      shown-first v before (u ++ after) others x
          (e ∙ ap (λ (y : List ℕ). before ++ y) (append_assoc (text_of v) u after)),
      views-shown vs (before ++ text_of v) after rest x (e ∙ behind_text before (text_of v) u after),
    )

bulk-tokens : (bytes : List ℕ) → tokens_of (BulkString bytes) ≡ sized kind.BulkString (length bytes) ∷ []
bulk-tokens bytes = ap tokens_of (sym (rolls-BulkString bytes))
    ∙ fold-roll-Value Tokens tokens_step (Value-F.BulkString bytes)

bulk-text : (bytes : List ℕ) → text_of (BulkString bytes) ≡ bytes
bulk-text bytes = ap text_of (sym (rolls-BulkString bytes))
    ∙ fold-roll-Value (List ℕ) text_step (Value-F.BulkString bytes)

-- an aggregate's others begin where it does
abbrev others_at : List ℕ → ℕ → Tokens → Tokens → Tokens
others_at before n ts rest = placed (length before + n) ts ++ rest

elements-of-layer : (y : Value-F Value) (before after : List ℕ) (rest : Tokens)
    → AllZip IsShownIn (views_from (length (elements_in y)) (others_at before (bytes_of (head_of y)) (tail_of y) rest)
    (before ++ (text_form y ++ after))) (elements_in y)
elements-of-layer (Value-F.Array vs) before after rest =
    subst (λ (n : ℕ). AllZip IsShownIn
    (views_from (length vs) (placed n (joined (map tokens_of vs)) ++ rest)
    (before ++ (joined (map text_of vs) ++ after))) vs) (sym (add-zero (length before)))
    (views-shown vs before after rest _ refl)
elements-of-layer (Value-F.Set vs) before after rest =
    subst (λ (n : ℕ). AllZip IsShownIn
    (views_from (length vs) (placed n (joined (map tokens_of vs)) ++ rest)
    (before ++ (joined (map text_of vs) ++ after))) vs) (sym (add-zero (length before)))
    (views-shown vs before after rest _ refl)
elements-of-layer (Value-F.Push k vs) before after rest =
    let name = name_of_push_kind k in
    let all = BulkString name ∷ vs in
    let us = joined (map tokens_of vs) in
    let u = joined (map text_of vs) in
    subst (λ (n : ℕ). AllZip IsShownIn
    (views_from (suc (length vs)) (placed n (sized kind.BulkString (length name) ∷ us) ++ rest)
    (before ++ ((name ++ u) ++ after))) all) (sym (add-zero (length before)))
    (subst (λ (ts : Tokens). AllZip IsShownIn
    (views_from (suc (length vs)) (placed (length before) (ts ++ us) ++ rest) (before ++ ((name ++ u) ++ after)))
    all) (bulk-tokens name)
    (views-shown all before after rest _ (ap (λ (t : List ℕ). before ++ ((t ++ u) ++ after)) (sym (bulk-text name)))))
elements-of-layer _ before after rest = tt

pub elements_shown : (c : FlatValue) (v : Value) → Shows c v
    → AllZip IsShownIn (views_from (element_count c.token.now.kind c.token.now.size) c.others.now c.text.now)
    (elements_of v)
elements_shown c v shows =
    let s = stands c v shows in
    let y = out-Value v in
    subst (λ (n : ℕ). AllZip IsShownIn (views_from n c.others.now c.text.now) (elements_of v))
    (sym (elements_counted c v shows))
    (subst (λ (ts : Tokens). AllZip IsShownIn (views_from (length (elements_of v)) ts c.text.now) (elements_of v))
    (sym s.others)
    (subst (λ (x : List ℕ). AllZip IsShownIn
    (views_from (length (elements_of v)) (others_at s.before (bytes_of (head_of y)) (tail_of y) s.rest) x)
    (elements_of v)) (sym s.text)
    (elements-of-layer y s.before s.after s.rest)))

-- ---- the pairs inside

abbrev Pairs : Type 0
Pairs = List (Value × Value)

pair-views-shown : (ps : Pairs) (before after : List ℕ) (rest : Tokens) (x : List ℕ) → x ≡ before
    ++ (joined_pairs (map text_of_pair ps) ++ after)
    → AllZip BothAreShownIn (two_by_two (views_from (length ps * 2) (placed (length before) (joined_pairs (map
    tokens_of_pair ps)) ++ rest) x)) ps
pair-views-shown [] before after rest x e = tt
pair-views-shown (p ∷ ps) before after rest x e =
    let us = joined_pairs (map tokens_of_pair ps) in
    let u = joined_pairs (map text_of_pair ps) in
    let key = text_of p.0 in
    let value = text_of p.1 in
    let more : suc (length ps) * 2 ≡ suc (suc (length ps * 2)) = omega arith in
    let last = placed (length ((before ++ key) ++ value)) us ++ rest in
    let middle = placed (length (before ++ key)) (tokens_of p.1) ++ last in
    let first = placed (length before) (tokens_of p.0) ++ middle in
    let tokens : placed (length before) (tokens_of p.0 ++ (tokens_of p.1 ++ us)) ++ rest ≡ first =
    behind_at p.0 before (tokens_of p.1 ++ us) rest
    ∙ ap (λ (ts : Tokens). placed (length before) (tokens_of p.0) ++ ts) (behind_at p.1 (before ++ key) us rest) in
    let text_one : x ≡ before ++ (key ++ ((value ++ u) ++ after)) = e
    ∙ ap (λ (y : List ℕ). before ++ y) (append_assoc key (value ++ u) after) in
    let text_two : x ≡ (before ++ key) ++ ((value ++ u) ++ after) = text_one
    ∙ sym (append_assoc before key ((value ++ u) ++ after)) in
    let text_value : x ≡ (before ++ key) ++ (value ++ (u ++ after)) = text_two
    ∙ ap (λ (y : List ℕ). (before ++ key) ++ y) (append_assoc value u after) in
    let text_rest : x ≡ ((before ++ key) ++ value) ++ (u ++ after) = text_two
    ∙ behind_text (before ++ key) value u after in
    let views : views_from (suc (length ps) * 2)
    (placed (length before) (tokens_of p.0 ++ (tokens_of p.1 ++ us)) ++ rest) x
    ≡ (first, x) ∷ ((middle, x) ∷ views_from (length ps * 2) last x) =
    ap (λ (n : ℕ). views_from n (placed (length before) (tokens_of p.0 ++ (tokens_of p.1 ++ us)) ++ rest) x) more
    ∙ ap (λ (ts : Tokens). views_from (suc (suc (length ps * 2))) ts x) tokens
    ∙ view-first (suc (length ps * 2)) p.0 (length before) middle x
    ∙ ap (λ (ws : List View). (first, x) ∷ ws) (view-first (length ps * 2) p.1 (length (before ++ key)) last x) in
    subst (λ (ws : List View). AllZip BothAreShownIn (two_by_two ws) (p ∷ ps)) (sym views) (
      (
        shown-first p.0 before ((value ++ u) ++ after) middle x text_one,
        shown-first p.1 (before ++ key) (u ++ after)
            last x text_value,
      ),
      pair-views-shown ps ((before ++ key) ++ value) after rest x text_rest,
    )

some-tokens : (v : Value) → 1 ≤ length (tokens_of v)
some-tokens v =
    let e : length (tokens_of v) ≡ suc (length (tail_of (out-Value v))) = ap length (tokens-parted v) in omega arith

length-placed : (at : ℕ) (ts : Tokens) → length (placed at ts) ≡ length ts
length-placed at [] = refl
length-placed at (t ∷ ts) = ap (λ (n : ℕ). suc n) (length-placed (at + bytes_of t) ts)

pair-tokens : (ps : Pairs) → length ps * 2 ≤ length (joined_pairs (map tokens_of_pair ps))
pair-tokens [] = omega arith
pair-tokens (p ∷ ps) =
    let later = pair-tokens ps in
    let key = some-tokens p.0 in
    let value = some-tokens p.1 in
    let us = joined_pairs (map tokens_of_pair ps) in
    let size : length (tokens_of p.0 ++ (tokens_of p.1 ++ us))
    ≡ length (tokens_of p.0) + (length (tokens_of p.1) + length us) =
    length-append (tokens_of p.0) (tokens_of p.1 ++ us)
    ∙ ap (λ (n : ℕ). length (tokens_of p.0) + n) (length-append (tokens_of p.1) us) in
    omega arith

-- the pairs are fewer than the tokens after the first
pairs-fit : (y : Value-F Value) → length (pairs_in y) * 2 ≤ length (tail_of y)
pairs-fit (Value-F.Map ps) = pair-tokens ps
pairs-fit (Value-F.Attribute v ps) =
    let most = pair-tokens ps in
    let size = length-append (joined_pairs (map tokens_of_pair ps)) (tokens_of v) in omega arith
pairs-fit _ = omega arith

pairs-of-layer : (y : Value-F Value) (before after : List ℕ) (rest : Tokens)
    → AllZip BothAreShownIn (two_by_two (views_from (length (pairs_in y) * 2) (others_at before (bytes_of (head_of y))
    (tail_of y) rest) (before ++ (text_form y ++ after)))) (pairs_in y)
pairs-of-layer (Value-F.Map ps) before after rest =
    subst (λ (n : ℕ). AllZip BothAreShownIn
    (two_by_two (views_from (length ps * 2) (placed n (joined_pairs (map tokens_of_pair ps)) ++ rest) (before ++
    (joined_pairs (map text_of_pair ps) ++ after)))) ps) (sym (add-zero (length before)))
    (pair-views-shown ps before after rest _ refl)
pairs-of-layer (Value-F.Attribute v ps) before after rest =
    let us = joined_pairs (map tokens_of_pair ps) in
    let u = joined_pairs (map text_of_pair ps) in
    let n = length before + 0 in
    let behind = placed (n + total us) (tokens_of v) ++ rest in
    let tokens : placed n (us ++ tokens_of v) ++ rest ≡ placed (length before) us ++ behind =
    ap (λ (ts : Tokens). ts ++ rest) (placed-append n us (tokens_of v))
    ∙ append_assoc (placed n us) (placed (n + total us) (tokens_of v)) rest
    ∙ ap (λ (k : ℕ). placed k us ++ behind) (add-zero (length before)) in
    subst (λ (ts : Tokens). AllZip BothAreShownIn
    (two_by_two (views_from (length ps * 2) ts (before ++ ((u ++ text_of v) ++ after)))) ps) (sym tokens)
    (pair-views-shown ps before (text_of v ++ after) behind _
    (ap (λ (y : List ℕ). before ++ y) (append_assoc u (text_of v) after)))
pairs-of-layer _ before after rest = tt

pub pairs-short : (c : FlatValue) (v : Value) (most : ℕ) → Shows c v → length c.others.now ≤ most
    → min (pair_count c.token.now.kind c.token.now.size * 2) most ≡ length (pairs_of v) * 2
pairs-short c v most shows short =
    let s = stands c v shows in
    let y = out-Value v in
    let counted : pair_count c.token.now.kind c.token.now.size ≡ length (pairs_in y) = pairs_counted c v shows in
    let fit = pairs-fit y in
    let size : length c.others.now ≡ length (tail_of y) + length s.rest =
    ap length s.others ∙ length-append (placed (length s.before + bytes_of (head_of y)) (tail_of y)) s.rest
    ∙ ap (λ (n : ℕ). n + length s.rest) (length-placed (length s.before + bytes_of (head_of y)) (tail_of y)) in
    omega arith

pub pairs_shown : (c : FlatValue) (v : Value) (most : ℕ) → Shows c v → length c.others.now ≤ most
    → AllZip BothAreShownIn (two_by_two (views_from (min (pair_count c.token.now.kind c.token.now.size * 2) most)
    c.others.now c.text.now)) (pairs_of v)
pairs_shown c v most shows short =
    let s = stands c v shows in
    let y = out-Value v in
    subst (λ (n : ℕ). AllZip BothAreShownIn (two_by_two (views_from n c.others.now c.text.now)) (pairs_of v))
    (sym (pairs-short c v most shows short))
    (subst (λ (ts : Tokens). AllZip BothAreShownIn (two_by_two (views_from (length (pairs_of v) * 2) ts c.text.now))
    (pairs_of v)) (sym s.others)
    (subst (λ (x : List ℕ). AllZip BothAreShownIn
    (two_by_two (views_from (length (pairs_of v) * 2) (others_at s.before (bytes_of (head_of y)) (tail_of y) s.rest)
    x)) (pairs_of v)) (sym s.text)
    (pairs-of-layer y s.before s.after s.rest)))

-- ---- the value that is described

skip-pairs : (ps : Pairs) (m at : ℕ) (rest : Tokens)
    → after_values (length ps * 2 + m) (placed at (joined_pairs (map tokens_of_pair ps)) ++ rest) ≡ after_values m rest
skip-pairs [] m at rest = ap (λ (k : ℕ). after_values k rest) (zero-add m)
skip-pairs (p ∷ ps) m at rest =
    let us = joined_pairs (map tokens_of_pair ps) in
    let more : suc (length ps) * 2 + m ≡ suc (suc (length ps * 2 + m)) = omega arith in
    ap (λ (k : ℕ). after_values k (placed at (tokens_of p.0 ++ (tokens_of p.1 ++ us)) ++ rest)) more
    ∙ ap (λ (ts : Tokens). after_values (suc (suc (length ps * 2 + m))) ts)
    (apart at (tokens_of p.0) (tokens_of p.1 ++ us) rest)
    ∙ skips p.0 (suc (length ps * 2 + m)) at _
    ∙ ap (λ (ts : Tokens). after_values (suc (length ps * 2 + m)) ts)
    (apart (at + total (tokens_of p.0)) (tokens_of p.1) us rest)
    ∙ skips p.1 (length ps * 2 + m) _ _ ∙ skip-pairs ps m _ rest

described-of-layer : (y : Value-F Value) (before after : List ℕ) (rest : Tokens) (w : Value) → described_in y ≡ Some w
    → IsShownIn (
      after_values (length (pairs_in y) * 2) (others_at before (bytes_of (head_of y)) (tail_of y) rest),
      before ++ (text_form y ++ after),
    ) w
described-of-layer (Value-F.Attribute v ps) before after rest w e =
    let us = joined_pairs (map tokens_of_pair ps) in
    let u = joined_pairs (map text_of_pair ps) in
    let n = length before + 0 in
    let far : n + total us ≡ length (before ++ u) =
    let a = length-append before u in let b = pairs-total ps in omega arith in
    let same : v ≡ w = cc in
    let x = before ++ ((u ++ text_of v) ++ after) in
    let tokens : after_values (length ps * 2) (placed n (us ++ tokens_of v) ++ rest)
    ≡ placed (length (before ++ u)) (tokens_of v) ++ rest =
    ap (λ (k : ℕ). after_values k (placed n (us ++ tokens_of v) ++ rest)) (sym (add-zero (length ps * 2)))
    ∙ ap (λ (ts : Tokens). after_values (length ps * 2 + 0) ts) (apart n us (tokens_of v) rest)
    ∙ skip-pairs ps 0 n (placed (n + total us) (tokens_of v) ++ rest)
    ∙ ap (λ (k : ℕ). placed k (tokens_of v) ++ rest) far in
    subst (λ (z : Value). IsShownIn (after_values (length ps * 2) (placed n (us ++ tokens_of v) ++ rest), x) z) same
    (subst (λ (ts : Tokens). IsShownIn (ts, x) v) (sym tokens)
    (shown-first v (before ++ u) after rest x (behind_text before u (text_of v) after)))
described-of-layer _ before after rest w e = absurd (cc)

pub none_described : (c : FlatValue) (v : Value) → Shows c v → is_attribute c.token.now.kind ≡ false
    → ShowsIf None (described_by v)
none_described c v shows other =
    by (described_by v) (sym (says (out-Value v)).attribute_is ∙ sym (ap (λ (t : Token). is_attribute t.kind) (stands c
    v shows).token) ∙ other)
  where
    by : (o : Option Value) → is_some o ≡ false → ShowsIf None o
    by None e = tt
    by (Some w) e = absurd (cc)

attribute-count : (k : TokenKind) (n : ℕ) → is_attribute k ≡ true → pair_count k n ≡ n
attribute-count kind.Attribute n e = refl
attribute-count _ n e = absurd (cc)

-- a place that shows a value has a token
not-empty : (x : List ℕ) (w : Value) → IsShownIn ([], x) w → ⊥
not-empty x w shown =
    let some = some-tokens w in
    let n = length shown.before in
    let size : 0 ≡ length (tokens_of w) + length shown.rest = ap length shown.tokens
    ∙ length-append (placed n (tokens_of w)) shown.rest
    ∙ ap (λ (k : ℕ). k + length shown.rest) (length-placed n (tokens_of w)) in
    omega arith

pub first_shown : (r : Option FlatValue) (ts : Tokens) (x : List ℕ) (w : Value)
    → MatchOption r (ts ≡ []) (λ d. view_of d ≡ (ts, x)) → IsShownIn (ts, x) w → ShowsIf r (Some w)
first_shown None ts x w none shown = not-empty x w (subst (λ (us : Tokens). IsShownIn (us, x) w) none shown)
first_shown (Some d) ts x w view shown = subst (λ (u : View). IsShownIn u w) (sym view) shown

pub described_shown : (c : FlatValue) (v : Value) (most n : ℕ) (ts : Tokens) (r : Option FlatValue) → Shows c v
    → length c.others.now ≤ most → is_attribute c.token.now.kind ≡ true
    → n ≡ min (c.token.now.size * 2) most → ts ≡ after_values n c.others.now
    → MatchOption r (ts ≡ []) (λ d. view_of d ≡ (ts, c.text.now)) → ShowsIf r (described_by v)
described_shown c v most n ts r shows short attribute count is first =
    by (described_by v) refl
    (sym (says (out-Value v)).attribute_is ∙ sym (ap (λ (t : Token). is_attribute t.kind) (stands c v shows).token)
    ∙ attribute)
  where
    by : (o : Option Value) → described_by v ≡ o → is_some o ≡ true → ShowsIf r o
    by None e some = absurd (cc)
    by (Some w) e some =
        let s = stands c v shows in
        let y = out-Value v in
        let counted : min (c.token.now.size * 2) most ≡ length (pairs_of v) * 2 =
        ap (λ (k : ℕ). min (k * 2) most) (sym (attribute-count c.token.now.kind c.token.now.size attribute))
        ∙ pairs-short c v most shows short in
        let tokens : ts ≡ after_values (length (pairs_of v) * 2)
        (others_at s.before (bytes_of (head_of y)) (tail_of y) s.rest) =
        is ∙ ap (λ (k : ℕ). after_values k c.others.now) (count ∙ counted)
        ∙ ap (λ (us : Tokens). after_values (length (pairs_of v) * 2) us) s.others in
        first_shown r ts c.text.now w first
        (subst (λ (us : Tokens). IsShownIn (us, c.text.now) w) (sym tokens)
        (subst (λ (x : List ℕ). IsShownIn
        (after_values (length (pairs_of v) * 2) (others_at s.before (bytes_of (head_of y)) (tail_of y) s.rest), x)
        w) (sym s.text)
        (described-of-layer y s.before s.after s.rest w e)))

-- a flat reply shows its value
pub root_shown : (reply : FlatReply) (v : Value) (ts : Tokens) (x : List ℕ) (r : Option FlatValue) → ts
    ≡ reply.tokens.items → x ≡ reply.text.items → IsFlatOf reply v
    → MatchOption r (ts ≡ []) (λ d. view_of d ≡ (ts, x)) → ShowsIf r (Some v)
root_shown reply v ts x r tokens text flat first =
    first_shown r ts x v first record {
      before = [];
      after = [];
      rest = [];
      tokens = tokens ∙ flat.tokens ∙ sym (append-nil (placed 0 (tokens_of v)));
      text = text ∙ flat.text ∙ sym (append-nil (text_of v));
    }

-- a value is read from where it is shown
pub shown-reads : (d : ℕ) (t : Token) (ts : Tokens) (x : List ℕ) (v : Value) → IsShownIn (t ∷ ts, x) v → IsReadable d v
    → value_from x d t ts ≡ Some v
shown-reads d t ts x v shown h =
    let before = shown.before in
    let n = length before in
    let found = (finds-value d v h).reads before shown.after shown.rest in
    let first = (heads t (record (head_of (out-Value v)) { start = n }) ts _ (shown.tokens ∙ ap (λ (us : Tokens). placed
    n us ++ shown.rest) (tokens-parted v))).0 in
    let at : t.start ≡ n = ap (λ (u : Token). u.start) first in
    let read : next_value x d (t ∷ ts) t.start ≡ got v shown.rest (n + length (text_of v)) =
    ap (λ (k : ℕ). next_value x d (t ∷ ts) k) at ∙ ap (λ (us : Tokens). next_value x d us n) shown.tokens
    ∙ ap (λ (y : List ℕ). next_value y d (placed n (tokens_of v) ++ shown.rest) n) shown.text ∙ found in
    let size : length x ≡ n + length (text_of v ++ shown.after) = ap length shown.text
    ∙ length-append before (text_of v ++ shown.after) in
    let within : nat_le t.start (length x) ≡ true = grind (arith, nat_tests) in
    ap (λ (b : Bool). cond b (first_of (next_value x d (t ∷ ts) t.start)) None) within
    ∙ ap (λ (r : Read Value). first_of r) read
