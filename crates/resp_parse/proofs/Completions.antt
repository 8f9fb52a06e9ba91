-- Incomplete bytes go on to where a fault shows.
use Rattle.std.proofs.Common.{◌≡◌, ℕ, zero, suc, ◌+◌, Bool, true, false, cond, ◌&&◌, ◌==◌, List, [], ◌∷◌, ◌++◌, length}
use Rattle.std.proofs.Common.{length-append, drop, Option, None, Some, Result, Ok, Err, refl, ap, sym, ◌∙◌, subst}
use Rattle.std.proofs.Common.{append_assoc, arith}
use Rattle.std.specs.Prelude.{get_or}
use Rattle.std.specs.Str.{IsUtf8, chars, is_utf8}
use Rattle.std.proofs.Math.Seq.{drop-append_seam, get_or-append_seam}
use Rattle.std.proofs.lemmas.List.{append-nil}
use Rattle.std.proofs.lemmas.Str.{IsUtf8-from_is_utf8, is_utf8-from_IsUtf8, IsUtf8-drop, IsCharBoundary-after_ascii}
use Rattle.resp_value.specs.declared.value.Value.{Value}
use Rattle.resp_errors.specs.declared.kinds.FrameFault.{FrameFault}
use Rattle.resp_errors.specs.declared.kinds.FrameFault.TheVariants.{TooDeep, UnknownType, LineNotUtf8, BodyEnd}
use Rattle.resp_parse.specs.declared.type_byte.TypeByte.{TypeByte}
use Rattle.resp_parse.specs.TypeBytes.{type_of}
use Rattle.resp_parse.specs.Lines.{crlf}
use Rattle.resp_parse.specs.Grammar.{Announcement, complete, body, elements, invalid, announced, Malformed}
use Rattle.resp_parse.specs.PlainReading.{ReadOutcome, got, fault, incomplete, then, line, end_of_body, read_body}
use Rattle.resp_parse.specs.PlainReading.{read_elements, made, read_announced, read_line, read_typed, read}
use Rattle.resp_parse.specs.Prefixes.{IsIncomplete}
use Rattle.resp_parse.specs.Laws.{Completion}
use Rattle.resp_parse.proofs.ByteTests.{not_true}
use Rattle.resp_parse.proofs.LineReads.{line-got, line-later, line-reads}
use Rattle.resp_parse.proofs.PrefixReads.{HasMalformedPrefix-from_read, HasWellFormedPrefix-from_read}
use Rattle.resp_parse.proofs.ReadingMeetsGrammar.{well_formed-reads, read-malformed, read-well_formed}

-- some bytes after these make a fault show, and are read to their end
pub record Ends {A : Type 0} (R : List ℕ → ReadOutcome A) (bs : List ℕ) : Type 0 where
  pub more : List ℕ
  pub why : FrameFault
  pub shows : R (bs ++ more) ≡ fault why []

-- of two readings that are incomplete as a whole: the first, or the second where the first gave something
data Incomplete {A B : Type 0} (o : ReadOutcome A) (next : A → List ℕ → ReadOutcome B) : Type 0 where
  at_once : o ≡ incomplete → Incomplete o next
  later : (x : A) (rest : List ℕ) → o ≡ got x rest → next x rest ≡ incomplete → Incomplete o next

then-incomplete : {A B : Type 0} (o : ReadOutcome A) (next : A → List ℕ → ReadOutcome B) → then o next ≡ incomplete
    → Incomplete o next
then-incomplete (got x rest) next e = later x rest refl e
then-incomplete (fault f rest) next e = absurd (cc)
then-incomplete incomplete next e = at_once refl

made-finished : (r : Result Value FrameFault) (rest : List ℕ) → made r rest ≡ incomplete → ⊥
made-finished (Ok v) rest e = cc
made-finished (Err f) rest e = cc

-- ---- lines: a byte that isn't UTF-8 after one that ends whatever came before

line-ends : (bs : List ℕ) → line bs ≡ incomplete → line (bs ++ 65 ∷ 255 ∷ 13 ∷ 10 ∷ []) ≡ got (bs ++ 65 ∷ 255 ∷ []) []
line-ends [] e = refl
line-ends (b ∷ []) e = line-later b 65 (255 ∷ 13 ∷ 10 ∷ []) (65 ∷ 255 ∷ []) []
    (λ _ q. absurd (let k : 65 ≡ 10 = q in omega arith)) refl
line-ends (b ∷ c ∷ bs) e = by_test (line-ends (c ∷ bs)) ((b == 13) && (c == 10)) refl e
  where
    by_test : (line (c ∷ bs) ≡ incomplete → line (c ∷ (bs ++ 65 ∷ 255 ∷ 13 ∷ 10 ∷ [])) ≡ got (c ∷ (bs ++ 65 ∷ 255 ∷ []))
        []) → (m : Bool) → ((b == 13) && (c == 10)) ≡ m
        → cond m (got [] bs) (then (line (c ∷ bs)) (λ text rest. got (b ∷ text) rest)) ≡ incomplete
        → line (b ∷ c ∷ (bs ++ 65 ∷ 255 ∷ 13 ∷ 10 ∷ [])) ≡ got (b ∷ c ∷ (bs ++ 65 ∷ 255 ∷ [])) []
    by_test later_ends true p k = absurd (cc)
    by_test later_ends false p k = elim (then-incomplete (line (c ∷ bs)) (λ text rest. got (b ∷ text) rest) k) [
      | at_once u ↦ let r = later_ends u in rw (p, r) refl
      | later x rest g u ↦ absurd (cc)
    ]

lone : is_utf8 (255 ∷ []) ≡ true → ⊥
unfolding is_utf8 chars
lone e = cc

not_utf8 : (text : List ℕ) → is_utf8 (text ++ 65 ∷ 255 ∷ []) ≡ false
not_utf8 text = not_true _ (λ t.
    let bs : List ℕ = text ++ 65 ∷ 255 ∷ [] in
    let u = IsUtf8-from_is_utf8 bs t in
    let size = length-append text (65 ∷ 255 ∷ []) in
    let there : get_or bs (length text) 0 ≡ 65 = get_or-append_seam text 65 (255 ∷ []) 0 in
    let boundary = IsCharBoundary-after_ascii bs (length text) u (omega (arith, size)) (omega (arith, there)) in
    let front : length (text ++ 65 ∷ []) ≡ length text + 1 = length-append text (65 ∷ []) in
    let whole : bs ≡ (text ++ 65 ∷ []) ++ 255 ∷ [] = sym (append_assoc text (65 ∷ []) (255 ∷ [])) in
    let last : drop (length text + 1) bs ≡ 255 ∷ [] = ap (λ n. drop n bs) (sym front)
    ∙ ap (drop (length (text ++ 65 ∷ []))) whole ∙ drop-append_seam (text ++ 65 ∷ []) (255 ∷ []) in
    lone (is_utf8-from_IsUtf8 (255 ∷ []) (subst IsUtf8 last (IsUtf8-drop bs (length text + 1) u boundary))))

line-grows : (bs text rest more : List ℕ) → line bs ≡ got text rest → line (bs ++ more) ≡ got text (rest ++ more)
line-grows bs text rest more e =
    let p = line-got bs text rest e in
    ap (λ s. line (s ++ more)) p.0 ∙ ap line (append_assoc text (crlf ++ rest) more)
    ∙ line-reads text (rest ++ more) p.1

-- ---- bodies

body-waits : (n : ℕ) → read_body n [] ≡ incomplete
body-waits zero = refl
body-waits (suc n) = refl

abbrev after_x : ReadOutcome (List ℕ)
after_x = fault BodyEnd []

body-ends : (n : ℕ) (bs : List ℕ) → read_body n bs ≡ incomplete → Ends (read_body n) bs
body-ends zero [] e = record { more = 120 ∷ []; why = BodyEnd; shows = refl }
body-ends zero (b ∷ []) e = record { more = 120 ∷ []; why = BodyEnd; shows = by_test (b == 13) e }
  where
    by_test : (m : Bool) → cond m (end_of_body []) (fault BodyEnd []) ≡ incomplete
        → cond m (fault BodyEnd []) (fault BodyEnd (120 ∷ [])) ≡ after_x
    by_test true k = refl
    by_test false k = absurd (cc)
body-ends zero (b ∷ c ∷ bs) e = absurd (by_tests (b == 13) (c == 10) e)
  where
    by_tests : (m n : Bool) → cond m (cond n (got [] bs) (fault BodyEnd bs)) (fault BodyEnd (c ∷ bs)) ≡ end_of_body []
        → ⊥
    by_tests true true k = cc
    by_tests true false k = cc
    by_tests false n k = cc
body-ends (suc n) [] e =
    let r = body-ends n [] (body-waits n) in record { more = 120 ∷ r.more; why = r.why; shows = rw r.shows refl }
body-ends (suc n) (b ∷ bs) e = elim (then-incomplete (read_body n bs) (λ x rest. got (b ∷ x) rest) e) [
  | at_once u ↦ let r = body-ends n bs u in record { more = r.more; why = r.why; shows = rw r.shows refl }
  | later x rest g u ↦ absurd (cc)
]

-- ---- elements, and what a header announces

module _ (R : List ℕ → ReadOutcome Value)
    (grows : (bs rest more : List ℕ) (v : Value) → R bs ≡ got v rest → R (bs ++ more) ≡ got v (rest ++ more))
    (ends : (bs : List ℕ) → R bs ≡ incomplete → Ends R bs) where
  elements-end : (n : ℕ) (bs : List ℕ) → read_elements R n bs ≡ incomplete → Ends (read_elements R n) bs
  elements-end zero bs e = absurd (cc)
  elements-end (suc n) bs e = elim
      (then-incomplete (R bs) (λ v rest. then (read_elements R n rest) (λ vs after. got (v ∷ vs) after)) e) [
        | at_once u ↦ let r = ends bs u in record { more = r.more; why = r.why; shows = rw r.shows refl }
        | later v rest g u ↦ elim (then-incomplete (read_elements R n rest) (λ vs after. got (v ∷ vs) after) u) [
          | at_once w ↦ let r = elements-end n rest w in let k = grows bs rest r.more v g in record
              { more = r.more; why = r.why; shows = rw (k, r.shows) refl }
          | later vs after h w ↦ absurd (cc)
        ]
      ]

  announced-ends : (a : Announcement) (bs : List ℕ) → read_announced R a bs ≡ incomplete → Ends (read_announced R a) bs
  announced-ends (complete v) bs e = absurd (cc)
  announced-ends (body n make) bs e = elim (then-incomplete (read_body n bs) (λ x rest. made (make x) rest) e) [
    | at_once u ↦ let r = body-ends n bs u in record { more = r.more; why = r.why; shows = rw r.shows refl }
    | later x rest g u ↦ absurd (made-finished (make x) rest u)
  ]
  announced-ends (elements n make) bs e = elim
      (then-incomplete (read_elements R n bs) (λ vs rest. made (make vs) rest) e) [
        | at_once u ↦ let r = elements-end n bs u in record { more = r.more; why = r.why; shows = rw r.shows refl }
        | later vs rest g u ↦ absurd (made-finished (make vs) rest u)
      ]
  announced-ends (invalid f) bs e = absurd (cc)

-- ---- values

read-grows : (d : ℕ) (bs rest more : List ℕ) (v : Value) → read d bs ≡ got v rest → read d (bs ++ more)
    ≡ got v (rest ++ more)
read-grows d bs rest more v e =
    let h = read-well_formed d bs rest v e in
    ap (λ s. read d (s ++ more)) h.whole ∙ ap (read d) (append_assoc h.prefix rest more)
    ∙ well_formed-reads d h.prefix (rest ++ more) v h.is

no_type : type_of 120 ≡ None
unfolding type_of
no_type = refl

read-ends : (d : ℕ) (bs : List ℕ) → read d bs ≡ incomplete → Ends (read d) bs
read-ends zero [] e = record { more = 120 ∷ []; why = TooDeep; shows = refl }
read-ends zero (c ∷ bs) e = absurd (cc)
read-ends (suc d) [] e = record { more = 120 ∷ []; why = UnknownType; shows = rw no_type refl }
read-ends (suc d) (c ∷ bs) e = by_type (read-ends d) (type_of c) refl e
  where
    after_line : ((xs : List ℕ) → read d xs ≡ incomplete → Ends (read d) xs) → (kind : TypeByte) → type_of c ≡ Some kind
        → (text rest : List ℕ) → line bs ≡ got text rest → (u : Bool) → is_utf8 text ≡ u
        → cond u (read_announced (read d) (announced kind text) rest) (fault LineNotUtf8 rest) ≡ incomplete
        → Ends (read (suc d)) (c ∷ bs)
    after_line deeper kind t text rest l true u k =
        let r = announced-ends (read d) (read-grows d) deeper (announced kind text) rest k in
        let l' = line-grows bs text rest r.more l in
        record { more = r.more; why = r.why; shows = rw (t, l', u, r.shows) refl }
    after_line deeper kind t text rest l false u k = absurd (cc)

    by_type : ((xs : List ℕ) → read d xs ≡ incomplete → Ends (read d) xs) → (t : Option TypeByte) → type_of c ≡ t
        → read_typed (read d) t bs ≡ incomplete → Ends (read (suc d)) (c ∷ bs)
    by_type deeper (Some kind) t k = elim (then-incomplete (line bs) (read_line (read d) kind) k) [
      | at_once w ↦ let l = line-ends bs w in let u = not_utf8 bs in record
          { more = 65 ∷ 255 ∷ 13 ∷ 10 ∷ []; why = LineNotUtf8; shows = rw (t, l, u) refl }
      | later text rest l w ↦ after_line deeper kind t text rest l (is_utf8 text) refl w
    ]
    by_type deeper None t k = absurd (cc)

incomplete-read : (d : ℕ) (b : List ℕ) → IsIncomplete d b → (o : ReadOutcome Value) → read d b ≡ o → o ≡ incomplete
incomplete-read d b h (got v rest) e = absurd (h.no_value v rest (HasWellFormedPrefix-from_read d b rest v e))
incomplete-read d b h (fault f rest) e = absurd (h.no_fault f (HasMalformedPrefix-from_read d b rest f e))
incomplete-read d b h incomplete e = refl

pub law_of_completion : (d : ℕ) (b : List ℕ) → IsIncomplete d b → Completion d b
law_of_completion d b h =
    let r = read-ends d b (incomplete-read d b h (read d b) refl) in
    let p = read-malformed d (b ++ r.more) [] r.why r.shows in
    record {
      more = r.more;
      fault = r.why;
      malformed = subst (λ s. Malformed d s r.why)
          (sym (p.whole ∙ append-nil p.prefix)) p.is;
    }
