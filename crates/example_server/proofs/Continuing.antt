-- What was read of bytes stays, whichever come next.
use Rattle.std.proofs.Common.{◌≡◌, ◌<◌, ◌≤◌, ◌+◌, ◌-◌, ◌==◌, ℕ, zero, suc, Bool, true, false, not, List, [], ◌∷◌}
use Rattle.std.proofs.Common.{◌++◌, length, take, drop, nat_lt, if◌then◌else◌, Option, Some, None, refl, sym, ap, ◌∙◌}
use Rattle.std.proofs.Common.{arith, rules, slice_index, length-append, length-drop, append-nil, append_assoc, get_or}
use Rattle.std.proofs.lemmas.Bool.{ltb-true, lt-ltb}
use Rattle.std.proofs.lemmas.Grind.{common_steps}
use Rattle.std.proofs.lemmas.List.Folds.{prefix_len-append}
use Rattle.std.specs.List.{position_or_len}
use Rattle.example_server.specs.Lines.{end_at, is_end, is_ended, line_of, longest, header_text, array_of, array_after}
use Rattle.example_server.specs.Lines.{counted_array, count_in, bulk_string_of, bulk_string_after, sized_bulk_string}
use Rattle.example_server.specs.Lines.{whole_bulk_string, size_in}
use Rattle.example_server.specs.Inline.{words_in}
use Rattle.example_server.specs.Requests.{Reading, request, unfinished, wrong, balanced, inline_after, announced}
use Rattle.example_server.specs.Requests.{and_then, bulk_strings, goes_on, with_words, Pending, Takes}
use Rattle.example_server.specs.declared.requests.Taken.{Taken}
use Rattle.example_server.specs.declared.requests.Taken.TheVariants as taken
use Rattle.std.specs.Prelude.{Result, Ok, Err, IfOk}
use Rattle.example_server.specs.declared.protocol_error.ProtocolError.{ProtocolError}
use Rattle.example_server.specs.declared.protocol_error.ProtocolError.TheVariants as why
use Rattle.example_server.specs.declared.lines.Array.TheVariants as array
use Rattle.example_server.specs.declared.lines.BulkString.TheVariants as bulk
use Rattle.example_server.specs.declared.lines.Line.{Line}
use Rattle.example_server.specs.declared.lines.Line.TheVariants as line

found_stays : (p : ℕ → Bool) (b more : List ℕ) → position_or_len p b < length b
    → position_or_len p (b ++ more) ≡ position_or_len p b
found_stays p b more h = grind (arith, h, prefix_len-append (λ c. not (p c)) b more)

found_before : (p : ℕ → Bool) (b more : List ℕ) → position_or_len p (b ++ more) < length b
    → position_or_len p b ≡ position_or_len p (b ++ more)
found_before p b more h = grind (arith, h, prefix_len-append (λ c. not (p c)) b more)

-- the parts of an ended line
record Ended (end after : ℕ) (b : List ℕ) : Type 0 where
  room : end_at end b + after < length b
  byte : get_or b (end_at end b) 0 ≡ end
  near : end_at end b + after ≤ longest

ended_parts : (end after : ℕ) (b : List ℕ) → is_ended end after b ≡ true → Ended end after b
ended_parts end after b h = record { room = grind (arith, h); byte = grind (arith, h); near = grind (arith, h) }

ended_from : (end after : ℕ) (b : List ℕ) → Ended end after b → is_ended end after b ≡ true
ended_from end after b h = grind (arith, h.room, h.byte, h.near)

index_stays : (b more : List ℕ) (i : ℕ) → i < length b → get_or (b ++ more) i 0 ≡ get_or b i 0
index_stays b more i h = grind (arith, common_steps, h)

same_parts : (end after : ℕ) (b more : List ℕ) → end_at end (b ++ more) ≡ end_at end b → Ended end after b
    → Ended end after (b ++ more)
same_parts end after b more e h = record {
  room = let r = h.room in let l = length-append b more in omega (arith, e, r, l);
  byte = let r = h.room in ap (λ i. get_or (b ++ more) i 0) e
      ∙ index_stays b more (end_at end b) (omega (arith, r)) ∙ h.byte;
  near = grind (arith, e, h.near);
}

same_parts_before : (end after : ℕ) (b more : List ℕ) → end_at end b ≡ end_at end (b ++ more) → longest < length b
    → Ended end after (b ++ more) → Ended end after b
same_parts_before end after b more e l h = record {
  room = grind (arith, e, l, h.near);
  byte = let n = h.near in ap (λ i. get_or b i 0) e
      ∙ sym (index_stays b more (end_at end (b ++ more)) (omega (arith, n, l))) ∙ h.byte;
  near = grind (arith, e, h.near);
}

-- what is known of a line that was looked for
by_test : (t u : Bool) (e at : ℕ) → (if t then line.EndsAt e else (if u then line.TooLong else line.Unended))
    ≡ line.EndsAt at
    → (t ≡ true) × (e ≡ at)
by_test true u e at h = (refl, cc)
by_test false true e at h = absurd (cc)
by_test false false e at h = absurd (cc)

too_long_test : (t u : Bool) (e : ℕ) → (if t then line.EndsAt e else (if u then line.TooLong else line.Unended))
    ≡ line.TooLong
    → (t ≡ false) × (u ≡ true)
too_long_test true u e h = absurd (cc)
too_long_test false true e h = (refl, refl)
too_long_test false false e h = absurd (cc)

from_test : (t u : Bool) (e at : ℕ) → t ≡ true → e ≡ at
    → (if t then line.EndsAt e else (if u then line.TooLong else line.Unended)) ≡ line.EndsAt at
from_test true u e at h k = ap line.EndsAt k
from_test false u e at h k = absurd (cc)

ended : (end after at : ℕ) (b : List ℕ) → line_of end after b ≡ line.EndsAt at → Ended end after b × (end_at end b ≡ at)
ended end after at b h =
    let p = by_test (is_ended end after b) (nat_lt longest (length b)) (end_at end b) at h in
    (ended_parts end after b p.0, p.1)

-- a line that has ended has room for what follows it
pub line_bound : (end after at : ℕ) (b : List ℕ) → line_of end after b ≡ line.EndsAt at → at + after < length b
line_bound end after at b h = let p = ended end after at b h in grind (arith, p.0.room, p.1)

-- and ends there, whichever bytes come next
pub line_stays : (end after at : ℕ) (b more : List ℕ) → line_of end after b ≡ line.EndsAt at
    → line_of end after (b ++ more) ≡ line.EndsAt at
line_stays end after at b more h =
    let p = ended end after at b h in
    let e : end_at end (b ++ more) ≡ end_at end b = let r = p.0.room in found_stays (is_end end) b more (omega
    (arith, r)) in
    from_test (is_ended end after (b ++ more)) (nat_lt longest (length (b ++ more))) (end_at end (b ++ more)) at
    (ended_from end after (b ++ more) (same_parts end after b more e p.0)) (e ∙ p.1)

-- so does one that is too long
pub too_long_stays : (end after : ℕ) (b more : List ℕ) → line_of end after b ≡ line.TooLong
    → line_of end after (b ++ more) ≡ line.TooLong
too_long_stays end after b more h =
    let p = too_long_test (is_ended end after b) (nat_lt longest (length b)) (end_at end b) h in
    let l : longest < length b = ltb-true longest (length b) p.1 in
    by (is_ended end after (b ++ more)) refl p.0 l (lt-ltb longest (length (b ++ more)) (let m = length-append b
    more in omega (arith, l, m)))
  where
    by : (t : Bool) → is_ended end after (b ++ more) ≡ t → is_ended end after b ≡ false → longest < length b
        → nat_lt longest (length (b ++ more)) ≡ true
        → line_of end after (b ++ more) ≡ line.TooLong
    by true e f l m = absurd (
        let q = ended_parts end after (b ++ more) e in
        let s : end_at end b ≡ end_at end (b ++ more) = let n = q.near in found_before (is_end end) b more (omega
        (arith, n, l)) in
        let g : is_ended end after b ≡ true = ended_from end after b (same_parts_before end after b more s l q) in
        cc)
    by false e f l m = search (rules, e, m)

take_stays : (n : ℕ) (b more : List ℕ) → n ≤ length b → take n (b ++ more) ≡ take n b
take_stays n b more h = grind (arith, common_steps, h)

drop_stays : (n : ℕ) (b more : List ℕ) → n ≤ length b → drop n (b ++ more) ≡ drop n b ++ more
drop_stays n b more h = grind (arith, common_steps, h)

-- the text of a header
text_stays : (at : ℕ) (b more : List ℕ) → at ≤ length b → header_text at (b ++ more) ≡ header_text at b
text_stays zero [] more h = refl
text_stays (suc at) [] more h = absurd (omega (arith, h))
text_stays at (c ∷ cs) more h = take_stays (at - 1) cs more (omega (arith, h))

-- an inline command
pub inline_taken : (n : ℕ) (b : List ℕ) (words : List (List ℕ)) → line_of 10 0 b ≡ line.EndsAt n
    → words_in (take n b) ≡ Some words
    → (more : List ℕ) → inline_after (b ++ more) (line_of 10 0 (b ++ more)) ≡ request words (drop (n + 1) b ++ more)
inline_taken n b words e f more =
    let k : n + 0 < length b = line_bound 10 0 n b e in
    ap (inline_after (b ++ more)) (line_stays 10 0 n b more e)
    ∙ ap (λ t. balanced (drop (n + 1) (b ++ more)) (words_in t)) (take_stays n b more (omega (arith, k)))
    ∙ ap (balanced (drop (n + 1) (b ++ more))) f
    ∙ ap (request words) (drop_stays (n + 1) b more (omega (arith, k)))

pub inline_unbalanced : (n : ℕ) (b : List ℕ) → line_of 10 0 b ≡ line.EndsAt n → words_in (take n b) ≡ None
    → (more : List ℕ) → inline_after (b ++ more) (line_of 10 0 (b ++ more)) ≡ wrong why.Quotes
inline_unbalanced n b e f more =
    let k : n + 0 < length b = line_bound 10 0 n b e in
    ap (inline_after (b ++ more)) (line_stays 10 0 n b more e)
    ∙ ap (λ t. balanced (drop (n + 1) (b ++ more)) (words_in t)) (take_stays n b more (omega (arith, k)))
    ∙ ap (balanced (drop (n + 1) (b ++ more))) f

pub inline_long : (b : List ℕ) → line_of 10 0 b ≡ line.TooLong
    → (more : List ℕ) → inline_after (b ++ more) (line_of 10 0 (b ++ more)) ≡ wrong why.LongInline
inline_long b e more = ap (inline_after (b ++ more)) (too_long_stays 10 0 b more e)

pub inline_unended : (b : List ℕ) → line_of 10 0 b ≡ line.Unended
    → inline_after (b ++ []) (line_of 10 0 (b ++ [])) ≡ unfinished
inline_unended b e = ap (λ x. inline_after x (line_of 10 0 x)) (append-nil b) ∙ ap (inline_after b) e

-- the header of an array
array_line : (at : ℕ) (b : List ℕ) → line_of 13 1 b ≡ line.EndsAt at
    → array_of b ≡ counted_array at (count_in (header_text at b))
array_line at b e = ap (array_after b) e

array_stays : (at : ℕ) (b more : List ℕ) → line_of 13 1 b ≡ line.EndsAt at → array_of (b ++ more) ≡ array_of b
array_stays at b more e =
    let k : at + 1 < length b = line_bound 13 1 at b e in
    ap (array_after (b ++ more)) (line_stays 13 1 at b more e)
    ∙ ap (λ t. counted_array at (count_in t)) (text_stays at b more (omega (arith, k)))
    ∙ sym (array_line at b e)

-- what is known stays: all but that a line isn't ended
array_known : (l : Line) (b more : List ℕ) → line_of 13 1 b ≡ l → (l ≡ line.Unended → ⊥)
    → array_of (b ++ more) ≡ array_of b
array_known (line.EndsAt at) b more e h = array_stays at b more e
array_known line.TooLong b more e h = ap (array_after (b ++ more)) (too_long_stays 13 1 b more e)
    ∙ sym (ap (array_after b) e)
array_known line.Unended b more e h = absurd (h refl)

array_ended : (b : List ℕ) → (array_of b ≡ array.Unfinished → ⊥) → line_of 13 1 b ≡ line.Unended → ⊥
array_ended b h e = h (ap (array_after b) e)

pub array_taken : (count from : ℕ) (b : List ℕ) → array_of b ≡ array.Announced count from → from ≤ length b
    → (more : List ℕ) → announced (b ++ more) (array_of (b ++ more)) ≡ bulk_strings count (drop from b ++ more)
array_taken count from b f k more =
    let g : array_of (b ++ more) ≡ array_of b = array_known (line_of 13 1 b) b more refl (array_ended b (λ u. cc)) in
    ap (announced (b ++ more)) (g ∙ f) ∙ ap (bulk_strings count) (drop_stays from b more k)

pub array_wrong : (e : ProtocolError) (b : List ℕ) → array_of b ≡ array.Wrong e
    → (more : List ℕ) → announced (b ++ more) (array_of (b ++ more)) ≡ wrong e
array_wrong e b f more =
    let g : array_of (b ++ more) ≡ array_of b = array_known (line_of 13 1 b) b more refl (array_ended b (λ u. cc)) in
    ap (announced (b ++ more)) (g ∙ f)

pub array_unfinished : (b : List ℕ) → array_of b ≡ array.Unfinished
    → announced (b ++ []) (array_of (b ++ [])) ≡ unfinished
array_unfinished b f = ap (λ x. announced x (array_of x)) (append-nil b) ∙ ap (announced b) f

-- a bulk string
sized_cases : (at c : ℕ) (b more : List ℕ) (t : Bool) (o : Option ℕ)
    → ((if t then whole_bulk_string at b o else bulk.Wrong (why.NoBulkString c)) ≡ bulk.Unfinished → ⊥)
    → (if t then whole_bulk_string at (b ++ more) o else bulk.Wrong (why.NoBulkString c))
    ≡ (if t then whole_bulk_string at b o else bulk.Wrong (why.NoBulkString c))
sized_cases at c b more false o h = refl
sized_cases at c b more true None h = refl
sized_cases at c b more true (Some size) h = room (nat_lt (length b) (at + size + 4)) refl
  where
    room : (u : Bool) → nat_lt (length b) (at + size + 4) ≡ u
        → whole_bulk_string at (b ++ more) (Some size) ≡ whole_bulk_string at b (Some size)
    room true e = absurd (h (ap (λ u. if u then bulk.Unfinished else bulk.Whole (at + 2) size) e))
    room false e =
        let l : (length b < at + size + 4)
        → ⊥ = λ k. let g : nat_lt (length b) (at + size + 4) ≡ true = lt-ltb _ _ k in absurd (cc) in
        let f : nat_lt (length (b ++ more)) (at + size + 4)
        ≡ false = longer (nat_lt (length (b ++ more)) (at + size + 4)) refl l in
        ap (λ u. if u then bulk.Unfinished else bulk.Whole (at + 2) size) (f ∙ sym e)
      where
        longer : (v : Bool) → nat_lt (length (b ++ more)) (at + size + 4) ≡ v → ((length b < at + size + 4) → ⊥)
            → v ≡ false
        longer true g l = absurd (l (let k = ltb-true (length (b ++ more)) (at + size + 4) g in let m =
            length-append b more in omega (arith, k, m)))
        longer false g l = refl

sized_stays : (at : ℕ) (b more : List ℕ) → at + 1 < length b → (sized_bulk_string at b ≡ bulk.Unfinished → ⊥)
    → sized_bulk_string at (b ++ more) ≡ sized_bulk_string at b
sized_stays at b more k h =
    let c : slice_index (b ++ more) 0 ≡ slice_index b 0 = index_stays b more 0 (omega (arith, k)) in
    let t : header_text at (b ++ more) ≡ header_text at b = text_stays at b more (omega (arith, k)) in
    ap (λ x. if x == 36 then whole_bulk_string at (b ++ more) (size_in (header_text at (b ++ more))) else
    bulk.Wrong (why.NoBulkString x)) c
    ∙ ap (λ x. if slice_index b 0 == 36 then whole_bulk_string at (b ++ more) (size_in x) else bulk.Wrong
    (why.NoBulkString (slice_index b 0))) t
    ∙ sized_cases at (slice_index b 0) b more (slice_index b 0 == 36) (size_in (header_text at b)) h

bulk_known : (l : Line) (b more : List ℕ) → line_of 13 1 b ≡ l → (bulk_string_of b ≡ bulk.Unfinished → ⊥)
    → bulk_string_of (b ++ more) ≡ bulk_string_of b
bulk_known (line.EndsAt at) b more e h =
    ap (bulk_string_after (b ++ more)) (line_stays 13 1 at b more e)
    ∙ sized_stays at b more (line_bound 13 1 at b e) (λ u. h (ap (bulk_string_after b) e ∙ u))
    ∙ sym (ap (bulk_string_after b) e)
bulk_known line.TooLong b more e h = ap (bulk_string_after (b ++ more)) (too_long_stays 13 1 b more e)
    ∙ sym (ap (bulk_string_after b) e)
bulk_known line.Unended b more e h = absurd (h (ap (bulk_string_after b) e))

-- words before words
joined : (words : List (List ℕ)) (word : List ℕ) (r : Reading)
    → with_words words (with_words (word ∷ []) r) ≡ with_words (words ++ word ∷ []) r
joined words word (request others rest) = ap (λ ws. request ws rest) (sym (append_assoc words (word ∷ []) others))
joined words word unfinished = refl
joined words word (wrong e) = refl

content_stays : (from size : ℕ) (b more : List ℕ) → from + size + 2 ≤ length b
    → take size (drop from (b ++ more)) ≡ take size (drop from b)
content_stays from size b more h = ap (take size) (drop_stays from b more (omega (arith, h)))
    ∙ take_stays size (drop from b) more (let l = length-drop from b in omega (arith, h, l))

-- one more bulk string is read
pub word_taken : (m from size : ℕ) (b : List ℕ) (words : List (List ℕ)) → 0 < m
    → bulk_string_of b ≡ bulk.Whole from size
    → from + size + 2 ≤ length b → (more : List ℕ) → with_words words (bulk_strings m (b ++ more))
    ≡ with_words (words ++ take size (drop from b) ∷ []) (bulk_strings (m - 1) (drop (from + size + 2) b ++ more))
word_taken zero from size b words p f k more = absurd (omega (arith, p))
word_taken (suc n) from size b words p f k more =
    let g : bulk_string_of (b ++ more) ≡ bulk.Whole from size = bulk_known (line_of 13 1 b) b more refl (λ u. cc) ∙ f in
    let s : suc n - 1 ≡ n = omega arith in
    ap (λ r. with_words words (and_then (bulk_strings n) (b ++ more) r)) g
    ∙ ap (λ w. with_words words (with_words (w ∷ []) (bulk_strings n (drop (from + size + 2) (b ++ more)))))
    (content_stays from size b more k)
    ∙ joined words (take size (drop from b)) (bulk_strings n (drop (from + size + 2) (b ++ more)))
    ∙ ap (λ x. with_words (words ++ take size (drop from b) ∷ []) (bulk_strings n x)) (drop_stays (from + size + 2)
    b more k)
    ∙ ap (λ x. with_words (words ++ take size (drop from b) ∷ []) (bulk_strings x (drop (from + size + 2) b ++
    more))) (sym s)

pub word_wrong : (m : ℕ) (e : ProtocolError) (b : List ℕ) (words : List (List ℕ)) → 0 < m
    → bulk_string_of b ≡ bulk.Wrong e
    → (more : List ℕ) → with_words words (bulk_strings m (b ++ more)) ≡ wrong e
word_wrong zero e b words p f more = absurd (omega (arith, p))
word_wrong (suc n) e b words p f more =
    ap (λ r. with_words words (and_then (bulk_strings n) (b ++ more) r)) (bulk_known (line_of 13 1 b) b more refl
    (λ u. cc) ∙ f)

pub word_unfinished : (m : ℕ) (b : List ℕ) (words : List (List ℕ)) → 0 < m → bulk_string_of b ≡ bulk.Unfinished
    → with_words words (bulk_strings m (b ++ [])) ≡ unfinished
word_unfinished zero b words p f = absurd (omega (arith, p))
word_unfinished (suc n) b words p f =
    ap (λ x. with_words words (bulk_strings (suc n) x)) (append-nil b)
    ∙ ap (λ r. with_words words (and_then (bulk_strings n) b r)) f

-- what is to come of an array
pub goes_on_in_array : (m : ℕ) (words : List (List ℕ)) (b : List ℕ) → 0 < m
    → goes_on words m b ≡ with_words words (bulk_strings m b)
goes_on_in_array zero words b p = absurd (omega (arith, p))
goes_on_in_array (suc n) words b p = refl

no_words : (r : Reading) → with_words [] r ≡ r
no_words (request others rest) = refl
no_words unfinished = refl
no_words (wrong e) = refl

pub new_array : (m : ℕ) (words : List (List ℕ)) (b : List ℕ) → words ≡ []
    → with_words words (bulk_strings m b) ≡ bulk_strings m b
new_array m words b e = ap (λ ws. with_words ws (bulk_strings m b)) e ∙ no_words (bulk_strings m b)

-- what the first byte says
pub array_first : (m : ℕ) (words : List (List ℕ)) (cs more : List ℕ) → m ≡ 0
    → goes_on words m (42 ∷ cs ++ more) ≡ announced (42 ∷ cs ++ more) (array_of (42 ∷ cs ++ more))
array_first m words cs more z = ap (λ n. goes_on words n (42 ∷ cs ++ more)) z

pub inline_first : (m c : ℕ) (words : List (List ℕ)) (cs more : List ℕ) → m ≡ 0 → (c == 42) ≡ false
    → goes_on words m (c ∷ cs ++ more) ≡ inline_after (c ∷ cs ++ more) (line_of 10 0 (c ∷ cs ++ more))
inline_first m c words cs more z h = ap (λ n. goes_on words n (c ∷ cs ++ more)) z
    ∙ ap (λ t. if t then announced (c ∷ cs ++ more) (array_of (c ∷ cs ++ more)) else inline_after (c ∷ cs ++ more)
    (line_of 10 0 (c ∷ cs ++ more))) h

-- what is taken of what is read the same
takes_same : (read others : List ℕ → Reading) (new : Pending) (t : Taken) → ((more : List ℕ) → others more ≡ read more)
    → Takes read new t → Takes others new t
takes_same read others new (taken.Request words) e h = (h.0, λ more. e more ∙ h.1 more)
takes_same read others new taken.Unfinished e h = (e [] ∙ h.0, λ more. h.1 more ∙ sym (e more))
takes_same read others new (taken.Wrong why) e h = λ more. e more ∙ h more

pub if_takes_same : {E : Type 0} (r : Result Taken E) (read others : List ℕ → Reading) (new : Pending)
    → ((more : List ℕ) → others more ≡ read more) → IfOk r (Takes read new) → IfOk r (Takes others new)
if_takes_same (Ok t) read others new e h = takes_same read others new t e h
if_takes_same (Err x) read others new e h = h

-- what a function of `src/requests.rt` is proved by: to take a request, an array's header, its words, or a line
pub ruleset of_requests = (if_takes_same, goes_on_in_array, array_first, inline_first)

pub ruleset of_arrays = (array_taken, array_wrong, array_unfinished)

pub ruleset of_words = (word_taken, word_wrong, word_unfinished, goes_on_in_array)

pub ruleset of_lines = (inline_taken, inline_unbalanced, inline_long, inline_unended, line_bound)
