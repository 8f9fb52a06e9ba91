-- A buffer of frames gives its arguments back.
use Rattle.std.proofs.Common.{◌≡◌, ℕ, suc, zero, ◌+◌, ◌-◌, ◌≤◌, ◌<◌, ◌^◌, ◌/◌, Bool, true, false, nat_lt, List, [], ◌∷◌}
use Rattle.std.proofs.Common.{◌++◌, length, take, drop, length-append, append_assoc, refl, sym, ap, ◌∙◌, arith}
use Rattle.std.proofs.Common.{zero-add, add-zero}
use Rattle.std.specs.Prelude.{slice_range, get_or, set, decimal}
use Rattle.std.specs.List.{flat_map}
use Rattle.std.proofs.lemmas.List.{append-nil, take-append-drop, length-map}
use Rattle.std.proofs.Math.Seq.{take-add, take-append_seam, get_or-append_seam, set-append_seam}
use Rattle.std.proofs.lemmas.Grind.{common_steps, flat_map-append}
use Rattle.itoa.proofs.Decimal.{length_one, length_step_wide}
use borrow.Author.Tests.{ltb-true, ltb-false}
use Rattle.resp_args.specs.Args.{Args, extended}
use Rattle.resp_parse.specs.Lines.{crlf}
use Rattle.resp_command.specs.Packed.{bulk}
use Rattle.resp_command.specs.EncodedArgs.{IsFramed, args_at, longer, span_at, spans_of}
use Rattle.resp_command.specs.declared.encoded_args.Span.{Span}

pub between : (p a q : List ℕ) (i j : ℕ) → i ≡ length p → j ≡ length p + length a → slice_range (p ++ (a ++ q)) i j ≡ a
between p a q i j h k = grind (arith, common_steps)

pub length-bulk : (a : List ℕ) → length (bulk a) ≡ (length (decimal (length a)) + length a) + 5
length-bulk a = omega (
  arith,
  length-append (36 ∷ (decimal (length a) ++ crlf)) (a ++ crlf),
  length-append (decimal (length a)) crlf,
  length-append a crlf,
)

pub body : (front a rest : List ℕ) → slice_range (front ++ (bulk a ++ rest)) (span_at (length front) a).from
    (span_at (length front) a).to ≡ a
body front a rest =
    let d : List ℕ = decimal (length a) in
    let p : List ℕ = front ++ (36 ∷ (d ++ (13 ∷ 10 ∷ []))) in
    let n : length p ≡ length front + (length d + 3) = omega
    (arith, length-append front (36 ∷ (d ++ (13 ∷ 10 ∷ []))), length-append d (13 ∷ 10 ∷ [])) in
    let e : front ++ (bulk a ++ rest) ≡ p ++ (a ++ (13 ∷ 10 ∷ rest)) = simp append_assoc in
    rw e (between p a (13 ∷ 10 ∷ rest) _ _ (sym n) (ap (λ k. k + length a) (sym n)))

pub recovers : (front : List ℕ) (args : Args) → args_at (front ++ flat_map bulk args) (spans_of (length front) args)
    ≡ args
recovers front [] = refl
recovers front (a ∷ more) =
    let r = recovers (front ++ bulk a) more in
    let r' : args_at (front ++ (bulk a ++ flat_map bulk more)) (spans_of (length front + length (bulk a)) more)
    ≡ more = rw (append_assoc, length-append) at r in
    let b = body front a (flat_map bulk more) in
    rw (b, r') refl

-- a buffer and places that are those of the arguments
pub record Holds (bytes : List ℕ) (spans : List Span) (args : Args) : Type 0 where
  pub view : args_at bytes spans ≡ args
  pub framed : IsFramed bytes spans

pub holds : (bytes : List ℕ) (spans : List Span) (args : Args) → bytes ≡ flat_map bulk args → spans ≡ spans_of 0 args
    → Holds bytes spans args
holds bytes spans args e f =
    let v : args_at bytes spans ≡ args = rw (e, f) (recovers [] args) in
    record { view = v; framed = record { bytes_are = rw v e; spans_are = rw v f } }

spans-append : (at : ℕ) (xs ys : Args) → spans_of at (xs ++ ys) ≡ spans_of at xs
    ++ spans_of (at + length (flat_map bulk xs)) ys
spans-append at [] ys = rw (add-zero at) refl
spans-append at (a ∷ xs) ys =
    let n : (at + length (bulk a)) + length (flat_map bulk xs) ≡ at + length (bulk a ++ flat_map bulk xs) = omega
    (arith, length-append (bulk a) (flat_map bulk xs)) in
    rw (← n) (ap (λ spans. span_at at a ∷ spans) (spans-append (at + length (bulk a)) xs ys))

-- the place of the frame after some arguments
encoded_args-then : (xs : Args) (a : List ℕ) → flat_map bulk (xs ++ a ∷ []) ≡ flat_map bulk xs ++ bulk a
encoded_args-then xs a = flat_map-append bulk xs (a ∷ []) ∙ ap (λ bs. flat_map bulk xs ++ bs) (append-nil (bulk a))

spans-then : (xs : Args) (a : List ℕ) → spans_of 0 (xs ++ a ∷ []) ≡ spans_of 0 xs ++ span_at (length (flat_map bulk xs))
    a ∷ []
spans-then xs a = rw (spans-append 0 xs (a ∷ []), zero-add (length (flat_map bulk xs))) refl

-- one more argument
pub pushed : (bytes bytes' a : List ℕ) (spans spans' : List Span) (from to : ℕ) → IsFramed bytes spans
    → bytes' ≡ bytes ++ bulk a → spans' ≡ spans ++ (record { from = from; to = to }) ∷ []
    → to + 2 ≡ length bytes' → from + length a ≡ to → Holds bytes' spans' (args_at bytes spans ++ a ∷ [])
pushed bytes bytes' a spans spans' from to h e f n m =
    let args : Args = args_at bytes spans in
    let F : List ℕ = flat_map bulk args in
    let long : length bytes' ≡ length F + length (bulk a) = ap length e ∙ length-append bytes (bulk a)
    ∙ ap (λ bs. length bs + length (bulk a)) h.bytes_are in
    let i : from ≡ length F + (length (decimal (length a)) + 3) = omega (arith, n, m, long, length-bulk a) in
    let j : to ≡ (length F + (length (decimal (length a)) + 3)) + length a = omega (arith, i, m) in
    holds bytes' spans' (args ++ a ∷ []) (rw (encoded_args-then args a, ← h.bytes_are) e)
    (rw (spans-then args a, ← h.spans_are, ← i, m) f)

take-none : (args : Args) → take 0 args ≡ []
take-none [] = refl
take-none (a ∷ args) = refl

-- where frames end
end_at : (start : ℕ) (args : Args) (i : ℕ) (d : Span) → i < length args → (get_or (spans_of start args) i d).to + 2
    ≡ start + length (flat_map bulk (take (suc i) args))
end_at start [] i d l = absurd (omega arith)
end_at start (a ∷ args) zero d l =
    let one : flat_map bulk (take 1 (a ∷ args)) ≡ bulk a = ap (λ xs. bulk a ++ flat_map bulk xs) (take-none args)
    ∙ append-nil (bulk a) in
    let sum : ((start + (length (decimal (length a)) + 3)) + length a) + 2 ≡ start + length (bulk a) = omega
    (arith, length-bulk a) in
    sum ∙ ap (λ (bs : List ℕ). start + length bs) (sym one)
end_at start (a ∷ args) (suc i) d l =
    let rest : List ℕ = flat_map bulk (take (suc i) args) in
    end_at (start + length (bulk a)) args i d (omega arith) ∙ omega (arith, length-append (bulk a) rest)

pub framed-split : (i : ℕ) (args : Args) → flat_map bulk args ≡ flat_map bulk (take i args)
    ++ flat_map bulk (drop i args)
framed-split i args = ap (flat_map bulk) (sym (take-append-drop i args)) ∙ flat_map-append bulk (take i args)
    (drop i args)

pub front-fits : (i : ℕ) (args : Args) → length (flat_map bulk (take i args)) ≤ length (flat_map bulk args)
front-fits i args = omega (
  arith,
  ap length (framed-split i args),
  length-append (flat_map bulk (take i args))
      (flat_map bulk (drop i args)),
)

module _ (bytes : List ℕ) (spans : List Span) (h : IsFramed bytes spans) where
  pub counted : length spans ≡ length (args_at bytes spans)
  counted = sym (length-map spans (λ span. slice_range bytes span.from span.to))

  pub starts : (index : ℕ) (d : Span) → 0 < index → index ≤ length spans → (get_or spans (index - 1) d).to + 2
      ≡ length (flat_map bulk (take index (args_at bytes spans)))
  starts index d l m =
      let e : suc (index - 1) ≡ index = omega arith in
      let r = end_at 0 (args_at bytes spans) (index - 1) d (omega (arith, counted)) in
      let s : (get_or spans (index - 1) d).to + 2
      ≡ 0 + length (flat_map bulk (take (suc (index - 1)) (args_at bytes spans))) = ap
      (λ (ss : List Span). (get_or ss (index - 1) d).to + 2) h.spans_are ∙ r in
      s ∙ zero-add _ ∙ ap (λ (k : ℕ). length (flat_map bulk (take k (args_at bytes spans)))) e

  pub start-fits : (index : ℕ) → length (flat_map bulk (take index (args_at bytes spans))) ≤ length bytes
  start-fits index = omega (arith, front-fits index (args_at bytes spans), ap length h.bytes_are)

-- the frames between two places
pub framed-between : (bytes : List ℕ) (args : Args) (from to : ℕ) → bytes ≡ flat_map bulk args → from ≤ to
    → slice_range bytes (length (flat_map bulk (take from args))) (length (flat_map bulk (take to args)))
    ≡ flat_map bulk (take (to - from) (drop from args))
framed-between bytes args from to e le =
    let A : List ℕ = flat_map bulk (take from args) in
    let rest : Args = drop from args in
    let B : List ℕ = flat_map bulk (take (to - from) rest) in
    let C : List ℕ = flat_map bulk (drop (to - from) rest) in
    let sum : to ≡ from + (to - from) = omega arith in
    let front : flat_map bulk (take to args) ≡ A ++ B = ap (λ (k : ℕ). flat_map bulk (take k args)) sum
    ∙ ap (flat_map bulk) (take-add from (to - from) args) ∙ flat_map-append bulk (take from args)
    (take (to - from) rest) in
    let all : bytes ≡ A ++ (B ++ C) = e ∙ framed-split from args ∙ ap (λ bs. A ++ bs) (framed-split (to - from) rest) in
    rw all (between A B C (length A) (length (flat_map bulk (take to args))) refl (ap length front ∙ length-append A B))

pub longer-front : (args : Args) (from to : ℕ) → from ≤ to
    → length (flat_map bulk (take from args)) ≤ length (flat_map bulk (take to args))
longer-front args from to le =
    let sum : to ≡ from + (to - from) = omega arith in
    let front : flat_map bulk (take to args) ≡ flat_map bulk (take from args)
    ++ flat_map bulk (take (to - from) (drop from args)) = ap (λ (k : ℕ). flat_map bulk (take k args)) sum
    ∙ ap (flat_map bulk) (take-add from (to - from) args) ∙ flat_map-append bulk (take from args)
    (take (to - from) (drop from args)) in
    omega (
      arith,
      ap length front,
      length-append (flat_map bulk (take from args))
          (flat_map bulk (take (to - from) (drop from args))),
    )

-- fewer arguments
take-spans : (at n : ℕ) (args : Args) → take n (spans_of at args) ≡ spans_of at (take n args)
take-spans at zero [] = refl
take-spans at zero (a ∷ args) = refl
take-spans at (suc n) [] = refl
take-spans at (suc n) (a ∷ args) = ap (λ spans. span_at at a ∷ spans) (take-spans (at + length (bulk a)) n args)

pub truncated : (bytes bytes' : List ℕ) (spans spans' : List Span) (n : ℕ) → IsFramed bytes spans
    → bytes' ≡ take (length (flat_map bulk (take n (args_at bytes spans)))) bytes → spans' ≡ take n spans
    → Holds bytes' spans' (take n (args_at bytes spans))
truncated bytes bytes' spans spans' n h e f =
    let args : Args = args_at bytes spans in
    let A : List ℕ = flat_map bulk (take n args) in
    let all : bytes ≡ A ++ flat_map bulk (drop n args) = h.bytes_are ∙ framed-split n args in
    holds bytes' spans' (take n args) (e ∙ ap (take (length A)) all ∙ take-append_seam A (flat_map bulk (drop n args)))
    (f ∙ ap (take n) h.spans_are ∙ take-spans 0 n args)

-- the places are within the buffer
span_in : (start : ℕ) (args : Args) (i : ℕ) (d : Span) → i < length args
    → ((get_or (spans_of start args) i d).from ≤ (get_or (spans_of start args) i d).to)
    × ((get_or (spans_of start args) i d).to ≤ start + length (flat_map bulk args))
span_in start [] i d l = absurd (omega arith)
span_in start (a ∷ args) zero d l = (
  omega arith,
  omega (arith, length-bulk a, length-append (bulk a) (flat_map bulk args)),
)
span_in start (a ∷ args) (suc i) d l =
    let r = span_in (start + length (bulk a)) args i d (omega arith) in
    (r.0, omega (arith, r.1, length-append (bulk a) (flat_map bulk args)))

pub span-within : (bytes : List ℕ) (spans : List Span) (i : ℕ) (d : Span) → IsFramed bytes spans → i < length spans
    → ((get_or spans i d).from ≤ (get_or spans i d).to) × ((get_or spans i d).to ≤ length bytes)
span-within bytes spans i d h l =
    let r = span_in 0 (args_at bytes spans) i d (omega (arith, counted bytes spans h)) in
    let e : get_or spans i d ≡ get_or (spans_of 0 (args_at bytes spans)) i d = ap (λ (ss : List Span). get_or ss i d)
    h.spans_are in
    rw e (r.0, omega (arith, r.1, ap length h.bytes_are))

-- more bytes for the last argument
last-split : (args : Args) → 0 < length args → args ≡ take (length args - 1) args ++ get_or args (length args - 1) []
    ∷ []
last-split [] l = absurd (omega arith)
last-split (a ∷ []) l = refl
last-split (a ∷ b ∷ args) l =
    let n : length (a ∷ b ∷ args) - 1 ≡ suc (length (b ∷ args) - 1) = omega arith in
    rw n (ap (λ xs. a ∷ xs) (last-split (b ∷ args) (omega arith)))

pub extended-then : (init : Args) (a more : List ℕ) → extended (init ++ a ∷ []) more ≡ init ++ (a ++ more) ∷ []
extended-then [] a more = refl
extended-then (b ∷ []) a more = refl
extended-then (b ∷ c ∷ init) a more = ap (λ xs. b ∷ xs) (extended-then (c ∷ init) a more)

-- the frame at the end of a buffer, with more bytes
longer-bulk : (front a more : List ℕ) → longer (front ++ bulk a) (length front + 1)
    (length front + (length (decimal (length a)) + 3)) more ≡ front ++ bulk (a ++ more)
longer-bulk front a more =
    let d : List ℕ = decimal (length a) in
    let bytes : List ℕ = front ++ bulk a in
    let start : ℕ = length front + 1 in
    let from : ℕ = length front + (length d + 3) in
    let long : length bytes ≡ length front + ((length d + length a) + 5) = length-append front (bulk a)
    ∙ ap (λ n. length front + n) (length-bulk a) in
    let head : List ℕ = front ++ 36 ∷ [] in
    let size : length head ≡ start = length-append front (36 ∷ []) in
    let whole : bytes ≡ head ++ (d ++ ((13 ∷ 10 ∷ a) ++ crlf)) = simp append_assoc refl in
    let before : take start bytes ≡ head = rw (whole, ← size) (take-append_seam head (d ++ ((13 ∷ 10 ∷ a) ++ crlf))) in
    let prefix : List ℕ = head ++ d in
    let whole' : bytes ≡ prefix ++ ((13 ∷ 10 ∷ a) ++ crlf) = simp append_assoc refl in
    let i : from - 2 ≡ length prefix = omega (arith, size, length-append head d) in
    let j : length bytes - 2 ≡ length prefix + length (13 ∷ 10 ∷ a) = omega (arith, size, long, length-append head d) in
    let middle : slice_range bytes (from - 2) (length bytes - 2) ≡ 13 ∷ 10
    ∷ a = ap (λ bs. slice_range bs (from - 2) (length bytes - 2)) whole' ∙ between prefix (13 ∷ 10 ∷ a) crlf
    (from - 2) (length bytes - 2) i j in
    let count : ((length bytes - 2) - from) + length more ≡ length (a ++ more) = omega
    (arith, long, length-append a more) in
    rw (before, middle, count) (simp append_assoc refl)

module _ (bytes : List ℕ) (spans : List Span) (h : IsFramed bytes spans) (some : 0 < length spans) where
  -- the last argument, those before it, and where its frame starts
  abbrev pub last_arg : List ℕ
  last_arg = get_or (args_at bytes spans) (length spans - 1) []

  abbrev pub others : Args
  others = take (length spans - 1) (args_at bytes spans)

  abbrev pub last_start : ℕ
  last_start = length (flat_map bulk others)

  pub args_split : args_at bytes spans ≡ others ++ last_arg ∷ []
  args_split = let n = counted bytes spans h in rw n (last-split (args_at bytes spans) (rw (← n) some))

  pub bytes_split : bytes ≡ flat_map bulk others ++ bulk last_arg
  bytes_split = h.bytes_are ∙ ap (flat_map bulk) args_split ∙ encoded_args-then others last_arg

  pub spans_split : spans ≡ spans_of 0 others ++ span_at last_start last_arg ∷ []
  spans_split = h.spans_are ∙ ap (spans_of 0) args_split ∙ spans-then others last_arg

  before-last : length (spans_of 0 others) ≡ length spans - 1
  before-last = omega (
    arith,
    ap length spans_split,
    length-append (spans_of 0 others)
        (span_at last_start last_arg ∷ []),
  )

  pub last_span : (d : Span) → get_or spans (length spans - 1) d ≡ span_at last_start last_arg
  last_span d = ap (λ (n : ℕ). get_or spans n d) (sym before-last)
      ∙ ap (λ (ss : List Span). get_or ss (length (spans_of 0 others)) d) spans_split ∙ get_or-append_seam
      (spans_of 0 others) (span_at last_start last_arg) [] d

  pub whole_length : length bytes ≡ last_start + ((length (decimal (length last_arg)) + length last_arg) + 5)
  whole_length = ap length bytes_split ∙ length-append (flat_map bulk others) (bulk last_arg) ∙ ap (λ n. last_start + n)
      (length-bulk last_arg)

  -- after `extend_last`, from what `start_of` and the last place say
  pub extended_holds : (bytes' more : List ℕ) (spans' : List Span) (start from digits : ℕ) → start ≡ last_start + 1
      → from ≡ last_start + (length (decimal (length last_arg)) + 3)
      → bytes' ≡ longer bytes start from more → digits ≡ length (decimal ((length bytes - 2) - from + length more))
      → spans' ≡ set spans (length spans - 1) (record { from = start + digits + 2; to = length bytes' - 2 })
      → Holds bytes' spans' (extended (args_at bytes spans) more)
  extended_holds bytes' more spans' start from digits at at' e n f =
      let F : List ℕ = flat_map bulk others in
      let arg : List ℕ = last_arg ++ more in
      let made : bytes' ≡ F ++ bulk arg = e ∙ rw (at, at')
      (ap (λ bs. longer bs (last_start + 1) (last_start + (length (decimal (length last_arg)) + 3)) more)
      bytes_split ∙ longer-bulk F last_arg more) in
      let count : ((length bytes - 2) - from) + length more ≡ length arg = omega
      (arith, whole_length, at', length-append last_arg more) in
      let digits' : digits ≡ length (decimal (length arg)) = n ∙ ap (λ k. length (decimal k)) count in
      let long : length bytes' ≡ last_start + ((length (decimal (length arg)) + length arg) + 5) = ap length made
      ∙ length-append F (bulk arg) ∙ ap (λ k. last_start + k) (length-bulk arg) in
      let i : (start + digits) + 2 ≡ last_start + (length (decimal (length arg)) + 3) = omega (arith, at, digits') in
      let j : length bytes' - 2 ≡ (last_start + (length (decimal (length arg)) + 3)) + length arg = omega
      (arith, long) in
      let new : Span = record { from = start + digits + 2; to = length bytes' - 2 } in
      let new' : new ≡ span_at last_start arg = rw (i, j) refl in
      let there : set spans (length spans - 1) new ≡ spans_of 0 others ++ new ∷ [] = ap (λ (n : ℕ). set spans n new)
      (sym before-last) ∙ ap (λ (ss : List Span). set ss (length (spans_of 0 others)) new) spans_split
      ∙ set-append_seam (spans_of 0 others) (span_at last_start last_arg) [] new in
      let all : extended (args_at bytes spans) more ≡ others ++ arg ∷ [] = ap (λ args. extended args more) args_split
      ∙ extended-then others last_arg more in
      rw all (holds bytes' spans' (others ++ arg ∷ []) (made ∙ sym (encoded_args-then others arg))
      (f ∙ there ∙ ap (λ span. spans_of 0 others ++ span ∷ []) new' ∙ sym (spans-then others arg)))

-- what `start_of` and the last place say
pub last_starts : (bytes : List ℕ) (spans : List Span) (h : IsFramed bytes spans) (some : 0 < length spans)
    (args : Args) (start n : ℕ) → args_at bytes spans ≡ args → n ≡ length spans
    → start ≡ length (flat_map bulk (take (n - 1) args)) → start ≡ last_start bytes spans h some
last_starts bytes spans h some args start n view e f = f ∙ ap (λ (xs : Args). length (flat_map bulk (take (n - 1) xs)))
    (sym view) ∙ ap (λ (k : ℕ). length (flat_map bulk (take (k - 1) (args_at bytes spans)))) e

pub last_from : (bytes : List ℕ) (spans : List Span) (h : IsFramed bytes spans) (some : 0 < length spans)
    (lent : List Span) (d : Span) (n : ℕ) → n ≡ length spans → lent ≡ spans
    → (get_or lent (n - 1) d).from ≡ last_start bytes spans h some +
    (length (decimal (length (last_arg bytes spans h some))) + 3)
last_from bytes spans h some lent d n e f = ap (λ (ss : List Span). (get_or ss (n - 1) d).from) f
    ∙ ap (λ (k : ℕ). (get_or spans (k - 1) d).from) e ∙ ap (λ (s : Span). s.from) (last_span bytes spans h some d)

pub some-spans : (bytes : List ℕ) (spans : List Span) → IsFramed bytes spans → (args : Args)
    → args_at bytes spans ≡ args → 0 < length args → 0 < length spans
some-spans bytes spans h args view some = omega (arith, counted bytes spans h, ap length view, some)

-- a longer text has no fewer digits
digits_of_small : (a b : ℕ) → a ≤ b → b < 10 → length (decimal a) ≤ length (decimal b)
digits_of_small a b l x = omega (arith, length_one a (omega arith), length_one b x)

digits_of_large : (a b : ℕ) → 10 ≤ b → b < 2 ^ 64 → (10 ≤ a → length (decimal (a / 10)) ≤ length (decimal (b / 10)))
    → (small : Bool) → nat_lt a 10 ≡ small → a ≤ b → length (decimal a) ≤ length (decimal b)
digits_of_large a b y h r true e l = let x = ltb-true a 10 e in
    omega (arith, length_one a x, length_step_wide b y (omega arith))
digits_of_large a b y h r false e l =
    let x = ltb-false a 10 e in
    let s = r (omega arith) in
    omega (arith, length_step_wide a (omega arith) (omega arith), length_step_wide b y (omega arith), s)

digits_by : (a b : ℕ) → a ≤ b → b < 2 ^ 64 → (10 ≤ b → length (decimal (a / 10)) ≤ length (decimal (b / 10)))
    → (small : Bool) → nat_lt b 10 ≡ small → length (decimal a) ≤ length (decimal b)
digits_by a b l h r true e = digits_of_small a b l (ltb-true b 10 e)
digits_by a b l h r false e =
    let y = ltb-false b 10 e in
    digits_of_large a b (omega arith) h (λ x. r (omega arith)) (nat_lt a 10) refl l

pub more-digits : (fuel a b : ℕ) → b ≤ fuel → a ≤ b → b < 2 ^ 64 → length (decimal a) ≤ length (decimal b)
more-digits zero a b m l h = digits_of_small a b l (omega arith)
more-digits (suc fuel) a b m l h = digits_by a b l h
    (λ y. more-digits fuel (a / 10) (b / 10) (omega arith) (omega arith) (omega arith)) (nat_lt b 10) refl
