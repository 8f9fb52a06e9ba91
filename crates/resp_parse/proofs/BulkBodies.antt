-- The header of a bulk string, and what reading gives after it.
use Rattle.std.proofs.Common.{◌≡◌, ℕ, zero, suc, ◌+◌, ◌-◌, ◌<◌, ◌≤◌, false, List, [], ◌∷◌, ◌++◌, refl, ap, sym}
use Rattle.std.proofs.Common.{◌∙◌, subst, arith, length, length-append, take, drop, ℤ, pos, negsuc, Option, None, Some}
use Rattle.std.proofs.Common.{Result, Ok, Err}
use Rattle.std.proofs.lemmas.Grind.{common_steps}
use Rattle.std.specs.Str.{IsUtf8, is_utf8}
use Rattle.std.proofs.lemmas.Str.{IsUtf8-from_is_utf8, is_utf8-from_IsUtf8}
use Rattle.resp_value.specs.declared.value.Value.{Value, BulkString}
use Rattle.resp_errors.specs.declared.kinds.FrameFault.{FrameFault}
use Rattle.resp_parse.specs.declared.type_byte.TypeByte.TheVariants as type_byte
use Rattle.resp_parse.specs.declared.decoder.bulk_header.BulkHeader.{BulkHeader}
use Rattle.resp_parse.specs.Lines.{NoneBefore}
use Rattle.resp_parse.specs.Number.{integer_in, length_in, as_length}
use Rattle.resp_parse.specs.Grammar.{Header}
use Rattle.resp_parse.specs.Prefixes.{IsIncomplete}
use Rattle.resp_parse.specs.PlainReading.{ReadOutcome, got, incomplete, then, line, read_body, read_line, read}
use Rattle.resp_parse.specs.Resume.{FindsLine, IsLooked}
use Rattle.resp_parse.specs.BulkBodies.{OpensBody, OpensBulk, BeginsOther, InHeader, NoBulk, Finds}
use Rattle.resp_parse.specs.declared.limits.Limits.{Limits}
use Rattle.resp_parse.specs.Limits.{AreLimits}
use Rattle.resp_parse.specs.Limited.{Awaits}
use Rattle.resp_parse.specs.State.{State, IsBetweenValues}
use Rattle.resp_parse.specs.Source.{Source}
use Rattle.resp_parse.proofs.HeadersInPieces.{Scanned-none}
use Rattle.resp_parse.proofs.LineAt.{Scanned-longer}
use Rattle.resp_parse.proofs.Parsing.{FilledAsNeeded}
use Rattle.std.specs.Prelude.{MatchOption}
use Rattle.resp_parse.proofs.ByteTests.{not_true}
use Rattle.resp_parse.proofs.LineAt.{line-none}
use Rattle.resp_parse.proofs.LineReads.{line-got, IsLine}
use Rattle.resp_parse.proofs.PrefixReads.{read-from_HasWellFormed, IsIncomplete-from_read}
use Rattle.resp_parse.proofs.ReadingMeetsGrammar.{header-reads}
use Rattle.resp_parse.proofs.TypeBytes.{type_of-byte_of}

-- a length is a number that isn't negative
length-from : (r : Result ℤ FrameFault) (n : ℕ)
    → ◌≡◌ {A = Result ℕ FrameFault} (elim r [ Ok z ↦ as_length z | Err f ↦ Err f ]) (Ok n) → r ≡ Ok (pos n)
length-from (Ok (pos m)) n e = let k : m ≡ n = cc in ap (λ z. Ok (pos z)) k
length-from (Ok (negsuc m)) n e = absurd (cc)
length-from (Err f) n e = absurd (cc)

length-number : (text : List ℕ) (n : ℕ) → length_in text ≡ Ok n → integer_in text ≡ Ok (pos n)
length-number text n e = length-from (integer_in text) n e

-- a body read, and the bulk string of it
abbrev pub as_bulk : ReadOutcome (List ℕ) → ReadOutcome Value
as_bulk o = then o (λ x rest. got (BulkString x) rest)

pub opens-reads : (b : List ℕ) (n : ℕ) (after : List ℕ) → OpensBody b n after → (d : ℕ) (later : List ℕ)
    → read (suc d) (b ++ later) ≡ as_bulk (read_body n (after ++ later))
opens-reads b n after h d later =
    header-reads d b h.text after later type_byte.BulkString h.header
    ∙ rw (is_utf8-from_IsUtf8 h.text h.text_is_utf8, length-number h.text n h.len) refl

-- the header at the start, found by its line
module _ (c : ℕ) (after : List ℕ) (len : ℕ) (dollar : c ≡ 36) (found : FindsLine after (Some len)) where
  abbrev text : List ℕ
  text = take len after

  is_line : IsLine after text (drop (len + 2) after)
  is_line = line-got after text (drop (len + 2) after) found.1

  header : Header (c ∷ after) type_byte.BulkString text (drop (len + 2) after)
  header = record { bytes = rw dollar (ap (λ z. 36 ∷ z) is_line.0); unbroken = is_line.1 }

  pub opens-at : (n header_len : ℕ) → IsUtf8 text → length_in text ≡ Ok n → header_len ≡ len + 3
      → OpensBulk (c ∷ after) (record { header_len = header_len; body_len = n })
  opens-at n header_len u l e =
      let more : header_len ≡ suc (len + 2) = omega (arith, e) in
      let same : drop header_len (c ∷ after) ≡ drop (len + 2) after = ap (λ k. drop k (c ∷ after)) more in
      let size : length text ≡ len = (let w : len + 2 ≤ length after = found.0 in grind (arith, common_steps)) in
      record {
        opens = record {
          text = text;
          header = subst (Header (c ∷ after) type_byte.BulkString text) (sym same) header;
          text_is_utf8 = u;
          len = l;
        };
        len = omega (arith, e, size);
      }

  -- the line announces no body
  read-text : (d : ℕ) (later : List ℕ) → read (suc d) ((c ∷ after) ++ later)
      ≡ read_line (read d) type_byte.BulkString text (drop (len + 2) after ++ later)
  read-text d later = header-reads d (c ∷ after) text (drop (len + 2) after) later type_byte.BulkString header

  pub other-text : (IsUtf8 text → ⊥) → BeginsOther (c ∷ after)
  other-text bad zero later rest x h = absurd h.well_formed
  other-text bad (suc d) later rest x h =
      let e = sym (read-text d later) ∙ read-from_HasWellFormed (suc d) ((c ∷ after) ++ later) rest (BulkString x) h in
      let u : is_utf8 text ≡ false = not_true (is_utf8 text) (λ t. bad (IsUtf8-from_is_utf8 text t)) in
      let z = rw u at e in
      cc

  pub other-length : IsUtf8 text → (f : FrameFault) → length_in text ≡ Err f → BeginsOther (c ∷ after)
  other-length u f l zero later rest x h = absurd h.well_formed
  other-length u f l (suc d) later rest x h =
      by_number (integer_in text) refl l
    where
      e : read_line (read d) type_byte.BulkString text (drop (len + 2) after ++ later) ≡ got (BulkString x) rest
      e = sym (read-text d later) ∙ read-from_HasWellFormed (suc d) ((c ∷ after) ++ later) rest (BulkString x) h

      by_number : (r : Result ℤ FrameFault) → integer_in text ≡ r
          → ◌≡◌ {A = Result ℕ FrameFault} (elim r [ Ok z ↦ as_length z | Err f ↦ Err f ]) (Err f) → ⊥
      by_number (Ok (pos n)) i k = absurd (cc)
      by_number (Ok (negsuc n)) i k = let z = rw (is_utf8-from_IsUtf8 text u, i) at e in cc
      by_number (Err g) i k = let z = rw (is_utf8-from_IsUtf8 text u, i) at e in cc

-- no line has ended
pub in_header-nothing : InHeader []
in_header-nothing = record {
  looked = record { within = omega arith; none = λ k l. absurd (omega arith) };
  incomplete = λ d. IsIncomplete-from_read (d + 1) [] refl;
}

pub in_header-line : (c : ℕ) (after : List ℕ) → c ≡ 36 → FindsLine after None → InHeader (c ∷ after)
in_header-line c after dollar none =
    let l : line after ≡ incomplete = line-none after none in
    record {
      looked = (let s : length (c ∷ after) - 1 ≡ length after = omega arith in
          record { within = omega arith; none = subst (NoneBefore after) (sym s) none });
      incomplete = λ d. IsIncomplete-from_read (d + 1) (c ∷ after) (let s : d + 1 ≡ suc d = omega arith in
          rw (s, dollar, type_of-byte_of type_byte.BulkString, l) refl);
    }

-- more bytes came
pub in_header-longer : (u more : List ℕ) → InHeader u → IsLooked (u ++ more) (length u)
in_header-longer [] more h = record { within = omega arith; rest = Scanned-none (drop 1 more) }
in_header-longer (c ∷ u) more h =
    record { within = omega (arith, length-append u more); rest = Scanned-longer u more (length (c ∷ u) - 1) h.looked }

pub in_header-awaits : (l : Limits) (u : List ℕ) → AreLimits l → InHeader u → length u ≤ l.bytes → Awaits l u
in_header-awaits l u a h few =
    let one : 1 ≤ l.depth = a.depth.some in
    let d : l.depth - 1 + 1 ≡ l.depth = omega (arith, one) in
    record { few = few; incomplete = subst (λ k. IsIncomplete k u) d (h.incomplete (l.depth - 1)) }

-- what a prefix is of bytes and later ones, that is no longer than these
prefix-within : (p r u later : List ℕ) → u ++ later ≡ p ++ r → length p ≤ length u → u ≡ p ++ drop (length p) u
prefix-within [] r u later e l = refl
prefix-within (c ∷ p) r [] later e l = absurd (omega arith)
prefix-within (c ∷ p) r (d ∷ u) later e l =
    let first : d ≡ c = cc in
    let others : u ++ later ≡ p ++ r = cc in
    rw first (ap (λ z. c ∷ z) (prefix-within p r u later others (omega (arith, l))))

-- a header that takes more bytes than a value may have
pub too_long-other : (l : Limits) (u : List ℕ) → AreLimits l → InHeader u → l.bytes < length u → NoBulk l u
too_long-other l u a h more later rest x v =
    let one : 1 ≤ l.depth = a.depth.some in
    let d : l.depth - 1 + 1 ≡ l.depth = omega (arith, one) in
    let few : length v.prefix ≤ l.bytes = v.well_formed.few in
    (subst (λ k. IsIncomplete k u) d (h.incomplete (l.depth - 1))).no_value (BulkString x) (drop (length v.prefix) u)
    (record {
      prefix = v.prefix;
      whole = prefix-within v.prefix rest u later v.whole (omega (arith, few, more));
      well_formed = v.well_formed.well_formed;
    })

pub other-within : (l : Limits) (u : List ℕ) → BeginsOther u → NoBulk l u
other-within l u h later rest x v = h l.depth later rest x
    (record { prefix = v.prefix; whole = v.whole; well_formed = v.well_formed.well_formed })

-- the source was asked for what was needed, and all that came is held
pub finds : (b : List ℕ) (old at : State) (s t : Source) (found : Option BulkHeader) → FilledAsNeeded b old at s t
    → at.limits ≡ old.limits → IsBetweenValues at
    → MatchOption found (NoBulk at.limits at.unparsed) (OpensBulk at.unparsed) → Finds b old at s t found
finds b old at s t found k same rest what = record {
  filled = k.more.filled;
  source_gave = k.more.source_gave;
  received = k.more.received;
  needed = rw same k.needed;
  held = sym (rest.only (b ++ k.more.filled) k.more.stands);
  rest = rest;
  failures = k.more.failures;
  what = what;
}
