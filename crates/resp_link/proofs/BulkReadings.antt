-- What stands at the start of bytes that begin with the header of a bulk string.
use Rattle.std.proofs.Common.{◌≡◌, ℕ, zero, suc, ◌+◌, ◌-◌, ◌<◌, ◌≤◌, List, [], ◌∷◌, ◌++◌, length, drop, refl, ap, sym}
use Rattle.std.proofs.Common.{◌∙◌, subst, arith, append_assoc, append-nil, length-append, Bool, true, false, cond, ◌==◌}
use Rattle.std.proofs.lemmas.Grind.{common_steps}
use Rattle.resp_value.specs.declared.value.Value.{BulkString}
use Rattle.resp_errors.specs.declared.kinds.FrameFault.TheVariants.{BodyEnd}
use Rattle.resp_parse.specs.declared.decoder.bulk_header.BulkHeader.{BulkHeader}
use Rattle.resp_parse.specs.declared.limits.Limits.{Limits}
use Rattle.resp_parse.specs.BulkBodies.{OpensBulk}
use Rattle.resp_parse.specs.Grammar.{EndIsMalformed}
use Rattle.resp_parse.specs.Limits.{AreLimits}
use Rattle.resp_parse.specs.Limited.{HasValue, HasFault, Awaits}
use Rattle.resp_parse.specs.Lines.{crlf}
use Rattle.resp_parse.specs.PlainReading.{ReadOutcome, got, fault, incomplete, then, end_of_body, read_body, read}
use Rattle.resp_parse.proofs.BodyReads.{body-reads, body-fails}
use Rattle.resp_parse.proofs.BulkBodies.{opens-reads, as_bulk}
use Rattle.resp_parse.proofs.LimitedReadings.{HasFault-all, HasFault-longer}
use Rattle.resp_parse.proofs.PrefixReads.{HasWellFormedPrefix-from_read, IsIncomplete-from_read}
use Rattle.resp_parse.proofs.ReadingMeetsGrammar.{read-malformed}

-- ---- a body of which something is lacking

pub body-lacks : (n : ℕ) (x : List ℕ) → length x ≤ n → read_body n x ≡ incomplete
body-lacks zero [] l = refl
body-lacks zero (c ∷ x) l = absurd (omega arith)
body-lacks (suc n) [] l = refl
body-lacks (suc n) (c ∷ x) l = rw (body-lacks n x (omega (arith, l))) refl

pub body-lacks_lf : (n : ℕ) (x : List ℕ) → length x ≡ n → read_body n (x ++ 13 ∷ []) ≡ incomplete
body-lacks_lf zero [] l = refl
body-lacks_lf zero (c ∷ x) l = absurd (omega arith)
body-lacks_lf (suc n) [] l = absurd (omega arith)
body-lacks_lf (suc n) (c ∷ x) l = rw (body-lacks_lf n x (omega (arith, l))) refl

lacks-end : (x : List ℕ) → end_of_body x ≡ incomplete → length x < 2
lacks-end [] e = omega arith
lacks-end (c ∷ []) e = omega arith
lacks-end (c ∷ d ∷ x) e = absurd (by_tests (c == 13) (d == 10) e)
  where
    by_tests : (s t : Bool) → ◌≡◌ {A = ReadOutcome (List ℕ)}
        (cond s (cond t (got [] x) (fault BodyEnd x)) (fault BodyEnd (d ∷ x))) incomplete → ⊥
    by_tests true true k = cc
    by_tests true false k = cc
    by_tests false t k = cc

-- it is shorter than the body and its CR LF
lacks-short : (n : ℕ) (x : List ℕ) → read_body n x ≡ incomplete → length x < n + 2
lacks-short zero x e = lacks-end x e
lacks-short (suc n) [] e = omega arith
lacks-short (suc n) (c ∷ x) e = by_rest (lacks-short n x) (read_body n x) refl e
  where
    by_rest : (read_body n x ≡ incomplete → length x < n + 2) → (o : ReadOutcome (List ℕ)) → read_body n x ≡ o → then o (λ y rest. got (c ∷ y) rest) ≡ incomplete
        → length (c ∷ x) < suc n + 2
    by_rest later (got y rest) k i = absurd (cc)
    by_rest later (fault f rest) k i = absurd (cc)
    by_rest later incomplete k i = let l = later k in omega (arith, l)

-- ---- after a header

pub opens-longer : (b more : List ℕ) (h : BulkHeader) → OpensBulk b h → OpensBulk (b ++ more) h
opens-longer b more h o =
    let bytes = o.opens.header.bytes in
    let size : length b ≡ length o.opens.text + 3 + length (drop h.header_len b) = ap length bytes
    ∙ grind (arith, common_steps) in
    let within : h.header_len ≤ length b = (let l = o.len in omega (arith, size, l)) in
    let after : drop h.header_len (b ++ more) ≡ drop h.header_len b ++ more = grind (arith, common_steps, within) in
    record {
      opens = record {
        text = o.opens.text;
        header = record {
          bytes = ap (λ z. z ++ more) bytes ∙ ap (λ z. 36 ∷ z)
              (append_assoc o.opens.text (crlf ++ drop h.header_len b) more
              ∙ ap (λ z. o.opens.text ++ (crlf ++ z)) (sym after));
          unbroken = o.opens.header.unbroken;
        };
        text_is_utf8 = o.opens.text_is_utf8;
        len = o.opens.len;
      };
      len = o.len;
    }

-- bytes that begin with a header, within the limits
module _ (l : Limits) (b : List ℕ) (h : BulkHeader) (are : AreLimits l) (o : OpensBulk b h)
    (fits : h.header_len + h.body_len + 2 ≤ l.bytes) where
  abbrev after : List ℕ
  after = drop h.header_len b

  depth-is : suc (l.depth - 1) ≡ l.depth
  depth-is = let one : 1 ≤ l.depth = are.depth.some in omega (arith, one)

  size : length b ≡ h.header_len + length after
  size = let e = o.len in
      let s : length b ≡ length o.opens.text + 3 + length after = ap length o.opens.header.bytes
      ∙ grind (arith, common_steps) in
      omega (arith, s, e)

  reads : (more : List ℕ) → read l.depth (b ++ more) ≡ as_bulk (read_body h.body_len (after ++ more))
  reads more = subst (λ d. read d (b ++ more) ≡ as_bulk (read_body h.body_len (after ++ more))) depth-is
      (opens-reads b h.body_len after o.opens (l.depth - 1) more)

  whole-size : (more : List ℕ) → length (b ++ more) ≡ h.header_len + length (after ++ more)
  whole-size more =
      let x = length-append b more in let y = length-append after more in omega (arith, x, y, size)

  pub bulk-awaits : (more : List ℕ) → read_body h.body_len (after ++ more) ≡ incomplete → Awaits l (b ++ more)
  bulk-awaits more e =
      let short = lacks-short h.body_len (after ++ more) e in
      let all = whole-size more in
      record {
        few = omega (arith, short, all, fits);
        incomplete = IsIncomplete-from_read l.depth (b ++ more) (reads more ∙ ap as_bulk e);
      }

  pub bulk-value : (more x rest : List ℕ) → length x ≡ h.body_len → after ++ more ≡ x ++ (crlf ++ rest)
      → HasValue l (b ++ more) (BulkString x) rest
  bulk-value more x rest n e =
      let body : read_body h.body_len (after ++ more) ≡ got x rest =
      ap (read_body h.body_len) (e ∙ sym (append_assoc x crlf rest)) ∙ body-reads h.body_len (x ++ crlf) x rest n refl in
      let p = HasWellFormedPrefix-from_read l.depth (b ++ more) rest (BulkString x) (reads more ∙ ap as_bulk body) in
      let all = whole-size more in
      let parts : length (after ++ more) ≡ length x + 2 + length rest = ap length e ∙ grind (arith, common_steps) in
      let split : length (b ++ more) ≡ length p.prefix + length rest = ap length p.whole
      ∙ length-append p.prefix rest in
      record {
        prefix = p.prefix;
        whole = p.whole;
        well_formed = record { well_formed = p.well_formed; few = omega (arith, all, parts, split, fits, n) };
      }

  pub bulk-fault : (more x rest : List ℕ) → EndIsMalformed h.body_len x → length x ≤ h.body_len + 2
      → after ++ more ≡ x ++ rest → HasFault l (b ++ more) BodyEnd
  bulk-fault more x rest bad few e =
      let body : read_body h.body_len (after ++ more) ≡ fault BodyEnd rest =
      ap (read_body h.body_len) e ∙ body-fails h.body_len x rest bad in
      let p = read-malformed l.depth (b ++ more) rest BodyEnd (reads more ∙ ap as_bulk body) in
      let all = whole-size more in
      let parts : length (after ++ more) ≡ length x + length rest = ap length e ∙ length-append x rest in
      let split : length (b ++ more) ≡ length p.prefix + length rest = ap length p.whole
      ∙ length-append p.prefix rest in
      let shown : HasFault l p.prefix BodyEnd = HasFault-all l p.prefix (omega (arith, all, parts, split, fits, few))
      BodyEnd (record {
        prefix = p.prefix;
        rest = [];
        whole = sym (append-nil p.prefix);
        malformed = p.is;
      }) in
      subst (λ z. HasFault l z BodyEnd) (sym p.whole) (HasFault-longer l p.prefix rest BodyEnd shown)

-- what follows the header, and then more bytes
pub opens-after : (b more : List ℕ) (h : BulkHeader) → OpensBulk b h
    → drop h.header_len (b ++ more) ≡ drop h.header_len b ++ more
opens-after b more h o =
    let size : length b ≡ length o.opens.text + 3 + length (drop h.header_len b) = ap length o.opens.header.bytes
    ∙ grind (arith, common_steps) in
    let within : h.header_len ≤ length b = (let l = o.len in omega (arith, size, l)) in
    grind (arith, common_steps, within)
