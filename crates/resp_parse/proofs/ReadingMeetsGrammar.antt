-- Reading gives exactly what the grammar says.
use Rattle.std.proofs.Common.{◌≡◌, ℕ, zero, suc, Bool, true, false, cond, List, [], ◌∷◌, ◌++◌, refl, ap, sym, ◌∙◌}
use Rattle.std.proofs.Common.{subst, append_assoc, Option, None, Some, Result, Ok, Err}
use Rattle.std.specs.Str.{is_utf8}
use Rattle.std.proofs.lemmas.Str.{IsUtf8-from_is_utf8, is_utf8-from_IsUtf8}
use Rattle.resp_value.specs.declared.value.Value.{Value}
use Rattle.resp_errors.specs.declared.kinds.FrameFault.{FrameFault}
use Rattle.resp_errors.specs.declared.kinds.FrameFault.TheVariants.{TooDeep, UnknownType, LineNotUtf8}
use Rattle.resp_parse.specs.Lines.{crlf}
use Rattle.resp_parse.specs.declared.type_byte.TypeByte.{TypeByte}
use Rattle.resp_parse.specs.TypeBytes.{byte_of, type_of}
use Rattle.resp_parse.specs.Grammar.{Announcement, complete, body, elements, invalid, announced, Header, Follows}
use Rattle.resp_parse.specs.Grammar.{WellFormed, BodyIsMalformed, ElementsAreMalformed, FaultFollows, FaultShows}
use Rattle.resp_parse.specs.Grammar.{Malformed}
use Rattle.resp_parse.specs.PlainReading.{ReadOutcome, got, fault, line, read_body, read_elements, made, read_announced}
use Rattle.resp_parse.specs.PlainReading.{read_line, read_typed, read}
use Rattle.resp_parse.proofs.ByteTests.{not_true}
use Rattle.resp_parse.proofs.TypeBytes.{type_of-byte_of, byte_of-from_type_of, type_of-none, no_byte_of}
use Rattle.resp_parse.proofs.ReadingsInSequence.{then-got, then-fault, at_first, at_next}
use Rattle.resp_parse.proofs.LineReads.{line-reads, line-got, line-no_fault}
use Rattle.resp_parse.proofs.BodyReads.{body-reads, body-fails, body-got, body-fault}
use Rattle.resp_parse.proofs.ElementReads.{Prefix, append-prefix, ReadsWellFormed, ReadsMalformed, GivesWellFormed}
use Rattle.resp_parse.proofs.ElementReads.{GivesMalformed, elements-reads, elements-fail, elements-got, elements-fault}

made-got : (r : Result Value FrameFault) (mid rest : List ℕ) (v : Value) → made r mid ≡ got v rest → (r ≡ Ok v)
    × (mid ≡ rest)
made-got (Ok w) mid rest v e = ((let i : w ≡ v = cc in ap (λ z. Ok z) i), (let i : mid ≡ rest = cc in i))
made-got (Err f) mid rest v e = absurd (cc)

made-fault : (r : Result Value FrameFault) (mid rest : List ℕ) (f : FrameFault) → made r mid ≡ fault f rest
    → (r ≡ Err f) × (mid ≡ rest)
made-fault (Ok w) mid rest f e = absurd (cc)
made-fault (Err g) mid rest f e = ((let i : g ≡ f = cc in ap (λ z. Err z) i), (let i : mid ≡ rest = cc in i))

-- what a header announces
module _ (R : List ℕ → ReadOutcome Value) (G : List ℕ → Value → Type 0) (F : List ℕ → FrameFault → Type 0) where
  announced-reads : ReadsWellFormed R G → (a : Announcement) (b rest : List ℕ) (v : Value) → Follows G a b v
      → read_announced R a (b ++ rest) ≡ got v rest
  announced-reads well_formed (complete w) b rest v (e, f) = ap (λ s. got w (s ++ rest)) e
      ∙ ap (λ u. got u rest) (sym f)
  announced-reads well_formed (body n make) b rest v h = rw (body-reads n b h.content rest h.size h.whole, h.makes) refl
  announced-reads well_formed (elements n make) b rest v h = rw
      (elements-reads R G F well_formed n b rest h.values h.size h.joined, h.makes) refl
  announced-reads well_formed (invalid g) b rest v h = absurd h

  announced-fails : ReadsWellFormed R G → ReadsMalformed R F → (a : Announcement) (b rest : List ℕ) (f : FrameFault)
      → FaultFollows G F a b f → read_announced R a (b ++ rest) ≡ fault f rest
  announced-fails well_formed bad (complete w) b rest f h = absurd h
  announced-fails well_formed bad (body n make) b rest f (BodyIsMalformed.bad_end k w) = rw (body-fails n b rest w, k)
      refl
  announced-fails well_formed bad (body n make) b rest f (BodyIsMalformed.refused h) = rw
      (body-reads n b h.content rest h.size h.whole, h.makes) refl
  announced-fails well_formed bad (elements n make) b rest f (ElementsAreMalformed.bad_element w) = rw
      (elements-fail R G F well_formed bad n b rest f w) refl
  announced-fails well_formed bad (elements n make) b rest f (ElementsAreMalformed.refused h) = rw
      (elements-reads R G F well_formed n b rest h.values h.size h.joined, h.makes) refl
  announced-fails well_formed bad (invalid g) b rest f (e, k) = ap (λ s. fault g (s ++ rest)) e
      ∙ ap (λ i. fault i rest) (sym k)

  announced-got : GivesWellFormed R G → (a : Announcement) (bs rest : List ℕ) (v : Value) → read_announced R a bs
      ≡ got v rest → Prefix (Follows G a) bs rest v
  announced-got well_formed (complete w) bs rest v e = record
      { prefix = []; whole = (let k : bs ≡ rest = cc in k); is = (refl, (let k : v ≡ w = cc in k)) }
  announced-got well_formed (body n make) bs rest v e =
      let p = then-got (read_body n bs) (λ x r. made (make x) r) v rest e in
      let q = body-got n bs p.first p.mid p.got_first in
      let m = made-got (make p.first) p.mid rest v p.next in
      record {
        prefix = p.first ++ crlf;
        whole = append-prefix bs p.first (crlf ++ p.mid) crlf p.mid rest q.1 refl m.1;
        is = record { content = p.first; size = q.0; whole = refl; makes = m.0 };
      }
  announced-got well_formed (elements n make) bs rest v e =
      let p = then-got (read_elements R n bs) (λ vs r. made (make vs) r) v rest e in
      let q = elements-got R G F well_formed n bs p.first p.mid p.got_first in
      let m = made-got (make p.first) p.mid rest v p.next in
      record {
        prefix = q.prefix;
        whole = q.whole ∙ ap (λ s. q.prefix ++ s) m.1;
        is = record { values = p.first; size = q.size; joined = q.joined; makes = m.0 };
      }
  announced-got well_formed (invalid g) bs rest v e = absurd (cc)

  announced-fault : GivesWellFormed R G → GivesMalformed R F → (a : Announcement) (bs rest : List ℕ) (f : FrameFault)
      → read_announced R a bs ≡ fault f rest → Prefix (FaultFollows G F a) bs rest f
  announced-fault well_formed bad (complete w) bs rest f e = absurd (cc)
  announced-fault well_formed bad (body n make) bs rest f e = elim
      (then-fault (read_body n bs) (λ x r. made (make x) r) f rest e) [
        | at_first h ↦ let w = body-fault n bs f rest h in record
            { prefix = w.prefix; whole = w.whole; is = BodyIsMalformed.bad_end w.fault_is w.bad_end }
        | at_next p ↦ let q = body-got n bs p.first p.mid p.got_first in let m = made-fault (make p.first) p.mid rest f
            p.next in record {
              prefix = p.first ++ crlf;
              whole = append-prefix bs p.first (crlf ++ p.mid) crlf p.mid rest q.1 refl m.1;
              is = BodyIsMalformed.refused (record { content = p.first; size = q.0; whole = refl; makes = m.0 });
            }
      ]
  announced-fault well_formed bad (elements n make) bs rest f e = elim
      (then-fault (read_elements R n bs) (λ vs r. made (make vs) r) f rest e) [
        | at_first h ↦ let w = elements-fault R G F well_formed bad n bs rest f h in record
            { prefix = w.prefix; whole = w.whole; is = ElementsAreMalformed.bad_element w.is }
        | at_next p ↦ let q = elements-got R G F well_formed n bs p.first p.mid p.got_first in let m = made-fault
            (make p.first) p.mid rest f p.next in record {
              prefix = q.prefix;
              whole = q.whole ∙ ap (λ s. q.prefix ++ s) m.1;
              is = ElementsAreMalformed.refused
                  (record { values = p.first; size = q.size; joined = q.joined; makes = m.0 });
            }
      ]
  announced-fault well_formed bad (invalid g) bs rest f e = record
      { prefix = []; whole = (let k : bs ≡ rest = cc in k); is = (refl, (let k : f ≡ g = cc in k)) }

-- a header, and what follows it
pub header-reads : (d : ℕ) (b text tail rest : List ℕ) (kind : TypeByte) → Header b kind text tail
    → read (suc d) (b ++ rest) ≡ read_line (read d) kind text (tail ++ rest)
header-reads d b text tail rest kind h =
    let e : b ++ rest ≡ byte_of kind ∷ (text ++ (crlf ++ (tail ++ rest))) = ap (λ s. s ++ rest) h.bytes
    ∙ ap (λ s. byte_of kind ∷ s) (append_assoc text (crlf ++ tail) rest) in
    let l : line (text ++ (crlf ++ (tail ++ rest)))
    ≡ got text (tail ++ rest) = line-reads text (tail ++ rest) h.unbroken in
    ap (read (suc d)) e ∙ rw (type_of-byte_of kind, l) refl

pub well_formed-reads : (d : ℕ) → ReadsWellFormed (read d) (WellFormed d)
well_formed-reads zero b rest v g = absurd g
well_formed-reads (suc d) b rest v g =
    header-reads d b g.text g.rest rest g.kind g.header
    ∙ rw (is_utf8-from_IsUtf8 g.text g.text_is_utf8)
    (announced-reads (read d) (WellFormed d) (Malformed d) (well_formed-reads d) (announced g.kind g.text) g.rest
    rest v g.follows)

pub malformed-reads : (d : ℕ) → ReadsMalformed (read d) (Malformed d)
malformed-reads zero b rest f h = ap (λ s. read zero (s ++ rest)) h.whole ∙ ap (λ i. fault i rest) (sym h.fault_is)
malformed-reads (suc d) b rest f (FaultShows.unknown_type c e n k) = ap (λ s. read (suc d) (s ++ rest)) e
    ∙ rw (type_of-none c n, k) refl
malformed-reads (suc d) b rest f (FaultShows.line_not_utf8 kind text h u k) =
    let n : is_utf8 text ≡ false = not_true _ (λ t. u (IsUtf8-from_is_utf8 text t)) in
    header-reads d b text [] rest kind h ∙ rw (n, k) refl
malformed-reads (suc d) b rest f (FaultShows.after_header kind text tail h u w) =
    header-reads d b text tail rest kind h ∙ rw (is_utf8-from_IsUtf8 text u)
    (announced-fails (read d) (WellFormed d) (Malformed d) (well_formed-reads d) (malformed-reads d)
    (announced kind text) tail rest f w)

Header-from_line : (c : ℕ) (kind : TypeByte) (bs text rest : List ℕ) → type_of c ≡ Some kind → line bs ≡ got text rest
    → Header (c ∷ bs) kind text rest
Header-from_line c kind bs text rest k e =
    let p = line-got bs text rest e in
    record { bytes = ap (λ s. s ∷ bs) (byte_of-from_type_of c kind k) ∙ ap (λ s. byte_of kind ∷ s) p.0; unbroken = p.1 }

-- a header of which less follows
Header-cut : (b : List ℕ) (kind : TypeByte) (text x rest : List ℕ) → Header b kind text (x ++ rest)
    → (b ≡ (byte_of kind ∷ (text ++ (crlf ++ x))) ++ rest) × Header (byte_of kind ∷ (text ++ (crlf ++ x))) kind text x
Header-cut b kind text x rest h = (
  h.bytes ∙ ap (λ s. byte_of kind ∷ s) (sym (append_assoc text (crlf ++ x) rest)),
  record
      { bytes = refl; unbroken = h.unbroken },
)

pub read-well_formed : (d : ℕ) → GivesWellFormed (read d) (WellFormed d)
read-well_formed zero [] rest v e = absurd (cc)
read-well_formed zero (c ∷ bs) rest v e = absurd (cc)
read-well_formed (suc d) [] rest v e = absurd (cc)
read-well_formed (suc d) (c ∷ bs) rest v e = by_type (read-well_formed d) (type_of c) refl e
  where
    follows : GivesWellFormed (read d) (WellFormed d) → (kind : TypeByte) → type_of c ≡ Some kind → (text tail : List ℕ)
        → line bs ≡ got text tail → (u : Bool) → is_utf8 text ≡ u
        → cond u (read_announced (read d) (announced kind text) tail) (fault LineNotUtf8 tail) ≡ got v rest
        → Prefix (WellFormed (suc d)) (c ∷ bs) rest v
    follows deeper kind t text tail l true u k =
        let q = announced-got (read d) (WellFormed d) (Malformed d) deeper (announced kind text) tail rest v k in
        let h = Header-cut (c ∷ bs) kind text q.prefix rest
        (subst (λ s. Header (c ∷ bs) kind text s) q.whole (Header-from_line c kind bs text tail t l)) in
        record {
          prefix = byte_of kind ∷ (text ++ (crlf ++ q.prefix));
          whole = h.0;
          is = record {
            kind = kind;
            text = text;
            rest = q.prefix;
            header = h.1;
            text_is_utf8 = IsUtf8-from_is_utf8 text
                u;
            follows = q.is;
          };
        }
    follows deeper kind t text tail l false u k = absurd (cc)

    by_type : GivesWellFormed (read d) (WellFormed d) → (t : Option TypeByte) → type_of c ≡ t → read_typed (read d) t bs
        ≡ got v rest → Prefix (WellFormed (suc d)) (c ∷ bs) rest v
    by_type deeper (Some kind) t k =
        let p = then-got (line bs) (read_line (read d) kind) v rest k in
        follows deeper kind t p.first p.mid p.got_first (is_utf8 p.first) refl p.next
    by_type deeper None t k = absurd (cc)

pub read-malformed : (d : ℕ) → GivesMalformed (read d) (Malformed d)
read-malformed zero [] rest f e = absurd (cc)
read-malformed zero (c ∷ bs) rest f e = record {
  prefix = c ∷ [];
  whole = (let k : bs ≡ rest = cc in ap (λ s. c ∷ s) k);
  is = record { first = c; whole = refl; fault_is = (let k : f ≡ TooDeep = cc in k) };
}
read-malformed (suc d) [] rest f e = absurd (cc)
read-malformed (suc d) (c ∷ bs) rest f e = by_type (read-malformed d) (type_of c) refl e
  where
    follows : GivesMalformed (read d) (Malformed d) → (kind : TypeByte) → type_of c ≡ Some kind → (text tail : List ℕ)
        → line bs ≡ got text tail → (u : Bool) → is_utf8 text ≡ u
        → cond u (read_announced (read d) (announced kind text) tail) (fault LineNotUtf8 tail) ≡ fault f rest
        → Prefix (Malformed (suc d)) (c ∷ bs) rest f
    follows deeper kind t text tail l true u k =
        let q = announced-fault (read d) (WellFormed d) (Malformed d) (read-well_formed d) deeper (announced kind text)
        tail rest f k in
        let h = Header-cut (c ∷ bs) kind text q.prefix rest
        (subst (λ s. Header (c ∷ bs) kind text s) q.whole (Header-from_line c kind bs text tail t l)) in
        record {
          prefix = byte_of kind ∷ (text ++ (crlf ++ q.prefix));
          whole = h.0;
          is = FaultShows.after_header kind text q.prefix h.1 (IsUtf8-from_is_utf8 text u) q.is;
        }
    follows deeper kind t text tail l false u k =
        let er : tail ≡ rest = cc in
        let h = Header-cut (c ∷ bs) kind text [] rest
        (subst (λ s. Header (c ∷ bs) kind text s) er (Header-from_line c kind bs text tail t l)) in
        record {
          prefix = byte_of kind ∷ (text ++ (crlf ++ []));
          whole = h.0;
          is = FaultShows.line_not_utf8 kind text h.1 (λ w. absurd (let z = is_utf8-from_IsUtf8 text w in cc))
              (let i : f ≡ LineNotUtf8 = cc in i);
        }

    by_type : GivesMalformed (read d) (Malformed d) → (t : Option TypeByte) → type_of c ≡ t → read_typed (read d) t bs
        ≡ fault f rest → Prefix (Malformed (suc d)) (c ∷ bs) rest f
    by_type deeper (Some kind) t k = elim (then-fault (line bs) (read_line (read d) kind) f rest k) [
      | at_first h ↦ absurd (line-no_fault bs rest f h)
      | at_next p ↦ follows deeper kind t p.first p.mid p.got_first (is_utf8 p.first) refl p.next
    ]
    by_type deeper None t k = record {
      prefix = c ∷ [];
      whole = (let i : bs ≡ rest = cc in ap (λ s. c ∷ s) i);
      is = FaultShows.unknown_type c refl (no_byte_of c t) (let i : f ≡ UnknownType = cc in i);
    }
