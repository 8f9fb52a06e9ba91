-- Values of few bytes that are read at once, where nothing is in progress.
use Rattle.std.proofs.Common.{◌≡◌, ℕ, ◌+◌, ◌<◌, ◌==◌, true, List, [], ◌∷◌, ◌++◌, length, take, drop, refl, ap, ◌∙◌}
use Rattle.std.proofs.Common.{arith, Some, Ok}
use Rattle.std.specs.List.{starts_with}
use Rattle.std.proofs.lemmas.Bool.{and_parts}
use Rattle.std.proofs.lemmas.Bool.Decides.{Decides-eqb}
use Rattle.resp_value.specs.declared.value.Value.{Value, Okay, BulkString}
use Rattle.resp_parse.specs.declared.machine.Machine.{Machine}
use Rattle.resp_parse.specs.declared.machine.Step.TheVariants as step
use Rattle.resp_parse.specs.declared.type_byte.TypeByte.{TypeByte}
use Rattle.resp_parse.specs.declared.type_byte.TypeByte.TheVariants as type_byte
use Rattle.resp_parse.specs.Grammar.{complete}
use Rattle.resp_parse.specs.Resume.{place, fresh_of, FindsLine, IsShortBulk, BeginsWithBulk, Steps, Completes}
use Rattle.resp_parse.specs.Shapes.{announced_in_line}
use Rattle.resp_parse.specs.TypeBytes.{type_of}
use Rattle.resp_parse.proofs.Announced.{announced-whole, ok-announced}
use Rattle.resp_parse.proofs.HeadersInPieces.{header-whole, header-bulk}
use Rattle.resp_parse.proofs.Holding.{nothing_open}

module _ {B : Type 0} (m : Machine B) (level : 0 < m.depth) (fresh : fresh_of m.body m.open_aggregates ≡ true)
    (unlooked : m.scanned ≡ 0) where
  completes : (bytes : List ℕ) (n : ℕ) (v : Value) → Steps m bytes m (Ok (step.Whole n v)) → Completes m bytes m n v
  completes bytes n v s = record {
    within = s.0.within;
    same = λ more. s.0.same more
        ∙ ap (λ fs. place m.depth fs v (drop n bytes ++ more)) (nothing_open m.body m.open_aggregates fresh).no_frame;
    fresh = fresh;
    scanned = unlooked;
  }

  inside : length m.open_aggregates < m.depth
  inside = omega (arith, level, ap length (nothing_open m.body m.open_aggregates fresh).no_frame)

  module _ (c : ℕ) (after : List ℕ) (kind : TypeByte) (kind_is : type_of c ≡ Some kind) (len : ℕ)
      (found : FindsLine after (Some len)) where
    -- the line announces a value that is whole with it
    pub scalar-line : (v : Value) → announced_in_line kind (take len after) ≡ complete v
        → Completes m (c ∷ after) m (len + 3) v
    scalar-line v a =
        let none = (nothing_open m.body m.open_aggregates fresh).no_body in
        completes (c ∷ after) (len + 3) v
        (header-whole m c after none inside kind kind_is len found m v unlooked
        (announced-whole m.depth m.open_aggregates (announced_in_line kind (take len after)) m v v a refl refl refl none))

  -- a bulk string of one digit or two
  pub scalar-bulk : (c : ℕ) (after : List ℕ) (len : ℕ) (body : List ℕ) → type_of c ≡ Some type_byte.BulkString
      → IsShortBulk after len body → Completes m (c ∷ after) m (len + 3 + (length body + 2)) (BulkString body)
  scalar-bulk c after len body kind_is b =
      let none = (nothing_open m.body m.open_aggregates fresh).no_body in
      let begins : BeginsWithBulk type_byte.BulkString (Some (length body)) (drop (len + 2) after) body = record
      { kind_is = refl; number_is = refl; begins = b.begins } in
      completes (c ∷ after) (len + 3 + (length body + 2)) (BulkString body)
      (header-bulk m c after none inside type_byte.BulkString kind_is len b.line m (Some (length body)) body b.number
      begins refl refl none unlooked)

-- the bytes begin with `OK` and CR LF
pub ok-line : (bs : List ℕ) → starts_with (λ a b. a == b) bs (79 ∷ 75 ∷ 13 ∷ 10 ∷ []) ≡ true
    → FindsLine bs (Some 2) × (announced_in_line type_byte.SimpleString (take 2 bs) ≡ complete Okay)
ok-line [] e = absurd (cc)
ok-line (a ∷ []) e = absurd (let p = and_parts (79 == a) _ e in cc)
ok-line (a ∷ b ∷ []) e = absurd (let p = and_parts (79 == a) _ e in let q = and_parts (75 == b) _ p.1 in cc)
ok-line (a ∷ b ∷ c ∷ []) e =
    absurd (let p = and_parts (79 == a) _ e in let q = and_parts (75 == b) _ p.1 in
    let r = and_parts (13 == c) _ q.1 in cc)
ok-line (a ∷ b ∷ c ∷ d ∷ bs) e =
    let p = and_parts (79 == a) _ e in
    let q = and_parts (75 == b) _ p.1 in
    let r = and_parts (13 == c) _ q.1 in
    let s = and_parts (10 == d) _ r.1 in
    let ea : 79 ≡ a = (Decides-eqb 79 a).0 p.0 in
    let eb : 75 ≡ b = (Decides-eqb 75 b).0 q.0 in
    let ec : 13 ≡ c = (Decides-eqb 13 c).0 r.0 in
    let ed : 10 ≡ d = (Decides-eqb 10 d).0 s.0 in
    rw (← ea, ← eb, ← ec, ← ed) ((omega arith, refl), ok-announced)
