-- Headers whose bytes may not be all there.
use Rattle.std.proofs.Common.{◌≡◌, ℕ, zero, suc, ◌+◌, ◌-◌, ◌<◌, ◌≤◌, Bool, true, false, cond, List, [], ◌∷◌, ◌++◌}
use Rattle.std.proofs.Common.{length, take, drop, get_or, nat_lt, refl, ap, sym, ◌∙◌, arith, Option, Some, None, IfSome}
use Rattle.std.proofs.Common.{Ok, Err}
use Rattle.std.specs.Str.{is_utf8}
use Rattle.std.proofs.lemmas.Bool.{ltb-true, ltb-false}
use Rattle.resp_value.specs.declared.value.Value.{Value, BulkString}
use Rattle.resp_errors.specs.declared.kinds.FrameFault.TheVariants.{TooDeep, UnknownType, LineNotUtf8}
use Rattle.resp_parse.specs.declared.read_error.ReadError.{ReadError}
use Rattle.resp_parse.specs.declared.read_error.ReadError.TheVariants.{Memory, Fault}
use Rattle.resp_parse.specs.declared.type_byte.TypeByte.{TypeByte}
use Rattle.resp_parse.specs.declared.body.Body.{Body}
use Rattle.resp_parse.specs.declared.machine.Machine.{Machine}
use Rattle.resp_parse.specs.declared.machine.Step.TheVariants as step
use Rattle.resp_parse.specs.TypeBytes.{type_of}
use Rattle.resp_parse.specs.Lines.{NoneBefore, Scanned}
use Rattle.resp_parse.specs.Grammar.{announced, invalid, body as a_body}
use Rattle.resp_parse.specs.Number.{IsNumeral}
use Rattle.resp_parse.specs.declared.shape.BodyKind.TheVariants as body_kind
use Rattle.resp_parse.specs.Shapes.{announced_in_line, body_value}
use Rattle.resp_parse.specs.PlainReading.{ReadOutcome, fault, incomplete, then, made, read_body, read_announced}
use Rattle.resp_parse.specs.PlainReading.{read_line, read}
use Rattle.resp_parse.specs.Resume.{value_of, place, resume, depth_left, depth_below, IsLooked, IsScanned, FindsLine}
use Rattle.resp_parse.specs.Resume.{BeginsWithBulk, Goes, Steps}
use Rattle.resp_parse.proofs.Announced.{announced-bulk}
use Rattle.std.proofs.lemmas.Grind.{common_steps}
use Rattle.resp_parse.proofs.LineAt.{line-none}
use Rattle.resp_parse.proofs.LineReads.{line-longer}

-- nothing is read of no bytes
body-nothing : (n : ℕ) → read_body n [] ≡ incomplete
body-nothing zero = refl
body-nothing (suc n) = refl

value-nothing : (d : ℕ) (b : Option Body) → value_of d b [] ≡ incomplete
value-nothing d None = refl
value-nothing d (Some b) = rw (body-nothing b.missing) refl

pub resume-nothing : {B : Type 0} (m : Machine B) → resume m [] ≡ incomplete
resume-nothing m = rw (value-nothing (depth_left m.depth m.open_aggregates) m.body) refl

pub Scanned-none : (bs : List ℕ) → Scanned bs 0
Scanned-none bs = record { within = omega arith; none = λ k l. absurd (omega arith) }

pub IsScanned-zero : (b : Option Body) (n : ℕ) (bs : List ℕ) → n ≡ 0 → IsScanned b n bs
IsScanned-zero None n bs e = rw e (record { within = omega arith; rest = Scanned-none (drop 1 bs) })
IsScanned-zero (Some b) n bs e = e

-- a step that takes no byte and opens nothing
pub empty-waits : {B : Type 0} (m : Machine B) (bytes : List ℕ) → bytes ≡ [] → IsScanned m.body m.scanned bytes
    → Steps m bytes m (Ok (step.Waits 0))
empty-waits m bytes e s = record {
  within = omega arith;
  same = λ more. refl;
  waits = ap (resume m) e ∙ resume-nothing m;
  scanned = s;
  fresh = λ _. refl;
  begun = λ _. refl;
}

-- all bytes of a line were looked at
looked : (c : ℕ) (after : List ℕ) → NoneBefore after (length after) → IsLooked (c ∷ after) (suc (length after))
looked c after none =
    let e : suc (length after) - 1 ≡ length after = omega arith in
    record { within = omega arith; rest = rw e (record { within = omega arith; none = none }) }

-- and of one more, which isn't LF
pub looked-on : (c : ℕ) (after : List ℕ) → IsLooked (c ∷ after) (length after)
    → (get_or (c ∷ after) (length after) 0 ≡ 10 → ⊥) → NoneBefore after (length after)
looked-on c after h other k l cr lf = by_test (nat_lt (suc k) (length after - 1)) refl
  where
    by_test : (b : Bool) → nat_lt (suc k) (length after - 1) ≡ b → ⊥
    by_test true e = h.rest.none k (ltb-true _ _ e) cr lf
    by_test false e =
        let m : length after - 1 ≤ suc k = ltb-false _ _ e in
        let z : suc (suc k) ≡ length after = omega (arith, m, l) in
        other (ap (λ n. get_or (c ∷ after) n 0) (sym z) ∙ lf)

-- a line is read as what it announces
line-announces : (P : List ℕ → ReadOutcome Value) (kind : TypeByte) (text bs : List ℕ) → read_line P kind text bs
    ≡ read_announced P (announced_in_line kind text) bs
line-announces P kind text bs = by_test (is_utf8 text)
  where
    by_test : (u : Bool) → cond u (read_announced P (announced kind text) bs) (fault LineNotUtf8 bs)
        ≡ read_announced P (cond u (announced kind text) (invalid LineNotUtf8)) bs
    by_test true = refl
    by_test false = refl

-- a machine before a value, whose type byte is c
module _ {B : Type 0} (m : Machine B) (c : ℕ) (after : List ℕ) (body_is : m.body ≡ None) where
  before : (bs : List ℕ) → resume m bs ≡ then (read (depth_left m.depth m.open_aggregates) bs)
      (place m.depth m.open_aggregates)
  before bs = ap (λ o. then (value_of (depth_left m.depth m.open_aggregates) o bs) (place m.depth m.open_aggregates))
      body_is

  pub too_deep : (m' : Machine B) → m'.shown ≡ 1 → length m.open_aggregates ≡ m.depth
      → Steps m (c ∷ after) m' (Err (Fault TooDeep))
  too_deep m' i l =
      let z : depth_left m.depth m.open_aggregates ≡ 0 = omega arith in
      rw i (
        omega arith,
        λ more. before (c ∷ (after ++ more))
            ∙ ap (λ d. then (read d (c ∷ (after ++ more))) (place m.depth m.open_aggregates)) z,
      )

  module _ (l : length m.open_aggregates < m.depth) where
    level : depth_left m.depth m.open_aggregates ≡ suc (depth_below m.depth m.open_aggregates)
    level = omega arith

    leveled : (bs : List ℕ) → resume m bs ≡ then (read (suc (depth_below m.depth m.open_aggregates)) bs)
        (place m.depth m.open_aggregates)
    leveled bs = before bs ∙ ap (λ d. then (read d bs) (place m.depth m.open_aggregates)) level

    pub unknown_type : (m' : Machine B) → m'.shown ≡ 1 → type_of c ≡ None
        → Steps m (c ∷ after) m' (Err (Fault UnknownType))
    unknown_type m' i k = rw i (omega arith, λ more. leveled (c ∷ (after ++ more)) ∙ rw k refl)

    module _ (kind : TypeByte) (kind_is : type_of c ≡ Some kind) where
      pub line-waits : FindsLine after None → (m' : Machine B) → m' ≡ record m { scanned = suc (length after) }
          → Steps m (c ∷ after) m' (Ok (step.Waits 0))
      line-waits none m' i = rw i (record {
        within = omega arith;
        same = λ more. refl;
        waits = leveled (c ∷ after) ∙ rw (kind_is, line-none after none) refl;
        scanned = rw body_is (looked c after none);
        fresh = λ _. refl;
        begun = λ _. refl;
      })

      module _ (len : ℕ) (found : FindsLine after (Some len)) where
        text : List ℕ
        text = take len after

        rest : List ℕ
        rest = drop (len + 2) after

        header-reads : (more : List ℕ) → resume m (c ∷ (after ++ more))
            ≡ then (read_line (read (depth_below m.depth m.open_aggregates)) kind (take len after)
            (drop (len + 2) after ++ more)) (place m.depth m.open_aggregates)
        header-reads more = leveled (c ∷ (after ++ more))
            ∙ rw (kind_is, line-longer after more (take len after) (drop (len + 2) after) found.1) refl

        dropped : drop (len + 3) (c ∷ after) ≡ drop (len + 2) after
        dropped = let e : len + 3 ≡ suc (len + 2) = omega arith in rw e refl

        within : len + 3 ≤ length (c ∷ after)
        within = let l : len + 2 ≤ length after = found.0 in omega arith

        announced-reads : (more : List ℕ) → resume m (c ∷ (after ++ more))
            ≡ then (read_announced (read (depth_below m.depth m.open_aggregates))
            (announced_in_line kind (take len after)) (drop (len + 2) after ++ more)) (place m.depth m.open_aggregates)
        announced-reads more = header-reads more ∙ ap (λ o. then o (place m.depth m.open_aggregates))
            (line-announces (read (depth_below m.depth m.open_aggregates)) kind (take len after)
            (drop (len + 2) after ++ more))

        abbrev begins : List ℕ → ReadOutcome Value
        begins more = then (read_announced (read (depth_below m.depth m.open_aggregates)) (announced_in_line kind (take
            len after)) more) (place m.depth m.open_aggregates)

        pub header-stops : (m' end : Machine B) (e : ReadError) → end.shown ≡ len + 3 → Goes begins m' (Err e)
            → Steps m (c ∷ after) end (Err e)
        header-stops m' end Memory i g = tt
        header-stops m' end (Fault f) i g = rw i (
          within,
          λ more. announced-reads more ∙ g (drop (len + 2) after ++ more)
              ∙ ap (λ x. fault f (x ++ more)) (sym dropped),
        )

        pub header-goes : (m' : Machine B) → m'.scanned ≡ 0 → Goes begins m' (Ok None)
            → Steps m (c ∷ after) m' (Ok (step.Goes (len + 3)))
        header-goes m' s g = (
          record {
            some = omega arith;
            within = within;
            same = λ more. announced-reads more ∙ g.0 (drop (len + 2) after ++ more)
                ∙ ap (λ x. resume m' (x ++ more)) (sym dropped);
            scanned = s;
          },
          g.1,
        )

        pub header-whole : (m' : Machine B) (w : Value) → m'.scanned ≡ 0 → Goes begins m' (Ok (Some w))
            → Steps m (c ∷ after) m' (Ok (step.Whole (len + 3) w))
        header-whole m' w s g = (
          record {
            some = omega arith;
            within = within;
            same = λ more. announced-reads more ∙ g.0 (drop (len + 2) after ++ more)
                ∙ ap (λ x. place m'.depth m'.open_aggregates w (x ++ more)) (sym dropped);
            scanned = s;
          },
          g.1,
        )

        -- a bulk string, where its body and CR LF are at hand
        pub header-bulk : (m' : Machine B) (number : Option ℕ) (body : List ℕ)
            → IfSome number (IsNumeral (take len after)) → BeginsWithBulk kind number (drop (len + 2) after) body
            → m'.depth ≡ m.depth → m'.open_aggregates ≡ m.open_aggregates → m'.body ≡ None → m'.scanned ≡ 0 →
            Steps m (c ∷ after) m' (Ok (step.Whole (len + 3 + (length body + 2)) (BulkString body)))
        header-bulk m' number body numeral b d o none s =
            let n = length body in
            let i : IsNumeral (take len after) n = rw b.number_is at numeral in
            let a : announced_in_line kind (take len after)
            ≡ a_body n (body_value body_kind.Bulk) = ap (λ k. announced_in_line k (take len after)) b.kind_is
            ∙ announced-bulk (take len after) n i in
            let w : n + 2 ≤ length (drop (len + 2) after) = b.begins.within in
            let k : length (drop (len + 2) after) ≡ length after - (len + 2) = grind (arith, common_steps) in
            let e : len + 3 + (n + 2) ≡ suc (len + 2 + (n + 2)) = omega arith in
            let r : drop (n + 2) (drop (len + 2) after)
            ≡ drop (len + 3 + (n + 2)) (c ∷ after) = rw e (grind (arith, common_steps)) in (
              record {
                some = omega arith;
                within = omega (arith, w, k);
                same = λ more. announced-reads more
                    ∙ ap (λ x. then (read_announced (read (depth_below m.depth m.open_aggregates)) x (drop (len + 2)
                    after ++ more)) (place m.depth m.open_aggregates)) a
                    ∙ ap (λ x. then (then x (λ x rest. made (Ok (BulkString x)) rest))
                    (place m.depth m.open_aggregates)) (b.begins.reads more)
                    ∙ rw (d, o) (ap (λ x. place m.depth m.open_aggregates (BulkString body) (x ++ more)) r);
                scanned = s;
              },
              none,
            )
