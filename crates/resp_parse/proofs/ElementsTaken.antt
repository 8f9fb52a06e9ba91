-- A bulk string of few bytes is an element of the innermost aggregate, and not its last.
use Rattle.std.proofs.Common.{◌≡◌, ℕ, ◌+◌, ◌*◌, ◌<◌, List, [], ◌∷◌, ◌++◌, length, drop, refl, ap}
use Rattle.std.proofs.Common.{sym, subst, ◌∙◌, arith, Some, None, Ok}
use Rattle.resp_value.specs.declared.value.Value.{Value, BulkString}
use Rattle.resp_parse.specs.declared.machine.Machine.{Machine}
use Rattle.resp_parse.specs.declared.machine.Step.TheVariants as step
use Rattle.resp_parse.specs.declared.open_aggregates.OpenAggregate.{OpenAggregate}
use Rattle.resp_parse.specs.declared.type_byte.TypeByte.TheVariants as type_byte
use Rattle.resp_parse.specs.declared.shape.BodyKind.TheVariants as body_kind
use Rattle.resp_parse.specs.Built.{built}
use Rattle.resp_parse.specs.Costs.{CostSoFar, aggregates_least_bytes, aggregates_potential, body_least_bytes}
use Rattle.resp_parse.specs.Costs.{body_potential, Looks, StepCost}
use Rattle.resp_parse.specs.Counts.{Counts}
use Rattle.resp_parse.specs.OpenAggregates.{KeptIn}
use Rattle.resp_parse.specs.Resume.{place, BeginsWithBulk, IsShortBulk, Steps, Ends, Ran}
use Rattle.resp_parse.specs.TypeBytes.{type_of}
use Rattle.resp_parse.proofs.AmortisedCost.{CostSoFar-attaches}
use Rattle.resp_parse.proofs.Attaching.{added-kept, built-more, least_bytes-now}
use Rattle.resp_parse.proofs.HeadersInPieces.{header-bulk}
use Rattle.resp_parse.proofs.Running.{Ran-attaches}
use Rattle.resp_parse.proofs.SameCounts.{examined-both, examined-iterations, examined-take, same-iterate}
use Rattle.resp_parse.proofs.Sizes.{body-small}

kept-length : (old new : List OpenAggregate) (v : Value) → KeptIn old v new → length new ≡ length old
kept-length old new v a = rw (a.old_is, a.new_is) refl

kept-potential : (old new : List OpenAggregate) (v : Value) → KeptIn old v new
    → aggregates_potential new ≡ aggregates_potential old
kept-potential old new v a = rw (a.old_is, a.new_is) refl

kept-least_bytes : (old new : List OpenAggregate) (v : Value) → KeptIn old v new
    → aggregates_least_bytes new ≡ aggregates_least_bytes old + 3 * built v
kept-least_bytes old new v a =
    let f = a.aggregate in
    let vs = f.seen ++ (v ∷ []) in
    let m = built-more old f a.outer a.old_is v vs refl in
    let l = least_bytes-now old f a.outer a.old_is v vs refl in
    let n = ap aggregates_least_bytes a.new_is in
    omega (arith, m, l, n)

module _ {B : Type 0} (m mid new : Machine B) (first : ℕ) (after : List ℕ) (len : ℕ) (body : List ℕ) (w : Value)
    (no_body : m.body ≡ None) (scanned : m.scanned ≡ 0) (level : length m.open_aggregates < m.depth)
    (dollar : first ≡ 36) (short : IsShortBulk after len body) (w_is : w ≡ BulkString body)
    (mid_depth : mid.depth ≡ m.depth) (mid_open : mid.open_aggregates ≡ m.open_aggregates) (mid_body : mid.body ≡ None)
    (mid_scanned : mid.scanned ≡ 0) (kept : KeptIn m.open_aggregates w new.open_aggregates)
    (new_depth : new.depth ≡ m.depth) (new_body : new.body ≡ None) (new_scanned : new.scanned ≡ 0) where
  abbrev taken : ℕ
  taken = len + 3 + (length body + 2)

  steps : Steps m (first ∷ after) mid (Ok (step.Whole taken w))
  unfolding type_of
  steps =
      let begins : BeginsWithBulk type_byte.BulkString (Some (length body)) (drop (len + 2) after) body = record
      { kind_is = refl; number_is = refl; begins = short.begins } in
      rw w_is
      (header-bulk m first after no_body level type_byte.BulkString (ap type_of dollar) len short.line mid
      (Some (length body)) body short.number begins mid_depth mid_open mid_body mid_scanned)

  ends : Ends (place mid.depth mid.open_aggregates w) new (Ok None)
  ends = added-kept mid.depth mid.open_aggregates w mid.open_aggregates w (λ more. refl) new
      (new_depth ∙ sym mid_depth) (rw mid_open kept) new_body

  pub level-kept : length new.open_aggregates < new.depth
  level-kept = omega (arith, kept-length m.open_aggregates new.open_aggregates w kept, level, new_depth)

  one : built w ≡ 1
  one = ap built w_is ∙ body-small body_kind.Bulk body _ refl

  -- the machine had taken bytes up to `at`
  module _ (old : Machine B) (bytes : List ℕ) (at : ℕ) (rest_is : drop at bytes ≡ first ∷ after) where
    pub Ran-element : Ran old m bytes at → Ran old new bytes (at + taken)
    Ran-element h = Ran-attaches old m bytes at h mid new taken w
        (subst (λ bs. Steps m bs mid (Ok (step.Whole taken w))) (sym rest_is) steps) ends
        (new_scanned ∙ sym mid_scanned) new_depth (let l = level-kept in omega (arith, l))

    -- the counts before it, with an iteration, with the bytes examined, and with one iteration more
    pub CostSoFar-element : (c d i e f : Counts) → CostSoFar old m c d at
        → i ≡ record d { iterations = d.iterations + 1 } → e ≡ record i { examined = i.examined + taken }
        → f ≡ record e { iterations = e.iterations + 1 } → CostSoFar old new c f (at + taken)
    CostSoFar-element c d i e f h di ie ef =
        let i-iterations : i.iterations ≡ d.iterations + 1 = ap (λ (t : Counts). t.iterations) di in
        let i-examined : i.examined ≡ d.examined = ap (λ (t : Counts). t.examined) di in
        let i-looks : i.looks ≡ d.looks = ap (λ (t : Counts). t.looks) di in
        let e-iterations : e.iterations ≡ i.iterations = ap (λ (t : Counts). t.iterations) ie in
        let e-examined : e.examined ≡ i.examined + taken = ap (λ (t : Counts). t.examined) ie in
        let e-looks : e.looks ≡ i.looks = ap (λ (t : Counts). t.looks) ie in
        let f-iterations : f.iterations ≡ e.iterations + 1 = ap (λ (t : Counts). t.iterations) ef in
        let p-mid : aggregates_potential mid.open_aggregates
        ≡ aggregates_potential m.open_aggregates = ap aggregates_potential mid_open in
        let b-mid : aggregates_least_bytes mid.open_aggregates
        ≡ aggregates_least_bytes m.open_aggregates = ap aggregates_least_bytes mid_open in
        let p-new = kept-potential m.open_aggregates new.open_aggregates w kept in
        let b-new = kept-least_bytes m.open_aggregates new.open_aggregates w kept in
        let p0 : body_potential m.body ≡ 0 = ap body_potential no_body in
        let p1 : body_potential mid.body ≡ 0 = ap body_potential mid_body in
        let p2 : body_potential new.body ≡ 0 = ap body_potential new_body in
        let b0 : body_least_bytes m.body ≡ 0 = ap body_least_bytes no_body in
        let b1 : body_least_bytes mid.body ≡ 0 = ap body_least_bytes mid_body in
        let b2 : body_least_bytes new.body ≡ 0 = ap body_least_bytes new_body in
        let begun : Counts = record d { iterations = d.iterations + 1 } in
        let looks : Looks m mid (record d { iterations = d.iterations + 1 }) e taken = record {
          same = examined-both begun i e
              (examined-iterations begun i (di ∙ ap (λ (k : ℕ). record d { iterations = k }) (sym i-iterations)))
              (examined-take i e taken ie);
          once = omega (arith, e-looks, i-looks, e-examined, i-examined);
          examined = omega (arith, e-examined, i-examined, scanned, mid_scanned);
        } in
        let cost : StepCost m mid bytes d e (Ok (step.Whole taken w)) = (
          looks,
          omega (arith, e-iterations, i-iterations, e-examined, i-examined, p-mid, p0, p1, scanned, mid_scanned),
        ) in
        CostSoFar-attaches old m c d at h mid new e f bytes taken w cost
        (omega (arith, b-mid, b0, b1, one)) (same-iterate e f ef)
        (omega (arith, f-iterations, p-new, p-mid, p1, p2))
        (omega (arith, b-new, b-mid, b1, b2)) (new_scanned ∙ sym mid_scanned)
