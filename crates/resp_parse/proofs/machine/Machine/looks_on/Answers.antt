use Rattle.std.proofs.Common.{◌≡◌, ◌<◌, ◌∷◌, [], None, length, rules, refl, sym, subst, arith}
use Rattle.std.proofs.lemmas.Grind.{common_steps}
use Rattle.resp_parse.specs.Resume.{IsLooked}
use Rattle.resp_parse.proofs.HeadersInPieces.{empty-waits, line-waits, looked-on}
use Rattle.resp_parse.proofs.machine.Machine.looks_on.Goals as goal

pub returns-clause-waits : goal.returns-clause-waits
returns-clause-waits g c = λ _.
    let first = c.in-Some.first.now in
    let after = c.in-Some.after.now in
    let l : length c.args.self.now.open_aggregates < c.args.self.now.depth = omega arith in
    let none : c.args.self.now.body ≡ None = search rules in
    let whole : c.args.bytes.now ≡ first ∷ after = c.in-Some.ensures.cases.0 in
    let n : c.args.self.now.scanned ≡ length after = sym c.if-after-self.false in
    let before : IsLooked c.args.bytes.now c.args.self.now.scanned = rw none at c.requires.scanned in
    let looked : IsLooked (first ∷ after) (length after) = subst (λ k. IsLooked (first ∷ after) k) n
    (subst (λ s. IsLooked s c.args.self.now.scanned) whole before) in
    rw whole
    (line-waits c.args.self.now first after none l c.in-Some-from_byte.field-0 (sym c.in-Some-from_byte.ensures.kind)
    (looked-on first after looked (rw whole at c.if-bytes-after-eq10.false)) _ refl)

pub returns-in_default-clause-waits : goal.returns-in_default-clause-waits
returns-in_default-clause-waits g c = λ _.
    let none : c.args.bytes.now ≡ [] = grind (arith, common_steps, c.in_default.ensures.cases) in
    empty-waits c.args.self.now c.args.bytes.now none c.requires.scanned
