-- What was counted, from one place to the next.
use Rattle.std.proofs.Common.{◌≡◌, ℕ, ◌+◌, sym, ap, ◌∙◌}
use Rattle.resp_parse.specs.Counts.{Counts}

-- only iterations were counted
abbrev pub SameButIterations : Counts → Counts → Type 0
SameButIterations c d = d ≡ record c { iterations = d.iterations }

pub same-iterate : (c d : Counts) → d ≡ record c { iterations = c.iterations + 1 } → SameButIterations c d
same-iterate c d h = h ∙ ap (λ (k : ℕ). record c { iterations = k }) (sym (ap (λ (t : Counts). t.iterations) h))

pub same-iterations : (c d e : Counts) → SameButIterations c d → SameButIterations d e → SameButIterations c e
same-iterations c d e h k = k ∙ ap (λ (t : Counts). record t { iterations = e.iterations }) h

-- only iterations, looks and bytes taken were counted
abbrev pub SameButExamined : Counts → Counts → Type 0
SameButExamined c d = d ≡ record c { iterations = d.iterations; looks = d.looks; examined = d.examined }

pub examined-iterations : (c d : Counts) → SameButIterations c d → SameButExamined c d
examined-iterations c d h = h ∙ ap
    (λ (t : Counts). record c { iterations = d.iterations; looks = t.looks; examined = t.examined }) (sym h)

pub examined-looks : (c d : Counts) → d ≡ record c { iterations = d.iterations; looks = d.looks } → SameButExamined c d
examined-looks c d h = h ∙ ap
    (λ (t : Counts). record c { iterations = d.iterations; looks = d.looks; examined = t.examined }) (sym h)

pub examined-take : (c d : Counts) (n : ℕ) → d ≡ record c { examined = c.examined + n } → SameButExamined c d
examined-take c d n h = h ∙ ap
    (λ (t : Counts). record c { iterations = t.iterations; looks = t.looks; examined = t.examined }) (sym h)

pub examined-both : (c d e : Counts) → SameButExamined c d → SameButExamined d e → SameButExamined c e
examined-both c d e h k = k ∙ ap
    (λ (t : Counts). record t { iterations = e.iterations; looks = e.looks; examined = e.examined }) h
