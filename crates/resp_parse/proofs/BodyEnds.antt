-- The CR LF of a body, by place.
use Rattle.std.proofs.Common.{◌≡◌, ◌≢◌, ℕ, ◌<◌, true, false, List, [], ◌∷◌, ◌++◌, length, get_or, refl, arith, Ok, Err}
use Rattle.resp_parse.specs.Resume.{EndsBody}
use Rattle.resp_parse.proofs.BodyReads.{end-other}
use Rattle.resp_parse.proofs.ByteTests.{eq_true, eq_false}

pub end-empty : (bs : List ℕ) → length bs ≡ 0 → EndsBody bs (Ok false)
end-empty [] e = refl
end-empty (b ∷ bs) e = absurd (omega arith)

pub end-no_cr : (bs : List ℕ) → 0 < length bs → get_or bs 0 0 ≢ 13 → EndsBody bs (Err 1)
end-no_cr [] l n = absurd (omega arith)
end-no_cr (b ∷ bs) l n = (omega arith, λ more. end-other b (bs ++ more) n)

pub end-half : (bs : List ℕ) → length bs ≡ 1 → get_or bs 0 0 ≡ 13 → EndsBody bs (Ok false)
end-half [] l e = absurd (omega arith)
end-half (b ∷ []) l e = rw (eq_true b 13 e) refl
end-half (b ∷ c ∷ bs) l e = absurd (omega arith)

pub end-no_lf : (bs : List ℕ) → 1 < length bs → get_or bs 0 0 ≡ 13 → get_or bs 1 0 ≢ 10 → EndsBody bs (Err 2)
end-no_lf [] l e n = absurd (omega arith)
end-no_lf (b ∷ []) l e n = absurd (omega arith)
end-no_lf (b ∷ c ∷ bs) l e n = (omega arith, λ more. rw (eq_true b 13 e, eq_false c 10 n) refl)

pub end-whole : (bs : List ℕ) → 1 < length bs → get_or bs 0 0 ≡ 13 → get_or bs 1 0 ≡ 10 → EndsBody bs (Ok true)
end-whole [] l e n = absurd (omega arith)
end-whole (b ∷ []) l e n = absurd (omega arith)
end-whole (b ∷ c ∷ bs) l e n = (omega arith, λ more. rw (eq_true b 13 e, eq_true c 10 n) refl)

pub ruleset ends = (end-empty, end-no_cr, end-half, end-no_lf, end-whole)
