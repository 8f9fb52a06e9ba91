-- The law of prefixes: two readings of the same bytes are one.
use Rattle.std.proofs.Common.{◌≡◌, ℕ, List, ◌++◌, sym, ◌∙◌, ap}
use Rattle.std.proofs.lemmas.List.{append_cancel_right}
use Rattle.resp_parse.specs.PlainReading.{read, got, fault}
use Rattle.resp_parse.specs.Laws.{LawOfPrefixes}
use Rattle.resp_parse.proofs.ReadingMeetsGrammar.{well_formed-reads, malformed-reads}

pub law_of_prefixes : (d : ℕ) (a x b y : List ℕ) → LawOfPrefixes d a x b y
law_of_prefixes d a x b y = record {
  values = λ v w e g h.
      let same : got v x ≡ got w y = sym (well_formed-reads d a x v g) ∙ ap (read d) e ∙ well_formed-reads d b y w h in
      let rest : x ≡ y = cc in
      (append_cancel_right a b y (ap (λ z. a ++ z) (sym rest) ∙ e), cc);
  faults = λ f g e i j.
      let same : fault f x ≡ fault g y = sym (malformed-reads d a x f i) ∙ ap (read d) e ∙ malformed-reads d b y g j in
      let rest : x ≡ y = cc in
      (append_cancel_right a b y (ap (λ z. a ++ z) (sym rest) ∙ e), cc);
  apart = λ v f e g i.
      let same : got v x ≡ fault f y = sym (well_formed-reads d a x v g) ∙ ap (read d) e ∙ malformed-reads d b y f i in
      cc;
}
