-- A loop that sends the whole of a request.
use Rattle.std.proofs.Common.{◌≡◌, ℕ, ◌+◌, ◌-◌, ◌≤◌, ◌++◌, Option, None, Some, List, [], length, take, drop, refl}
use Rattle.std.proofs.Common.{arith, ap, sym, subst, ◌∙◌, append_assoc, append-nil, length-drop, Ok, Err}
use Rattle.std.specs.Io.KnownBytes.{Appends, Keeps}
use Rattle.std.proofs.lemmas.List.{take-append-drop, take_all}
use Rattle.std.proofs.Math.Seq.{take-add}
use Rattle.resp_errors.specs.declared.kinds.IoKind.{IoKind}
use Rattle.resp_link.specs.Sink.{Sink, Sends, Flushes, SendsAll}

-- the first bytes of the request were sent
pub record SentSoFar (start now : Sink) (q : List ℕ) (done : ℕ) : Type 0 where
  pub within : done ≤ length q
  pub sent : now.sent ≡ start.sent ++ take done q
  pub holds : Appends start.holds now.holds (take done q)
  pub failures : now.failures ≡ start.failures

-- ---- what a sink holds

pub grown-nothing : (known : Option (List ℕ)) → Appends known known []
grown-nothing None = tt
grown-nothing (Some xs) = sym (append-nil xs)

pub grown-both : (s t u : Option (List ℕ)) (a b : List ℕ) → Appends s t a → Appends t u b → Appends s u (a ++ b)
grown-both None t u a b h k = tt
grown-both (Some x) None u a b h k = absurd h
grown-both (Some x) (Some y) None a b h k = k
grown-both (Some x) (Some y) (Some z) a b h k = k ∙ ap (λ w. w ++ b) h ∙ append_assoc x a b

grown-kept : (s t u : Option (List ℕ)) (a : List ℕ) → Appends s t a → Keeps t u → Appends s u a
grown-kept None t u a h k = tt
grown-kept (Some x) None u a h k = absurd h
grown-kept (Some x) (Some y) None a h k = k
grown-kept (Some x) (Some y) (Some z) a h k = k ∙ h

-- ----

-- what is left of the request, in the form in which the code passes it
left : (q : List ℕ) (done : ℕ) → take (length q - done) (drop done q) ≡ drop done q
left q done = take_all (length q - done) (drop done q) (omega (arith, length-drop done q))

further : (q : List ℕ) (done n : ℕ) → take done q ++ take n (drop done q) ≡ take (done + n) q
further q done n = sym (take-add done n q)

pub sent_nothing : (start : Sink) (q : List ℕ) → SentSoFar start start q 0
sent_nothing start q = record {
  within = omega arith;
  sent = sym (append-nil start.sent);
  holds = grown-nothing start.holds;
  failures = refl;
}

pub sent_more : (start now next : Sink) (q : List ℕ) (done n : ℕ) → SentSoFar start now q done
    → Sends now next (take (length q - done) (drop done q)) (Ok n) → SentSoFar start next q (done + n)
sent_more start now next q done n so_far step = let step' = rw (left q done) at step in record {
  within = let b : n ≤ length (drop done q) = step'.bound in omega (arith, so_far.within, length-drop done q);
  sent = step'.sent ∙ ap (λ z. z ++ take n (drop done q)) so_far.sent ∙ append_assoc start.sent (take done q)
      (take n (drop done q)) ∙ ap (λ z. start.sent ++ z) (further q done n);
  holds = subst (Appends start.holds next.holds) (further q done n)
      (grown-both start.holds now.holds next.holds (take done q) (take n (drop done q)) so_far.holds step'.holds);
  failures = step'.failures ∙ so_far.failures;
}

pub sending_failed : (start now next : Sink) (q given : List ℕ) (done : ℕ) (kind : IoKind) → SentSoFar start now q done
    → Sends now next given (Err kind) → SendsAll start next q (Err kind)
sending_failed start now next q given done kind so_far step = record {
  gone = take done q;
  sent = step.sent ∙ so_far.sent;
  holds = grown-kept start.holds now.holds next.holds (take done q) so_far.holds step.holds;
  part = record { rest = drop done q; whole = sym (take-append-drop done q) };
  failures = rw (← so_far.failures) step.failures;
  flushed = tt;
}

-- all was sent, and then flushed
module _ (start now next : Sink) (q : List ℕ) (done : ℕ) (so_far : SentSoFar start now q done) (whole : length q ≤ done)
  where
    all : take done q ≡ q
    all = take_all done q whole

    pub flushed_all : Flushes now next (Ok tt) → SendsAll start next q (Ok tt)
    flushed_all h = record {
      gone = take done q;
      sent = h.sent ∙ so_far.sent;
      holds = grown-kept start.holds now.holds next.holds (take done q) so_far.holds h.holds;
      part = all;
      failures = h.failures ∙ so_far.failures;
      flushed = h.flushed;
    }

    pub flushing_failed : (kind : IoKind) → Flushes now next (Err kind) → SendsAll start next q (Err kind)
    flushing_failed kind h = record {
      gone = take done q;
      sent = h.sent ∙ so_far.sent;
      holds = grown-kept start.holds now.holds next.holds (take done q) so_far.holds h.holds;
      part = record { rest = []; whole = sym all ∙ sym (append-nil (take done q)) };
      failures = rw (← so_far.failures) h.failures;
      flushed = tt;
    }
