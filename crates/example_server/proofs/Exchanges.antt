-- Requests that are answered one after another.
use Rattle.std.proofs.Common.{◌≡◌, ℕ, List, [], ◌∷◌, ◌++◌, refl, sym, ap, ◌∙◌, subst, append_assoc, append-nil}
use Rattle.example_server.specs.Requests.{ahead, goes_on, pending, reading, request, between}
use Rattle.example_server.specs.Serving.{Answered, Begins, Exchange, Served, Serves, written_for}
use Rattle.example_server.specs.declared.server.Server.{Server}
use Rattle.example_server.specs.declared.session.Session.{Session}

-- more bytes come
more_left : (xs : List Exchange) (old new : Session) (b left more : List ℕ) → Serves old b new left xs
    → Serves old (b ++ more) new (left ++ more) xs
more_left [] old new b left more h = (h.0, ap (λ x. x ++ more) h.1)
more_left (x ∷ xs) old new b left more h = (
  h.0,
  h.1 ++ more,
  λ others. ap reading (append_assoc b more others) ∙ h.2 (more ++ others)
      ∙ ap (request x.words) (sym (append_assoc h.1 more others)),
  h.3,
  more_left xs h.0 new h.1 left more h.4,
)

-- one more request is answered
one_more : (xs : List Exchange) (old new next : Session) (b left rest : List ℕ) (x : Exchange)
    → Serves old b new left xs
    → Begins left x.words rest → Answered x.words new next x.written → Serves old b next rest (xs ++ x ∷ [])
one_more [] old new next b left rest x h k a = (
  next,
  rest,
  (λ more. ap (λ z. reading (z ++ more)) (sym h.1)
      ∙ k more),
  subst (λ s. Answered x.words s next x.written) h.0 a,
  (refl, refl),
)
one_more (y ∷ ys) old new next b left rest x h k a =
    (h.0, h.1, h.2, h.3, one_more ys h.0 new next h.1 left rest x h.4 k a)

written_more : (xs : List Exchange) (x : Exchange) → written_for xs ++ x.written ≡ written_for (xs ++ x ∷ [])
written_more [] x = sym (append-nil x.written)
written_more (y ∷ ys) x = append_assoc y.written (written_for ys) x.written
    ∙ ap (λ z. y.written ++ z) (written_more ys x)

-- bytes that come are left
pub fed : (start : Session) (b w bytes : List ℕ) (old new : Server) → Served start b w old → new.session ≡ old.session
    → pending new.requests ≡ record (pending old.requests) { unread = (pending old.requests).unread ++ bytes }
    → Served start (b ++ bytes) w new
fed start b w bytes old new h s p = record {
  exchanges = h.exchanges;
  left = h.left ++ bytes;
  serves = subst (λ t. Serves start (b ++ bytes) t (h.left ++ bytes) h.exchanges) (sym s)
      (more_left h.exchanges start old.session b h.left bytes h.serves);
  written = h.written;
  next = λ more. ap (λ q. ahead q more) p
      ∙ ap (goes_on (pending old.requests).words (pending old.requests).missing) (append_assoc (pending
      old.requests).unread bytes more)
      ∙ h.next (bytes ++ more) ∙ ap reading (sym (append_assoc h.left bytes more));
}

-- a request that was taken and answered
pub answered : (start : Session) (b w : List ℕ) (old new : Server) (words : List (List ℕ)) (written : List ℕ)
    → Served start b w old
    → pending new.requests ≡ between (pending new.requests).unread
    → ((more : List ℕ) → ahead (pending old.requests) more ≡ request words ((pending new.requests).unread ++ more))
    → Answered words old.session new.session written → Served start b (w ++ written) new
answered start b w old new words written h p t a =
    let x : Exchange = record { words = words; written = written } in
    record {
      exchanges = h.exchanges ++ x ∷ [];
      left = (pending new.requests).unread;
      serves = one_more h.exchanges start old.session new.session b h.left (pending new.requests).unread x h.serves
          (λ more. sym (h.next more) ∙ t more) a;
      written = ap (λ z. z ++ written) h.written ∙ written_more h.exchanges x;
      next = λ more. ap (λ q. ahead q more) p;
    }

-- nothing was taken
pub nothing : (start : Session) (b w : List ℕ) (old new : Server) → Served start b w old → new.session ≡ old.session
    → ((more : List ℕ) → ahead (pending new.requests) more ≡ ahead (pending old.requests) more) → Served start b w new
nothing start b w old new h s t = record {
  exchanges = h.exchanges;
  left = h.left;
  serves = subst (λ z. Serves start b z h.left h.exchanges) (sym s) h.serves;
  written = h.written;
  next = λ more. t more ∙ h.next more;
}
