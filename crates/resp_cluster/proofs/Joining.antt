-- Commands that go to one node together, and one more.
use Rattle.std.proofs.Common.{◌≡◌, ◌⊎◌, inl, inr, ℕ, ◌+◌, ◌<◌, List, [], ◌∷◌, ◌++◌, Option, None, Some}
use Rattle.std.proofs.Common.{length, take, drop, get_or, refl, sym, subst, ◌∙◌, arith}
use Rattle.std.specs.List.{Contains}
use Rattle.std.proofs.lemmas.List.{take_more, take-append-drop}
use Rattle.std.proofs.lemmas.List.Elements.{All-push, Contains-append_left, Contains-append_right}
use Rattle.resp_errors.specs.declared.redis_error.RedisError.{RedisError}
use Rattle.resp_command.specs.Command.{Command}
use Rattle.resp_routing.specs.Refusals.{redis_error_of}
use Rattle.resp_routing.specs.declared.commands.RequestPolicy.{RequestPolicy}
use Rattle.resp_routing.specs.declared.errors.RoutingError.TheVariants.{CrossSlot}
use Rattle.resp_routing.specs.declared.routes.Route.{Route}
use Rattle.resp_routing.specs.declared.routes.Route.TheVariants.{Slot, Keyless}
use Rattle.resp_cluster.specs.Cluster.{Goes}
use Rattle.resp_cluster.specs.Together.{AreApart, CannotGoTogether, GoTogether, IsKeyless, Joins, apart, first, second}

-- a command without keys that goes to one node goes to any
goes_to_any : (c : Command) (policy : Option RequestPolicy) → Goes c (Keyless policy) → Goes c (Keyless None)
goes_to_any c None goes = goes
goes_to_any c (Some policy) goes = absurd (let e = goes.to_one in cc)

goes_anywhere : (c : Command) (route : Route) → IsKeyless route → Goes c route → Goes c (Keyless None)
goes_anywhere c route keyless goes = goes_to_any c keyless.0 (subst (Goes c) keyless.1 goes)

the_last : {X : Type 0} (xs : List X) (x : X) → Contains (xs ++ x ∷ []) x
the_last xs x = Contains-append_right xs (x ∷ []) x (0, omega arith, refl)

module _ (commands : List Command) (command : Command) (one other both : Route) (h : GoTogether commands one)
    (goes : Goes command other) where
  still_one : (one ≡ Keyless None) ⊎ ((c : Command) × (Contains commands c × Goes c one))
      → (one ≡ Keyless None) ⊎ ((c : Command) × (Contains (commands ++ command ∷ []) c × Goes c one))
  still_one (inl none) = inl none
  still_one (inr some) = inr (some.0, (Contains-append_left commands (command ∷ []) some.0 some.1.0, some.1.1))

  by_first : (other ≡ one) ⊎ IsKeyless other → Goes command one ⊎ Goes command (Keyless None)
  by_first (inl same) = inl (subst (Goes command) same goes)
  by_first (inr keyless) = inr (goes_anywhere command other keyless goes)

  to_any : IsKeyless one → (c : Command) → Goes c one ⊎ Goes c (Keyless None) → Goes c other ⊎ Goes c (Keyless None)
  to_any keyless c (inl by_it) = inr (goes_anywhere c one keyless by_it)
  to_any keyless c (inr by_none) = inr by_none

  one_more : Joins one other both → GoTogether (commands ++ command ∷ []) both
  one_more (first is both_is) = subst (GoTogether (commands ++ command ∷ [])) (sym both_is) (record {
    each = All-push (λ c. Goes c one ⊎ Goes c (Keyless None)) commands command h.each (by_first is);
    one = still_one h.one;
  })
  one_more (second keyless both_is) = subst (GoTogether (commands ++ command ∷ [])) (sym both_is) (record {
    each = All-push (λ c. Goes c other ⊎ Goes c (Keyless None)) commands command
        (λ i d inside. to_any keyless (get_or commands i d) (h.each i d inside)) (inl goes);
    one = inr (command, (the_last commands command, goes));
  })

pub none_together : GoTogether [] (Keyless None)
none_together = record { each = λ i d inside. absurd (omega (arith, inside)); one = inl refl }

module _ (commands : List Command) (at : ℕ) (command : Command) (one other : Route) (h : GoTogether (take at commands) one)
    (within : at < length commands) (at_is : command ≡ get_or commands at command) (goes : Goes command other) where
  pub next_together : (both : Route) → Joins one other both → GoTogether (take (at + 1) commands) both
  next_together both joins =
      rw (take_more commands at command within, ← at_is) (one_more (take at commands) command one other both h goes joins)

  among : Contains commands command
  among = (at, within, sym at_is)

  among_taken : (c : Command) → Contains (take at commands) c → Contains commands c
  among_taken c has = subst (λ xs. Contains xs c) (take-append-drop at commands)
      (Contains-append_left (take at commands) (drop at commands) c has)

  apart_from : AreApart one other → (e : RedisError) → e ≡ redis_error_of CrossSlot
      → (one ≡ Keyless None) ⊎ ((c : Command) × (Contains (take at commands) c × Goes c one)) → CannotGoTogether commands e
  apart_from differ e is (inl none) = absurd (let s : Slot differ.slot ≡ Keyless None = sym differ.one_is ∙ none in cc)
  apart_from differ e is (inr some) = apart some.0 command differ.slot differ.elsewhere (among_taken some.0 some.1.0) among
      (subst (Goes some.0) differ.one_is some.1.1) (subst (Goes command) differ.other_is goes) differ.differ is

  pub next_apart : AreApart one other → (e : RedisError) → e ≡ redis_error_of CrossSlot → CannotGoTogether commands e
  next_apart differ e is = apart_from differ e is h.one
