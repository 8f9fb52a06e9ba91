-- Links that are lent and given back.
use Rattle.std.specs.Prelude.{◌≡◌, ◌≢◌, ◌⊎◌, ℕ, ◌+◌, ◌<◌, ◌≤◌, ◌-◌, true, false, List, [], ◌∷◌, ◌++◌, length, Result, Ok, Err, None, codes}
use Rattle.resp_errors.specs.declared.kinds.ErrorKind.TheVariants.{Client}
use Rattle.resp_errors.specs.declared.redis_error.RedisError.{RedisError}
use Rattle.resp_errors.specs.declared.redis_error.RedisError.TheVariants.{General}
use Rattle.resp_command.specs.Connection.{Connection}

-- the links that wait, how many are lent, and how many there may be
pub record Links (L : Type 0) : Type 0 where
  pub idle : List L
  pub lent : ℕ
  pub most : ℕ

-- of so many, none so far
abbrev pub new_pool : {L : Type 0} → ℕ → Links L
new_pool most = record { idle = []; lent = 0; most = most }

abbrev pub AllWork : {L : Type 0} → (L → Connection) → List L → Type 0
AllWork of_link [] = Unit {0}
AllWork of_link (link ∷ links) = ((of_link link).broken ≡ false) × AllWork of_link links

-- each link that waits works, and there are no more than there may be
pub record IsPool {L : Type 0} (of_link : L → Connection) (idle : List L) (lent most : ℕ) : Type 0 where
  pub work : AllWork of_link idle
  pub within : length idle + lent ≤ most

abbrev pub used_up : RedisError
used_up = General Client (codes "every link of the pool is lent") None

-- a link is handed out; of one that is dialled this is known
pub data Gets {L : Type 0} (Greeted : L → Type 0) (old new : Links L) (r : Result L RedisError) :
    Type 0 where
  -- the last that was given back
  reused : (link : L) → old.idle ≡ new.idle ++ link ∷ []
      → new ≡ record old { idle = new.idle; lent = old.lent + 1 } → r ≡ Ok link
      → Gets Greeted old new r
  -- none waits, and another is dialled
  dialled : (link : L) → Greeted link → old.idle ≡ [] → old.lent < old.most
      → new ≡ record old { lent = old.lent + 1 } → r ≡ Ok link → Gets Greeted old new r
  -- that was refused
  refused : (e : RedisError) → old.idle ≡ [] → old.lent < old.most → new ≡ old → r ≡ Err e
      → Gets Greeted old new r
  -- none waits, and all are lent
  all_lent : old.idle ≡ [] → old.lent ≡ old.most → new ≡ old → r ≡ Err used_up
      → Gets Greeted old new r

-- a link is given back: it waits, or it is dropped, for lack of memory, too
pub record Puts {L : Type 0} (of_link : L → Connection) (link : L) (old new : Links L) : Type 0 where
  pub strange : old.lent ≡ 0 → new ≡ old
  pub broken : old.lent ≢ 0 → (of_link link).broken ≡ true → new ≡ record old { lent = old.lent - 1 }
  pub works : old.lent ≢ 0 → (of_link link).broken ≡ false
      → (new ≡ record old { idle = old.idle ++ link ∷ []; lent = old.lent - 1 })
      ⊎ (new ≡ record old { lent = old.lent - 1 })
