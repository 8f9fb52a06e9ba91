-- Arguments that are made of parts.
use Rattle.std.proofs.Common.{◌≡◌, ℕ, ◌<◌, List, [], ◌∷◌, ◌++◌, length, length-append, ap, ◌∙◌, append_assoc}
use Rattle.std.proofs.Common.{append-nil, refl, sym, arith, inl, Result, Ok, Err, OnOk, OnErr}
use Rattle.resp_errors.specs.declared.redis_error.RedisError.{RedisError}
use Rattle.resp_errors.specs.Memory.{OnlyMemory}
use Rattle.resp_args.specs.Args.{Args, extended, IsOnly, Writes}
use Rattle.resp_args.specs.Joined.{ExtendedInPart}

extended_last : (args : Args) (arg more : List ℕ) → extended (args ++ arg ∷ []) more ≡ args ++ (arg ++ more) ∷ []
extended_last [] arg more = refl
extended_last (x ∷ []) arg more = refl
extended_last (x ∷ y ∷ args) arg more = ap (λ rest. x ∷ rest) (extended_last (y ∷ args) arg more)

extended_by_none : (args : Args) → extended args [] ≡ args
extended_by_none [] = refl
extended_by_none (x ∷ []) = ap (λ arg. arg ∷ []) (append-nil x)
extended_by_none (x ∷ y ∷ args) = ap (λ rest. x ∷ rest) (extended_by_none (y ∷ args))

extended_twice : (args : Args) (a b : List ℕ) → extended (extended args a) b ≡ extended args (a ++ b)
extended_twice [] a b = refl
extended_twice (x ∷ []) a b = ap (λ arg. arg ∷ []) (append_assoc x a b)
extended_twice (x ∷ y ∷ []) a b = ap (λ arg. x ∷ arg ∷ []) (append_assoc y a b)
extended_twice (x ∷ y ∷ z ∷ args) a b = ap (λ rest. x ∷ rest) (extended_twice (y ∷ z ∷ args) a b)

-- an argument that was opened is there
pub opened : (old new : Args) → new ≡ old ++ [] ∷ [] → 0 < length new
opened old new is = omega (arith, ap length is, length-append old ([] ∷ []))

-- a refused part that left all as it was
pub none_done : (bytes : List ℕ) (old new : Args) (r : Result (Unit {0}) RedisError) → OnErr r (new ≡ old)
    → OnErr r (ExtendedInPart bytes old new)
none_done bytes old new (Ok x) err = tt
none_done bytes old new (Err e) err = record
    { done = []; left = bytes; in_order = refl; written = err ∙ sym (extended_by_none old) }

-- the first of two parts is refused
pub first_in_part : (a b : List ℕ) (old new : Args) (r : Result (Unit {0}) RedisError) → ExtendedInPart a old new
    → OnErr r (ExtendedInPart (a ++ b) old new)
first_in_part a b old new (Ok x) part = tt
first_in_part a b old new (Err e) part = record {
  done = part.done;
  left = part.left ++ b;
  in_order = ap (λ bytes. bytes ++ b) part.in_order ∙ append_assoc part.done part.left b;
  written = part.written;
}

-- the second of two parts is refused, where it is
pub second_in_part : (a b : List ℕ) (old mid new : Args) (r : Result (Unit {0}) RedisError) → mid ≡ extended old a
    → OnErr r (ExtendedInPart b mid new) → OnErr r (ExtendedInPart (a ++ b) old new)
second_in_part a b old mid new (Ok x) first part = tt
second_in_part a b old mid new (Err e) first part = record {
  done = a ++ part.done;
  left = part.left;
  in_order = ap (λ bytes. a ++ bytes) part.in_order ∙ sym (append_assoc a part.done part.left);
  written = part.written ∙ (ap (λ args. extended args part.done) first ∙ extended_twice old a part.done);
}

-- two parts are written
pub both_parts : (a b : List ℕ) (old mid new : Args) (r : Result (Unit {0}) RedisError) → mid ≡ extended old a
    → OnOk r (new ≡ extended mid b) → OnOk r (new ≡ extended old (a ++ b))
both_parts a b old mid new (Ok x) first second = second ∙ (ap (λ args. extended args b) first ∙ extended_twice old a b)
both_parts a b old mid new (Err e) first second = tt

-- an argument that was opened is written, as far as memory goes
pub writes_joined : (bytes : List ℕ) (old mid new : Args) (r : Result (Unit {0}) RedisError) → mid ≡ old ++ [] ∷ []
    → OnOk r (new ≡ extended mid bytes) → OnErr r (ExtendedInPart bytes mid new) → OnlyMemory r
    → Writes (IsOnly bytes) ⊥ old new r
writes_joined bytes old mid new (Ok x) empty ok err memory =
    ((bytes ∷ [], ok ∙ (ap (λ args. extended args bytes) empty ∙ extended_last old [] bytes), refl), λ refused. refused)
writes_joined bytes old mid new (Err e) empty ok err memory = (
  (err.done ∷ [], err.written ∙ (ap (λ args. extended args err.done) empty ∙ extended_last old [] err.done)),
  inl
      memory,
)
