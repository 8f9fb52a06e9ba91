-- Answers of conversions, and lists that are converted item by item.
use Rattle.std.proofs.Common.{◌≡◌, List, [], ◌∷◌, ◌++◌, Vec, Global, Result, Ok, Err, IfErr, sym, subst}
use Rattle.std.specs.Result.{IsErr, IsErrAnd}
use Rattle.std.specs.List.{AllZip}
use Rattle.resp_errors.specs.declared.parsing_error.ParsingError.{ParsingError}
use Rattle.resp_errors.specs.declared.parsing_error.ParsingError.TheVariants as parsing
use Rattle.resp_value.specs.declared.value.Value.{Value}
use Rattle.resp_from.specs.Conversion.{RefusesIf, Converts, ConvertsList, Decides, AnyButMemory}

pub RefusesIf-along : {P Q : Type 0} (e : ParsingError) → (P → Q) → RefusesIf e P → RefusesIf e Q
RefusesIf-along (parsing.Described text) f h = f h
RefusesIf-along (parsing.Fault fault) f h = h
RefusesIf-along parsing.OutOfMemory f h = h

-- an error that is handed on
pub Converts-err : {X : Type 0} (Fits : X → Type 0) (r : Result X ParsingError) (e : ParsingError)
    → IsErr r × IsErrAnd r (λ d. d ≡ e) → RefusesIf e ((x : X) → Fits x → ⊥) → Converts Fits r
Converts-err Fits (Ok x) e h f = absurd (cc (h.0))
Converts-err {X} Fits (Err d) e h f = subst (λ b. RefusesIf b ((x : X) → Fits x → ⊥)) (sym h.1) f

-- the same where the value is made of another, which has none
pub Converts-shape : {X Y : Type 0} (P : Y → Type 0) (Q : X → Type 0) (r : Result X ParsingError) (e : ParsingError)
    → IsErr r × IsErrAnd r (λ d. d ≡ e) → RefusesIf e ((y : Y) → P y → ⊥) → ((x : X) → Q x → (y : Y) × P y)
    → Converts Q r
Converts-shape P Q r e h none back = Converts-err Q r e h
    (RefusesIf-along e (λ f x q. let y = back x q in f y.0 y.1) none)

pub ConvertsList-err : {X : Type 0} (Fits : List X → Type 0) (r : Result (Vec X Global) ParsingError) (e : ParsingError)
    → IsErr r × IsErrAnd r (λ d. d ≡ e) → RefusesIf e ((xs : List X) → Fits xs → ⊥) → ConvertsList Fits r
ConvertsList-err Fits (Ok x) e h f = absurd (cc (h.0))
ConvertsList-err {X} Fits (Err d) e h f = subst (λ b. RefusesIf b ((xs : List X) → Fits xs → ⊥)) (sym h.1) f

-- a list as a vector
pub as_vector : {X : Type 0} (Fits : List X → Type 0) (r : Result (Vec X Global) ParsingError) → ConvertsList Fits r
    → Converts (λ v. Fits v.items) r
as_vector Fits (Ok v) h = h
as_vector Fits (Err e) h = RefusesIf-along e (λ none v. none v.items) h

-- what a conversion says that takes no memory
pub Converts_decided : {X : Type 0} (Fits : X → Type 0) (r : Result X ParsingError) → Decides Fits r → Converts Fits r
Converts_decided Fits (Ok x) h = h
Converts_decided Fits (Err (parsing.Described text)) h = h.1
Converts_decided Fits (Err (parsing.Fault fault)) h = h.0
Converts_decided Fits (Err parsing.OutOfMemory) h = tt

pub no_memory_decided : {X : Type 0} (reply : Value) (Fits : X → Type 0) (r : Result X ParsingError) → Decides Fits r
    → IfErr r (AnyButMemory reply)
no_memory_decided reply Fits (Ok x) h = tt
no_memory_decided reply Fits (Err (parsing.Described text)) h = λ e. cc
no_memory_decided reply Fits (Err (parsing.Fault fault)) h = absurd h.0
no_memory_decided reply Fits (Err parsing.OutOfMemory) h = absurd h.0

pub AllZip-more : {A B : Type 0} (R : A → B → Type 0) (cs : List A) (bs : List B) (a : A) (b : B) → AllZip R cs bs
    → R a b → AllZip R (cs ++ a ∷ []) (bs ++ b ∷ [])
AllZip-more R [] [] a b h r = (r, tt)
AllZip-more R [] (y ∷ ys) a b h r = absurd h
AllZip-more R (x ∷ xs) [] a b h r = absurd h
AllZip-more R (x ∷ xs) (y ∷ ys) a b h r = (h.0, AllZip-more R xs ys a b h.1 r)

-- where one item has no partner, the list has none
AllZip-refused : {A B : Type 0} (R : A → B → Type 0) (cs : List A) (a : A) (more : List A) → ((b : B) → R a b → ⊥)
    → (bs : List B) → AllZip R (cs ++ a ∷ more) bs → ⊥
AllZip-refused R [] a more f [] h = h
AllZip-refused R [] a more f (y ∷ ys) h = f y h.0
AllZip-refused R (x ∷ xs) a more f [] h = h
AllZip-refused R (x ∷ xs) a more f (y ∷ ys) h = AllZip-refused R xs a more f ys h.1

pub AllZip-none : {A B : Type 0} (R : A → B → Type 0) (all done : List A) (a : A) (rest : List A)
    → all ≡ done ++ a ∷ rest → ((b : B) → R a b → ⊥) → (bs : List B) → AllZip R all bs → ⊥
AllZip-none R all done a rest e f bs h = AllZip-refused R done a rest f bs (subst (λ cs. AllZip R cs bs) e h)

pub ruleset decided = (Converts_decided, no_memory_decided)
