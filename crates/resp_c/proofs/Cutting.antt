-- Lists that are cut into pieces of given sizes.
use Rattle.std.proofs.Common.{◌≡◌, ℕ, zero, suc, ◌+◌, ◌<◌, length, get_or, List, [], ◌∷◌, take, drop, Result, Ok, Err}
use Rattle.std.proofs.Common.{IsErr, IsErrAnd, is_err, OnOk, false, ◌++◌, IfErr, subst, refl, ap, sym, ◌∙◌, arith}
use Rattle.std.proofs.lemmas.List.{drop-drop, drop_more, map-append}
use Rattle.resp_command.specs.Command.{Command, new_command}
use Rattle.resp_pipeline.specs.Pipeline.{Plan, with_command, args_of_commands}
use Rattle.resp_c.proofs.Bools.{true_is_not_false}
use Rattle.resp_c.specs.Packing.{cuts, total, Refuses}

-- what is left after some and then others
pub drop_after : {A : Type 0} (k m : ℕ) (xs : List A) → drop m (drop k xs) ≡ drop (k + m) xs
drop_after k m xs = drop-drop m k xs

-- the first pieces are those of the first sizes
pub take-cuts : {A : Type 0} (n : ℕ) (ns : List ℕ) (xs : List A) → take n (cuts ns xs) ≡ cuts (take n ns) xs
take-cuts zero ns xs = refl
take-cuts (suc n) [] xs = refl
take-cuts (suc n) (k ∷ ns) xs = ap (λ ys. take k xs ∷ ys) (take-cuts n ns (drop k xs))

-- and the others begin after them
pub drop-cuts : {A : Type 0} (n : ℕ) (ns : List ℕ) (xs : List A)
    → drop n (cuts ns xs) ≡ cuts (drop n ns) (drop (total (take n ns)) xs)
drop-cuts zero ns xs = refl
drop-cuts (suc n) [] xs = refl
drop-cuts (suc n) (k ∷ ns) xs = drop-cuts n ns (drop k xs) ∙ ap (λ ys. cuts (drop n ns) ys)
    (drop_after k (total (take n ns)) xs)

pub total-take-drop : (n : ℕ) (ns : List ℕ) → total (take n ns) + total (drop n ns) ≡ total ns
total-take-drop zero ns = omega arith
total-take-drop (suc n) [] = refl
total-take-drop (suc n) (k ∷ ns) = let h = total-take-drop n ns in omega (arith, h)

-- a piece is taken, of those that are left
pub cut_next : (ns : List ℕ) (i : ℕ) (xs ys : List ℕ) → i < length ns → ys ≡ drop (get_or ns i 0) xs
    → (cuts (drop i ns) xs ≡ take (get_or ns i 0) xs ∷ cuts (drop (i + 1) ns) ys)
    × (drop (total (drop i ns)) xs ≡ drop (total (drop (i + 1) ns)) ys)
cut_next ns i xs ys inside later =
    let n = get_or ns i 0 in let rest = drop (i + 1) ns in
    let more : drop i ns ≡ n ∷ rest = drop_more ns i 0 inside in (
      ap (λ (ms : List ℕ). cuts ms xs) more ∙ ap (λ (zs : List ℕ). take n xs ∷ cuts rest zs) (sym later),
      ap (λ (ms : List ℕ). drop (total ms) xs) more ∙ sym (drop_after n (total rest) xs)
          ∙ ap (λ (zs : List ℕ). drop (total rest) zs) (sym later),
    )

pub total-drop : (ns : List ℕ) (i : ℕ) → i < length ns → total (drop i ns) ≡ get_or ns i 0 + total (drop (i + 1) ns)
total-drop ns i inside = ap total (drop_more ns i 0 inside)

-- the arguments of a command are taken, of those that are left
pub command_next : (counts : List ℕ) (i : ℕ) (sizes args own later rest : List ℕ) → i < length counts
    → own ≡ take (get_or counts i 0) sizes → later ≡ drop (get_or counts i 0) sizes → rest ≡ drop (total own) args
    → cuts (drop i counts) (cuts sizes args) ≡ cuts own args ∷ cuts (drop (i + 1) counts) (cuts later rest)
command_next counts i sizes args own later rest inside own_is later_is rest_is =
    let n = get_or counts i 0 in let others = drop (i + 1) counts in
    rw (rest_is, own_is, later_is)
    (ap (λ (ms : List ℕ). cuts ms (cuts sizes args)) (drop_more counts i 0 inside)
    ∙ ap (λ (p : List (List ℕ)). p ∷ cuts others (drop n (cuts sizes args))) (take-cuts n sizes args)
    ∙ ap (λ (q : List (List ℕ)). cuts (take n sizes) args ∷ cuts others q) (drop-cuts n sizes args))

pub total-parts : (sizes own later : List ℕ) (n : ℕ) → own ≡ take n sizes → later ≡ drop n sizes
    → total own + total later ≡ total sizes
total-parts sizes own later n own_is later_is = rw (own_is, later_is) (total-take-drop n sizes)

-- a refusal for one reason is one for another from which it follows
pub refuses_more : {Fits Other : Type 0} (status : ℕ) → (Other → Fits) → Refuses Fits status → Refuses Other status
refuses_more status f (Refuses.memory is) = Refuses.memory is
refuses_more status f (Refuses.range is not) = Refuses.range is (λ o. not (f o))

pub exit_refuses : {X Fits Other : Type 0} (r : Result X ℕ) (e : ℕ) → IsErr r × IsErrAnd r (λ d. d ≡ e) → (Other → Fits)
    → Refuses Fits e → IfErr r (Refuses Other)
exit_refuses (Ok x) e h f g = tt
exit_refuses (Err d) e h f g = subst (Refuses _) (sym h.1) (refuses_more e f g)

-- a command was added
pub command_added : {E : Type 0} (r : Result (Unit {0}) E) (old new : Plan) (command : Command) (args : List (List ℕ))
    → is_err r ≡ false → OnOk r (new ≡ with_command old command)
    → command ≡ record new_command { args = args } → args_of_commands new.commands ≡ args_of_commands old.commands
    ++ (args ∷ [])
command_added (Ok u) old new command args ok added is =
    ap (λ (p : Plan). args_of_commands p.commands) added ∙ map-append (λ (c : Command). c.args) old.commands
    (command ∷ [])
    ∙ ap (λ (c : Command). args_of_commands old.commands ++ (c.args ∷ [])) is
command_added (Err e) old new command args ok added is = absurd (true_is_not_false ok)
