-- What is written at the last command of a pipeline, its mark or its arguments.
use Rattle.std.proofs.Common.{◌≡◌, ◌+◌, ℕ, zero, suc, ◌++◌, Bool, true, List, [], ◌∷◌, length, take, Result, Ok, Err}
use Rattle.std.proofs.Common.{OnOk, refl, sym, ap, ◌∙◌, arith}
use Rattle.std.proofs.lemmas.List.{take_all, take_more, take_more_set, length-set}
use Rattle.std.specs.Prelude.{slice_set, slice_index_or}
use Rattle.resp_errors.specs.declared.redis_error.RedisError.{RedisError}
use Rattle.resp_args.specs.Args.{Args, Appends}
use Rattle.resp_command.specs.Command.{Command}
use Rattle.resp_pipeline.specs.Pipeline.{Plan, AppendsToLast, last_marked}

-- writing at the last place marks the last
pub last_set : (marks : List Bool) (n : ℕ) → length marks ≡ suc n → slice_set marks n true ≡ last_marked marks
last_set [] n e = cc
last_set (mark ∷ []) zero e = refl
last_set (mark ∷ []) (suc n) e = cc
last_set (mark ∷ next ∷ marks) zero e = cc
last_set (mark ∷ next ∷ marks) (suc n) e = ap (λ rest. mark ∷ rest) (last_set (next ∷ marks) n (cc))

module _ {X : Type 0} (xs : List X) (n : ℕ) (e : length xs ≡ suc n) where
  split_last : (x : X) → x ≡ slice_index_or xs n x → xs ≡ take n xs ++ x ∷ []
  split_last x is = sym (take_all (n + 1) xs (omega arith)) ∙ take_more xs n x (omega arith)
      ∙ ap (λ y. take n xs ++ y ∷ []) (sym is)

  last_written : (x : X) → slice_set xs n x ≡ take n xs ++ x ∷ []
  last_written x = sym (take_all (n + 1) (slice_set xs n x) (omega (arith, length-set xs n x))) ∙ take_more_set xs n x
      (omega arith)

pub appends_to_last : (Gives : Args → Type 0) (r : Result (Unit {0}) RedisError) (p : Plan) (n : ℕ) (c d : Command)
    → length p.commands ≡ suc n → c ≡ slice_index_or p.commands n c
    → OnOk r (Appends Gives c.args d.args) → OnOk r (d ≡ record c { args = d.args })
    → OnOk r (AppendsToLast Gives p (record p { commands = slice_set p.commands n d }))
appends_to_last Gives (Err f) p n c d e is given rest = tt
appends_to_last Gives (Ok _) p n c d e is given rest =
    let written = last_written p.commands n e d in
    let with_args : Args → Command = λ args. record c { args = args } in
    let grown = rest ∙ ap with_args given.1 in
    record {
      before = take n p.commands;
      last = c;
      more = given.0;
      was = split_last p.commands n e c is;
      given = given.2;
      is = ap (λ (l : List Command). record p { commands = l })
          (written ∙ ap (λ (x : Command). take n p.commands ++ x ∷ []) grown);
    }
