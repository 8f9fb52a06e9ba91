use Rattle.std.proofs.Common.{rules, true, false, is_err, IfErr, ◌≡◌, ◌++◌, ◌∙◌, Result, Ok, Err, OnOk, ap, sym, subst}
use Rattle.resp_errors.specs.declared.redis_error.RedisError.{RedisError}
use Rattle.resp_args.specs.Args.{Args, Appends, Writes, Failure, IsFailure}
use Rattle.resp_command.specs.Pieces.{Keeps, sent_args}
use Rattle.resp_command.proofs.PiecesAgree.{keeps_appended, sent-appended}
use Rattle.resp_command.proofs.command.Cmd.push_arg.Goals as goal
use Rattle.resp_command.proofs.command.Cmd.push_arg.Goals.{then-is_err, else-is_err}

-- what was written is there, and else nothing is asked
appended : (Gives : Args → Type 0) (Refused : Type 0) (old new : Args) (r : Result (Unit {0}) RedisError)
    → is_err r ≡ false → Writes Gives Refused old new r → Appends Gives old new
appended Gives Refused old new (Ok x) e w = w.0
appended Gives Refused old new (Err x) e w = absurd cc

no_claim : (Claim : Type 0) (r : Result (Unit {0}) RedisError) → is_err r ≡ true → OnOk r Claim
no_claim Claim (Ok x) e = absurd cc
no_claim Claim (Err x) e = tt

on_ok : (Claim : Type 0) (r : Result (Unit {0}) RedisError) → Claim → OnOk r Claim
on_ok Claim (Ok x) h = h
on_ok Claim (Err x) h = tt

-- what was answered is what writing to these arguments answers
answered : (Fails : Failure) (old new : Args) (r : Result (Unit {0}) RedisError) → Fails old new r
    → IfErr r (IsFailure Fails)
answered Fails old new (Ok x) failed = tt
answered Fails old new (Err e) failed = (old, new, failed)

pub invariant_of-self-else-is_err : goal.invariant_of-self-else-is_err
invariant_of-self-else-is_err g c =
    let inside = c.self.inside in
    let w = appended _ _ _ _ c.write_redis_args-written.result (search rules)
    c.write_redis_args-written.ensures.written in
    subst (λ (args : Args). Keeps inside.cursor inside.cursors.items args) (sym w.1)
    (keeps_appended inside.cursor inside.cursors.items inside.encoded_args w.0 c.self.invariant)

pub returns-clause-given : goal.returns-clause-given
returns-clause-given g c =
    let inside = c.self.inside in
    elim c.if-is_err.branch [
      | then-is_err b ↦ no_claim _ c.write_redis_args-written.result (search rules)
      | else-is_err b ↦
          let w = appended _ _ _ _ c.write_redis_args-written.result (search rules)
          c.write_redis_args-written.ensures.written in
          on_ok _ c.write_redis_args-written.result (
            w.0,
            ap (λ d. d.args) b.self-is ∙ ap (λ (args : Args). sent_args inside.cursor inside.cursors.items args) w.1
                ∙ sent-appended inside.cursor inside.cursors.items inside.encoded_args w.0
                c.self.invariant.are_interleaved ∙ ap (λ d. d.args ++ w.0) c.self.view_is,
            w.2,
          )
    ]

pub returns-clause-failed : goal.returns-clause-failed
returns-clause-failed g c =
    let written = c.write_redis_args-written in
    answered (g.T.ToRedisArgs.fails c.args.arg) _ _ written.result written.ensures.failed
