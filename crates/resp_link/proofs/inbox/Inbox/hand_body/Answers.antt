use Rattle.std.proofs.Common.{◌<◌, arith}
use Rattle.std.proofs.lemmas.Result.{err_from_is_err_and}
use Rattle.resp_link.proofs.TakenParts.{handed-nothing, handed-more, handed-no_byte, handed-failed, lacks-more}
use Rattle.resp_link.proofs.inbox.Inbox.hand_body.Goals as goal

pub loop-missing-init : goal.loop-missing-init
loop-missing-init g c = record { rest = c.requires; so_far = handed-nothing _ _ _ }

pub returns-in_err-have_byte-clause-hands : goal.returns-in_err-have_byte-clause-hands
returns-in_err-have_byte-clause-hands g c =
    let p = err_from_is_err_and c.from_residual.result c.from_residual.ensures.1 in
    let so = c.loop-missing.invariant.so_far in
    rw (p.1, p.2) (handed-no_byte c.args.len _ _ _ c.loop-missing.missing so.part so.size so.takes so.failures _ _
    c.loop-missing-test.true
    (c.in_err-have_byte.ensures.byte c.args.len _ so.part so.took (lacks-more _ _ _ _ _ _ so)))

pub loop-missing-smaller : goal.loop-missing-smaller
loop-missing-smaller g c =
    let so = c.loop-missing.invariant.so_far in
    let have = c.in_ok-have_byte.ensures.byte c.args.len _ so.part so.took (lacks-more _ _ _ _ _ _ so) in
    let some : 0 < c.in-Ok.count = c.in-Ok.ensures.hands.1.0.some have.1 c.loop-missing-test.true in
    omega (arith, some, c.loop-missing-test.true)

pub loop-missing-preserved : goal.loop-missing-preserved
loop-missing-preserved g c =
    let so = c.loop-missing.invariant.so_far in
    let have = c.in_ok-have_byte.ensures.byte c.args.len _ so.part so.took (lacks-more _ _ _ _ _ _ so) in
    record {
      rest = c.in-Ok.ensures.rest;
      so_far = handed-more c.args.len _ _ _ c.loop-missing.missing so.part so.size so.takes so.failures _ _ _
          c.in-Ok.count have.0 c.in-Ok.ensures.hands;
    }

pub returns-in-Err-clause-hands : goal.returns-in-Err-clause-hands
returns-in-Err-clause-hands g c =
    let so = c.loop-missing.invariant.so_far in
    let have = c.in_ok-have_byte.ensures.byte c.args.len _ so.part so.took (lacks-more _ _ _ _ _ _ so) in
    handed-failed c.args.len _ _ _ c.loop-missing.missing so.part so.size so.takes so.failures _ _ _ c.in-Err.field-0 _
    c.body_not_taken.ensures have.0 c.in-Err.ensures.hands
