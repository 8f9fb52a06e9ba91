use Rattle.std.proofs.Common.{arith}
use Rattle.std.proofs.lemmas.Grind.{common_steps}
use Rattle.resp_flat.proofs.flat_reply.FlatReply.verbatim.Goals as goal

pub returns-in_err-extend_from_slice-clause-kept_tokens : goal.returns-in_err-extend_from_slice-clause-kept_tokens
returns-in_err-extend_from_slice-clause-kept_tokens c = grind (arith, common_steps)

pub returns-in_err-extend_from_slice-clause-kept_text : goal.returns-in_err-extend_from_slice-clause-kept_text
returns-in_err-extend_from_slice-clause-kept_text c = grind (arith, common_steps)

pub returns-in_err-push-clause-kept_tokens : goal.returns-in_err-push-clause-kept_tokens
returns-in_err-push-clause-kept_tokens c = grind (arith, common_steps)

pub returns-in_err-push-clause-kept_text : goal.returns-in_err-push-clause-kept_text
returns-in_err-push-clause-kept_text c = grind (arith, common_steps)

pub returns-in_err-extend_from_slice-2-clause-kept_tokens : goal.returns-in_err-extend_from_slice-2-clause-kept_tokens
returns-in_err-extend_from_slice-2-clause-kept_tokens c = grind (arith, common_steps)

pub returns-in_err-extend_from_slice-2-clause-kept_text : goal.returns-in_err-extend_from_slice-2-clause-kept_text
returns-in_err-extend_from_slice-2-clause-kept_text c = grind (arith, common_steps)

pub returns-in_err-push-2-clause-kept_tokens : goal.returns-in_err-push-2-clause-kept_tokens
returns-in_err-push-2-clause-kept_tokens c = grind (arith, common_steps)

pub returns-in_err-push-2-clause-kept_text : goal.returns-in_err-push-2-clause-kept_text
returns-in_err-push-2-clause-kept_text c = grind (arith, common_steps)

pub returns-clause-tokens : goal.returns-clause-tokens
returns-clause-tokens c = grind (arith, common_steps)

pub returns-clause-text : goal.returns-clause-text
returns-clause-text c = grind (arith, common_steps)

pub returns-clause-kept_tokens : goal.returns-clause-kept_tokens
returns-clause-kept_tokens c = grind (arith, common_steps)

pub returns-clause-kept_text : goal.returns-clause-kept_text
returns-clause-kept_text c = grind (arith, common_steps)
