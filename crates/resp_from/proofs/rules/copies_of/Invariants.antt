use Rattle.std.proofs.Common.{◌≡◌, take}
use Rattle.resp_from.proofs.rules.copies_of.Given as goal

abbrev pub invariant-loop-reply : goal.invariant-loop-reply
invariant-loop-reply l = l.copies.items ≡ take l.reply-index l.replies
