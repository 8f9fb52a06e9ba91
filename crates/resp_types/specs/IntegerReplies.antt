-- Integers with two answers that are no number (Redis, HTTL and its kin; RESP, "Integers").
use Rattle.std.specs.Prelude.{◌≡◌, ℤ, pos, negsuc}
use Rattle.resp_value.specs.declared.value.Value.{Value, Int}
use Rattle.resp_types.specs.declared.integer_reply.IntegerReplyOrNoOp.{IntegerReplyOrNoOp}
use Rattle.resp_types.specs.declared.integer_reply.IntegerReplyOrNoOp.TheVariants.{IntegerReply, NotExists}
use Rattle.resp_types.specs.declared.integer_reply.IntegerReplyOrNoOp.TheVariants.{ExistsButNotRelevant}

-- the number that stands for the answer: -2, -1, or the number itself
abbrev pub number_of : IntegerReplyOrNoOp → ℤ
number_of (IntegerReply n) = pos n
number_of NotExists = negsuc 1
number_of ExistsButNotRelevant = negsuc 0

-- the reply is the integer that stands for the answer
abbrev pub OfIntegerReply : Value → IntegerReplyOrNoOp → Type 0
OfIntegerReply reply answer = reply ≡ Int (number_of answer)
