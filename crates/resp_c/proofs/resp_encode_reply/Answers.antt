use Rattle.resp_c.specs.Replies.{EncodedInto}
use Rattle.resp_c.proofs.resp_encode_reply.Goals as goal

pub returns-in-Ok : goal.returns-in-Ok
returns-in-Ok c = record {
  encoded = EncodedInto.given c.in-Ok.bytes.items c.in-Ok.ensures.sends
      (rw (c.as_slice.ensures.value) at c.give.ensures.given);
}
