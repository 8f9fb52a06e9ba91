use denote.Param.Send.{IsSend}
use Rattle.resp_c.proofs.Sent as sent
use Rattle.resp_c.specs.contracts.slot.Slot.{the_row}

pub send : IsSend the_row
send = sent.slot_send
