use Rattle.std.proofs.Common.{inl}
use Rattle.resp_command.proofs.fetching.send.Goals as goal

pub returns : goal.returns
returns g c = inl (rw (← c.in_ok-bytes.ensures.packed, ← c.as_slice.ensures.value) c.req_packed_command.ensures)
