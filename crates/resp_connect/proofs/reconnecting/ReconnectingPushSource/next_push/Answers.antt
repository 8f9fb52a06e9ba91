use Rattle.resp_connect.proofs.ReplacedPushes.{pushed}
use Rattle.resp_connect.proofs.reconnecting.ReconnectingPushSource.next_push.Goals as goal

pub returns-in-Some : goal.returns-in-Some
returns-in-Some g c = rw c.in-Some.is (pushed _ _ _ c.next_push.ensures)
