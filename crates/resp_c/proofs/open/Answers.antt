use Rattle.std.proofs.Common.{refl}
use Rattle.resp_c.specs.Calls.{Opened}
use Rattle.resp_c.proofs.open.Goals as goal

pub returns : goal.returns
returns c = record {
  opened = Opened.done refl (record {
    session = c.in-Ok-new.session.value;
    is = c.put.ensures;
    so = rw c.in-Ok-new.ensures.ok c.in-Ok.ensures.new;
  });
}
