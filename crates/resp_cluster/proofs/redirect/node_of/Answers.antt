use Rattle.std.proofs.Common.{arith, rules}
use Rattle.resp_cluster.specs.Redirects.{colon}
use Rattle.resp_cluster.proofs.RedirectTexts.{at_last, no_colon, no_port}
use Rattle.resp_cluster.proofs.redirect.node_of.Goals as goal

pub returns-in_default : goal.returns-in_default
returns-in_default c = no_colon c.args.asked.now c.args.text.now c.in_default.ensures.cases

pub returns-in_default-parse : goal.returns-in_default-parse
returns-in_default-parse c = no_port c.args.asked.now c.args.text.now c.in-Some.host.now c.in-Some.port.now
    (at_last colon c.args.text.now c.in-Some.host.now c.in-Some.port.now (omega arith) c.in-Some.ensures.cases)
    (λ n spelt. c.in_default-parse.ensures.value.0 (spelt.0, let below = spelt.1 in let is = spelt.2 in grind arith))

pub returns : goal.returns
returns c = record {
  host = c.in-Some.host.now;
  port = c.in-Some.port.now;
  parts = at_last colon c.args.text.now c.in-Some.host.now c.in-Some.port.now (omega arith) c.in-Some.ensures.cases;
  host_is = search rules;
  port_is = (let value = c.in-Ok.ensures.value in (value.0.0.0, (let below = value.0.0.1 in let is = value.0.1 in grind arith), value.0.1));
}
