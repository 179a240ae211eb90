use Rattle.fr_script.proofs.Proper.{event-proper}
use Rattle.fr_script.proofs.script.Script.by_deed.Goals as goal

pub returns-then-arbitrary-clause-proper : goal.returns-then-arbitrary-clause-proper
returns-then-arbitrary-clause-proper c = event-proper c.args.self.now c.args.cycle c.args.sender c.args.receiver c.args.channel c.arbitrary.ensures.sane

pub returns-else-arbitrary-clause-proper : goal.returns-else-arbitrary-clause-proper
returns-else-arbitrary-clause-proper c = event-proper c.args.self.now c.args.cycle c.args.sender c.args.receiver c.args.channel c.arbitrary.ensures.sane
