use Rattle.fr_script.proofs.Said.{decoded-said}
use Rattle.fr_script.proofs.deed.read_bytes.Goals as goal

pub returns-in-Ok-clause-proper : goal.returns-in-Ok-clause-proper
returns-in-Ok-clause-proper c = rw c.of.ensures (decoded-said c.args.text.now _ c.in-Ok.ensures.ok c.requires)
