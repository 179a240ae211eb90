use Rattle.fr_log.proofs.Decoded.{decoded-entry}
use Rattle.fr_log.proofs.rows.read_bytes.Goals as goal

pub returns-in-Ok-clause-proper : goal.returns-in-Ok-clause-proper
returns-in-Ok-clause-proper c = rw c.of.ensures (decoded-entry c.args.text.now _ c.in-Ok.ensures.ok c.requires)
