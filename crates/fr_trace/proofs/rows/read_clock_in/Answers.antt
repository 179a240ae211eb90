use Rattle.std.proofs.Common.{refl, rules}
use Rattle.fr_trace.proofs.rows.read_clock_in.Goals as goal

pub returns-in-Ok-clause-proper : goal.returns-in-Ok-clause-proper
returns-in-Ok-clause-proper c = record { cycle_to = search rules; timed = search rules; early = search rules; uncut = refl }
