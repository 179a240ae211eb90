use Rattle.std.proofs.Common.{sym, ap}
use Rattle.fr_time.specs.Cycles.{is_odd}
use Rattle.fr_verdict.proofs.Parts.{history_length}
use Rattle.fr_check.proofs.deviations.is_odd_behind.Goals as goal

pub returns : goal.returns
returns c = sym (ap is_odd (history_length c.args.behind.now))
