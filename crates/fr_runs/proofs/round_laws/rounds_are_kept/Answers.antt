use Rattle.fr_runs.proofs.Rounds.{rounds_are_kept_lem}
use Rattle.fr_runs.proofs.round_laws.rounds_are_kept.Goals as goal

pub returns : goal.returns
returns c = rounds_are_kept_lem
