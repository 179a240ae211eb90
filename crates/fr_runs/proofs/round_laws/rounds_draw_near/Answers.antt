use Rattle.fr_runs.proofs.Drawing.{rounds_draw_near_lem}
use Rattle.fr_runs.proofs.round_laws.rounds_draw_near.Goals as goal

pub returns : goal.returns
returns c = rounds_draw_near_lem
