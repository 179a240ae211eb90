use Rattle.fr_runs.proofs.RowsApart.{spread_rows_draw_near as spread_rows_draw_near_lem}
use Rattle.fr_runs.proofs.apart.spread_rows_draw_near.Goals as goal

pub returns : goal.returns
returns c = spread_rows_draw_near_lem
