use Rattle.std.proofs.Common.{◌≡◌, ◌*◌, Ok}
use Rattle.fr_base.specs.Device.{Puts}
use Rattle.fr_history.specs.Next.{cycles_of}
use Rattle.fr_world.specs.World.{setting_after}
use Rattle.fr_series.specs.Figures.{figures_of}
use Rattle.fr_series.proofs.SeriesRows.{text_upto}
use Rattle.fr_series.proofs.writing.write_rows.Given as goal

-- the lines of the double cycles so far are put, and their figures gathered
abbrev pub invariant-loop-double : goal.invariant-loop-double
invariant-loop-double g l = record {
  ran : l.world ≡ record l.fn.world { cycles = 2 * l.double };
  figures : l.figures ≡ figures_of l.fn.world.params (cycles_of (setting_after l.fn.world) (2 * l.double));
  text : Puts (Ok tt) (g.O.Sink.state l.fn.out) (g.O.Sink.state l.out) (text_upto (setting_after l.fn.world) (2 * l.double));
}
