use Rattle.std.proofs.Common.{◌≡◌, ◌*◌, Ok}
use Rattle.fr_base.specs.Device.{Puts}
use Rattle.fr_series.specs.Stopping.{sharp_rows_before}
use Rattle.fr_series.specs.Writing.{IsKnown}
use Rattle.fr_series.proofs.sharp_writing.write_sharp_rows.Given as goal

-- the lines of the double cycles so far are put, and their figures gathered
abbrev pub invariant-loop-double : goal.invariant-loop-double
invariant-loop-double g l = record {
  ran : l.world ≡ record l.fn.world { cycles = 2 * l.double };
  known : IsKnown l.fn.world l.double l.known l.spread l.tally;
  text : Puts (Ok tt) (g.O.Sink.state l.fn.out) (g.O.Sink.state l.out) (sharp_rows_before l.fn.world l.double);
}
