use Rattle.std.proofs.Common.{◌≡◌, ◌*◌, take}
use Rattle.fr_trace.specs.Cycles.{history_by}
use Rattle.fr_whole.proofs.TracedDoubles.{figures_upto}
use Rattle.fr_whole.proofs.traced_figures.recorded_figures.Given as goal

-- those of the double cycles so far
abbrev pub invariant-loop-double : goal.invariant-loop-double
invariant-loop-double l = l.figures ≡ figures_upto l.beside l.params l.trace (history_by (take (2 * l.double) l.cycles)) l.double
