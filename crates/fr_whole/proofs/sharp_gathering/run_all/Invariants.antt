use Rattle.std.proofs.Common.{◌≡◌, ◌*◌}
use Rattle.std.specs.Prelude.{unwrap_or}
use Rattle.fr_history.specs.Next.{cycles_of}
use Rattle.fr_report.specs.Worlds.{IsReportOf}
use Rattle.fr_world.specs.World.{setting_after}
use Rattle.fr_series.specs.Basis.{sharp_figures_of, IsCourse}
use Rattle.fr_series.specs.Scale.{IsScale}
use Rattle.fr_series.specs.Writing.{first_sharp_at}
use Rattle.fr_whole.proofs.sharp_gathering.run_all.Given as goal

-- the double cycles so far are run, and the report and the figures are theirs
abbrev pub invariant-loop-double : goal.invariant-loop-double
invariant-loop-double l = record {
  ran : l.world ≡ record l.fn.world { cycles = 2 * l.double };
  held : IsReportOf l.world l.report;
  proper : IsScale l.course.scale;
  course : IsCourse l.fn.world.params l.fn.world.drift l.fn.world.script (unwrap_or (first_sharp_at l.fn.world l.double) l.double) l.course;
  figures : l.figures ≡ sharp_figures_of l.fn.world.params l.fn.world.drift l.fn.world.script (cycles_of (setting_after l.fn.world) (2 * l.double));
}
