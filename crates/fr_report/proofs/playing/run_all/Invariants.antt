use Rattle.std.proofs.Common.{◌≡◌}
use Rattle.fr_report.specs.Worlds.{IsReportOf}
use Rattle.fr_report.proofs.playing.run_all.Given as goal

abbrev pub invariant-loop-done : goal.invariant-loop-done
invariant-loop-done l = record {
  ran : l.world ≡ record l.fn.world { cycles = l._done };
  held : IsReportOf l.world l.report;
}
