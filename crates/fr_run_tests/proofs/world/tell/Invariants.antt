use Rattle.std.proofs.Common.{◌≡◌}
use Rattle.fr_report.specs.Worlds.{IsReportOf}
use Rattle.fr_run_tests.proofs.world.tell.Given as goal

-- so many cycles are run, which the report holds
abbrev pub invariant-loop-done : goal.invariant-loop-done
invariant-loop-done l = record {
  ran : l.world ≡ record l.fn.world { cycles = l._done };
  held : IsReportOf l.world l.report;
}
