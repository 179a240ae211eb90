use Rattle.std.proofs.Common.{subst}
use Rattle.fr_history.specs.Lawful.{IsLawful}
use Rattle.fr_worked.proofs.TwoArbitrary.{two_arbitrary_files_are, two_arbitrary_gap_is, two_arbitrary_cycles_are, two_arbitrary_report_is, two_arbitrary_skew_is, two_arbitrary_sync_is}
use Rattle.fr_worked.proofs.Settings.{two_arbitrary_setting}
use Rattle.fr_worked.specs.TwoArbitrary.{two_arbitrary_run}
use Rattle.fr_worked.proofs.a_run_with_two_arbitrary_nodes.Goals as goal

pub returns : goal.returns
returns c = record {
  cycles = two_arbitrary_cycles_are;
  lawful = subst (λ h. IsLawful two_arbitrary_run h) two_arbitrary_cycles_are (c.one_lawful_run.ensures.lawful two_arbitrary_run 2 two_arbitrary_setting);
  greatest = two_arbitrary_skew_is;
  synced = two_arbitrary_sync_is;
  files = two_arbitrary_files_are;
  gap = two_arbitrary_gap_is;
  report = two_arbitrary_report_is;
}
