use Rattle.std.proofs.Common.{subst}
use Rattle.fr_history.specs.Lawful.{IsLawful}
use Rattle.fr_worked.proofs.OneArbitrary.{one_arbitrary_files_are, one_arbitrary_gap_is, one_arbitrary_cycles_are, one_arbitrary_report_is, one_arbitrary_skew_is, one_arbitrary_sync_is}
use Rattle.fr_worked.proofs.Settings.{one_arbitrary_setting}
use Rattle.fr_worked.specs.OneArbitrary.{one_arbitrary_run}
use Rattle.fr_worked.proofs.a_run_with_one_arbitrary_node.Goals as goal

pub returns : goal.returns
returns c = record {
  cycles = one_arbitrary_cycles_are;
  lawful = subst (λ h. IsLawful one_arbitrary_run h) one_arbitrary_cycles_are (c.one_lawful_run.ensures.lawful one_arbitrary_run 2 one_arbitrary_setting);
  greatest = one_arbitrary_skew_is;
  synced = one_arbitrary_sync_is;
  files = one_arbitrary_files_are;
  gap = one_arbitrary_gap_is;
  report = one_arbitrary_report_is;
}
