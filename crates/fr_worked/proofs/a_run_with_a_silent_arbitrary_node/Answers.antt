use Rattle.std.proofs.Common.{subst}
use Rattle.fr_history.specs.Lawful.{IsLawful}
use Rattle.fr_worked.proofs.Quiet.{quiet_files_are, quiet_gap_is, quiet_cycles_are, quiet_report_is, quiet_skew_is, quiet_sync_is}
use Rattle.fr_worked.proofs.Settings.{quiet_setting}
use Rattle.fr_worked.specs.Quiet.{quiet_run}
use Rattle.fr_worked.proofs.a_run_with_a_silent_arbitrary_node.Goals as goal

pub returns : goal.returns
returns c = record {
  cycles = quiet_cycles_are;
  lawful = subst (λ h. IsLawful quiet_run h) quiet_cycles_are (c.one_lawful_run.ensures.lawful quiet_run 2 quiet_setting);
  greatest = quiet_skew_is;
  synced = quiet_sync_is;
  files = quiet_files_are;
  gap = quiet_gap_is;
  report = quiet_report_is;
}
