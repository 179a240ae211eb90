use Rattle.std.proofs.Common.{subst}
use Rattle.fr_history.specs.Lawful.{IsLawful}
use Rattle.fr_worked.proofs.Lost.{lost_files_are, lost_gap_is, lost_cycles_are, lost_report_is, lost_skew_is, lost_sync_is}
use Rattle.fr_worked.proofs.Settings.{lost_setting}
use Rattle.fr_worked.specs.Lost.{lost_run}
use Rattle.fr_worked.proofs.a_run_with_a_lost_frame.Goals as goal

pub returns : goal.returns
returns c = record {
  cycles = lost_cycles_are;
  lawful = subst (λ h. IsLawful lost_run h) lost_cycles_are (c.one_lawful_run.ensures.lawful lost_run 4 lost_setting);
  greatest = lost_skew_is;
  synced = lost_sync_is;
  files = lost_files_are;
  gap = lost_gap_is;
  report = lost_report_is;
}
