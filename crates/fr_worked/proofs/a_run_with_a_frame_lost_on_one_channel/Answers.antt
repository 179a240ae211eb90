use Rattle.std.proofs.Common.{subst}
use Rattle.fr_history.specs.Lawful.{IsLawful}
use Rattle.fr_worked.proofs.Lost.{lost_on_one_files_are, lost_on_one_gap_is, lost_on_one_cycles_are, lost_on_one_report_is, lost_on_one_skew_is, lost_on_one_sync_is}
use Rattle.fr_worked.proofs.Settings.{lost_on_one_setting}
use Rattle.fr_worked.specs.Lost.{lost_on_one_run}
use Rattle.fr_worked.proofs.a_run_with_a_frame_lost_on_one_channel.Goals as goal

pub returns : goal.returns
returns c = record {
  cycles = lost_on_one_cycles_are;
  lawful = subst (λ h. IsLawful lost_on_one_run h) lost_on_one_cycles_are (c.one_lawful_run.ensures.lawful lost_on_one_run 4 lost_on_one_setting);
  greatest = lost_on_one_skew_is;
  synced = lost_on_one_sync_is;
  files = lost_on_one_files_are;
  gap = lost_on_one_gap_is;
  report = lost_on_one_report_is;
}
