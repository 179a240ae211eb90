use Rattle.std.proofs.Common.{subst}
use Rattle.fr_history.specs.Lawful.{IsLawful}
use Rattle.fr_worked.proofs.Lost.{flipped_files_are, flipped_gap_is, flipped_cycles_are, flipped_report_is, flipped_skew_is, flipped_sync_is}
use Rattle.fr_worked.proofs.Settings.{flipped_setting}
use Rattle.fr_worked.specs.Lost.{flipped_run}
use Rattle.fr_worked.proofs.a_run_with_a_flipped_frame.Goals as goal

pub returns : goal.returns
returns c = record {
  cycles = flipped_cycles_are;
  lawful = subst (λ h. IsLawful flipped_run h) flipped_cycles_are (c.one_lawful_run.ensures.lawful flipped_run 4 flipped_setting);
  greatest = flipped_skew_is;
  synced = flipped_sync_is;
  files = flipped_files_are;
  gap = flipped_gap_is;
  report = flipped_report_is;
}
