use Rattle.std.proofs.Common.{subst}
use Rattle.fr_history.specs.Lawful.{IsLawful}
use Rattle.fr_worked.proofs.Offset.{offset_files_are, offset_gap_is, offset_cycles_are, offset_report_is, offset_skew_is, offset_sync_is}
use Rattle.fr_worked.proofs.Settings.{offset_setting}
use Rattle.fr_worked.specs.Offset.{offset_run}
use Rattle.fr_worked.proofs.a_run_with_an_offset.Goals as goal

pub returns : goal.returns
returns c = record {
  cycles = offset_cycles_are;
  lawful = subst (λ h. IsLawful offset_run h) offset_cycles_are (c.one_lawful_run.ensures.lawful offset_run 4 offset_setting);
  greatest = offset_skew_is;
  synced = offset_sync_is;
  files = offset_files_are;
  gap = offset_gap_is;
  report = offset_report_is;
}
