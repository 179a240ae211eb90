use Rattle.std.proofs.Common.{subst}
use Rattle.fr_history.specs.Lawful.{IsLawful}
use Rattle.fr_worked.proofs.Rates.{rates_files_are, rates_gap_is, rates_cycles_are, rates_report_is, rates_skew_is, rates_sync_is}
use Rattle.fr_worked.proofs.Settings.{rates_setting}
use Rattle.fr_worked.specs.Rates.{rates_run}
use Rattle.fr_worked.proofs.a_run_with_drifting_rates.Goals as goal

pub returns : goal.returns
returns c = record {
  cycles = rates_cycles_are;
  lawful = subst (λ h. IsLawful rates_run h) rates_cycles_are (c.one_lawful_run.ensures.lawful rates_run 4 rates_setting);
  greatest = rates_skew_is;
  synced = rates_sync_is;
  files = rates_files_are;
  gap = rates_gap_is;
  report = rates_report_is;
}
