-- The report of the worked run that a node joins.
use Rattle.std.proofs.Common.{◌≡◌, None, refl}
use Rattle.fr_history.specs.Worked.{after_12, joined_run}
use Rattle.fr_lines.specs.Text.{report_of}
use Rattle.fr_worked.proofs.Computing.{on_reports}
use Rattle.fr_worked.specs.Joined.{joined_report}

pub joined_report_is : report_of joined_run None after_12 ≡ joined_report
unfolding on_reports
joined_report_is = refl
