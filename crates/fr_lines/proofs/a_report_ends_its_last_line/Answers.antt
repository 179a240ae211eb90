use Rattle.fr_lines.proofs.Ended.{report_ended}
use Rattle.fr_lines.proofs.a_report_ends_its_last_line.Goals as goal

pub returns : goal.returns
returns c = report_ended
