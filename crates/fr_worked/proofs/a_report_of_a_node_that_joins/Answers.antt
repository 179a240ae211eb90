use Rattle.std.proofs.Common.{None, ap, ◌∙◌}
use Rattle.fr_history.specs.Worked.{joined_run}
use Rattle.fr_lines.specs.Text.{report_of}
use Rattle.fr_worked.proofs.Joined.{joined_report_is}
use Rattle.fr_worked.proofs.a_report_of_a_node_that_joins.Goals as goal

pub returns : goal.returns
returns c = ap (report_of joined_run None) c.a_joined_run.ensures.cycles ∙ joined_report_is
