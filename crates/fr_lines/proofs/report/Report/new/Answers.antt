use Rattle.fr_lines.proofs.Holding.{holds_none}
use Rattle.fr_lines.proofs.report.Report.new.Goals as goal

pub returns : goal.returns
returns c = rw (c.new.ensures, c.new-2.ensures, c.none.ensures) (holds_none c.args.params.now)
