use Rattle.fr_program.proofs.Gathering.{lines_behind}
use Rattle.fr_program.proofs.gathered.append_lines.Goals as goal

pub returns-clause-lines : goal.returns-clause-lines
returns-clause-lines c = lines_behind c.append.result c.append.ensures.taken c.append.ensures.untaken c.requires
