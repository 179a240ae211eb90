use Rattle.std.proofs.Common.{rules}
use Rattle.std.proofs.lemmas.List.{drop_all}
use Rattle.fr_trace.proofs.dev_line.DevLine.clear.Goals as goal

pub returns : goal.returns
returns c = drop_all 128 c.self.inside.buffer (search rules)
