use Rattle.std.proofs.Common.{◌∙◌, sym, arith}
use Rattle.fr_world.proofs.joining.joins.Goals as goal

pub overflow_add-join : goal.overflow_add-join
overflow_add-join c = omega (arith, (c.requires.proper c.id.result c.in-Some.join (sym c.join.ensures ∙ c.in-Some.is)).double)
