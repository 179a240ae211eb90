use Rattle.std.proofs.Common.{◌≡◌, arith, rules}
use Rattle.std.proofs.lemmas.Int.{ints}
use Rattle.std.proofs.lemmas.Grind.{common_steps}
use Rattle.fr_correct.proofs.term.offset_term.Goals as goal

pub returns-in-Some-clause-tells : goal.returns-in-Some-clause-tells
returns-in-Some-clause-tells c = record {
  missing = grind (arith, common_steps);
  exceeded = grind (arith, common_steps);
  within = grind (arith, common_steps);
}
