use Rattle.std.proofs.Common.{arith, rules}
use Rattle.fr_text.proofs.Decimals.{natural_fits}
use Rattle.fr_text.proofs.piece.append_natural.Goals as goal

pub natural-requires : goal.natural-requires
natural-requires c = omega (arith, natural_fits c.args.value (search rules))

pub returns-clause-short : goal.returns-clause-short
returns-clause-short c = omega (arith, natural_fits c.args.value (search rules))
