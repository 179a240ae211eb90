use Rattle.std.proofs.Common.{◌∙◌, FitsSigned, w64, ap, rules}
use Rattle.std.proofs.lemmas.Int.{to_z-of_z}
use Rattle.fr_skew.specs.Extents.{spread_by}
use Rattle.fr_skew.proofs.Extents.{instants_are}
use Rattle.fr_skew.proofs.spread.spread_at.Goals as goal

pub returns-clause-value : goal.returns-clause-value
returns-clause-value c =
    let fits : FitsSigned w64 c.spread_by.result = search rules in
    to_z-of_z w64 c.spread_by.result fits ∙ c.spread_by.ensures.value ∙ ap spread_by c.instants_extent.ensures.value ∙ instants_are c.args.grid.now c.args.cycle c.args.macrotick c.args.rows.now
