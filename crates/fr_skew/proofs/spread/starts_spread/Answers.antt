use Rattle.std.proofs.Common.{◌∙◌, FitsSigned, w64, ap, rules}
use Rattle.std.proofs.lemmas.Int.{to_z-of_z}
use Rattle.fr_skew.specs.Extents.{spread_by}
use Rattle.fr_skew.proofs.Extents.{starts_are}
use Rattle.fr_skew.proofs.spread.starts_spread.Goals as goal

pub returns : goal.returns
returns c =
    let fits : FitsSigned w64 c.spread_by.result = search rules in
    to_z-of_z w64 c.spread_by.result fits ∙ c.spread_by.ensures.value ∙ ap spread_by c.starts_extent.ensures.value ∙ starts_are c.args.rows.now
