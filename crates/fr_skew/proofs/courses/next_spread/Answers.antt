use Rattle.std.proofs.Common.{◌∙◌, FitsSigned, w64, ap, map, rules}
use Rattle.std.proofs.lemmas.Int.{to_z-of_z}
use Rattle.fr_skew.specs.Courses.{next_instant}
use Rattle.fr_skew.specs.Extents.{spread_by}
use Rattle.fr_skew.proofs.Extents.{fold-none}
use Rattle.fr_skew.proofs.courses.next_spread.Goals as goal

pub returns-clause-value : goal.returns-clause-value
returns-clause-value c =
    let fits : FitsSigned w64 c.spread_by.result = search rules in
    to_z-of_z w64 c.spread_by.result fits ∙ c.spread_by.ensures.value ∙ ap spread_by c.next_extent.ensures.value ∙ fold-none (map next_instant c.args.courses.now)
