use Rattle.std.proofs.Common.{◌≤◌, arith}
use Rattle.fr_coverage.specs.Flutter.{flutter_from}
use Rattle.fr_sharp.proofs.SharpCovering.{covered_from, no_sharp_gap}
use Rattle.fr_series.proofs.sharp_laws.a_gap_is_told.Goals as goal

pub returns : goal.returns
returns c = λ p d s from sane.
    let finds = c.found_gap_from_is_first.ensures.found p d s from sane in
    let most : flutter_from p d s from ≤ flutter_from p d s from = omega arith in
    (covered_from p d s from (flutter_from p d s from) finds most, no_sharp_gap p d s from (flutter_from p d s from) sane finds)
