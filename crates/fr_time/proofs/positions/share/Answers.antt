use Rattle.std.proofs.Common.{◌≡◌, ◌∙◌, FitsSigned, w64, arith, rules}
use Rattle.std.specs.Prelude.{◌≤ℤ◌, ◌*ℤ◌}
use Rattle.std.proofs.lemmas.Int.{ints, to_z-of_z}
use Rattle.fr_time.specs.Position.{floor_of}
use Rattle.fr_time.proofs.Floors.{product_fits, share_le}
use Rattle.fr_time.proofs.positions.share.Goals as goal

pub overflow_mul-whole : goal.overflow_mul-whole
overflow_mul-whole c =
    let count : FitsSigned w64 c.args.count = c.ranges.count in
    let length : FitsSigned w64 c.args.length = c.ranges.length in
    simp to_z-of_z (product_fits c.args.count c.args.length c.requires.count.low (omega (arith, ints)) c.requires.length.low c.requires.length.high)

pub returns-clause-high : goal.returns-clause-high
returns-clause-high c =
    let below : floor_of (c.args.count *ℤ c.args.length) c.args.parts ≤ℤ c.args.length =
    share_le c.args.count c.args.length c.args.parts c.requires.count.low c.requires.count.high c.requires.length.low in
    grind (arith, ints, to_z-of_z, below)

pub returns-clause-value : goal.returns-clause-value
returns-clause-value c =
    let count : FitsSigned w64 c.args.count = c.ranges.count in
    let length : FitsSigned w64 c.args.length = c.ranges.length in
    let parts : FitsSigned w64 c.args.parts = c.ranges.parts in
    let product : FitsSigned w64 (c.args.count *ℤ c.args.length) =
    product_fits c.args.count c.args.length c.requires.count.low (omega (arith, ints, c.requires.count.high, c.requires.parts.high)) c.requires.length.low c.requires.length.high in
    let value : c.div_euclid.result ≡ floor_of (c.args.count *ℤ c.args.length) c.args.parts = simp to_z-of_z at c.div_euclid.ensures in
    to_z-of_z w64 c.div_euclid.result (search rules) ∙ value
