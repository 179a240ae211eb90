use Rattle.std.proofs.Common.{◌≡◌, ℤ, pos, FitsSigned, w64, arith}
use Rattle.std.specs.Prelude.{◌*ℤ◌}
use Rattle.std.proofs.lemmas.Int.{ints, to_z-of_z}
use Rattle.fr_base.specs.Within.{IsWithin}
use Rattle.fr_time.specs.Position.{floor_of}
use Rattle.fr_sightings.proofs.Quotients.{floor_within, product_within}
use Rattle.fr_sightings.proofs.numbering.share.Goals as goal

pub returns-clause-within : goal.returns-clause-within
returns-clause-within c =
    let count : FitsSigned w64 c.args.count = c.ranges.count in
    let length : FitsSigned w64 c.args.length = c.ranges.length in
    let parts : FitsSigned w64 c.args.parts = c.ranges.parts in
    let near : IsWithin (pos 384000000000000000) (c.args.count *ℤ c.args.length) =
    product_within c.args.count c.args.length (pos 600000) (pos 640000000000) c.requires.count c.requires.length.low c.requires.length.high in
    let product : FitsSigned w64 (c.args.count *ℤ c.args.length) = omega (arith, ints, near.low, near.high) in
    let value : c.div_euclid.result ≡ floor_of (c.args.count *ℤ c.args.length) c.args.parts = simp to_z-of_z at c.div_euclid.ensures in
    let within = floor_within (c.args.count *ℤ c.args.length) c.args.parts (pos 384000000000000000) c.requires.parts.low near in
    record {
      low = omega (arith, ints, value, within.low, within.high);
      high = omega (arith, ints, value, within.low, within.high);
    }
