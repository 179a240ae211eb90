use Rattle.std.proofs.Common.{◌≡◌, FitsSigned, w64, arith}
use Rattle.std.specs.Prelude.{◌*ℤ◌, pos}
use Rattle.std.proofs.lemmas.Int.{ints, to_z-of_z}
use Rattle.fr_base.specs.Within.{IsBetween}
use Rattle.fr_base.proofs.Products.{below_longest}
use Rattle.fr_skew.proofs.courses.instant_by.Goals as goal

pub returns-clause-proper : goal.returns-clause-proper
returns-clause-proper c =
    let position : FitsSigned w64 c.args.position = c.ranges.position in
    let length : FitsSigned w64 c.args.length = c.ranges.length in
    let after : c.ticks_of.result ≡ c.args.position *ℤ c.args.length = simp to_z-of_z at c.ticks_of.ensures.value in
    let few : IsBetween (pos 0) (pos 1050000000000) (c.args.position *ℤ c.args.length) = below_longest c.args.position c.args.length c.requires.length 700000 c.requires.position in
    record {
      low = omega (arith, ints, after, few.low, few.high, c.requires.start.low, c.requires.start.high);
      high = omega (arith, ints, after, few.low, few.high, c.requires.start.low, c.requires.start.high);
    }
