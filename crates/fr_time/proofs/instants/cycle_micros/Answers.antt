use Rattle.std.proofs.Common.{◌≡◌, ap, pos, ℤ, FitsSigned, w32, w64, arith}
use Rattle.std.specs.Prelude.{◌≤ℤ◌, ◌+ℤ◌}
use Rattle.std.proofs.lemmas.Int.{ints, to_z-of_z}
use Rattle.fr_base.specs.Within.{IsBetween}
use Rattle.fr_cluster.specs.declared.names.ParamName.TheVariants as name
use Rattle.fr_time.proofs.Placing.{placeable_lem}
use Rattle.fr_time.proofs.Shortest.{cycle_from}
use Rattle.fr_time.proofs.instants.cycle_micros.Goals as goal

-- the terms lie within the widest limits, and something is left of the cycle
facts : (c : goal.After-value) → FitsSigned w64 (c.value.result +ℤ c.args.rate) × IsBetween (pos 0) (pos 660000) (c.value.result +ℤ c.args.rate +ℤ c.args.offset)
facts c =
    let sane = c.value.ensures.sane in
    let rate_limit = sane.ranges name.pRateCorrectionOut in
    let offset_limit = sane.ranges name.pOffsetCorrectionOut in
    let micros : c.value.result ≡ c.args.params.now.micros = c.value.ensures.value in
    let from : pos 0 ≤ℤ (c.args.params.now.micros +ℤ c.args.rate +ℤ c.args.offset) =
    cycle_from c.args.params.now c.args.rate c.args.offset
    (placeable_lem c.args.params.now c.args.rate c.args.offset sane c.requires.rate.low c.requires.rate.high c.requires.offset.low c.requires.offset.high) in (
      omega (arith, ints, rate_limit.1, c.value.ensures.range.0, c.value.ensures.range.1, c.requires.rate.low, c.requires.rate.high),
      record { low = omega (arith, ints, from, micros); high = omega (arith, ints, rate_limit.1, offset_limit.1, c.value.ensures.range.1, c.requires.rate.high, c.requires.offset.high) },
    )

pub overflow_add-result-2 : goal.overflow_add-result-2
overflow_add-result-2 c =
    let first : FitsSigned w64 (c.value.result +ℤ c.args.rate) = (facts c).0 in
    let all = (facts c).1 in
    let number : FitsSigned w64 c.value.result = omega (arith, ints, c.value.ensures.range.0, c.value.ensures.range.1) in
    let rate : FitsSigned w32 c.args.rate = c.ranges.rate in
    let wide_rate : FitsSigned w64 c.args.rate = omega (arith, ints) in
    let offset : FitsSigned w32 c.args.offset = c.ranges.offset in
    let wide_offset : FitsSigned w64 c.args.offset = omega (arith, ints) in
    let sum : FitsSigned w64 (c.value.result +ℤ c.args.rate +ℤ c.args.offset) = omega (arith, ints, all.low, all.high) in
    simp to_z-of_z sum

pub returns-clause-value : goal.returns-clause-value
returns-clause-value c =
    let first : FitsSigned w64 (c.value.result +ℤ c.args.rate) = (facts c).0 in
    let all = (facts c).1 in
    let number : FitsSigned w64 c.value.result = omega (arith, ints, c.value.ensures.range.0, c.value.ensures.range.1) in
    let rate : FitsSigned w32 c.args.rate = c.ranges.rate in
    let wide_rate : FitsSigned w64 c.args.rate = omega (arith, ints) in
    let offset : FitsSigned w32 c.args.offset = c.ranges.offset in
    let wide_offset : FitsSigned w64 c.args.offset = omega (arith, ints) in
    let sum : FitsSigned w64 (c.value.result +ℤ c.args.rate +ℤ c.args.offset) = omega (arith, ints, all.low, all.high) in
    simp to_z-of_z (ap (λ (x : ℤ). x +ℤ c.args.rate +ℤ c.args.offset) c.value.ensures.value)

pub returns-clause-within : goal.returns-clause-within
returns-clause-within c =
    let first : FitsSigned w64 (c.value.result +ℤ c.args.rate) = (facts c).0 in
    let all = (facts c).1 in
    let number : FitsSigned w64 c.value.result = omega (arith, ints, c.value.ensures.range.0, c.value.ensures.range.1) in
    let rate : FitsSigned w32 c.args.rate = c.ranges.rate in
    let wide_rate : FitsSigned w64 c.args.rate = omega (arith, ints) in
    let offset : FitsSigned w32 c.args.offset = c.ranges.offset in
    let wide_offset : FitsSigned w64 c.args.offset = omega (arith, ints) in
    let sum : FitsSigned w64 (c.value.result +ℤ c.args.rate +ℤ c.args.offset) = omega (arith, ints, all.low, all.high) in
    simp to_z-of_z all
