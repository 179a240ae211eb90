-- No difference in the bounds and checks is below 0.
use Rattle.std.proofs.Common.{◌≡◌, ℕ, ℤ, pos, ◌+◌, ◌*◌, ◌<◌, ◌≤◌, inl, inr, subst, arith}
use Rattle.std.specs.Prelude.{◌≤ℤ◌, nat_abs}
use Rattle.std.proofs.lemmas.Bool.{cases_lt}
use Rattle.std.proofs.lemmas.Int.{ints}
use Rattle.std.proofs.Math.Nat.{mul-add, mul-le-mul_left, mul-le-mul_right}
use Rattle.fr_cluster.specs.Values.{Values, amount}
use Rattle.fr_cluster.specs.Sane.{IsSane}
use Rattle.fr_cluster.specs.Constraints.{correction_macros}
use Rattle.fr_cluster.specs.declared.names.ParamName.TheVariants as name
use Rattle.fr_bound.specs.Checks.{IsUncut, least_cycle, after_action}

-- where so many macroticks of the correction and more fit into its microticks, a cycle has more microticks than macroticks
more_micros : (macros micros rest more : ℕ) → 1 ≤ more → 1 ≤ macros → macros * (rest + more) ≤ micros * rest → macros < micros
more_micros macros micros rest more some whole fits = elim (cases_lt macros micros) [
  | inl less ↦ less
  | inr other ↦
      let apart : macros * (rest + more) ≡ macros * rest + macros * more = mul-add macros rest more in
      let front : micros * rest ≤ macros * rest = mul-le-mul_right rest other in
      let back : macros * 1 ≤ macros * more = mul-le-mul_left macros some in
      absurd (omega (arith, apart, front, back))
]

-- so many times a number is at least that number
many : (times number : ℕ) → 1 ≤ times → number ≤ times * number
many times number some = let once : 1 * number ≤ times * number = mul-le-mul_right number some in omega (arith, once)

within : (z : ℤ) (least greatest : ℕ) → pos least ≤ℤ z → z ≤ℤ pos greatest → (least ≤ nat_abs z) × (nat_abs z ≤ greatest)
within z least greatest from to = (omega (arith, ints), omega (arith, ints))

pub uncut_lem : (p : Values) → IsSane p → IsUncut p
uncut_lem p sane =
    let f = amount p in
    let holds = sane.constraints in
    let drift = sane.ranges name.xRateBound in
    let front = sane.ranges name.gdActionPointOffset in
    let rate_bound = within p.rate_bound 0 1500 drift.0 drift.1 in
    let action = within p.action_offset 1 63 front.0 front.1 in
    let rest = correction_macros f in
    let regrouped : rest + f name.pOffsetCorrectionOut + 1 ≡ rest + (f name.pOffsetCorrectionOut + 1) = omega arith in
    let Fits : ℕ → Type 0 = λ macroticks. f name.gMacroPerCycle * macroticks ≤ least_cycle p * rest in
    let micros : f name.gMacroPerCycle < least_cycle p =
    more_micros (f name.gMacroPerCycle) (least_cycle p) (correction_macros f) (f name.pOffsetCorrectionOut + 1) (omega arith) (omega (arith, holds.corrects_after)) (subst Fits regrouped holds.leaves_microticks) in
    let before : least_cycle p ≤ f name.gdActionPointOffset * least_cycle p = many (f name.gdActionPointOffset) (least_cycle p) action.0 in
    let after : least_cycle p ≤ after_action p * least_cycle p = many (after_action p) (least_cycle p) (omega (arith, holds.acts_in_slot)) in
    record {
      shortest = omega (arith, rate_bound.1);
      cycle = omega (arith, micros);
      after = omega (arith, holds.acts_in_slot);
      before_action = omega (arith, micros, before);
      after_action = omega (arith, micros, after);
    }
