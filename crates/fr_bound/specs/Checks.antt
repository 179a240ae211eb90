-- The checks under which the bounds hold: five of each cluster, and four more of one that nodes join.
use Rattle.std.specs.Prelude.{ℕ, zero, suc, ◌≡◌, ◌+◌, ◌-◌, ◌*◌, ◌<◌, ◌≤◌, pos, Bool, true, false, nat_le, nat_lt}
use Rattle.fr_cluster.specs.Values.{Values, amount}
use Rattle.fr_cluster.specs.declared.names.ParamName.TheVariants as name
use Rattle.fr_bound.specs.declared.checking.CheckSides.{CheckSides}
use Rattle.fr_bound.specs.Bounds.{nominal, longest_micro, shortest_micro, widest, arrival_error, cycle_change, y1_of, precision_of, follower_error, reach_of}

-- the microticks of the shortest cycle before its offset
abbrev pub least_cycle : Values → ℕ
least_cycle p = amount p name.pMicroPerCycle - amount p name.pRateCorrectionOut

-- microticks of so many macroticks of the shortest cycle, times the macroticks of a cycle, less the macrotick that a floor may take
abbrev pub clear_micros : Values → ℕ → ℕ
clear_micros p macroticks = macroticks * least_cycle p - amount p name.gMacroPerCycle

-- the macroticks from an action point to the end of its slot
abbrev pub after_action : Values → ℕ
after_action p = amount p name.gdStaticSlot - amount p name.gdActionPointOffset

-- what the cluster needs before and after an action point, where macroticks may lie so far apart, times the macroticks of
-- a cycle
abbrev pub front_need_of : Values → ℕ → ℕ
front_need_of p apart = amount p name.gMacroPerCycle * (apart + amount p name.xDelayError)

abbrev pub back_need_of : Values → ℕ → ℕ
back_need_of p apart = amount p name.gMacroPerCycle * (apart + widest p * nominal + amount p name.xDelayError)

-- the left side of a check, by its number; those of nodes that join, from 6 on, have the left sides of 2 to 5
abbrev pub left_of : ℕ → Values → ℕ
left_of (suc zero) p = amount p name.pClusterDriftDamping * shortest_micro p
left_of (suc (suc zero)) p = amount p name.pRateCorrectionOut * shortest_micro p
left_of (suc (suc (suc zero))) p = amount p name.pOffsetCorrectionOut * shortest_micro p
left_of (suc (suc (suc (suc zero)))) p = clear_micros p (amount p name.gdActionPointOffset) * shortest_micro p
left_of (suc (suc (suc (suc (suc zero))))) p = clear_micros p (after_action p) * shortest_micro p
left_of (suc (suc (suc (suc (suc (suc zero)))))) p = amount p name.pRateCorrectionOut * shortest_micro p
left_of (suc (suc (suc (suc (suc (suc (suc zero))))))) p = amount p name.pOffsetCorrectionOut * shortest_micro p
left_of (suc (suc (suc (suc (suc (suc (suc (suc zero)))))))) p = clear_micros p (amount p name.gdActionPointOffset) * shortest_micro p
left_of (suc (suc (suc (suc (suc (suc (suc (suc (suc zero))))))))) p = clear_micros p (after_action p) * shortest_micro p
left_of other p = 0

-- the right side
abbrev pub right_of : ℕ → Values → ℕ
right_of (suc zero) p = y1_of p + 2 * cycle_change p
right_of (suc (suc zero)) p = 2 * (amount p name.pMicroPerCycle * amount p name.xRateBound)
right_of (suc (suc (suc zero))) p = precision_of p + arrival_error p + longest_micro p
right_of (suc (suc (suc (suc zero)))) p = front_need_of p (precision_of p)
right_of (suc (suc (suc (suc (suc zero))))) p = back_need_of p (precision_of p)
right_of (suc (suc (suc (suc (suc (suc zero)))))) p = 2 * (amount p name.pMicroPerCycle * amount p name.xRateBound) + follower_error p
right_of (suc (suc (suc (suc (suc (suc (suc zero))))))) p = reach_of p + arrival_error p + longest_micro p
right_of (suc (suc (suc (suc (suc (suc (suc (suc zero)))))))) p = front_need_of p (reach_of p)
right_of (suc (suc (suc (suc (suc (suc (suc (suc (suc zero))))))))) p = back_need_of p (reach_of p)
right_of other p = 0

-- the check holds: the left side is at least the right one, at the fifth and the ninth it is greater
abbrev pub holds_of : ℕ → Values → Bool
holds_of (suc (suc (suc (suc (suc zero))))) p = nat_lt (right_of 5 p) (left_of 5 p)
holds_of (suc (suc (suc (suc (suc (suc (suc (suc (suc zero))))))))) p = nat_lt (right_of 9 p) (left_of 9 p)
holds_of number p = nat_le (right_of number p) (left_of number p)

-- the numbers of the checks
pub record IsCheck (number : ℕ) : Type 0 where
  pub from : 1 ≤ number
  pub to : number ≤ 9

-- both sides of a check, and whether it holds
pub record IsCheckOf (number : ℕ) (p : Values) (sides : CheckSides) : Type 0 where
  pub left : sides.left ≡ pos (left_of number p)
  pub right : sides.right ≡ pos (right_of number p)
  pub holds : sides.holds ≡ holds_of number p

-- both sides as naturals, which fit
pub record AreSides (number : ℕ) (p : Values) (left right : ℕ) : Type 0 where
  pub left_is : left ≡ left_of number p
  pub right_is : right ≡ right_of number p
  pub left_fits : left ≤ 1_000_000_000_000_000_000
  pub right_fits : right ≤ 1_000_000_000_000_000_000

-- the check of this number fails, and those of lesser numbers hold; of the five that are asked of each cluster
pub record FirstFailing (number : ℕ) (p : Values) : Type 0 where
  pub from : 1 ≤ number
  pub to : number ≤ 5
  pub fails : holds_of number p ≡ false
  pub earlier : (k : ℕ) → 1 ≤ k → k < number → holds_of k p ≡ true

-- every one of the five holds
abbrev pub AllChecksHold : Values → Type 0
AllChecksHold p = (k : ℕ) → 1 ≤ k → k ≤ 5 → holds_of k p ≡ true

-- the same of the four that are asked of one that nodes join
pub record FirstFailingToJoin (number : ℕ) (p : Values) : Type 0 where
  pub from : 6 ≤ number
  pub to : number ≤ 9
  pub fails : holds_of number p ≡ false
  pub earlier : (k : ℕ) → 6 ≤ k → k < number → holds_of k p ≡ true

-- every one of the four holds
abbrev pub AllJoinChecksHold : Values → Type 0
AllJoinChecksHold p = (k : ℕ) → 6 ≤ k → k ≤ 9 → holds_of k p ≡ true

-- no subtraction in the sides is cut off at 0
pub record IsUncut (p : Values) : Type 0 where
  pub shortest : amount p name.xRateBound ≤ nominal
  pub cycle : amount p name.pRateCorrectionOut ≤ amount p name.pMicroPerCycle
  pub after : amount p name.gdActionPointOffset ≤ amount p name.gdStaticSlot
  pub before_action : amount p name.gMacroPerCycle ≤ amount p name.gdActionPointOffset * least_cycle p
  pub after_action : amount p name.gMacroPerCycle ≤ after_action p * least_cycle p
