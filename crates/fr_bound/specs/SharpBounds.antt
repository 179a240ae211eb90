-- The sharper bounds of a cluster, in ticks, where delays flutter by no more than so many ticks: the delay of a correct
-- sync node's frames at another correct node, on a channel that both have, differs by no more than the flutter between the
-- two cycles of a double cycle. There are two sets of them: of a cluster without arbitrary sync nodes, and beside arbitrary
-- sync nodes.
use Rattle.std.specs.Prelude.{ℕ, ◌+◌, ◌-◌, ◌*◌, ◌/◌, ◌≤◌, max, nat_abs, ℤ, pos, ◌+ℤ◌, ◌-ℤ◌, ◌*ℤ◌, int_le, int_lt, Bool, true, false, if◌then◌else◌, Option, Some, None, List, [], ◌∷◌}
use Rattle.fr_cluster.specs.Values.{Values, amount}
use Rattle.fr_cluster.specs.Sane.{IsSane}
use Rattle.fr_cluster.specs.Constraints.{key_slots}
use Rattle.fr_cluster.specs.declared.names.ParamName.TheVariants as name
use Rattle.fr_bound.specs.Bounds.{arrival_error, cycle_change, lambda_of, longest_micro, pi_of, precision_of, shortest_micro}

-- two delays of a drift file differ by no more, in ticks
abbrev pub most_flutter : ℕ
most_flutter = 1_000_000_000

-- by how much microticks change in all from an even cycle to the odd one: as many as may lie between a frame's arrival in the
-- even cycle and its sender's action point in the odd one, and one more
abbrev pub wide_change : Values → ℕ
wide_change p =
    (amount p name.pMicroPerCycle + amount p name.pRateCorrectionOut + amount p name.pOffsetCorrectionOut + 1)
    * amount p name.xChangeBound

-- how far a rate value may place the length of a sender's even cycle from the true one
abbrev pub steady_error : Values → ℕ → ℕ
steady_error p flutter = flutter + (longest_micro p - 1) + wide_change p

-- how far the lengths of even cycles may lie apart, beside arbitrary nodes or without
abbrev pub sharp_lambda : Bool → Values → ℕ → ℕ
sharp_lambda false p flutter =
    2 * steady_error p flutter + longest_micro p + 2 * (amount p name.pClusterDriftDamping * longest_micro p) + 2 * cycle_change p
sharp_lambda true p flutter =
    4 * steady_error p flutter + 2 * longest_micro p + 4 * (amount p name.pClusterDriftDamping * longest_micro p) + 4 * cycle_change p

-- how far those of odd cycles may, where those of even ones lie so far apart
abbrev pub odd_spread : Values → ℕ → ℕ
odd_spread p lengths = lengths + 2 * cycle_change p

-- how far the starts of even cycles may lie apart
abbrev pub sharp_pi : Bool → Values → ℕ → ℕ
sharp_pi false p flutter = odd_spread p (sharp_lambda false p flutter) + 2 * arrival_error p + 3 * longest_micro p
sharp_pi true p flutter =
    3 * sharp_lambda true p flutter + 4 * cycle_change p + 4 * arrival_error p + 7 * longest_micro p

-- how far two corresponding macroticks may lie apart, where starts and even lengths lie so far apart
abbrev pub precision_by : Values → ℕ → ℕ → ℕ
precision_by p starts lengths = starts + lengths + odd_spread p lengths + 2 * longest_micro p

-- the sharper precision
abbrev pub sharp_precision : Bool → Values → ℕ → ℕ
sharp_precision beside p flutter = precision_by p (sharp_pi beside p flutter) (sharp_lambda beside p flutter)

-- the greatest of some slots, and 0 without any
unfoldable pub last_of : List ℕ → ℕ
last_of [] = 0
last_of (slot ∷ slots) = max slot (last_of slots)

-- the macrotick of the last action point that counts: that of the last key slot
abbrev pub last_action : Values → ℕ
last_action p = (last_of (key_slots p.nodes) - 1) * amount p name.gdStaticSlot + amount p name.gdActionPointOffset

-- how far action points may lie apart, where starts and even lengths lie so far apart: the last one takes its share of the
-- odd cycle alone
abbrev pub near_by : Values → ℕ → ℕ → ℕ
near_by p starts lengths =
    starts + lengths + last_action p * odd_spread p lengths / amount p name.gMacroPerCycle + longest_micro p

abbrev pub sharp_near : Bool → Values → ℕ → ℕ
sharp_near beside p flutter = near_by p (sharp_pi beside p flutter) (sharp_lambda beside p flutter)

-- no sharper bound is above the older one, where delays flutter by no more than twice the error of an arrival; without
-- arbitrary nodes none is above that beside them; and action points lie no further apart than macroticks
abbrev pub SharpIsBelow : Type 0
SharpIsBelow =
    (beside : Bool) (p : Values) (flutter : ℕ) → IsSane p → flutter ≤ 2 * arrival_error p
    → (sharp_lambda beside p flutter ≤ lambda_of p) × (sharp_pi beside p flutter ≤ pi_of p)
    × (sharp_precision beside p flutter ≤ precision_of p)

abbrev pub AloneIsBelow : Type 0
AloneIsBelow =
    (p : Values) (flutter : ℕ)
    → (sharp_lambda false p flutter ≤ sharp_lambda true p flutter) × (sharp_pi false p flutter ≤ sharp_pi true p flutter)
    × (sharp_precision false p flutter ≤ sharp_precision true p flutter)

abbrev pub NearIsBelow : Type 0
NearIsBelow = (p : Values) (starts lengths : ℕ) → IsSane p → near_by p starts lengths ≤ precision_by p starts lengths

-- ---- the walk: clocks may keep near each other and yet gain or lose all together

-- by how much the lengths of cycles may leave their range in a double cycle: the flutter, the changes, and the microtick
-- that arrivals are rounded by, less the damping; below 0 they come back to it
abbrev pub rate_walk : Values → ℕ → ℤ
rate_walk p flutter =
    (pos (flutter + cycle_change p + wide_change p) -ℤ pos 1)
    +ℤ (if int_lt (pos 0) p.damping then pos (shortest_micro p) -ℤ (p.damping *ℤ pos (shortest_micro p)) else pos (longest_micro p))

-- how far beyond their range the rate limit can follow
abbrev pub rate_room : Values → ℕ
rate_room p = amount p name.pRateCorrectionOut * shortest_micro p - 2 * (amount p name.pMicroPerCycle * amount p name.xRateBound)

-- under the second check, for how many double cycles the rate limit holds the walk; without a number where the lengths do
-- not walk, so that it does for ever
abbrev pub walk_lasts : Values → ℕ → Option ℕ
walk_lasts p flutter =
    if int_le (rate_walk p flutter) (pos 0) then None else Some (rate_room p / nat_abs (rate_walk p flutter))
