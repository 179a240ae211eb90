-- The laws of instants: how far apart two nodes' macroticks lie in a double cycle.
use Rattle.std.specs.Prelude.{ℤ, pos, ◌+ℤ◌, ◌-ℤ◌, ◌*ℤ◌, ◌≤ℤ◌, Bool, true, false}
use Rattle.fr_base.specs.declared.node_row.NodeRow.{NodeRow}
use Rattle.fr_cluster.specs.Values.{Values}
use Rattle.fr_cluster.specs.Sane.{IsSane}
use Rattle.fr_base.specs.Within.{IsWithin}
use Rattle.fr_time.specs.Position.{grid_for}
use Rattle.fr_time.specs.Instant.{instant_of}
use Rattle.fr_bound.specs.Bounds.{lambda_of, longest_micro, pi_of, precision_of}
use Rattle.fr_bound.specs.Sync.{cycle_length_of}
use Rattle.fr_precision.specs.Rows.{corrected_end_of, Lasts, IsDoubleCycle}

-- a node in a double cycle: its two rows follow each other, and every microtick lasts
pub record Runs (p : Values) (even odd : NodeRow) : Type 0 where
  pub double : IsDoubleCycle p even odd
  pub even_lasts : Lasts p even
  pub odd_lasts : Lasts p odd

-- how far a macrotick of a node lies after that of another, in ticks
abbrev pub gap_of : Values → Bool → ℤ → NodeRow → NodeRow → ℤ
gap_of p is_odd macrotick row other = instant_of (grid_for p) row is_odd macrotick -ℤ instant_of (grid_for p) other is_odd macrotick

-- two nodes' starts of a double cycle lie at most so far apart, and so do the lengths of their even and their odd cycles
pub record LieNear (p : Values) (starts even_lengths odd_lengths : ℤ) (even odd other_even other_odd : NodeRow) : Type 0 where
  pub by_start : IsWithin starts (even.start -ℤ other_even.start)
  pub by_even : IsWithin even_lengths (cycle_length_of p even -ℤ cycle_length_of p other_even)
  pub by_odd : IsWithin odd_lengths (cycle_length_of p odd -ℤ cycle_length_of p other_odd)

-- up to the start of the offset correction, macroticks lie no further apart than starts and lengths together, and a
-- microtick; in the even cycle all do, since it has no offset correction
abbrev pub MacroticksStayNear : Type 0
MacroticksStayNear =
    (p : Values) (starts even_lengths odd_lengths macrotick : ℤ) (even odd other_even other_odd : NodeRow)
    → IsSane p → Runs p even odd → Runs p other_even other_odd
    → LieNear p starts even_lengths odd_lengths even odd other_even other_odd → pos 0 ≤ℤ macrotick
    → (macrotick ≤ℤ p.macros
    → IsWithin (starts +ℤ even_lengths +ℤ pos (longest_micro p)) (gap_of p false macrotick even other_even))
    × (macrotick ≤ℤ p.correction
    → IsWithin (starts +ℤ even_lengths +ℤ odd_lengths +ℤ pos (longest_micro p)) (gap_of p true macrotick odd other_odd))

-- the row of one of both cycles
abbrev pub row_in : Bool → NodeRow → NodeRow → NodeRow
row_in false even odd = even
row_in true even odd = odd

-- so an action point of either cycle, before the start of the offset correction, lies within reach wherever the reach takes
-- in how far starts lie apart, the lengths of both cycles, and a microtick
abbrev pub ActionsStayNear : Type 0
ActionsStayNear =
    (p : Values) (starts lengths reach action : ℤ) (is_odd : Bool) (even odd other_even other_odd : NodeRow)
    → IsSane p → Runs p even odd → Runs p other_even other_odd
    → LieNear p starts lengths lengths even odd other_even other_odd
    → (starts +ℤ (pos 2 *ℤ lengths) +ℤ pos (longest_micro p)) ≤ℤ reach → pos 0 ≤ℤ action → action ≤ℤ p.correction
    → IsWithin reach (gap_of p is_odd action (row_in is_odd even odd) (row_in is_odd other_even other_odd))

-- where starts lie within one bound at the beginning of a double cycle and within another one at its end, and lengths
-- within a third, no macrotick of both cycles lies further apart than a reach that takes in the first with twice the third
-- and two microticks, and the second with a microtick
abbrev pub MacroticksLieWithin : Type 0
MacroticksLieWithin =
    (p : Values) (starts lengths ends reach macrotick : ℤ) (is_odd : Bool) (even odd other_even other_odd : NodeRow)
    → IsSane p → Runs p even odd → Runs p other_even other_odd
    → LieNear p starts lengths lengths even odd other_even other_odd
    → IsWithin ends (corrected_end_of p odd -ℤ corrected_end_of p other_odd)
    → (starts +ℤ (pos 2 *ℤ lengths) +ℤ (pos 2 *ℤ pos (longest_micro p))) ≤ℤ reach
    → (ends +ℤ pos (longest_micro p)) ≤ℤ reach
    → pos 0 ≤ℤ macrotick → macrotick ≤ℤ p.macros
    → IsWithin reach (gap_of p is_odd macrotick (row_in is_odd even odd) (row_in is_odd other_even other_odd))

-- where starts lie within one bound at both ends of a double cycle, and lengths within another, no macrotick of both
-- cycles lies further apart than the one bound, twice the other, and two microticks
abbrev pub MacroticksLieBetween : Type 0
MacroticksLieBetween =
    (p : Values) (starts lengths macrotick : ℤ) (is_odd : Bool) (even odd other_even other_odd : NodeRow)
    → IsSane p → Runs p even odd → Runs p other_even other_odd
    → LieNear p starts lengths lengths even odd other_even other_odd
    → IsWithin starts (corrected_end_of p odd -ℤ corrected_end_of p other_odd)
    → pos 0 ≤ℤ macrotick → macrotick ≤ℤ p.macros
    → IsWithin
    (starts +ℤ (pos 2 *ℤ lengths) +ℤ (pos 2 *ℤ pos (longest_micro p)))
    (gap_of p is_odd macrotick (row_in is_odd even odd) (row_in is_odd other_even other_odd))

-- so the precision holds: with pi and lambda as the bounds
abbrev pub PrecisionHolds : Type 0
PrecisionHolds =
    (p : Values) (macrotick : ℤ) (is_odd : Bool) (even odd other_even other_odd : NodeRow)
    → IsSane p → Runs p even odd → Runs p other_even other_odd
    → LieNear p (pos (pi_of p)) (pos (lambda_of p)) (pos (lambda_of p)) even odd other_even other_odd
    → IsWithin (pos (pi_of p)) (corrected_end_of p odd -ℤ corrected_end_of p other_odd)
    → pos 0 ≤ℤ macrotick → macrotick ≤ℤ p.macros
    → IsWithin (pos (precision_of p)) (gap_of p is_odd macrotick (row_in is_odd even odd) (row_in is_odd other_even other_odd))
