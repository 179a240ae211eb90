-- The sharper laws of instants: how far macroticks lie apart, where the lengths of even and of odd cycles have each their own
-- bound.
use Rattle.std.specs.Prelude.{ℕ, Bool, ℤ, pos, ◌+ℤ◌, ◌-ℤ◌, ◌*ℤ◌, ◌≤ℤ◌}
use Rattle.fr_base.specs.declared.node_row.NodeRow.{NodeRow}
use Rattle.fr_base.specs.Within.{IsWithin}
use Rattle.fr_cluster.specs.Values.{Values}
use Rattle.fr_cluster.specs.Sane.{IsSane}
use Rattle.fr_time.specs.Position.{floor_of}
use Rattle.fr_bound.specs.Bounds.{longest_micro}
use Rattle.fr_bound.specs.Sync.{cycle_length_of}
use Rattle.fr_precision.specs.Rows.{corrected_end_of}
use Rattle.fr_precision.specs.Instants.{gap_of, row_in, LieNear, Runs}
use Rattle.fr_precision.specs.Placement.{IsRegular}
use Rattle.fr_bound.specs.SharpBounds.{odd_spread}

-- where even lengths lie so near, odd ones lie by two changes further apart at most, since both have the same rate
abbrev pub OddLengthsFollow : Type 0
OddLengthsFollow =
    (p : Values) (lengths : ℕ) (even odd other_even other_odd : NodeRow)
    → IsSane p → IsRegular p even odd → IsRegular p other_even other_odd
    → IsWithin (pos lengths) (cycle_length_of p even -ℤ cycle_length_of p other_even)
    → IsWithin (pos (odd_spread p lengths)) (cycle_length_of p odd -ℤ cycle_length_of p other_odd)

-- an action point of either cycle lies no further apart than starts, even lengths, the last one's share of the odd lengths,
-- and a microtick
abbrev pub ActionsLieNear : Type 0
ActionsLieNear =
    (p : Values) (starts evens odds action last : ℤ) (is_odd : Bool) (even odd other_even other_odd : NodeRow)
    → IsSane p → Runs p even odd → Runs p other_even other_odd
    → LieNear p starts evens odds even odd other_even other_odd
    → pos 0 ≤ℤ action → action ≤ℤ last → last ≤ℤ p.correction
    → IsWithin
    (starts +ℤ evens +ℤ floor_of (last *ℤ odds) p.macros +ℤ pos (longest_micro p))
    (gap_of p is_odd action (row_in is_odd even odd) (row_in is_odd other_even other_odd))

-- no macrotick of both cycles lies further apart than a reach that takes in starts, even and odd lengths and two microticks,
-- and the ends and a microtick
abbrev pub MacroticksLieInReach : Type 0
MacroticksLieInReach =
    (p : Values) (starts evens odds ends reach macrotick : ℤ) (is_odd : Bool) (even odd other_even other_odd : NodeRow)
    → IsSane p → Runs p even odd → Runs p other_even other_odd
    → LieNear p starts evens odds even odd other_even other_odd
    → IsWithin ends (corrected_end_of p odd -ℤ corrected_end_of p other_odd)
    → (starts +ℤ evens +ℤ odds +ℤ (pos 2 *ℤ pos (longest_micro p))) ≤ℤ reach → (ends +ℤ pos (longest_micro p)) ≤ℤ reach
    → pos 0 ≤ℤ macrotick → macrotick ≤ℤ p.macros
    → IsWithin reach (gap_of p is_odd macrotick (row_in is_odd even odd) (row_in is_odd other_even other_odd))
