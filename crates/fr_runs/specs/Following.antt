-- How near a node that follows lies to the others, in its first and in its second double cycle.
use Rattle.std.specs.Prelude.{◌≡◌, true, ℕ, ◌+◌, ◌*◌, ◌≤◌, Bool, ℤ, pos, ◌+ℤ◌, ◌-ℤ◌, ◌*ℤ◌, ◌≤ℤ◌, List, length, All, Contains}
use Rattle.fr_base.specs.Within.{IsWithin}
use Rattle.fr_base.specs.declared.node_row.NodeRow.{NodeRow}
use Rattle.fr_cluster.specs.Values.{Values}
use Rattle.fr_cluster.specs.Sane.{IsSane}
use Rattle.fr_reception.specs.Listening.{Caught, first_start_of}
use Rattle.fr_correct.specs.declared.term.Term.{Term}
use Rattle.fr_bound.specs.Bounds.{arrival_error, follower_error, lambda_of, longest_micro, pi_of, reach_of}
use Rattle.fr_bound.specs.Checks.{holds_of}
use Rattle.fr_bound.specs.Sync.{cycle_length_of, IsCycleLength}
use Rattle.fr_precision.specs.Rows.{corrected_end_of, Sender}
use Rattle.fr_precision.specs.Instants.{gap_of, row_in, LieNear, Runs}
use Rattle.fr_precision.specs.Rates.{IsNext, IsRateRound, LengthsWithin}
use Rattle.fr_precision.specs.Receivers.{HearsNear, SendNear}
use Rattle.fr_runs.specs.Room.{RateLimitSuffices}
use Rattle.fr_runs.specs.Listening.{BeginsAt, IsCaught}

-- the corrected ends of two receivers, with numbers of their own, whether or not they share a sender
abbrev pub EndsLieNear : Type 0
EndsLieNear =
    (p : Values) (senders : List Sender) (starts lengths reach other_reach row_lengths other_lengths : ℤ) (row other : NodeRow)
    (values other_values : List ℤ) (term other_term : Term)
    → IsSane p → 1 ≤ length senders → SendNear p starts lengths senders
    → HearsNear p senders reach row_lengths row values term → HearsNear p senders other_reach other_lengths other other_values other_term
    → IsWithin
    (starts +ℤ (pos 2 *ℤ lengths) +ℤ row_lengths +ℤ other_lengths +ℤ pos (2 * arrival_error p + 3 * longest_micro p))
    (corrected_end_of p row -ℤ corrected_end_of p other)

-- a first start lies near each receiver's corrected end, where the reference is one of the senders
abbrev pub FirstStartIsNearEnds : Type 0
FirstStartIsNearEnds =
    (p : Values) (senders : List Sender) (starts lengths reach row_lengths : ℤ) (c : Caught) (reference : Sender) (row : NodeRow)
    (values : List ℤ) (term : Term)
    → IsSane p → RateLimitSuffices p → SendNear p starts lengths senders → HearsNear p senders reach row_lengths row values term
    → Contains senders reference → IsCaught p c reference.even reference.odd
    → IsWithin
    (starts +ℤ (pos 2 *ℤ lengths) +ℤ row_lengths +ℤ pos (2 * arrival_error p + 3 * longest_micro p + follower_error p))
    (corrected_end_of p row -ℤ first_start_of p c)

-- its first lengths lie near those that each receiver has next
abbrev pub FirstLengthsAreNearNext : Type 0
FirstLengthsAreNearNext =
    (p : Values) (senders : List Sender) (spread : ℤ) (c : Caught) (reference : Sender) (row : NodeRow) (values : List ℤ) (term : Term)
    (even odd first_even first_odd : NodeRow)
    → IsSane p → holds_of 1 p ≡ true → holds_of 2 p ≡ true → RateLimitSuffices p
    → All (λ sender. IsCycleLength p (cycle_length_of p sender.odd)) senders → LengthsWithin p spread senders
    → IsRateRound p senders row values term → IsNext p row term even odd
    → Contains senders reference → IsCaught p c reference.even reference.odd → BeginsAt p c first_even first_odd
    → IsWithin (spread +ℤ pos (lambda_of p + follower_error p)) (cycle_length_of p even -ℤ cycle_length_of p first_even)
    × IsWithin (spread +ℤ pos (lambda_of p + follower_error p)) (cycle_length_of p odd -ℤ cycle_length_of p first_odd)

-- ---- the numbers of a cluster in sync

-- two nodes' instants up to the start of the offset correction lie at most so far apart, in both cycles
abbrev pub IsInReach : Values → ℤ → NodeRow → NodeRow → NodeRow → NodeRow → Type 0
IsInReach p reach even odd other_even other_odd =
    (macrotick : ℤ) (is_odd : Bool) → pos 0 ≤ℤ macrotick → macrotick ≤ℤ p.correction
    → IsWithin reach (gap_of p is_odd macrotick (row_in is_odd even odd) (row_in is_odd other_even other_odd))

-- how far the starts of its first and of its second double cycle may lie from the others'
abbrev pub first_apart : Values → ℕ
first_apart p = pi_of p + 3 * lambda_of p + follower_error p + 2 * arrival_error p + 3 * longest_micro p

abbrev pub second_apart : Values → ℕ
second_apart p = pi_of p + 5 * lambda_of p + follower_error p + 2 * arrival_error p + 3 * longest_micro p

-- how far its first lengths may
abbrev pub first_lengths : Values → ℕ
first_lengths p = 2 * lambda_of p + follower_error p

-- in its first double cycle, and in its second, a node that follows lies within reach of the others
abbrev pub FirstDoubleIsInReach : Type 0
FirstDoubleIsInReach =
    (p : Values) (even odd other_even other_odd : NodeRow) → IsSane p → Runs p even odd → Runs p other_even other_odd
    → LieNear p (pos (first_apart p)) (pos (first_lengths p)) (pos (first_lengths p)) even odd other_even other_odd
    → IsInReach p (pos (reach_of p)) even odd other_even other_odd

abbrev pub SecondDoubleIsInReach : Type 0
SecondDoubleIsInReach =
    (p : Values) (even odd other_even other_odd : NodeRow) → IsSane p → Runs p even odd → Runs p other_even other_odd
    → LieNear p (pos (second_apart p)) (pos (lambda_of p)) (pos (lambda_of p)) even odd other_even other_odd
    → IsInReach p (pos (reach_of p)) even odd other_even other_odd

-- what the laws above come to where senders are in sync: the starts and lengths of the first double cycle
abbrev pub FirstDoubleIsNear : Type 0
FirstDoubleIsNear =
    (p : Values) (senders : List Sender) (reach : ℤ) (c : Caught) (reference : Sender) (row : NodeRow) (values rates : List ℤ) (term rate : Term)
    (even odd first_even first_odd : NodeRow)
    → IsSane p → holds_of 1 p ≡ true → holds_of 2 p ≡ true → RateLimitSuffices p
    → SendNear p (pos (pi_of p)) (pos (lambda_of p)) senders → All (λ sender. IsCycleLength p (cycle_length_of p sender.odd)) senders
    → HearsNear p senders reach (pos (lambda_of p)) row values term → IsRateRound p senders row rates rate
    → IsNext p row rate even odd → even.start ≡ corrected_end_of p row
    → Contains senders reference → IsCaught p c reference.even reference.odd → BeginsAt p c first_even first_odd
    → LieNear p (pos (first_apart p)) (pos (first_lengths p)) (pos (first_lengths p)) even odd first_even first_odd

-- and the starts of the second one
abbrev pub SecondStartIsNear : Type 0
SecondStartIsNear =
    (p : Values) (senders : List Sender) (reach other_reach : ℤ) (row other : NodeRow) (values other_values : List ℤ) (term other_term : Term)
    → IsSane p → 1 ≤ length senders → SendNear p (pos (pi_of p)) (pos (lambda_of p)) senders
    → HearsNear p senders reach (pos (lambda_of p)) row values term
    → HearsNear p senders other_reach (pos (first_lengths p)) other other_values other_term
    → IsWithin (pos (second_apart p)) (corrected_end_of p row -ℤ corrected_end_of p other)
