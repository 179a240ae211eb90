-- The sharper laws of offsets: what offset correction makes of the starts of the next double cycle.
use Rattle.std.specs.Prelude.{◌+◌, ◌*◌, Bool, true, false, ℤ, pos, ◌+ℤ◌, ◌-ℤ◌, ◌*ℤ◌, List, length, ◌≤◌, All}
use Rattle.fr_base.specs.declared.node_row.NodeRow.{NodeRow}
use Rattle.fr_base.specs.Within.{IsWithin}
use Rattle.fr_cluster.specs.Values.{Values}
use Rattle.fr_cluster.specs.Sane.{IsSane}
use Rattle.fr_correct.specs.declared.term.Term.{Term}
use Rattle.fr_bound.specs.Bounds.{arrival_error, longest_micro}
use Rattle.fr_bound.specs.Sync.{cycle_length_of}
use Rattle.fr_precision.specs.Rows.{corrected_end_of, end_of, AreNear, Sender}
use Rattle.fr_precision.specs.Offsets.{IsOffsetRound, IsSending, LimitSuffices, NearAll, ReachAll}
use Rattle.fr_precision.specs.Lengths.{KeepSenders}

-- senders whose starts of the double cycle lie at most so far apart, and so the lengths of their even and of their odd cycles
pub record SendApart (p : Values) (starts evens odds : ℤ) (senders : List Sender) : Type 0 where
  pub sending : All (IsSending p) senders
  pub by_start : AreNear (λ sender. sender.even.start) starts senders
  pub by_even : AreNear (λ sender. cycle_length_of p sender.even) evens senders
  pub by_odd : AreNear (λ sender. cycle_length_of p sender.odd) odds senders

-- a receiver within reach of each sender, whose odd cycle is about as long as theirs, and its offset round
pub record TakesOffsets (p : Values) (senders : List Sender) (reach odds : ℤ) (row : NodeRow) (values : List ℤ) (term : Term) : Type 0 where
  pub suffices : LimitSuffices p reach
  pub reached : ReachAll p reach senders row
  pub near : NearAll p odds senders row
  pub round : IsOffsetRound p senders row values term

-- how near ends come: half as near as the senders' starts, and some; without arbitrary nodes the starts do not count
abbrev pub EndsCome : Bool → Values → ℤ → ℤ → ℤ → ℤ → Type 0
EndsCome false p starts evens odds apart = IsWithin (odds +ℤ pos (2 * arrival_error p + 3 * longest_micro p)) apart
EndsCome true p starts evens odds apart =
    IsWithin
    (starts +ℤ evens +ℤ (pos 2 *ℤ odds) +ℤ pos (4 * arrival_error p + 7 * longest_micro p))
    (pos 2 *ℤ apart)

abbrev pub EndsComeNear : Type 0
EndsComeNear =
    (beside : Bool) (p : Values) (senders : List Sender) (starts evens odds reach other_reach : ℤ) (row other_row : NodeRow)
    (values other_values : List ℤ) (term other_term : Term)
    → IsSane p → SendApart p starts evens odds senders
    → TakesOffsets p senders reach odds row values term → TakesOffsets p senders other_reach odds other_row other_values other_term
    → IsWithin odds (cycle_length_of p row -ℤ cycle_length_of p other_row) → KeepSenders beside senders values other_values
    → EndsCome beside p starts evens odds (corrected_end_of p row -ℤ corrected_end_of p other_row)

-- the corrected end of one receiver lies near each sender's end
abbrev pub CorrectedEndIsNear : Type 0
CorrectedEndIsNear =
    (p : Values) (senders : List Sender) (starts evens odds reach : ℤ) (row : NodeRow) (values : List ℤ) (term : Term)
    → IsSane p → 1 ≤ length senders → SendApart p starts evens odds senders → TakesOffsets p senders reach odds row values term
    → All
    (λ sender. IsWithin (starts +ℤ evens +ℤ odds +ℤ pos (arrival_error p + 2 * longest_micro p)) (corrected_end_of p row -ℤ end_of p sender.odd))
    senders
