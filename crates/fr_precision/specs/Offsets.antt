-- The laws of offsets: what the offset correction of an odd cycle makes of the starts of the next double cycle.
use Rattle.std.specs.Prelude.{◌≡◌, true, ◌+◌, ◌*◌, ◌≤◌, Bool, ℤ, pos, ◌+ℤ◌, ◌-ℤ◌, ◌*ℤ◌, ◌≤ℤ◌, ◌<ℤ◌, List, length, All}
use Rattle.fr_base.specs.declared.node_row.NodeRow.{NodeRow}
use Rattle.fr_base.specs.declared.Outcome.TheVariants.{Within}
use Rattle.fr_cluster.specs.Values.{Values}
use Rattle.fr_cluster.specs.Sane.{IsSane}
use Rattle.fr_base.specs.Within.{IsWithin}
use Rattle.fr_midpoint.specs.Receivers.{Hears}
use Rattle.fr_correct.specs.declared.term.Term.{Term}
use Rattle.fr_correct.specs.Terms.{IsOffsetTerm}
use Rattle.fr_bound.specs.Bounds.{arrival_error, lambda_of, longest_micro, pi_of, precision_of}
use Rattle.fr_bound.specs.Checks.{holds_of, left_of}
use Rattle.fr_bound.specs.Sync.{cycle_length_of}
use Rattle.fr_precision.specs.Rows.{corrected_end_of, end_of, AreNear, HasProperMicro, IsDoubleCycle, KeepOne, Lasts, Sender}
use Rattle.fr_precision.specs.Instants.{gap_of}

-- a deviation that a receiver may have of a sender's frame, sent at a macrotick of a cycle: counted in the receiver's
-- microticks it is the gap of their instants, but for the error of an arrival, and for less than a microtick that is
-- rounded down
pub record IsDeviation (p : Values) (is_odd : Bool) (action : ℤ) (receiver sender : NodeRow) (value : ℤ) : Type 0 where
  pub low : (gap_of p is_odd action sender receiver -ℤ (pos (arrival_error p) +ℤ receiver.length)) <ℤ (value *ℤ receiver.length)
  pub high : (value *ℤ receiver.length) ≤ℤ (gap_of p is_odd action sender receiver +ℤ pos (arrival_error p))

-- a sender: its two cycles follow each other, and it sends before the offset correction starts
pub record IsSending (p : Values) (sender : Sender) : Type 0 where
  pub double : IsDoubleCycle p sender.even sender.odd
  pub lasts : Lasts p sender.odd
  pub acts_from : pos 0 ≤ℤ sender.action
  pub acts_to : sender.action ≤ℤ p.correction

-- a receiver's odd row and its offset values, among which is a deviation of each sender
pub record IsOffsetRound (p : Values) (senders : List Sender) (row : NodeRow) (values : List ℤ) (term : Term) : Type 0 where
  pub micro : HasProperMicro p row
  pub hears : Hears Sender (λ sender value. IsDeviation p true sender.action row sender.odd value) senders values
  pub is_term : IsOffsetTerm p.offset_limit values term
  pub applied : row.offset ≡ term.value

-- the offset limit suffices where macroticks lie at most so far apart: the third check with this number for the precision
abbrev pub LimitSuffices : Values → ℤ → Type 0
LimitSuffices p reach = (reach +ℤ pos (arrival_error p) +ℤ pos (longest_micro p)) ≤ℤ pos (left_of 3 p)

-- each sender's action point lies at most so far from the receiver's
abbrev pub ReachAll : Values → ℤ → List Sender → NodeRow → Type 0
ReachAll p reach senders row = All (λ sender. IsWithin reach (gap_of p true sender.action sender.odd row)) senders

-- the length of each sender's odd cycle lies at most so far from the receiver's
abbrev pub NearAll : Values → ℤ → List Sender → NodeRow → Type 0
NearAll p lengths senders row = All (λ sender. IsWithin lengths (cycle_length_of p row -ℤ cycle_length_of p sender.odd)) senders

-- no offset term is cut
abbrev pub OffsetTermsAreUncut : Type 0
OffsetTermsAreUncut =
    (p : Values) (senders : List Sender) (reach : ℤ) (row : NodeRow) (values : List ℤ) (term : Term)
    → IsSane p → LimitSuffices p reach → 1 ≤ length senders → ReachAll p reach senders row
    → IsOffsetRound p senders row values term → term.outcome ≡ Within

-- the third check is the case of the precision
abbrev pub ThirdCheckSuffices : Type 0
ThirdCheckSuffices = (p : Values) → holds_of 3 p ≡ true → LimitSuffices p (pos (precision_of p))

-- the corrected end of one receiver lies among the senders' ends
abbrev pub CorrectedEndLiesAmong : Type 0
CorrectedEndLiesAmong =
    (p : Values) (senders : List Sender) (lengths reach least greatest : ℤ) (row : NodeRow) (values : List ℤ) (term : Term)
    → IsSane p → LimitSuffices p reach → 1 ≤ length senders → All (IsSending p) senders
    → ReachAll p reach senders row → NearAll p lengths senders row
    → All (λ sender. least ≤ℤ end_of p sender.odd) senders → All (λ sender. end_of p sender.odd ≤ℤ greatest) senders
    → IsOffsetRound p senders row values term
    → ((least -ℤ (lengths +ℤ pos (arrival_error p + 2 * longest_micro p))) ≤ℤ corrected_end_of p row)
    × (corrected_end_of p row ≤ℤ (greatest +ℤ (lengths +ℤ pos (arrival_error p + longest_micro p))))

-- any two senders' starts of the double cycle lie at most so far apart, and so do the lengths of both cycles
pub record SendersLieNear (p : Values) (starts lengths : ℤ) (senders : List Sender) : Type 0 where
  pub by_start : AreNear (λ sender. sender.even.start) starts senders
  pub by_even : AreNear (λ sender. cycle_length_of p sender.even) lengths senders
  pub by_odd : AreNear (λ sender. cycle_length_of p sender.odd) lengths senders

-- the corrected ends of two receivers lie half as far apart as the senders' starts, and some
abbrev pub EndsDrawTogether : Type 0
EndsDrawTogether =
    (p : Values) (senders : List Sender) (starts lengths reach : ℤ) (row other_row : NodeRow) (values other_values : List ℤ)
    (term other_term : Term)
    → IsSane p → LimitSuffices p reach → All (IsSending p) senders → SendersLieNear p starts lengths senders
    → ReachAll p reach senders row → ReachAll p reach senders other_row
    → NearAll p lengths senders row → NearAll p lengths senders other_row
    → IsOffsetRound p senders row values term → IsOffsetRound p senders other_row other_values other_term
    → KeepOne values other_values senders
    → IsWithin
    (starts +ℤ (pos 6 *ℤ lengths) +ℤ pos (4 * arrival_error p + 8 * longest_micro p))
    (pos 2 *ℤ (corrected_end_of p row -ℤ corrected_end_of p other_row))

-- so pi is a fixed point: where starts lie within it, and lengths within lambda, so do the next starts
abbrev pub EndsStayTogether : Type 0
EndsStayTogether =
    (p : Values) (senders : List Sender) (reach : ℤ) (row other_row : NodeRow) (values other_values : List ℤ)
    (term other_term : Term)
    → IsSane p → LimitSuffices p reach → All (IsSending p) senders
    → SendersLieNear p (pos (pi_of p)) (pos (lambda_of p)) senders
    → ReachAll p reach senders row → ReachAll p reach senders other_row
    → NearAll p (pos (lambda_of p)) senders row → NearAll p (pos (lambda_of p)) senders other_row
    → IsOffsetRound p senders row values term → IsOffsetRound p senders other_row other_values other_term
    → KeepOne values other_values senders
    → IsWithin (pos (pi_of p)) (corrected_end_of p row -ℤ corrected_end_of p other_row)

-- a receiver's own value, 0, is a deviation of its own frame
abbrev pub OwnValueIsDeviation : Type 0
OwnValueIsDeviation =
    (p : Values) (is_odd : Bool) (action : ℤ) (row : NodeRow) → Lasts p row → IsDeviation p is_odd action row row (pos 0)
