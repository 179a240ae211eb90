-- The laws of rates: what one double cycle's rate correction makes of the lengths of the next one's cycles.
use Rattle.std.specs.Prelude.{◌≡◌, true, ℕ, ◌+◌, ◌*◌, ◌≤◌, ℤ, pos, ◌+ℤ◌, ◌-ℤ◌, ◌*ℤ◌, ◌≤ℤ◌, ◌<ℤ◌, List, length, All}
use Rattle.fr_base.specs.declared.node_row.NodeRow.{NodeRow}
use Rattle.fr_base.specs.declared.Outcome.TheVariants.{Within}
use Rattle.fr_cluster.specs.Values.{Values, amount}
use Rattle.fr_cluster.specs.Sane.{IsSane}
use Rattle.fr_cluster.specs.declared.names.ParamName.TheVariants as name
use Rattle.fr_base.specs.Within.{IsWithin}
use Rattle.fr_midpoint.specs.Receivers.{Hears}
use Rattle.fr_correct.specs.declared.term.Term.{Term}
use Rattle.fr_correct.specs.Terms.{IsRateTerm}
use Rattle.fr_bound.specs.Bounds.{cycle_change, lambda_of, longest_micro, y1_of}
use Rattle.fr_bound.specs.Checks.{holds_of}
use Rattle.fr_bound.specs.Sync.{cycle_length_of, IsCycleLength}
use Rattle.fr_precision.specs.Rows.{longest_cycle, shortest_cycle, AreNear, HasProperMicro, IsSteady, KeepOne, Sender}

-- a rate value, counted in the receiver's odd microticks from its own length, places the length of the sender's odd cycle
abbrev pub PlacesLength : Values → NodeRow → Sender → ℤ → Type 0
PlacesLength p row sender value =
    IsWithin (pos (y1_of p)) ((cycle_length_of p row +ℤ (value *ℤ row.length)) -ℤ cycle_length_of p sender.odd)

-- a receiver's odd row, its rate values, and the rate term that it computes from them
pub record IsRateRound (p : Values) (senders : List Sender) (row : NodeRow) (values : List ℤ) (term : Term) : Type 0 where
  pub micro : HasProperMicro p row
  pub hears : Hears Sender (PlacesLength p row) senders values
  pub is_term : IsRateTerm row.rate p.damping p.rate_limit values term

-- the double cycle after an odd row with a rate term: both its cycles have the term as their rate, and the microtick
-- changes little from each cycle to the next
pub record IsNext (p : Values) (row : NodeRow) (term : Term) (even odd : NodeRow) : Type 0 where
  pub even_rate : even.rate ≡ term.value
  pub odd_rate : odd.rate ≡ term.value
  pub even_micro : HasProperMicro p even
  pub odd_micro : HasProperMicro p odd
  pub even_steady : IsSteady p row even
  pub odd_steady : IsSteady p even odd

-- the length of a cycle at a rate and a microtick
abbrev pub length_at : Values → ℤ → ℤ → ℤ
length_at p rate micro = (p.micros +ℤ rate) *ℤ micro

-- a rate term that was not cut keeps a cycle's length in its range, and where it is not 0 it leaves room for two changes
-- of the microtick on the side that it corrects to
pub record KeepsRange (p : Values) (row : NodeRow) (term : Term) : Type 0 where
  pub uncut : term.outcome ≡ Within
  pub limit : IsWithin p.rate_limit term.value
  pub proper : IsCycleLength p (length_at p term.value row.length)
  pub room_above :
      pos 0 <ℤ term.value → (length_at p term.value row.length +ℤ pos (2 * cycle_change p)) ≤ℤ pos (longest_cycle p)
  pub room_below :
      term.value <ℤ pos 0 → pos (shortest_cycle p + 2 * cycle_change p) ≤ℤ length_at p term.value row.length

-- no rate term is cut, and the lengths stay in their range: of the odd microtick alone
abbrev pub RateTermsAreUncut : Type 0
RateTermsAreUncut =
    (p : Values) (senders : List Sender) (row : NodeRow) (values : List ℤ) (term : Term)
    → IsSane p → holds_of 1 p ≡ true → holds_of 2 p ≡ true → 1 ≤ length senders
    → All (λ sender. IsCycleLength p (cycle_length_of p sender.odd)) senders → IsRateRound p senders row values term → KeepsRange p row term

-- and the lengths of the next double cycle
abbrev pub LengthsStayInRange : Type 0
LengthsStayInRange =
    (p : Values) (senders : List Sender) (row : NodeRow) (values : List ℤ) (term : Term) (even odd : NodeRow)
    → IsSane p → holds_of 1 p ≡ true → holds_of 2 p ≡ true → 1 ≤ length senders
    → All (λ sender. IsCycleLength p (cycle_length_of p sender.odd)) senders → IsRateRound p senders row values term
    → IsNext p row term even odd → IsCycleLength p (cycle_length_of p even) × IsCycleLength p (cycle_length_of p odd)

-- the lengths of the senders' odd cycles lie at most so far apart
abbrev pub LengthsWithin : Values → ℤ → List Sender → Type 0
LengthsWithin p spread senders = AreNear (λ sender. cycle_length_of p sender.odd) spread senders

-- the lengths of two receivers' next cycles lie half as far apart as the senders' odd ones, and half of lambda; lambda
-- is 4 y1 + 2 Qp + 4 c Qp + 8 J
abbrev pub LengthsDrawTogether : Type 0
LengthsDrawTogether =
    (p : Values) (senders : List Sender) (spread : ℤ) (row other_row : NodeRow) (values other_values : List ℤ)
    (term other_term : Term) (even odd other_even other_odd : NodeRow)
    → IsSane p → holds_of 1 p ≡ true → holds_of 2 p ≡ true
    → All (λ sender. IsCycleLength p (cycle_length_of p sender.odd)) senders → LengthsWithin p spread senders
    → IsRateRound p senders row values term → IsRateRound p senders other_row other_values other_term
    → KeepOne values other_values senders
    → IsNext p row term even odd → IsNext p other_row other_term other_even other_odd
    → IsWithin (spread +ℤ pos (lambda_of p)) (pos 2 *ℤ (cycle_length_of p even -ℤ cycle_length_of p other_even))
    × IsWithin (spread +ℤ pos (lambda_of p)) (pos 2 *ℤ (cycle_length_of p odd -ℤ cycle_length_of p other_odd))

-- so lambda is a fixed point: where the senders' odd lengths lie within it, so do the next lengths
abbrev pub LengthsStayTogether : Type 0
LengthsStayTogether =
    (p : Values) (senders : List Sender) (row other_row : NodeRow) (values other_values : List ℤ)
    (term other_term : Term) (even odd other_even other_odd : NodeRow)
    → IsSane p → holds_of 1 p ≡ true → holds_of 2 p ≡ true
    → All (λ sender. IsCycleLength p (cycle_length_of p sender.odd)) senders → LengthsWithin p (pos (lambda_of p)) senders
    → IsRateRound p senders row values term → IsRateRound p senders other_row other_values other_term
    → KeepOne values other_values senders
    → IsNext p row term even odd → IsNext p other_row other_term other_even other_odd
    → IsWithin (pos (lambda_of p)) (cycle_length_of p even -ℤ cycle_length_of p other_even)
    × IsWithin (pos (lambda_of p)) (cycle_length_of p odd -ℤ cycle_length_of p other_odd)

-- how far beyond the senders' spread a receiver's next length may lie from a sender's odd one
abbrev pub near_length : Values → ℕ
near_length p = y1_of p + amount p name.pClusterDriftDamping * longest_micro p + 2 * cycle_change p

-- the length of a receiver's next cycle lies near each sender's odd one
abbrev pub LengthsStayNear : Type 0
LengthsStayNear =
    (p : Values) (senders : List Sender) (spread : ℤ) (row : NodeRow) (values : List ℤ) (term : Term) (even odd : NodeRow)
    → IsSane p → holds_of 1 p ≡ true → holds_of 2 p ≡ true → 1 ≤ length senders
    → All (λ sender. IsCycleLength p (cycle_length_of p sender.odd)) senders → LengthsWithin p spread senders
    → IsRateRound p senders row values term → IsNext p row term even odd
    → All (λ (sender : Sender). IsWithin (spread +ℤ pos (near_length p)) (cycle_length_of p even -ℤ cycle_length_of p sender.odd)
    × IsWithin (spread +ℤ pos (near_length p)) (cycle_length_of p odd -ℤ cycle_length_of p sender.odd)) senders

-- so that is no further than lambda beyond the spread
abbrev pub NearLengthIsBelowLambda : Type 0
NearLengthIsBelowLambda = (p : Values) → near_length p ≤ lambda_of p
