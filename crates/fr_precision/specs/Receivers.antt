-- The law of the step for two receivers of a round, with free numbers: each hears every sender within a reach, whether or not
-- it sends itself.
use Rattle.std.specs.Prelude.{◌≡◌, true, ℤ, ◌-ℤ◌, List, All}
use Rattle.fr_base.specs.declared.node_row.NodeRow.{NodeRow}
use Rattle.fr_base.specs.declared.state.Outcome.TheVariants.{Within}
use Rattle.fr_cluster.specs.Values.{Values}
use Rattle.fr_cluster.specs.Sane.{IsSane}
use Rattle.fr_base.specs.Within.{IsWithin}
use Rattle.fr_correct.specs.declared.term.Term.{Term}
use Rattle.fr_bound.specs.Checks.{holds_of}
use Rattle.fr_bound.specs.Sync.{cycle_length_of, IsCycleLength}
use Rattle.fr_precision.specs.Rows.{corrected_end_of, KeepOne, Sender}
use Rattle.fr_precision.specs.Offsets.{IsOffsetRound, IsSending, LimitSuffices, NearAll, ReachAll, SendersLieNear}
use Rattle.fr_precision.specs.Rates.{IsNext, IsRateRound, KeepsRange}
use Rattle.fr_precision.specs.Step.{DrawNear, Member, Shrinks}

-- the senders of a round, whose starts and lengths lie so near each other
pub record SendNear (p : Values) (starts lengths : ℤ) (senders : List Sender) : Type 0 where
  pub sending : All (IsSending p) senders
  pub near : SendersLieNear p starts lengths senders

-- a receiver's offset round: within a reach of each sender, for which the offset limit suffices, and with an odd cycle whose
-- length lies within some number of theirs
pub record HearsNear (p : Values) (senders : List Sender) (reach lengths : ℤ) (row : NodeRow) (values : List ℤ) (term : Term) : Type 0 where
  pub suffices : LimitSuffices p reach
  pub reached : ReachAll p reach senders row
  pub near : NearAll p lengths senders row
  pub round : IsOffsetRound p senders row values term

-- a receiver of a round, with both terms that it computes
pub record TakesInRound (p : Values) (senders : List Sender) (reach lengths : ℤ) (node : Member) : Type 0 where
  pub hears : HearsNear p senders reach lengths node.odd node.offsets node.offset_term
  pub by_rate : IsRateRound p senders node.odd node.rates node.rate_term

-- two receivers draw as near as two of the senders do
abbrev pub ReceiversDrawNear : Type 0
ReceiversDrawNear =
    (p : Values) (senders : List Sender) (starts lengths reach : ℤ) (one other : Member)
    → IsSane p → holds_of 1 p ≡ true → holds_of 2 p ≡ true
    → SendNear p starts lengths senders → All (λ sender. IsCycleLength p (cycle_length_of p sender.odd)) senders
    → TakesInRound p senders reach lengths one → TakesInRound p senders reach lengths other
    → KeepOne one.offsets other.offsets senders → KeepOne one.rates other.rates senders
    → DrawNear p starts lengths one other

-- what two receivers come to: no term is cut, the next starts lie within one number and the next lengths within another
pub record ComeNear (p : Values) (next_starts next_lengths : ℤ) (one other : Member) : Type 0 where
  pub uncut : one.offset_term.outcome ≡ Within
  pub range : KeepsRange p one.odd one.rate_term
  pub starts : IsWithin next_starts (corrected_end_of p one.odd -ℤ corrected_end_of p other.odd)
  -- the lengths of the next double cycle
  pub proper :
      (even odd : NodeRow) → IsNext p one.odd one.rate_term even odd
      → IsCycleLength p (cycle_length_of p even) × IsCycleLength p (cycle_length_of p odd)
  pub lengths :
      (even odd other_even other_odd : NodeRow) → IsNext p one.odd one.rate_term even odd
      → IsNext p other.odd other.rate_term other_even other_odd
      → IsWithin next_lengths (cycle_length_of p even -ℤ cycle_length_of p other_even)
      × IsWithin next_lengths (cycle_length_of p odd -ℤ cycle_length_of p other_odd)

-- and so they come as near as the senders' numbers shrink to
abbrev pub ReceiversComeNear : Type 0
ReceiversComeNear =
    (p : Values) (senders : List Sender) (starts lengths reach next_starts next_lengths : ℤ) (one other : Member)
    → IsSane p → holds_of 1 p ≡ true → holds_of 2 p ≡ true
    → SendNear p starts lengths senders → All (λ sender. IsCycleLength p (cycle_length_of p sender.odd)) senders
    → Shrinks p starts lengths next_starts next_lengths
    → TakesInRound p senders reach lengths one → TakesInRound p senders reach lengths other
    → KeepOne one.offsets other.offsets senders → KeepOne one.rates other.rates senders
    → ComeNear p next_starts next_lengths one other
