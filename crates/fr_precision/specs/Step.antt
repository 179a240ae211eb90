-- The law of the step: nodes that are in sync in a double cycle are in sync in the next one.
use Rattle.std.specs.Prelude.{◌≡◌, ◌↔◌, true, Bool, ◌+◌, ◌*◌, ℤ, pos, ◌+ℤ◌, ◌-ℤ◌, ◌*ℤ◌, ◌≤ℤ◌, List, All, map, Contains}
use Rattle.fr_base.specs.declared.node_row.NodeRow.{NodeRow}
use Rattle.fr_base.specs.declared.state.Outcome.TheVariants.{Within}
use Rattle.fr_base.specs.declared.state.State.TheVariants.{Active}
use Rattle.fr_cluster.specs.Values.{Values}
use Rattle.fr_cluster.specs.Sane.{IsSane}
use Rattle.fr_base.specs.Within.{IsWithin}
use Rattle.fr_correct.specs.declared.term.Term.{Term}
use Rattle.fr_bound.specs.Bounds.{arrival_error, lambda_of, longest_micro, pi_of, precision_of}
use Rattle.fr_bound.specs.Checks.{holds_of}
use Rattle.fr_bound.specs.Sync.{cycle_length_of, IsInSync, IsCycleLength}
use Rattle.fr_base.specs.Within.{LieWithin}
use Rattle.fr_precision.specs.Rows.{corrected_end_of, KeepOne, Sender}
use Rattle.fr_precision.specs.Instants.{gap_of, row_in, LieNear, Runs}
use Rattle.fr_precision.specs.Offsets.{IsOffsetRound, IsSending, LimitSuffices, SendersLieNear}
use Rattle.fr_precision.specs.Rates.{IsNext, IsRateRound, KeepsRange}

-- a node in a double cycle: its rows, the values that it has at the end, and the terms that it computes from them
pub record Member : Type 0 where
  pub even : NodeRow
  pub odd : NodeRow
  pub offsets : List ℤ
  pub rates : List ℤ
  pub offset_term : Term
  pub rate_term : Term

-- two nodes are in sync: their starts lie within pi, and the lengths of both cycles within lambda
abbrev pub AreSynced : Values → NodeRow → NodeRow → NodeRow → NodeRow → Type 0
AreSynced p = LieNear p (pos (pi_of p)) (pos (lambda_of p)) (pos (lambda_of p))

-- the senders are in sync, and the lengths of their odd cycles in their range
pub record SendersAreSynced (p : Values) (senders : List Sender) : Type 0 where
  pub sending : All (IsSending p) senders
  pub run : All (λ sender. Runs p sender.even sender.odd) senders
  pub near : SendersLieNear p (pos (pi_of p)) (pos (lambda_of p)) senders
  pub proper : All (λ sender. IsCycleLength p (cycle_length_of p sender.odd)) senders

-- a node is in sync with every sender, and has its values of each
pub record TakesPart (p : Values) (senders : List Sender) (node : Member) : Type 0 where
  pub runs : Runs p node.even node.odd
  pub near : All (λ sender. AreSynced p sender.even sender.odd node.even node.odd) senders
  pub by_offset : IsOffsetRound p senders node.odd node.offsets node.offset_term
  pub by_rate : IsRateRound p senders node.odd node.rates node.rate_term

-- what holds of two nodes at the end of the double cycle
pub record StaySynced (p : Values) (one other : Member) : Type 0 where
  pub uncut : one.offset_term.outcome ≡ Within
  pub range : KeepsRange p one.odd one.rate_term
  pub starts : IsWithin (pos (pi_of p)) (corrected_end_of p one.odd -ℤ corrected_end_of p other.odd)
  -- no macrotick of both cycles lies further apart than the precision
  pub precise :
      (macrotick : ℤ) (is_odd : Bool) → pos 0 ≤ℤ macrotick → macrotick ≤ℤ p.macros
      → IsWithin (pos (precision_of p)) (gap_of p is_odd macrotick (row_in is_odd one.even one.odd) (row_in is_odd other.even other.odd))
  -- the lengths of the next double cycle
  pub proper :
      (even odd : NodeRow) → IsNext p one.odd one.rate_term even odd
      → IsCycleLength p (cycle_length_of p even) × IsCycleLength p (cycle_length_of p odd)
  pub lengths :
      (even odd other_even other_odd : NodeRow) → IsNext p one.odd one.rate_term even odd
      → IsNext p other.odd other.rate_term other_even other_odd
      → IsWithin (pos (lambda_of p)) (cycle_length_of p even -ℤ cycle_length_of p other_even)
      × IsWithin (pos (lambda_of p)) (cycle_length_of p odd -ℤ cycle_length_of p other_odd)

-- two nodes that take part, and are in sync with each other, stay so
abbrev pub SyncIsKept : Type 0
SyncIsKept =
    (p : Values) (senders : List Sender) (one other : Member)
    → IsSane p → holds_of 1 p ≡ true → holds_of 2 p ≡ true → holds_of 3 p ≡ true
    → SendersAreSynced p senders → TakesPart p senders one → TakesPart p senders other
    → AreSynced p one.even one.odd other.even other.odd
    → KeepOne one.offsets other.offsets senders → KeepOne one.rates other.rates senders
    → StaySynced p one other

-- a node's cycles follow each other, and it has its values of every sender and computes its terms from them
pub record ComputesTerms (p : Values) (senders : List Sender) (node : Member) : Type 0 where
  pub runs : Runs p node.even node.odd
  pub by_offset : IsOffsetRound p senders node.odd node.offsets node.offset_term
  pub by_rate : IsRateRound p senders node.odd node.rates node.rate_term

-- a sender is one of some nodes
abbrev pub IsAmong : List Member → Sender → Type 0
IsAmong nodes sender = (node : Member) × Contains nodes node × (node.even ≡ sender.even) × (node.odd ≡ sender.odd)

-- any two lists of some nodes keep one sender in common
abbrev pub AllKeepOne : List Sender → List Member → Type 0
AllKeepOne senders nodes =
    (one other : Member) → Contains nodes one → Contains nodes other
    → KeepOne one.offsets other.offsets senders × KeepOne one.rates other.rates senders

-- ---- the step with free numbers, as of nodes that are not yet in sync

-- the starts of some nodes' double cycles lie at most so far apart, and so do the lengths of both cycles, which are proper
pub record AreSpread (p : Values) (starts lengths : ℤ) (even odd : List NodeRow) : Type 0 where
  pub starts_lie : LieWithin starts (map (λ row. row.start) even)
  pub even_lengths : LieWithin lengths (map (cycle_length_of p) even)
  pub odd_lengths : LieWithin lengths (map (cycle_length_of p) odd)
  pub even_proper : All (λ row. IsCycleLength p (cycle_length_of p row)) even
  pub odd_proper : All (λ row. IsCycleLength p (cycle_length_of p row)) odd

-- a double cycle of such nodes: the first two checks hold, the offset limit suffices for a reach that takes in how far
-- their action points may lie apart, and each has its values of every sender
pub record IsSpreadDouble (p : Values) (senders : List Sender) (nodes : List Member) (starts lengths reach : ℤ) : Type 0 where
  pub sane : IsSane p
  pub first : holds_of 1 p ≡ true
  pub second : holds_of 2 p ≡ true
  pub limit : LimitSuffices p reach
  pub fits : (starts +ℤ (pos 2 *ℤ lengths) +ℤ pos (longest_micro p)) ≤ℤ reach
  pub spread : AreSpread p starts lengths (map (λ node. node.even) nodes) (map (λ node. node.odd) nodes)
  pub sending : All (IsSending p) senders
  pub among : All (IsAmong nodes) senders
  pub computes : All (ComputesTerms p senders) nodes
  pub keep : AllKeepOne senders nodes

-- what holds of two nodes at its end: no term is cut, and starts and lengths lie half as far apart, and some
pub record DrawNear (p : Values) (starts lengths : ℤ) (one other : Member) : Type 0 where
  pub uncut : one.offset_term.outcome ≡ Within
  pub range : KeepsRange p one.odd one.rate_term
  pub ends :
      IsWithin
      (starts +ℤ (pos 6 *ℤ lengths) +ℤ pos (4 * arrival_error p + 8 * longest_micro p))
      (pos 2 *ℤ (corrected_end_of p one.odd -ℤ corrected_end_of p other.odd))
  -- the lengths of the next double cycle
  pub proper :
      (even odd : NodeRow) → IsNext p one.odd one.rate_term even odd
      → IsCycleLength p (cycle_length_of p even) × IsCycleLength p (cycle_length_of p odd)
  pub lengths_draw :
      (even odd other_even other_odd : NodeRow) → IsNext p one.odd one.rate_term even odd
      → IsNext p other.odd other.rate_term other_even other_odd
      → IsWithin (lengths +ℤ pos (lambda_of p)) (pos 2 *ℤ (cycle_length_of p even -ℤ cycle_length_of p other_even))
      × IsWithin (lengths +ℤ pos (lambda_of p)) (pos 2 *ℤ (cycle_length_of p odd -ℤ cycle_length_of p other_odd))

abbrev pub SpreadsShrink : Type 0
SpreadsShrink =
    (p : Values) (senders : List Sender) (nodes : List Member) (starts lengths reach : ℤ) (one other : Member)
    → IsSpreadDouble p senders nodes starts lengths reach → Contains nodes one → Contains nodes other
    → DrawNear p starts lengths one other

-- ---- nodes that are in sync

-- nodes whose rows are in sync stay so, any two of them
abbrev pub SyncOfAllIsKept : Type 0
SyncOfAllIsKept =
    (p : Values) (senders : List Sender) (nodes : List Member)
    → IsSane p → holds_of 1 p ≡ true → holds_of 2 p ≡ true → holds_of 3 p ≡ true
    → IsInSync p (map (λ node. node.even) nodes) (map (λ node. node.odd) nodes)
    → All (IsSending p) senders → All (IsAmong nodes) senders → All (ComputesTerms p senders) nodes → AllKeepOne senders nodes
    → (one other : Member) → Contains nodes one → Contains nodes other → StaySynced p one other

-- what follows the double cycle at a node: the next one starts at the corrected end, its cycles have the rate term, the
-- microtick changes little, and the node stays active, as operation control says of one with no term cut
pub record IsFollowed (p : Values) (node : Member) (even odd : NodeRow) : Type 0 where
  pub start : even.start ≡ corrected_end_of p node.odd
  pub next : IsNext p node.odd node.rate_term even odd
  pub active_even : even.state ≡ Active
  pub active_odd : odd.state ≡ Active

-- how far starts and lengths lie apart in the next double cycle, where in this one they lie so far apart: half as far, and
-- some, rounded down
pub record Shrinks (p : Values) (starts lengths next_starts next_lengths : ℤ) : Type 0 where
  pub starts_to :
      (starts +ℤ (pos 6 *ℤ lengths) +ℤ pos (4 * arrival_error p + 8 * longest_micro p)) ≤ℤ ((pos 2 *ℤ next_starts) +ℤ pos 1)
  pub lengths_to : (lengths +ℤ pos (lambda_of p)) ≤ℤ ((pos 2 *ℤ next_lengths) +ℤ pos 1)

-- pi and lambda are such numbers
abbrev pub SyncShrinks : Type 0
SyncShrinks = (p : Values) → Shrinks p (pos (pi_of p)) (pos (lambda_of p)) (pos (pi_of p)) (pos (lambda_of p))

-- in sync is the case of pi and lambda, of active nodes
abbrev pub InSyncIsSpread : Type 0
InSyncIsSpread =
    (p : Values) (even odd : List NodeRow)
    → IsInSync p even odd ↔ (All (λ row. row.state ≡ Active) even × All (λ row. row.state ≡ Active) odd × AreSpread p (pos (pi_of p)) (pos (lambda_of p)) even odd)

-- and then the rows of the next double cycle are spread so far
abbrev pub NextIsSpread : Type 0
NextIsSpread =
    (p : Values) (senders : List Sender) (nodes : List Member) (starts lengths reach next_starts next_lengths : ℤ)
    (next_even next_odd : Member → NodeRow)
    → IsSpreadDouble p senders nodes starts lengths reach → Shrinks p starts lengths next_starts next_lengths
    → All (λ node. IsFollowed p node (next_even node) (next_odd node)) nodes
    → AreSpread p next_starts next_lengths (map next_even nodes) (map next_odd nodes)

-- and in sync, if they were
abbrev pub NextIsInSync : Type 0
NextIsInSync =
    (p : Values) (senders : List Sender) (nodes : List Member) (next_even next_odd : Member → NodeRow)
    → IsSane p → holds_of 1 p ≡ true → holds_of 2 p ≡ true → holds_of 3 p ≡ true
    → IsInSync p (map (λ node. node.even) nodes) (map (λ node. node.odd) nodes)
    → All (IsSending p) senders → All (IsAmong nodes) senders → All (ComputesTerms p senders) nodes → AllKeepOne senders nodes
    → All (λ node. IsFollowed p node (next_even node) (next_odd node)) nodes
    → IsInSync p (map next_even nodes) (map next_odd nodes)
