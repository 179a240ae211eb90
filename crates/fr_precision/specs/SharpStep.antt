-- The sharper law of the step: nodes that are in sharp sync in a double cycle are in sharp sync in the next one.
use Rattle.std.specs.Prelude.{ℕ, ◌≡◌, ◌+◌, ◌*◌, ◌≤◌, Bool, true, false, ℤ, pos, ◌+ℤ◌, ◌-ℤ◌, ◌*ℤ◌, ◌≤ℤ◌, List, All, map, Contains}
use Rattle.fr_base.specs.declared.node_row.NodeRow.{NodeRow}
use Rattle.fr_base.specs.declared.state.Outcome.TheVariants.{Within}
use Rattle.fr_base.specs.declared.state.State.TheVariants.{Active}
use Rattle.fr_base.specs.Within.{IsBetween, IsWithin, LieWithin}
use Rattle.fr_cluster.specs.Values.{Values}
use Rattle.fr_cluster.specs.Sane.{IsSane}
use Rattle.fr_cluster.specs.Constraints.{key_slots}
use Rattle.fr_time.specs.Position.{floor_of}
use Rattle.fr_time.specs.Slots.{action_point_of}
use Rattle.fr_bound.specs.Bounds.{arrival_error, lambda_of, longest_micro, pi_of}
use Rattle.fr_bound.specs.Sync.{cycle_length_of, IsInSync}
use Rattle.fr_precision.specs.Rows.{corrected_end_of, Sender}
use Rattle.fr_precision.specs.Instants.{gap_of, row_in}
use Rattle.fr_precision.specs.Offsets.{IsOffsetRound, LimitSuffices}
use Rattle.fr_precision.specs.Placement.{IsRegular}
use Rattle.fr_precision.specs.Step.{IsAmong, IsFollowed, Member}
use Rattle.fr_bound.specs.SharpBounds.{last_action, near_by, odd_spread, precision_by, sharp_lambda, sharp_near, sharp_pi, sharp_precision}
use Rattle.fr_bound.specs.SharpChecks.{SharpChecksHold}
use Rattle.fr_precision.specs.Lengths.{CanWalk, EvensAreAbout, IsAboutCycle, IsNextEven, IsSteadyRound, KeepSenders, WalksOn}
use Rattle.fr_precision.specs.Ends.{SendApart, TakesOffsets}

-- ---- two receivers, with free numbers

-- how far starts and even lengths lie apart in the next double cycle, where in this one they lie so far apart: half as far,
-- and some, rounded down; without arbitrary nodes the lengths by lambda, and the starts by the odd lengths alone
abbrev pub DrawsTo : Bool → Values → ℕ → ℕ → ℕ → ℕ → ℕ → Type 0
DrawsTo false p flutter starts lengths next_starts next_lengths =
    (odd_spread p lengths + 2 * arrival_error p + 3 * longest_micro p ≤ next_starts)
    × (sharp_lambda false p flutter ≤ next_lengths)
DrawsTo true p flutter starts lengths next_starts next_lengths =
    (starts + lengths + 2 * odd_spread p lengths + 4 * arrival_error p + 7 * longest_micro p ≤ 2 * next_starts + 1)
    × (lengths + sharp_lambda true p flutter ≤ 2 * next_lengths + 1)

-- a receiver of a round within reach of its senders, whose even lengths lie so far apart, with both terms that it computes
pub record TakesSharply (p : Values) (flutter : ℕ) (senders : List Sender) (reach : ℤ) (lengths : ℕ) (node : Member) : Type 0 where
  pub offsets : TakesOffsets p senders reach (pos (odd_spread p lengths)) node.odd node.offsets node.offset_term
  pub rates : IsSteadyRound p flutter senders node.odd node.rates node.rate_term

-- what two receivers come to: no term is cut, the next starts lie so near and the next even lengths too, and these lie no
-- further beyond their range than so
pub record ComeSharply (p : Values) (next_starts next_lengths : ℕ) (next : ℤ) (one other : Member) : Type 0 where
  pub uncut : one.offset_term.outcome ≡ Within
  pub range : WalksOn p next one.odd one.rate_term
  pub ends : IsWithin (pos next_starts) (corrected_end_of p one.odd -ℤ corrected_end_of p other.odd)
  pub lengths :
      (even other_even : NodeRow) → IsNextEven p one.odd one.rate_term even → IsNextEven p other.odd other.rate_term other_even
      → IsWithin (pos next_lengths) (cycle_length_of p even -ℤ cycle_length_of p other_even)

-- two receivers of a round whose senders lie so far apart; they need not send themselves
abbrev pub ReceiversComeSharply : Type 0
ReceiversComeSharply =
    (beside : Bool) (p : Values) (flutter : ℕ) (senders : List Sender) (starts lengths next_starts next_lengths : ℕ)
    (beyond walk next reach other_reach : ℤ) (one other : Member)
    → IsSane p → CanWalk p flutter beyond walk → pos 0 ≤ℤ next → (beyond +ℤ walk) ≤ℤ next
    → DrawsTo beside p flutter starts lengths next_starts next_lengths
    → SendApart p (pos starts) (pos lengths) (pos (odd_spread p lengths)) senders → EvensAreAbout p beyond senders
    → TakesSharply p flutter senders reach lengths one → TakesSharply p flutter senders other_reach lengths other
    → IsWithin (pos (odd_spread p lengths)) (cycle_length_of p one.odd -ℤ cycle_length_of p other.odd)
    → KeepSenders beside senders one.offsets other.offsets → KeepSenders beside senders one.rates other.rates
    → ComeSharply p next_starts next_lengths next one other

-- ---- a list of nodes, with free numbers

-- the starts of some nodes' double cycles lie at most so far apart, and so the lengths of their even cycles, which lie at
-- most so far beyond their range
pub record AreSharp (p : Values) (starts lengths : ℕ) (beyond : ℤ) (even : List NodeRow) : Type 0 where
  pub starts_lie : LieWithin (pos starts) (map (λ row. row.start) even)
  pub lengths_lie : LieWithin (pos lengths) (map (cycle_length_of p) even)
  pub about : All (λ row. IsAboutCycle p beyond (cycle_length_of p row)) even

-- with greater numbers they are too
abbrev pub SharpIsWider : Type 0
SharpIsWider =
    (p : Values) (starts lengths more_starts more_lengths : ℕ) (beyond more_beyond : ℤ) (even : List NodeRow)
    → starts ≤ more_starts → lengths ≤ more_lengths → beyond ≤ℤ more_beyond
    → AreSharp p starts lengths beyond even → AreSharp p more_starts more_lengths more_beyond even

-- a node with regular rows has its values of every sender and computes its terms from them
pub record ComputesSharply (p : Values) (flutter : ℕ) (senders : List Sender) (node : Member) : Type 0 where
  pub regular : IsRegular p node.even node.odd
  pub by_offset : IsOffsetRound p senders node.odd node.offsets node.offset_term
  pub by_rate : IsSteadyRound p flutter senders node.odd node.rates node.rate_term

-- what any two lists of some nodes keep
abbrev pub AllKeepSenders : Bool → List Sender → List Member → Type 0
AllKeepSenders beside senders nodes =
    (one other : Member) → Contains nodes one → Contains nodes other
    → KeepSenders beside senders one.offsets other.offsets × KeepSenders beside senders one.rates other.rates

-- the senders of a double cycle are some of its nodes and act up to a last macrotick; all compute their terms
pub record IsSharpDouble (beside : Bool) (p : Values) (flutter : ℕ) (senders : List Sender) (nodes : List Member) (last : ℤ) : Type 0 where
  pub among : All (IsAmong nodes) senders
  pub acts : All (λ sender. IsBetween (pos 0) last sender.action) senders
  pub computes : All (ComputesSharply p flutter senders) nodes
  pub keep : AllKeepSenders beside senders nodes

-- the numbers of a double cycle: how far starts and even lengths lie apart and beyond their range, the walk, the last
-- macrotick at which a node sends, and the reach that takes in how far action points may lie apart
pub record IsSharpReach (p : Values) (flutter starts lengths : ℕ) (beyond walk reach last : ℤ) : Type 0 where
  pub sane : IsSane p
  pub walks : CanWalk p flutter beyond walk
  pub suffices : LimitSuffices p reach
  pub early : last ≤ℤ p.correction
  pub fits :
      (pos starts +ℤ pos lengths +ℤ floor_of (last *ℤ pos (odd_spread p lengths)) p.macros +ℤ pos (longest_micro p)) ≤ℤ reach

-- action points lie within the reach in both cycles
abbrev pub ActionsLieInReach : Type 0
ActionsLieInReach =
    (p : Values) (flutter starts lengths : ℕ) (beyond walk reach last action : ℤ) (is_odd : Bool) (nodes : List Member) (one other : Member)
    → IsSharpReach p flutter starts lengths beyond walk reach last → AreSharp p starts lengths beyond (map (λ node. node.even) nodes)
    → All (λ node. IsRegular p node.even node.odd) nodes → Contains nodes one → Contains nodes other
    → pos 0 ≤ℤ action → action ≤ℤ last
    → IsWithin reach (gap_of p is_odd action (row_in is_odd one.even one.odd) (row_in is_odd other.even other.odd))

-- what is asked of those numbers where the reach is known to take in action points for another reason
pub record IsSharpLimit (p : Values) (flutter : ℕ) (beyond walk reach last : ℤ) : Type 0 where
  pub sane : IsSane p
  pub walks : CanWalk p flutter beyond walk
  pub suffices : LimitSuffices p reach
  pub early : last ≤ℤ p.correction

-- action points of any two nodes lie within a reach, up to a last macrotick
abbrev pub ActInReach : Values → ℤ → ℤ → List Member → Type 0
ActInReach p reach last nodes =
    (is_odd : Bool) (one other : Member) (action : ℤ) → Contains nodes one → Contains nodes other
    → pos 0 ≤ℤ action → action ≤ℤ last
    → IsWithin reach (gap_of p is_odd action (row_in is_odd one.even one.odd) (row_in is_odd other.even other.odd))

-- any two of the nodes come together
abbrev pub SpreadsShrinkInReach : Type 0
SpreadsShrinkInReach =
    (beside : Bool) (p : Values) (flutter : ℕ) (senders : List Sender) (nodes : List Member)
    (starts lengths next_starts next_lengths : ℕ) (beyond walk next reach last : ℤ) (one other : Member)
    → IsSharpLimit p flutter beyond walk reach last → ActInReach p reach last nodes → pos 0 ≤ℤ next → (beyond +ℤ walk) ≤ℤ next
    → DrawsTo beside p flutter starts lengths next_starts next_lengths
    → AreSharp p starts lengths beyond (map (λ node. node.even) nodes) → IsSharpDouble beside p flutter senders nodes last
    → Contains nodes one → Contains nodes other → ComeSharply p next_starts next_lengths next one other

abbrev pub SharpSpreadsShrink : Type 0
SharpSpreadsShrink =
    (beside : Bool) (p : Values) (flutter : ℕ) (senders : List Sender) (nodes : List Member)
    (starts lengths next_starts next_lengths : ℕ) (beyond walk next reach last : ℤ) (one other : Member)
    → IsSharpReach p flutter starts lengths beyond walk reach last → pos 0 ≤ℤ next → (beyond +ℤ walk) ≤ℤ next
    → DrawsTo beside p flutter starts lengths next_starts next_lengths
    → AreSharp p starts lengths beyond (map (λ node. node.even) nodes) → IsSharpDouble beside p flutter senders nodes last
    → Contains nodes one → Contains nodes other → ComeSharply p next_starts next_lengths next one other

-- no macrotick of any two of them lies further apart than a bound that takes in both ends of the double cycle
abbrev pub MacroticksStaySharp : Type 0
MacroticksStaySharp =
    (p : Values) (starts lengths next_starts next_lengths : ℕ) (beyond next : ℤ) (nodes : List Member) (one other : Member)
    (apart : ℕ) (macrotick : ℤ) (is_odd : Bool)
    → IsSane p → AreSharp p starts lengths beyond (map (λ node. node.even) nodes)
    → All (λ node. IsRegular p node.even node.odd) nodes → Contains nodes one → Contains nodes other
    → ComeSharply p next_starts next_lengths next one other
    → precision_by p starts lengths ≤ apart → next_starts + longest_micro p ≤ apart
    → pos 0 ≤ℤ macrotick → macrotick ≤ℤ p.macros
    → IsWithin (pos apart) (gap_of p is_odd macrotick (row_in is_odd one.even one.odd) (row_in is_odd other.even other.odd))

-- and where any two come together, the rows of the next double cycle are as near
abbrev pub NextIsNear : Type 0
NextIsNear =
    (p : Values) (nodes : List Member) (next_starts next_lengths : ℕ) (next : ℤ) (next_even next_odd : Member → NodeRow)
    → ((one other : Member) → Contains nodes one → Contains nodes other → ComeSharply p next_starts next_lengths next one other)
    → All (λ node. IsFollowed p node (next_even node) (next_odd node)) nodes
    → AreSharp p next_starts next_lengths next (map next_even nodes)

abbrev pub NextIsSharp : Type 0
NextIsSharp =
    (beside : Bool) (p : Values) (flutter : ℕ) (senders : List Sender) (nodes : List Member)
    (starts lengths next_starts next_lengths : ℕ) (beyond walk next reach last : ℤ) (next_even next_odd : Member → NodeRow)
    → IsSharpReach p flutter starts lengths beyond walk reach last → pos 0 ≤ℤ next → (beyond +ℤ walk) ≤ℤ next
    → DrawsTo beside p flutter starts lengths next_starts next_lengths
    → AreSharp p starts lengths beyond (map (λ node. node.even) nodes) → IsSharpDouble beside p flutter senders nodes last
    → All (λ node. IsFollowed p node (next_even node) (next_odd node)) nodes
    → AreSharp p next_starts next_lengths next (map next_even nodes)

-- ---- nodes that are in sharp sync

-- all nodes are active in both cycles, their starts lie within the sharper pi and their even lengths within the sharper
-- lambda, and these lie at most so far beyond their range: 0 in the first double cycle that is so
pub record IsInSharpSync (beside : Bool) (p : Values) (flutter : ℕ) (beyond : ℤ) (even odd : List NodeRow) : Type 0 where
  pub active_even : All (λ row. row.state ≡ Active) even
  pub active_odd : All (λ row. row.state ≡ Active) odd
  pub rows : AreSharp p (sharp_pi beside p flutter) (sharp_lambda beside p flutter) beyond even

-- pi and lambda are numbers that stay
abbrev pub SharpSyncDraws : Type 0
SharpSyncDraws =
    (beside : Bool) (p : Values) (flutter : ℕ)
    → DrawsTo beside p flutter (sharp_pi beside p flutter) (sharp_lambda beside p flutter)
    (sharp_pi beside p flutter) (sharp_lambda beside p flutter)

-- the action point of a key slot is no later than the last one, and that comes before the offset correction
abbrev pub KeySlotsActEarly : Type 0
KeySlotsActEarly =
    (p : Values) → IsSane p
    → ((slot : ℕ) → Contains (key_slots p.nodes) slot → action_point_of p slot ≤ last_action p)
    × (pos (last_action p) ≤ℤ p.correction)

-- the checks give the numbers of a double cycle in sharp sync
abbrev pub SharpChecksReach : Type 0
SharpChecksReach =
    (p : Values) (flutter starts lengths : ℕ) (beyond walk : ℤ)
    → IsSane p → SharpChecksHold flutter (near_by p starts lengths) p → CanWalk p flutter beyond walk
    → IsSharpReach p flutter starts lengths beyond walk (pos (near_by p starts lengths)) (pos (last_action p))

-- what holds of two nodes that are in sharp sync at the end of the double cycle
pub record StaySharp (beside : Bool) (p : Values) (flutter : ℕ) (next : ℤ) (one other : Member) : Type 0 where
  pub come : ComeSharply p (sharp_pi beside p flutter) (sharp_lambda beside p flutter) next one other
  -- no macrotick of both cycles lies further apart than the sharper precision
  pub precise :
      (macrotick : ℤ) (is_odd : Bool) → pos 0 ≤ℤ macrotick → macrotick ≤ℤ p.macros
      → IsWithin
      (pos (sharp_precision beside p flutter))
      (gap_of p is_odd macrotick (row_in is_odd one.even one.odd) (row_in is_odd other.even other.odd))

-- nodes in sharp sync stay so, any two of them
abbrev pub SharpSyncIsKept : Type 0
SharpSyncIsKept =
    (beside : Bool) (p : Values) (flutter : ℕ) (senders : List Sender) (nodes : List Member) (beyond walk next : ℤ)
    → IsSane p → SharpChecksHold flutter (sharp_near beside p flutter) p
    → CanWalk p flutter beyond walk → pos 0 ≤ℤ next → (beyond +ℤ walk) ≤ℤ next
    → IsInSharpSync beside p flutter beyond (map (λ node. node.even) nodes) (map (λ node. node.odd) nodes)
    → IsSharpDouble beside p flutter senders nodes (pos (last_action p))
    → (one other : Member) → Contains nodes one → Contains nodes other → StaySharp beside p flutter next one other

-- and the rows of the next double cycle are in sharp sync
abbrev pub NextIsInSharpSync : Type 0
NextIsInSharpSync =
    (beside : Bool) (p : Values) (flutter : ℕ) (senders : List Sender) (nodes : List Member) (beyond walk next : ℤ)
    (next_even next_odd : Member → NodeRow)
    → IsSane p → SharpChecksHold flutter (sharp_near beside p flutter) p
    → CanWalk p flutter beyond walk → pos 0 ≤ℤ next → (beyond +ℤ walk) ≤ℤ next
    → IsInSharpSync beside p flutter beyond (map (λ node. node.even) nodes) (map (λ node. node.odd) nodes)
    → IsSharpDouble beside p flutter senders nodes (pos (last_action p))
    → All (λ node. IsFollowed p node (next_even node) (next_odd node)) nodes
    → IsInSharpSync beside p flutter next (map next_even nodes) (map next_odd nodes)

-- nodes in sync in the older sense are so near with the older numbers, and their lengths lie in the range
abbrev pub InSyncIsSharp : Type 0
InSyncIsSharp =
    (p : Values) (even odd : List NodeRow) → IsInSync p even odd → AreSharp p (pi_of p) (lambda_of p) (pos 0) even
