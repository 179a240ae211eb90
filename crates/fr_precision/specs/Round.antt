-- A round of clock synchronisation, whatever supplies it: a run or a recorded trace (sections 8.5 and 8.6). Senders are
-- the correct sync nodes with rows in a double cycle; receivers are those nodes, and others that only follow.
use Rattle.std.specs.Prelude.{◌≡◌, ◌⊎◌, ◌+◌, ◌*◌, ◌≤ℤ◌, ◌+ℤ◌, ◌-ℤ◌, ℕ, ℤ, pos, Bool, true, false, ◌&&◌, if◌then◌else◌, List, All, Contains, count_by, Option, Some, None, IsSome, is_some, option_and_then}
use Rattle.std.specs.List.{filter_map, range_with_len}
use Rattle.fr_base.specs.declared.channel.Channel.{Channel}
use Rattle.fr_base.specs.declared.node_row.NodeRow.{NodeRow}
use Rattle.fr_base.specs.declared.state.Outcome.TheVariants.{Within}
use Rattle.fr_cluster.specs.Values.{Values}
use Rattle.fr_cluster.specs.Sane.{IsSane}
use Rattle.fr_time.specs.Senders.{key_node_of}
use Rattle.fr_cluster.specs.declared.nodes.NodeSpec.{NodeSpec}
use Rattle.fr_time.specs.Slots.{action_point_of}
use Rattle.fr_base.specs.Within.{IsWithin}
use Rattle.fr_midpoint.specs.Receivers.{AreFew, Hears}
use Rattle.fr_measure.specs.Values.{LookUp, is_own, offset_at, rate_at, values_of}
use Rattle.fr_correct.specs.Terms.{offset_term_of, rate_term_of}
use Rattle.fr_bound.specs.Bounds.{arrival_error, longest_micro}
use Rattle.fr_bound.specs.Checks.{holds_of}
use Rattle.fr_bound.specs.Sync.{cycle_length_of, IsCycleLength}
use Rattle.fr_precision.specs.Rows.{corrected_end_of, end_of, KeepOne, Sender}
use Rattle.fr_precision.specs.Instants.{gap_of, row_in}
use Rattle.fr_precision.specs.Offsets.{IsDeviation, IsSending, LimitSuffices, NearAll, ReachAll}
use Rattle.fr_precision.specs.Placement.{IsRegular}
use Rattle.fr_precision.specs.Rates.{KeepsRange, PlacesLength}
use Rattle.fr_cluster.specs.Questions.{key_slot_of}

-- the cluster, which nodes are arbitrary, which are correct and have rows, and these rows
pub record Round : Type 0 where
  pub params : Values
  pub is_arbitrary : ℕ → Bool
  pub has_rows : ℕ → Bool
  pub even : ℕ → NodeRow
  pub odd : ℕ → NodeRow

-- a node of this key slot, correct and with rows
pub record IsSender (r : Round) (node : NodeSpec) (slot : ℕ) : Type 0 where
  pub there : Contains r.params.nodes node
  pub rows : r.has_rows node.id ≡ true
  pub key : node.key ≡ Some slot

-- the sender of a key slot: its node's rows, and the macrotick at which it sends
abbrev pub sender_with : Round → ℕ → ℕ → Sender
sender_with r slot node = record { even = r.even node; odd = r.odd node; action = pos (action_point_of r.params slot) }

-- it is there if the node has rows
abbrev pub sender_by : Round → ℕ → NodeSpec → Option Sender
sender_by r slot node = if r.has_rows node.id then Some (sender_with r slot node.id) else None

-- and if the key slot has a node
abbrev pub sender_in : Round → ℕ → Option Sender
sender_in r slot = option_and_then (sender_by r slot) (key_node_of r.params slot)

-- the sender of a key index, and all of them by key index
unfoldable pub sender_at : Round → ℕ → Option Sender
sender_at r index = option_and_then (sender_in r) (key_slot_of r.params index)

abbrev pub senders_of : Round → List Sender
senders_of r = filter_map (sender_at r) (range_with_len 0 15)

-- how many sync nodes pass a test of their numbers
abbrev pub sync_count : Values → (ℕ → Bool) → ℕ
sync_count p test = count_by (λ node. is_some node.key && test node.id) p.nodes

-- the senders outweigh the arbitrary sync nodes, and their rows are regular
pub record IsRound (r : Round) : Type 0 where
  pub sane : IsSane r.params
  pub few : AreFew (sync_count r.params r.has_rows) (sync_count r.params r.is_arbitrary)
  pub regular :
      (node : NodeSpec) → Contains r.params.nodes node → r.has_rows node.id ≡ true
      → IsRegular r.params (r.even node.id) (r.odd node.id)

-- a receiver: its rows, its own key index if it is a sender too, and its deviations by key index
pub record Hearer : Type 0 where
  pub even : NodeRow
  pub odd : NodeRow
  pub own : Option ℕ
  pub look : LookUp

-- its offset and its rate values at the end of the double cycle
abbrev pub offsets_of : Hearer → List ℤ
offsets_of n = values_of (offset_at n.look n.own)

abbrev pub rates_of : Hearer → List ℤ
rates_of n = values_of (rate_at n.look n.own)

-- a sender of another key index than the receiver's own
pub record IsOther (r : Round) (n : Hearer) (index slot : ℕ) (node : NodeSpec) : Type 0 where
  pub sender : IsSender r node slot
  pub slot_is : key_slot_of r.params index ≡ Some slot
  pub other : is_own n.own index ≡ false

-- the sender of its own key index has its rows
pub record IsItself (r : Round) (n : Hearer) (index slot : ℕ) (node : NodeSpec) : Type 0 where
  pub sender : IsSender r node slot
  pub slot_is : key_slot_of r.params index ≡ Some slot
  pub even : r.even node.id ≡ n.even
  pub odd : r.odd node.id ≡ n.odd

-- what whoever supplies deviations owes of a receiver: those of each other sender are of both rows, and on some channel are
-- there in both cycles; there are none of nodes that are neither senders nor arbitrary
pub record IsHeardAt (r : Round) (n : Hearer) : Type 0 where
  pub itself : (index : ℕ) → n.own ≡ Some index → (slot : ℕ) × ((node : NodeSpec) × IsItself r n index slot node)
  pub placed :
      (index slot : ℕ) (node : NodeSpec) (is_odd : Bool) (channel : Channel) (value : ℤ) → IsOther r n index slot node
      → n.look index is_odd channel ≡ Some value
      → IsDeviation r.params is_odd (pos (action_point_of r.params slot)) (row_in is_odd n.even n.odd)
      (row_in is_odd (r.even node.id) (r.odd node.id)) value
  pub heard :
      (index slot : ℕ) (node : NodeSpec) → IsOther r n index slot node
      → (channel : Channel) × IsSome (n.look index false channel) × IsSome (n.look index true channel)
  pub only :
      (index : ℕ) (is_odd : Bool) (channel : Channel) (value : ℤ) → n.look index is_odd channel ≡ Some value
      → (slot : ℕ) × ((node : NodeSpec) × (key_slot_of r.params index ≡ Some slot) × (key_node_of r.params slot ≡ Some node)
      × ((r.has_rows node.id ≡ true) ⊎ (r.is_arbitrary node.id ≡ true)))

-- such a receiver, with regular rows, within a reach of each other sender for which the offset limit suffices; its clock
-- tells this, whatever it was supplied with
pub record IsHearer (r : Round) (reach : ℤ) (n : Hearer) : Type 0 where
  pub regular : IsRegular r.params n.even n.odd
  pub suffices : LimitSuffices r.params reach
  pub near :
      (index slot : ℕ) (node : NodeSpec) → IsOther r n index slot node
      → IsWithin reach (gap_of r.params false (pos (action_point_of r.params slot)) (r.even node.id) n.even)
  pub supply : IsHeardAt r n

-- a receiver has one value of each sender, and few further ones
pub record HearsRound (r : Round) (n : Hearer) : Type 0 where
  pub offsets :
      Hears Sender (λ sender value. IsDeviation r.params true sender.action n.odd sender.odd value) (senders_of r) (offsets_of n)
  pub rates : Hears Sender (PlacesLength r.params n.odd) (senders_of r) (rates_of n)

abbrev pub HearsAll : Type 0
HearsAll = (r : Round) (reach : ℤ) (n : Hearer) → IsRound r → IsHearer r reach n → HearsRound r n

-- any two receivers keep one sender in common
abbrev pub HearersKeepOne : Type 0
HearersKeepOne =
    (r : Round) (reach other_reach : ℤ) (n m : Hearer) → IsRound r → IsHearer r reach n → IsHearer r other_reach m
    → KeepOne (offsets_of n) (offsets_of m) (senders_of r) × KeepOne (rates_of n) (rates_of m) (senders_of r)

-- one receiver alone, as a node that follows before it joins: it hears the round, its rows are within reach of the
-- senders', whose ends lie between two instants, and it applies its offset term
pub record IsGuided (r : Round) (reach lengths least greatest : ℤ) (n : Hearer) : Type 0 where
  pub hearer : IsHearer r reach n
  pub first : holds_of 1 r.params ≡ true
  pub second : holds_of 2 r.params ≡ true
  pub sending : All (IsSending r.params) (senders_of r)
  pub proper : All (λ sender. IsCycleLength r.params (cycle_length_of r.params sender.odd)) (senders_of r)
  pub reached : ReachAll r.params reach (senders_of r) n.odd
  pub near : NearAll r.params lengths (senders_of r) n.odd
  pub from : All (λ sender. least ≤ℤ end_of r.params sender.odd) (senders_of r)
  pub to : All (λ sender. end_of r.params sender.odd ≤ℤ greatest) (senders_of r)
  pub applied : n.odd.offset ≡ (offset_term_of r.params.offset_limit (offsets_of n)).value

-- then neither of its terms is cut, and its next start and its next lengths lie among those of the senders
pub record IsGuidedWell (r : Round) (lengths least greatest : ℤ) (n : Hearer) : Type 0 where
  pub offset_within : (offset_term_of r.params.offset_limit (offsets_of n)).outcome ≡ Within
  pub range : KeepsRange r.params n.odd (rate_term_of n.odd.rate r.params.damping r.params.rate_limit (rates_of n))
  pub start :
      ((least -ℤ (lengths +ℤ pos (arrival_error r.params + 2 * longest_micro r.params))) ≤ℤ corrected_end_of r.params n.odd)
      × (corrected_end_of r.params n.odd ≤ℤ (greatest +ℤ (lengths +ℤ pos (arrival_error r.params + longest_micro r.params))))

abbrev pub HearersAreGuided : Type 0
HearersAreGuided =
    (r : Round) (reach lengths least greatest : ℤ) (n : Hearer)
    → IsRound r → IsGuided r reach lengths least greatest n → IsGuidedWell r lengths least greatest n
