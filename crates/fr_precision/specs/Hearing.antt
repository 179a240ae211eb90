-- A round of clock synchronisation, as the sharper laws see it: whoever supplies deviations says of two of one sender on one
-- channel that they are a steady pair (sections 8.5 and 8.6).
use Rattle.std.specs.Prelude.{◌≡◌, ◌⊎◌, ℕ, ℤ, pos, Bool, true, false, Some}
use Rattle.fr_base.specs.declared.channel.Channel.{Channel}
use Rattle.fr_cluster.specs.declared.nodes.NodeSpec.{NodeSpec}
use Rattle.fr_cluster.specs.Questions.{key_slot_of}
use Rattle.fr_time.specs.Senders.{key_node_of}
use Rattle.fr_time.specs.Slots.{action_point_of}
use Rattle.fr_midpoint.specs.Receivers.{Hears}
use Rattle.fr_precision.specs.Instants.{row_in}
use Rattle.fr_precision.specs.Rows.{Sender}
use Rattle.fr_precision.specs.Offsets.{IsDeviation}
use Rattle.fr_precision.specs.Round.{offsets_of, rates_of, sender_with, senders_of, sync_count, Hearer, IsHearer, IsItself, IsOther, IsRound, Round}
use Rattle.fr_precision.specs.Lengths.{KeepSenders}
use Rattle.fr_precision.specs.Steady.{IsSteadyPair, PlacesEven}

-- what is owed of a receiver whatever frames were lost on their way to it: its deviations of other senders are of both rows, and there
-- are none of nodes that are neither senders nor arbitrary
pub record IsHeardInPart (r : Round) (n : Hearer) : Type 0 where
  pub itself : (index : ℕ) → n.own ≡ Some index → (slot : ℕ) × ((node : NodeSpec) × IsItself r n index slot node)
  pub placed :
      (index slot : ℕ) (node : NodeSpec) (is_odd : Bool) (channel : Channel) (value : ℤ) → IsOther r n index slot node
      → n.look index is_odd channel ≡ Some value
      → IsDeviation r.params is_odd (pos (action_point_of r.params slot)) (row_in is_odd n.even n.odd)
      (row_in is_odd (r.even node.id) (r.odd node.id)) value
  pub only :
      (index : ℕ) (is_odd : Bool) (channel : Channel) (value : ℤ) → n.look index is_odd channel ≡ Some value
      → (slot : ℕ) × ((node : NodeSpec) × (key_slot_of r.params index ≡ Some slot) × (key_node_of r.params slot ≡ Some node)
      × ((r.has_rows node.id ≡ true) ⊎ (r.is_arbitrary node.id ≡ true)))

-- what is owed of a receiver besides: its deviations of another sender, where a channel has one in both cycles, are a steady
-- pair
abbrev pub AreSteadyPairs : Round → ℕ → Hearer → Type 0
AreSteadyPairs r flutter n =
    (index slot : ℕ) (node : NodeSpec) (channel : Channel) (early late : ℤ) → IsOther r n index slot node
    → n.look index false channel ≡ Some early → n.look index true channel ≡ Some late
    → IsSteadyPair r.params flutter (sender_with r slot node.id) n.even n.odd early late

-- a receiver has one value of each sender, and few further ones; its rate values place the lengths of the even cycles
pub record HearsSteadily (r : Round) (flutter : ℕ) (n : Hearer) : Type 0 where
  pub offsets :
      Hears Sender (λ sender value. IsDeviation r.params true sender.action n.odd sender.odd value) (senders_of r) (offsets_of n)
  pub rates : Hears Sender (λ sender value. PlacesEven r.params flutter sender n.odd value) (senders_of r) (rates_of n)

abbrev pub HearsAllSteadily : Type 0
HearsAllSteadily =
    (r : Round) (flutter : ℕ) (reach : ℤ) (n : Hearer)
    → IsRound r → IsHearer r reach n → AreSteadyPairs r flutter n → HearsSteadily r flutter n

-- whether there may be arbitrary sync nodes
abbrev pub AllowsArbitrary : Bool → Round → Type 0
AllowsArbitrary false r = sync_count r.params r.is_arbitrary ≡ 0
AllowsArbitrary true r = Unit {0}

-- any two receivers keep the values of senders: beside arbitrary nodes one in common, and without any all and no others
abbrev pub HearersKeepSenders : Type 0
HearersKeepSenders =
    (beside : Bool) (r : Round) (reach other_reach : ℤ) (n m : Hearer)
    → IsRound r → AllowsArbitrary beside r → IsHearer r reach n → IsHearer r other_reach m
    → KeepSenders beside (senders_of r) (offsets_of n) (offsets_of m) × KeepSenders beside (senders_of r) (rates_of n) (rates_of m)
