-- A frame as a node receives it, and its answer.
use Rattle.std.specs.Prelude.{◌≡◌, ℕ, ℤ, pos, int_le, int_lt, Bool, true, false, ◌||◌, List}
use Rattle.fr_base.specs.Within.{IsWithin}
use Rattle.fr_base.specs.declared.node_row.NodeRow.{NodeRow}
use Rattle.fr_cluster.specs.Values.{Values}
use Rattle.fr_time.specs.Instant.{IsInCycle, slot_begins, slot_ends}
use Rattle.fr_node.specs.declared.answers.Arrival.{Arrival}
use Rattle.fr_reception.specs.Offers.{Offer}
use Rattle.fr_reception.specs.declared.heard.Heard.{Heard}
use Rattle.fr_reception.specs.declared.heard.Heard.TheVariants.{Stored, Ignored}

-- the offer of these bytes
abbrev pub offer_with : Arrival → List ℕ → Offer
offer_with arrival bytes = record { slot = arrival.slot; channel = arrival.channel; arrival = arrival.at; bytes = bytes }

-- an instant at which a node can be offered a frame, in ticks: an arbitrary node says one at any time near a run
abbrev pub IsOfferedAt : ℤ → Type 0
IsOfferedAt at = IsWithin (pos 4_000_000_000_000_000_000) at

-- how far an arrival lies behind the start of its cycle at most, in ticks
abbrev pub most_behind_start : ℕ
most_behind_start = 1_050_000_000_000

-- a fact about a deviation that is stored
abbrev pub IfStored : Heard → (ℤ → Type 0) → Type 0
IfStored (Stored value) P = P value
IfStored (Ignored why) P = Unit {0}

-- whether an instant comes before a slot begins at a node, or not before it ends
abbrev pub is_outside_slot : Values → NodeRow → ℕ → ℤ → Bool
is_outside_slot p row slot at = int_lt at (slot_begins p row slot) || int_le (slot_ends p row slot) at

-- it does, and the slot begins and ends at these instants
pub record LiesOutside (p : Values) (row : NodeRow) (slot : ℕ) (at : ℤ) (bounds : ℤ × ℤ) : Type 0 where
  pub out : is_outside_slot p row slot at ≡ true
  pub begins : bounds.0 ≡ slot_begins p row slot
  pub ends : bounds.1 ≡ slot_ends p row slot

-- it does not
pub record LiesInSlot (p : Values) (row : NodeRow) (slot : ℕ) (at : ℤ) : Type 0 where
  pub within : is_outside_slot p row slot at ≡ false
  pub in_cycle : IsInCycle row at
