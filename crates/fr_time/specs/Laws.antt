-- What the laws of this crate say.
use Rattle.std.specs.Prelude.{◌≡◌, ◌⊎◌, ℕ, ◌≤◌, ◌<◌, pos, ◌+ℤ◌, Bool, true, false, Contains, Some}
use Rattle.fr_base.specs.declared.node_row.NodeRow.{NodeRow}
use Rattle.fr_cluster.specs.Values.{Values, amount}
use Rattle.fr_cluster.specs.Sane.{IsSane}
use Rattle.fr_cluster.specs.declared.nodes.NodeSpec.{NodeSpec}
use Rattle.fr_cluster.specs.declared.nodes.SlotSpec.{SlotSpec}
use Rattle.fr_cluster.specs.declared.names.ParamName.TheVariants as name
use Rattle.fr_time.specs.declared.grid.Grid.{Grid}
use Rattle.fr_time.specs.Cycles.{double_cycle_of, even_cycle, is_odd, odd_cycle}
use Rattle.fr_time.specs.Instant.{instant_of, next_start_of}
use Rattle.fr_time.specs.Position.{corrected_position, even_position, grid_for, position_of, IsPlaceable, CanPlace}
use Rattle.fr_time.specs.Senders.{further_sending, sender_of, sync_sending}
use Rattle.fr_time.specs.Slots.{action_point_of, slot_end_of, slot_start_of}

-- the macroticks of a cluster can be placed under every rate and every offset term within its limit
abbrev pub TermsArePlaceable : Type 0
TermsArePlaceable = (p : Values) → IsSane p → CanPlace p (grid_for p)

-- macrotick 0 of a cycle lies at its start, and the one after the last at the start of the next; the cycle has its
-- microticks and both terms, of which the offset term is 0 in an even cycle; where the offset correction starts both
-- rules give the same
pub record HasItsLength (grid : Grid) (row : NodeRow) : Type 0 where
  pub begins : (odd : Bool) → position_of grid row.rate row.offset odd (pos 0) ≡ pos 0
  pub even_ends : position_of grid row.rate row.offset false grid.macros ≡ grid.micros +ℤ row.rate
  pub odd_ends : position_of grid row.rate row.offset true grid.macros ≡ grid.micros +ℤ row.rate +ℤ row.offset
  pub rules_meet : corrected_position grid row.rate row.offset grid.correction ≡ even_position grid row.rate grid.correction
  pub next_starts : (odd : Bool) → (odd ≡ true) ⊎ (row.offset ≡ pos 0) → instant_of grid row odd grid.macros ≡ next_start_of grid row

abbrev pub CyclesHaveTheirLengths : Type 0
CyclesHaveTheirLengths = (grid : Grid) (row : NodeRow) → IsPlaceable grid row.rate row.offset → HasItsLength grid row

-- the action point of a slot lies between its bounds, and the end of a static slot before the start of the offset
-- correction
pub record LiesInTime (p : Values) (slot : ℕ) : Type 0 where
  pub starts : 1 ≤ slot → slot_start_of p slot < action_point_of p slot
  pub acts : 1 ≤ slot → action_point_of p slot < slot_end_of p slot
  pub ends : slot ≤ amount p name.gNumberOfStaticSlots → slot_end_of p slot < amount p name.gOffsetCorrectionStart

abbrev pub SlotsLieInTime : Type 0
SlotsLieInTime = (p : Values) (slot : ℕ) → IsSane p → LiesInTime p slot

-- a node sends a sync frame in its key slot, and one with a further slot sends there what the slot carries
pub record SlotsHaveTheirSenders (p : Values) (cycle : ℕ) : Type 0 where
  pub key : (node : NodeSpec) (slot : ℕ) → Contains p.nodes node → node.key ≡ Some slot → sender_of p slot cycle ≡ Some (sync_sending node)
  pub further : (spec : SlotSpec) → Contains p.slots spec → sender_of p spec.slot cycle ≡ Some (further_sending cycle spec)

-- each cycle is the even or the odd one of its double cycle
pub record IsInItsDouble (cycle : ℕ) : Type 0 where
  pub even : is_odd cycle ≡ false → cycle ≡ even_cycle (double_cycle_of cycle)
  pub odd : is_odd cycle ≡ true → cycle ≡ odd_cycle (double_cycle_of cycle)
