-- The lines on which the macroticks of two nodes lie, and when what the one sends comes to the other inside of its slots.
use Rattle.std.specs.Prelude.{◌≡◌, ℕ, ◌+◌, ◌*◌, ◌/◌, ◌≤◌, ◌<◌, ℤ, pos, ◌+ℤ◌, ◌-ℤ◌, false}
use Rattle.fr_base.specs.States.{is_halted}
use Rattle.fr_base.specs.Timed.{IsTimed}
use Rattle.fr_base.specs.Within.{IsBetween, IsWithin}
use Rattle.fr_base.specs.declared.node_row.NodeRow.{NodeRow}
use Rattle.fr_cluster.specs.Values.{Values, amount}
use Rattle.fr_cluster.specs.declared.names.ParamName.TheVariants as name
use Rattle.fr_time.specs.Instant.{action_instant}
use Rattle.fr_time.specs.Slots.{slot_start_of}
use Rattle.fr_node.specs.Arrivals.{is_outside_slot}
use Rattle.fr_air.specs.declared.lines.Line.{Line}
use Rattle.fr_air.specs.declared.lines.Room.{Room}
use Rattle.fr_air.specs.declared.lines.Sight.{Sight}
use Rattle.fr_air.specs.declared.lines.Spread.{Spread}

-- a start that a recorded row can have, in ticks
abbrev pub IsRowStart : ℤ → Type 0
IsRowStart at = IsBetween (pos 0) (pos 1_110_000_000_000_000_000) at

-- the numbers of a line and of a room lie in their ranges
pub record IsLine (line : Line) : Type 0 where
  pub near : line.start ≤ 1_000_000_000_000
  pub few : line.micros ≤ 660_000
  pub some : 1 ≤ line.length
  pub long : line.length ≤ 1_500_000

pub record IsRoom (room : Room) : Type 0 where
  pub some : 1 ≤ room.macros
  pub macros_to : room.macros ≤ 16_000
  pub slot_to : room.slot ≤ 16_000
  pub offset_to : room.offset ≤ 16_000
  pub last_to : room.last ≤ 16_000

-- the instant of a macrotick
abbrev pub ticks_at : Room → Line → ℕ → ℕ
ticks_at room line macrotick = line.start + macrotick * line.micros / room.macros * line.length

-- what is sent at the action point of a slot that begins at this macrotick comes inside of the slot
pub record LiesInside (room : Room) (sender receiver : Line) (delay begin : ℕ) : Type 0 where
  pub begun : ticks_at room receiver begin ≤ ticks_at room sender (begin + room.offset) + delay
  pub not_ended : ticks_at room sender (begin + room.offset) + delay < ticks_at room receiver (begin + room.slot)

-- the room of a cluster's slots
pub record IsRoomOf (p : Values) (room : Room) : Type 0 where
  pub macros : pos room.macros ≡ p.macros
  pub slot : room.slot ≡ amount p name.gdStaticSlot
  pub offset : room.offset ≡ amount p name.gdActionPointOffset
  pub last : room.last ≡ slot_start_of p (amount p name.gNumberOfStaticSlots)
  pub is_room : IsRoom room

-- the line of a row, from an instant on
pub record IsLineOf (p : Values) (row : NodeRow) (base : ℤ) (line : Line) : Type 0 where
  pub start : row.start ≡ base +ℤ pos line.start
  pub micros : pos line.micros ≡ p.micros +ℤ row.rate
  pub length : pos line.length ≡ row.length
  pub is_line : IsLine line

-- the instants of a row can be computed, and it starts soon behind an instant
pub record IsOnLine (p : Values) (base : ℤ) (row : NodeRow) : Type 0 where
  pub timed : IsTimed row
  pub rate : IsWithin p.rate_limit row.rate
  pub near : IsBetween (pos 0) (pos 1_000_000_000_000) (row.start -ℤ base)

-- the numbers of a spread lie in their ranges
pub record IsSpread (spread : Spread) : Type 0 where
  pub low_to : spread.low ≤ 1_000_000_000_000
  pub high_to : spread.high ≤ 1_000_000_000_000
  pub slow_to : spread.slow ≤ 990_000_000_000
  pub fast_to : spread.fast ≤ 990_000_000_000

-- a spread takes in what another one does
pub record IsWider (narrow wide : Spread) : Type 0 where
  pub base : wide.base ≡ narrow.base
  pub low : wide.low ≤ narrow.low
  pub high : narrow.high ≤ wide.high
  pub slow : wide.slow ≤ narrow.slow
  pub fast : narrow.fast ≤ wide.fast

-- the line of a row lies in a spread
pub record LiesIn (p : Values) (spread : Spread) (row : NodeRow) : Type 0 where
  pub line : Line
  pub of_row : IsLineOf p row spread.base line
  pub low : spread.low ≤ line.start
  pub high : line.start ≤ spread.high
  pub slow : spread.slow ≤ line.micros * line.length
  pub fast : line.micros * line.length ≤ spread.fast

-- if its node is not halted
abbrev pub LiesInSight : Values → Spread → NodeRow → Type 0
LiesInSight p spread row = is_halted row.state ≡ false → LiesIn p spread row

-- the last one acts before the first one's slot ends, and the first one behind the begin of the last one's, by more than
-- a microtick
pub record LeavesSlack (room : Room) (spread : Spread) (slack : ℕ) : Type 0 where
  pub begun : room.macros * (spread.high + 1_500_000) + room.last * spread.fast ≤ room.macros * spread.low + (room.last + room.offset) * spread.slow
  pub ended : room.macros * (spread.high + 1_500_000) + (room.last + room.offset) * spread.fast + slack ≤ room.macros * spread.low + (room.last + room.slot) * spread.slow

-- what is seen of the cycles of a cluster is so
pub record IsSight (p : Values) (sight : Sight) : Type 0 where
  pub is_room : IsRoomOf p sight.room
  pub leaves : LeavesSlack sight.room sight.spread sight.slack

-- what a sender sends in each static slot comes to a receiver inside of the slot, so many ticks later
abbrev pub ComesInside : Values → NodeRow → NodeRow → ℤ → Type 0
ComesInside p sender receiver delay =
    (slot : ℕ) → 1 ≤ slot → slot ≤ amount p name.gNumberOfStaticSlots
    → is_outside_slot p receiver slot (action_instant p sender slot +ℤ delay) ≡ false
