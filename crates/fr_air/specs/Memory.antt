-- The message memory of a world: a cell of a pool for each slot and channel in which a correct node sent a frame.
use Rattle.std.specs.Prelude.{◌≡◌, ◌<◌, ◌≤◌, Bool, find, position, option_map, ℕ, ◌+◌, ◌-◌, ◌*◌, ◌==◌, List, [], ◌∷◌, length, take, slice_index_or, slice_set, Option, Some, None, IsSome, unwrap_or, if◌then◌else◌}
use Rattle.fr_base.specs.Rows.{channel_rank}
use Rattle.fr_base.specs.declared.channel.Channel.{Channel}
use Rattle.fr_base.specs.declared.node_row.NodeRow.{NodeRow}
use Rattle.fr_cluster.specs.Values.{Values, amount}
use Rattle.fr_cluster.specs.declared.names.ParamName.TheVariants as name
use Rattle.fr_cluster.specs.Setting.{Setting}
use Rattle.fr_reception.specs.Regular.{payload_bytes}
use Rattle.fr_history.specs.Offers.{frame_in}
use Rattle.fr_history.specs.Cycles.{Cycles}
use Rattle.fr_history.specs.Next.{early_rows}
use Rattle.fr_air.specs.Walk.{over_slots}
use Rattle.fr_pool.specs.Pool.{PoolView, IsFree, IsOut}

-- a slot on a channel, as one number: both channels of a slot stand side by side
abbrev pub place_of_slot : ℕ → Channel → ℕ
place_of_slot slot channel = 2 * (slot - 1) + channel_rank channel

-- what stands in a cell: the frame that was sent last in a slot on a channel
pub record Held : Type 0 where
  pub place : ℕ
  pub frame : List ℕ

-- what stands in a cell
abbrev pub held_at : List Held → ℕ → Held
held_at held cell = slice_index_or held cell (record { place = 0; frame = [] })

-- with this frame in a cell
abbrev pub with_frame : ℕ → List ℕ → List Held → List Held
with_frame cell frame held = slice_set held cell (record { place = (held_at held cell).place; frame = frame })

-- with a frame that is sent: in the cell of its slot and channel, or else in the next one
abbrev pub sent_at : ℕ → List ℕ → List Held → List Held
sent_at place frame [] = record { place = place; frame = frame } ∷ []
sent_at place frame (h ∷ hs) =
    if h.place == place then record { place = place; frame = frame } ∷ hs else h ∷ sent_at place frame hs

-- with one that is sent, if one is
abbrev pub with_sent : ℕ → Option (List ℕ) → List Held → List Held
with_sent place None held = held
with_sent place (Some frame) held = sent_at place frame held

-- after a slot on a channel, among these rows
abbrev pub held_on : Setting → ℕ → List NodeRow → ℕ → Channel → List Held → List Held
held_on x cycle rows slot channel held = with_sent (place_of_slot slot channel) (frame_in x cycle rows slot channel) held

-- after so many slots of the cycle
abbrev pub held_slots : Setting → ℕ → List NodeRow → ℕ → List Held → List Held
held_slots x cycle rows count held = over_slots (held_on x cycle rows) count held

-- what stands in the cells after some cycles, each cell at its number: what followers would send is sent by none
unfoldable pub held_after : Setting → Cycles → List Held
held_after x [] = []
held_after x (c ∷ h) =
    held_slots x (length h) (early_rows x h) (amount x.params name.gNumberOfStaticSlots) (held_after x h)

-- A message memory: for how many slots and channels there is room, how many bytes a frame has, what stands in the cells
-- that are kept, and the frame that is being said, if one is.
pub record MemoryView : Type 0 where
  pub places : ℕ
  pub bytes : ℕ
  pub held : List Held
  pub said : Option (List ℕ)

-- a memory of a cluster with these in its cells, between turns
abbrev pub memory_with : Values → List Held → MemoryView
memory_with p held = record { places = 2 * amount p name.gNumberOfStaticSlots; bytes = 8 + payload_bytes p; held = held; said = None }

-- what stands in a kept cell, or else what is being said
abbrev pub frame_on : MemoryView → Option ℕ → List ℕ
frame_on memory None = unwrap_or memory.said []
frame_on memory (Some cell) = (held_at memory.held cell).frame

-- there is such a frame
abbrev pub HasFrame : MemoryView → Option ℕ → Type 0
HasFrame memory None = IsSome memory.said
HasFrame memory (Some cell) = cell < length memory.held

-- the bytes at the front of a cell
abbrev pub frame_at : PoolView → ℕ → ℕ → List ℕ
frame_at pool cell bytes = take bytes (slice_index_or pool.bytes cell [])

-- whether a cell is the one of a place
abbrev pub is_of_place : ℕ → Held → Bool
is_of_place place h = h.place == place

-- the cell of a place, and what was sent there last
abbrev pub cell_of : List Held → ℕ → Option ℕ
cell_of held place = position (is_of_place place) held

abbrev pub frame_in_cell : List Held → ℕ → Option (List ℕ)
frame_in_cell held place = option_map (λ h. h.frame) (find (is_of_place place) held)

-- The pool of a memory: it has two cells more than there are places, the cells that are kept are out, each with its frame,
-- and no others are out.
pub record IsPoolOf (memory : MemoryView) (pool : PoolView) : Type 0 where
  pub cells : length pool.out ≡ memory.places + 2
  pub kept : (cell : ℕ) → cell < length memory.held → IsOut pool cell
  pub others : (cell : ℕ) → length memory.held ≤ cell → cell < length pool.out → IsFree pool cell
  pub frames : (cell : ℕ) → cell < length memory.held → (held_at memory.held cell).frame ≡ frame_at pool cell memory.bytes
