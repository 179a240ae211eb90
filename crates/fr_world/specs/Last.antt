-- What correct nodes sent in the cycles of a history, and what was sent last in a slot on a channel.
use Rattle.std.specs.Prelude.{◌≡◌, ℕ, ◌<◌, ◌≤◌, List, length, Option, Some, None, option_and_then}
use Rattle.fr_base.specs.declared.channel.Channel.{Channel}
use Rattle.fr_cluster.specs.Setting.{Setting}
use Rattle.fr_cluster.specs.Values.{amount}
use Rattle.fr_cluster.specs.declared.names.ParamName.TheVariants as name
use Rattle.fr_pool.specs.Pool.{PoolView, IsOut}
use Rattle.fr_history.specs.History.{History, record_at}
use Rattle.fr_history.specs.Offers.{frame_in}
use Rattle.fr_history.specs.Cycles.{told_of}
use Rattle.fr_air.specs.Memory.{cell_of, frame_at, place_of_slot}
use Rattle.fr_world.specs.World.{memory_of, setting_after, world_cycles, WorldView}

-- the frame that a correct node sent in a cycle of a history, in a slot on a channel: the node whose slot it is has a row
-- in the record of that cycle, which is active, and it has the channel; none where the history has no such cycle
abbrev pub sent_in : Setting → History → ℕ → ℕ → Channel → Option (List ℕ)
sent_in x h cycle slot channel = option_and_then (λ r. frame_in x cycle r.rows slot channel) (record_at h cycle)

-- a frame was sent in a slot on a channel, and in no later cycle was one sent there
pub record WasSentLast (x : Setting) (h : History) (slot : ℕ) (channel : Channel) (frame : List ℕ) : Type 0 where
  pub cycle : ℕ
  pub within : cycle < length h
  pub sent : sent_in x h cycle slot channel ≡ Some frame
  pub none_later : (later : ℕ) → cycle < later → sent_in x h later slot channel ≡ None

-- the frame that was sent last in a slot on a channel: none exactly where none ever was
abbrev pub IsLastSent : Setting → History → ℕ → Channel → Option (List ℕ) → Type 0
IsLastSent x h slot channel None = (cycle : ℕ) → sent_in x h cycle slot channel ≡ None
IsLastSent x h slot channel (Some frame) = WasSentLast x h slot channel frame

-- a cell of the pool of a world is that of one static slot on one channel, and has the frame that was sent last there
pub record IsOfOne (w : WorldView) (pool : PoolView) (cell : ℕ) : Type 0 where
  pub out : IsOut pool cell
  pub slot : ℕ
  pub channel : Channel
  pub from : 1 ≤ slot
  pub to : slot ≤ amount w.params name.gNumberOfStaticSlots
  pub is_its : cell_of (memory_of w).held (place_of_slot slot channel) ≡ Some cell
  pub only : (other : ℕ) (on : Channel) → 1 ≤ other → cell_of (memory_of w).held (place_of_slot other on) ≡ Some cell → (other ≡ slot) × (on ≡ channel)
  pub last : WasSentLast (setting_after w) (told_of (world_cycles w)) slot channel (frame_at pool cell (memory_of w).bytes)
