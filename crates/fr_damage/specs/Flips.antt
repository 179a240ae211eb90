-- When a frame of a run comes with one bit inverted.
use Rattle.std.specs.Prelude.{◌≡◌, ◌+◌, ◌*◌, ◌<◌, ℕ, Some}
use Rattle.fr_base.specs.Event.Event.{Flip}
use Rattle.fr_base.specs.declared.channel.Channel.{Channel}
use Rattle.fr_cluster.specs.Setting.{Setting}
use Rattle.fr_cluster.specs.Values.{Values}
use Rattle.fr_script.specs.Events.{event_of}
use Rattle.fr_script.specs.View.{ScriptView}
use Rattle.fr_time.specs.Senders.{sender_of}
use Rattle.fr_time.specs.declared.senders.Sending.{Sending}
use Rattle.fr_reception.specs.Regular.{payload_bytes}

-- in a slot of a cycle, on a channel, the event of the slot's sender inverts a bit of its frame on the way to a node
pub record IsFlipped (x : Setting) (cycle node slot : ℕ) (channel : Channel) : Type 0 where
  pub sending : Sending
  pub bit : ℕ
  pub sends : sender_of x.params slot cycle ≡ Some sending
  pub event : x.event cycle sending.node node channel ≡ Flip bit
  pub within : bit < 8 * (8 + payload_bytes x.params)

-- a fault script does so
pub record ScriptFlips (p : Values) (s : ScriptView) (cycle node slot : ℕ) (channel : Channel) : Type 0 where
  pub sending : Sending
  pub bit : ℕ
  pub sends : sender_of p slot cycle ≡ Some sending
  pub event : event_of s cycle sending.node node channel ≡ Flip bit
