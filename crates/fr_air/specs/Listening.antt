-- What the listeners of a world catch in a cycle, behind all its slots: nothing else of it changes them.
use Rattle.std.specs.Prelude.{◌≡◌, ◌≢◌, ℕ, ◌+◌, ◌*◌, ◌<◌, ℤ, pos, Bool, false, List, All, Option, Some, None, IsSome}
use Rattle.fr_base.specs.Within.{IsBetween}
use Rattle.fr_base.specs.declared.channel.Channel.{Channel}
use Rattle.fr_base.specs.declared.channel.Channel.TheVariants.{A, B}
use Rattle.fr_base.specs.declared.node_row.NodeRow.{NodeRow}
use Rattle.fr_cluster.specs.Questions.{node_of, own_key}
use Rattle.fr_cluster.specs.Setting.{Setting}
use Rattle.fr_script.specs.View.{is_arbitrary, join_of}
use Rattle.fr_time.specs.Cycles.{is_odd}
use Rattle.fr_reception.specs.Listening.{good_arrival}
use Rattle.fr_reception.specs.Offers.{Offer, flipped}
use Rattle.fr_node.specs.Listening.{ListenerView, with_arrival}
use Rattle.fr_history.specs.Catching.{caught_arrival}
use Rattle.fr_air.specs.Files.{setting_in}
use Rattle.fr_air.specs.Sending.{offer_at, sent_with, IsEarlyRow}
use Rattle.fr_air.specs.declared.files.RunInputs.{RunInputs}
use Rattle.fr_air.specs.declared.turn.Turn.{Turn}

-- with an arrival on a channel in the even or the odd cycle, if there is one
abbrev pub with_caught : Bool → Channel → Option ℤ → ListenerView → ListenerView
with_caught odd channel None l = l
with_caught odd channel (Some at) l = with_arrival l odd channel at

-- with what it catches of its reference on a channel, among these rows
abbrev pub heard_by_listener : Setting → ℕ → List NodeRow → Channel → ListenerView → ListenerView
heard_by_listener x cycle rows channel l =
    with_caught (is_odd cycle) channel (caught_arrival x cycle rows l.id l.reference channel) l

-- on both channels
abbrev pub after_listening : Setting → ℕ → List NodeRow → ListenerView → ListenerView
after_listening x cycle rows l = heard_by_listener x cycle rows B (heard_by_listener x cycle rows A l)

-- a listener of these files: a correct node, and its reference has that key slot, is another correct node, and joins nobody
pub record IsListener (f : RunInputs) (l : ListenerView) : Type 0 where
  pub known : IsSome (node_of f.params l.id)
  pub correct : is_arbitrary f.script l.id ≡ false
  pub node : ℕ
  pub key : own_key f.params node ≡ Some l.reference
  pub correct_reference : is_arbitrary f.script node ≡ false
  pub other : node ≢ l.id
  pub stays : join_of f.script node ≡ None

-- a node that joins nobody starts its cycles early: no cycle takes 1,000,000,000,000 ticks
abbrev pub StartsEarly : RunInputs → ℕ → NodeRow → Type 0
StartsEarly f cycle row =
    join_of f.script row.node ≡ None → IsBetween (pos 0) (pos (1_000_000_000_000 * (cycle + 1))) row.start

-- the rows of a cycle, as listeners hear them: their instants can be computed, and nodes that join nobody start early
pub record CanBeHeard (f : RunInputs) (cycle : ℕ) (rows : List NodeRow) : Type 0 where
  pub in_run : cycle < 200_000
  pub early : All (IsEarlyRow f.params) rows
  pub starts : All (StartsEarly f cycle) rows

-- ---- what comes to a listener in a turn

-- the bytes that come of a frame: itself, or itself with a bit inverted
abbrev pub frame_with : Option ℕ → List ℕ → List ℕ
frame_with None frame = frame
frame_with (Some bit) frame = flipped bit frame

-- what is offered to a listener by a sender with this row, if it sends
abbrev pub offer_caught : Setting → Turn → Option NodeRow → List ℕ → ℕ → Option Offer
offer_caught x turn None frame listener = None
offer_caught x turn (Some row) frame listener = sent_with x turn row frame listener

-- a listener after what is offered to it in a turn, if something is
abbrev pub after_catch : Turn → Option Offer → ListenerView → ListenerView
after_catch turn None l = l
after_catch turn (Some offer) l = with_caught (is_odd turn.cycle) turn.channel (good_arrival l.reference offer) l

-- after a frame that comes in a turn at an instant, with a bit inverted, if one is
abbrev pub after_frame : Turn → ℤ → Option ℕ → List ℕ → ListenerView → ListenerView
after_frame turn arrival bit frame l = after_catch turn (Some (offer_at turn arrival (frame_with bit frame))) l

-- a listener before and after a turn, and a cycle: it is still one
pub record CatchesTurn (f : RunInputs) (turn : Turn) (rows : List NodeRow) (before after : ListenerView) : Type 0 where
  pub listener_is : after ≡ heard_by_listener (setting_in f) turn.cycle rows turn.channel before
  pub reference_is : after.reference ≡ before.reference
  pub listens : IsListener f after

pub record HasListened (f : RunInputs) (cycle : ℕ) (rows : List NodeRow) (before after : ListenerView) : Type 0 where
  pub listener_is : after ≡ after_listening (setting_in f) cycle rows before
  pub listens : IsListener f after
