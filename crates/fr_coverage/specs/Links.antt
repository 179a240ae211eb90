-- Which frames the theorem counts on: those of correct nodes with a key slot to other correct nodes.
use Rattle.std.specs.Prelude.{ℕ, ◌+◌, ◌*◌, ◌==◌, ◌&&◌, ◌||◌, Bool, true, false, not, Option, Some, None, is_some, if◌then◌else◌}
use Rattle.fr_base.specs.Event.{Event}
use Rattle.fr_base.specs.Event as event
use Rattle.fr_base.specs.declared.channel.Channel.{Channel}
use Rattle.fr_base.specs.declared.channel.Channel.TheVariants as channel
use Rattle.fr_cluster.specs.Questions.{has_channel}
use Rattle.fr_cluster.specs.declared.nodes.NodeSpec.{NodeSpec}
use Rattle.fr_script.specs.View.{ScriptView, is_arbitrary}
use Rattle.fr_script.specs.Events.{event_of}
use Rattle.fr_coverage.specs.declared.gap.Gap.{Gap}
use Rattle.fr_coverage.specs.declared.gap.Gap.TheVariants as gap

-- a node that sends sync frames
abbrev pub is_sync : NodeSpec → Bool
is_sync node = is_some node.key

-- a correct node with a key slot, and another correct node
abbrev pub is_link : ScriptView → NodeSpec → NodeSpec → Bool
is_link s sender receiver = is_sync sender && not (is_arbitrary s sender.id) && not (is_arbitrary s receiver.id) && not (sender.id == receiver.id)

-- both nodes have the channel
abbrev pub shares : NodeSpec → NodeSpec → Channel → Bool
shares a b ch = has_channel (Some a) ch && has_channel (Some b) ch

-- the regular frame comes
abbrev pub is_regular : Event → Bool
is_regular event.Regular = true
is_regular event.Silent = false
is_regular (event.Flip bit) = false
is_regular (event.Say shift bytes) = false

abbrev pub is_free : ScriptView → ℕ → ℕ → Channel → ℕ → Bool
is_free s sender receiver ch cycle = is_regular (event_of s cycle sender receiver ch)

-- a channel that both have carries the regular frames of both cycles of a double cycle
abbrev pub is_carried_on : ScriptView → NodeSpec → NodeSpec → ℕ → Channel → Bool
is_carried_on s a b double ch = shares a b ch && is_free s a.id b.id ch (2 * double) && is_free s a.id b.id ch (2 * double + 1)

abbrev pub is_carried : ScriptView → NodeSpec → NodeSpec → ℕ → Bool
is_carried s a b double = is_carried_on s a b double channel.A || is_carried_on s a b double channel.B

-- no channel does
abbrev pub link_gap : ScriptView → NodeSpec → NodeSpec → ℕ → Option Gap
link_gap s a b double = if is_carried s a b double then None else Some (gap.Link a.id b.id double)
