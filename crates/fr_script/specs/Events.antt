-- What becomes of the frames of a passage.
use Rattle.std.specs.Prelude.{ℕ, ◌<◌, Bool, true, false, Option, option_map}
use Rattle.fr_base.specs.Event.{Event}
use Rattle.fr_base.specs.Event as event
use Rattle.fr_base.specs.declared.channel.Channel.{Channel}
use Rattle.fr_script.specs.Deed.{IsProperSay, done_by, event_of_deed, most_bits}
use Rattle.fr_script.specs.View.{ScriptView, is_arbitrary, deed_of}
use Rattle.fr_script.specs.declared.deed.Deed.{Deed}
use Rattle.fr_script.specs.declared.script.Event.{Event as Shown}
use Rattle.fr_script.specs.declared.script.Event.TheVariants as shown

-- and of the frames of a sender that is arbitrary, or is not
abbrev pub event_by : Bool → Option Deed → Event
event_by true what = event_of_deed what
event_by false what = done_by what

-- what becomes of the frames of a sender at a receiver, in a cycle on a channel
unfoldable pub event_of : ScriptView → ℕ → ℕ → ℕ → Channel → Event
event_of s cycle sender receiver ch = event_by (is_arbitrary s sender) (deed_of s cycle sender receiver ch)

-- the event that an answer shows, its bytes read through the loan
abbrev pub event_seen : Shown → Event
event_seen shown.Regular = event.Regular
event_seen shown.Silent = event.Silent
event_seen (shown.Flip bit) = event.Flip bit
event_seen (shown.Say shift bytes) = event.Say shift (option_map (λ b. b.now) bytes)

-- the numbers of an event lie in their ranges: bits are those of a frame of at most 262 bytes, and what is said fits one
abbrev pub IsProperEvent : Event → Type 0
IsProperEvent event.Regular = Unit {0}
IsProperEvent event.Silent = Unit {0}
IsProperEvent (event.Flip bit) = bit < most_bits
IsProperEvent (event.Say shift bytes) = IsProperSay shift bytes
