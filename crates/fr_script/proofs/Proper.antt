-- The numbers of events lie in their ranges.
use Rattle.std.proofs.Common.{ℕ}
use Rattle.std.specs.Prelude.{IfSome}
use Rattle.fr_base.specs.declared.channel.Channel.{Channel}
use Rattle.fr_base.specs.declared.channel.Channel.TheVariants as channel
use Rattle.fr_script.specs.Deeds.{passage_of}
use Rattle.fr_script.specs.Deed.{IsProperDeed}
use Rattle.fr_script.specs.View.{ScriptView, IsScript, is_arbitrary, deed_of}
use Rattle.fr_script.specs.Events.{IsProperEvent, event_of}
use Rattle.fr_script.proofs.DeedKinds.{by-proper}

deed-proper : (s : ScriptView) → IsScript s → (cycle i j : ℕ) (ch : Channel) → IfSome (deed_of s cycle i j ch) IsProperDeed
unfolding deed_of
deed-proper s h cycle i j channel.A = h.deeds_a.proper (passage_of i j cycle)
deed-proper s h cycle i j channel.B = h.deeds_b.proper (passage_of i j cycle)

-- what any script answers is in range
pub event-proper : (s : ScriptView) (cycle sender receiver : ℕ) (ch : Channel) → IsScript s → IsProperEvent (event_of s cycle sender receiver ch)
unfolding event_of
event-proper s cycle i j ch h = by-proper (is_arbitrary s i) (deed_of s cycle i j ch) (deed-proper s h cycle i j ch)
