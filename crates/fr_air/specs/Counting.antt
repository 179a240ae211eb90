-- How the frames of a cycle are counted: slot by slot, and in each slot channel by channel, the frame that is sent and
-- then the answers of all receivers.
use Rattle.std.specs.Prelude.{ℕ, ◌+◌, bit_xor, List, fold, Option, Some, None}
use Rattle.fr_base.specs.declared.channel.Channel.{Channel}
use Rattle.fr_base.specs.declared.channel.Channel.TheVariants.{A, B}
use Rattle.fr_base.specs.declared.cycle_row.Counts.{Counts}
use Rattle.fr_base.specs.declared.node_row.NodeRow.{NodeRow}
use Rattle.fr_reception.specs.Answers.{answer_of}
use Rattle.fr_reception.specs.Offers.{Offer}
use Rattle.fr_reception.specs.Regular.{carried_crc}
use Rattle.fr_reception.specs.declared.heard.Heard.{Heard}
use Rattle.fr_reception.specs.declared.heard.Heard.TheVariants.{Stored, Ignored}
use Rattle.fr_reception.specs.declared.heard.Ignored.TheVariants as reason
use Rattle.fr_cluster.specs.Setting.{Setting}
use Rattle.fr_history.specs.Offers.{frame_in, offer_in}
use Rattle.fr_air.specs.Walk.{after_both_channels, over_slots}

-- with one more answer
abbrev pub with_answer : Heard → Counts → Counts
with_answer (Stored value) counts = record counts { stored = counts.stored + 1 }
with_answer (Ignored (reason.Outside arrival from to)) counts = record counts { outside = counts.outside + 1 }
with_answer (Ignored (reason.Damaged fault)) counts = record counts { damaged = counts.damaged + 1 }
with_answer (Ignored (reason.WrongId slot id)) counts = record counts { wrong_id = counts.wrong_id + 1 }
with_answer (Ignored (reason.WrongCycle own got)) counts = record counts { wrong_cycle = counts.wrong_cycle + 1 }
with_answer (Ignored (reason.WrongLength own got)) counts = record counts { wrong_length = counts.wrong_length + 1 }
with_answer (Ignored reason.Plain) counts = record counts { plain = counts.plain + 1 }

-- with the answer of a receiver to what is offered to it, if something is
abbrev pub counted_offer : Setting → ℕ → NodeRow → Option Offer → Counts → Counts
counted_offer x cycle receiver None counts = counts
counted_offer x cycle receiver (Some offer) counts = with_answer (answer_of x.params cycle receiver offer) counts

-- with those of all receivers
unfoldable pub counted_offers : Setting → ℕ → (NodeRow → Option Offer) → List NodeRow → Counts → Counts
counted_offers x cycle offer receivers counts = fold (λ so_far receiver. counted_offer x cycle receiver (offer receiver) so_far) counts receivers

-- with a frame that a correct node sends on a channel
abbrev pub counted_sent : Channel → List ℕ → Counts → Counts
counted_sent A frame counts = record counts { sent_a = counts.sent_a + 1; xor_a = bit_xor counts.xor_a (carried_crc frame) }
counted_sent B frame counts = record counts { sent_b = counts.sent_b + 1; xor_b = bit_xor counts.xor_b (carried_crc frame) }

-- with one that is sent, if one is
abbrev pub counted_frame : Channel → Option (List ℕ) → Counts → Counts
counted_frame channel None counts = counts
counted_frame channel (Some frame) counts = counted_sent channel frame counts

-- after a slot on a channel, among these rows
abbrev pub counts_on : Setting → ℕ → List NodeRow → ℕ → Channel → Counts → Counts
counts_on x cycle rows slot channel counts =
    counted_offers x cycle (λ receiver. offer_in x cycle rows receiver slot channel) rows
    (counted_frame channel (frame_in x cycle rows slot channel) counts)

-- after a slot on both channels
abbrev pub counts_in : Setting → ℕ → List NodeRow → ℕ → Counts → Counts
counts_in x cycle rows slot counts = after_both_channels (counts_on x cycle rows) slot counts

-- after so many slots of the cycle
abbrev pub counts_after : Setting → ℕ → List NodeRow → ℕ → Counts → Counts
counts_after x cycle rows count counts = over_slots (counts_on x cycle rows) count counts
