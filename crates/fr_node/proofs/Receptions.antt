-- What is made of a frame once is what each node answers that it reaches in its slot.
use Rattle.std.proofs.Common.{◌≡◌, ℕ, ℤ, Bool, true, false, not, ◌||◌, ◌==◌, Result, Ok, Err, refl, ap, if◌then◌else◌}
use Rattle.std.specs.Prelude.{is_none}
use Rattle.fr_base.specs.declared.node_row.NodeRow.{NodeRow}
use Rattle.fr_cluster.specs.Values.{Values, amount}
use Rattle.fr_cluster.specs.Questions.{key_index_of}
use Rattle.fr_cluster.specs.declared.names.ParamName.TheVariants as name
use Rattle.fr_frame.specs.declared.header.Header.{Header}
use Rattle.fr_frame.specs.declared.fault.FrameFault.{FrameFault}
use Rattle.fr_frame.specs.Reading.{read_as}
use Rattle.fr_time.specs.Cycles.{cycle_count}
use Rattle.fr_time.specs.Instant.{slot_begins, slot_ends}
use Rattle.fr_reception.specs.Answers.{answer_by, answer_of}
use Rattle.fr_reception.specs.Offers.{Offer, deviation_of}
use Rattle.fr_reception.specs.declared.heard.Heard.{Heard}
use Rattle.fr_reception.specs.declared.heard.Heard.TheVariants as heard
use Rattle.fr_reception.specs.declared.heard.Ignored.{Ignored as Reason}
use Rattle.fr_reception.specs.declared.heard.Ignored.TheVariants as reason
use Rattle.fr_node.specs.Arrivals.{is_outside_slot}
use Rattle.fr_node.specs.Receptions.{answer_with, heard_as, received_as}
use Rattle.fr_node.specs.declared.answers.Reception.TheVariants.{Ignored, Measured}

-- the tests, one after the other
by_tests : (id count words sync key : Bool) (of_id of_count of_words : Reason) (deviation : ℤ) →
    (if not id then heard.Ignored of_id else if not count then heard.Ignored of_count else if not words then heard.Ignored of_words
    else if not sync || key then heard.Ignored reason.Plain else heard.Stored deviation)
    ≡ heard_as (if not id then Ignored of_id else if not count then Ignored of_count else if not words then Ignored of_words
    else if not sync || key then Ignored reason.Plain else Measured) deviation
by_tests false count words sync key of_id of_count of_words deviation = refl
by_tests true false words sync key of_id of_count of_words deviation = refl
by_tests true true false sync key of_id of_count of_words deviation = refl
by_tests true true true false key of_id of_count of_words deviation = refl
by_tests true true true true true of_id of_count of_words deviation = refl
by_tests true true true true false of_id of_count of_words deviation = refl

by_reception : (p : Values) (cycle : ℕ) (row : NodeRow) (offer : Offer) (told : Result Header FrameFault) →
    answer_by p cycle row offer told ≡ heard_as (received_as p cycle offer.slot told) (deviation_of p row offer)
by_reception p cycle row offer (Err fault) = refl
by_reception p cycle row offer (Ok header) =
    by_tests (header.id == offer.slot) (header.cycle == cycle_count cycle) (header.words == amount p name.gPayloadLengthStatic) header.sync (is_none (key_index_of p offer.slot))
    (reason.WrongId offer.slot header.id) (reason.WrongCycle (cycle_count cycle) header.cycle) (reason.WrongLength (amount p name.gPayloadLengthStatic) header.words) (deviation_of p row offer)

pub answer_received : (p : Values) (cycle : ℕ) (row : NodeRow) (offer : Offer) →
    answer_of p cycle row offer ≡ answer_with p row offer (received_as p cycle offer.slot (read_as offer.channel offer.bytes))
unfolding answer_of
answer_received p cycle row offer =
    ap (λ (answer : Heard). if is_outside_slot p row offer.slot offer.arrival
    then heard.Ignored (reason.Outside offer.arrival (slot_begins p row offer.slot) (slot_ends p row offer.slot)) else answer)
    (by_reception p cycle row offer (read_as offer.channel offer.bytes))
