-- What is made of a frame in a slot of a cycle: all receivers that it reaches in the slot make the same of it.
use Rattle.std.specs.Prelude.{ℕ, ℤ, not, ◌||◌, ◌==◌, is_none, Result, Ok, Err, if◌then◌else◌}
use Rattle.fr_base.specs.declared.node_row.NodeRow.{NodeRow}
use Rattle.fr_cluster.specs.Values.{Values, amount}
use Rattle.fr_cluster.specs.Questions.{key_index_of}
use Rattle.fr_cluster.specs.declared.names.ParamName.TheVariants as name
use Rattle.fr_frame.specs.declared.header.Header.{Header}
use Rattle.fr_frame.specs.declared.fault.FrameFault.{FrameFault}
use Rattle.fr_time.specs.Cycles.{cycle_count}
use Rattle.fr_time.specs.Instant.{slot_begins, slot_ends}
use Rattle.fr_reception.specs.Offers.{Offer, deviation_of}
use Rattle.fr_reception.specs.declared.heard.Heard.{Heard}
use Rattle.fr_reception.specs.declared.heard.Heard.TheVariants as heard
use Rattle.fr_reception.specs.declared.heard.Ignored.TheVariants as reason
use Rattle.fr_node.specs.Arrivals.{is_outside_slot}
use Rattle.fr_node.specs.declared.answers.Reception.{Reception}
use Rattle.fr_node.specs.declared.answers.Reception.TheVariants.{Ignored, Measured}

-- what each node makes of a frame that arrives in its slot, by what its bytes are on the channel
abbrev pub received_as : Values → ℕ → ℕ → Result Header FrameFault → Reception
received_as p cycle slot (Err fault) = Ignored (reason.Damaged fault)
received_as p cycle slot (Ok header) =
    if not (header.id == slot) then Ignored (reason.WrongId slot header.id)
    else if not (header.cycle == cycle_count cycle) then Ignored (reason.WrongCycle (cycle_count cycle) header.cycle)
    else if not (header.words == amount p name.gPayloadLengthStatic) then Ignored (reason.WrongLength (amount p name.gPayloadLengthStatic) header.words)
    else if not header.sync || is_none (key_index_of p slot) then Ignored reason.Plain
    else Measured

-- the answer to a frame of which this is made, and of this deviation
abbrev pub heard_as : Reception → ℤ → Heard
heard_as (Ignored why) deviation = heard.Ignored why
heard_as Measured deviation = heard.Stored deviation

-- the answer of a node with this row to a frame of which this is made where it arrives in its slot
abbrev pub answer_with : Values → NodeRow → Offer → Reception → Heard
answer_with p row offer reception =
    if is_outside_slot p row offer.slot offer.arrival
    then heard.Ignored (reason.Outside offer.arrival (slot_begins p row offer.slot) (slot_ends p row offer.slot))
    else heard_as reception (deviation_of p row offer)
