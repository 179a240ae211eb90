-- What a node answers to an offer in a cycle (sections 4.2 to 4.5 and 8.5): the first of six reasons to ignore it that
-- holds, or else the deviation that it stores.
use Rattle.std.specs.Prelude.{◌≡◌, ◌≢◌, ◌⊎◌, ℕ, ℤ, ◌≤ℤ◌, ◌<ℤ◌, int_lt, int_le, true, false, not, ◌||◌, ◌==◌, List, None, IsSome, is_none, Result, Ok, Err, if◌then◌else◌}
use Rattle.fr_base.specs.declared.node_row.NodeRow.{NodeRow}
use Rattle.fr_frame.specs.declared.header.Header.{Header}
use Rattle.fr_frame.specs.declared.fault.FrameFault.{FrameFault}
use Rattle.fr_frame.specs.Frame.{IsFrame}
use Rattle.fr_frame.specs.Fault.{IsFirstFault}
use Rattle.fr_frame.specs.Reading.{read_as}
use Rattle.fr_cluster.specs.Values.{Values, amount}
use Rattle.fr_cluster.specs.Questions.{key_index_of}
use Rattle.fr_cluster.specs.declared.names.ParamName.TheVariants as name
use Rattle.fr_time.specs.Cycles.{cycle_count}
use Rattle.fr_reception.specs.declared.heard.Heard.{Heard}
use Rattle.fr_reception.specs.declared.heard.Heard.TheVariants.{Stored, Ignored}
use Rattle.fr_reception.specs.declared.heard.Ignored.TheVariants as reason
use Rattle.fr_reception.specs.Offers.{Offer, deviation_of}
use Rattle.fr_time.specs.Instant.{slot_begins, slot_ends}

-- it arrives between the instants at which its slot begins and ends at the node
pub record ArrivesInSlot (p : Values) (row : NodeRow) (offer : Offer) : Type 0 where
  pub begun : slot_begins p row offer.slot ≤ℤ offer.arrival
  pub not_ended : offer.arrival <ℤ slot_ends p row offer.slot

-- besides, it is a frame of this header
pub record IsReceived (p : Values) (row : NodeRow) (offer : Offer) (header : Header) : Type 0 where
  pub in_slot : ArrivesInSlot p row offer
  pub payload : List ℕ
  pub frame : IsFrame offer.channel header payload offer.bytes

-- besides, its frame ID is the slot
pub record HasSlotId (p : Values) (row : NodeRow) (offer : Offer) (header : Header) : Type 0 where
  pub received : IsReceived p row offer header
  pub id : header.id ≡ offer.slot

-- besides, its cycle count is that of the cycle
pub record HasCycleCount (p : Values) (cycle : ℕ) (row : NodeRow) (offer : Offer) (header : Header) : Type 0 where
  pub slot_id : HasSlotId p row offer header
  pub count : header.cycle ≡ cycle_count cycle

-- besides, its payload length is that of the cluster
pub record HasStaticLength (p : Values) (cycle : ℕ) (row : NodeRow) (offer : Offer) (header : Header) : Type 0 where
  pub cycle_right : HasCycleCount p cycle row offer header
  pub words : header.words ≡ amount p name.gPayloadLengthStatic

-- it arrives outside of its slot
pub record IsOutsideSlot (p : Values) (row : NodeRow) (offer : Offer) (arrival from to : ℤ) : Type 0 where
  pub arrives : arrival ≡ offer.arrival
  pub begins : from ≡ slot_begins p row offer.slot
  pub ends : to ≡ slot_ends p row offer.slot
  pub outside : (arrival <ℤ from) ⊎ (to ≤ℤ arrival)

-- its bytes are no frame
pub record IsDamaged (p : Values) (row : NodeRow) (offer : Offer) (fault : FrameFault) : Type 0 where
  pub in_slot : ArrivesInSlot p row offer
  pub first_fault : IsFirstFault offer.channel offer.bytes fault

-- its frame ID is another
pub record HasWrongId (p : Values) (row : NodeRow) (offer : Offer) (slot id : ℕ) : Type 0 where
  pub header : Header
  pub received : IsReceived p row offer header
  pub own : slot ≡ offer.slot
  pub got : id ≡ header.id
  pub differs : id ≢ slot

-- its cycle count is another
pub record HasWrongCycle (p : Values) (cycle : ℕ) (row : NodeRow) (offer : Offer) (own got : ℕ) : Type 0 where
  pub header : Header
  pub slot_id : HasSlotId p row offer header
  pub counted : own ≡ cycle_count cycle
  pub stated : got ≡ header.cycle
  pub differs : got ≢ own

-- its payload length is another
pub record HasWrongLength (p : Values) (cycle : ℕ) (row : NodeRow) (offer : Offer) (own got : ℕ) : Type 0 where
  pub header : Header
  pub cycle_right : HasCycleCount p cycle row offer header
  pub static : own ≡ amount p name.gPayloadLengthStatic
  pub stated : got ≡ header.words
  pub differs : got ≢ own

-- it is no sync frame, or not in a key slot
pub record IsPlain (p : Values) (cycle : ℕ) (row : NodeRow) (offer : Offer) : Type 0 where
  pub header : Header
  pub length_right : HasStaticLength p cycle row offer header
  pub plain : (header.sync ≡ false) ⊎ (key_index_of p offer.slot ≡ None)

-- it is a sync frame in its key slot, and this is its deviation
pub record IsStored (p : Values) (cycle : ℕ) (row : NodeRow) (offer : Offer) (value : ℤ) : Type 0 where
  pub header : Header
  pub length_right : HasStaticLength p cycle row offer header
  pub sync : header.sync ≡ true
  pub key_slot : IsSome (key_index_of p offer.slot)
  pub measured : value ≡ deviation_of p row offer

-- what a node of this row answers to the offer in the cycle
abbrev pub IsAnswer : Values → ℕ → NodeRow → Offer → Heard → Type 0
IsAnswer p cycle row offer (Stored value) = IsStored p cycle row offer value
IsAnswer p cycle row offer (Ignored (reason.Outside arrival from to)) = IsOutsideSlot p row offer arrival from to
IsAnswer p cycle row offer (Ignored (reason.Damaged fault)) = IsDamaged p row offer fault
IsAnswer p cycle row offer (Ignored (reason.WrongId slot id)) = HasWrongId p row offer slot id
IsAnswer p cycle row offer (Ignored (reason.WrongCycle own got)) = HasWrongCycle p cycle row offer own got
IsAnswer p cycle row offer (Ignored (reason.WrongLength own got)) = HasWrongLength p cycle row offer own got
IsAnswer p cycle row offer (Ignored reason.Plain) = IsPlain p cycle row offer

-- the answer to an offer that arrives in its slot, by what its bytes are on the channel
abbrev pub answer_by : Values → ℕ → NodeRow → Offer → Result Header FrameFault → Heard
answer_by p cycle row offer (Err fault) = Ignored (reason.Damaged fault)
answer_by p cycle row offer (Ok header) =
    if not (header.id == offer.slot) then Ignored (reason.WrongId offer.slot header.id)
    else if not (header.cycle == cycle_count cycle) then Ignored (reason.WrongCycle (cycle_count cycle) header.cycle)
    else if not (header.words == amount p name.gPayloadLengthStatic) then Ignored (reason.WrongLength (amount p name.gPayloadLengthStatic) header.words)
    else if not header.sync || is_none (key_index_of p offer.slot) then Ignored reason.Plain
    else Stored (deviation_of p row offer)

-- the answer as a function of the offer; laws say that it is the one that `IsAnswer` describes
unfoldable pub answer_of : Values → ℕ → NodeRow → Offer → Heard
answer_of p cycle row offer =
    if int_lt offer.arrival (slot_begins p row offer.slot) || int_le (slot_ends p row offer.slot) offer.arrival
    then Ignored (reason.Outside offer.arrival (slot_begins p row offer.slot) (slot_ends p row offer.slot))
    else answer_by p cycle row offer (read_as offer.channel offer.bytes)
