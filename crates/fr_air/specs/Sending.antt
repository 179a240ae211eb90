-- What comes to a receiver of a frame in a slot, once its sender is known.
use Rattle.std.specs.Prelude.{◌≡◌, ℕ, ◌==◌, ◌≤◌, ℤ, ◌+ℤ◌, ◌*ℤ◌, pos, Bool, not, ◌&&◌, List, length, Option, Some, None, IfSome, if◌then◌else◌, ⊤}
use Rattle.std.specs.Borrow.{Bor}
use Rattle.std.specs.Option.{option_map}
use Rattle.fr_base.specs.States.{is_active, is_halted}
use Rattle.fr_base.specs.declared.channel.Channel.{Channel}
use Rattle.fr_base.specs.declared.node_row.NodeRow.{NodeRow}
use Rattle.fr_base.specs.Timed.{IsTimed}
use Rattle.fr_base.specs.Within.{IsBetween, IsWithin}
use Rattle.fr_cluster.specs.Questions.{compensation_of}
use Rattle.fr_cluster.specs.Values.{Values}
use Rattle.fr_reception.specs.Offers.{Offer, flipped}
use Rattle.fr_time.specs.Instant.{action_instant}
use Rattle.fr_node.specs.Arrivals.{IsOfferedAt}
use Rattle.fr_node.specs.View.{NodeView, node_row_of}
use Rattle.fr_cluster.specs.Setting.{Setting}
use Rattle.fr_history.specs.History.{row_of as row_in}
use Rattle.fr_history.specs.Offers.{arrived_of, is_on, said_in_event}
use Rattle.fr_air.specs.Hearing.{after_offer}
use Rattle.fr_air.specs.declared.files.RunInputs.{RunInputs}
use Rattle.fr_air.specs.declared.turn.Bytes.{Bytes}
use Rattle.fr_air.specs.declared.turn.Bytes.TheVariants.{Frame, Flipped, Said}
use Rattle.fr_air.specs.declared.turn.Coming.{Coming}
use Rattle.fr_air.specs.declared.turn.Sender.{Sender}
use Rattle.fr_air.specs.declared.turn.Turn.{Turn}

-- a start of a row that an arrival can be caught of, in ticks
abbrev pub IsEarlyStart : ℤ → Type 0
IsEarlyStart at = IsBetween (pos 0) (pos 200_000_000_000_000_000) at

-- a row whose instants can be computed, before its corrections
pub record IsEarlyRow (p : Values) (row : NodeRow) : Type 0 where
  pub timed : IsTimed row
  pub rate : IsWithin p.rate_limit row.rate
  pub offset : row.offset ≡ pos 0

-- bytes that come in a turn at an instant
abbrev pub offer_at : Turn → ℤ → List ℕ → Offer
offer_at turn arrival bytes = record { slot = turn.slot; channel = turn.channel; arrival = arrival; bytes = bytes }

-- the bytes that come of a frame: itself, itself with one bit inverted, or others
abbrev pub bytes_by : List ℕ → Bytes → List ℕ
bytes_by frame Frame = frame
bytes_by frame (Flipped bit) = flipped bit frame
bytes_by frame (Said bytes) = bytes.now

-- those that come with this bit inverted, if one is
abbrev pub carried : Option ℕ → Bytes
carried None = Frame
carried (Some bit) = Flipped bit

-- what comes of a frame in a turn, as an offer
abbrev pub coming_offer : Turn → List ℕ → Coming → Offer
coming_offer turn frame coming = offer_at turn coming.arrival (bytes_by frame coming.bytes)

-- other bytes are no longer than a frame can be
abbrev pub AreShort : Bytes → Type 0
AreShort Frame = ⊤
AreShort (Flipped bit) = ⊤
AreShort (Said bytes) = length bytes.now ≤ 262

-- it comes within any run
pub record IsComing (coming : Coming) : Type 0 where
  pub arrival : IsOfferedAt coming.arrival
  pub short : AreShort coming.bytes

-- what an arbitrary sender says: its regular frame, or other bytes
abbrev pub said_by : Option (Bor (List ℕ)) → Bytes
said_by None = Frame
said_by (Some bytes) = Said bytes

-- what comes of a frame in a turn is this offer, or nothing where there is none
pub record ComesAs (turn : Turn) (frame : List ℕ) (offer : Option Offer) (coming : Option Coming) : Type 0 where
  pub offer_is : option_map (coming_offer turn frame) coming ≡ offer
  pub within : IfSome coming IsComing

-- the instant at which the frame of a correct sender with this row comes to a receiver
abbrev pub sent_instant : Setting → Turn → NodeRow → ℕ → ℤ
sent_instant x turn sender receiver =
    action_instant x.params sender turn.slot +ℤ x.delay sender.node receiver turn.channel turn.cycle

-- the instant at which a correct sender with this row sends
pub record IsDue (f : RunInputs) (turn : Turn) (sender : NodeRow) (due : ℤ) : Type 0 where
  pub value : due ≡ action_instant f.params sender turn.slot
  pub within : IsBetween (pos 0) (pos 1_111_000_000_000_000_000) due

-- the instant at which what is said comes: so many ticks later than the receiver expects a frame
abbrev pub said_instant : Setting → Turn → NodeRow → ℤ → ℤ
said_instant x turn receiver shift =
    action_instant x.params receiver turn.slot +ℤ (compensation_of x.params turn.channel *ℤ receiver.length) +ℤ shift

-- what comes to a receiver of the frame of a correct sender with this row
abbrev pub sent_with : Setting → Turn → NodeRow → List ℕ → ℕ → Option Offer
sent_with x turn sender frame receiver =
    option_map (λ bytes. offer_at turn (sent_instant x turn sender receiver) bytes)
    (arrived_of (x.event turn.cycle sender.node receiver turn.channel) frame)

-- what an arbitrary sender says, with this regular frame
abbrev pub said_with : Setting → Turn → ℕ → List ℕ → NodeRow → Option Offer
said_with x turn sender frame receiver =
    option_map (λ said. offer_at turn (said_instant x turn receiver said.0) said.1)
    (said_in_event (x.event turn.cycle sender receiver.node turn.channel) frame)

-- what comes from a sender: a correct one with this row, or else an arbitrary one
abbrev pub offer_from : Setting → Turn → ℕ → Option NodeRow → List ℕ → NodeRow → Option Offer
offer_from x turn sender (Some row) frame receiver = sent_with x turn row frame receiver.node
offer_from x turn sender None frame receiver = said_with x turn sender frame receiver

-- whether a receiver hears a sender on a channel: the receiver is another node, is not halted, and has the channel
abbrev pub hears : Setting → NodeRow → ℕ → Channel → Bool
hears x receiver sender channel = not (is_halted receiver.state) && is_on x receiver.node channel && not (sender == receiver.node)

-- what of that a receiver is offered
abbrev pub offer_heard : Setting → Turn → ℕ → Option NodeRow → List ℕ → NodeRow → Option Offer
offer_heard x turn sender row frame receiver =
    if hears x receiver sender turn.channel then offer_from x turn sender row frame receiver else None

-- a node after that
abbrev pub after_offer_by : Setting → Turn → Sender → List ℕ → NodeView → NodeView
after_offer_by x turn sender frame node =
    after_offer x turn.cycle node (offer_heard x turn sender.node sender.row frame (node_row_of node))

-- the row of a node, where it sends on a channel: it is active and has the channel
abbrev pub sending_row_by : Setting → Option NodeRow → ℕ → Channel → Option NodeRow
sending_row_by x None node channel = None
sending_row_by x (Some row) node channel = if is_active row.state && is_on x node channel then Some row else None

abbrev pub sending_row_in : Setting → List NodeRow → ℕ → Channel → Option NodeRow
sending_row_in x rows node channel = sending_row_by x (row_in rows node) node channel
