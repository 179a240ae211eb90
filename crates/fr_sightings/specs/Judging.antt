-- What an entry of a log is: damaged, a frame that tells nothing of a clock, one that its sender does not send, or a frame of a
-- key slot that is judged.
use Rattle.std.specs.Prelude.{◌≡◌, ℕ, ◌*◌, ◌≤◌, ◌==◌, ◌&&◌, nat_lt, Bool, true, false, not, if◌then◌else◌, List, length, Option, Some, None, Result, Ok, Err}
use Rattle.fr_base.specs.declared.channel.Channel.{Channel}
use Rattle.fr_cluster.specs.Questions.{has_channel, node_of, own_key}
use Rattle.fr_cluster.specs.Values.{Values, amount}
use Rattle.fr_cluster.specs.declared.names.ParamName.TheVariants as name
use Rattle.fr_frame.specs.Reading.{crc_of, header_crc_in, header_of, read_as, read_checked}
use Rattle.fr_frame.specs.declared.fault.FrameFault.{FrameFault}
use Rattle.fr_frame.specs.declared.header.Header.{Header}
use Rattle.fr_time.specs.Senders.{sender_of}
use Rattle.fr_time.specs.declared.senders.Sending.{Sending}
use Rattle.fr_reception.specs.Regular.{is_sync_frame, regular_header}
use Rattle.fr_log.specs.Rows.{last_stamp}
use Rattle.fr_log.specs.View.{LogView, is_arbitrary_in}
use Rattle.fr_log.specs.declared.entry.Entry.{Entry}
use Rattle.fr_log.specs.declared.entry.EntryKind.{EntryKind}
use Rattle.fr_log.specs.declared.entry.EntryKind.TheVariants as kind
use Rattle.fr_sightings.specs.declared.judging.Judged.{Judged}
use Rattle.fr_sightings.specs.declared.judging.Judgement.{Judgement}
use Rattle.fr_sightings.specs.declared.judging.Judgement.TheVariants.{Damaged, Arbitrary, Other, Irregular, Regular}

-- ---- the header

-- the header of bytes that are a frame
abbrev pub header_read : Result Header FrameFault → Option Header
header_read (Ok header) = Some header
header_read (Err fault) = None

-- that of five bytes with which a frame can begin: the CRC fits, the frame ID is not 0, and startup comes with sync
abbrev pub head_read : List ℕ → Option Header
head_read bytes =
    if (length bytes == 5) && (header_crc_in bytes == crc_of (header_of bytes))
    then header_read (read_checked (header_of bytes))
    else None

-- that of an entry that is whole; none of one that is damaged
abbrev pub whole_header : EntryKind → Channel → List ℕ → Option Header
whole_header kind.Frame channel bytes = header_read (read_as channel bytes)
whole_header kind.Head channel bytes = head_read bytes

-- ---- its sender

-- who sends in the static slot of a header, in cycles of its count; nobody in a dynamic slot
abbrev pub static_sending : Values → Header → Option Sending
static_sending p header =
    if nat_lt (amount p name.gNumberOfStaticSlots) header.id then None else sender_of p header.id header.cycle

-- an indicator is as it should be
abbrev pub is_same_indicator : Bool → Bool → Bool
is_same_indicator true got = got
is_same_indicator false got = not got

-- a header has the payload length and the indicators of sync and startup of another one; what a frame's payload is, and
-- whether it is null, is not asked
abbrev pub has_form_of : Header → Header → Bool
has_form_of regular header =
    (header.words == regular.words) && is_same_indicator regular.sync header.sync
    && is_same_indicator regular.startup header.startup

-- a frame as its sender sends it: on a channel of its node, and with the form of its regular frame
abbrev pub is_regular_of : Values → Channel → Header → Sending → Bool
is_regular_of p channel header sending =
    has_channel (node_of p sending.node) channel && has_form_of (regular_header p sending header.id header.cycle) header

-- ---- the judgement

-- what a frame in the slot of a node tells
abbrev pub judged_as : Entry → Header → Sending → Judged
judged_as e header sending =
    record { node = sending.node; slot = header.id; channel = e.channel; count = header.cycle; stamp = e.stamp }

abbrev pub judgement_by : Values → LogView → Entry → Header → Option Sending → Judgement
judgement_by p l e header None = Other
judgement_by p l e header (Some sending) =
    if is_arbitrary_in l sending.node then Arbitrary
    else if not (is_regular_of p e.channel header sending) then Irregular (judged_as e header sending)
    else if is_sync_frame sending.kind then Regular (judged_as e header sending)
    else Other

abbrev pub judgement_with : Values → LogView → Entry → Option Header → Judgement
judgement_with p l e None = Damaged
judgement_with p l e (Some header) = judgement_by p l e header (static_sending p header)

-- an entry is damaged where it is not whole; of an arbitrary node where its slot is that of one; irregular where its slot is
-- that of another node, which does not send it so; judged where it is a regular frame of a key slot; and else it tells nothing
-- of a clock
unfoldable pub judgement_of : Values → LogView → Entry → Judgement
judgement_of p l e = judgement_with p l e (whole_header e.kind e.channel e.bytes)

-- what is judged is of a correct node that has the channel, in its key slot, and its stamp lies within the limits of
-- the log
pub record IsJudged (p : Values) (l : LogView) (judged : Judged) : Type 0 where
  pub count : judged.count ≤ 63
  pub own : own_key p judged.node ≡ Some judged.slot
  pub static : judged.slot ≤ amount p name.gNumberOfStaticSlots
  pub correct : is_arbitrary_in l judged.node ≡ false
  pub on_channel : has_channel (node_of p judged.node) judged.channel ≡ true
  pub stamp : l.unit * judged.stamp ≤ last_stamp

-- an irregular frame is of a correct node, in a slot of at most 1,023, and its stamp lies within the limits of the log
pub record IsIrregular (l : LogView) (judged : Judged) : Type 0 where
  pub correct : is_arbitrary_in l judged.node ≡ false
  pub slot : judged.slot ≤ 1023
  pub stamp : l.unit * judged.stamp ≤ last_stamp
