-- The regular frame of a static slot: what its sender sends there in a cycle (chapters 4 and 5).
use Rattle.std.specs.Prelude.{ℕ, ◌+◌, ◌-◌, ◌*◌, ◌%◌, Bool, true, false, ◌&&◌, List, map, fold, drop, length, replicate}
use Rattle.std.specs.List.{range_with_len}
use Rattle.fr_base.specs.declared.channel.Channel.{Channel}
use Rattle.fr_frame.specs.declared.header.Header.{Header}
use Rattle.fr_frame.specs.Reading.{frame_of}
use Rattle.fr_cluster.specs.Values.{Values, amount}
use Rattle.fr_cluster.specs.Questions.{is_coldstart}
use Rattle.fr_cluster.specs.declared.names.ParamName.TheVariants as name
use Rattle.fr_time.specs.Cycles.{cycle_count}
use Rattle.fr_time.specs.declared.senders.Sending.{Sending}
use Rattle.fr_time.specs.declared.senders.Kind.{Kind}
use Rattle.fr_time.specs.declared.senders.Kind.TheVariants.{SyncFrame, ValidFrame, NullFrame}

-- whether a frame is one of a key slot, with the sync indicator
abbrev pub is_sync_frame : Kind → Bool
is_sync_frame SyncFrame = true
is_sync_frame ValidFrame = false
is_sync_frame NullFrame = false

-- whether its payload is valid
abbrev pub has_payload : Kind → Bool
has_payload SyncFrame = true
has_payload ValidFrame = true
has_payload NullFrame = false

-- The header (section 4.2): only a key slot has sync frames, which are startup frames where the node is a coldstart node.
abbrev pub regular_header : Values → Sending → ℕ → ℕ → Header
regular_header p sending slot cycle = record {
  reserved = false;
  preamble = false;
  null_bit = has_payload sending.kind;
  sync = is_sync_frame sending.kind;
  startup = is_sync_frame sending.kind && is_coldstart p sending.node;
  id = slot;
  words = amount p name.gPayloadLengthStatic;
  cycle = cycle_count cycle;
}

-- a byte of a valid payload, by its place from 0: this program's own pattern
abbrev pub payload_byte : ℕ → ℕ → ℕ → ℕ
payload_byte slot cycle place = (7 * slot + 3 * cycle_count cycle + place) % 256

-- how many bytes of payload a static frame has
abbrev pub payload_bytes : Values → ℕ
payload_bytes p = 2 * amount p name.gPayloadLengthStatic

-- the payload: the pattern where it is valid, and else zeros
abbrev pub payload_of : Bool → ℕ → ℕ → ℕ → List ℕ
payload_of true count slot cycle = map (payload_byte slot cycle) (range_with_len 0 count)
payload_of false count slot cycle = replicate count 0

abbrev pub regular_payload : Values → Sending → ℕ → ℕ → List ℕ
regular_payload p sending slot cycle = payload_of (has_payload sending.kind) (payload_bytes p) slot cycle

-- the bytes of the frame on a channel
unfoldable pub regular_frame : Values → Sending → ℕ → ℕ → Channel → List ℕ
regular_frame p sending slot cycle channel = frame_of channel (regular_header p sending slot cycle) (regular_payload p sending slot cycle)

-- the frame CRC that a frame carries in its last three bytes
unfoldable pub carried_crc : List ℕ → ℕ
carried_crc bytes = fold (λ number byte. 256 * number + byte) 0 (drop (length bytes - 3) bytes)
