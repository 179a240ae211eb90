-- Frames as functions: the bytes of a header and a payload, and what bytes are on a channel.
use Rattle.std.specs.Prelude.{ℕ, ◌+◌, ◌*◌, ◌/◌, ◌%◌, Bool, not, ◌&&◌, nat_lt, ◌==◌, if◌then◌else◌, Result, Ok, Err, List, ◌++◌, length, take, drop, slice_index}
use Rattle.std.specs.Int.{bit_at}
use Rattle.fr_base.specs.declared.channel.Channel.{Channel}
use Rattle.fr_crc.specs.Computed.{header_crc_of, frame_crc_of}
use Rattle.fr_frame.specs.declared.header.Header.{Header}
use Rattle.fr_frame.specs.declared.fault.FrameFault.{FrameFault}
use Rattle.fr_frame.specs.declared.fault.FrameFault.TheVariants.{Short, HeaderCrc, Length, FrameCrc, ZeroId, StartupNotSync}
use Rattle.fr_frame.specs.Frame.{header_bytes, trailer_bytes}
use Rattle.fr_frame.specs.Fault.{body_of, trailer_of}

-- the header CRC of a header
abbrev pub crc_of : Header → ℕ
crc_of header = header_crc_of header.sync header.startup header.id header.words

-- the bytes that both CRCs of a header and a payload stand among
abbrev pub body_from : Header → List ℕ → List ℕ
body_from header payload = header_bytes header (crc_of header) ++ payload

-- the bytes of a header and a payload on a channel
unfoldable pub frame_of : Channel → Header → List ℕ → List ℕ
frame_of channel header payload =
    body_from header payload ++ trailer_bytes (frame_crc_of channel (body_from header payload))

-- the bit of a byte at a place, 0 the least significant
abbrev pub is_set : ℕ → ℕ → Bool
is_set byte place = bit_at byte place == 1

-- the header in the first five bytes
abbrev pub header_of : List ℕ → Header
header_of bytes = record {
  reserved = is_set (slice_index bytes 0) 7;
  preamble = is_set (slice_index bytes 0) 6;
  null_bit = is_set (slice_index bytes 0) 5;
  sync = is_set (slice_index bytes 0) 4;
  startup = is_set (slice_index bytes 0) 3;
  id = slice_index bytes 0 % 8 * 256 + slice_index bytes 1;
  words = slice_index bytes 2 / 2;
  cycle = slice_index bytes 4 % 64;
}

-- the header CRC that they keep
abbrev pub header_crc_in : List ℕ → ℕ
header_crc_in bytes = slice_index bytes 2 % 2 * 1024 + slice_index bytes 3 * 4 + slice_index bytes 4 / 64

-- the frame CRC that three bytes keep
abbrev pub frame_crc_in : List ℕ → ℕ
frame_crc_in bytes = slice_index bytes 0 * 65536 + slice_index bytes 1 * 256 + slice_index bytes 2

-- the bytes of the payload, as many as the header states
abbrev pub payload_in : Header → List ℕ → List ℕ
payload_in header bytes = take (2 * header.words) (drop 5 bytes)

-- with both CRCs right
abbrev pub read_checked : Header → Result Header FrameFault
read_checked header =
    if header.id == 0 then Err ZeroId else (if header.startup && not header.sync then Err StartupNotSync else Ok header)

-- with as many bytes as the header states
abbrev pub read_long : Channel → List ℕ → Header → Result Header FrameFault
read_long channel bytes header =
    if frame_crc_in (trailer_of header bytes) == frame_crc_of channel (body_of header bytes)
    then read_checked header
    else Err (FrameCrc (frame_crc_in (trailer_of header bytes)) (frame_crc_of channel (body_of header bytes)))

-- with the right header CRC
abbrev pub read_right : Channel → List ℕ → Header → Result Header FrameFault
read_right channel bytes header =
    if length bytes == 8 + 2 * header.words
    then read_long channel bytes header
    else Err (Length (8 + 2 * header.words) (length bytes))

-- with enough bytes for a header and a trailer
abbrev pub read_enough : Channel → List ℕ → Header → Result Header FrameFault
read_enough channel bytes header =
    if header_crc_in bytes == crc_of header
    then read_right channel bytes header
    else Err (HeaderCrc (header_crc_in bytes) (crc_of header))

-- what the bytes are on the channel: a frame with this header, or no frame, with their first fault
unfoldable pub read_as : Channel → List ℕ → Result Header FrameFault
read_as channel bytes =
    if nat_lt (length bytes) 8 then Err (Short (length bytes)) else read_enough channel bytes (header_of bytes)
