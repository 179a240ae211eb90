-- The first fault of bytes that are no frame: each fault holds where those before it do not.
use Rattle.std.specs.Prelude.{◌≡◌, ◌≢◌, ℕ, ◌+◌, ◌*◌, ◌^◌, ◌<◌, ◌≤◌, false, List, length, take, drop, IsTrue}
use Rattle.fr_base.specs.declared.channel.Channel.{Channel}
use Rattle.fr_crc.specs.Crc.{IsHeaderCrc, IsFrameCrc}
use Rattle.fr_frame.specs.declared.header.Header.{Header}
use Rattle.fr_frame.specs.declared.fault.FrameFault.{FrameFault}
use Rattle.fr_frame.specs.declared.fault.FrameFault.TheVariants.{Short, HeaderCrc, Length, FrameCrc, ZeroId, StartupNotSync}
use Rattle.fr_frame.specs.Frame.{header_bytes, trailer_bytes}

-- the first five bytes hold this header and keep this CRC of it, right or wrong
pub record HasHeader (bytes : List ℕ) (header : Header) (kept : ℕ) : Type 0 where
  pub id_fits : header.id ≤ 2047
  pub words_fit : header.words ≤ 127
  pub cycle_fits : header.cycle ≤ 63
  pub kept_fits : kept < 2 ^ 11
  pub spelled : take 5 bytes ≡ header_bytes header kept

-- the bytes of header and payload, as many as the header states
abbrev pub body_of : Header → List ℕ → List ℕ
body_of header bytes = take (5 + 2 * header.words) bytes

-- what stands after them
abbrev pub trailer_of : Header → List ℕ → List ℕ
trailer_of header bytes = drop (5 + 2 * header.words) bytes

-- enough bytes, and a header with its right CRC
pub record HasRightHeader (bytes : List ℕ) (header : Header) (crc : ℕ) : Type 0 where
  pub enough : 8 ≤ length bytes
  pub holds : HasHeader bytes header crc
  pub right : IsHeaderCrc header.sync header.startup header.id header.words crc

-- besides, as many bytes as the header states
pub record HasRightLength (bytes : List ℕ) (header : Header) (crc : ℕ) : Type 0 where
  pub header_right : HasRightHeader bytes header crc
  pub long : length bytes ≡ 8 + 2 * header.words

-- besides, the right frame CRC
pub record HasRightChecks (channel : Channel) (bytes : List ℕ) (header : Header) (header_crc frame_crc : ℕ) : Type 0 where
  pub length_right : HasRightLength bytes header header_crc
  pub right : IsFrameCrc channel (body_of header bytes) frame_crc
  pub spelled : trailer_of header bytes ≡ trailer_bytes frame_crc

-- fewer than eight bytes
pub record IsShort (bytes : List ℕ) (given : ℕ) : Type 0 where
  pub counted : given ≡ length bytes
  pub few : given < 8

-- the header keeps another CRC than that of its fields
pub record IsWrongHeaderCrc (bytes : List ℕ) (kept computed : ℕ) : Type 0 where
  pub header : Header
  pub enough : 8 ≤ length bytes
  pub holds : HasHeader bytes header kept
  pub right : IsHeaderCrc header.sync header.startup header.id header.words computed
  pub differs : kept ≢ computed

-- the header states another number of bytes
pub record IsWrongLength (bytes : List ℕ) (stated given : ℕ) : Type 0 where
  pub header : Header
  pub crc : ℕ
  pub header_right : HasRightHeader bytes header crc
  pub states : stated ≡ 8 + 2 * header.words
  pub counted : given ≡ length bytes
  pub differs : given ≢ stated

-- the last three bytes keep another CRC than that of all bytes before them
pub record IsWrongFrameCrc (channel : Channel) (bytes : List ℕ) (kept computed : ℕ) : Type 0 where
  pub header : Header
  pub crc : ℕ
  pub length_right : HasRightLength bytes header crc
  pub kept_fits : kept < 2 ^ 24
  pub spelled : trailer_of header bytes ≡ trailer_bytes kept
  pub right : IsFrameCrc channel (body_of header bytes) computed
  pub differs : kept ≢ computed

-- the frame ID is 0
pub record IsZeroId (channel : Channel) (bytes : List ℕ) : Type 0 where
  pub header : Header
  pub header_crc : ℕ
  pub frame_crc : ℕ
  pub checks_right : HasRightChecks channel bytes header header_crc frame_crc
  pub zero_id : header.id ≡ 0

-- the startup indicator is set and the sync indicator is not
pub record IsStartupNotSync (channel : Channel) (bytes : List ℕ) : Type 0 where
  pub header : Header
  pub header_crc : ℕ
  pub frame_crc : ℕ
  pub checks_right : HasRightChecks channel bytes header header_crc frame_crc
  pub id_some : 1 ≤ header.id
  pub startup : IsTrue header.startup
  pub no_sync : header.sync ≡ false

-- the first fault of the bytes on the channel, with its values
abbrev pub IsFirstFault : Channel → List ℕ → FrameFault → Type 0
IsFirstFault channel bytes (Short given) = IsShort bytes given
IsFirstFault channel bytes (HeaderCrc kept computed) = IsWrongHeaderCrc bytes kept computed
IsFirstFault channel bytes (Length stated given) = IsWrongLength bytes stated given
IsFirstFault channel bytes (FrameCrc kept computed) = IsWrongFrameCrc channel bytes kept computed
IsFirstFault channel bytes ZeroId = IsZeroId channel bytes
IsFirstFault channel bytes StartupNotSync = IsStartupNotSync channel bytes
