-- A frame of C, and how it is read and written.
use Rattle.std.specs.Prelude.{◌≡◌, ℕ, ◌<◌, ◌≤◌, ◌==◌, ◌⊎◌, Bool, not, nat_lt, List, length, take, Option, Some, None, MatchOption, if◌then◌else◌}
use Rattle.fr_base.specs.declared.channel.Channel.{Channel}
use Rattle.fr_base.specs.declared.channel.Channel.TheVariants.{A, B}
use Rattle.fr_frame.specs.declared.header.Header.{Header}
use Rattle.fr_frame.specs.declared.fault.FrameFault.{FrameFault}
use Rattle.fr_frame.specs.declared.fault.FrameFault.TheVariants as read
use Rattle.fr_frame.specs.declared.fault.EncodeFault.{EncodeFault}
use Rattle.fr_frame.specs.declared.fault.EncodeFault.TheVariants as write
use Rattle.fr_capture.specs.Rest.{has_right_header, size_of}
use Rattle.fr_frame.specs.Fault.{IsFirstFault}
use Rattle.fr_frame.specs.Frame.{IsFrameWith, bit}
use Rattle.fr_frame.specs.Refusal.{IsEncoded, IsFirstRefusal}
use Rattle.flexray_c.specs.declared.frames.Frame.{Frame}

-- the channel of a number
abbrev pub channel_numbered : ℕ → Option Channel
channel_numbered number = if number == 0 then Some A else if number == 1 then Some B else None

-- a header and both CRCs as they are told
abbrev pub frame_told : Header → ℕ → ℕ → Frame
frame_told header header_crc frame_crc = record {
  frame_crc = frame_crc;
  header_crc = header_crc;
  id = header.id;
  words = header.words;
  cycle = header.cycle;
  reserved = bit header.reserved;
  preamble = bit header.preamble;
  null_bit = bit header.null_bit;
  sync = bit header.sync;
  startup = bit header.startup;
}

-- an indicator that is given: clear for 0, and else set
abbrev pub flag_given : ℕ → Bool
flag_given number = not (number == 0)

-- the header that is given
abbrev pub header_given : Frame → Header
header_given frame = record {
  reserved = flag_given frame.reserved;
  preamble = flag_given frame.preamble;
  null_bit = flag_given frame.null_bit;
  sync = flag_given frame.sync;
  startup = flag_given frame.startup;
  id = frame.id;
  words = frame.words;
  cycle = frame.cycle;
}

-- the number of each fault of bytes
abbrev pub decode_number : FrameFault → ℕ
decode_number (read.Short given) = 1
decode_number (read.HeaderCrc kept computed) = 2
decode_number (read.Length stated given) = 3
decode_number (read.FrameCrc kept computed) = 4
decode_number read.ZeroId = 5
decode_number read.StartupNotSync = 6

-- the number of each reason not to write a frame
abbrev pub encode_number : EncodeFault → ℕ
encode_number write.StartupNotSync = 6
encode_number write.BadId = 8
encode_number write.BadCycle = 9
encode_number (write.BadPayload given words) = 10
encode_number (write.Room needed given) = 11

-- the bytes are this frame, and it is told
pub record IsDecoded (channel : Channel) (bytes : List ℕ) (after : Frame) (result : ℕ) : Type 0 where
  pub header : Header
  pub payload : List ℕ
  pub header_crc : ℕ
  pub frame_crc : ℕ
  pub frame : IsFrameWith channel header payload header_crc frame_crc bytes
  pub told : after ≡ frame_told header header_crc frame_crc
  pub no_fault : result ≡ 0

-- the bytes are no frame: the number of their first fault is told, and nothing else
pub record IsFaulted (channel : Channel) (bytes : List ℕ) (before after : Frame) (result : ℕ) : Type 0 where
  pub fault : FrameFault
  pub first : IsFirstFault channel bytes fault
  pub numbered : result ≡ decode_number fault
  pub unchanged : after ≡ before

-- how a reading ends: 7 where there is no such channel
abbrev pub DecodeEnds : ℕ → List ℕ → Frame → Frame → ℕ → Type 0
DecodeEnds number bytes before after result =
    MatchOption (channel_numbered number) ((result ≡ 7) × (after ≡ before)) (λ channel. IsDecoded channel bytes after result ⊎ IsFaulted channel bytes before after result)

-- how many bytes are to be there before more can be said of the frame that begins these: as many as its header states, where its
-- header CRC is right, and else as many as the shortest frame has
abbrev pub expected : List ℕ → ℕ
expected bytes = if nat_lt (length bytes) 8 then 8 else (if has_right_header bytes then size_of bytes else 8)

-- the bytes end before that: it is told how many are expected
pub record IsAwaited (bytes : List ℕ) (before after : Frame) (count result : ℕ) : Type 0 where
  pub few : length bytes < expected bytes
  pub counted : count ≡ expected bytes
  pub short : result ≡ 1
  pub unchanged : after ≡ before

-- the frame is there, and how many bytes it has is told
pub record IsReadFirst (channel : Channel) (bytes : List ℕ) (after : Frame) (count result : ℕ) : Type 0 where
  pub within : expected bytes ≤ length bytes
  pub decoded : IsDecoded channel (take (expected bytes) bytes) after result
  pub counted : count ≡ expected bytes

-- so many bytes are there, and are no frame
pub record IsFaultedFirst (channel : Channel) (bytes : List ℕ) (before after : Frame) (count result : ℕ) : Type 0 where
  pub within : expected bytes ≤ length bytes
  pub faulted : IsFaulted channel (take (expected bytes) bytes) before after result
  pub counted : count ≡ 0

-- what is told of the frame that begins the bytes
abbrev pub IsNext : Channel → List ℕ → Frame → Frame → ℕ → ℕ → Type 0
IsNext channel bytes before after count result =
    IsAwaited bytes before after count result ⊎ IsReadFirst channel bytes after count result ⊎ IsFaultedFirst channel bytes before after count result

-- how a reading of a front ends: 7 where there is no such channel
abbrev pub NextEnds : ℕ → List ℕ → Frame → Frame → ℕ → ℕ → Type 0
NextEnds number bytes before after count result =
    MatchOption (channel_numbered number) ((result ≡ 7) × (count ≡ 0) × (after ≡ before)) (λ channel. IsNext channel bytes before after count result)

-- the frame of this header and payload was written, and the rest of the place is as it was
pub record IsSpelled (channel : Channel) (frame : Frame) (payload before after : List ℕ) (count result : ℕ) : Type 0 where
  pub written : IsEncoded channel (header_given frame) payload before after count
  pub no_fault : result ≡ 0

-- how many bytes are told that a refused frame needs: only where room alone is missing
abbrev pub needed_of : EncodeFault → ℕ
needed_of (write.Room needed given) = needed
needed_of other = 0

-- nothing was written: the number of the first reason is told, and how many bytes are needed
pub record IsUnspelled (frame : Frame) (payload before after : List ℕ) (count result : ℕ) : Type 0 where
  pub fault : EncodeFault
  pub first : IsFirstRefusal (header_given frame) (length payload) (length before) fault
  pub numbered : result ≡ encode_number fault
  pub needed : count ≡ needed_of fault
  pub unchanged : after ≡ before

-- how a writing ends: 7 where there is no such channel
abbrev pub EncodeEnds : ℕ → Frame → List ℕ → List ℕ → List ℕ → ℕ → ℕ → Type 0
EncodeEnds number frame payload before after count result =
    MatchOption (channel_numbered number) ((result ≡ 7) × (count ≡ 0) × (after ≡ before))
    (λ channel. IsSpelled channel frame payload before after count result ⊎ IsUnspelled frame payload before after count result)
