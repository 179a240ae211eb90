-- Why no frame begins the bytes behind the last one.
use Rattle.std.specs.Prelude.{◌≡◌, ℕ, ◌+◌, ◌*◌, Bool, not, nat_lt, ◌==◌, if◌then◌else◌, List, length, take, Option, Some, None, Result, Ok, Err}
use Rattle.fr_base.specs.declared.channel.Channel.{Channel}
use Rattle.fr_frame.specs.declared.header.Header.{Header}
use Rattle.fr_frame.specs.declared.fault.FrameFault.{FrameFault}
use Rattle.fr_frame.specs.declared.fault.FrameFault.TheVariants as frame_fault
use Rattle.fr_frame.specs.Reading.{crc_of, header_of, header_crc_in, read_as}
use Rattle.fr_capture.specs.declared.fault.CaptureFault.{CaptureFault}
use Rattle.fr_capture.specs.declared.fault.CaptureFault.TheVariants as fault

-- how many bytes the frame has whose header the bytes begin with
abbrev pub size_of : List ℕ → ℕ
size_of rest = 8 + 2 * (header_of rest).words

-- whether the header CRC in the first five bytes is that of their header
abbrev pub has_right_header : List ℕ → Bool
has_right_header rest = header_crc_in rest == crc_of (header_of rest)

-- the fault of a frame's bytes as one of a recording
abbrev pub capture_fault_of : FrameFault → CaptureFault
capture_fault_of (frame_fault.Short given) = fault.Cut 8 given
capture_fault_of (frame_fault.HeaderCrc kept computed) = fault.HeaderCrc kept computed
capture_fault_of (frame_fault.Length stated given) = fault.Cut stated given
capture_fault_of (frame_fault.FrameCrc kept computed) = fault.FrameCrc kept computed
capture_fault_of frame_fault.ZeroId = fault.ZeroId
capture_fault_of frame_fault.StartupNotSync = fault.StartupNotSync

-- that of bytes that are as many as their header states
abbrev pub whole_fault : Result Header FrameFault → Option CaptureFault
whole_fault (Ok header) = None
whole_fault (Err why) = Some (capture_fault_of why)

-- the first fault of a rest on a channel, None where a frame begins it
unfoldable pub fault_in : Channel → List ℕ → Option CaptureFault
fault_in channel rest =
    if nat_lt (length rest) 5 then Some (fault.Cut 8 (length rest))
    else if not (has_right_header rest) then Some (fault.HeaderCrc (header_crc_in rest) (crc_of (header_of rest)))
    else if nat_lt (length rest) (size_of rest) then Some (fault.Cut (size_of rest) (length rest))
    else whole_fault (read_as channel (take (size_of rest) rest))

-- a fault that no further bytes mend: of any kind but a cut
abbrev pub IsLasting : CaptureFault → Type 0
IsLasting (fault.Cut needed given) = ⊥
IsLasting other = Unit {0}

-- the rest shows a fault that no further bytes mend
pub record ShowsFault (channel : Channel) (rest : List ℕ) : Type 0 where
  pub fault : CaptureFault
  pub shown : fault_in channel rest ≡ Some fault
  pub lasting : IsLasting fault

-- how many bytes are to be there before more can be said of a rest: its header, and then its whole frame
abbrev pub wanted : List ℕ → ℕ
wanted rest = if nat_lt (length rest) 5 then 5 else if has_right_header rest then size_of rest else 5
