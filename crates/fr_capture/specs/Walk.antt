-- The frames of bytes as a function: one frame after the other, up to the first fault.
use Rattle.std.specs.Prelude.{ℕ, zero, suc, ◌+◌, List, [], ◌∷◌, length, drop, Option, Some, None}
use Rattle.fr_base.specs.declared.channel.Channel.{Channel}
use Rattle.fr_frame.specs.Reading.{header_of, payload_in}
use Rattle.fr_capture.specs.declared.fault.CaptureFault.{CaptureFault}
use Rattle.fr_capture.specs.Frames.{Found}
use Rattle.fr_capture.specs.Rest.{fault_in, size_of}

-- some frames, and the rest behind them
pub record FramesSoFar : Type 0 where
  pub frames : List Found
  pub rest : List ℕ

-- with one frame more in front
abbrev pub with_first : Found → FramesSoFar → FramesSoFar
with_first found walk = record { frames = found ∷ walk.frames; rest = walk.rest }

abbrev pub nothing_found : List ℕ → FramesSoFar
nothing_found bytes = record { frames = []; rest = bytes }

-- the frame that begins the bytes at a place
abbrev pub frame_found_at : ℕ → List ℕ → Found
frame_found_at place bytes = record { place = place; header = header_of bytes; payload = payload_in (header_of bytes) bytes }

-- by what is wrong with the bytes first: nothing, or the frame that begins them and what is found behind it
abbrev pub found_or : Option CaptureFault → ℕ → List ℕ → (List ℕ → FramesSoFar) → FramesSoFar
found_or (Some why) place bytes next = nothing_found bytes
found_or None place bytes next = with_first (frame_found_at place bytes) (next (drop (size_of bytes) bytes))

-- so many frames at most
unfoldable pub after_frames : ℕ → Channel → ℕ → List ℕ → FramesSoFar
after_frames zero channel place bytes = nothing_found bytes
after_frames (suc n) channel place bytes = found_or (fault_in channel bytes) place bytes (λ behind. after_frames n channel (place + size_of bytes) behind)

-- the frames of bytes, of which there are no more than bytes, and the rest
abbrev pub frames_in : Channel → List ℕ → FramesSoFar
frames_in channel bytes = after_frames (length bytes) channel 0 bytes

-- why no frame begins a rest, None where it is empty
abbrev pub why_no_frame : Channel → List ℕ → Option CaptureFault
why_no_frame channel [] = None
why_no_frame channel (byte ∷ bytes) = fault_in channel (byte ∷ bytes)
