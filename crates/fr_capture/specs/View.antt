-- What contracts see of a capture, and for which bytes it stands.
use Rattle.std.specs.Prelude.{◌≡◌, ℕ, ◌+◌, ◌≤◌, ◌⊎◌, List, [], ◌++◌, length, take, Option, Some, None, IfSome, IsSome, Result, Ok, Err}
use Rattle.fr_base.specs.declared.channel.Channel.{Channel}
use Rattle.fr_frame.specs.declared.fault.FrameFault.{FrameFault}
use Rattle.fr_frame.specs.Frame.{IsFrameWith}
use Rattle.fr_frame.specs.Fault.{IsFirstFault}
use Rattle.fr_frame.specs.Reading.{payload_in}
use Rattle.fr_capture.specs.declared.fault.CaptureFault.{CaptureFault}
use Rattle.fr_capture.specs.declared.reading.Checks.{Checks}
use Rattle.fr_capture.specs.Frames.{AreFrames, Found}
use Rattle.fr_capture.specs.Rest.{ShowsFault, capture_fault_of, fault_in, wanted}

-- the channel, the length of all frames so far, the bytes that are kept, and what they are where they are the last frame
pub record CaptureView : Type 0 where
  pub channel : Channel
  pub place : ℕ
  pub kept : List ℕ
  pub whole : Option Checks

-- the bytes behind the last frame, among those that are kept
abbrev pub rest_after : List ℕ → Option Checks → List ℕ
rest_after kept None = kept
rest_after kept (Some checks) = []

abbrev pub unread_bytes : CaptureView → List ℕ
unread_bytes c = rest_after c.kept c.whole

-- the bytes are the frame of this header, with these CRCs
abbrev pub IsChecked : Channel → Checks → List ℕ → Type 0
IsChecked channel checks kept = IsFrameWith channel checks.header (payload_in checks.header kept) checks.header_crc checks.frame_crc kept

-- the bytes are no frame
pub record HasFault (channel : Channel) (kept : List ℕ) : Type 0 where
  pub fault : FrameFault
  pub first : IsFirstFault channel kept fault

-- this is their fault
pub record IsFaultOfWhole (channel : Channel) (kept : List ℕ) (told : CaptureFault) : Type 0 where
  pub fault : FrameFault
  pub first : IsFirstFault channel kept fault
  pub same : told ≡ capture_fault_of fault

-- the bytes are no frame, and no more than were wanted
pub record IsOpen (channel : Channel) (kept : List ℕ) : Type 0 where
  pub short : length kept ≤ wanted kept
  pub none : HasFault channel kept

-- what always holds of a capture
abbrev pub IsCapture : Channel → List ℕ → Option Checks → Type 0
IsCapture channel kept None = IsOpen channel kept
IsCapture channel kept (Some checks) = IsChecked channel checks kept

-- a capture stands for bytes: its place is the length of all their frames, and it keeps what is behind them
pub record StandsFor (c : CaptureView) (bytes : List ℕ) : Type 0 where
  pub frames : List Found
  pub are : AreFrames c.channel bytes frames (unread_bytes c)
  pub placed : c.place + length (unread_bytes c) ≡ length bytes

-- the bytes behind the last frame and those that were taken are a frame, at this place
pub record IsCompleted (before after : CaptureView) (taken : List ℕ) (place : ℕ) : Type 0 where
  pub at : place ≡ before.place
  pub kept : after.kept ≡ unread_bytes before ++ taken
  pub there : IsSome after.whole
  pub frame : IfSome after.whole (λ checks. IsChecked after.channel checks after.kept)
  pub next : after.place ≡ place + length after.kept

-- they are none, so that none can be asked for, and the piece was used up or a fault is shown
pub record IsUnfinished (before after : CaptureView) (piece : List ℕ) (used : ℕ) : Type 0 where
  pub kept : unread_bytes after ≡ unread_bytes before ++ take used piece
  pub place : after.place ≡ before.place
  pub no_frame : after.whole ≡ None
  pub why : (used ≡ length piece) ⊎ ShowsFault after.channel (unread_bytes after)

-- the bytes are frames and nothing else, so many bytes
pub record AreWhole (channel : Channel) (bytes : List ℕ) (count : ℕ) : Type 0 where
  pub frames : List Found
  pub are : AreFrames channel bytes frames []
  pub counted : count ≡ length bytes

-- no frame begins behind the last one, at this place, for this reason
pub record IsStopped (channel : Channel) (bytes : List ℕ) (place : ℕ) (fault : CaptureFault) : Type 0 where
  pub frames : List Found
  pub rest : List ℕ
  pub are : AreFrames channel bytes frames rest
  pub some : 1 ≤ length rest
  pub placed : place + length rest ≡ length bytes
  pub first : fault_in channel rest ≡ Some fault

-- how bytes end
abbrev pub IsEndOf : Channel → List ℕ → Result ℕ (ℕ × CaptureFault) → Type 0
IsEndOf channel bytes (Ok count) = AreWhole channel bytes count
IsEndOf channel bytes (Err stop) = IsStopped channel bytes stop.0 stop.1
