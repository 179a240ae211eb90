-- The lines of a recording: a line for each frame, then how many there are, and why no further one begins.
use Rattle.std.specs.Prelude.{◌≡◌, ℕ, ◌-◌, ◌⊎◌, List, [], ◌∷◌, ◌++◌, length, codes, Option, Some, None, Result, Ok, Err}
use Rattle.std.specs.Fmt.{decimal}
use Rattle.fr_base.specs.Device.{Puts, Sunk}
use Rattle.fr_base.specs.declared.channel.Channel.{Channel}
use Rattle.fr_base.specs.declared.sink.PutFault.{PutFault}
use Rattle.fr_crc.specs.Computed.{frame_crc_of}
use Rattle.fr_frame.specs.declared.header.Header.{Header}
use Rattle.fr_frame.specs.Reading.{body_from}
use Rattle.fr_capture.specs.declared.fault.CaptureFault.{CaptureFault}
use Rattle.fr_capture.specs.declared.fault.CaptureFault.TheVariants as fault
use Rattle.fr_capture.specs.Frames.{Found}
use Rattle.fr_capture.specs.Rest.{ShowsFault}
use Rattle.fr_capture.specs.View.{CaptureView, StandsFor, unread_bytes}
use Rattle.fr_capture.specs.Walk.{frames_in, why_no_frame}
use Rattle.fr_program.specs.Gathered.{PutsOn}
use Rattle.fr_text.specs.Numerals.{hexadecimal}
use Rattle.fr_text.specs.Pieces.{line}

-- the line of a frame: its place, its ID, its payload length in words, its cycle count, its frame CRC
abbrev pub line_at : ℕ → Header → ℕ → List ℕ
line_at place h crc =
    line (codes "at " ++ decimal place ++ codes " id " ++ decimal h.id ++ codes " words " ++ decimal h.words ++ codes " cycle " ++ decimal h.cycle ++ codes " crc " ++ hexadecimal 6 crc)

abbrev pub found_line : Channel → Found → List ℕ
found_line channel found = line_at found.place found.header (frame_crc_of channel (body_from found.header found.payload))

-- the lines of some frames
abbrev pub frames_text : Channel → List Found → List ℕ
frames_text channel [] = []
frames_text channel (found ∷ frames) = found_line channel found ++ frames_text channel frames

-- how many frames there are, and how many bytes these have
abbrev pub frames_line : ℕ → ℕ → List ℕ
frames_line count bytes = line (codes "frames " ++ decimal count ++ codes " bytes " ++ decimal bytes)

-- the place behind the last frame, and why no further one begins there
abbrev pub fault_line : ℕ → CaptureFault → List ℕ
fault_line place (fault.Cut needed given) = line (codes "fault " ++ decimal place ++ codes " cut needed " ++ decimal needed ++ codes " given " ++ decimal given)
fault_line place (fault.HeaderCrc kept computed) =
    line (codes "fault " ++ decimal place ++ codes " header crc kept " ++ hexadecimal 3 kept ++ codes " computed " ++ hexadecimal 3 computed)
fault_line place (fault.FrameCrc kept computed) =
    line (codes "fault " ++ decimal place ++ codes " frame crc kept " ++ hexadecimal 6 kept ++ codes " computed " ++ hexadecimal 6 computed)
fault_line place fault.ZeroId = line (codes "fault " ++ decimal place ++ codes " zero id")
fault_line place fault.StartupNotSync = line (codes "fault " ++ decimal place ++ codes " startup without sync")

-- the last two lines, by the number of frames and how the recording ends
abbrev pub closing_text : ℕ → Result ℕ (ℕ × CaptureFault) → List ℕ
closing_text count (Ok bytes) = frames_line count bytes ++ line (codes "fault none")
closing_text count (Err stop) = frames_line count stop.0 ++ fault_line stop.0 stop.1

-- how it ends behind the last frame
abbrev pub closed_by : ℕ → Option CaptureFault → Result ℕ (ℕ × CaptureFault)
closed_by place None = Ok place
closed_by place (Some why) = Err (place, why)

-- the text of a recording with these frames and this rest
abbrev pub shown_text : Channel → List ℕ → List Found → List ℕ → List ℕ
shown_text channel bytes frames rest = frames_text channel frames ++ closing_text (length frames) (closed_by (length bytes - length rest) (why_no_frame channel rest))

abbrev pub capture_text : Channel → List ℕ → List ℕ
capture_text channel bytes = shown_text channel bytes (frames_in channel bytes).frames (frames_in channel bytes).rest

-- a capture of no bytes
abbrev pub fresh_capture : Channel → CaptureView
fresh_capture channel = record { channel = channel; place = 0; kept = []; whole = None }

-- a capture was fed bytes, up to their end or to a fault, and the lines of so many frames were put, or wait
pub record WasFed (channel : Channel) (capture : CaptureView) (bytes waits : List ℕ) (before after : Sunk) (count : ℕ) : Type 0 where
  pub same : capture.channel ≡ channel
  pub fed : List ℕ
  pub behind : List ℕ
  pub cut : bytes ≡ fed ++ behind
  pub stands : StandsFor capture fed
  pub over : (behind ≡ []) ⊎ ShowsFault capture.channel (unread_bytes capture)
  pub counted : count ≡ length stands.frames
  pub put : PutsOn [] waits before after (frames_text channel stands.frames)

-- it was, or a put failed
abbrev pub PutsFrames : CaptureView → Channel → List ℕ → List ℕ → Sunk → Sunk → Result ℕ PutFault → Type 0
PutsFrames capture channel bytes waits before after (Ok count) = WasFed channel capture bytes waits before after count
PutsFrames capture channel bytes waits before after (Err why) = Puts (Err why) before after (capture_text channel bytes)
