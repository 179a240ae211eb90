-- What a request for a frame reads, and writes or says.
use Rattle.std.specs.Prelude.{◌≡◌, ℕ, List, [], ◌∷◌, codes}
use Rattle.fr_base.specs.declared.channel.Channel.{Channel}
use Rattle.fr_frame.specs.declared.header.Header.{Header}
use Rattle.fr_frame.specs.declared.fault.FrameFault.{FrameFault}
use Rattle.fr_frame.specs.Frame.{IsFrameWith, IsNoFrame}
use Rattle.fr_frame.specs.Fault.{IsFirstFault}
use Rattle.fr_program.specs.Command.{Command}
use Rattle.fr_text.specs.Files.{Files, file, text}
use Rattle.fr_text.specs.Loading.{any_file, unread_text}
use Rattle.fr_answer.specs.FrameText.{fault_text, frame_line}

-- bytes are a frame on the channel, and this is its line
pub record IsFrameLine (channel : Channel) (bytes : List ℕ) (line : List ℕ) : Type 0 where
  pub header : Header
  pub payload : List ℕ
  pub header_crc : ℕ
  pub frame_crc : ℕ
  pub frame : IsFrameWith channel header payload header_crc frame_crc bytes
  pub shown : line ≡ frame_line channel header payload header_crc frame_crc

-- bytes are no frame on the channel, and this says their first fault
pub record IsNoFrameSaid (channel : Channel) (bytes : List ℕ) (said : List ℕ) : Type 0 where
  pub fault : FrameFault
  pub no_frame : IsNoFrame channel bytes
  pub first : IsFirstFault channel bytes fault
  pub shown : said ≡ fault_text (codes "frame: ") fault

-- the bytes of a file, as a frame
abbrev pub frame_files : Channel → Files
frame_files channel = file any_file (unread_text (codes "frame")) (λ (bytes : List ℕ). text (IsFrameLine channel bytes) (IsNoFrameSaid channel bytes))

abbrev pub frame_command : Channel → List ℕ → Command
frame_command channel name = record { names = name ∷ []; files = frame_files channel }
