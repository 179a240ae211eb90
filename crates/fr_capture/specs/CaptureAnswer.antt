-- What a request for the frames of a recording reads, and writes.
use Rattle.std.specs.Prelude.{◌≡◌, ℕ, List, [], ◌∷◌, codes}
use Rattle.fr_base.specs.declared.channel.Channel.{Channel}
use Rattle.fr_capture.specs.Frames.{AreFrames, Found}
use Rattle.fr_program.specs.Command.{Command}
use Rattle.fr_text.specs.Files.{Files, IsNeverSaid, file, text}
use Rattle.fr_text.specs.Loading.{any_file, unread_text}
use Rattle.fr_capture.specs.CaptureText.{shown_text}

-- the frames of a recording, and what is behind them, are shown by this text
pub record IsCaptureText (channel : Channel) (bytes : List ℕ) (text : List ℕ) : Type 0 where
  pub frames : List Found
  pub rest : List ℕ
  pub are : AreFrames channel bytes frames rest
  pub shown : text ≡ shown_text channel bytes frames rest

-- those of the recording in a file, of which all bytes are accepted
abbrev pub capture_files : Channel → Files
capture_files channel = file any_file (unread_text (codes "capture")) (λ (bytes : List ℕ). text (IsCaptureText channel bytes) IsNeverSaid)

abbrev pub capture_command : Channel → List ℕ → Command
capture_command channel name = record { names = name ∷ []; files = capture_files channel }
