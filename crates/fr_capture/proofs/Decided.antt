-- The bytes of a file decide its text.
use Rattle.std.proofs.Common.{◌≡◌, ℕ, List, sym, ◌∙◌}
use Rattle.fr_base.specs.declared.channel.Channel.{Channel}
use Rattle.fr_capture.specs.Frames.{AreFrames, Found}
use Rattle.fr_text.proofs.Commands.{decided}
use Rattle.fr_text.proofs.Shelves.{any_one}
use Rattle.fr_text.specs.Files.{IsDecided}
use Rattle.fr_capture.specs.CaptureAnswer.{IsCaptureText, capture_files}
use Rattle.fr_capture.specs.CaptureText.{shown_text}

abbrev pub OneList : Type 0
OneList = (channel : Channel) (bytes : List ℕ) (frames others : List Found) (rest other : List ℕ) → AreFrames channel bytes frames rest → AreFrames channel bytes others other → (frames ≡ others) × (rest ≡ other)

one_capture : OneList → (channel : Channel) (bytes written again : List ℕ) → IsCaptureText channel bytes written → IsCaptureText channel bytes again → written ≡ again
one_capture one channel bytes written again is more =
    let same = one channel bytes is.frames more.frames is.rest more.rest is.are more.are in
    is.shown ∙ (λ i. shown_text channel bytes (same.0 i) (same.1 i)) ∙ sym more.shown

pub one_text : OneList → (channel : Channel) → IsDecided (capture_files channel)
one_text one channel = decided (capture_files channel) (any_one, one_capture one channel)
