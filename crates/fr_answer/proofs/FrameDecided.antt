-- The bytes of a file decide its line.
use Rattle.std.proofs.Common.{◌≡◌, ℕ, List, ◌++◌, Bool, ap, sym, subst, ◌∙◌}
use Rattle.fr_base.specs.declared.channel.Channel.{Channel}
use Rattle.fr_crc.specs.Crc.{IsFrameCrc, IsHeaderCrc}
use Rattle.fr_frame.specs.Frame.{IsFrame, IsFrameWith, header_bytes}
use Rattle.fr_frame.specs.declared.header.Header.{Header}
use Rattle.fr_text.proofs.Commands.{decided}
use Rattle.fr_text.proofs.Shelves.{any_one}
use Rattle.fr_text.specs.Files.{IsDecided}
use Rattle.fr_answer.specs.FrameAnswer.{IsFrameLine, frame_files}
use Rattle.fr_answer.specs.FrameText.{frame_line}

-- what two headers and payloads of the same bytes have in common
abbrev pub OneReading : Type 0
OneReading = (channel : Channel) (header other : Header) (payload rest bytes : List ℕ) → IsFrame channel header payload bytes → IsFrame channel other rest bytes → (header ≡ other) × (payload ≡ rest)

abbrev pub OneHeaderCrc : Type 0
OneHeaderCrc = (sync startup : Bool) (id words first second : ℕ) → IsHeaderCrc sync startup id words first → IsHeaderCrc sync startup id words second → first ≡ second

abbrev pub OneFrameCrc : Type 0
OneFrameCrc = (channel : Channel) (body : List ℕ) (first second : ℕ) → IsFrameCrc channel body first → IsFrameCrc channel body second → first ≡ second

same_crcs : OneHeaderCrc → OneFrameCrc → (channel : Channel) (bytes : List ℕ) (h : Header) (payload : List ℕ) (first second one two : ℕ) → IsFrameWith channel h payload first one bytes → IsFrameWith channel h payload second two bytes
    → frame_line channel h payload first one ≡ frame_line channel h payload second two
same_crcs one_header one_frame channel bytes h payload first second one two found more =
    let headers : first ≡ second = one_header h.sync h.startup h.id h.words first second found.header_right more.header_right in
    let right : IsFrameCrc channel (header_bytes h first ++ payload) two = subst (λ (crc : ℕ). IsFrameCrc channel (header_bytes h crc ++ payload) two) (sym headers) more.frame_right in
    let frames : one ≡ two = one_frame channel (header_bytes h first ++ payload) one two found.frame_right right in
    ap (λ (crc : ℕ). frame_line channel h payload crc one) headers ∙ ap (λ (crc : ℕ). frame_line channel h payload second crc) frames

same_line : OneReading → OneHeaderCrc → OneFrameCrc → (channel : Channel) (bytes : List ℕ) (h other : Header) (payload rest : List ℕ) (first second one two : ℕ) → IsFrameWith channel h payload first one bytes
    → IsFrameWith channel other rest second two bytes → frame_line channel h payload first one ≡ frame_line channel other rest second two
same_line reading one_header one_frame channel bytes h other payload rest first second one two found more =
    let same = reading channel h other payload rest bytes (first, (one, found)) (second, (two, more)) in
    let with_header : IsFrameWith channel h rest second two bytes = subst (λ (x : Header). IsFrameWith channel x rest second two bytes) (sym same.0) more in
    let with_both : IsFrameWith channel h payload second two bytes = subst (λ (x : List ℕ). IsFrameWith channel h x second two bytes) (sym same.1) with_header in
    same_crcs one_header one_frame channel bytes h payload first second one two found with_both
    ∙ ap (λ (x : List ℕ). frame_line channel h x second two) same.1
    ∙ ap (λ (x : Header). frame_line channel x rest second two) same.0

one_text : OneReading → OneHeaderCrc → OneFrameCrc → (channel : Channel) (bytes written again : List ℕ) → IsFrameLine channel bytes written → IsFrameLine channel bytes again → written ≡ again
one_text reading one_header one_frame channel bytes written again is more =
    is.shown
    ∙ same_line reading one_header one_frame channel bytes is.header more.header is.payload more.payload is.header_crc more.header_crc is.frame_crc more.frame_crc is.frame more.frame
    ∙ sym more.shown

pub one_line : OneReading → OneHeaderCrc → OneFrameCrc → (channel : Channel) → IsDecided (frame_files channel)
one_line reading one_header one_frame channel = decided (frame_files channel) (any_one, one_text reading one_header one_frame channel)
