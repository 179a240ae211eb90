-- Frames that a few inverted bits leave, by how many there are.
use Rattle.std.proofs.Common.{◌≡◌, ◌≢◌, ℕ, ◌*◌, ◌^◌, ◌<◌, ◌≤◌, Bool, List, length, ap, sym, ◌∙◌, arith}
use Rattle.std.specs.Prelude.{All}
use Rattle.fr_base.specs.declared.channel.Channel.{Channel}
use Rattle.fr_crc.specs.Bits.{xor, message_of}
use Rattle.fr_crc.specs.Crc.{frame_generator}
use Rattle.fr_crc.proofs.Sums.{length-xor}
use Rattle.fr_frame.specs.declared.header.Header.{Header}
use Rattle.fr_frame.specs.Frame.{IsFrame, IsNoFrame}
use Rattle.fr_frame.proofs.Exact.{lengths_fit}
use Rattle.fr_damage.specs.Damage.{FailsFrameCrc, FailsHeaderCrc, header_code, ones}
use Rattle.fr_damage.proofs.Patterns.{Unseen}
use Rattle.fr_damage.proofs.Spelling.{length-message}
use Rattle.fr_damage.proofs.Codes.{seen_in_frame, seen_in_header, seen_is_no_frame}
use Rattle.fr_damage.proofs.Inverted.{code_long}
use Rattle.fr_damage.proofs.Bursts.{length-code}
use Rattle.fr_damage.proofs.Weights.{five_are_seen, some_ones, three_are_seen}

few_in_frame : (bytes damaged : List ℕ) → length bytes ≤ 262 → length damaged ≡ length bytes → 1 ≤ ones (xor (message_of bytes) (message_of damaged)) → ones (xor (message_of bytes) (message_of damaged)) ≤ 3 →
    Unseen frame_generator (xor (message_of bytes) (message_of damaged)) → ⊥
few_in_frame bytes damaged short same some few =
    let codes : length (message_of bytes) ≡ length (message_of damaged) = length-message bytes ∙ ap (λ (n : ℕ). 8 * n) (sym same) ∙ sym (length-message damaged) in
    let long : length (xor (message_of bytes) (message_of damaged)) ≤ 2096 = omega (arith, short, same, length-xor (message_of bytes) (message_of damaged) codes, length-message damaged) in
    three_are_seen (xor (message_of bytes) (message_of damaged)) long some few

pub few_no_frame : (channel : Channel) (h : Header) (payload bytes damaged : List ℕ) → IsFrame channel h payload bytes → length damaged ≡ length bytes →
    1 ≤ ones (xor (message_of bytes) (message_of damaged)) → ones (xor (message_of bytes) (message_of damaged)) ≤ 3 → IsNoFrame channel damaged
few_no_frame channel h payload bytes damaged frame same some few =
    seen_is_no_frame channel h payload bytes damaged frame (sym same) (few_in_frame bytes damaged (lengths_fit channel h payload bytes frame).1 same some few)

pub few_outside : (channel : Channel) (h : Header) (payload bytes damaged : List ℕ) → IsFrame channel h payload bytes → All (λ b. b < 2 ^ 8) damaged → length damaged ≡ length bytes →
    header_code (message_of damaged) ≡ header_code (message_of bytes) →
    1 ≤ ones (xor (message_of bytes) (message_of damaged)) → ones (xor (message_of bytes) (message_of damaged)) ≤ 3 → FailsFrameCrc channel damaged
few_outside channel h payload bytes damaged frame small same code some few =
    seen_in_frame channel h payload bytes damaged frame (sym same) small code (few_in_frame bytes damaged (lengths_fit channel h payload bytes frame).1 same some few)

pub few_in_header_code : (channel : Channel) (h : Header) (payload bytes damaged : List ℕ) → IsFrame channel h payload bytes → All (λ b. b < 2 ^ 8) damaged → length damaged ≡ length bytes →
    header_code (message_of damaged) ≢ header_code (message_of bytes) →
    ones (xor (header_code (message_of bytes)) (header_code (message_of damaged))) ≤ 5 → FailsHeaderCrc channel damaged
few_in_header_code channel h payload bytes damaged frame small same differ few =
    let m : List Bool = message_of bytes in
    let n : List Bool = message_of damaged in
    let messages : length m ≡ length n = length-message bytes ∙ ap (λ (k : ℕ). 8 * k) (sym same) ∙ sym (length-message damaged) in
    let codes : length (header_code m) ≡ length (header_code n) = length-code m n messages in
    let long : length (xor (header_code m) (header_code n)) ≤ 31 = omega (arith, codes, code_long channel h payload bytes frame, length-xor (header_code m) (header_code n) codes) in
    seen_in_header channel h payload bytes damaged frame (sym same) small
    (five_are_seen (xor (header_code m) (header_code n)) long (some_ones (header_code m) (header_code n) codes (λ e. differ (sym e))) few)
