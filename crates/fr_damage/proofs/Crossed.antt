-- A frame on the channel that it was not sent on.
use Rattle.std.proofs.Common.{◌≡◌, ◌≢◌, ℕ, ◌^◌, ◌<◌, Bool, List, length, refl, ap, sym, ◌∙◌, subst, lit<, arith}
use Rattle.fr_base.specs.declared.channel.Channel.{Channel}
use Rattle.fr_base.specs.declared.channel.Channel.TheVariants.{A, B}
use Rattle.fr_crc.specs.Bits.{bits, xor, zeros, message_of}
use Rattle.fr_crc.specs.Crc.{IsFrameCrc, frame_generator, frame_start}
use Rattle.fr_crc.specs.Register.{after}
use Rattle.fr_crc.specs.Computed.{frame_crc_of}
use Rattle.fr_crc.proofs.Existence.{a_frame_crc}
use Rattle.fr_crc.proofs.Remainders.{length-bits, number_from_bits}
use Rattle.fr_crc.proofs.Sums.{length-xor, length-zeros}
use Rattle.fr_frame.specs.declared.header.Header.{Header}
use Rattle.fr_frame.specs.declared.fault.FrameFault.TheVariants.{FrameCrc}
use Rattle.fr_frame.specs.Frame.{IsFrame, IsFrameWith, IsNoFrame}
use Rattle.fr_frame.specs.Fault.{HasRightChecks, IsFirstFault, body_of}
use Rattle.fr_frame.proofs.Parts.{frame_checks}
use Rattle.fr_damage.proofs.Registers.{xor_self, xor_none, after-sum, after_back}
use Rattle.fr_damage.proofs.Periods.{frame_ends}
use Rattle.fr_damage.proofs.Codes.{frame_code_after}

starts_differ : (channel other : Channel) → channel ≢ other → frame_start channel ≡ frame_start other → ⊥
starts_differ A A differ same = differ refl
starts_differ A B differ same = omega (arith, same)
starts_differ B A differ same = omega (arith, same)
starts_differ B B differ same = differ refl

start-lt : (channel : Channel) → frame_start channel < 2 ^ 24
start-lt A = lit< tt
start-lt B = lit< tt

-- bytes do not pass the checks on both channels
crossed_checks : (channel other : Channel) (bytes : List ℕ) (h g : Header) (a b c d : ℕ) → channel ≢ other → HasRightChecks channel bytes h a b → HasRightChecks other bytes g c d → ⊥
crossed_checks channel other bytes h g a b c d differ one two =
    let gen : List Bool = frame_generator in
    let none : List Bool = zeros (length gen) in
    let m : List Bool = message_of bytes in
    let s : List Bool = bits 24 (frame_start channel) in
    let t : List Bool = bits 24 (frame_start other) in
    let s_long : length s ≡ length gen = length-bits 24 (frame_start channel) ∙ sym (length-bits 24 0x5D6DCB) in
    let t_long : length t ≡ length gen = length-bits 24 (frame_start other) ∙ sym (length-bits 24 0x5D6DCB) in
    let starts : length s ≡ length t = s_long ∙ sym t_long in
    let ended : after gen (xor s t) (zeros (length m)) ≡ none =
    sym (ap (after gen (xor s t)) (xor_self m))
    ∙ after-sum gen s t m m s_long t_long refl
    ∙ ap (λ (xs : List Bool). xor xs (after gen t m)) (frame_code_after channel bytes h a b one)
    ∙ ap (xor none) (frame_code_after other bytes g c d two)
    ∙ xor_self none
    ∙ ap zeros (length-zeros (length gen)) in
    let back : xor s t ≡ none = after_back gen (xor s t) (length m) frame_ends (length-xor s t starts ∙ t_long) ended in
    let same : s ≡ t = xor_none s t starts (back ∙ ap zeros (sym t_long)) in
    starts_differ channel other differ (number_from_bits 24 (frame_start channel) (frame_start other) (start-lt channel) (start-lt other) same)

pub crossed_no_frame : (channel other : Channel) (h : Header) (payload bytes : List ℕ) → channel ≢ other → IsFrame channel h payload bytes → IsNoFrame other bytes
crossed_no_frame channel other h payload bytes differ (a, (b, is)) = λ g rest two.
    crossed_checks channel other bytes h g a b two.0 two.1.0 differ (frame_checks channel h payload a b bytes is) (frame_checks other g rest two.0 two.1.0 bytes two.1.1)

pub crossed_fault : (channel other : Channel) (h : Header) (payload bytes : List ℕ) (a b : ℕ) → channel ≢ other → IsFrameWith channel h payload a b bytes → (computed : ℕ) × IsFirstFault other bytes (FrameCrc b computed)
crossed_fault channel other h payload bytes a b differ is =
    let whole : HasRightChecks channel bytes h a b = frame_checks channel h payload a b bytes is in
    let computed : ℕ = frame_crc_of other (body_of h bytes) in
    let crc : IsFrameCrc other (body_of h bytes) computed = a_frame_crc other (body_of h bytes) in
    let P : ℕ → Type 0 = λ (x : ℕ). IsFrameCrc other (body_of h bytes) x in
    let first : IsFirstFault other bytes (FrameCrc b computed) = record {
      header = h;
      crc = a;
      length_right = whole.length_right;
      kept_fits = whole.right.fits;
      spelled = whole.spelled;
      right = crc;
      differs = λ (e : b ≡ computed). crossed_checks channel other bytes h h a b a b differ whole (record { length_right = whole.length_right; right = subst P (sym e) crc; spelled = whole.spelled });
    } in
    (computed, first)
