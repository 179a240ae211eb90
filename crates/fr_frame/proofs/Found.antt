-- What bytes are is what they are read as.
use Rattle.std.proofs.Common.{◌≡◌, ℕ, ◌+◌, ◌*◌, ◌^◌, ◌<◌, ◌≤◌, zero, suc, false, not, cond, ◌&&◌, ◌==◌, nat_lt, Ok, Err, List, ◌++◌, length, get_or, ap, sym, ◌∙◌, inl, inr, arith}
use Rattle.std.proofs.lemmas.Bool.{cond-true, cond-false, cases_Bool, le-ltb, lt-ltb, eq-eqb, ne_eqb, and_left, and_right, and_from, not_from_true, not_from_false}
use Rattle.std.specs.Prelude.{All}
use Rattle.std.proofs.lemmas.List.{get_or-take}
use Rattle.std.proofs.lemmas.List.Elements.{All-from_get_or, All-same, All-append}
use Rattle.fr_base.specs.declared.channel.Channel.{Channel}
use Rattle.fr_crc.specs.Computed.{frame_crc_of}
use Rattle.fr_crc.proofs.Existence.{a_header_crc, a_frame_crc}
use Rattle.fr_crc.proofs.Unique.{header_crc_is_one, frame_crc_is_one}
use Rattle.fr_frame.specs.declared.header.Header.{Header}
use Rattle.fr_frame.specs.declared.fault.FrameFault.{FrameFault}
use Rattle.fr_frame.specs.declared.fault.FrameFault.TheVariants.{Short, HeaderCrc, Length, FrameCrc, ZeroId, StartupNotSync}
use Rattle.fr_frame.specs.Frame.{bit, header_bytes, trailer_bytes, IsFrame}
use Rattle.fr_frame.specs.Fault.{HasHeader, HasRightHeader, HasRightLength, HasRightChecks, IsShort, IsFirstFault, body_of, trailer_of}
use Rattle.fr_frame.specs.Reading.{crc_of, header_of, header_crc_in, frame_crc_in, read_checked, read_long, read_right, read_enough, read_as}
use Rattle.fr_frame.proofs.Bytes.{bit-lt, trailer_is_told}
use Rattle.fr_frame.proofs.Parts.{header_is_one, frame_checks}
use Rattle.fr_frame.proofs.Reading.{header_held, trailer_held}

-- the bytes of a header and its CRC are bytes
header_small : (h : Header) (a : ℕ) → h.id ≤ 2047 → h.words ≤ 127 → h.cycle ≤ 63 → a < 2 ^ 11 → (k : ℕ) → k < 5 → get_or (header_bytes h a) k 0 < 256
header_small h a id words cycle fits zero below =
    let r : bit h.reserved < 2 = bit-lt h.reserved in
    let p : bit h.preamble < 2 = bit-lt h.preamble in
    let n : bit h.null_bit < 2 = bit-lt h.null_bit in
    let s : bit h.sync < 2 = bit-lt h.sync in
    let t : bit h.startup < 2 = bit-lt h.startup in
    omega arith
header_small h a id words cycle fits (suc zero) below = omega arith
header_small h a id words cycle fits (suc (suc zero)) below = omega arith
header_small h a id words cycle fits (suc (suc (suc zero))) below = omega arith
header_small h a id words cycle fits (suc (suc (suc (suc zero)))) below = omega arith
header_small h a id words cycle fits (suc (suc (suc (suc (suc k))))) below = absurd (omega arith)

trailer_small : (b : ℕ) → b < 2 ^ 24 → (k : ℕ) → k < 3 → get_or (trailer_bytes b) k 0 < 256
trailer_small b fits zero below = omega arith
trailer_small b fits (suc zero) below = omega arith
trailer_small b fits (suc (suc zero)) below = omega arith
trailer_small b fits (suc (suc (suc k))) below = absurd (omega arith)

-- the header that is there is the one that is read
pub header_found : (bytes : List ℕ) (h : Header) (kept : ℕ) → 5 ≤ length bytes → HasHeader bytes h kept → (header_of bytes ≡ h) × (header_crc_in bytes ≡ kept)
header_found bytes h kept enough holds =
    let small : (k : ℕ) → k < 5 → get_or bytes k 0 < 256 = λ (k : ℕ) (below : k < 5).
    let e : get_or bytes k 0 ≡ get_or (header_bytes h kept) k 0 = sym (get_or-take 5 bytes k 0 below) ∙ ap (λ (xs : List ℕ). get_or xs k 0) holds.spelled in
    rw e (header_small h kept holds.id_fits holds.words_fit holds.cycle_fits holds.kept_fits k below) in
    header_is_one bytes (header_of bytes) h (header_crc_in bytes) kept (header_held bytes small enough) holds

-- so is the frame CRC
trailer_found : (back : List ℕ) (kept : ℕ) → kept < 2 ^ 24 → back ≡ trailer_bytes kept → frame_crc_in back ≡ kept
trailer_found back kept fits spelled =
    let small : (k : ℕ) → k < 3 → get_or back k 0 < 256 = λ (k : ℕ) (below : k < 3).
    rw (ap (λ (xs : List ℕ). get_or xs k 0) spelled) (trailer_small kept fits k below) in
    trailer_is_told (frame_crc_in back) kept (sym (trailer_held back (ap length spelled) small).1 ∙ spelled)

-- ---- the reading goes past each check that is passed
enough_read : (channel : Channel) (bytes : List ℕ) (h : Header) (kept : ℕ) → 8 ≤ length bytes → HasHeader bytes h kept → read_as channel bytes ≡ read_enough channel bytes h
unfolding read_as
enough_read channel bytes h kept enough holds =
    cond-false (nat_lt (length bytes) 8) (Err (Short (length bytes))) (read_enough channel bytes (header_of bytes)) (le-ltb (length bytes) 8 enough)
    ∙ ap (read_enough channel bytes) (header_found bytes h kept (omega arith) holds).0

right_read : (channel : Channel) (bytes : List ℕ) (h : Header) (a : ℕ) → HasRightHeader bytes h a → read_as channel bytes ≡ read_right channel bytes h
right_read channel bytes h a right =
    let kept : header_crc_in bytes ≡ a = (header_found bytes h a (omega (arith, right.enough)) right.holds).1 in
    let computed : crc_of h ≡ a = header_crc_is_one h.sync h.startup h.id h.words (crc_of h) a (a_header_crc h.sync h.startup h.id h.words) right.right in
    enough_read channel bytes h a right.enough right.holds
    ∙ cond-true (header_crc_in bytes == crc_of h) (read_right channel bytes h) (Err (HeaderCrc (header_crc_in bytes) (crc_of h))) (eq-eqb (header_crc_in bytes) (crc_of h) (kept ∙ sym computed))

long_read : (channel : Channel) (bytes : List ℕ) (h : Header) (a : ℕ) → HasRightLength bytes h a → read_as channel bytes ≡ read_long channel bytes h
long_read channel bytes h a right =
    right_read channel bytes h a right.header_right
    ∙ cond-true (length bytes == 8 + 2 * h.words) (read_long channel bytes h) (Err (Length (8 + 2 * h.words) (length bytes))) (eq-eqb (length bytes) (8 + 2 * h.words) right.long)

checked_read : (channel : Channel) (bytes : List ℕ) (h : Header) (a b : ℕ) → HasRightChecks channel bytes h a b → read_as channel bytes ≡ read_checked h
checked_read channel bytes h a b right =
    let kept : frame_crc_in (trailer_of h bytes) ≡ b = trailer_found (trailer_of h bytes) b right.right.fits right.spelled in
    let whole : frame_crc_of channel (body_of h bytes) ≡ b = frame_crc_is_one channel (body_of h bytes) (frame_crc_of channel (body_of h bytes)) b (a_frame_crc channel (body_of h bytes)) right.right in
    long_read channel bytes h a right.length_right
    ∙ cond-true (frame_crc_in (trailer_of h bytes) == frame_crc_of channel (body_of h bytes)) (read_checked h) (Err (FrameCrc (frame_crc_in (trailer_of h bytes)) (frame_crc_of channel (body_of h bytes))))
    (eq-eqb (frame_crc_in (trailer_of h bytes)) (frame_crc_of channel (body_of h bytes)) (kept ∙ sym whole))

named_read : (h : Header) → 1 ≤ h.id → read_checked h ≡ cond (h.startup && not h.sync) (Err StartupNotSync) (Ok h)
named_read h some = cond-false (h.id == 0) (Err ZeroId) (cond (h.startup && not h.sync) (Err StartupNotSync) (Ok h)) (ne_eqb h.id 0 (λ (e : h.id ≡ 0). omega arith))

-- a frame is read as its header
pub frame_read : (channel : Channel) (h : Header) (payload bytes : List ℕ) → IsFrame channel h payload bytes → read_as channel bytes ≡ Ok h
frame_read channel h payload bytes (a, (b, is)) =
    checked_read channel bytes h a b (frame_checks channel h payload a b bytes is)
    ∙ named_read h is.id_some
    ∙ cond-false (h.startup && not h.sync) (Err StartupNotSync) (Ok h) together
  where
    together : (h.startup && not h.sync) ≡ false
    together = elim (cases_Bool h.startup) [
      | inl startup ↦ and_right h.startup (not h.sync) (not_from_true h.sync (is.startup_in_sync startup))
      | inr none ↦ and_left h.startup (not h.sync) none
    ]

short_read : (channel : Channel) (bytes : List ℕ) (given : ℕ) → IsShort bytes given → read_as channel bytes ≡ Err (Short given)
unfolding read_as
short_read channel bytes given is =
    let few : length bytes < 8 = omega (arith, is.counted, is.few) in
    cond-true (nat_lt (length bytes) 8) (Err (Short (length bytes))) (read_enough channel bytes (header_of bytes)) (lt-ltb (length bytes) 8 few)
    ∙ ap (λ (n : ℕ). Err (Short n)) (sym is.counted)

-- bytes with a first fault are read as it
pub fault_read : (channel : Channel) (bytes : List ℕ) (fault : FrameFault) → IsFirstFault channel bytes fault → read_as channel bytes ≡ Err fault
fault_read channel bytes (Short given) is = short_read channel bytes given is
fault_read channel bytes (HeaderCrc kept computed) is =
    let h : Header = is.header in
    let held : header_crc_in bytes ≡ kept = (header_found bytes h kept (omega (arith, is.enough)) is.holds).1 in
    let whole : crc_of h ≡ computed = header_crc_is_one h.sync h.startup h.id h.words (crc_of h) computed (a_header_crc h.sync h.startup h.id h.words) is.right in
    enough_read channel bytes h kept is.enough is.holds
    ∙ cond-false (header_crc_in bytes == crc_of h) (read_right channel bytes h) (Err (HeaderCrc (header_crc_in bytes) (crc_of h))) (ne_eqb (header_crc_in bytes) (crc_of h) (λ (e : header_crc_in bytes ≡ crc_of h). is.differs (sym held ∙ e ∙ whole)))
    ∙ ap (λ (n : ℕ). Err (HeaderCrc n (crc_of h))) held
    ∙ ap (λ (n : ℕ). Err (HeaderCrc kept n)) whole
fault_read channel bytes (Length stated given) is =
    let h : Header = is.header in
    right_read channel bytes h is.crc is.header_right
    ∙ cond-false (length bytes == 8 + 2 * h.words) (read_long channel bytes h) (Err (Length (8 + 2 * h.words) (length bytes))) (ne_eqb (length bytes) (8 + 2 * h.words) (λ (e : length bytes ≡ 8 + 2 * h.words). is.differs (is.counted ∙ e ∙ sym is.states)))
    ∙ ap (λ (n : ℕ). Err (Length n (length bytes))) (sym is.states)
    ∙ ap (λ (n : ℕ). Err (Length stated n)) (sym is.counted)
fault_read channel bytes (FrameCrc kept computed) is =
    let h : Header = is.header in
    let held : frame_crc_in (trailer_of h bytes) ≡ kept = trailer_found (trailer_of h bytes) kept is.kept_fits is.spelled in
    let whole : frame_crc_of channel (body_of h bytes) ≡ computed = frame_crc_is_one channel (body_of h bytes) (frame_crc_of channel (body_of h bytes)) computed (a_frame_crc channel (body_of h bytes)) is.right in
    long_read channel bytes h is.crc is.length_right
    ∙ cond-false (frame_crc_in (trailer_of h bytes) == frame_crc_of channel (body_of h bytes)) (read_checked h) (Err (FrameCrc (frame_crc_in (trailer_of h bytes)) (frame_crc_of channel (body_of h bytes))))
    (ne_eqb (frame_crc_in (trailer_of h bytes)) (frame_crc_of channel (body_of h bytes)) (λ (e : frame_crc_in (trailer_of h bytes) ≡ frame_crc_of channel (body_of h bytes)). is.differs (sym held ∙ e ∙ whole)))
    ∙ ap (λ (n : ℕ). Err (FrameCrc n (frame_crc_of channel (body_of h bytes)))) held
    ∙ ap (λ (n : ℕ). Err (FrameCrc kept n)) whole
fault_read channel bytes ZeroId is =
    let h : Header = is.header in
    checked_read channel bytes h is.header_crc is.frame_crc is.checks_right
    ∙ cond-true (h.id == 0) (Err ZeroId) (cond (h.startup && not h.sync) (Err StartupNotSync) (Ok h)) (eq-eqb h.id 0 is.zero_id)
fault_read channel bytes StartupNotSync is =
    let h : Header = is.header in
    checked_read channel bytes h is.header_crc is.frame_crc is.checks_right
    ∙ named_read h is.id_some
    ∙ cond-true (h.startup && not h.sync) (Err StartupNotSync) (Ok h) (and_from h.startup (not h.sync) is.startup (not_from_false h.sync is.no_sync))

-- the bytes of a frame are bytes, where those of its payload are
pub frame_small : (channel : Channel) (h : Header) (payload bytes : List ℕ) → IsFrame channel h payload bytes → All (λ b. b < 2 ^ 8) payload → All (λ b. b < 2 ^ 8) bytes
frame_small channel h payload bytes (a, (b, is)) small =
    let P : ℕ → Type 0 = λ (n : ℕ). n < 2 ^ 8 in
    let front : All P (header_bytes h a) = All-from_get_or P (header_bytes h a) 0 (header_small h a is.id_fits is.words_fit is.cycle_fits is.header_right.fits) in
    let back : All P (trailer_bytes b) = All-from_get_or P (trailer_bytes b) 0 (trailer_small b is.frame_right.fits) in
    All-same P bytes (header_bytes h a ++ payload ++ trailer_bytes b) is.spelled
    (All-append P (header_bytes h a ++ payload) (trailer_bytes b) (All-append P (header_bytes h a) payload front small) back)
