-- What bytes are read as is what they are: the frame with that header, or bytes with that first fault.
use Rattle.std.proofs.Common.{◌≡◌, ℕ, ◌+◌, ◌*◌, ◌/◌, ◌%◌, ◌^◌, ◌<◌, ◌≤◌, zero, suc, true, false, not, cond, ◌&&◌, ◌==◌, nat_lt, Result, Ok, Err, List, [], ◌∷◌, length, take, get_or, refl, sym, ◌∙◌, subst, IsTrue, inl, inr, lit<, arith, length-drop}
use Rattle.std.specs.Prelude.{All}
use Rattle.std.specs.Int.{bit_at}
use Rattle.std.proofs.lemmas.Nat.Bits.{bit_at-lt}
use Rattle.std.proofs.lemmas.Bool.{both_ways, cases_lt, cond_both, ltb-true, ltb-false, eqb-true, eqb-false, and_parts, and_cases, not-true, not-false}
use Rattle.std.proofs.lemmas.List.{get_or-take, get_or-drop, get_or_past, length-take-le}
use Rattle.fr_base.specs.declared.channel.Channel.{Channel}
use Rattle.fr_crc.specs.Crc.{IsHeaderCrc, IsFrameCrc}
use Rattle.fr_crc.specs.Computed.{frame_crc_of}
use Rattle.fr_crc.proofs.Existence.{a_header_crc, a_frame_crc}
use Rattle.fr_frame.specs.declared.header.Header.{Header}
use Rattle.fr_frame.specs.declared.fault.FrameFault.{FrameFault}
use Rattle.fr_frame.specs.declared.fault.FrameFault.TheVariants.{Short, HeaderCrc, Length, FrameCrc, ZeroId, StartupNotSync}
use Rattle.fr_frame.specs.Frame.{bit, header_bytes, trailer_bytes, IsFrame}
use Rattle.fr_frame.specs.Fault.{HasHeader, HasRightHeader, HasRightLength, HasRightChecks, IsFirstFault, body_of, trailer_of}
use Rattle.fr_frame.specs.Reading.{crc_of, header_of, header_crc_in, frame_crc_in, payload_in, read_checked, read_long, read_right, read_enough, read_as}
use Rattle.fr_frame.proofs.Bytes.{five, three}
use Rattle.fr_frame.proofs.Parts.{checks_frame}

-- what stands past the end is read as 0, so each place of bytes holds a byte
byte_at : (bytes : List ℕ) → All (λ b. b < 2 ^ 8) bytes → (k : ℕ) → get_or bytes k 0 < 256
byte_at bytes small k = elim (cases_lt k (length bytes)) [ inl within ↦ small k 0 within | inr past ↦ rw (get_or_past bytes k 0 past) (lit< tt) ]

-- ---- the header in five bytes
bit_back : (m : ℕ) → m < 2 → bit (m == 1) ≡ m
bit_back zero small = refl
bit_back (suc zero) small = refl
bit_back (suc (suc m)) small = absurd (omega arith)

flag_at : (n k : ℕ) → bit (bit_at n k == 1) ≡ n / 2 ^ k % 2
flag_at n k = bit_back (bit_at n k) (bit_at-lt n k)

first_five : (bytes : List ℕ) → 5 ≤ length bytes →
    take 5 bytes ≡ get_or bytes 0 0 ∷ get_or bytes 1 0 ∷ get_or bytes 2 0 ∷ get_or bytes 3 0 ∷ get_or bytes 4 0 ∷ []
first_five bytes enough =
    let front : List ℕ = take 5 bytes in
    let e0 : get_or front 0 0 ≡ get_or bytes 0 0 = get_or-take 5 bytes 0 0 (lit< tt) in
    let e1 : get_or front 1 0 ≡ get_or bytes 1 0 = get_or-take 5 bytes 1 0 (lit< tt) in
    let e2 : get_or front 2 0 ≡ get_or bytes 2 0 = get_or-take 5 bytes 2 0 (lit< tt) in
    let e3 : get_or front 3 0 ≡ get_or bytes 3 0 = get_or-take 5 bytes 3 0 (lit< tt) in
    let e4 : get_or front 4 0 ≡ get_or bytes 4 0 = get_or-take 5 bytes 4 0 (lit< tt) in
    let whole : front ≡ get_or front 0 0 ∷ get_or front 1 0 ∷ get_or front 2 0 ∷ get_or front 3 0 ∷ get_or front 4 0 ∷ [] = five front (length-take-le 5 bytes enough) in
    cc

pub header_held : (bytes : List ℕ) → ((k : ℕ) → k < 5 → get_or bytes k 0 < 256) → 5 ≤ length bytes → HasHeader bytes (header_of bytes) (header_crc_in bytes)
header_held bytes small enough =
    let b0 : ℕ = get_or bytes 0 0 in
    let b1 : ℕ = get_or bytes 1 0 in
    let b2 : ℕ = get_or bytes 2 0 in
    let b3 : ℕ = get_or bytes 3 0 in
    let b4 : ℕ = get_or bytes 4 0 in
    let h : Header = header_of bytes in
    let kept : ℕ = header_crc_in bytes in
    let s0 : b0 < 256 = small 0 (lit< tt) in
    let s1 : b1 < 256 = small 1 (lit< tt) in
    let s2 : b2 < 256 = small 2 (lit< tt) in
    let s3 : b3 < 256 = small 3 (lit< tt) in
    let s4 : b4 < 256 = small 4 (lit< tt) in
    let f7 : bit h.reserved ≡ b0 / 128 % 2 = flag_at b0 7 in
    let f6 : bit h.preamble ≡ b0 / 64 % 2 = flag_at b0 6 in
    let f5 : bit h.null_bit ≡ b0 / 32 % 2 = flag_at b0 5 in
    let f4 : bit h.sync ≡ b0 / 16 % 2 = flag_at b0 4 in
    let f3 : bit h.startup ≡ b0 / 8 % 2 = flag_at b0 3 in
    let e0 : b0 ≡ 128 * bit h.reserved + 64 * bit h.preamble + 32 * bit h.null_bit + 16 * bit h.sync + 8 * bit h.startup + h.id / 256 = rw (f7, f6, f5, f4, f3) (omega arith) in
    let e1 : b1 ≡ h.id % 256 = omega arith in
    let e2 : b2 ≡ 2 * h.words + kept / 1024 = omega arith in
    let e3 : b3 ≡ kept / 4 % 256 = omega arith in
    let e4 : b4 ≡ 64 * (kept % 4) + h.cycle = omega arith in
    let first : take 5 bytes ≡ b0 ∷ b1 ∷ b2 ∷ b3 ∷ b4 ∷ [] = first_five bytes enough in
    let list : b0 ∷ b1 ∷ b2 ∷ b3 ∷ b4 ∷ [] ≡ header_bytes h kept = cc in
    record {
      id_fits = omega arith;
      words_fit = omega arith;
      cycle_fits = omega arith;
      kept_fits = omega arith;
      spelled = first ∙ list;
    }

-- ---- the frame CRC in three bytes
pub trailer_held : (back : List ℕ) → length back ≡ 3 → ((k : ℕ) → k < 3 → get_or back k 0 < 256) → (frame_crc_in back < 2 ^ 24) × (back ≡ trailer_bytes (frame_crc_in back))
trailer_held back long small =
    let b0 : ℕ = get_or back 0 0 in
    let b1 : ℕ = get_or back 1 0 in
    let b2 : ℕ = get_or back 2 0 in
    let crc : ℕ = frame_crc_in back in
    let s0 : b0 < 256 = small 0 (lit< tt) in
    let s1 : b1 < 256 = small 1 (lit< tt) in
    let s2 : b2 < 256 = small 2 (lit< tt) in
    let e0 : b0 ≡ crc / 65536 = omega arith in
    let e1 : b1 ≡ crc / 256 % 256 = omega arith in
    let e2 : b2 ≡ crc % 256 = omega arith in
    let list : b0 ∷ b1 ∷ b2 ∷ [] ≡ trailer_bytes crc = cc in
    (omega arith, three back long ∙ list)

-- ---- what the bytes are, where they are read as this
abbrev pub Reads : Channel → List ℕ → Result Header FrameFault → Type 0
Reads channel bytes (Ok header) = IsFrame channel header (payload_in header bytes) bytes
Reads channel bytes (Err fault) = IsFirstFault channel bytes fault

reads_checked : (channel : Channel) (bytes : List ℕ) (h : Header) (a b : ℕ) → HasRightChecks channel bytes h a b → Reads channel bytes (read_checked h)
reads_checked channel bytes h a b checks =
    cond_both (h.id == 0) (Err ZeroId) named (Reads channel bytes)
    (λ zero_id. record { header = h; header_crc = a; frame_crc = b; checks_right = checks; zero_id = eqb-true h.id 0 zero_id })
    (λ id. let some : 1 ≤ h.id = omega (arith, eqb-false h.id 0 id) in
    cond_both (h.startup && not h.sync) (Err StartupNotSync) (Ok h) (Reads channel bytes)
    (λ alone. let parts : (h.startup ≡ true) × (not h.sync ≡ true) = and_parts h.startup (not h.sync) alone in
    record { header = h; header_crc = a; frame_crc = b; checks_right = checks; id_some = some; startup = parts.0; no_sync = not-true h.sync parts.1 })
    (λ together. (a, (b, checks_frame channel bytes (payload_in h bytes) h a b checks some (in_sync together) refl))))
  where
    named : Result Header FrameFault
    named = cond (h.startup && not h.sync) (Err StartupNotSync) (Ok h)

    in_sync : (h.startup && not h.sync) ≡ false → IsTrue h.startup → IsTrue h.sync
    in_sync together startup = elim (and_cases h.startup (not h.sync) together) [
      | inl no_startup ↦ absurd (both_ways h.startup no_startup startup)
      | inr sync ↦ not-false h.sync sync
    ]

reads_long : (channel : Channel) (bytes : List ℕ) (h : Header) (a : ℕ) → ((k : ℕ) → get_or bytes k 0 < 256) → HasRightLength bytes h a → Reads channel bytes (read_long channel bytes h)
reads_long channel bytes h a small right =
    let back : List ℕ = trailer_of h bytes in
    let within : (k : ℕ) → get_or back k 0 < 256 = λ (k : ℕ). rw (get_or-drop (5 + 2 * h.words) bytes k 0) (small (5 + 2 * h.words + k)) in
    let long : length back ≡ 3 = rw length-drop (omega (arith, right.long)) in
    let kept : ℕ = frame_crc_in back in
    let whole : ℕ = frame_crc_of channel (body_of h bytes) in
    let spelled : (kept < 2 ^ 24) × (back ≡ trailer_bytes kept) = trailer_held back long (λ k below. within k) in
    let is : IsFrameCrc channel (body_of h bytes) whole = a_frame_crc channel (body_of h bytes) in
    let P : ℕ → Type 0 = λ (x : ℕ). IsFrameCrc channel (body_of h bytes) x in
    cond_both (kept == whole) (read_checked h) (Err (FrameCrc kept whole)) (Reads channel bytes)
    (λ same. reads_checked channel bytes h a kept (record { length_right = right; right = subst P (sym (eqb-true kept whole same)) is; spelled = spelled.1 }))
    (λ differs. record { header = h; crc = a; length_right = right; kept_fits = spelled.0; spelled = spelled.1; right = is; differs = eqb-false kept whole differs })

reads_right : (channel : Channel) (bytes : List ℕ) (h : Header) (a : ℕ) → ((k : ℕ) → get_or bytes k 0 < 256) → HasRightHeader bytes h a → Reads channel bytes (read_right channel bytes h)
reads_right channel bytes h a small right =
    cond_both (length bytes == 8 + 2 * h.words) (read_long channel bytes h) (Err (Length (8 + 2 * h.words) (length bytes))) (Reads channel bytes)
    (λ same. reads_long channel bytes h a small (record { header_right = right; long = eqb-true (length bytes) (8 + 2 * h.words) same }))
    (λ other. record { header = h; crc = a; header_right = right; states = refl; counted = refl; differs = eqb-false (length bytes) (8 + 2 * h.words) other })

reads_enough : (channel : Channel) (bytes : List ℕ) (h : Header) → ((k : ℕ) → get_or bytes k 0 < 256) → 8 ≤ length bytes → HasHeader bytes h (header_crc_in bytes) → Reads channel bytes (read_enough channel bytes h)
reads_enough channel bytes h small enough holds =
    let kept : ℕ = header_crc_in bytes in
    let computed : ℕ = crc_of h in
    let is : IsHeaderCrc h.sync h.startup h.id h.words computed = a_header_crc h.sync h.startup h.id h.words in
    let P : ℕ → Type 0 = λ (x : ℕ). IsHeaderCrc h.sync h.startup h.id h.words x in
    cond_both (kept == computed) (read_right channel bytes h) (Err (HeaderCrc kept computed)) (Reads channel bytes)
    (λ same. reads_right channel bytes h kept small (record { enough = enough; holds = holds; right = subst P (sym (eqb-true kept computed same)) is }))
    (λ differs. record { header = h; enough = enough; holds = holds; right = is; differs = eqb-false kept computed differs })

pub reads : (channel : Channel) (bytes : List ℕ) → All (λ b. b < 2 ^ 8) bytes → Reads channel bytes (read_as channel bytes)
unfolding read_as
reads channel bytes bound =
    let small : (k : ℕ) → get_or bytes k 0 < 256 = byte_at bytes bound in
    cond_both (nat_lt (length bytes) 8) (Err (Short (length bytes))) (read_enough channel bytes (header_of bytes)) (Reads channel bytes)
    (λ few. record { counted = refl; few = ltb-true (length bytes) 8 few })
    (λ more. let enough : 8 ≤ length bytes = ltb-false (length bytes) 8 more in
    reads_enough channel bytes (header_of bytes) small enough (header_held bytes (λ k below. small k) (omega arith)))
