-- Bytes that are no frame have one first fault, and no others have one.
use Rattle.std.proofs.Common.{◌≡◌, ℕ, ◌+◌, ◌*◌, ◌≤◌, false, List, length, refl, ap, sym, ◌∙◌, subst, IsTrue, arith}
use Rattle.std.proofs.lemmas.Bool.{both_ways}
use Rattle.fr_base.specs.declared.channel.Channel.{Channel}
use Rattle.fr_frame.specs.declared.header.Header.{Header}
use Rattle.fr_frame.specs.declared.fault.FrameFault.{FrameFault}
use Rattle.fr_frame.specs.declared.fault.FrameFault.TheVariants.{Short, HeaderCrc, Length, FrameCrc, ZeroId, StartupNotSync}
use Rattle.fr_frame.specs.Frame.{IsNoFrame}
use Rattle.fr_frame.specs.Fault.{HasRightHeader, HasRightLength, HasRightChecks, IsShort, IsWrongHeaderCrc, IsWrongLength, IsWrongFrameCrc, IsZeroId, IsStartupNotSync, IsFirstFault}
use Rattle.fr_frame.proofs.Parts.{header_is_one, computed_is_one, whole_is_one, trailer_is_one, frame_checks}

-- ---- a check that is passed is no fault

pub short_or_enough : (bytes : List ℕ) (n : ℕ) → IsShort bytes n → 8 ≤ length bytes → ⊥
short_or_enough bytes n short enough = omega (arith, short.counted, short.few)

pub header_crc_or_right : (bytes : List ℕ) (n m : ℕ) (h : Header) (a : ℕ) → IsWrongHeaderCrc bytes n m → HasRightHeader bytes h a → ⊥
header_crc_or_right bytes n m h a wrong right =
    let one : (wrong.header ≡ h) × (n ≡ a) = header_is_one bytes wrong.header h n a wrong.holds right.holds in
    wrong.differs (one.1 ∙ sym (computed_is_one wrong.header h m a one.0 wrong.right right.right))

pub length_or_right : (bytes : List ℕ) (n m : ℕ) (h : Header) (a : ℕ) → IsWrongLength bytes n m → HasRightLength bytes h a → ⊥
length_or_right bytes n m h a wrong right =
    let one : (wrong.header ≡ h) × (wrong.crc ≡ a) = header_is_one bytes wrong.header h wrong.crc a wrong.header_right.holds right.header_right.holds in
    wrong.differs (wrong.counted ∙ right.long ∙ ap (λ (x : Header). 8 + 2 * x.words) (sym one.0) ∙ sym wrong.states)

pub frame_crc_or_right : (channel : Channel) (bytes : List ℕ) (n m : ℕ) (h : Header) (a b : ℕ) → IsWrongFrameCrc channel bytes n m → HasRightChecks channel bytes h a b → ⊥
frame_crc_or_right channel bytes n m h a b wrong right =
    let one : (wrong.header ≡ h) × (wrong.crc ≡ a) = header_is_one bytes wrong.header h wrong.crc a wrong.length_right.header_right.holds right.length_right.header_right.holds in
    wrong.differs (trailer_is_one bytes wrong.header h n b one.0 wrong.spelled right.spelled ∙ sym (whole_is_one channel bytes wrong.header h m b one.0 wrong.right right.right))

pub zero_id_or_some : (channel : Channel) (bytes : List ℕ) (h : Header) (a b : ℕ) → IsZeroId channel bytes → HasRightChecks channel bytes h a b → 1 ≤ h.id → ⊥
zero_id_or_some channel bytes h a b zero right some =
    let one : (zero.header ≡ h) × (zero.header_crc ≡ a) = header_is_one bytes zero.header h zero.header_crc a zero.checks_right.length_right.header_right.holds right.length_right.header_right.holds in
    let same : zero.header.id ≡ h.id = ap (λ (x : Header). x.id) one.0 in
    omega (arith, zero.zero_id, same)

pub startup_or_sync : (channel : Channel) (bytes : List ℕ) (h : Header) (a b : ℕ) → IsStartupNotSync channel bytes → HasRightChecks channel bytes h a b → (IsTrue h.startup → IsTrue h.sync) → ⊥
startup_or_sync channel bytes h a b alone right sync =
    let one : (alone.header ≡ h) × (alone.header_crc ≡ a) = header_is_one bytes alone.header h alone.header_crc a alone.checks_right.length_right.header_right.holds right.length_right.header_right.holds in
    let P : Header → Type 0 = λ (x : Header). IsTrue x.startup in
    let set : IsTrue h.sync = sync (subst P one.0 alone.startup) in
    let clear : h.sync ≡ false = ap (λ (x : Header). x.sync) (sym one.0) ∙ alone.no_sync in
    both_ways h.sync clear set

-- bytes with a fault are no frame
pub fault_is_no_frame : (channel : Channel) (bytes : List ℕ) (fault : FrameFault) → IsFirstFault channel bytes fault → IsNoFrame channel bytes
fault_is_no_frame channel bytes fault is h payload (a, (b, frame)) =
    refuted fault is (frame_checks channel h payload a b bytes frame) frame.id_some frame.startup_in_sync
  where
    refuted : (fault : FrameFault) → IsFirstFault channel bytes fault → HasRightChecks channel bytes h a b → 1 ≤ h.id → (IsTrue h.startup → IsTrue h.sync) → ⊥
    refuted (Short n) is right some sync = short_or_enough bytes n is right.length_right.header_right.enough
    refuted (HeaderCrc n m) is right some sync = header_crc_or_right bytes n m h a is right.length_right.header_right
    refuted (Length n m) is right some sync = length_or_right bytes n m h a is right.length_right
    refuted (FrameCrc n m) is right some sync = frame_crc_or_right channel bytes n m h a b is right
    refuted ZeroId is right some sync = zero_id_or_some channel bytes h a b is right some
    refuted StartupNotSync is right some sync = startup_or_sync channel bytes h a b is right sync

-- two first faults of the same bytes are one
pub first_fault_is_one : (channel : Channel) (bytes : List ℕ) (first second : FrameFault) → IsFirstFault channel bytes first → IsFirstFault channel bytes second → first ≡ second
first_fault_is_one channel bytes (Short n) (Short k) a b = ap Short (a.counted ∙ sym b.counted)
first_fault_is_one channel bytes (Short n) (HeaderCrc k l) a b = absurd (short_or_enough bytes n a b.enough)
first_fault_is_one channel bytes (Short n) (Length k l) a b = absurd (short_or_enough bytes n a b.header_right.enough)
first_fault_is_one channel bytes (Short n) (FrameCrc k l) a b = absurd (short_or_enough bytes n a b.length_right.header_right.enough)
first_fault_is_one channel bytes (Short n) ZeroId a b = absurd (short_or_enough bytes n a b.checks_right.length_right.header_right.enough)
first_fault_is_one channel bytes (Short n) StartupNotSync a b = absurd (short_or_enough bytes n a b.checks_right.length_right.header_right.enough)
first_fault_is_one channel bytes (HeaderCrc n m) (Short k) a b = absurd (short_or_enough bytes k b a.enough)
first_fault_is_one channel bytes (HeaderCrc n m) (HeaderCrc k l) a b =
    let one : (a.header ≡ b.header) × (n ≡ k) = header_is_one bytes a.header b.header n k a.holds b.holds in
    let computed : m ≡ l = computed_is_one a.header b.header m l one.0 a.right b.right in
    let kept : n ≡ k = one.1 in
    cc
first_fault_is_one channel bytes (HeaderCrc n m) (Length k l) a b = absurd (header_crc_or_right bytes n m b.header b.crc a b.header_right)
first_fault_is_one channel bytes (HeaderCrc n m) (FrameCrc k l) a b = absurd (header_crc_or_right bytes n m b.header b.crc a b.length_right.header_right)
first_fault_is_one channel bytes (HeaderCrc n m) ZeroId a b = absurd (header_crc_or_right bytes n m b.header b.header_crc a b.checks_right.length_right.header_right)
first_fault_is_one channel bytes (HeaderCrc n m) StartupNotSync a b = absurd (header_crc_or_right bytes n m b.header b.header_crc a b.checks_right.length_right.header_right)
first_fault_is_one channel bytes (Length n m) (Short k) a b = absurd (short_or_enough bytes k b a.header_right.enough)
first_fault_is_one channel bytes (Length n m) (HeaderCrc k l) a b = absurd (header_crc_or_right bytes k l a.header a.crc b a.header_right)
first_fault_is_one channel bytes (Length n m) (Length k l) a b =
    let one : (a.header ≡ b.header) × (a.crc ≡ b.crc) = header_is_one bytes a.header b.header a.crc b.crc a.header_right.holds b.header_right.holds in
    let stated : n ≡ k = a.states ∙ ap (λ (x : Header). 8 + 2 * x.words) one.0 ∙ sym b.states in
    let given : m ≡ l = a.counted ∙ sym b.counted in
    cc
first_fault_is_one channel bytes (Length n m) (FrameCrc k l) a b = absurd (length_or_right bytes n m b.header b.crc a b.length_right)
first_fault_is_one channel bytes (Length n m) ZeroId a b = absurd (length_or_right bytes n m b.header b.header_crc a b.checks_right.length_right)
first_fault_is_one channel bytes (Length n m) StartupNotSync a b = absurd (length_or_right bytes n m b.header b.header_crc a b.checks_right.length_right)
first_fault_is_one channel bytes (FrameCrc n m) (Short k) a b = absurd (short_or_enough bytes k b a.length_right.header_right.enough)
first_fault_is_one channel bytes (FrameCrc n m) (HeaderCrc k l) a b = absurd (header_crc_or_right bytes k l a.header a.crc b a.length_right.header_right)
first_fault_is_one channel bytes (FrameCrc n m) (Length k l) a b = absurd (length_or_right bytes k l a.header a.crc b a.length_right)
first_fault_is_one channel bytes (FrameCrc n m) (FrameCrc k l) a b =
    let one : (a.header ≡ b.header) × (a.crc ≡ b.crc) = header_is_one bytes a.header b.header a.crc b.crc a.length_right.header_right.holds b.length_right.header_right.holds in
    let kept : n ≡ k = trailer_is_one bytes a.header b.header n k one.0 a.spelled b.spelled in
    let computed : m ≡ l = whole_is_one channel bytes a.header b.header m l one.0 a.right b.right in
    cc
first_fault_is_one channel bytes (FrameCrc n m) ZeroId a b = absurd (frame_crc_or_right channel bytes n m b.header b.header_crc b.frame_crc a b.checks_right)
first_fault_is_one channel bytes (FrameCrc n m) StartupNotSync a b = absurd (frame_crc_or_right channel bytes n m b.header b.header_crc b.frame_crc a b.checks_right)
first_fault_is_one channel bytes ZeroId (Short k) a b = absurd (short_or_enough bytes k b a.checks_right.length_right.header_right.enough)
first_fault_is_one channel bytes ZeroId (HeaderCrc k l) a b = absurd (header_crc_or_right bytes k l a.header a.header_crc b a.checks_right.length_right.header_right)
first_fault_is_one channel bytes ZeroId (Length k l) a b = absurd (length_or_right bytes k l a.header a.header_crc b a.checks_right.length_right)
first_fault_is_one channel bytes ZeroId (FrameCrc k l) a b = absurd (frame_crc_or_right channel bytes k l a.header a.header_crc a.frame_crc b a.checks_right)
first_fault_is_one channel bytes ZeroId ZeroId a b = refl
first_fault_is_one channel bytes ZeroId StartupNotSync a b = absurd (zero_id_or_some channel bytes b.header b.header_crc b.frame_crc a b.checks_right b.id_some)
first_fault_is_one channel bytes StartupNotSync (Short k) a b = absurd (short_or_enough bytes k b a.checks_right.length_right.header_right.enough)
first_fault_is_one channel bytes StartupNotSync (HeaderCrc k l) a b = absurd (header_crc_or_right bytes k l a.header a.header_crc b a.checks_right.length_right.header_right)
first_fault_is_one channel bytes StartupNotSync (Length k l) a b = absurd (length_or_right bytes k l a.header a.header_crc b a.checks_right.length_right)
first_fault_is_one channel bytes StartupNotSync (FrameCrc k l) a b = absurd (frame_crc_or_right channel bytes k l a.header a.header_crc a.frame_crc b a.checks_right)
first_fault_is_one channel bytes StartupNotSync ZeroId a b = absurd (zero_id_or_some channel bytes a.header a.header_crc a.frame_crc b a.checks_right a.id_some)
first_fault_is_one channel bytes StartupNotSync StartupNotSync a b = refl
