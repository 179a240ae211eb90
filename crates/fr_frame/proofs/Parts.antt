-- The parts of a frame's bytes, and what they make together.
use Rattle.std.proofs.Common.{◌≡◌, ℕ, ◌+◌, ◌-◌, ◌*◌, ◌^◌, ◌<◌, ◌≤◌, List, ◌++◌, length, take, drop, refl, ap, sym, ◌∙◌, subst, append_assoc, IsTrue, arith, length-append, length-drop}
use Rattle.std.proofs.lemmas.List.{take-append-drop, take_at, drop_at, length-take-le, take_rest}
use Rattle.std.proofs.Math.Seq.{take-add}
use Rattle.fr_base.specs.declared.channel.Channel.{Channel}
use Rattle.fr_crc.specs.Crc.{IsHeaderCrc, IsFrameCrc}
use Rattle.fr_crc.proofs.Unique.{header_crc_is_one, frame_crc_is_one}
use Rattle.fr_frame.specs.declared.header.Header.{Header}
use Rattle.fr_frame.specs.Frame.{header_bytes, trailer_bytes, IsFrameWith}
use Rattle.fr_frame.specs.Fault.{HasHeader, HasRightLength, HasRightChecks, body_of, trailer_of}
use Rattle.fr_frame.proofs.Bytes.{header_is_told, trailer_is_told}

-- the header in the bytes is one
pub header_is_one : (bytes : List ℕ) (h g : Header) (a b : ℕ) → HasHeader bytes h a → HasHeader bytes g b → (h ≡ g) × (a ≡ b)
header_is_one bytes h g a b one other =
    header_is_told h g a b one.id_fits other.id_fits one.cycle_fits other.cycle_fits one.kept_fits other.kept_fits (sym one.spelled ∙ other.spelled)

-- so is the CRC of its fields
pub computed_is_one : (h g : Header) (a b : ℕ) → h ≡ g → IsHeaderCrc h.sync h.startup h.id h.words a → IsHeaderCrc g.sync g.startup g.id g.words b → a ≡ b
computed_is_one h g a b same one other =
    let P : Header → Type 0 = λ (x : Header). IsHeaderCrc x.sync x.startup x.id x.words a in
    header_crc_is_one g.sync g.startup g.id g.words a b (subst P same one) other

-- so is the CRC of header and payload
pub whole_is_one : (channel : Channel) (bytes : List ℕ) (h g : Header) (a b : ℕ) → h ≡ g → IsFrameCrc channel (body_of h bytes) a → IsFrameCrc channel (body_of g bytes) b → a ≡ b
whole_is_one channel bytes h g a b same one other =
    let P : Header → Type 0 = λ (x : Header). IsFrameCrc channel (body_of x bytes) a in
    frame_crc_is_one channel (body_of g bytes) a b (subst P same one) other

-- so is the one that stands after them
pub trailer_is_one : (bytes : List ℕ) (h g : Header) (a b : ℕ) → h ≡ g → trailer_of h bytes ≡ trailer_bytes a → trailer_of g bytes ≡ trailer_bytes b → a ≡ b
trailer_is_one bytes h g a b same one other =
    trailer_is_told a b (sym one ∙ ap (λ (x : Header). trailer_of x bytes) same ∙ other)

-- a frame has as many bytes as its header states
pub frame-length : (channel : Channel) (h : Header) (payload : List ℕ) (a b : ℕ) (bytes : List ℕ) → IsFrameWith channel h payload a b bytes → length bytes ≡ 8 + 2 * h.words
frame-length channel h payload a b bytes is =
    rw is.spelled (simp length-append (omega (arith, is.payload_length)))

-- a frame passes the checks of its header, its length and both CRCs
pub frame_checks : (channel : Channel) (h : Header) (payload : List ℕ) (a b : ℕ) (bytes : List ℕ) → IsFrameWith channel h payload a b bytes → HasRightChecks channel bytes h a b
frame_checks channel h payload a b bytes is =
    let front : List ℕ = header_bytes h a in
    let back : List ℕ = trailer_bytes b in
    let long : length (front ++ payload) ≡ 5 + 2 * h.words = simp length-append (omega (arith, is.payload_length)) in
    let all : length bytes ≡ 8 + 2 * h.words = frame-length channel h payload a b bytes is in
    let first : take 5 bytes ≡ front = ap (take 5) (is.spelled ∙ append_assoc front payload back) ∙ take_at front (payload ++ back) 5 refl in
    let body : body_of h bytes ≡ front ++ payload = ap (take (5 + 2 * h.words)) is.spelled ∙ take_at (front ++ payload) back (5 + 2 * h.words) long in
    let rest : trailer_of h bytes ≡ back = ap (drop (5 + 2 * h.words)) is.spelled ∙ drop_at (front ++ payload) back (5 + 2 * h.words) long in
    let P : List ℕ → Type 0 = λ (xs : List ℕ). IsFrameCrc channel xs b in
    record {
      length_right = record {
        header_right = record {
          enough = omega arith;
          holds = record { id_fits = is.id_fits; words_fit = is.words_fit; cycle_fits = is.cycle_fits; kept_fits = is.header_right.fits; spelled = first };
          right = is.header_right;
        };
        long = all;
      };
      right = subst P (sym body) is.frame_right;
      spelled = rest;
    }

-- bytes that pass them, with a frame ID and startup frames in sync, are a frame
pub checks_frame : (channel : Channel) (bytes payload : List ℕ) (h : Header) (a b : ℕ) → HasRightChecks channel bytes h a b → 1 ≤ h.id → (IsTrue h.startup → IsTrue h.sync) →
    payload ≡ take (2 * h.words) (drop 5 bytes) → IsFrameWith channel h payload a b bytes
checks_frame channel bytes payload h a b checks some sync part =
    let long : length bytes ≡ 8 + 2 * h.words = checks.length_right.long in
    let first : take 5 bytes ≡ header_bytes h a = checks.length_right.header_right.holds.spelled in
    let body : body_of h bytes ≡ header_bytes h a ++ payload =
    take-add 5 (2 * h.words) bytes ∙ ap (λ (xs : List ℕ). xs ++ take (2 * h.words) (drop 5 bytes)) first ∙ ap (λ (xs : List ℕ). header_bytes h a ++ xs) (sym part) in
    let enough : 2 * h.words ≤ length (drop 5 bytes) = rw length-drop (omega arith) in
    let P : List ℕ → Type 0 = λ (xs : List ℕ). IsFrameCrc channel xs b in
    let holds : HasHeader bytes h a = checks.length_right.header_right.holds in
    record {
      id_some = some;
      id_fits = holds.id_fits;
      words_fit = holds.words_fit;
      cycle_fits = holds.cycle_fits;
      startup_in_sync = sync;
      payload_length = ap length part ∙ length-take-le (2 * h.words) (drop 5 bytes) enough;
      header_right = checks.length_right.header_right.right;
      frame_right = subst P body checks.right;
      spelled = sym (take-append-drop (5 + 2 * h.words) bytes) ∙ ap (λ (xs : List ℕ). xs ++ trailer_of h bytes) body ∙ ap (λ (xs : List ℕ). header_bytes h a ++ payload ++ xs) checks.spelled;
    }

-- what the reader knows once the length is right
pub read_length : (bytes : List ℕ) (h : Header) (kept computed n : ℕ) → 8 ≤ length bytes →
    h.id ≤ 2047 → h.words ≤ 127 → h.cycle ≤ 63 → kept < 2 ^ 11 → take 5 bytes ≡ header_bytes h kept →
    IsHeaderCrc h.sync h.startup h.id h.words computed → kept ≡ computed → n ≡ h.words → length bytes ≡ 5 + 2 * n + 3 → HasRightLength bytes h kept
read_length bytes h kept computed n enough id words cycle fits spelled right same counted long =
    let P : ℕ → Type 0 = λ (x : ℕ). IsHeaderCrc h.sync h.startup h.id h.words x in
    record {
      header_right = record {
        enough = enough;
        holds = record { id_fits = id; words_fit = words; cycle_fits = cycle; kept_fits = fits; spelled = spelled };
        right = subst P (sym same) right;
      };
      long = omega arith;
    }

-- what stands after header and payload, as the reader takes it
pub read_trailer : (bytes : List ℕ) (h : Header) (n kept : ℕ) → n ≡ h.words → take (length bytes - (5 + 2 * n)) (drop (5 + 2 * n) bytes) ≡ trailer_bytes kept → trailer_of h bytes ≡ trailer_bytes kept
read_trailer bytes h n kept counted spelled =
    ap (λ (m : ℕ). drop (5 + 2 * m) bytes) (sym counted) ∙ sym (take_rest bytes (5 + 2 * n)) ∙ spelled

-- the CRC over header and payload, as the reader takes them
pub read_body : (channel : Channel) (bytes : List ℕ) (h : Header) (n crc : ℕ) → n ≡ h.words → IsFrameCrc channel (take (5 + 2 * n) bytes) crc → IsFrameCrc channel (body_of h bytes) crc
read_body channel bytes h n crc counted right =
    let P : ℕ → Type 0 = λ (m : ℕ). IsFrameCrc channel (take (5 + 2 * m) bytes) crc in
    subst P counted right
