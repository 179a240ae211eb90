-- Headers and payloads correspond to the bytes of frames, and bytes that are no frame to first faults.
use Rattle.std.proofs.Common.{◌≡◌, ℕ, ◌+◌, ◌*◌, ◌^◌, ◌<◌, ◌≤◌, Result, Ok, Err, List, ◌++◌, length, take, drop, refl, ap, sym, ◌∙◌, subst, append_assoc, arith}
use Rattle.std.specs.Prelude.{All}
use Rattle.std.proofs.lemmas.List.{take_at, drop_at}
use Rattle.fr_base.specs.declared.channel.Channel.{Channel}
use Rattle.fr_crc.specs.Crc.{IsFrameCrc}
use Rattle.fr_crc.specs.Computed.{frame_crc_of}
use Rattle.fr_crc.proofs.Unique.{header_crc_is_one, frame_crc_is_one}
use Rattle.fr_crc.proofs.Existence.{a_header_crc, a_frame_crc}
use Rattle.fr_frame.specs.declared.header.Header.{Header}
use Rattle.fr_frame.specs.declared.fault.FrameFault.{FrameFault}
use Rattle.fr_frame.specs.Frame.{header_bytes, trailer_bytes, IsFrameWith, IsFrame, IsNoFrame}
use Rattle.fr_frame.specs.Fault.{IsFirstFault}
use Rattle.fr_frame.specs.Refusal.{HasGoodPayload, IsAccepted}
use Rattle.fr_frame.specs.Reading.{crc_of, body_from, frame_of, payload_in, read_as}
use Rattle.fr_frame.proofs.Parts.{header_is_one, frame-length, frame_checks}
use Rattle.fr_frame.proofs.Reading.{Reads, reads}

pub spelling_is_one : (channel : Channel) (h : Header) (payload first second : List ℕ) → IsFrame channel h payload first → IsFrame channel h payload second → first ≡ second
spelling_is_one channel h payload first second (a, (b, one)) (c, (d, other)) =
    let header_crc : a ≡ c = header_crc_is_one h.sync h.startup h.id h.words a c one.header_right other.header_right in
    let P : ℕ → Type 0 = λ (x : ℕ). IsFrameCrc channel (header_bytes h x ++ payload) b in
    let frame_crc : b ≡ d = frame_crc_is_one channel (header_bytes h c ++ payload) b d (subst P header_crc one.frame_right) other.frame_right in
    one.spelled
    ∙ ap (λ (x : ℕ). header_bytes h x ++ payload ++ trailer_bytes b) header_crc
    ∙ ap (λ (x : ℕ). header_bytes h c ++ payload ++ trailer_bytes x) frame_crc
    ∙ sym other.spelled

-- the payload stands after the header
pub frame_payload : (channel : Channel) (h : Header) (payload : List ℕ) (a b : ℕ) (bytes : List ℕ) → IsFrameWith channel h payload a b bytes → payload ≡ take (2 * h.words) (drop 5 bytes)
frame_payload channel h payload a b bytes is =
    let front : List ℕ = header_bytes h a in
    let back : List ℕ = trailer_bytes b in
    let rest : drop 5 bytes ≡ payload ++ back = ap (drop 5) (is.spelled ∙ append_assoc front payload back) ∙ drop_at front (payload ++ back) 5 refl in
    sym (ap (take (2 * h.words)) rest ∙ take_at payload back (2 * h.words) is.payload_length)

pub reading_is_one : (channel : Channel) (h g : Header) (payload rest bytes : List ℕ) → IsFrame channel h payload bytes → IsFrame channel g rest bytes → (h ≡ g) × (payload ≡ rest)
reading_is_one channel h g payload rest bytes (a, (b, one)) (c, (d, other)) =
    let same : (h ≡ g) × (a ≡ c) = header_is_one bytes h g a c (frame_checks channel h payload a b bytes one).length_right.header_right.holds (frame_checks channel g rest c d bytes other).length_right.header_right.holds in
    (same.0, frame_payload channel h payload a b bytes one ∙ ap (λ (x : Header). take (2 * x.words) (drop 5 bytes)) same.0 ∙ sym (frame_payload channel g rest c d bytes other))

pub lengths_fit : (channel : Channel) (h : Header) (payload bytes : List ℕ) → IsFrame channel h payload bytes → (length bytes ≡ 8 + 2 * h.words) × (length bytes ≤ 262)
lengths_fit channel h payload bytes (a, (b, is)) =
    let long : length bytes ≡ 8 + 2 * h.words = frame-length channel h payload a b bytes is in
    (long, omega (arith, is.words_fit))

-- ---- what bytes are read as

-- bytes that are read as a header are a frame with it
pub read_frame : (channel : Channel) (bytes : List ℕ) (h : Header) → All (λ b. b < 2 ^ 8) bytes → read_as channel bytes ≡ Ok h → IsFrame channel h (payload_in h bytes) bytes
read_frame channel bytes h small is =
    let P : Result Header FrameFault → Type 0 = λ (r : Result Header FrameFault). Reads channel bytes r in
    subst P is (reads channel bytes small)

-- bytes that are read as a fault have it first
pub read_fault : (channel : Channel) (bytes : List ℕ) (fault : FrameFault) → All (λ b. b < 2 ^ 8) bytes → read_as channel bytes ≡ Err fault → IsFirstFault channel bytes fault
read_fault channel bytes fault small is =
    let P : Result Header FrameFault → Type 0 = λ (r : Result Header FrameFault). Reads channel bytes r in
    subst P is (reads channel bytes small)

-- bytes that are no frame have a first fault
pub no_frame_has_fault : (channel : Channel) (bytes : List ℕ) → All (λ b. b < 2 ^ 8) bytes → IsNoFrame channel bytes → (fault : FrameFault) × IsFirstFault channel bytes fault
no_frame_has_fault channel bytes small none = found (read_as channel bytes) (reads channel bytes small)
  where
    found : (r : Result Header FrameFault) → Reads channel bytes r → (fault : FrameFault) × IsFirstFault channel bytes fault
    found (Ok h) frame = absurd (none h (payload_in h bytes) frame)
    found (Err fault) first = (fault, first)

-- ---- the bytes of a header and a payload

-- those of an accepted header and payload are a frame
pub accepted_frame : (channel : Channel) (h : Header) (payload : List ℕ) (room : ℕ) → IsAccepted h (length payload) room → IsFrame channel h payload (frame_of channel h payload)
unfolding frame_of
accepted_frame channel h payload room is =
    let good : HasGoodPayload h (length payload) = is.good_flags.good_payload in (
      crc_of h,
      (
        frame_crc_of channel (body_from h payload),
        record {
          id_some = good.good_cycle.good_id.id_some;
          id_fits = good.good_cycle.good_id.id_fits;
          words_fit = good.words_fit;
          cycle_fits = good.good_cycle.cycle_fits;
          startup_in_sync = is.good_flags.startup_in_sync;
          payload_length = good.payload_length;
          header_right = a_header_crc h.sync h.startup h.id h.words;
          frame_right = a_frame_crc channel (body_from h payload);
          spelled = refl;
        },
      ),
    )

-- a frame is the bytes of its header and payload
pub frame_spelled : (channel : Channel) (h : Header) (payload bytes : List ℕ) → IsFrame channel h payload bytes → bytes ≡ frame_of channel h payload
frame_spelled channel h payload bytes (a, (b, is)) =
    let good : IsAccepted h (length payload) (8 + length payload) = record {
      good_flags = record {
        good_payload = record {
          good_cycle = record { good_id = record { id_some = is.id_some; id_fits = is.id_fits }; cycle_fits = is.cycle_fits };
          words_fit = is.words_fit;
          payload_length = is.payload_length;
        };
        startup_in_sync = is.startup_in_sync;
      };
      enough = omega arith;
    } in
    spelling_is_one channel h payload bytes (frame_of channel h payload) (a, (b, is)) (accepted_frame channel h payload (8 + length payload) good)
