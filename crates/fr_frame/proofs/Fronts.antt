-- No frame's bytes are a proper front of another's: the first five bytes say how many there are.
use Rattle.std.proofs.Common.{◌≡◌, ℕ, ◌+◌, ◌*◌, ◌≤◌, List, ◌++◌, length, take, drop, refl, ap, sym, ◌∙◌, arith, length-append}
use Rattle.std.proofs.lemmas.List.{take_at, drop_at, take-append-le}
use Rattle.fr_base.specs.declared.channel.Channel.{Channel}
use Rattle.fr_crc.specs.Crc.{IsHeaderCrc}
use Rattle.fr_crc.proofs.Existence.{a_header_crc}
use Rattle.fr_crc.proofs.Unique.{header_crc_is_one}
use Rattle.fr_frame.specs.declared.header.Header.{Header}
use Rattle.fr_frame.specs.Frame.{IsFrame}
use Rattle.fr_frame.specs.Fault.{HasHeader}
use Rattle.fr_frame.specs.Reading.{crc_of, header_of, header_crc_in}
use Rattle.fr_frame.proofs.Exact.{lengths_fit}
use Rattle.fr_frame.proofs.Found.{header_found}
use Rattle.fr_frame.proofs.Parts.{header_is_one, frame_checks}

-- of two lists that go on to the same one, the first places are the same
front_is_one : (n : ℕ) (first second behind beyond : List ℕ) → n ≤ length first → n ≤ length second → first ++ behind ≡ second ++ beyond → take n first ≡ take n second
front_is_one n first second behind beyond one other same =
    sym (take-append-le n first behind one) ∙ ap (take n) same ∙ take-append-le n second beyond other

-- a header stands in the first five bytes, whatever stands behind them
pub header_moved : (bytes others : List ℕ) (h : Header) (kept : ℕ) → take 5 bytes ≡ take 5 others → HasHeader bytes h kept → HasHeader others h kept
header_moved bytes others h kept same holds = record {
  id_fits = holds.id_fits;
  words_fit = holds.words_fit;
  cycle_fits = holds.cycle_fits;
  kept_fits = holds.kept_fits;
  spelled = sym same ∙ holds.spelled;
}

-- the header of a frame
pub frame_header : (channel : Channel) (h : Header) (payload bytes : List ℕ) → IsFrame channel h payload bytes → (crc : ℕ) × HasHeader bytes h crc × IsHeaderCrc h.sync h.startup h.id h.words crc
frame_header channel h payload bytes (a, (b, is)) =
    let right = (frame_checks channel h payload a b bytes is).length_right.header_right in
    (a, right.holds, right.right)

pub front_is_whole : (channel : Channel) (h g : Header) (payload rest first second behind beyond : List ℕ) → IsFrame channel h payload first → IsFrame channel g rest second →
    first ++ behind ≡ second ++ beyond → (first ≡ second) × (behind ≡ beyond)
front_is_whole channel h g payload rest first second behind beyond one other same =
    let n : length first ≡ 8 + 2 * h.words = (lengths_fit channel h payload first one).0 in
    let m : length second ≡ 8 + 2 * g.words = (lengths_fit channel g rest second other).0 in
    let five : take 5 first ≡ take 5 second = front_is_one 5 first second behind beyond (omega arith) (omega arith) same in
    let mine = frame_header channel h payload first one in
    let theirs = frame_header channel g rest second other in
    let e : h ≡ g = (header_is_one second h g mine.0 theirs.0 (header_moved first second h mine.0 five mine.1) theirs.1).0 in
    let k : length first ≡ length second = n ∙ ap (λ (x : Header). 8 + 2 * x.words) e ∙ sym m in (
      sym (take_at first behind (length second) k) ∙ ap (take (length second)) same ∙ take_at second beyond (length second) refl,
      sym (drop_at first behind (length second) k) ∙ ap (drop (length second)) same ∙ drop_at second beyond (length second) refl,
    )

-- what is read in the front of a frame, with bytes behind it
pub front_read : (channel : Channel) (h : Header) (payload front behind : List ℕ) → IsFrame channel h payload front →
    (header_of (front ++ behind) ≡ h) × (header_crc_in (front ++ behind) ≡ crc_of (header_of (front ++ behind)))
front_read channel h payload front behind is =
    let n : length front ≡ 8 + 2 * h.words = (lengths_fit channel h payload front is).0 in
    let mine = frame_header channel h payload front is in
    let five : take 5 front ≡ take 5 (front ++ behind) = sym (take-append-le 5 front behind (omega arith)) in
    let long : 5 ≤ length (front ++ behind) = rw (length-append front behind) (omega arith) in
    let found : (header_of (front ++ behind) ≡ h) × (header_crc_in (front ++ behind) ≡ mine.0) = header_found (front ++ behind) h mine.0 long (header_moved front (front ++ behind) h mine.0 five mine.1) in
    let computed : crc_of h ≡ mine.0 = header_crc_is_one h.sync h.startup h.id h.words (crc_of h) mine.0 (a_header_crc h.sync h.startup h.id h.words) mine.2 in
    (found.0, found.1 ∙ sym computed ∙ ap crc_of (sym found.0))
