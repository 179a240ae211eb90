-- The header of an entry that is whole: its frame ID is not 0, and its cycle count is one.
use Rattle.std.proofs.Common.{◌≡◌, ℕ, ◌+◌, ◌*◌, ◌%◌, ◌<◌, ◌≤◌, ◌==◌, Bool, true, false, List, length, Option, Some, None, Result, Ok, Err, refl, ap, sym, ◌∙◌, arith}
use Rattle.std.specs.Prelude.{◌&&◌, nat_lt, not, if◌then◌else◌}
use Rattle.fr_base.specs.declared.channel.Channel.{Channel}
use Rattle.fr_frame.specs.Fault.{body_of, trailer_of}
use Rattle.fr_frame.specs.Reading.{crc_of, frame_crc_in, header_crc_in, header_of, read_as, read_checked, read_enough, read_long, read_right}
use Rattle.fr_crc.specs.Computed.{frame_crc_of}
use Rattle.fr_frame.specs.declared.fault.FrameFault.{FrameFault}
use Rattle.fr_frame.specs.declared.fault.FrameFault.TheVariants.{Short, HeaderCrc, Length, FrameCrc, ZeroId, StartupNotSync}
use Rattle.fr_frame.specs.declared.header.Header.{Header}
use Rattle.fr_log.specs.declared.entry.EntryKind.{EntryKind}
use Rattle.fr_log.specs.declared.entry.EntryKind.TheVariants as kind
use Rattle.fr_sightings.specs.Judging.{head_read, header_read, whole_header}

-- a header that a frame can have
pub record IsProperHeader (header : Header) : Type 0 where
  pub id : 1 ≤ header.id
  pub count : header.cycle ≤ 63

abbrev Reads : Result Header FrameFault → Header → Type 0
Reads read header = read ≡ Ok header

positive : (n : ℕ) → (n == 0) ≡ false → 1 ≤ n
positive n is = grind arith

counted : (bytes : List ℕ) → (header_of bytes).cycle ≤ 63
counted bytes = omega arith

same : (one other : Header) → Reads (Ok one) other → one ≡ other
same one other is = cc

-- what is read of a header whose checks are right is that header
checked_is : (h header : Header) → read_checked h ≡ Ok header → (h ≡ header) × (1 ≤ h.id)
checked_is h header is = by (h.id == 0) refl (h.startup && not h.sync) is
  where
    by : (zero : Bool) → (h.id == 0) ≡ zero → (alone : Bool)
        → (if zero then Err ZeroId else (if alone then Err StartupNotSync else Ok h)) ≡ Ok header → (h ≡ header) × (1 ≤ h.id)
    by true at alone is = absurd (cc is)
    by false at true is = absurd (cc is)
    by false at false is = (same h header is, positive h.id at)

passing : (test : Bool) (read : Result Header FrameFault) (fault : FrameFault) (header : Header) → (if test then read else Err fault) ≡ Ok header
    → read ≡ Ok header
passing true read fault header is = is
passing false read fault header is = absurd (cc is)

failing : (test : Bool) (read : Result Header FrameFault) (fault : FrameFault) (header : Header) → (if test then Err fault else read) ≡ Ok header
    → read ≡ Ok header
failing true read fault header is = absurd (cc is)
failing false read fault header is = is

read_is : (channel : Channel) (bytes : List ℕ) (header : Header) → read_as channel bytes ≡ Ok header → (header_of bytes ≡ header) × (1 ≤ (header_of bytes).id)
unfolding read_as
read_is channel bytes header is =
    let h = header_of bytes in
    let kept = frame_crc_in (trailer_of h bytes) in
    let computed = frame_crc_of channel (body_of h bytes) in
    let enough = failing (nat_lt (length bytes) 8) (read_enough channel bytes h) (Short (length bytes)) header is in
    let right = passing (header_crc_in bytes == crc_of h) (read_right channel bytes h) (HeaderCrc (header_crc_in bytes) (crc_of h)) header enough in
    let long = passing (length bytes == 8 + 2 * h.words) (read_long channel bytes h) (Length (8 + 2 * h.words) (length bytes)) header right in
    checked_is h header (passing (kept == computed) (read_checked h) (FrameCrc kept computed) header long)

read_proper : (bytes : List ℕ) (header : Header) → (header_of bytes ≡ header) × (1 ≤ (header_of bytes).id) → IsProperHeader header
read_proper bytes header is =
    let id : (header_of bytes).id ≡ header.id = ap (λ (h : Header). h.id) is.0 in
    let count : (header_of bytes).cycle ≡ header.cycle = ap (λ (h : Header). h.cycle) is.0 in
    record { id = omega (arith, id, is.1); count = omega (arith, count, counted bytes) }

framed : (bytes : List ℕ) (read : Result Header FrameFault) (header : Header) → header_read read ≡ Some header
    → ((header : Header) → read ≡ Ok header → (header_of bytes ≡ header) × (1 ≤ (header_of bytes).id)) → IsProperHeader header
framed bytes (Ok h) header is reads = let e : Reads (Ok h) header = cc is in read_proper bytes header (reads header e)
framed bytes (Err fault) header is reads = absurd (cc is)

lone : (bytes : List ℕ) (header : Header) → head_read bytes ≡ Some header → IsProperHeader header
lone bytes header is = by ((length bytes == 5) && (header_crc_in bytes == crc_of (header_of bytes))) is
  where
    by : (fits : Bool) → (if fits then header_read (read_checked (header_of bytes)) else None) ≡ Some header → IsProperHeader header
    by true is = framed bytes (read_checked (header_of bytes)) header is (checked_is (header_of bytes))
    by false is = absurd (cc is)

pub whole_is_proper : (of : EntryKind) (channel : Channel) (bytes : List ℕ) (header : Header) → whole_header of channel bytes ≡ Some header → IsProperHeader header
whole_is_proper kind.Frame channel bytes header is = framed bytes (read_as channel bytes) header is (read_is channel bytes)
whole_is_proper kind.Head channel bytes header is = lone bytes header is
