-- Network management vectors: which records of a recording count, and what the cycles have of them.
use Rattle.std.specs.Prelude.{◌≡◌, ℕ, ◌+◌, ◌*◌, ◌%◌, ◌≤◌, Bool, ◌&&◌, ◌==◌, nat_le, List, [], ◌∷◌, ◌++◌, length, take, drop, replicate, bit_or, Option, Some, None, is_some, Result, Ok, Err, IsTrue, if◌then◌else◌}
use Rattle.fr_base.specs.declared.channel.Channel.{Channel}
use Rattle.fr_frame.specs.declared.header.Header.{Header}
use Rattle.fr_frame.specs.declared.fault.FrameFault.{FrameFault}
use Rattle.fr_frame.specs.Frame.{IsFrame}
use Rattle.fr_frame.specs.Reading.{payload_in, read_as}
use Rattle.fr_nm.specs.declared.vector.Folded.{Folded}

-- a record: bytes that were seen on a channel in a cycle
pub record Recorded : Type 0 where
  pub cycle : ℕ
  pub channel : Channel
  pub bytes : List ℕ

abbrev pub vector_record : ℕ → Channel → List ℕ → Recorded
vector_record cycle channel bytes = record { cycle = cycle; channel = channel; bytes = bytes }

-- a record counts: its bytes are a frame on its channel with a vector of this width in its cycle
pub record Counts (width : ℕ) (r : Recorded) : Type 0 where
  pub header : Header
  pub payload : List ℕ
  pub frame : IsFrame r.channel header payload r.bytes
  pub preamble : IsTrue header.preamble
  pub null_bit : IsTrue header.null_bit
  pub cycle : header.cycle ≡ r.cycle % 64
  pub enough : width ≤ length payload

-- the first bytes of a payload in twelve places, zeros behind them
abbrev pub placed : ℕ → List ℕ → List ℕ
placed width payload = take width payload ++ drop width (replicate 12 0)

-- a record counts, and this is the vector that its payload begins with
pub record HasVector (width : ℕ) (r : Recorded) (vector : List ℕ) : Type 0 where
  pub counts : Counts width r
  pub value : vector ≡ placed width counts.payload

-- byte by byte the bitwise OR
unfoldable pub or_bytes : List ℕ → List ℕ → List ℕ
or_bytes [] other = []
or_bytes (a ∷ more) [] = []
or_bytes (a ∷ more) (b ∷ rest) = bit_or a b ∷ or_bytes more rest

-- whether a frame has a vector of this width in this cycle
abbrev pub has_vector : ℕ → ℕ → Header → Bool
has_vector width cycle h = h.preamble && h.null_bit && h.cycle == cycle % 64 && nat_le width (2 * h.words)

abbrev pub vector_read : ℕ → ℕ → List ℕ → Result Header FrameFault → Option (List ℕ)
vector_read width cycle bytes (Err why) = None
vector_read width cycle bytes (Ok h) = if has_vector width cycle h then Some (placed width (payload_in h bytes)) else None

-- the vector of a record, where it counts
unfoldable pub vector_in : ℕ → Recorded → Option (List ℕ)
vector_in width r = vector_read width r.cycle r.bytes (read_as r.channel r.bytes)

-- what a cycle has of two parts of a recording together
abbrev pub merged : Option Folded → Option Folded → Option Folded
merged None other = other
merged (Some a) None = Some a
merged (Some a) (Some b) = Some (record { vector = or_bytes a.vector b.vector; frames = a.frames + b.frames })

abbrev pub one_frame : Option (List ℕ) → Option Folded
one_frame None = None
one_frame (Some v) = Some (record { vector = v; frames = 1 })

-- what a cycle has of a record
abbrev pub given_to : ℕ → ℕ → Recorded → Option Folded
given_to width cycle r = if r.cycle == cycle then one_frame (vector_in width r) else None

-- what a cycle has of a recording: the OR of the vectors of its records that count, and how many these are
unfoldable pub folded : ℕ → ℕ → List Recorded → Option Folded
folded width cycle [] = None
folded width cycle (r ∷ rest) = merged (given_to width cycle r) (folded width cycle rest)

-- how many records count
unfoldable pub how_many_count : ℕ → List Recorded → ℕ
how_many_count width [] = 0
how_many_count width (r ∷ rest) = (if is_some (vector_in width r) then 1 else 0) + how_many_count width rest
