-- What a frame is: a set of equations in its header, its payload and its bytes.
use Rattle.std.specs.Prelude.{◌≡◌, ℕ, ◌+◌, ◌*◌, ◌/◌, ◌%◌, ◌≤◌, Bool, true, false, List, [], ◌∷◌, ◌++◌, length, take, drop, IsTrue}
use Rattle.std.specs.Borrow.{Bor}
use Rattle.fr_base.specs.declared.channel.Channel.{Channel}
use Rattle.fr_crc.specs.Crc.{IsHeaderCrc, IsFrameCrc}
use Rattle.fr_frame.specs.declared.header.Header.{Header}

-- an indicator as a number
abbrev pub bit : Bool → ℕ
bit false = 0
bit true = 1

-- the five bytes of a header and its CRC
abbrev pub header_bytes : Header → ℕ → List ℕ
header_bytes h crc =
    (128 * bit h.reserved + 64 * bit h.preamble + 32 * bit h.null_bit + 16 * bit h.sync + 8 * bit h.startup + h.id / 256)
    ∷ (h.id % 256)
    ∷ (2 * h.words + crc / 1024)
    ∷ (crc / 4 % 256)
    ∷ (64 * (crc % 4) + h.cycle)
    ∷ []

-- the three bytes of a frame CRC
abbrev pub trailer_bytes : ℕ → List ℕ
trailer_bytes crc = (crc / 65536) ∷ (crc / 256 % 256) ∷ (crc % 256) ∷ []

-- the bytes are those of this header and payload on the channel, with these two CRCs
pub record IsFrameWith (channel : Channel) (header : Header) (payload : List ℕ) (header_crc frame_crc : ℕ) (bytes : List ℕ) : Type 0 where
  pub id_some : 1 ≤ header.id
  pub id_fits : header.id ≤ 2047
  pub words_fit : header.words ≤ 127
  pub cycle_fits : header.cycle ≤ 63
  pub startup_in_sync : IsTrue header.startup → IsTrue header.sync
  pub payload_length : length payload ≡ 2 * header.words
  pub header_right : IsHeaderCrc header.sync header.startup header.id header.words header_crc
  pub frame_right : IsFrameCrc channel (header_bytes header header_crc ++ payload) frame_crc
  pub spelled : bytes ≡ header_bytes header header_crc ++ payload ++ trailer_bytes frame_crc

-- the bytes are those of this header and payload on the channel
abbrev pub IsFrame : Channel → Header → List ℕ → List ℕ → Type 0
IsFrame channel header payload bytes = (header_crc : ℕ) × ((frame_crc : ℕ) × IsFrameWith channel header payload header_crc frame_crc bytes)

-- the bytes are no frame on the channel, whatever the header and the payload
abbrev pub IsNoFrame : Channel → List ℕ → Type 0
IsNoFrame channel bytes = (header : Header) (payload : List ℕ) → IsFrame channel header payload bytes → ⊥

-- the one slice is a part of the other: it lies in the same memory, so many bytes after its start
pub record IsPartAt (part whole : Bor (List ℕ)) (skipped : ℕ) : Type 0 where
  pub memory : part.ref_ptr.0 ≡ whole.ref_ptr.0
  pub place : part.ref_ptr.1 ≡ whole.ref_ptr.1 + skipped
  pub bytes : part.now ≡ take (length part.now) (drop skipped whole.now)
