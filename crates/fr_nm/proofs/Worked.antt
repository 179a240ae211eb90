-- A worked recording, computed: two frames with a vector and one without.
use Rattle.std.proofs.Common.{◌≡◌, ℕ, List, [], ◌∷◌, Some, None, refl}
use Rattle.fr_base.specs.declared.channel.Channel.TheVariants.{A, B}
use Rattle.fr_crc.specs.Bits.{bits}
use Rattle.fr_crc.specs.Computed.{header_crc_of, frame_crc_of}
use Rattle.fr_frame.specs.Reading.{read_as}
use Rattle.fr_nm.specs.Vectors.{Recorded, folded, how_many_count, or_bytes, vector_in, vector_record}

-- of IDs 5 and 6, with preamble and null frame indicators set, and of ID 5 without a preamble
with_first : List ℕ
with_first = 0x60 ∷ 0x05 ∷ 0x02 ∷ 0xB3 ∷ 0x89 ∷ 0x12 ∷ 0x34 ∷ 0xDB ∷ 0xEF ∷ 0x87 ∷ []

with_second : List ℕ
with_second = 0x60 ∷ 0x06 ∷ 0x02 ∷ 0x34 ∷ 0x49 ∷ 0x41 ∷ 0x80 ∷ 0x1E ∷ 0xAD ∷ 0xBD ∷ []

plain : List ℕ
plain = 0x20 ∷ 0x05 ∷ 0x02 ∷ 0xB3 ∷ 0x89 ∷ 0x12 ∷ 0x34 ∷ 0x75 ∷ 0x12 ∷ 0x6B ∷ []

three : List Recorded
three = vector_record 9 A with_first ∷ vector_record 9 A with_second ∷ vector_record 9 A plain ∷ []

folded-three : folded 2 9 three ≡ Some (record { vector = 0x53 ∷ 0xB4 ∷ 0 ∷ 0 ∷ 0 ∷ 0 ∷ 0 ∷ 0 ∷ 0 ∷ 0 ∷ 0 ∷ 0 ∷ []; frames = 2 })
unfolding three with_first with_second plain folded vector_in or_bytes read_as header_crc_of frame_crc_of bits
folded-three = refl

counted-three : how_many_count 2 three ≡ 2
unfolding three with_first with_second plain how_many_count vector_in read_as header_crc_of frame_crc_of bits
counted-three = refl

-- seen on channel B, or in cycle 10, none of them counts; in cycle 73 they do, and a vector of three bytes they do not have
other-channel : vector_in 2 (vector_record 9 B with_first) ≡ None
unfolding with_first vector_in read_as header_crc_of frame_crc_of bits
other-channel = refl

other-cycle : vector_in 2 (vector_record 10 A with_first) ≡ None
unfolding with_first vector_in read_as header_crc_of frame_crc_of bits
other-cycle = refl

later-cycle : vector_in 2 (vector_record 73 A with_first) ≡ Some (0x12 ∷ 0x34 ∷ 0 ∷ 0 ∷ 0 ∷ 0 ∷ 0 ∷ 0 ∷ 0 ∷ 0 ∷ 0 ∷ 0 ∷ [])
unfolding with_first vector_in read_as header_crc_of frame_crc_of bits
later-cycle = refl

too-wide : vector_in 3 (vector_record 9 A with_first) ≡ None
unfolding with_first vector_in read_as header_crc_of frame_crc_of bits
too-wide = refl
