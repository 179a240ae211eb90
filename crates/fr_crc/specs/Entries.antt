-- The tables of the two CRCs: what the register holds after a few bits, with start value 0.
use Rattle.std.specs.Prelude.{ℕ, List, ◌++◌, map}
use Rattle.std.specs.List.{range_with_len}
use Rattle.fr_crc.specs.Bits.{bits, zeros, number_of_bits}
use Rattle.fr_crc.specs.Crc.{header_generator, header_start, frame_generator}
use Rattle.fr_crc.specs.Register.{after}

-- for each byte the frame CRC of its eight bits
unfoldable pub frame_entries : List ℕ
frame_entries =
    map (λ index. number_of_bits (after frame_generator (zeros 24) (bits 8 index))) (range_with_len 0 256)

-- for each number of ten bits what the register of the header CRC holds after it and ten zero bits, from its start on
unfoldable pub header_firsts : List ℕ
header_firsts =
    map (λ index. number_of_bits (after header_generator header_start (bits 10 index ++ zeros 10))) (range_with_len 0 1024)

-- for each number of ten bits what the register of the header CRC holds after it, from zeros on
unfoldable pub header_lasts : List ℕ
header_lasts =
    map (λ index. number_of_bits (after header_generator (zeros 11) (bits 10 index))) (range_with_len 0 1024)

-- for each byte what the register of the frame CRC holds after it and so many zero bits, from zeros on
unfoldable pub entries_before : ℕ → List ℕ
entries_before n =
    map (λ index. number_of_bits (after frame_generator (zeros 24) (bits 8 index ++ zeros n))) (range_with_len 0 256)
