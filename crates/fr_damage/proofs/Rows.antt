-- Worked rows, computed from their definitions: a frame with each of its bits inverted.
use Rattle.std.proofs.Common.{◌≡◌, ℕ, Bool, true, false, Result, Ok, Err, List, [], ◌∷◌, ◌++◌, map, refl}
use Rattle.std.specs.List.{range_with_len}
use Rattle.std.specs.Prelude.{replicate}
use Rattle.fr_base.specs.declared.channel.Channel.TheVariants.{A}
use Rattle.fr_crc.specs.Bits.{bits}
use Rattle.fr_crc.specs.Computed.{header_crc_of, frame_crc_of}
use Rattle.fr_frame.specs.Reading.{read_as}
use Rattle.fr_frame.specs.declared.fault.FrameFault.{FrameFault}
use Rattle.fr_frame.specs.declared.fault.FrameFault.TheVariants.{Short, HeaderCrc, Length, FrameCrc, ZeroId, StartupNotSync}
use Rattle.fr_frame.specs.declared.header.Header.{Header}
use Rattle.fr_reception.specs.Offers.{flipped}

-- a sync frame of no payload on channel A
abbrev sync_frame : List ℕ
sync_frame = 0x18 ∷ 0x01 ∷ 0x00 ∷ 0x6F ∷ 0x00 ∷ 0x9A ∷ 0xE5 ∷ 0x25 ∷ []

flipped-reserved_bit : read_as A (flipped 0 sync_frame) ≡ Err (FrameCrc 0x9AE525 0xD8CD8B)
unfolding flipped read_as header_crc_of frame_crc_of bits
flipped-reserved_bit = refl

flipped-sync_indicator : read_as A (flipped 3 sync_frame) ≡ Err (HeaderCrc 0x1BC 0x47E)
unfolding flipped read_as header_crc_of frame_crc_of bits
flipped-sync_indicator = refl

flipped-length : read_as A (flipped 22 sync_frame) ≡ Err (HeaderCrc 0x1BC 0x239)
unfolding flipped read_as header_crc_of frame_crc_of bits
flipped-length = refl

flipped-header_crc : read_as A (flipped 33 sync_frame) ≡ Err (HeaderCrc 0x1BD 0x1BC)
unfolding flipped read_as header_crc_of frame_crc_of bits
flipped-header_crc = refl

flipped-cycle_count : read_as A (flipped 34 sync_frame) ≡ Err (FrameCrc 0x9AE525 0x815FD6)
unfolding flipped read_as header_crc_of frame_crc_of bits
flipped-cycle_count = refl

flipped-last_bit : read_as A (flipped 63 sync_frame) ≡ Err (FrameCrc 0x9AE524 0x9AE525)
unfolding flipped read_as header_crc_of frame_crc_of bits
flipped-last_bit = refl

-- which CRC tells it, for each of the 64 bits
abbrev by_header_crc : Result Header FrameFault → Bool
by_header_crc (Ok header) = false
by_header_crc (Err (Short given)) = false
by_header_crc (Err (HeaderCrc kept computed)) = true
by_header_crc (Err (Length stated given)) = false
by_header_crc (Err (FrameCrc kept computed)) = false
by_header_crc (Err ZeroId) = false
by_header_crc (Err StartupNotSync) = false

abbrev by_frame_crc : Result Header FrameFault → Bool
by_frame_crc (Ok header) = false
by_frame_crc (Err (Short given)) = false
by_frame_crc (Err (HeaderCrc kept computed)) = false
by_frame_crc (Err (Length stated given)) = false
by_frame_crc (Err (FrameCrc kept computed)) = true
by_frame_crc (Err ZeroId) = false
by_frame_crc (Err StartupNotSync) = false

each_by_header_crc : map (λ bit. by_header_crc (read_as A (flipped bit sync_frame))) (range_with_len 0 64) ≡ replicate 3 false ++ replicate 31 true ++ replicate 30 false
unfolding flipped read_as header_crc_of frame_crc_of bits
each_by_header_crc = refl

each_by_frame_crc : map (λ bit. by_frame_crc (read_as A (flipped bit sync_frame))) (range_with_len 0 64) ≡ replicate 3 true ++ replicate 31 false ++ replicate 30 true
unfolding flipped read_as header_crc_of frame_crc_of bits
each_by_frame_crc = refl
