-- Worked files, computed from their definitions.
use Rattle.std.proofs.Common.{◌≡◌, [], ◌∷◌, true, false, Some, None, refl}
use Rattle.fr_base.specs.declared.channel.Channel.TheVariants.{A}
use Rattle.fr_crc.specs.Bits.{bits}
use Rattle.fr_crc.specs.Computed.{header_crc_of, frame_crc_of}
use Rattle.fr_frame.specs.Reading.{read_as}
use Rattle.fr_capture.specs.declared.fault.CaptureFault.TheVariants as fault
use Rattle.fr_capture.specs.Rest.{fault_in}
use Rattle.fr_capture.specs.Walk.{after_frames, frames_in, why_no_frame}

-- a sync frame, a frame of one word, and three bytes
two_frames : frames_in A (0x18 ∷ 0x01 ∷ 0x00 ∷ 0x6F ∷ 0x00 ∷ 0x9A ∷ 0xE5 ∷ 0x25 ∷ 0x20 ∷ 0x05 ∷ 0x02 ∷ 0xB3 ∷ 0x89 ∷ 0x12 ∷ 0x34 ∷ 0x75 ∷ 0x12 ∷ 0x6B ∷ 0x18 ∷ 0x01 ∷ 0x00 ∷ [])
    ≡ record {
      frames = record { place = 0; header = record { reserved = false; preamble = false; null_bit = false; sync = true; startup = true; id = 1; words = 0; cycle = 0 }; payload = [] }
          ∷ record { place = 8; header = record { reserved = false; preamble = false; null_bit = true; sync = false; startup = false; id = 5; words = 1; cycle = 9 }; payload = 0x12 ∷ 0x34 ∷ [] }
          ∷ [];
      rest = 0x18 ∷ 0x01 ∷ 0x00 ∷ [];
    }
unfolding after_frames fault_in read_as bits header_crc_of frame_crc_of
two_frames = refl

reason_of-three_bytes : why_no_frame A (0x18 ∷ 0x01 ∷ 0x00 ∷ []) ≡ Some (fault.Cut 8 3)
unfolding fault_in
reason_of-three_bytes = refl

-- a sync frame, and a header whose CRC is that of another payload length
one_frame : frames_in A (0x18 ∷ 0x01 ∷ 0x00 ∷ 0x6F ∷ 0x00 ∷ 0x9A ∷ 0xE5 ∷ 0x25 ∷ 0x18 ∷ 0x01 ∷ 0x02 ∷ 0x6F ∷ 0x00 ∷ [])
    ≡ record {
      frames = record { place = 0; header = record { reserved = false; preamble = false; null_bit = false; sync = true; startup = true; id = 1; words = 0; cycle = 0 }; payload = [] } ∷ [];
      rest = 0x18 ∷ 0x01 ∷ 0x02 ∷ 0x6F ∷ 0x00 ∷ [];
    }
unfolding after_frames fault_in read_as bits header_crc_of frame_crc_of
one_frame = refl

reason_of-wrong_header : why_no_frame A (0x18 ∷ 0x01 ∷ 0x02 ∷ 0x6F ∷ 0x00 ∷ []) ≡ Some (fault.HeaderCrc 0x1BC 0x239)
unfolding fault_in bits header_crc_of
reason_of-wrong_header = refl

-- no bytes
frames_in-nothing : frames_in A [] ≡ record { frames = []; rest = [] }
unfolding after_frames
frames_in-nothing = refl

reason_of-nothing : why_no_frame A [] ≡ None
reason_of-nothing = refl
