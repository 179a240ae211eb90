-- Worked rows of the two CRCs, computed from their definition, each with its quotient.
use Rattle.std.proofs.Common.{true, false, [], ◌∷◌, refl, lit<}
use Rattle.fr_base.specs.declared.channel.Channel.TheVariants.{A, B}
use Rattle.fr_crc.specs.Bits.{bits}
use Rattle.fr_crc.specs.Crc.{IsHeaderCrc, IsFrameCrc}

pub header_crc-sync_frame : IsHeaderCrc true true 1 0 0x1BC
unfolding bits
header_crc-sync_frame = record {
  fits = lit< tt;
  remainder = record { start_width = refl; width = refl; quotient = bits 20 0xEA58C; quotient_length = refl; division = refl };
}

pub header_crc-zero_id : IsHeaderCrc false false 0 0 0x76A
unfolding bits
header_crc-zero_id = record {
  fits = lit< tt;
  remainder = record { start_width = refl; width = refl; quotient = bits 20 0x03FE2; quotient_length = refl; division = refl };
}

pub header_crc-startup_alone : IsHeaderCrc false true 1 0 0x47E
unfolding bits
header_crc-startup_alone = record {
  fits = lit< tt;
  remainder = record { start_width = refl; width = refl; quotient = bits 20 0x5B6E6; quotient_length = refl; division = refl };
}

pub header_crc-one_word : IsHeaderCrc false false 5 1 0x2CE
unfolding bits
header_crc-one_word = record {
  fits = lit< tt;
  remainder = record { start_width = refl; width = refl; quotient = bits 20 0x03D96; quotient_length = refl; division = refl };
}

pub header_crc-greatest_fields : IsHeaderCrc false false 2047 127 0x135
unfolding bits
header_crc-greatest_fields = record {
  fits = lit< tt;
  remainder = record { start_width = refl; width = refl; quotient = bits 20 0x34771; quotient_length = refl; division = refl };
}

pub header_crc-sync_frame_of_one_word : IsHeaderCrc true true 1 1 0x239
unfolding bits
header_crc-sync_frame_of_one_word = record {
  fits = lit< tt;
  remainder = record { start_width = refl; width = refl; quotient = bits 20 0xEA58D; quotient_length = refl; division = refl };
}

pub frame_crc-sync_frame_on_a : IsFrameCrc A (0x18 ∷ 0x01 ∷ 0x00 ∷ 0x6F ∷ 0x00 ∷ []) 0x9AE525
unfolding bits
frame_crc-sync_frame_on_a = record {
  fits = lit< tt;
  remainder = record { start_width = refl; width = refl; quotient = bits 40 0xD80E9089EB; quotient_length = refl; division = refl };
}

pub frame_crc-sync_frame_on_b : IsFrameCrc B (0x18 ∷ 0x01 ∷ 0x00 ∷ 0x6F ∷ 0x00 ∷ []) 0x716B40
unfolding bits
frame_crc-sync_frame_on_b = record {
  fits = lit< tt;
  remainder = record { start_width = refl; width = refl; quotient = bits 40 0x9AC58A34C0; quotient_length = refl; division = refl };
}

pub frame_crc-one_word_on_a : IsFrameCrc A (0x20 ∷ 0x05 ∷ 0x02 ∷ 0xB3 ∷ 0x89 ∷ 0x12 ∷ 0x34 ∷ []) 0x75126B
unfolding bits
frame_crc-one_word_on_a = record {
  fits = lit< tt;
  remainder = record { start_width = refl; width = refl; quotient = bits 56 0xEFDF90C65B4C61; quotient_length = refl; division = refl };
}

pub frame_crc-zero_id_on_a : IsFrameCrc A (0x00 ∷ 0x00 ∷ 0x01 ∷ 0xDA ∷ 0x80 ∷ []) 0x5FA26B
unfolding bits
frame_crc-zero_id_on_a = record {
  fits = lit< tt;
  remainder = record { start_width = refl; width = refl; quotient = bits 40 0xC6C6795C61; quotient_length = refl; division = refl };
}

pub frame_crc-startup_alone_on_a : IsFrameCrc A (0x08 ∷ 0x01 ∷ 0x01 ∷ 0x1F ∷ 0x80 ∷ []) 0xF6C462
unfolding bits
frame_crc-startup_alone_on_a = record {
  fits = lit< tt;
  remainder = record { start_width = refl; width = refl; quotient = bits 40 0xCC8051198E; quotient_length = refl; division = refl };
}
