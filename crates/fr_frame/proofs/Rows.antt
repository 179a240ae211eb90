-- Worked rows, computed from their definitions: two frames, and a first fault of each kind.
use Rattle.std.proofs.Common.{◌≡◌, Ok, Err, true, false, [], ◌∷◌, refl, lit<, lit≤, arith}
use Rattle.fr_base.specs.declared.channel.Channel.TheVariants.{A, B}
use Rattle.fr_crc.proofs.Rows.{header_crc-sync_frame, header_crc-one_word, header_crc-sync_frame_of_one_word, header_crc-zero_id, header_crc-startup_alone, frame_crc-sync_frame_on_a, frame_crc-sync_frame_on_b, frame_crc-one_word_on_a, frame_crc-zero_id_on_a, frame_crc-startup_alone_on_a}
use Rattle.fr_frame.specs.declared.header.Header.{Header}
use Rattle.fr_frame.specs.declared.fault.FrameFault.TheVariants.{Short, HeaderCrc, Length, FrameCrc, ZeroId, StartupNotSync}
use Rattle.fr_frame.specs.Frame.{IsFrameWith}
use Rattle.fr_frame.specs.Fault.{IsFirstFault}
use Rattle.fr_frame.specs.Reading.{frame_of, read_as}
use Rattle.fr_crc.specs.Bits.{bits}
use Rattle.fr_crc.specs.Computed.{header_crc_of, frame_crc_of}

abbrev sync_frame : Header
sync_frame = record { reserved = false; preamble = false; null_bit = false; sync = true; startup = true; id = 1; words = 0; cycle = 0 }

abbrev one_word : Header
one_word = record { reserved = false; preamble = false; null_bit = true; sync = false; startup = false; id = 5; words = 1; cycle = 9 }

IsFrameWith-sync_frame : IsFrameWith A sync_frame [] 0x1BC 0x9AE525 (0x18 ∷ 0x01 ∷ 0x00 ∷ 0x6F ∷ 0x00 ∷ 0x9A ∷ 0xE5 ∷ 0x25 ∷ [])
IsFrameWith-sync_frame = record {
  id_some = lit≤ tt;
  id_fits = lit≤ tt;
  words_fit = lit≤ tt;
  cycle_fits = lit≤ tt;
  startup_in_sync = λ set. refl;
  payload_length = refl;
  header_right = header_crc-sync_frame;
  frame_right = frame_crc-sync_frame_on_a;
  spelled = refl;
}

IsFrameWith-one_word : IsFrameWith A one_word (0x12 ∷ 0x34 ∷ []) 0x2CE 0x75126B (0x20 ∷ 0x05 ∷ 0x02 ∷ 0xB3 ∷ 0x89 ∷ 0x12 ∷ 0x34 ∷ 0x75 ∷ 0x12 ∷ 0x6B ∷ [])
IsFrameWith-one_word = record {
  id_some = lit≤ tt;
  id_fits = lit≤ tt;
  words_fit = lit≤ tt;
  cycle_fits = lit≤ tt;
  startup_in_sync = λ set. set;
  payload_length = refl;
  header_right = header_crc-one_word;
  frame_right = frame_crc-one_word_on_a;
  spelled = refl;
}

IsFirstFault-short : IsFirstFault A (0x18 ∷ 0x01 ∷ 0x00 ∷ 0x6F ∷ 0x00 ∷ 0x9A ∷ 0xE5 ∷ []) (Short 7)
IsFirstFault-short = record { counted = refl; few = lit< tt }

IsFirstFault-header_crc : IsFirstFault A (0x18 ∷ 0x01 ∷ 0x02 ∷ 0x6F ∷ 0x00 ∷ 0x9A ∷ 0xE5 ∷ 0x25 ∷ []) (HeaderCrc 0x1BC 0x239)
IsFirstFault-header_crc = record {
  header = record { reserved = false; preamble = false; null_bit = false; sync = true; startup = true; id = 1; words = 1; cycle = 0 };
  enough = lit≤ tt;
  holds = record { id_fits = lit≤ tt; words_fit = lit≤ tt; cycle_fits = lit≤ tt; kept_fits = lit< tt; spelled = refl };
  right = header_crc-sync_frame_of_one_word;
  differs = λ same. omega (arith, same);
}

IsFirstFault-length : IsFirstFault A (0x18 ∷ 0x01 ∷ 0x02 ∷ 0x8E ∷ 0x40 ∷ 0x00 ∷ 0x00 ∷ 0x00 ∷ []) (Length 10 8)
IsFirstFault-length = record {
  header = record { reserved = false; preamble = false; null_bit = false; sync = true; startup = true; id = 1; words = 1; cycle = 0 };
  crc = 0x239;
  header_right = record {
    enough = lit≤ tt;
    holds = record { id_fits = lit≤ tt; words_fit = lit≤ tt; cycle_fits = lit≤ tt; kept_fits = lit< tt; spelled = refl };
    right = header_crc-sync_frame_of_one_word;
  };
  states = refl;
  counted = refl;
  differs = λ same. omega (arith, same);
}

IsFirstFault-frame_crc : IsFirstFault B (0x18 ∷ 0x01 ∷ 0x00 ∷ 0x6F ∷ 0x00 ∷ 0x9A ∷ 0xE5 ∷ 0x25 ∷ []) (FrameCrc 0x9AE525 0x716B40)
IsFirstFault-frame_crc = record {
  header = sync_frame;
  crc = 0x1BC;
  length_right = record {
    header_right = record {
      enough = lit≤ tt;
      holds = record { id_fits = lit≤ tt; words_fit = lit≤ tt; cycle_fits = lit≤ tt; kept_fits = lit< tt; spelled = refl };
      right = header_crc-sync_frame;
    };
    long = refl;
  };
  kept_fits = lit< tt;
  spelled = refl;
  right = frame_crc-sync_frame_on_b;
  differs = λ same. omega (arith, same);
}

IsFirstFault-zero_id : IsFirstFault A (0x00 ∷ 0x00 ∷ 0x01 ∷ 0xDA ∷ 0x80 ∷ 0x5F ∷ 0xA2 ∷ 0x6B ∷ []) ZeroId
IsFirstFault-zero_id = record {
  header = record { reserved = false; preamble = false; null_bit = false; sync = false; startup = false; id = 0; words = 0; cycle = 0 };
  header_crc = 0x76A;
  frame_crc = 0x5FA26B;
  checks_right = record {
    length_right = record {
      header_right = record {
        enough = lit≤ tt;
        holds = record { id_fits = lit≤ tt; words_fit = lit≤ tt; cycle_fits = lit≤ tt; kept_fits = lit< tt; spelled = refl };
        right = header_crc-zero_id;
      };
      long = refl;
    };
    right = frame_crc-zero_id_on_a;
    spelled = refl;
  };
  zero_id = refl;
}

IsFirstFault-startup_not_sync : IsFirstFault A (0x08 ∷ 0x01 ∷ 0x01 ∷ 0x1F ∷ 0x80 ∷ 0xF6 ∷ 0xC4 ∷ 0x62 ∷ []) StartupNotSync
IsFirstFault-startup_not_sync = record {
  header = record { reserved = false; preamble = false; null_bit = false; sync = false; startup = true; id = 1; words = 0; cycle = 0 };
  header_crc = 0x47E;
  frame_crc = 0xF6C462;
  checks_right = record {
    length_right = record {
      header_right = record {
        enough = lit≤ tt;
        holds = record { id_fits = lit≤ tt; words_fit = lit≤ tt; cycle_fits = lit≤ tt; kept_fits = lit< tt; spelled = refl };
        right = header_crc-startup_alone;
      };
      long = refl;
    };
    right = frame_crc-startup_alone_on_a;
    spelled = refl;
  };
  id_some = lit≤ tt;
  startup = refl;
  no_sync = refl;
}

-- ---- the same as functions
pub frame_of-sync_frame : frame_of A sync_frame [] ≡ 0x18 ∷ 0x01 ∷ 0x00 ∷ 0x6F ∷ 0x00 ∷ 0x9A ∷ 0xE5 ∷ 0x25 ∷ []
unfolding frame_of header_crc_of frame_crc_of bits
frame_of-sync_frame = refl

pub frame_of-one_word : frame_of A one_word (0x12 ∷ 0x34 ∷ []) ≡ 0x20 ∷ 0x05 ∷ 0x02 ∷ 0xB3 ∷ 0x89 ∷ 0x12 ∷ 0x34 ∷ 0x75 ∷ 0x12 ∷ 0x6B ∷ []
unfolding frame_of header_crc_of frame_crc_of bits
frame_of-one_word = refl

pub read_as-sync_frame : read_as A (0x18 ∷ 0x01 ∷ 0x00 ∷ 0x6F ∷ 0x00 ∷ 0x9A ∷ 0xE5 ∷ 0x25 ∷ []) ≡ Ok sync_frame
unfolding read_as header_crc_of frame_crc_of bits
read_as-sync_frame = refl

pub read_as-other_channel : read_as B (0x18 ∷ 0x01 ∷ 0x00 ∷ 0x6F ∷ 0x00 ∷ 0x9A ∷ 0xE5 ∷ 0x25 ∷ []) ≡ Err (FrameCrc 0x9AE525 0x716B40)
unfolding read_as header_crc_of frame_crc_of bits
read_as-other_channel = refl
