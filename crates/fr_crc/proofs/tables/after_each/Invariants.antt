use Rattle.std.proofs.Common.{◌≡◌, ◌<◌, ◌^◌, drop}
use Rattle.fr_crc.specs.Bits.{bits, message_of}
use Rattle.fr_crc.specs.Crc.{frame_generator}
use Rattle.fr_crc.specs.Register.{after}
use Rattle.fr_crc.proofs.tables.after_each.Given as goal

-- the rest of the bytes leads from here to where all of them lead from the start
abbrev pub invariant-loop-byte : goal.invariant-loop-byte
invariant-loop-byte l = record {
  fits : l.register < 2 ^ 24;
  rest : after frame_generator (bits 24 l.register) (message_of (drop l.byte-index l.bytes)) ≡ after frame_generator (bits 24 l.initial.register) (message_of l.bytes);
}
