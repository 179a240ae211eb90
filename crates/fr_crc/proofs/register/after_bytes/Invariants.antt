use Rattle.std.proofs.Common.{◌≡◌, ◌<◌, ◌^◌, drop}
use Rattle.fr_crc.specs.Bits.{bits, message_of}
use Rattle.fr_crc.specs.Register.{after}
use Rattle.fr_crc.proofs.register.after_bytes.Given as goal

-- the rest of the bytes leads from here to where all of them lead from the start
abbrev pub invariant-loop-byte : goal.invariant-loop-byte
invariant-loop-byte l = record {
  fits : l.register < 2 ^ l.generator.width;
  rest : after (bits l.generator.width l.generator.terms) (bits l.generator.width l.register) (message_of (drop l.byte-index l.bytes)) ≡ after (bits l.generator.width l.generator.terms) (bits l.generator.width l.initial.register) (message_of l.bytes);
}
