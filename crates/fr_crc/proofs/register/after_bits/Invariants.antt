use Rattle.std.proofs.Common.{◌≡◌, ◌<◌, ◌^◌}
use Rattle.fr_crc.specs.Bits.{bits}
use Rattle.fr_crc.specs.Register.{after}
use Rattle.fr_crc.proofs.register.after_bits.Given as goal

-- the rest of the bits leads from here to where all of them lead from the start
abbrev pub invariant-loop-place : goal.invariant-loop-place
invariant-loop-place l = record {
  fits : l.register < 2 ^ l.generator.width;
  rest : after (bits l.generator.width l.generator.terms) (bits l.generator.width l.register) (bits l.place l.number) ≡ after (bits l.generator.width l.generator.terms) (bits l.generator.width l.initial.register) (bits l.count l.number);
}
