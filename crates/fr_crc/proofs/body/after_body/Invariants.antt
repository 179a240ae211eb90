use Rattle.std.proofs.Common.{◌≡◌, ◌<◌, ◌≤◌, ◌-◌, ◌^◌, drop, length}
use Rattle.fr_crc.specs.Bits.{bits, message_of}
use Rattle.fr_crc.specs.Crc.{frame_generator}
use Rattle.fr_crc.specs.Register.{after}
use Rattle.fr_crc.proofs.body.after_body.Given as goal

-- the rest of the bytes leads from here to where all of them lead from the start
abbrev pub invariant-sixteens : goal.invariant-sixteens
invariant-sixteens l = record {
  within : l.done ≤ length l.bytes;
  fits : l.register < 2 ^ 24;
  rest : after frame_generator (bits 24 l.register) (message_of (drop l.done l.bytes)) ≡ after frame_generator (bits 24 l.initial.register) (message_of l.bytes);
}

abbrev pub decreases-sixteens : goal.decreases-sixteens
decreases-sixteens l = length l.bytes - l.done
