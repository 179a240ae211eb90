use Rattle.std.proofs.Common.{◌-◌, List, Bool, ap, sym, ◌∙◌, arith}
use Rattle.fr_crc.specs.Bits.{bits}
use Rattle.fr_crc.specs.Register.{after}
use Rattle.fr_crc.proofs.Steps.{after-bits_first, after-bits_none}
use Rattle.fr_crc.proofs.register.after_bits.Goals as goal

pub loop-place-preserved : goal.loop-place-preserved
loop-place-preserved c =
    let g : List Bool = bits c.args.generator.width c.args.generator.terms in
    record {
      fits = c.after_bit-register.ensures.fits;
      rest = ap (λ (s : List Bool). after g s (bits (c.loop-place.place - 1) c.args.number)) c.after_bit-register.ensures.next
          ∙ sym (after-bits_first g (bits c.args.generator.width c.loop-place.register) c.loop-place.place c.args.number (omega arith))
          ∙ c.loop-place.invariant.rest;
    }

pub returns-clause-after : goal.returns-clause-after
returns-clause-after c =
    let g : List Bool = bits c.args.generator.width c.args.generator.terms in
    sym (after-bits_none g (bits c.args.generator.width c.loop-place.register) c.loop-place.place c.args.number (omega arith)) ∙ c.loop-place.invariant.rest
