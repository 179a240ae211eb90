use Rattle.std.proofs.Common.{ℕ, ◌+◌, ◌-◌, List, Bool, drop, ap, sym, ◌∙◌, arith}
use Rattle.std.proofs.lemmas.List.{take_rest}
use Rattle.fr_crc.specs.Bits.{bits, message_of}
use Rattle.fr_crc.specs.Crc.{frame_generator}
use Rattle.fr_crc.specs.Register.{after}
use Rattle.fr_crc.proofs.Eights.{after-cut}
use Rattle.fr_crc.proofs.body.after_body.Goals as goal

pub sixteens-preserved : goal.sixteens-preserved
sixteens-preserved c = record {
  within = omega (arith, c.sixteens-test.true);
  fits = c.after_sixteen_bytes-register.ensures.fits;
  rest = ap (λ (s : List Bool). after frame_generator s (message_of (drop (c.sixteens.done + 16) c.args.bytes.now))) c.after_sixteen_bytes-register.ensures.next
      ∙ sym (after-cut frame_generator (bits 24 c.sixteens.register) c.args.bytes.now c.sixteens.done (c.sixteens.done + 16 - c.sixteens.done) (omega arith))
      ∙ c.sixteens.invariant.rest;
}

pub returns-clause-after : goal.returns-clause-after
returns-clause-after c =
    c.after_rest.ensures.after
    ∙ ap (λ (xs : List ℕ). after frame_generator (bits 24 c.sixteens.register) (message_of xs)) (take_rest c.args.bytes.now c.sixteens.done)
    ∙ c.sixteens.invariant.rest
