use Rattle.std.proofs.Common.{arith}
use Rattle.fr_crc.proofs.Eights.{after-four}
use Rattle.fr_crc.proofs.body.after_four_bytes.Goals as goal

pub returns-clause-fits : goal.returns-clause-fits
returns-clause-fits c =
    (after-four c.args.register c.args.bytes.now c.before_three.result c.before_two.result c.before_one.result c.frame_entry.result
    c.requires.register c.requires.bytes (λ k. omega (arith, c.type_inv.bytes k))
    c.before_three.ensures c.before_two.ensures c.before_one.ensures c.frame_entry.ensures.fits c.frame_entry.ensures.after).0

pub returns-clause-next : goal.returns-clause-next
returns-clause-next c =
    (after-four c.args.register c.args.bytes.now c.before_three.result c.before_two.result c.before_one.result c.frame_entry.result
    c.requires.register c.requires.bytes (λ k. omega (arith, c.type_inv.bytes k))
    c.before_three.ensures c.before_two.ensures c.before_one.ensures c.frame_entry.ensures.fits c.frame_entry.ensures.after).1
