use Rattle.std.proofs.Common.{arith}
use Rattle.fr_crc.proofs.Eights.{after-eight}
use Rattle.fr_crc.proofs.body.after_eight_bytes.Goals as goal

pub returns-clause-fits : goal.returns-clause-fits
returns-clause-fits c =
    (after-eight c.args.register c.args.bytes.now c.before_seven.result c.before_six.result c.before_five.result c.before_four.result c.before_three.result c.before_two.result c.before_one.result c.frame_entry.result
    c.requires.register c.requires.bytes (λ k. omega (arith, c.type_inv.bytes k))
    c.before_seven.ensures c.before_six.ensures c.before_five.ensures c.before_four.ensures c.before_three.ensures c.before_two.ensures c.before_one.ensures c.frame_entry.ensures.fits c.frame_entry.ensures.after).0

pub returns-clause-next : goal.returns-clause-next
returns-clause-next c =
    (after-eight c.args.register c.args.bytes.now c.before_seven.result c.before_six.result c.before_five.result c.before_four.result c.before_three.result c.before_two.result c.before_one.result c.frame_entry.result
    c.requires.register c.requires.bytes (λ k. omega (arith, c.type_inv.bytes k))
    c.before_seven.ensures c.before_six.ensures c.before_five.ensures c.before_four.ensures c.before_three.ensures c.before_two.ensures c.before_one.ensures c.frame_entry.ensures.fits c.frame_entry.ensures.after).1
