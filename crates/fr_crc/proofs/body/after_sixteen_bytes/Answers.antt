use Rattle.std.proofs.Common.{arith}
use Rattle.fr_crc.proofs.Eights.{after-sixteen}
use Rattle.fr_crc.proofs.body.after_sixteen_bytes.Goals as goal

pub returns-clause-fits : goal.returns-clause-fits
returns-clause-fits c =
    (after-sixteen c.args.register c.args.bytes.now c.before_fifteen.result c.before_fourteen.result c.before_thirteen.result c.before_twelve.result c.before_eleven.result c.before_ten.result c.before_nine.result c.before_eight.result c.before_seven.result c.before_six.result c.before_five.result c.before_four.result c.before_three.result c.before_two.result c.before_one.result c.frame_entry.result
    c.requires.register c.requires.bytes (λ k. omega (arith, c.type_inv.bytes k))
    c.before_fifteen.ensures c.before_fourteen.ensures c.before_thirteen.ensures c.before_twelve.ensures c.before_eleven.ensures c.before_ten.ensures c.before_nine.ensures c.before_eight.ensures c.before_seven.ensures c.before_six.ensures c.before_five.ensures c.before_four.ensures c.before_three.ensures c.before_two.ensures c.before_one.ensures c.frame_entry.ensures.fits c.frame_entry.ensures.after).0

pub returns-clause-next : goal.returns-clause-next
returns-clause-next c =
    (after-sixteen c.args.register c.args.bytes.now c.before_fifteen.result c.before_fourteen.result c.before_thirteen.result c.before_twelve.result c.before_eleven.result c.before_ten.result c.before_nine.result c.before_eight.result c.before_seven.result c.before_six.result c.before_five.result c.before_four.result c.before_three.result c.before_two.result c.before_one.result c.frame_entry.result
    c.requires.register c.requires.bytes (λ k. omega (arith, c.type_inv.bytes k))
    c.before_fifteen.ensures c.before_fourteen.ensures c.before_thirteen.ensures c.before_twelve.ensures c.before_eleven.ensures c.before_ten.ensures c.before_nine.ensures c.before_eight.ensures c.before_seven.ensures c.before_six.ensures c.before_five.ensures c.before_four.ensures c.before_three.ensures c.before_two.ensures c.before_one.ensures c.frame_entry.ensures.fits c.frame_entry.ensures.after).1
