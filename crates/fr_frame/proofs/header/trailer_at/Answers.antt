use Rattle.std.proofs.Common.{get_or, arith}
use Rattle.fr_frame.proofs.Bytes.{trailer-lt, trailer_spelled}
use Rattle.fr_frame.proofs.header.trailer_at.Goals as goal

pub returns-clause-kept : goal.returns-clause-kept
returns-clause-kept c =
    rw (c.from.ensures, c.from-2.ensures, c.from-3.ensures) (trailer-lt (get_or c.args.back.now 0 0) (get_or c.args.back.now 1 0) (get_or c.args.back.now 2 0) (omega (arith, c.type_inv.back 0)) (omega (arith, c.type_inv.back 1)) (omega (arith, c.type_inv.back 2)))

pub returns-clause-spelled : goal.returns-clause-spelled
returns-clause-spelled c =
    rw (c.from.ensures, c.from-2.ensures, c.from-3.ensures) (trailer_spelled c.args.back.now c.requires (λ k. omega (arith, c.type_inv.back k)))
