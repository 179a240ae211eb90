use Rattle.std.proofs.Common.{get_or, arith}
use Rattle.fr_frame.proofs.Bytes.{kept-lt, header_spelled}
use Rattle.fr_frame.proofs.header.header_at.Goals as goal

pub returns-clause-kept : goal.returns-clause-kept
returns-clause-kept c =
    rw (c.from-3.ensures, c.from-4.ensures, c.from-5.ensures) (kept-lt (get_or c.args.front.now 2 0) (get_or c.args.front.now 3 0) (get_or c.args.front.now 4 0) (omega (arith, c.type_inv.front 3)) (omega (arith, c.type_inv.front 4)))

pub returns-clause-spelled : goal.returns-clause-spelled
returns-clause-spelled c =
    rw (c.from.ensures, c.from-2.ensures, c.from-3.ensures, c.from-4.ensures, c.from-5.ensures) (header_spelled c.args.front.now c.requires (λ k. omega (arith, c.type_inv.front k)))
