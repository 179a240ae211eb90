use Rattle.std.proofs.Common.{◌∙◌, false, set, ap}
use Rattle.fr_pool.specs.Pool.{PoolView}
use Rattle.fr_pool.proofs.Returning.{set-returned}
use Rattle.fr_part_tests.proofs.pool.is_empty.Goals as goal

pub returns-in-Some : goal.returns-in-Some
returns-in-Some c =
    let taken = c.in-Some.ensures.taken in
    ap (λ (p : PoolView). p.out) c.give.ensures
    ∙ ap (λ (p : PoolView). set p.out c.in-Some.cell false) taken.taken
    ∙ set-returned c.args.pool.now.out c.in-Some.cell taken.free
