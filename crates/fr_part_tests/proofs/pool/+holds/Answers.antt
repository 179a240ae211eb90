use Rattle.std.proofs.Common.{◌∙◌, Bool, List, false, set, ap}
use Rattle.fr_pool.specs.Pool.{PoolView}
use Rattle.fr_pool.proofs.Returning.{set-returned}
use Rattle.fr_part_tests.proofs.pool.+holds.Goals as goal

pub returns-then-others : goal.returns-then-others
returns-then-others n c =
    let taken = c.in-Some.ensures.taken in
    ap (λ (p : PoolView). p.out) c.give.ensures
    ∙ ap (λ (out : List Bool). set out c.in-Some.cell false) (c.holds-others.ensures ∙ ap (λ (p : PoolView). p.out) taken.taken)
    ∙ set-returned c.args.pool.now.out c.in-Some.cell taken.free

pub returns-else-others : goal.returns-else-others
returns-else-others n c =
    let taken = c.in-Some.ensures.taken in
    ap (λ (p : PoolView). p.out) c.give.ensures
    ∙ ap (λ (out : List Bool). set out c.in-Some.cell false) (c.holds-others.ensures ∙ ap (λ (p : PoolView). p.out) taken.taken)
    ∙ set-returned c.args.pool.now.out c.in-Some.cell taken.free
