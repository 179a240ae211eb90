use Rattle.std.proofs.Common.{◌∙◌, Bool, List, false, set, ap}
use Rattle.fr_pool.specs.Pool.{PoolView}
use Rattle.fr_pool.proofs.Returning.{set-returned}
use Rattle.fr_part_tests.proofs.Copied.{out-still}
use Rattle.fr_part_tests.proofs.pool.copies_from.Goals as goal

pub copies-copied-requires-clause-from : goal.copies-copied-requires-clause-from
copies-copied-requires-clause-from c = out-still c.args.pool.now c.take.new.self c.in-Some.to c.args.from.now c.in-Some.ensures.taken c.requires

pub returns-in-Some : goal.returns-in-Some
returns-in-Some c =
    let taken = c.in-Some.ensures.taken in
    ap (λ (p : PoolView). p.out) c.give.ensures
    ∙ ap (λ (out : List Bool). set out c.in-Some.to false) (c.copies-copied.ensures ∙ ap (λ (p : PoolView). p.out) taken.taken)
    ∙ set-returned c.args.pool.now.out c.in-Some.to taken.free
