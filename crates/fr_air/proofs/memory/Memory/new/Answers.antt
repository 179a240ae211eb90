use Rattle.std.proofs.Common.{◌*◌, ℕ, rules, arith}
use Rattle.std.specs.Prelude.{vec_capacity}
use Rattle.fr_air.proofs.Claiming.{memory-fresh}
use Rattle.fr_air.proofs.memory.Memory.new.Goals as goal

pub invariant_of-result : goal.invariant_of-result
invariant_of-result c =
    let n : ℕ = 2 * c.natural-slots.result in (
      memory-fresh c.in_ok-pool.pool c.in_ok-messages.messages.items c.in_ok-places.places.items n (vec_capacity c.in_ok-messages.messages) c.in_ok-pool.ensures c.in_ok-messages.ensures.items
          (c.in_ok-places.ensures.items_if_clones_equal (λ y is. search rules)) (omega (arith, c.in_ok-messages.ensures.capacity)),
      omega (arith, c.natural-words.ensures.to),
    )
