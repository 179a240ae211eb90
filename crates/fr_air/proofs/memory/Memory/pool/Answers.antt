use Rattle.std.proofs.Common.{◌∙◌, ap, subst}
use Rattle.std.specs.Prelude.{vec_capacity}
use Rattle.fr_air.specs.Memory.{IsPoolOf, MemoryView}
use Rattle.fr_air.proofs.Messages.{pool-of}
use Rattle.fr_air.proofs.memory.Memory.pool.Goals as goal

pub returns : goal.returns
returns c =
    let m = c.self.inside in
    let P : MemoryView → Type 0 = λ memory. IsPoolOf memory m.pool in
    subst P c.self.view_is (pool-of m.bytes m.pool m.messages.items m.places.items (vec_capacity m.messages) m.said c.self.invariant.0 (ap (λ (memory : MemoryView). memory.said) c.self.view_is ∙ c.requires))
