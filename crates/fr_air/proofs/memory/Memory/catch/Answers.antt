use Rattle.std.proofs.Common.{◌∙◌, length}
use Rattle.std.specs.Prelude.{vec_capacity}
use Rattle.fr_air.proofs.Claiming.{spare}
use Rattle.fr_air.proofs.Messages.{memory-same}
use Rattle.fr_air.proofs.memory.Memory.catch.Goals as goal

pub catch_copy-requires-clause-spare : goal.catch_copy-requires-clause-spare
catch_copy-requires-clause-spare c =
    let m = c.self.inside in
    spare m.pool m.messages.items m.places.items (vec_capacity m.messages) m.said c.self.invariant.0

pub returns-clause-stays : goal.returns-clause-stays
returns-clause-stays c =
    let m = c.self.inside in
    memory-same (length m.places.items) m.bytes m.pool c.catch_copy.new.pool m.messages.items m.said c.self.invariant.0.cells c.catch_copy.ensures.stays ∙ c.self.view_is
