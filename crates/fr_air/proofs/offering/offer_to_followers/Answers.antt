use Rattle.std.proofs.Common.{rules}
use Rattle.fr_air.proofs.Loops.{swept-none}
use Rattle.fr_air.specs.Turns.{heard_on_air}
use Rattle.fr_air.proofs.offering.offer_to_followers.Goals as goal

pub returns-then-is_empty-clause-heard : goal.returns-then-is_empty-clause-heard
returns-then-is_empty-clause-heard c =
    let a = c.args in
    swept-none (heard_on_air a.files.now a.air.now a.memory.now) a.followers.now (search rules)
