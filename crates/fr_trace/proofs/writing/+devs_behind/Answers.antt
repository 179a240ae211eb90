use Rattle.std.proofs.Common.{◌≡◌, ◌∷◌, sym, subst, rules}
use Rattle.fr_base.specs.Rows.{AreAscendingDevs, IsEarlierDev}
use Rattle.fr_trace.proofs.Nodes.{pairs-rest}
use Rattle.fr_trace.proofs.writing.+devs_behind.Goals as goal

pub returns-else-node-dev-clause-ascending : goal.returns-else-node-dev-clause-ascending
returns-else-node-dev-clause-ascending t c = λ ascend.
    let parts : c.in-Some.dev.now ∷ c.in-Some.rest.now ≡ c.args.devs.now = search rules in
    c.devs_behind.ensures.ascending (pairs-rest IsEarlierDev c.in-Some.dev.now c.in-Some.rest.now (subst AreAscendingDevs (sym parts) ascend))
