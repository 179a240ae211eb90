use Rattle.std.proofs.Common.{rules, ◌≡◌, ◌≤◌, ◌+◌, ◌*◌, ℕ, subst, sym}
use Rattle.fr_cluster.specs.Values.{amount}
use Rattle.fr_cluster.specs.declared.names.ParamName.TheVariants as name
use Rattle.fr_bound.specs.SharpBounds.{last_action}
use Rattle.fr_bound.proofs.SharpNumbers.{acts_within}
use Rattle.fr_bound.proofs.sharp_bounding.last_action.Goals as goal

pub returns-clause-within : goal.returns-clause-within
returns-clause-within c =
    let is : c.saturating_sub-before.result * c.natural.result + c.natural-2.result ≡ last_action c.args.params.now = search rules in
    subst (λ (n : ℕ). n ≤ amount c.args.params.now name.gMacroPerCycle) (sym is) (acts_within c.args.params.now c.value-macros.ensures.sane)
