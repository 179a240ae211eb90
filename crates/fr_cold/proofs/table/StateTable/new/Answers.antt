use Rattle.std.proofs.Common.{◌-◌, sym, subst, arith}
use Rattle.std.proofs.lemmas.List.{get_or-replicate}
use Rattle.fr_cold.specs.Moves.{IsTimely}
use Rattle.fr_cold.specs.declared.state.ColdState.{ColdState}
use Rattle.fr_cold.specs.declared.state.ColdState.TheVariants as state
use Rattle.fr_cold.proofs.table.StateTable.new.Goals as goal

pub invariant_of-result : goal.invariant_of-result
invariant_of-result c = λ k d below. subst (λ (s : ColdState). IsTimely s) (sym (get_or-replicate 64 k state.Off d below)) tt

pub returns : goal.returns
returns c = λ node number.
    let from = number.from in
    let to = number.to in
    get_or-replicate 64 (node - 1) state.Off state.Off (omega arith)
