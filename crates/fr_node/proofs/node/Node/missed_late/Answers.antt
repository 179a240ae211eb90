use Rattle.std.proofs.Common.{ℤ, FitsSigned, w64, sym, subst}
use Rattle.std.specs.Prelude.{IfNone, IfSome}
use Rattle.std.proofs.lemmas.Int.{to_z-of_z}
use Rattle.fr_base.specs.declared.node_row.NodeRow.{NodeRow}
use Rattle.fr_time.specs.Instant.{IsSlotOf}
use Rattle.fr_node.specs.Arrivals.{LiesInSlot, LiesOutside}
use Rattle.fr_node.proofs.node.Node.missed_late.Goals as goal

pub outside-requires : goal.outside-requires
outside-requires c = subst (λ row. IsSlotOf c.args.params.now row c.args.slot) (sym c.row-early.ensures.value) c.requires.slot

pub returns-clause-out : goal.returns-clause-out
returns-clause-out c =
    let a = c.args in
    let at : FitsSigned w64 a.at = c.ranges.at in
    let P : NodeRow → Type 0 = λ row. IfSome c.outside.result (LiesOutside a.params.now row a.slot a.at) in
    let Q : ℤ → Type 0 = λ at. IfSome c.outside.result (LiesOutside a.params.now c.row-early.result a.slot at) in
    subst P c.row-early.ensures.value (subst Q (to_z-of_z w64 a.at at) c.outside.ensures.out)

pub returns-clause-within : goal.returns-clause-within
returns-clause-within c =
    let a = c.args in
    let at : FitsSigned w64 a.at = c.ranges.at in
    let P : NodeRow → Type 0 = λ row. IfNone c.outside.result (LiesInSlot a.params.now row a.slot a.at) in
    let Q : ℤ → Type 0 = λ at. IfNone c.outside.result (LiesInSlot a.params.now c.row-early.result a.slot at) in
    subst P c.row-early.ensures.value (subst Q (to_z-of_z w64 a.at at) c.outside.ensures.within)
