use Rattle.std.proofs.Common.{ℤ, FitsSigned, w64, sym, subst}
use Rattle.std.specs.Prelude.{IfNone, IfSome}
use Rattle.std.proofs.lemmas.Int.{to_z-of_z}
use Rattle.fr_base.specs.declared.node_row.NodeRow.{NodeRow}
use Rattle.fr_time.specs.Instant.{IsSlotOf}
use Rattle.fr_node.specs.Arrivals.{LiesInSlot, LiesOutside}
use Rattle.fr_node.specs.View.{node_row_of}
use Rattle.fr_node.proofs.node.Node.missed.Goals as goal

pub missed_late-requires-clause-slot : goal.missed_late-requires-clause-slot
missed_late-requires-clause-slot c = subst (λ row. IsSlotOf c.args.params.now row c.args.slot) c.requires.row c.requires.slot

pub returns-clause-out : goal.returns-clause-out
returns-clause-out c =
    let a = c.args in
    let at : FitsSigned w64 a.at = c.ranges.at in
    let P : NodeRow → Type 0 = λ row. IfSome c.missed_late.result (LiesOutside a.params.now row a.slot a.at) in
    let Q : ℤ → Type 0 = λ at. IfSome c.missed_late.result (LiesOutside a.params.now (node_row_of a.self.now) a.slot at) in
    subst P (sym c.requires.row) (subst Q (to_z-of_z w64 a.at at) c.missed_late.ensures.out)

pub returns-clause-within : goal.returns-clause-within
returns-clause-within c =
    let a = c.args in
    let at : FitsSigned w64 a.at = c.ranges.at in
    let P : NodeRow → Type 0 = λ row. IfNone c.missed_late.result (LiesInSlot a.params.now row a.slot a.at) in
    let Q : ℤ → Type 0 = λ at. IfNone c.missed_late.result (LiesInSlot a.params.now (node_row_of a.self.now) a.slot at) in
    subst P (sym c.requires.row) (subst Q (to_z-of_z w64 a.at at) c.missed_late.ensures.within)
