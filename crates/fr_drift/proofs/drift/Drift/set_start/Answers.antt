use Rattle.std.proofs.Common.{◌≡◌, ◌≤◌, sym, subst, rules}
use mir.Val.{to_z, of_z}
use mir.Syntax.{w32, w64}
use Rattle.std.proofs.lemmas.Int.{to_z-of_z}
use Rattle.fr_drift.specs.View.{DriftView}
use Rattle.fr_drift.specs.Inside.{view_of}
use Rattle.fr_drift.specs.Written.{start_record}
use Rattle.fr_drift.specs.Adding.{AddsDriftRecord, TakesDriftRecord}
use Rattle.fr_drift.proofs.Adding.{adds-start, sane-start, says-start, start-free}
use Rattle.fr_drift.proofs.drift.Drift.set_start.Goals as goal

pub enter-requires : goal.enter-requires
enter-requires c =
    let low : 1 ≤ c.args.node = rw c.node.view_is at c.node.invariant.0 in
    let high : c.args.node ≤ 64 = rw c.node.view_is at c.node.invariant.1 in
    let taken : TakesDriftRecord c.args.params.now (view_of c.self.inside) (start_record c.args.node c.args.ticks c.args.rate) =
    subst (λ (d : DriftView). TakesDriftRecord c.args.params.now d (start_record c.args.node c.args.ticks c.args.rate)) (sym c.self.view_is) c.requires.taken in
    start-free c.args.params.now c.self.inside (start_record c.args.node c.args.ticks c.args.rate) (record { node = c.args.node; start = record { ticks = c.args.ticks; rate = c.args.rate } })
    (says-start c.args.node (record { ticks = c.args.ticks; rate = c.args.rate }) low high c.requires.proper) taken

pub invariant_of-self : goal.invariant_of-self
invariant_of-self c =
    let ticks : to_z w64 (of_z w64 c.args.ticks) ≡ c.args.ticks = to_z-of_z w64 c.args.ticks (search rules) in
    let rate : to_z w32 (of_z w32 c.args.rate) ≡ c.args.rate = to_z-of_z w32 c.args.rate (search rules) in
    sane-start c.self.inside c.enter.new.rows c.args.node (record { ticks = c.args.ticks; rate = c.args.rate }) c.enter.result c.self.invariant c.requires.proper
    (rw (ticks, rate) at c.enter.ensures)

pub returns : goal.returns
returns c =
    let ticks : to_z w64 (of_z w64 c.args.ticks) ≡ c.args.ticks = to_z-of_z w64 c.args.ticks (search rules) in
    let rate : to_z w32 (of_z w32 c.args.rate) ≡ c.args.rate = to_z-of_z w32 c.args.rate (search rules) in
    let low : 1 ≤ c.args.node = rw c.node.view_is at c.node.invariant.0 in
    let high : c.args.node ≤ 64 = rw c.node.view_is at c.node.invariant.1 in
    let taken : TakesDriftRecord c.args.params.now (view_of c.self.inside) (start_record c.args.node c.args.ticks c.args.rate) =
    subst (λ (d : DriftView). TakesDriftRecord c.args.params.now d (start_record c.args.node c.args.ticks c.args.rate)) (sym c.self.view_is) c.requires.taken in
    subst (λ (d : DriftView). AddsDriftRecord c.args.params.now d (view_of (record c.self.inside { starts = c.enter.new.rows })) (start_record c.args.node c.args.ticks c.args.rate) c.enter.result) c.self.view_is
    (adds-start c.args.params.now c.self.inside c.enter.new.rows (start_record c.args.node c.args.ticks c.args.rate) (record { node = c.args.node; start = record { ticks = c.args.ticks; rate = c.args.rate } }) c.enter.result c.self.invariant c.requires.proper
    (says-start c.args.node (record { ticks = c.args.ticks; rate = c.args.rate }) low high c.requires.proper) taken (rw (ticks, rate) at c.enter.ensures))
