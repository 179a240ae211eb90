use Rattle.std.proofs.Common.{◌≡◌, ◌≤◌, sym, subst, rules}
use mir.Val.{to_z, of_z}
use mir.Syntax.{w64}
use Rattle.std.proofs.lemmas.Int.{to_z-of_z}
use Rattle.fr_drift.specs.Keys.{length_key}
use Rattle.fr_drift.specs.View.{DriftView}
use Rattle.fr_drift.specs.Inside.{view_of}
use Rattle.fr_drift.specs.Written.{length_record}
use Rattle.fr_drift.specs.Adding.{AddsDriftRecord, TakesDriftRecord}
use Rattle.fr_drift.proofs.Adding.{adds-length, length-free, sane-length, says-length}
use Rattle.fr_drift.proofs.drift.Drift.set_length.Goals as goal

pub enter-requires : goal.enter-requires
enter-requires c =
    let low : 1 ≤ c.args.node = rw c.node.view_is at c.node.invariant.0 in
    let high : c.args.node ≤ 64 = rw c.node.view_is at c.node.invariant.1 in
    let taken : TakesDriftRecord c.args.params.now (view_of c.self.inside) (length_record c.args.node c.args.from c.args.ticks) =
    subst (λ (d : DriftView). TakesDriftRecord c.args.params.now d (length_record c.args.node c.args.from c.args.ticks)) (sym c.self.view_is) c.requires.taken in
    length-free c.args.params.now c.self.inside (length_record c.args.node c.args.from c.args.ticks) (record { node = c.args.node; from = c.args.from; ticks = c.args.ticks })
    (says-length c.args.node c.args.from c.args.ticks low high c.requires.limited c.requires.proper) taken

pub invariant_of-self : goal.invariant_of-self
invariant_of-self c =
    let ticks : to_z w64 (of_z w64 c.args.ticks) ≡ c.args.ticks = to_z-of_z w64 c.args.ticks (search rules) in
    sane-length c.self.inside c.enter.new.rows (length_key c.args.node c.args.from) c.args.ticks c.enter.result c.self.invariant c.requires.proper (rw ticks at c.enter.ensures)

pub returns : goal.returns
returns c =
    let ticks : to_z w64 (of_z w64 c.args.ticks) ≡ c.args.ticks = to_z-of_z w64 c.args.ticks (search rules) in
    let low : 1 ≤ c.args.node = rw c.node.view_is at c.node.invariant.0 in
    let high : c.args.node ≤ 64 = rw c.node.view_is at c.node.invariant.1 in
    let taken : TakesDriftRecord c.args.params.now (view_of c.self.inside) (length_record c.args.node c.args.from c.args.ticks) =
    subst (λ (d : DriftView). TakesDriftRecord c.args.params.now d (length_record c.args.node c.args.from c.args.ticks)) (sym c.self.view_is) c.requires.taken in
    subst (λ (d : DriftView). AddsDriftRecord c.args.params.now d (view_of (record c.self.inside { lengths = c.enter.new.rows })) (length_record c.args.node c.args.from c.args.ticks) c.enter.result) c.self.view_is
    (adds-length c.args.params.now c.self.inside c.enter.new.rows (length_record c.args.node c.args.from c.args.ticks) (record { node = c.args.node; from = c.args.from; ticks = c.args.ticks }) c.enter.result c.self.invariant c.requires.proper
    (says-length c.args.node c.args.from c.args.ticks low high c.requires.limited c.requires.proper) taken (rw ticks at c.enter.ensures))
