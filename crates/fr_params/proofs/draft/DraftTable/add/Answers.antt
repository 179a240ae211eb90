use Rattle.std.proofs.Common.{rules, ◌≡◌, ◌∙◌, ap, sym, Ok}
use mir.Val.{to_z, of_z}
use mir.Syntax.{w64}
use Rattle.std.proofs.lemmas.Int.{to_z-of_z}
use Rattle.csv.specs.Records.{fields_of}
use Rattle.fr_params.specs.declared.rows.Row.TheVariants as said
use Rattle.fr_params.proofs.Taking.{takes-row, takes-version}
use Rattle.fr_params.proofs.draft.DraftTable.add.Goals as goal

pub returns-in-Ok-Version-clause-takes : goal.returns-in-Ok-Version-clause-takes
returns-in-Ok-Version-clause-takes c =
    rw c.role_of_version.ensures
    (takes-version c.args.self.now c.version_after-version.result (fields_of c.args.row.now) c.is_none-is_first.result c.version_after-version.ensures
    (sym c.in-Ok-Version.ensures.said ∙ ap Ok c.in-Ok-Version.field-0-is) (search rules))

pub returns-in-Ok-Param-clause-takes : goal.returns-in-Ok-Param-clause-takes
returns-in-Ok-Param-clause-takes c =
    let value : to_z w64 (of_z w64 c.in-Ok-Param.value) ≡ c.in-Ok-Param.value = to_z-of_z w64 c.in-Ok-Param.value (search rules) in
    takes-row c.args.self.now c.take_value.new.self c.version_after-version.result (fields_of c.args.row.now) (said.Param c.in-Ok-Param.name c.in-Ok-Param.value) c.take_value.result
    c.version_after-version.ensures (sym c.in-Ok-Param.ensures.said ∙ ap Ok c.in-Ok-Param.field-0-is) (rw value at c.take_value.ensures)

pub returns-in-Ok-Node-clause-takes : goal.returns-in-Ok-Node-clause-takes
returns-in-Ok-Node-clause-takes c =
    takes-row c.args.self.now c.take_node.new.self c.version_after-version.result (fields_of c.args.row.now) (said.Node c.in-Ok-Node.node) c.take_node.result
    c.version_after-version.ensures (sym c.in-Ok-Node.ensures.said ∙ ap Ok c.in-Ok-Node.field-0-is) c.take_node.ensures

pub returns-in-Ok-Slot-clause-takes : goal.returns-in-Ok-Slot-clause-takes
returns-in-Ok-Slot-clause-takes c =
    takes-row c.args.self.now c.take_slot.new.self c.version_after-version.result (fields_of c.args.row.now) (said.Slot c.in-Ok-Slot.slot) c.take_slot.result
    c.version_after-version.ensures (sym c.in-Ok-Slot.ensures.said ∙ ap Ok c.in-Ok-Slot.field-0-is) c.take_slot.ensures
