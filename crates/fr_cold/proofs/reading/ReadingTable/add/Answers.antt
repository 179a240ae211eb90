use Rattle.std.proofs.Common.{◌≡◌, ◌∙◌, ap, sym, Ok}
use Rattle.csv.specs.Records.{fields_of}
use Rattle.fr_text.proofs.Lookups.{takes-said}
use Rattle.fr_cold.specs.Rows.{power_row_of}
use Rattle.fr_cold.specs.Reasons.{power_row_reason}
use Rattle.fr_cold.specs.Draft.{IsPowerDraft}
use Rattle.fr_cold.specs.declared.rows.Row.TheVariants as row
use Rattle.fr_cold.proofs.reading.ReadingTable.add.Goals as goal

pub returns-in-Ok-Cycles-clause-takes : goal.returns-in-Ok-Cycles-clause-takes
returns-in-Ok-Cycles-clause-takes c =
    let p = c.args.self.now.params.now in
    let says : power_row_of (fields_of c.args.row.now) ≡ Ok (row.Cycles c.in-Ok-Cycles.count) = sym c.in-Ok-Cycles.ensures.said ∙ ap Ok c.in-Ok-Cycles.field-0-is in
    let takes = takes-said IsPowerDraft power_row_of (power_row_reason p) _ _ _ _ (c.take_cycles.ensures p) (fields_of c.args.row.now) says in
    record { why = takes.why; adds = takes.adds }

pub returns-in-Ok-Switched-clause-takes : goal.returns-in-Ok-Switched-clause-takes
returns-in-Ok-Switched-clause-takes c =
    let p = c.args.self.now.params.now in
    let says : power_row_of (fields_of c.args.row.now) ≡ Ok (row.Switched c.in-Ok-Switched.switch) = sym c.in-Ok-Switched.ensures.said ∙ ap Ok c.in-Ok-Switched.field-0-is in
    let takes = takes-said IsPowerDraft power_row_of (power_row_reason p) _ _ _ _ c.take_switch.ensures (fields_of c.args.row.now) says in
    record { why = takes.why; adds = takes.adds }
