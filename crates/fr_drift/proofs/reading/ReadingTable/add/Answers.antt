use Rattle.std.proofs.Common.{◌≡◌, ◌∙◌, ap, sym, Ok}
use Rattle.csv.specs.Records.{fields_of}
use Rattle.fr_text.proofs.Lookups.{takes-said}
use Rattle.fr_drift.specs.Rows.{drift_row_of}
use Rattle.fr_drift.specs.Reasons.{drift_row_reason}
use Rattle.fr_drift.specs.Draft.{IsDriftDraft}
use Rattle.fr_drift.specs.declared.rows.Row.TheVariants as row
use Rattle.fr_drift.proofs.reading.ReadingTable.add.Goals as goal

pub returns-in-Ok-Doubles-clause-takes : goal.returns-in-Ok-Doubles-clause-takes
returns-in-Ok-Doubles-clause-takes c =
    let p = c.args.self.now.params.now in
    let says : drift_row_of (fields_of c.args.row.now) ≡ Ok (row.Doubles c.in-Ok-Doubles.count) = sym c.in-Ok-Doubles.ensures.said ∙ ap Ok c.in-Ok-Doubles.field-0-is in
    let takes = takes-said IsDriftDraft drift_row_of (drift_row_reason p) _ _ _ _ (c.take_doubles.ensures p) (fields_of c.args.row.now) says in
    record { why = takes.why; adds = takes.adds }

pub returns-in-Ok-Start-clause-takes : goal.returns-in-Ok-Start-clause-takes
returns-in-Ok-Start-clause-takes c =
    let p = c.args.self.now.params.now in
    let says : drift_row_of (fields_of c.args.row.now) ≡ Ok (row.Start c.in-Ok-Start.start) = sym c.in-Ok-Start.ensures.said ∙ ap Ok c.in-Ok-Start.field-0-is in
    let takes = takes-said IsDriftDraft drift_row_of (drift_row_reason p) _ _ _ _ c.take_start.ensures (fields_of c.args.row.now) says in
    record { why = takes.why; adds = takes.adds }

pub returns-in-Ok-Length-clause-takes : goal.returns-in-Ok-Length-clause-takes
returns-in-Ok-Length-clause-takes c =
    let p = c.args.self.now.params.now in
    let says : drift_row_of (fields_of c.args.row.now) ≡ Ok (row.Length c.in-Ok-Length.length) = sym c.in-Ok-Length.ensures.said ∙ ap Ok c.in-Ok-Length.field-0-is in
    let takes = takes-said IsDriftDraft drift_row_of (drift_row_reason p) _ _ _ _ c.take_length.ensures (fields_of c.args.row.now) says in
    record { why = takes.why; adds = takes.adds }

pub returns-in-Ok-Delay-clause-takes : goal.returns-in-Ok-Delay-clause-takes
returns-in-Ok-Delay-clause-takes c =
    let p = c.args.self.now.params.now in
    let says : drift_row_of (fields_of c.args.row.now) ≡ Ok (row.Delay c.in-Ok-Delay.delay) = sym c.in-Ok-Delay.ensures.said ∙ ap Ok c.in-Ok-Delay.field-0-is in
    let takes = takes-said IsDriftDraft drift_row_of (drift_row_reason p) _ _ _ _ c.take_delay.ensures (fields_of c.args.row.now) says in
    record { why = takes.why; adds = takes.adds }
