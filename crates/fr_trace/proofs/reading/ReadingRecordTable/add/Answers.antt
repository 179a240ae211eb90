use Rattle.std.proofs.Common.{◌≡◌, sym, Ok}
use Rattle.fr_text.specs.Plain.{fields_of}
use Rattle.fr_text.proofs.Lookups.{takes-said}
use Rattle.fr_trace.specs.Rows.{trace_row_of}
use Rattle.fr_trace.specs.Reasons.{trace_reason_after, trace_row_reason}
use Rattle.fr_trace.specs.Draft.{HoldsTrace}
use Rattle.fr_trace.specs.declared.rows.Row.TheVariants as row
use Rattle.fr_trace.proofs.reading.ReadingRecordTable.add.Goals as goal

pub returns-in-Ok-clause-takes : goal.returns-in-Ok-clause-takes
returns-in-Ok-clause-takes c =
    let p = c.args.self.now.params.now in
    let says : trace_row_of (fields_of c.args.row.now) ≡ Ok (row.Heard c.in-Ok.heard) = sym c.in-Ok.ensures.said in
    let takes = takes-said (HoldsTrace (trace_reason_after p)) trace_row_of (trace_row_reason p) _ _ _ _ c.take_heard.ensures (fields_of c.args.row.now) says in
    record { why = takes.why; adds = takes.adds }

pub returns-in-Ok-read_row-clause-takes : goal.returns-in-Ok-read_row-clause-takes
returns-in-Ok-read_row-clause-takes c =
    let p = c.args.self.now.params.now in
    let says : trace_row_of (fields_of c.args.row.now) ≡ Ok c.in-Ok-read_row.said = sym c.in-Ok-read_row.ensures.said in
    let takes = takes-said (HoldsTrace (trace_reason_after p)) trace_row_of (trace_row_reason p) _ _ _ _ c.take.ensures (fields_of c.args.row.now) says in
    record { why = takes.why; adds = takes.adds }
