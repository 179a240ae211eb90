use Rattle.std.proofs.Common.{◌≡◌, ◌∙◌, sym, Ok}
use Rattle.fr_text.specs.Plain.{fields_of}
use Rattle.fr_text.proofs.Lookups.{takes-said}
use Rattle.fr_log.specs.Draft.{IsLogDraft}
use Rattle.fr_log.specs.Reasons.{log_row_reason}
use Rattle.fr_log.specs.Rows.{log_row_of}
use Rattle.fr_log.proofs.draft.DraftRecordTable.add.Goals as goal

pub returns-in-Ok-clause-takes : goal.returns-in-Ok-clause-takes
returns-in-Ok-clause-takes c =
    let p = c.args.self.now.params.now in
    let says : log_row_of (fields_of c.args.row.now) ≡ Ok c.in-Ok.said = sym c.in_ok-why.ensures.said ∙ c.in-Ok.is in
    let takes = takes-said IsLogDraft log_row_of (log_row_reason p) _ _ _ _ c.take.ensures.takes (fields_of c.args.row.now) says in
    record { why = takes.why; adds = takes.adds }
