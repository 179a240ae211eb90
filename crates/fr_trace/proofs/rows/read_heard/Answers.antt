use Rattle.std.proofs.Common.{ap, sym, ◌∙◌}
use Rattle.fr_trace.specs.Rows.{is_heard_record, trace_row_of}
use Rattle.fr_trace.proofs.RowFacts.{row_of-heard}
use Rattle.fr_trace.proofs.rows.read_heard.Goals as goal

pub returns-in-Some-clause-said : goal.returns-in-Some-clause-said
returns-in-Some-clause-said c =
    let found = c.in-Some.ensures.found in
    c.read_fields.ensures.said
    ∙ row_of-heard _ _ _ _ _ _ _ _ (ap is_heard_record (sym found) ∙ c.requires)
    ∙ ap trace_row_of (sym found)
