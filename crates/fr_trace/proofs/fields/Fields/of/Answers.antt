use Rattle.std.proofs.Common.{sym, ◌∙◌}
use Rattle.fr_trace.proofs.RowFacts.{eight-fields}
use Rattle.fr_trace.proofs.fields.Fields.of.Goals as goal

pub returns-clause-found : goal.returns-clause-found
returns-clause-found c =
    rw (c.field.ensures, c.field-2.ensures, c.field-3.ensures, c.field-4.ensures, c.field-5.ensures, c.field-6.ensures, c.field-7.ensures, c.field-8.ensures)
    (eight-fields c.args.row.now (sym c.len.ensures ∙ c.if-len-ne8.false))
