use Rattle.std.proofs.Common.{rules, ◌≡◌, length, sym, ◌∙◌}
use Rattle.csv.specs.Records.{fields_of}
use Rattle.fr_drift.specs.Rows.{drift_row_of}
use Rattle.fr_drift.proofs.RowFacts.{row_of-six, kind_row-same}
use Rattle.fr_drift.proofs.rows.read_row.Goals as goal

pub returns-then-len-ne6-clause-said : goal.returns-then-len-ne6-clause-said
unfolding drift_row_of
returns-then-len-ne6-clause-said c = search rules

pub returns-clause-said : goal.returns-clause-said
returns-clause-said c =
    let six : length (fields_of c.args.row.now) ≡ 6 = sym c.len.ensures ∙ c.if-len-ne6.false in
    c.read_kind.ensures.said
    ∙ kind_row-same _ _ _ _ _ _ _ _ _ _ _ _ c.field.ensures c.field-2.ensures c.field-3.ensures c.field-4.ensures c.field-5.ensures c.field-6.ensures
    ∙ sym (row_of-six (fields_of c.args.row.now) six)
