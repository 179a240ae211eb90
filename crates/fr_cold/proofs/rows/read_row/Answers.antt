use Rattle.std.proofs.Common.{rules, ◌≡◌, length, sym, ◌∙◌}
use Rattle.csv.specs.Records.{fields_of}
use Rattle.fr_cold.specs.Rows.{power_row_of}
use Rattle.fr_cold.proofs.RowFacts.{row_of-three, kind_row-same}
use Rattle.fr_cold.proofs.rows.read_row.Goals as goal

pub returns-then-len-ne3-clause-said : goal.returns-then-len-ne3-clause-said
unfolding power_row_of
returns-then-len-ne3-clause-said c = search rules

pub returns-clause-said : goal.returns-clause-said
returns-clause-said c =
    let three : length (fields_of c.args.row.now) ≡ 3 = sym c.len.ensures ∙ c.if-len-ne3.false in
    c.read_kind.ensures.said
    ∙ kind_row-same _ _ _ _ _ _ c.field.ensures c.field-2.ensures c.field-3.ensures
    ∙ sym (row_of-three (fields_of c.args.row.now) three)
