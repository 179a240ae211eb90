use Rattle.std.proofs.Common.{rules, ◌≡◌, length, sym, ◌∙◌}
use Rattle.csv.specs.Records.{fields_of}
use Rattle.fr_params.specs.Rows.{param_row_of}
use Rattle.fr_params.proofs.Tables.{row_of-five, kind_row-same}
use Rattle.fr_params.proofs.rows.read_row.Goals as goal

pub returns-then-len-ne5-clause-said : goal.returns-then-len-ne5-clause-said
unfolding param_row_of
returns-then-len-ne5-clause-said c = search rules

pub returns-clause-said : goal.returns-clause-said
returns-clause-said c =
    let five : length (fields_of c.args.row.now) ≡ 5 = sym c.len.ensures ∙ c.if-len-ne5.false in
    c.read_kind.ensures.said
    ∙ kind_row-same c.args.version _ _ _ _ _ _ _ _ _ _ c.field.ensures c.field-2.ensures c.field-3.ensures c.field-4.ensures c.field-5.ensures
    ∙ sym (row_of-five c.args.version (fields_of c.args.row.now) five)
