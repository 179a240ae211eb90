use Rattle.std.proofs.Common.{◌≡◌, length, rules}
use Rattle.fr_script.proofs.Columns.{seven-listed}
use Rattle.fr_script.proofs.fields.Fields.of.Goals as goal

pub returns-clause-listed : goal.returns-clause-listed
returns-clause-listed c =
    let seven : length c.args.row.now ≡ 7 = search rules in
    rw (c.field.ensures, c.field-2.ensures, c.field-3.ensures, c.field-4.ensures, c.field-5.ensures, c.field-6.ensures, c.field-7.ensures) (seven-listed c.args.row.now seven)
