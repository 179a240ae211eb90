use Rattle.std.proofs.Common.{◌≡◌, ◌∙◌, sym, Ok}
use Rattle.csv.specs.Records.{fields_of}
use Rattle.fr_text.proofs.Lookups.{takes-said}
use Rattle.fr_nm.specs.Rows.{vectors_row_of}
use Rattle.fr_nm.specs.Reasons.{vectors_row_reason}
use Rattle.fr_nm.specs.Files.{HoldsEntries}
use Rattle.fr_nm.proofs.reading.ReadingTable.add.Goals as goal

pub returns-in-Ok-clause-takes : goal.returns-in-Ok-clause-takes
returns-in-Ok-clause-takes c =
    let says : vectors_row_of (fields_of c.args.row.now) ≡ Ok c.in-Ok.said = sym c.in_ok-why.ensures.said ∙ c.in-Ok.is in
    let takes = takes-said HoldsEntries vectors_row_of vectors_row_reason _ _ _ _ c.take.ensures (fields_of c.args.row.now) says in
    record { why = takes.why; adds = takes.adds }
