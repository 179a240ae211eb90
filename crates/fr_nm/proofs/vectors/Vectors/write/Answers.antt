use Rattle.fr_nm.specs.View.{VectorsView}
use Rattle.fr_nm.proofs.Lines.{all-cut, all-then}
use Rattle.fr_nm.proofs.vectors.Vectors.write.Goals as goal

pub returns-in_err-put_rows : goal.returns-in_err-put_rows
returns-in_err-put_rows g c =
    let i : VectorsView = record { width = c.self.inside.width; rows = c.self.inside.rows.entries; frames = c.self.inside.frames; ignored = c.self.inside.ignored } in
    all-cut i c.args.self.now c.from_residual.result c.self.view_is c.in_err-put_rows.ensures c.from_residual.ensures.0

pub returns : goal.returns
returns g c =
    let i : VectorsView = record { width = c.self.inside.width; rows = c.self.inside.rows.entries; frames = c.self.inside.frames; ignored = c.self.inside.ignored } in
    all-then i c.args.self.now c.total_line.result c.put_line.result c.self.view_is c.total_line.ensures c.in_ok-put_rows.ensures c.put_line.ensures
