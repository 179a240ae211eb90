use Rattle.std.proofs.Common.{subst, sym}
use Rattle.std.specs.Prelude.{All}
use Rattle.fr_time.specs.Placed.{IsPlacedRow}
use Rattle.fr_lines.specs.Held.{ReportView}
use Rattle.fr_lines.proofs.report.Report.gather.Goals as goal

pub add-requires-clause-rows : goal.add-requires-clause-rows
add-requires-clause-rows c =
    let P : ReportView → Type 0 = λ report. All (IsPlacedRow report.gauge.grid) c.args.row.now.rows in
    subst P (sym c.self.view_is) c.requires.placed
