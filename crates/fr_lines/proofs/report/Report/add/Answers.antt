use Rattle.std.proofs.Common.{◌∷◌, subst, sym}
use Rattle.fr_lines.specs.Held.{ReportHolds, ReportView}
use Rattle.fr_lines.proofs.Holding.{holds_more}
use Rattle.fr_lines.proofs.report.Report.add.Goals as goal

pub returns : goal.returns
returns c = λ p h cycle tells held.
    let P : ReportView → Type 0 = λ report. ReportHolds p report (cycle ∷ h) in
    subst P (sym c.gather.ensures) (holds_more p c.args.self.now c.args.row.now c.args.following cycle h c.requires.next tells held)
