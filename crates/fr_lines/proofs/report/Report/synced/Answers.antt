use Rattle.std.proofs.Common.{◌∙◌, ap}
use Rattle.fr_lines.specs.Held.{ReportView}
use Rattle.fr_lines.proofs.Holding.{tells_sync}
use Rattle.fr_lines.proofs.report.Report.synced.Goals as goal

pub returns-clause-told : goal.returns-clause-told
returns-clause-told c = tells_sync c.args.self.now c.synced.result (c.synced.ensures ∙ ap (λ (report : ReportView). report.gauge.synced) c.self.view_is)
