use Rattle.std.proofs.Common.{◌≡◌, ◌∙◌, FitsSigned, Some, pos, to_z, of_z, w64, ap, sym, rules}
use Rattle.std.proofs.lemmas.Int.{to_z-of_z}
use Rattle.fr_skew.specs.declared.peak.Peak.{Peak}
use Rattle.fr_lines.specs.Held.{ReportView}
use Rattle.fr_lines.proofs.Holding.{greatest_is_told}
use Rattle.fr_lines.proofs.report.Report.greatest.Goals as goal

pub returns : goal.returns
returns c =
    let report = c.args.self.now in
    let peak : Peak = c.in-Some.peak in
    let told : report.gauge.greatest ≡ Some peak = sym (ap (λ (r : ReportView). r.gauge.greatest) c.self.view_is) ∙ sym c.greatest.ensures.value ∙ c.in-Some.is in
    let fits : FitsSigned w64 peak.skew = search rules in
    let skew : to_z w64 (of_z w64 peak.skew) ≡ peak.skew = to_z-of_z w64 peak.skew fits in
    let from : to_z w64 (of_z w64 c.from.result) ≡ pos peak.macrotick = search rules in
    rw (skew, from) (greatest_is_told report peak told)
