use Rattle.std.proofs.Common.{◌≡◌, ◌∙◌, FitsSigned, List, length, nat_abs, to_z, of_z, w64, ap, rules}
use Rattle.std.specs.Prelude.{filter}
use Rattle.std.specs.Result.{result_err}
use Rattle.std.proofs.lemmas.Int.{to_z-of_z}
use Rattle.fr_bound.specs.Bounds.{precision_of}
use Rattle.fr_cluster.specs.Constraints.{key_slots}
use Rattle.fr_cluster.specs.Setting.{Setting}
use Rattle.fr_cluster.specs.Values.{Values}
use Rattle.fr_cluster.specs.declared.nodes.NodeSpec.{NodeSpec}
use Rattle.fr_coverage.specs.Decided.{setting_of}
use Rattle.fr_script.specs.View.{is_arbitrary}
use Rattle.fr_lines.specs.Held.{ReportView}
use Rattle.fr_lines.specs.Told.{arbitrary_nodes}
use Rattle.fr_lines.proofs.Telling.{told_is}
use Rattle.fr_lines.proofs.report.Report.told.Goals as goal

pub returns : goal.returns
returns c = λ h held behind.
    let p = c.args.params.now in
    let x : Setting = setting_of p c.args.drift.now c.args.script.now in
    let report = c.args.self.now in
    let fits : FitsSigned w64 c.bounds.result.precision = search rules in
    let list : c.params.inside.nodes ≡ p.nodes = ap (λ (p : Values). p.nodes) c.params.view_is in
    let nodes : c.len.result ≡ length p.nodes = search rules in
    let sync : c.sync_count.result ≡ length (key_slots p.nodes) = search rules in
    let arbitrary : c.arbitrary_count.result ≡ length (arbitrary_nodes x) =
    c.arbitrary_count.ensures ∙ ap (λ (nodes : List NodeSpec). length (filter (λ node. is_arbitrary c.args.script.now node.id) nodes)) list in
    let doubles : c.doubles.result ≡ x.doubles = search rules in
    let precision : nat_abs (to_z w64 (of_z w64 c.bounds.result.precision)) ≡ precision_of p =
    ap nat_abs (to_z-of_z w64 c.bounds.result.precision fits ∙ c.bounds.ensures.precision) in
    let gap : c.err.result ≡ result_err c.args.gap = search rules in
    let synced : c.synced.result ≡ report.gauge.synced = c.synced.ensures ∙ ap (λ (r : ReportView). r.gauge.synced) c.self.view_is in
    let greatest : c.greatest.result ≡ report.gauge.greatest = c.greatest.ensures.value ∙ ap (λ (r : ReportView). r.gauge.greatest) c.self.view_is in
    let sums : c.self.inside.sums ≡ report.sums = ap (λ (r : ReportView). r.sums) c.self.view_is in
    let cut : c.self.inside.cut ≡ report.cut = ap (λ (r : ReportView). r.cut) c.self.view_is in
    rw (nodes, sync, arbitrary, doubles, precision, gap, synced, greatest, sums, cut)
    (told_is x (result_err c.args.gap) report c.args.clocks h behind held)
