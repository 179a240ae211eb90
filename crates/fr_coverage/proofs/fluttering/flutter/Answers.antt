use Rattle.std.proofs.Common.{◌≡◌, List, Option, ap, ◌∙◌, subst, sym}
use Rattle.fr_cluster.specs.Sane.{IsSane}
use Rattle.fr_cluster.specs.Values.{Values}
use Rattle.fr_cluster.specs.declared.nodes.NodeSpec.{NodeSpec}
use Rattle.fr_coverage.specs.Flutter.{fluttering_between, fluttering_from, told_in, TellsFluttering}
use Rattle.fr_coverage.specs.declared.gap.Fluttering.{Fluttering}
use Rattle.fr_coverage.proofs.Placed.{tells_fluttering}
use Rattle.fr_coverage.proofs.fluttering.flutter.Goals as goal

pub returns-clause-told : goal.returns-clause-told
unfolding fluttering_from
returns-clause-told c =
    let p : Values = c.args.params.now in
    let d = c.args.drift.now in
    let s = c.args.script.now in
    let from = c.args.from in
    let sane : IsSane p = subst IsSane c.params.view_is c.params.invariant in
    let T : Option Fluttering → Type 0 = λ found. TellsFluttering p d s from found in
    let same : c.told_among.result ≡ fluttering_from p d s from =
    c.told_among.ensures.value
    ∙ ap (λ (ns : List NodeSpec). told_in (λ a. told_in (fluttering_between d s from a) p.nodes) ns) (ap (λ (v : Values). v.nodes) c.params.view_is) in
    subst T (sym same) (tells_fluttering p d s from sane.lists.nodes_ascend)
