use Rattle.std.proofs.Common.{◌≡◌, ◌∙◌, List, Some, slice_get, ap, sym, subst}
use Rattle.fr_cluster.specs.Sane.{IsSane}
use Rattle.fr_cluster.specs.Values.{Values}
use Rattle.fr_cluster.specs.declared.nodes.NodeSpec.{NodeSpec}
use Rattle.fr_sightings.proofs.Gathering.{static-key}
use Rattle.fr_sightings.proofs.sending.static_node.Goals as goal

pub returns-clause-value : goal.returns-clause-value
returns-clause-value c =
    let are : c.params.inside.nodes ≡ c.args.params.now.nodes = ap (λ (p : Values). p.nodes) c.params.view_is in
    ap (λ (l : List NodeSpec). slice_get l c.args.place) (sym are) ∙ c.node_at.ensures

pub returns-clause-key : goal.returns-clause-key
returns-clause-key c =
    let are : c.params.inside.nodes ≡ c.args.params.now.nodes = ap (λ (p : Values). p.nodes) c.params.view_is in
    let is : slice_get c.args.params.now.nodes c.args.place ≡ Some c.node_at.result.now =
    ap (λ (l : List NodeSpec). slice_get l c.args.place) (sym are) ∙ c.node_at.ensures in
    static-key c.args.params.now c.args.place c.node_at.result.now (subst IsSane c.params.view_is c.params.invariant) is
