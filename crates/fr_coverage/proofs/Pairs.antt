-- The gaps of pairs of nodes, one kind after the other.
use Rattle.std.proofs.Common.{◌≡◌, ℕ, List, Option, None, ap, sym, ◌∙◌}
use Rattle.std.specs.Option.{option_or}
use Rattle.fr_cluster.specs.Values.{Values}
use Rattle.fr_cluster.specs.declared.nodes.NodeSpec.{NodeSpec}
use Rattle.fr_drift.specs.View.{DriftView}
use Rattle.fr_script.specs.View.{ScriptView}
use Rattle.fr_coverage.specs.First.{first_in}
use Rattle.fr_coverage.specs.Coverage.{delays_gap, links_gap, first_of_pairs, pairs_gap}
use Rattle.fr_coverage.specs.declared.gap.Gap.{Gap}

-- where no delay is a gap the first is of a link
pub pairs-last : (p : Values) (d : DriftView) (s : ScriptView) (from : ℕ) (nodes : List NodeSpec) (found : Option Gap) → nodes ≡ p.nodes
    → None ≡ first_in (λ a. first_in (delays_gap p d s from a) p.nodes) nodes → found ≡ first_in (λ a. first_in (links_gap d s from a) p.nodes) nodes → found ≡ pairs_gap p d s from
pairs-last p d s from nodes found same none e =
    let delays : first_of_pairs p (delays_gap p d s from) ≡ None =
    ap (λ (ns : List NodeSpec). first_in (λ a. first_in (delays_gap p d s from a) p.nodes) ns) (sym same) ∙ sym none in
    let links : found ≡ first_of_pairs p (links_gap d s from) =
    e ∙ ap (λ (ns : List NodeSpec). first_in (λ a. first_in (links_gap d s from a) p.nodes) ns) same in
    links ∙ sym (ap (λ (o : Option Gap). option_or o (first_of_pairs p (links_gap d s from))) delays)
