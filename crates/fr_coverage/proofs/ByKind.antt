-- What is found of each kind along the nodes of a run.
use Rattle.std.proofs.Common.{◌≡◌, ℕ, List, Option, ap, ◌∙◌, refl}
use Rattle.fr_cluster.specs.Values.{Values}
use Rattle.fr_cluster.specs.declared.nodes.NodeSpec.{NodeSpec}
use Rattle.fr_drift.specs.View.{DriftView}
use Rattle.fr_script.specs.View.{ScriptView}
use Rattle.fr_coverage.specs.First.{first_in}
use Rattle.fr_coverage.specs.Coverage.{changes_gap, count_gap, delays_gap, first_of_nodes, first_of_pairs, lengths_gap, links_gap, weighed}
use Rattle.fr_coverage.specs.Kinds.{gaps_by_kind}
use Rattle.fr_coverage.specs.declared.gap.Gap.{Gap}
use Rattle.fr_coverage.specs.declared.gap.RunGaps.{RunGaps}

abbrev pub five : Option Gap → Option Gap → Option Gap → Option Gap → Option Gap → RunGaps
five a b c d e = record { count = a; lengths = b; changes = c; delays = d; links = e }

same-five : (a b c d e a' b' c' d' e' : Option Gap) → a ≡ a' → b ≡ b' → c ≡ c' → d ≡ d' → e ≡ e' → five a b c d e ≡ five a' b' c' d' e'
same-five a b c d e a' b' c' d' e' one two three four last = rw (one, two, three, four, last) refl

pub by-kind : (p : Values) (d : DriftView) (s : ScriptView) (from : ℕ) (nodes : List NodeSpec) (count lengths changes delays links : Option Gap) → nodes ≡ p.nodes
    → count ≡ weighed nodes s → lengths ≡ first_in (lengths_gap p d s from) nodes → changes ≡ first_in (changes_gap p d s from) nodes
    → delays ≡ first_in (λ a. first_in (delays_gap p d s from a) p.nodes) nodes → links ≡ first_in (λ a. first_in (links_gap d s from a) p.nodes) nodes
    → five count lengths changes delays links ≡ gaps_by_kind p d s from
by-kind p d s from nodes count lengths changes delays links same a b c e f =
    same-five count lengths changes delays links
    (count_gap p s) (first_of_nodes p (lengths_gap p d s from)) (first_of_nodes p (changes_gap p d s from)) (first_of_pairs p (delays_gap p d s from)) (first_of_pairs p (links_gap d s from))
    (a ∙ ap (λ (ns : List NodeSpec). weighed ns s) same)
    (b ∙ ap (λ (ns : List NodeSpec). first_in (lengths_gap p d s from) ns) same)
    (c ∙ ap (λ (ns : List NodeSpec). first_in (changes_gap p d s from) ns) same)
    (e ∙ ap (λ (ns : List NodeSpec). first_in (λ a. first_in (delays_gap p d s from a) p.nodes) ns) same)
    (f ∙ ap (λ (ns : List NodeSpec). first_in (λ a. first_in (links_gap d s from a) p.nodes) ns) same)
