-- The gaps of a run from a double cycle on, kind by kind, of which the first of each is told.
use Rattle.std.specs.Prelude.{ℕ, ◌≡◌, Option, Some, None}
use Rattle.std.specs.Option.{option_or}
use Rattle.fr_cluster.specs.Values.{Values}
use Rattle.fr_drift.specs.View.{DriftView}
use Rattle.fr_script.specs.View.{ScriptView}
use Rattle.fr_coverage.specs.Coverage.{count_gap, lengths_gap, changes_gap, delays_gap, links_gap, first_of_nodes, first_of_pairs}
use Rattle.fr_coverage.specs.Order.{IsBehind, IsEarlierGap, IsCountGap, IsLengthGap, IsChangeGap, IsDelayGap, IsLinkGap}
use Rattle.fr_coverage.specs.declared.gap.Gap.{Gap}
use Rattle.fr_coverage.specs.declared.gap.RunGaps.{RunGaps}

-- the first of each kind, where there is one
abbrev pub gaps_by_kind : Values → DriftView → ScriptView → ℕ → RunGaps
gaps_by_kind p d s from = record {
  count = count_gap p s;
  lengths = first_of_nodes p (lengths_gap p d s from);
  changes = first_of_nodes p (changes_gap p d s from);
  delays = first_of_pairs p (delays_gap p d s from);
  links = first_of_pairs p (links_gap d s from);
}

-- the first of all, if there is one
abbrev pub first_by_kind : RunGaps → Option Gap
first_by_kind gaps = option_or gaps.count (option_or gaps.lengths (option_or gaps.changes (option_or gaps.delays gaps.links)))

-- what is found of a kind is a gap of that kind, none of that kind is looked for before it, and nothing is found only where there is none
pub record IsFirstOf (IsOne : Gap → Type 0) (found : Option Gap) : Type 0 where
  pub some : (g : Gap) → found ≡ Some g → IsOne g
  pub first : (g h : Gap) → found ≡ Some g → IsOne h → IsEarlierGap h g → ⊥
  pub none : found ≡ None → (h : Gap) → IsOne h → ⊥

-- so it is of each kind, where the double cycles from one on are asked of
pub record AreFirstGaps (p : Values) (d : DriftView) (s : ScriptView) (from : ℕ) (gaps : RunGaps) : Type 0 where
  pub count : IsFirstOf (IsCountGap p s) gaps.count
  pub lengths : IsFirstOf (λ g. IsLengthGap p d s g × IsBehind from g) gaps.lengths
  pub changes : IsFirstOf (λ g. IsChangeGap p d s g × IsBehind from g) gaps.changes
  pub delays : IsFirstOf (λ g. IsDelayGap p d s g × IsBehind from g) gaps.delays
  pub links : IsFirstOf (λ g. IsLinkGap p d s g × IsBehind from g) gaps.links
