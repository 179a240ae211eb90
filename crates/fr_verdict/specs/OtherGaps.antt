-- The gaps of a trace other than a failed check, of which the sharper bounds ask no older one: the first of them, as a function too.
use Rattle.std.specs.Prelude.{◌≡◌, ◌⊎◌, Option, Some, None}
use Rattle.std.specs.Option.{option_or}
use Rattle.fr_cluster.specs.Sane.{IsSane}
use Rattle.fr_cluster.specs.Values.{Values}
use Rattle.fr_coverage.specs.First.{first_in}
use Rattle.fr_coverage.specs.Order.{IsEarlierGap}
use Rattle.fr_coverage.specs.declared.gap.Gap.{Gap}
use Rattle.fr_trace.specs.Trace.{TraceView}
use Rattle.fr_verdict.specs.Breach.{IsFirstBreach, IsLawfulTrace}
use Rattle.fr_verdict.specs.FirstGap.{traced_changes_gap, traced_count_gap, traced_lengths_gap, traced_pairs_gap}
use Rattle.fr_verdict.specs.Gaps.{IsTracedChangeGap, IsTracedCountGap, IsTracedLengthGap, IsTracedLinkGap}
use Rattle.fr_verdict.specs.Sync.{first_synced_of}
use Rattle.fr_verdict.specs.declared.unlawful.Unlawful.{Unlawful}
use Rattle.fr_verdict.specs.declared.unlawful.Unlawful.TheVariants as unlawful

-- the counts, a length, a change or a link
abbrev pub IsOtherGap : Values → TraceView → Gap → Type 0
IsOtherGap p t g = IsTracedCountGap p t g ⊎ (IsTracedLengthGap p t g ⊎ (IsTracedChangeGap p t g ⊎ IsTracedLinkGap p t g))

-- it is one, and none is looked for before it
pub record IsFirstOtherGap (p : Values) (t : TraceView) (g : Gap) : Type 0 where
  pub is_gap : IsOtherGap p t g
  pub first : (other : Gap) → IsOtherGap p t other → IsEarlierGap other g → ⊥

-- the first one of a lawful trace
pub record IsOtherwiseUncovered (p : Values) (t : TraceView) (u : Unlawful) : Type 0 where
  pub lawful : IsLawfulTrace p t
  pub gap : Gap
  pub first : IsFirstOtherGap p t gap
  pub told : u ≡ unlawful.Uncovered gap

-- why a trace is not lawful without such a gap: its first breach, or the first of these
abbrev pub IsRefusedOtherwise : Values → TraceView → Unlawful → Type 0
IsRefusedOtherwise p t u = IsFirstBreach p t u ⊎ IsOtherwiseUncovered p t u

-- a lawful trace without such a gap, whatever checks fail
pub record IsOtherwiseCovered (p : Values) (t : TraceView) : Type 0 where
  pub lawful : IsLawfulTrace p t
  pub covered : (g : Gap) → IsOtherGap p t g → ⊥

-- ---- the same as a function

-- the first in the order of gaps, if there is one
unfoldable pub first_other_gap_of : Values → TraceView → Option Gap
first_other_gap_of p t =
    option_or (traced_count_gap p t)
    (option_or (first_in (traced_lengths_gap p t) p.nodes)
    (option_or (first_in (traced_changes_gap p t) p.nodes) (traced_pairs_gap p t (first_synced_of p t))))

-- it is what is meant
abbrev pub OtherGapIsFound : Type 0
OtherGapIsFound =
    (p : Values) (t : TraceView) → IsSane p
    → ((g : Gap) → first_other_gap_of p t ≡ Some g → IsFirstOtherGap p t g)
    × (first_other_gap_of p t ≡ None → (g : Gap) → IsOtherGap p t g → ⊥)

-- a trace is refused for one reason at most, and then it is not lawful without such a gap; and it is either of both
abbrev pub OneOtherwise : Type 0
OneOtherwise =
    (p : Values) (t : TraceView)
    → ((u v : Unlawful) → IsRefusedOtherwise p t u → IsRefusedOtherwise p t v → u ≡ v)
    × ((u : Unlawful) → IsRefusedOtherwise p t u → IsOtherwiseCovered p t → ⊥)

abbrev pub SomeOtherwise : Type 0
SomeOtherwise =
    (p : Values) (t : TraceView) → IsSane p → ((u : Unlawful) × IsRefusedOtherwise p t u) ⊎ IsOtherwiseCovered p t
