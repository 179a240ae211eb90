-- What the figures of a report mean, from the laws of those that compute them.
use Rattle.std.proofs.Common.{◌≡◌, ℕ, Option, Some, None}
use Rattle.fr_cluster.specs.Values.{Values}
use Rattle.fr_coverage.specs.Coverage.{first_gap}
use Rattle.fr_coverage.specs.Order.{FindsFirst, HasNoGap}
use Rattle.fr_coverage.specs.declared.gap.Gap.{Gap}
use Rattle.fr_drift.specs.View.{DriftView}
use Rattle.fr_script.specs.View.{ScriptView}
use Rattle.std.specs.Prelude.{length}
use Rattle.fr_history.specs.History.{History}
use Rattle.fr_history.specs.Skew.{IsGreatestSkew, greatest_skew_of}
use Rattle.fr_skew.specs.declared.peak.Peak.{Peak}
use Rattle.fr_history.specs.Cycles.{Cycles}
use Rattle.fr_history.specs.Unfollowed.{IsFirstUnfollowedSync, IsUnfollowedSyncAt, first_unfollowed_sync_of}
use Rattle.fr_report.specs.RunText.{IsGapFound, IsSkewFound, IsSyncFound}

pub gap_found : (p : Values) (d : DriftView) (s : ScriptView) (found : Option Gap) → first_gap p d s ≡ found → FindsFirst p d s → (first_gap p d s ≡ None → HasNoGap p d s) → IsGapFound p d s found
gap_found p d s None is one none = none is
gap_found p d s (Some gap) is one none = one gap is

pub sync_found : (p : Values) (h : Cycles) (found : Option ℕ) → first_unfollowed_sync_of p h ≡ found → ((double : ℕ) → first_unfollowed_sync_of p h ≡ Some double → IsFirstUnfollowedSync p h double)
    → (first_unfollowed_sync_of p h ≡ None → (double : ℕ) → IsUnfollowedSyncAt p h double → ⊥) → IsSyncFound p h found
sync_found p h None is one none = none is
sync_found p h (Some double) is one none = one double is

pub skew_found : (p : Values) (h : History) (found : Option Peak) → greatest_skew_of p h ≡ found → ((place : Peak) → greatest_skew_of p h ≡ Some place → IsGreatestSkew p h place.skew place.cycle place.macrotick)
    → (greatest_skew_of p h ≡ None → length h ≡ 0) → IsSkewFound p h found
skew_found p h None is one none = none is
skew_found p h (Some place) is one none = one place is
