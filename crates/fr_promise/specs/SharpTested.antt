-- The test of sharp sync, and the first double cycle of some cycles in sharp sync in which no node follows.
use Rattle.std.specs.Prelude.{◌≡◌, ℕ, ◌*◌, ◌/◌, ◌<◌, pos, Bool, false, ◌&&◌, List, [], length, Option, Some, None, find}
use Rattle.std.specs.List.{range_with_len}
use Rattle.fr_base.specs.declared.node_row.NodeRow.{NodeRow}
use Rattle.fr_cluster.specs.Values.{Values, amount}
use Rattle.fr_cluster.specs.declared.names.ParamName.TheVariants as name
use Rattle.fr_time.specs.Cycles.{even_cycle, odd_cycle}
use Rattle.fr_bound.specs.Bounds.{longest_micro, shortest_micro}
use Rattle.fr_skew.specs.Sync.{are_in_sync_by_even}
use Rattle.fr_skew.specs.declared.sync.SyncBounds.{SyncBounds}
use Rattle.fr_history.specs.Cycles.{Cycle, Cycles, cycle_at}
use Rattle.fr_history.specs.Unfollowed.{is_none}
use Rattle.fr_bound.specs.SharpBounds.{sharp_lambda, sharp_pi}
use Rattle.fr_runs.specs.SharpHistories.{IsInSharpSyncAt}

-- the bounds of a cluster, in ticks, with the sharper pi and lambda
abbrev pub sharp_sync_bounds_of : Bool → Values → ℕ → SyncBounds
sharp_sync_bounds_of beside p flutter = record {
  pi = pos (sharp_pi beside p flutter);
  lambda = pos (sharp_lambda beside p flutter);
  shortest = pos (amount p name.pMicroPerCycle * shortest_micro p);
  longest = pos (amount p name.pMicroPerCycle * longest_micro p);
  micros = p.micros;
}

-- whether the rows of an even and an odd cycle are in sharp sync, with lengths in their range
abbrev pub is_in_sharp_sync : Bool → Values → ℕ → List NodeRow → List NodeRow → Bool
is_in_sharp_sync beside p flutter even odd = are_in_sync_by_even (sharp_sync_bounds_of beside p flutter) even odd

-- ---- some cycles

-- they are so in a double cycle in which no node follows
pub record IsUnfollowedSharpSyncAt (beside : Bool) (p : Values) (flutter : ℕ) (h : Cycles) (double : ℕ) : Type 0 where
  pub synced : IsInSharpSyncAt beside p flutter (pos 0) h double
  pub none_early : synced.even.followers ≡ []
  pub none_late : synced.odd.followers ≡ []

-- the first double cycle in which it is so, each with the numbers for a flutter of its own
pub record IsFirstSharpSyncBy (beside : Bool) (p : Values) (flutter : ℕ → ℕ) (h : Cycles) (double : ℕ) : Type 0 where
  pub unfollowed : IsUnfollowedSharpSyncAt beside p (flutter double) h double
  pub first : (earlier : ℕ) → earlier < double → IsUnfollowedSharpSyncAt beside p (flutter earlier) h earlier → ⊥

-- and with those for one flutter
abbrev pub IsFirstSharpSync : Bool → Values → ℕ → Cycles → ℕ → Type 0
IsFirstSharpSync beside p flutter h double = IsFirstSharpSyncBy beside p (λ k. flutter) h double

-- ---- the same as a function

-- whether two cycles, if they are there, pass a test of the rows of an even and an odd one, and no node follows in them
abbrev pub are_free_by : (List NodeRow → List NodeRow → Bool) → Option Cycle → Option Cycle → Bool
are_free_by test None odd = false
are_free_by test (Some even) None = false
are_free_by test (Some even) (Some odd) = test even.told.rows odd.told.rows && is_none even.followers && is_none odd.followers

abbrev pub are_free_at : (ℕ → List NodeRow → List NodeRow → Bool) → Cycles → ℕ → Bool
are_free_at test h double = are_free_by (test double) (cycle_at h (even_cycle double)) (cycle_at h (odd_cycle double))

-- the first double cycle that passes its test and in which none follows, if there is one
unfoldable pub first_free_of : (ℕ → List NodeRow → List NodeRow → Bool) → Cycles → Option ℕ
first_free_of test h = find (are_free_at test h) (range_with_len 0 (length h / 2))

-- the first one in sharp sync, each with the numbers for a flutter of its own, and with those for one flutter
abbrev pub first_sharp_sync_by : Bool → Values → (ℕ → ℕ) → Cycles → Option ℕ
first_sharp_sync_by beside p flutter h = first_free_of (λ k. is_in_sharp_sync beside p (flutter k)) h

abbrev pub first_sharp_sync_of : Bool → Values → ℕ → Cycles → Option ℕ
first_sharp_sync_of beside p flutter h = first_sharp_sync_by beside p (λ k. flutter) h
