-- In which double cycles the clocks of a run are in sync, and in which of these no node follows.
use Rattle.std.specs.Prelude.{◌≡◌, ℕ, ◌<◌, Bool, true, false, not, List, [], ◌∷◌, map, Option, Some}
use Rattle.fr_base.specs.declared.node_row.NodeRow.{NodeRow}
use Rattle.fr_bound.specs.Sync.{IsInSync}
use Rattle.fr_cluster.specs.Values.{Values}
use Rattle.fr_time.specs.Cycles.{even_cycle, odd_cycle}
use Rattle.fr_history.specs.Gauged.{FollowedHistory, first_free_sync_of}
use Rattle.fr_history.specs.Cycles.{Cycle, Cycles, cycle_at}

-- the nodes that have rows are in sync in a double cycle, both of whose cycles are there, whoever follows
pub record RowsAreInSyncAt (p : Values) (h : Cycles) (double : ℕ) : Type 0 where
  pub even : Cycle
  pub odd : Cycle
  pub has_even : cycle_at h (even_cycle double) ≡ Some even
  pub has_odd : cycle_at h (odd_cycle double) ≡ Some odd
  pub in_sync : IsInSync p even.told.rows odd.told.rows

-- and none follows
pub record IsUnfollowedSyncAt (p : Values) (h : Cycles) (double : ℕ) : Type 0 where
  pub synced : RowsAreInSyncAt p h double
  pub none_early : synced.even.followers ≡ []
  pub none_late : synced.odd.followers ≡ []

-- the first double cycle in which it is so
pub record IsFirstUnfollowedSync (p : Values) (h : Cycles) (double : ℕ) : Type 0 where
  pub unfollowed : IsUnfollowedSyncAt p h double
  pub first : (earlier : ℕ) → earlier < double → IsUnfollowedSyncAt p h earlier → ⊥

-- ---- the same as a function

abbrev pub is_none : List NodeRow → Bool
is_none [] = true
is_none (row ∷ rows) = false

-- such cycles by what is told of them and whether a node follows, as a gauge gathers them
abbrev pub followed_of : Cycles → FollowedHistory
followed_of h = map (λ (c : Cycle). record { told = c.told; following = not (is_none c.followers) }) h

-- the first double cycle in sync in which none follows, if there is one
unfoldable pub first_unfollowed_sync_of : Values → Cycles → Option ℕ
first_unfollowed_sync_of p h = first_free_sync_of p (followed_of h)
