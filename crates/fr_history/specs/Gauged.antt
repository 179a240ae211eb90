-- When a gauge holds a history, and from when on none follows in it.
use Rattle.std.specs.Prelude.{◌≡◌, ℕ, ◌/◌, ◌==◌, Bool, false, not, ◌&&◌, List, [], ◌∷◌, length, map, Option, Some, None, find, if◌then◌else◌}
use Rattle.std.specs.List.{range_with_len}
use Rattle.fr_base.specs.declared.node_row.NodeRow.{NodeRow}
use Rattle.fr_bound.specs.Sync.{is_in_sync}
use Rattle.fr_cluster.specs.Values.{Values}
use Rattle.fr_time.specs.Cycles.{even_cycle, is_odd, odd_cycle}
use Rattle.fr_time.specs.Position.{grid_for}
use Rattle.fr_skew.specs.Gauge.{GaugeView}
use Rattle.fr_skew.specs.Sync.{sync_bounds_of}
use Rattle.fr_history.specs.History.{History, Record}
use Rattle.fr_history.specs.Skew.{greatest_skew_of}

-- The record of a cycle, and whether a node follows in that cycle, of which the record tells nothing.
pub record FollowedRecord : Type 0 where
  pub told : Record
  pub following : Bool

-- the records of cycles from 0 on, the latest first
abbrev pub FollowedHistory : Type 0
FollowedHistory = List FollowedRecord

-- what is told of them
abbrev pub told_only : FollowedHistory → History
told_only h = map (λ r. r.told) h

-- the record of a cycle, if there is one
unfoldable pub followed_at : FollowedHistory → ℕ → Option FollowedRecord
followed_at [] cycle = None
followed_at (r ∷ h) cycle = if length h == cycle then Some r else followed_at h cycle

-- ---- the first double cycle in sync in which none follows

abbrev pub is_free_sync_by : Values → Option FollowedRecord → Option FollowedRecord → Bool
is_free_sync_by p None odd = false
is_free_sync_by p (Some even) None = false
is_free_sync_by p (Some even) (Some odd) =
    is_in_sync p even.told.rows odd.told.rows && not even.following && not odd.following

abbrev pub is_free_sync_at : Values → FollowedHistory → ℕ → Bool
is_free_sync_at p h double = is_free_sync_by p (followed_at h (even_cycle double)) (followed_at h (odd_cycle double))

unfoldable pub first_free_sync_of : Values → FollowedHistory → Option ℕ
first_free_sync_of p h = find (is_free_sync_at p h) (range_with_len 0 (length h / 2))

-- ---- what a gauge holds

-- the rows of the last even cycle, and whether a node followed in it
unfoldable pub last_even_of : FollowedHistory → List NodeRow
last_even_of [] = []
last_even_of (r ∷ h) = if is_odd (length h) then last_even_of h else r.told.rows

unfoldable pub last_even_followed : FollowedHistory → Bool
last_even_followed [] = false
last_even_followed (r ∷ h) = if is_odd (length h) then last_even_followed h else r.following

-- a gauge of these parameters holds a history: it tells of it what can be told of its clocks without it
pub record GaugeHolds (p : Values) (g : GaugeView) (h : FollowedHistory) : Type 0 where
  pub grid : g.grid ≡ grid_for p
  pub bounds : g.bounds ≡ sync_bounds_of p
  pub counted : g.added ≡ length h
  pub greatest : g.greatest ≡ greatest_skew_of p (told_only h)
  pub synced : g.synced ≡ first_free_sync_of p h
  pub even : g.even ≡ last_even_of h
  pub followed : g.followed ≡ last_even_followed h
