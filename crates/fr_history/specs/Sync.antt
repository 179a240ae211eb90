-- In which double cycles the clocks of a history are in sync (this project's own).
use Rattle.std.specs.Prelude.{◌≡◌, ℕ, Bool, false, Option, Some, None}
use Rattle.fr_cluster.specs.Values.{Values}
use Rattle.fr_time.specs.Cycles.{even_cycle, odd_cycle}
use Rattle.fr_bound.specs.Sync.{IsInSync, is_in_sync}
use Rattle.fr_history.specs.History.{History, Record, record_at}

-- a history is in sync in a double cycle, both of whose cycles it has
pub record IsInSyncAt (p : Values) (h : History) (double : ℕ) : Type 0 where
  pub even : Record
  pub odd : Record
  pub has_even : record_at h (even_cycle double) ≡ Some even
  pub has_odd : record_at h (odd_cycle double) ≡ Some odd
  pub in_sync : IsInSync p even.rows odd.rows

-- ---- the same as a function

abbrev pub is_sync_by : Values → Option Record → Option Record → Bool
is_sync_by p None odd = false
is_sync_by p (Some even) None = false
is_sync_by p (Some even) (Some odd) = is_in_sync p even.rows odd.rows

abbrev pub is_sync_at : Values → History → ℕ → Bool
is_sync_at p h double = is_sync_by p (record_at h (even_cycle double)) (record_at h (odd_cycle double))
