-- From when on the clocks of a trace are in sync, and no node follows.
use Rattle.std.specs.Prelude.{◌≡◌, ℕ, ◌+◌, ◌/◌, ◌<◌, ◌&&◌, Bool, true, false, not, nat_lt, length, Option, Some, None, find}
use Rattle.std.specs.List.{list_any, range_with_len}
use Rattle.fr_cluster.specs.Values.{Values}
use Rattle.fr_history.specs.Sync.{IsInSyncAt, is_sync_at}
use Rattle.fr_trace.specs.Trace.{TraceView}

-- whether a node that joins may follow in a double cycle: it listened in one of the two double cycles before
abbrev pub may_follow : TraceView → ℕ → Bool
may_follow t double = list_any (λ joining. nat_lt joining.join.double double && nat_lt double (joining.join.double + 3)) t.joins

-- the recorded rows are in sync in a double cycle, and no node may follow there
pub record IsSyncedAt (p : Values) (t : TraceView) (double : ℕ) : Type 0 where
  pub in_sync : IsInSyncAt p t.history double
  pub none_follows : may_follow t double ≡ false

-- the first double cycle in which it is so
pub record IsFirstSynced (p : Values) (t : TraceView) (double : ℕ) : Type 0 where
  pub synced : IsSyncedAt p t double
  pub first : (earlier : ℕ) → earlier < double → IsSyncedAt p t earlier → ⊥

-- ---- the same as a function

abbrev pub is_synced_at : Values → TraceView → ℕ → Bool
is_synced_at p t double = is_sync_at p t.history double && not (may_follow t double)

-- the first such double cycle, if there is one
unfoldable pub first_synced_of : Values → TraceView → Option ℕ
first_synced_of p t = find (is_synced_at p t) (range_with_len 0 (length t.history / 2))

-- whether a double cycle comes before the first one in sync
abbrev pub is_early : Option ℕ → ℕ → Bool
is_early None double = true
is_early (Some synced) double = nat_lt double synced
