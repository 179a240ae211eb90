-- The records of a trace, each with whether a node may follow in its cycle; and what they foretell of the next double cycle.
use Rattle.std.specs.Prelude.{◌≡◌, ℕ, ◌/◌, ◌&&◌, not, [], ◌∷◌, length, Option, is_some}
use Rattle.fr_cluster.specs.Values.{Values}
use Rattle.fr_history.specs.Gauged.{FollowedHistory}
use Rattle.fr_history.specs.History.{History}
use Rattle.fr_history.specs.Sync.{is_sync_at}
use Rattle.fr_trace.specs.Trace.{TraceView}
use Rattle.fr_verdict.specs.Search.{is_apart}
use Rattle.fr_verdict.specs.Sync.{may_follow}

unfoldable pub followed_by : TraceView → History → FollowedHistory
followed_by t [] = []
followed_by t (r ∷ h) = record { told = r; following = may_follow t (length h / 2) } ∷ followed_by t h

-- whether the rows of the double cycle behind some cycles must be in sync, and are not: where a double cycle was in sync among
-- these, and those are not
abbrev pub Foretells : Values → TraceView → History → Option ℕ → Type 0
Foretells p t h synced = is_apart p t (length h / 2) ≡ (is_some synced && not (is_sync_at p t.history (length h / 2)))
