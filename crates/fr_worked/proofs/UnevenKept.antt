-- The uneven run is in sync from its first double cycle on, so it keeps together.
use Rattle.std.proofs.Common.{◌≡◌, ℕ, ◌<◌, Some, length, ap, ◌∙◌, arith}
use Rattle.fr_cluster.specs.Setting.{IsSetting, Setting}
use Rattle.fr_cluster.specs.Values.{Values}
use Rattle.fr_history.specs.Cycles.{Cycles}
use Rattle.fr_history.specs.Lawful.{IsLawful}
use Rattle.fr_history.specs.Next.{cycles_of}
use Rattle.fr_history.specs.Unfollowed.{IsFirstUnfollowedSync, first_unfollowed_sync_of}
use Rattle.fr_runs.specs.Numbers.{IsSyncedRun, StatedRunsAreSynced}
use Rattle.fr_runs.specs.Stated.{StaysTogether, all_cycles}
use Rattle.fr_runs.proofs.Stated.{stated_runs_stay_together}
use Rattle.fr_worked.specs.Uneven.{small_cluster, uneven_run}
use Rattle.fr_worked.proofs.UnevenComes.{uneven_cycles, uneven_unfollowed}
use Rattle.fr_worked.proofs.UnevenStated.{is_stated}

begins_together : first_unfollowed_sync_of small_cluster (all_cycles uneven_run) ≡ Some 0
begins_together = ap (first_unfollowed_sync_of small_cluster) uneven_cycles ∙ uneven_unfollowed

pub stays_together : ((x : Setting) (n : ℕ) → IsSetting x → IsLawful x (cycles_of x n)) → ((x : Setting) (n : ℕ) → length (cycles_of x n) ≡ n)
    → ((p : Values) (h : Cycles) (double : ℕ) → first_unfollowed_sync_of p h ≡ Some double → IsFirstUnfollowedSync p h double) → StaysTogether uneven_run 0
stays_together lawful long first = stated_runs_stay_together lawful long first uneven_run 0 is_stated begins_together

pub each_synced : StatedRunsAreSynced → StaysTogether uneven_run 0 → (double : ℕ) → double < 5 → IsSyncedRun uneven_run (all_cycles uneven_run) double
each_synced synced stays double less = synced uneven_run double is_stated (stays.together.synced double (omega arith) less)
