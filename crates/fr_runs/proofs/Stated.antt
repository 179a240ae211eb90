-- The cycles that a stated run has keep together from its first double cycle in sync on in which none follows.
use Rattle.std.proofs.Common.{◌≡◌, ℕ, ◌*◌, length, Some}
use Rattle.fr_cluster.specs.Setting.{IsSetting, Setting}
use Rattle.fr_cluster.specs.Values.{Values}
use Rattle.fr_history.specs.Cycles.{Cycles}
use Rattle.fr_history.specs.Lawful.{IsLawful}
use Rattle.fr_history.specs.Next.{cycles_of}
use Rattle.fr_history.specs.Unfollowed.{IsFirstUnfollowedSync, first_unfollowed_sync_of}
use Rattle.fr_runs.proofs.Covers.{coverage_suffices}
use Rattle.fr_runs.specs.Whole.{IsUnfollowedRun}
use Rattle.fr_runs.specs.Stated.{StatedRunsStayTogether, all_cycles}
use Rattle.fr_runs.proofs.Joining.{listeners_join}
use Rattle.fr_runs.proofs.Together.{unfollowed_runs_keep_together}

pub stated_runs_stay_together : ((x : Setting) (n : ℕ) → IsSetting x → IsLawful x (cycles_of x n)) → ((x : Setting) (n : ℕ) → length (cycles_of x n) ≡ n)
    → ((p : Values) (h : Cycles) (double : ℕ) → first_unfollowed_sync_of p h ≡ Some double → IsFirstUnfollowedSync p h double) → StatedRunsStayTogether
stated_runs_stay_together lawful long first x double stated found =
    let n : ℕ = 2 * x.doubles in
    let s : IsUnfollowedRun x (all_cycles x) double = record {
      covered = coverage_suffices x stated.covered;
      rates = stated.rates;
      starts = stated.starts;
      lawful = lawful x n stated.setting;
      whole = long x n;
      unfollowed = (first x.params (all_cycles x) double found).unfollowed;
    } in
    record {
      together = unfollowed_runs_keep_together x (all_cycles x) double s;
      joined = λ node join there at from. listeners_join x (all_cycles x) double node join s there at from;
    }
