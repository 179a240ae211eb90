-- The worked run that a node joins keeps together.
use Rattle.std.proofs.Common.{◌≡◌, ℕ, ◌<◌, Some, length, refl, ap, ◌∙◌, subst, arith}
use Rattle.fr_cluster.specs.Setting.{IsSetting, Setting}
use Rattle.fr_history.specs.Cycles.{Cycle, Cycles, cycle_at}
use Rattle.fr_history.specs.Lawful.{IsLawful}
use Rattle.fr_history.specs.Next.{cycles_of}
use Rattle.fr_history.specs.Unfollowed.{IsUnfollowedSyncAt, first_unfollowed_sync_of}
use Rattle.fr_history.specs.Worked.{after_12, joined_run, roomy_cluster, two_at}
use Rattle.fr_runs.specs.Rounds.{IsDoubleOf, IsFedFrom, IsRun, KeepsUp}
use Rattle.fr_runs.proofs.Lawful.{lawful_cycles_run}
use Rattle.fr_runs.proofs.Whole.{runs_keep_up}
use Rattle.fr_runs.specs.Supplied.{LawfulCyclesAreFed}
use Rattle.fr_runs.specs.Whole.{IsUnfollowedRun, KeepsTogether}
use Rattle.fr_runs.specs.Stated.{IsCoveredRun, all_cycles}
use Rattle.fr_runs.proofs.Together.{unfollowed_runs_keep_together}
use Rattle.fr_worked.proofs.Begun.{begins_in_sync, is_setting, is_unfollowed_sync}
use Rattle.fr_worked.proofs.Covered.{is_covered, is_join_covered}

-- its cycles are lawful
pub is_lawful : ((x : Setting) (n : ℕ) → IsSetting x → IsLawful x (cycles_of x n)) → cycles_of joined_run (length after_12) ≡ after_12 → IsLawful joined_run after_12
is_lawful lawful cycles = subst (IsLawful joined_run) cycles (lawful joined_run (length after_12) is_setting)

pub is_run : IsLawful joined_run after_12 → IsRun joined_run after_12
is_run lawful = record { covered = is_join_covered.clocks; run = lawful_cycles_run joined_run after_12 lawful; whole = refl }

pub is_fed : LawfulCyclesAreFed → IsLawful joined_run after_12 → IsFedFrom joined_run after_12 0
is_fed fed lawful = fed joined_run after_12 0 is_join_covered lawful

pub keeps_up : LawfulCyclesAreFed → IsLawful joined_run after_12 → (k : ℕ) (earlier : Cycles) (even odd : Cycle) → k < 6 → IsDoubleOf after_12 k earlier even odd
    → KeepsUp joined_run earlier even odd k
keeps_up fed lawful k earlier even odd less d =
    runs_keep_up joined_run after_12 0 (is_run lawful) (is_fed fed lawful) is_unfollowed_sync k earlier even odd (omega arith) less d

-- ---- by its lawful cycles alone

unfollowed_first : IsUnfollowedSyncAt roomy_cluster after_12 0
unfolding cycle_at
unfollowed_first = record {
  synced = record { even = two_at 0; odd = two_at 1; has_even = refl; has_odd = refl; in_sync = begins_in_sync };
  none_early = refl;
  none_late = refl;
}

pub is_unfollowed_run : IsLawful joined_run after_12 → IsUnfollowedRun joined_run after_12 0
is_unfollowed_run lawful = record {
  covered = is_join_covered;
  rates = λ node among. record { low = record { le = tt }; high = record { le = tt } };
  starts = λ joins node among. record { le = tt };
  lawful = lawful;
  whole = refl;
  unfollowed = unfollowed_first;
}

pub keeps_together : IsLawful joined_run after_12 → KeepsTogether joined_run after_12 0
keeps_together lawful = unfollowed_runs_keep_together joined_run after_12 0 (is_unfollowed_run lawful)

-- ---- by what is stated of it alone

pub is_stated : IsCoveredRun joined_run
is_stated = record {
  setting = is_setting;
  covered = is_covered;
  rates = λ node among. record { low = record { le = tt }; high = record { le = tt } };
  starts = λ joins node among. record { le = tt };
}

pub unfollowed_in_0 : cycles_of joined_run (length after_12) ≡ after_12 → first_unfollowed_sync_of roomy_cluster after_12 ≡ Some 0
    → first_unfollowed_sync_of roomy_cluster (all_cycles joined_run) ≡ Some 0
unfollowed_in_0 cycles unfollowed = ap (first_unfollowed_sync_of roomy_cluster) cycles ∙ unfollowed
