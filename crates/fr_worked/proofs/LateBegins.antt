-- The run in which node 2 begins late, cycle by cycle: it is covered, in sync from its second double cycle on, and in the first
-- one further apart than its precision.
use Rattle.std.proofs.Common.{◌≡◌, ℕ, ◌<◌, pos, true, Some, [], refl, sym, subst, inl, lit≤, lit<, arith}
use Rattle.std.specs.Prelude.{◌<ℤ◌, ◌≤ℤ◌, ℤ}
use Rattle.std.proofs.lemmas.Int.{ints}
use Rattle.fr_base.specs.declared.channel.Channel.TheVariants.{A}
use Rattle.fr_bound.specs.Bounds.{precision_of}
use Rattle.fr_bound.specs.Sync.{is_in_sync}
use Rattle.fr_bound.proofs.Sync.{in_sync_from}
use Rattle.fr_cluster.specs.Setting.{IsSetting, Setting}
use Rattle.fr_cluster.specs.declared.nodes.NodeSpec.{NodeSpec}
use Rattle.fr_history.specs.History.{record_at}
use Rattle.fr_history.specs.Skew.{skew_at}
use Rattle.fr_history.specs.Cycles.{cycle_at, told_of}
use Rattle.fr_history.specs.Lawful.{IsLawful}
use Rattle.fr_history.specs.Next.{cycles_of, next_cycle}
use Rattle.fr_history.specs.Unfollowed.{IsUnfollowedSyncAt, first_unfollowed_sync_of}
use Rattle.fr_history.specs.Worked.{roomy_cluster}
use Rattle.fr_history.proofs.Computing.{on_cycles, on_told}
use Rattle.fr_runs.specs.Links.{IsCarried, IsLinked}
use Rattle.fr_runs.specs.Supplied.{IsCoveredByFiles}
use Rattle.fr_runs.proofs.Covers.{coverage_suffices}
use Rattle.fr_runs.specs.Whole.{IsUnfollowedRun}
use Rattle.fr_runs.specs.Stated.{IsCoveredRun}
use Rattle.fr_promise.specs.Statement.{KeepsPrecision}
use Rattle.fr_promise.proofs.Promising.{runs_keep_precision}
use Rattle.fr_worked.specs.Late.{late_1, late_2, late_3, late_4, late_cycle_0, late_cycle_1, late_cycle_2, late_cycle_3, late_run}
use Rattle.fr_worked.proofs.Begun.{is_sane}
use Rattle.fr_worked.proofs.Covered.{checks_hold, join_checks_hold, no_delay, on_channel}

-- ---- its cycles

cycle_0_is : next_cycle late_run [] ≡ late_cycle_0
unfolding on_cycles
cycle_0_is = refl

cycle_1_is : next_cycle late_run late_1 ≡ late_cycle_1
unfolding on_cycles
cycle_1_is = refl

cycle_2_is : next_cycle late_run late_2 ≡ late_cycle_2
unfolding on_cycles
cycle_2_is = refl

cycle_3_is : next_cycle late_run late_3 ≡ late_cycle_3
unfolding on_cycles
cycle_3_is = refl

pub late_cycles : cycles_of late_run 4 ≡ late_4
unfolding cycles_of
late_cycles = Prim.rw (cycle_0_is, cycle_1_is, cycle_2_is, cycle_3_is) refl

pub late_unfollowed : first_unfollowed_sync_of roomy_cluster late_4 ≡ Some 1
unfolding on_told
late_unfollowed = refl

-- ---- it is covered

is_carried : (sender receiver : NodeSpec) (slot double : ℕ) → IsLinked late_run sender receiver slot → double < 2 → IsCarried late_run sender receiver double
is_carried sender receiver slot double link less = record {
  channel = A;
  share = record { by_sender = on_channel sender link.sends; by_receiver = on_channel receiver link.hears };
  even = refl;
  odd = refl;
}

is_covered : IsCoveredByFiles late_run
is_covered = record {
  sane = is_sane;
  checks = checks_hold;
  join_checks = λ joins. join_checks_hold;
  few = inl (refl, lit≤ tt);
  least = λ node cycle among less. record { le = tt };
  most = λ node cycle among less. record { le = tt };
  changes = λ node cycle among less. record { low = record { le = tt }; high = record { le = tt } };
  referenced = record {
    references = λ node join among is. absurd (cc);
    delays = λ sender receiver slot channel cycle sends hears key other by_sender by_receiver less. no_delay channel;
  };
  links = is_carried;
}

pub late_is_stated : IsCoveredRun late_run
late_is_stated = record {
  setting = record { sane = is_sane; bytes = λ cycle sender receiver channel. tt };
  covered = is_covered;
  rates = λ node among. record { low = record { le = tt }; high = record { le = tt } };
  starts = λ joins. absurd (cc);
}

-- ---- from its second double cycle on it keeps its precision

synced : is_in_sync roomy_cluster late_cycle_2.told.rows late_cycle_3.told.rows ≡ true
unfolding is_in_sync
synced = refl

unfollowed_at_1 : IsUnfollowedSyncAt roomy_cluster late_4 1
unfolding cycle_at
unfollowed_at_1 = record {
  synced = record {
    even = late_cycle_2;
    odd = late_cycle_3;
    has_even = refl;
    has_odd = refl;
    in_sync = in_sync_from roomy_cluster late_cycle_2.told.rows late_cycle_3.told.rows synced;
  };
  none_early = refl;
  none_late = refl;
}

pub late_is_kept : ((x : Setting) (n : ℕ) → IsSetting x → IsLawful x (cycles_of x n)) → KeepsPrecision late_run late_4 1
late_is_kept lawful =
    let run : IsUnfollowedRun late_run late_4 1 = record {
      covered = coverage_suffices late_run is_covered;
      rates = late_is_stated.rates;
      starts = late_is_stated.starts;
      lawful = subst (IsLawful late_run) late_cycles (lawful late_run 4 late_is_stated.setting);
      whole = refl;
      unfollowed = unfollowed_at_1;
    } in
    runs_keep_precision late_run late_4 1 run

-- ---- and in the first one it does not

late_skew : skew_at roomy_cluster (told_of late_4) 0 0 ≡ pos 300_000_000
unfolding on_told record_at
late_skew = refl

pub late_is_above : pos (precision_of roomy_cluster) <ℤ skew_at roomy_cluster (told_of late_4) 0 0
late_is_above = subst (λ (skew : ℤ). pos (precision_of roomy_cluster) <ℤ skew) (sym late_skew) (record { lt = tt })

pub late_begins_in_sync : KeepsPrecision late_run late_4 0 → ⊥
late_begins_in_sync kept =
    let within : skew_at roomy_cluster (told_of late_4) 0 0 ≤ℤ pos (precision_of roomy_cluster) = kept.skew 0 0 (lit≤ tt) (lit< tt) (lit< tt) in
    let above = late_is_above in
    omega (arith, ints, within, above)
