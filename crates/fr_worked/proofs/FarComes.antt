-- The run in which a node follows far off, cycle by cycle: the nodes with rows are in sync while it does.
use Rattle.std.proofs.Common.{◌≡◌, None, refl, subst, sym, true}
use Rattle.fr_bound.specs.Sync.{is_in_sync}
use Rattle.fr_bound.proofs.Sync.{in_sync_from}
use Rattle.fr_history.specs.Cycles.{Cycles, cycle_at}
use Rattle.fr_history.specs.Next.{cycles_of, next_cycle}
use Rattle.fr_history.specs.Unfollowed.{RowsAreInSyncAt, first_unfollowed_sync_of}
use Rattle.fr_history.proofs.Computing.{on_cycles, on_told}
use Rattle.fr_runs.specs.Numbers.{IsSyncedRun, StatedRunsAreSynced}
use Rattle.fr_worked.specs.FarCycles.{far_0, far_1, far_2, far_3, far_4, far_5, far_6, far_cycle_0, far_cycle_1, far_cycle_2, far_cycle_3, far_cycle_4, far_cycle_5}
use Rattle.fr_worked.specs.Uneven.{far_run, small_cluster}
use Rattle.fr_worked.proofs.UnevenStated.{far_is_stated}

cycle_0_is : next_cycle far_run far_0 ≡ far_cycle_0
unfolding on_cycles
cycle_0_is = refl

cycle_1_is : next_cycle far_run far_1 ≡ far_cycle_1
unfolding on_cycles
cycle_1_is = refl

cycle_2_is : next_cycle far_run far_2 ≡ far_cycle_2
unfolding on_cycles
cycle_2_is = refl

cycle_3_is : next_cycle far_run far_3 ≡ far_cycle_3
unfolding on_cycles
cycle_3_is = refl

cycle_4_is : next_cycle far_run far_4 ≡ far_cycle_4
unfolding on_cycles
cycle_4_is = refl

cycle_5_is : next_cycle far_run far_5 ≡ far_cycle_5
unfolding on_cycles
cycle_5_is = refl

pub far_cycles : cycles_of far_run 6 ≡ far_6
unfolding cycles_of
far_cycles = Prim.rw (cycle_0_is, cycle_1_is, cycle_2_is, cycle_3_is, cycle_4_is, cycle_5_is) refl

-- in no double cycle are they in sync and none follows
pub far_unfollowed : first_unfollowed_sync_of small_cluster far_6 ≡ None
unfolding on_told
far_unfollowed = refl

synced : is_in_sync small_cluster far_cycle_2.told.rows far_cycle_3.told.rows ≡ true
unfolding is_in_sync
synced = refl

synced_at_1 : RowsAreInSyncAt small_cluster far_6 1
unfolding cycle_at
synced_at_1 = record {
  even = far_cycle_2;
  odd = far_cycle_3;
  has_even = refl;
  has_odd = refl;
  in_sync = in_sync_from small_cluster far_cycle_2.told.rows far_cycle_3.told.rows synced;
}

pub far_is_synced : StatedRunsAreSynced → IsSyncedRun far_run far_6 1
far_is_synced stated =
    let At : Cycles → Type 0 = λ h. RowsAreInSyncAt small_cluster h 1 in
    let Run : Cycles → Type 0 = λ h. IsSyncedRun far_run h 1 in
    subst Run far_cycles (stated far_run 1 far_is_stated (subst At (sym far_cycles) synced_at_1))
