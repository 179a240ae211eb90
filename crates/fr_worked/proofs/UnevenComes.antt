-- The uneven run, cycle by cycle.
use Rattle.std.proofs.Common.{◌≡◌, Some, refl}
use Rattle.fr_history.specs.Skew.{greatest_skew_of}
use Rattle.fr_history.specs.Cycles.{told_of}
use Rattle.fr_history.specs.Next.{cycles_of, next_cycle}
use Rattle.fr_history.specs.Unfollowed.{first_unfollowed_sync_of}
use Rattle.fr_history.specs.Worked.{ComesOf}
use Rattle.fr_history.proofs.Computing.{on_cycles, on_told}
use Rattle.fr_worked.specs.Uneven.{small_cluster, uneven_run}
use Rattle.fr_worked.specs.UnevenCycles.{cycle_0, cycle_1, cycle_2, cycle_3, cycle_4, cycle_5, cycle_6, cycle_7, cycle_8, cycle_9, uneven_0, uneven_1, uneven_2, uneven_3, uneven_4, uneven_5, uneven_6, uneven_7, uneven_8, uneven_9, uneven_10, uneven_peak}

cycle_0_is : next_cycle uneven_run uneven_0 ≡ cycle_0
unfolding on_cycles
cycle_0_is = refl

cycle_1_is : next_cycle uneven_run uneven_1 ≡ cycle_1
unfolding on_cycles
cycle_1_is = refl

cycle_2_is : next_cycle uneven_run uneven_2 ≡ cycle_2
unfolding on_cycles
cycle_2_is = refl

cycle_3_is : next_cycle uneven_run uneven_3 ≡ cycle_3
unfolding on_cycles
cycle_3_is = refl

cycle_4_is : next_cycle uneven_run uneven_4 ≡ cycle_4
unfolding on_cycles
cycle_4_is = refl

cycle_5_is : next_cycle uneven_run uneven_5 ≡ cycle_5
unfolding on_cycles
cycle_5_is = refl

cycle_6_is : next_cycle uneven_run uneven_6 ≡ cycle_6
unfolding on_cycles
cycle_6_is = refl

cycle_7_is : next_cycle uneven_run uneven_7 ≡ cycle_7
unfolding on_cycles
cycle_7_is = refl

cycle_8_is : next_cycle uneven_run uneven_8 ≡ cycle_8
unfolding on_cycles
cycle_8_is = refl

cycle_9_is : next_cycle uneven_run uneven_9 ≡ cycle_9
unfolding on_cycles
cycle_9_is = refl

pub uneven_cycles : cycles_of uneven_run 10 ≡ uneven_10
unfolding cycles_of
uneven_cycles = Prim.rw (cycle_0_is, cycle_1_is, cycle_2_is, cycle_3_is, cycle_4_is, cycle_5_is, cycle_6_is, cycle_7_is, cycle_8_is, cycle_9_is) refl

uneven_skew : greatest_skew_of small_cluster (told_of uneven_10) ≡ Some uneven_peak
unfolding on_told
uneven_skew = refl

pub uneven_unfollowed : first_unfollowed_sync_of small_cluster uneven_10 ≡ Some 0
unfolding on_told
uneven_unfollowed = refl

pub uneven_run_comes : ComesOf uneven_run uneven_10 uneven_peak 0
uneven_run_comes = record { cycles = uneven_cycles; greatest = uneven_skew; unfollowed = uneven_unfollowed }
