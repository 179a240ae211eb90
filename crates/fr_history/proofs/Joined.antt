-- The run of three nodes of which one joins, cycle by cycle.
use Rattle.std.proofs.Common.{◌≡◌, Some, refl}
use Rattle.fr_history.specs.Skew.{greatest_skew_of}
use Rattle.fr_history.specs.Cycles.{told_of}
use Rattle.fr_history.specs.Next.{cycles_of, next_cycle}
use Rattle.fr_history.specs.Unfollowed.{first_unfollowed_sync_of}
use Rattle.fr_history.specs.Worked.{ComesOf, after_10, after_11, after_12, after_4, after_5, after_6, after_7, after_8, after_9, joined_run, no_skew, three_at, two_after, two_and_follower, two_at}
use Rattle.fr_history.proofs.Computing.{on_cycles, on_told}

cycle_0_is : next_cycle joined_run (two_after 0) ≡ two_at 0
unfolding on_cycles
cycle_0_is = refl

cycle_1_is : next_cycle joined_run (two_after 1) ≡ two_at 1
unfolding on_cycles
cycle_1_is = refl

cycle_2_is : next_cycle joined_run (two_after 2) ≡ two_at 2
unfolding on_cycles
cycle_2_is = refl

cycle_3_is : next_cycle joined_run (two_after 3) ≡ two_at 3
unfolding on_cycles
cycle_3_is = refl

cycle_4_is : next_cycle joined_run after_4 ≡ two_and_follower 4
unfolding on_cycles
cycle_4_is = refl

cycle_5_is : next_cycle joined_run after_5 ≡ two_and_follower 5
unfolding on_cycles
cycle_5_is = refl

cycle_6_is : next_cycle joined_run after_6 ≡ two_and_follower 6
unfolding on_cycles
cycle_6_is = refl

cycle_7_is : next_cycle joined_run after_7 ≡ two_and_follower 7
unfolding on_cycles
cycle_7_is = refl

cycle_8_is : next_cycle joined_run after_8 ≡ three_at 8 4_500_586
unfolding on_cycles
cycle_8_is = refl

cycle_9_is : next_cycle joined_run after_9 ≡ three_at 9 1_687_969
unfolding on_cycles
cycle_9_is = refl

cycle_10_is : next_cycle joined_run after_10 ≡ three_at 10 16_676_860
unfolding on_cycles
cycle_10_is = refl

cycle_11_is : next_cycle joined_run after_11 ≡ three_at 11 10_689_079
unfolding on_cycles
cycle_11_is = refl

joined_cycles : cycles_of joined_run 12 ≡ after_12
unfolding cycles_of
joined_cycles = Prim.rw (cycle_0_is, cycle_1_is, cycle_2_is, cycle_3_is, cycle_4_is, cycle_5_is, cycle_6_is, cycle_7_is, cycle_8_is, cycle_9_is, cycle_10_is, cycle_11_is) refl

joined_skew : greatest_skew_of joined_run.params (told_of after_12) ≡ Some no_skew
unfolding on_told
joined_skew = refl

joined_unfollowed : first_unfollowed_sync_of joined_run.params after_12 ≡ Some 0
unfolding on_told
joined_unfollowed = refl

pub joined_run_comes : ComesOf joined_run after_12 no_skew 0
joined_run_comes = record { cycles = joined_cycles; greatest = joined_skew; unfollowed = joined_unfollowed }
