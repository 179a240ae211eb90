-- Two runs like it in which that node never has a row, cycle by cycle.
use Rattle.std.proofs.Common.{◌≡◌, Some, refl}
use Rattle.fr_history.specs.Skew.{greatest_skew_of}
use Rattle.fr_history.specs.Cycles.{told_of}
use Rattle.fr_history.specs.Next.{cycles_of, next_cycle}
use Rattle.fr_history.specs.Unfollowed.{first_unfollowed_sync_of}
use Rattle.fr_history.specs.Worked.{ComesOf, after_4, deaf_after_5, deaf_after_6, deaf_after_7, deaf_after_8, deaf_after_9, deaf_at, deaf_run, lost_join_run, no_skew, two_after, two_at}
use Rattle.fr_history.proofs.Computing.{on_cycles, on_told}

-- ---- a frame of its reference is lost while it listens

lost_0_is : next_cycle lost_join_run (two_after 0) ≡ two_at 0
unfolding on_cycles
lost_0_is = refl

lost_1_is : next_cycle lost_join_run (two_after 1) ≡ two_at 1
unfolding on_cycles
lost_1_is = refl

lost_2_is : next_cycle lost_join_run (two_after 2) ≡ two_at 2
unfolding on_cycles
lost_2_is = refl

lost_3_is : next_cycle lost_join_run (two_after 3) ≡ two_at 3
unfolding on_cycles
lost_3_is = refl

lost_4_is : next_cycle lost_join_run (two_after 4) ≡ two_at 4
unfolding on_cycles
lost_4_is = refl

lost_5_is : next_cycle lost_join_run (two_after 5) ≡ two_at 5
unfolding on_cycles
lost_5_is = refl

lost_6_is : next_cycle lost_join_run (two_after 6) ≡ two_at 6
unfolding on_cycles
lost_6_is = refl

lost_7_is : next_cycle lost_join_run (two_after 7) ≡ two_at 7
unfolding on_cycles
lost_7_is = refl

lost_8_is : next_cycle lost_join_run (two_after 8) ≡ two_at 8
unfolding on_cycles
lost_8_is = refl

lost_cycles : cycles_of lost_join_run 9 ≡ two_after 9
unfolding cycles_of
lost_cycles = Prim.rw (lost_0_is, lost_1_is, lost_2_is, lost_3_is, lost_4_is, lost_5_is, lost_6_is, lost_7_is, lost_8_is) refl

lost_skew : greatest_skew_of lost_join_run.params (told_of (two_after 9)) ≡ Some no_skew
unfolding on_told
lost_skew = refl

lost_unfollowed : first_unfollowed_sync_of lost_join_run.params (two_after 9) ≡ Some 0
unfolding on_told
lost_unfollowed = refl

pub lost_run_comes : ComesOf lost_join_run (two_after 9) no_skew 0
lost_run_comes = record { cycles = lost_cycles; greatest = lost_skew; unfollowed = lost_unfollowed }

-- ---- it hears nothing while it follows

deaf_0_is : next_cycle deaf_run (two_after 0) ≡ two_at 0
unfolding on_cycles
deaf_0_is = refl

deaf_1_is : next_cycle deaf_run (two_after 1) ≡ two_at 1
unfolding on_cycles
deaf_1_is = refl

deaf_2_is : next_cycle deaf_run (two_after 2) ≡ two_at 2
unfolding on_cycles
deaf_2_is = refl

deaf_3_is : next_cycle deaf_run (two_after 3) ≡ two_at 3
unfolding on_cycles
deaf_3_is = refl

deaf_4_is : next_cycle deaf_run after_4 ≡ deaf_at 4
unfolding on_cycles
deaf_4_is = refl

deaf_5_is : next_cycle deaf_run deaf_after_5 ≡ deaf_at 5
unfolding on_cycles
deaf_5_is = refl

deaf_6_is : next_cycle deaf_run deaf_after_6 ≡ two_at 6
unfolding on_cycles
deaf_6_is = refl

deaf_7_is : next_cycle deaf_run deaf_after_7 ≡ two_at 7
unfolding on_cycles
deaf_7_is = refl

deaf_8_is : next_cycle deaf_run deaf_after_8 ≡ two_at 8
unfolding on_cycles
deaf_8_is = refl

deaf_cycles : cycles_of deaf_run 9 ≡ deaf_after_9
unfolding cycles_of
deaf_cycles = Prim.rw (deaf_0_is, deaf_1_is, deaf_2_is, deaf_3_is, deaf_4_is, deaf_5_is, deaf_6_is, deaf_7_is, deaf_8_is) refl

deaf_skew : greatest_skew_of deaf_run.params (told_of deaf_after_9) ≡ Some no_skew
unfolding on_told
deaf_skew = refl

deaf_unfollowed : first_unfollowed_sync_of deaf_run.params deaf_after_9 ≡ Some 0
unfolding on_told
deaf_unfollowed = refl

pub deaf_run_comes : ComesOf deaf_run deaf_after_9 no_skew 0
deaf_run_comes = record { cycles = deaf_cycles; greatest = deaf_skew; unfollowed = deaf_unfollowed }
