-- The files of the worked run whose delays flutter are sharply covered to join, where node 4 joins.
use Rattle.std.proofs.Common.{◌≡◌, Bool, true, false, None, refl, sym, subst, arith}
use Rattle.fr_coverage.specs.Coverage.{gap_of_run, some_join}
use Rattle.fr_coverage.specs.First.{first_below, first_in}
use Rattle.fr_coverage.specs.Flutter.{flutter_from, flutter_of, greatest_below, greatest_in}
use Rattle.fr_coverage.proofs.GapParts.{found-of-run}
use Rattle.fr_drift.specs.Held.{held}
use Rattle.fr_drift.specs.Questions.{delay_of, doubles_of, length_of}
use Rattle.fr_script.specs.Deeds.{deed_in}
use Rattle.fr_script.specs.Events.{event_of}
use Rattle.fr_script.specs.View.{deed_of, is_arbitrary, join_of}
use Rattle.fr_bound.specs.SharpBounds.{last_of}
use Rattle.fr_bound.specs.SharpChecks.{sharp_holds_of}
use Rattle.fr_promise.specs.SharpJoining.{sharp_join_holds_of, sharp_reach, SharpJoinChecksHold}
use Rattle.fr_sharp.specs.SharpStatement.{has_arbitrary}
use Rattle.fr_worked.specs.WorkedFiles.{fluttering_drift, joining_script, JoiningFilesAreCovered}
use Rattle.fr_sharp.specs.WorkedRun.{steady_cluster}
use Rattle.fr_promise.proofs.SharpWorked.{is_sane}
use Rattle.fr_promise.proofs.CheckNumbers.{six_to_nine}

no_gap : gap_of_run steady_cluster fluttering_drift joining_script ≡ None
unfolding first_below first_in doubles_of length_of delay_of held is_arbitrary join_of deed_of deed_in event_of
no_gap = refl

flutter_is : flutter_of steady_cluster fluttering_drift joining_script ≡ 250
unfolding flutter_from greatest_below greatest_in doubles_of delay_of held is_arbitrary
flutter_is = refl

kind_is : has_arbitrary steady_cluster joining_script ≡ false
unfolding is_arbitrary
kind_is = refl

joins : some_join steady_cluster joining_script ≡ true
unfolding is_arbitrary join_of
joins = refl

first_holds : sharp_holds_of 1 250 (sharp_reach false steady_cluster 250) steady_cluster ≡ true
first_holds = refl

checks_hold : SharpJoinChecksHold false 250 steady_cluster
unfolding last_of
checks_hold = six_to_nine (λ k. sharp_join_holds_of k false 250 steady_cluster) refl refl refl refl

pub joining_files_are_covered : JoiningFilesAreCovered
joining_files_are_covered =
    let Hold : Bool → Type 0 = λ b. SharpJoinChecksHold b 250 steady_cluster in (
      joins,
      flutter_is,
      record {
        checks = subst Hold (sym kind_is) checks_hold;
        none = λ g gap behind. (found-of-run steady_cluster fluttering_drift joining_script is_sane).0 no_gap g gap;
        flutters = omega (arith, flutter_is);
      },
      first_holds,
    )
