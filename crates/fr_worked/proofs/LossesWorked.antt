-- The files of the worked run that loses every frame of one cycle are covered through losses.
use Rattle.std.proofs.Common.{◌≡◌, ℕ, zero, suc, ◌+◌, ◌<◌, ◌≤◌, Bool, true, false, pos, None, refl, subst, sym, lit≤, lit<, arith}
use Rattle.fr_cluster.specs.Setting.{Setting}
use Rattle.fr_coverage.specs.Coverage.{gap_of_run, some_join}
use Rattle.fr_coverage.specs.Decided.{setting_of}
use Rattle.fr_coverage.specs.First.{first_below, first_in}
use Rattle.fr_coverage.specs.Flutter.{flutter_from, flutter_of, greatest_below, greatest_in}
use Rattle.fr_coverage.proofs.GapParts.{found-of-run}
use Rattle.fr_drift.specs.Held.{held}
use Rattle.fr_drift.specs.Questions.{delay_of, doubles_of, length_of}
use Rattle.fr_script.specs.Deeds.{deed_in}
use Rattle.fr_script.specs.Events.{event_of}
use Rattle.fr_script.specs.View.{deed_of, is_arbitrary, join_of}
use Rattle.fr_precision.specs.Among.{apart_through_losses, spread_through_losses, LaterSpreadsAreLess}
use Rattle.fr_sharp.specs.Losses.{HistoriesKeepThroughLosses}
use Rattle.fr_sharp.specs.LossStatement.{run_spread, without_losses, IsCoveredThroughLosses}
use Rattle.fr_traffic.specs.Reaching.{whole_in}
use Rattle.fr_sharp.specs.SettlingHistories.{AreStatedNear}
use Rattle.fr_bound.specs.SharpBounds.{last_of, sharp_lambda, sharp_pi}
use Rattle.fr_bound.specs.SharpChecks.{sharp_holds_of, SharpChecksHold}
use Rattle.fr_runs.specs.SharpHistories.{IsInSharpSyncAt, KeepsApart}
use Rattle.fr_precision.specs.SharpRun.{WalkLastsAfter}
use Rattle.fr_bound.specs.SharpSpreads.{sharply_near_in}
use Rattle.fr_sharp.specs.SharpStatement.{has_arbitrary}
use Rattle.fr_sharp.proofs.StrayFits.{limit_follows}
use Rattle.fr_traffic.specs.Traffic.{all_bear_from, heard_in, lacking_for, none_lacks, traffic_in}
use Rattle.fr_worked.specs.WorkedFiles.{fluttering_drift}
use Rattle.fr_worked.specs.WorkedLosses.{losing_script, LosingFilesAreCovered, LosingFilesKeep}
use Rattle.fr_sharp.specs.WorkedRun.{steady_cluster}
use Rattle.fr_worked.proofs.FilesWorked.{stated_near}
use Rattle.fr_sharp.proofs.BearingKinds.{through_is_apart}
use Rattle.fr_sharp.proofs.FromLossyFiles.{covered_files_keep_through_losses, lossy_files_give_runs}
use Rattle.fr_sharp.proofs.RunStated.{timed_runs_begin_in_sharp_sync}
use Rattle.fr_promise.proofs.SharpWorked.{is_sane}
use Rattle.fr_promise.proofs.CheckNumbers.{two_to_five}

-- ---- what is heard

whole : (whole_in steady_cluster losing_script 0 ≡ true) × (whole_in steady_cluster losing_script 1 ≡ false) × (whole_in steady_cluster losing_script 2 ≡ true)
unfolding is_arbitrary deed_of deed_in event_of
whole = (refl, refl, refl)

-- ---- they are covered

no_gap : gap_of_run steady_cluster fluttering_drift (without_losses losing_script) ≡ None
unfolding first_below first_in doubles_of length_of delay_of held is_arbitrary join_of deed_of deed_in event_of
no_gap = refl

flutter_is : flutter_of steady_cluster fluttering_drift losing_script ≡ 250
unfolding flutter_from greatest_below greatest_in doubles_of delay_of held is_arbitrary
flutter_is = refl

none_arbitrary : has_arbitrary steady_cluster losing_script ≡ false
unfolding is_arbitrary
none_arbitrary = refl

none_joins : some_join steady_cluster losing_script ≡ false
unfolding is_arbitrary join_of
none_joins = refl

pub checks_hold : SharpChecksHold 250 61_281_165 steady_cluster
unfolding last_of
checks_hold = two_to_five (λ k. sharp_holds_of k 250 61_281_165 steady_cluster) refl refl refl refl

near_in : (double : ℕ) → 0 ≤ double → double < doubles_of fluttering_drift → sharply_near_in steady_cluster (run_spread steady_cluster losing_script 0 250 double) ≤ 61_281_165
unfolding doubles_of spread_through_losses last_of is_arbitrary join_of deed_of deed_in event_of
near_in zero late less = lit≤ tt
near_in (suc zero) late less = lit≤ tt
near_in (suc (suc zero)) late less = lit≤ tt
near_in (suc (suc (suc k))) late less = absurd (omega (arith, less))

trusted : (double : ℕ) → 0 ≤ double → double < doubles_of fluttering_drift → all_bear_from steady_cluster (traffic_in steady_cluster losing_script) 0 double ≡ true
unfolding lacking_for doubles_of is_arbitrary join_of deed_of deed_in event_of
trusted zero late less = refl
trusted (suc zero) late less = refl
trusted (suc (suc zero)) late less = refl
trusted (suc (suc (suc k))) late less = absurd (omega (arith, less))

covered : IsCoveredThroughLosses steady_cluster fluttering_drift losing_script 0 250 61_281_165
covered = record {
  checks = checks_hold;
  near = near_in;
  none_joins = none_joins;
  none = λ g gap behind. (found-of-run steady_cluster fluttering_drift (without_losses losing_script) is_sane).0 no_gap g gap;
  flutters = omega (arith, flutter_is);
  borne = trusted;
  limit = λ double passed late less few lasts. limit_follows steady_cluster losing_script 0 250 double passed refl (λ k behind within lacks. refl) lasts;
}

pub losing_files_are_covered : LosingFilesAreCovered
losing_files_are_covered = (whole.0, whole.1, whole.2, covered)

-- ---- what comes of it

abbrev losing : Setting
losing = setting_of steady_cluster fluttering_drift losing_script

-- what is stated of cycle 0 does not speak of what is lost
near : AreStatedNear losing (sharp_pi false steady_cluster 250) (sharp_lambda false steady_cluster 250)
unfolding is_arbitrary join_of
near = let n = stated_near false in record { starts = n.starts; lengths = n.lengths; about = n.about }

pub lasts : (passed : ℕ) → WalkLastsAfter steady_cluster 250 passed
lasts passed = tt

abbrev apart_at : ℕ → ℕ
apart_at passed = apart_through_losses (has_arbitrary steady_cluster losing_script) steady_cluster 250 (λ m. heard_in (traffic_in steady_cluster losing_script) (0 + m)) passed

apart_0 : apart_at 0 ≡ 36_005_494
unfolding spread_through_losses is_arbitrary join_of deed_of deed_in event_of
apart_0 = refl

apart_1 : apart_at 1 ≡ 48_007_094
unfolding spread_through_losses is_arbitrary join_of deed_of deed_in event_of
apart_1 = refl

apart_2 : apart_at 2 ≡ 75_011_786
unfolding spread_through_losses is_arbitrary join_of deed_of deed_in event_of
apart_2 = refl

pub three : doubles_of fluttering_drift ≡ 3
unfolding doubles_of
three = refl

-- each node has a key slot
awake : (double : ℕ) → none_lacks (traffic_in steady_cluster losing_script) double ≡ true
unfolding is_arbitrary
awake double = refl

pub losing_files_keep : HistoriesKeepThroughLosses → LaterSpreadsAreLess → LosingFilesKeep
losing_files_keep keep later h run =
    let w = lossy_files_give_runs steady_cluster fluttering_drift losing_script 0 250 61_281_165 h is_sane covered run in
    let some : 1 ≤ losing.doubles = let e = three in omega (arith, e) in
    let sync : IsInSharpSyncAt false steady_cluster 250 (pos 0) h 0 = timed_runs_begin_in_sharp_sync false losing 250 h w.run near some in
    let synced : IsInSharpSyncAt (has_arbitrary steady_cluster losing_script) steady_cluster 250 (pos 0) h 0 = subst (λ (b : Bool). IsInSharpSyncAt b steady_cluster 250 (pos 0) h 0) (sym none_arbitrary) sync in
    let keeps = λ (passed : ℕ) (less : 0 + passed < doubles_of fluttering_drift).
    through_is_apart losing h (0 + passed) (apart_at passed)
    (covered_files_keep_through_losses keep later steady_cluster fluttering_drift losing_script 0 250 61_281_165 h 0 is_sane covered run (lit≤ tt) synced (awake 0) passed less (lasts passed)) (awake (0 + passed)) in
    let Keeps : ℕ → ℕ → Type 0 = λ double apart. KeepsApart losing h double apart in
    let less = λ (n : ℕ) (is : n < 3). (let e = three in let below : n < doubles_of fluttering_drift = omega (arith, e, is) in below) in
    (sync, subst (Keeps 0) apart_0 (keeps 0 (less 0 (lit< tt))), subst (Keeps 1) apart_1 (keeps 1 (less 1 (lit< tt))), subst (Keeps 2) apart_2 (keeps 2 (less 2 (lit< tt))))
