-- The files of the worked runs in which lists meet are covered through losses.
use Rattle.std.proofs.Common.{◌≡◌, ℕ, zero, suc, ◌+◌, ◌<◌, ◌≤◌, Bool, true, false, pos, None, refl, subst, sym, lit≤, lit<, arith}
use Rattle.fr_bound.specs.declared.judging.Heard.TheVariants as heard
use Rattle.fr_cluster.specs.Setting.{Setting}
use Rattle.fr_coverage.specs.Coverage.{gap_of_run, some_join}
use Rattle.fr_coverage.specs.Decided.{setting_of}
use Rattle.fr_coverage.specs.First.{first_below, first_in}
use Rattle.fr_coverage.specs.Flutter.{flutter_from, flutter_of, greatest_below, greatest_in}
use Rattle.fr_coverage.proofs.GapParts.{found-of-run}
use Rattle.fr_drift.specs.Held.{held}
use Rattle.fr_drift.specs.Questions.{delay_of, doubles_of, length_of}
use Rattle.fr_script.specs.Deeds.{deed_in}
use Rattle.fr_script.specs.Events.{event_of}
use Rattle.fr_script.specs.View.{ScriptView, deed_of, is_arbitrary, join_of}
use Rattle.fr_precision.specs.Among.{apart_through_losses, both, spread_through_losses, LaterSpreadsAreLess}
use Rattle.fr_sharp.specs.Losses.{HistoriesKeepThroughLosses}
use Rattle.fr_sharp.specs.LossStatement.{run_spread, without_losses, IsCoveredThroughLosses}
use Rattle.fr_sharp.specs.SettlingHistories.{AreStatedNear}
use Rattle.fr_bound.specs.SharpBounds.{last_of, sharp_lambda, sharp_pi}
use Rattle.fr_bound.specs.SharpChecks.{sharp_holds_of, SharpChecksHold}
use Rattle.fr_runs.specs.SharpHistories.{IsInSharpSyncAt, KeepsApart}
use Rattle.fr_bound.specs.SharpSpreads.{sharply_near_in}
use Rattle.fr_sharp.specs.SharpStatement.{has_arbitrary}
use Rattle.fr_sharp.proofs.StrayFits.{limit_follows}
use Rattle.fr_traffic.specs.Traffic.{all_bear_from, heard_in, lacking_for, none_lacks, traffic_in}
use Rattle.fr_worked.specs.WorkedFiles.{fluttering_drift, marking_script}
use Rattle.fr_worked.specs.WorkedLosses.{missing_script, BesideFilesAreCovered, BesideFilesKeep, MissingFilesAreCovered, MissingFilesKeep}
use Rattle.fr_sharp.specs.WorkedRun.{steady_cluster}
use Rattle.fr_worked.proofs.LossesWorked.{lasts, three}
use Rattle.fr_worked.proofs.FilesWorked.{covered as sharply_covered, kind_is, stated_near, steady}
use Rattle.fr_sharp.proofs.BearingKinds.{through_is_apart}
use Rattle.fr_sharp.proofs.FromLossyFiles.{covered_files_keep_through_losses, lossy_files_give_runs}
use Rattle.fr_sharp.proofs.RunStated.{stated_runs_begin_in_sharp_sync, timed_runs_begin_in_sharp_sync}
use Rattle.fr_promise.proofs.SharpWorked.{is_sane}
use Rattle.fr_promise.proofs.CheckNumbers.{two_to_five}

-- ---- one frame at one node

clean_0 : heard_in (traffic_in steady_cluster missing_script) 0 ≡ both heard.Clean
unfolding is_arbitrary join_of deed_of deed_in event_of
clean_0 = refl

meeting_1 : heard_in (traffic_in steady_cluster missing_script) 1 ≡ both heard.Meeting
unfolding is_arbitrary join_of deed_of deed_in event_of
meeting_1 = refl

clean_2 : heard_in (traffic_in steady_cluster missing_script) 2 ≡ both heard.Clean
unfolding is_arbitrary join_of deed_of deed_in event_of
clean_2 = refl

no_gap : gap_of_run steady_cluster fluttering_drift (without_losses missing_script) ≡ None
unfolding first_below first_in doubles_of length_of delay_of held is_arbitrary join_of deed_of deed_in event_of
no_gap = refl

flutter_is : flutter_of steady_cluster fluttering_drift missing_script ≡ 250
unfolding flutter_from greatest_below greatest_in doubles_of delay_of held is_arbitrary
flutter_is = refl

none_arbitrary : has_arbitrary steady_cluster missing_script ≡ false
unfolding is_arbitrary
none_arbitrary = refl

none_joins : some_join steady_cluster missing_script ≡ false
unfolding is_arbitrary join_of
none_joins = refl

missing_checks : SharpChecksHold 250 45_726_402 steady_cluster
unfolding last_of
missing_checks = two_to_five (λ k. sharp_holds_of k 250 45_726_402 steady_cluster) refl refl refl refl

abbrev near_at : ScriptView → ℕ → ℕ
near_at s double = sharply_near_in steady_cluster (run_spread steady_cluster s 0 250 double)

missing_near : (double : ℕ) → 0 ≤ double → double < doubles_of fluttering_drift → near_at missing_script double ≤ 45_726_402
unfolding doubles_of spread_through_losses last_of is_arbitrary join_of deed_of deed_in event_of
missing_near zero late less = lit≤ tt
missing_near (suc zero) late less = lit≤ tt
missing_near (suc (suc zero)) late less = lit≤ tt
missing_near (suc (suc (suc k))) late less = absurd (omega (arith, less))

missing_trusted : (double : ℕ) → 0 ≤ double → double < doubles_of fluttering_drift → all_bear_from steady_cluster (traffic_in steady_cluster missing_script) 0 double ≡ true
unfolding lacking_for doubles_of is_arbitrary join_of deed_of deed_in event_of
missing_trusted zero late less = refl
missing_trusted (suc zero) late less = refl
missing_trusted (suc (suc zero)) late less = refl
missing_trusted (suc (suc (suc k))) late less = absurd (omega (arith, less))

missing_covered : IsCoveredThroughLosses steady_cluster fluttering_drift missing_script 0 250 45_726_402
missing_covered = record {
  checks = missing_checks;
  near = missing_near;
  none_joins = none_joins;
  none = λ g gap behind. (found-of-run steady_cluster fluttering_drift (without_losses missing_script) is_sane).0 no_gap g gap;
  flutters = omega (arith, flutter_is);
  borne = missing_trusted;
  limit = λ double passed late less few lasts. limit_follows steady_cluster missing_script 0 250 double passed refl (λ k behind within lacks. refl) lasts;
}

pub missing_files_are_covered : MissingFilesAreCovered
missing_files_are_covered = (clean_0, meeting_1, clean_2, missing_covered)

abbrev missing : Setting
missing = setting_of steady_cluster fluttering_drift missing_script

near : AreStatedNear missing (sharp_pi false steady_cluster 250) (sharp_lambda false steady_cluster 250)
unfolding is_arbitrary join_of
near = let n = stated_near false in record { starts = n.starts; lengths = n.lengths; about = n.about }

abbrev apart_at : ScriptView → ℕ → ℕ
apart_at s passed = apart_through_losses (has_arbitrary steady_cluster s) steady_cluster 250 (λ m. heard_in (traffic_in steady_cluster s) (0 + m)) passed

apart_0 : apart_at missing_script 0 ≡ 36_005_494
unfolding spread_through_losses is_arbitrary join_of deed_of deed_in event_of
apart_0 = refl

apart_1 : apart_at missing_script 1 ≡ 36_005_494
unfolding spread_through_losses is_arbitrary join_of deed_of deed_in event_of
apart_1 = refl

apart_2 : apart_at missing_script 2 ≡ 57_008_790
unfolding spread_through_losses is_arbitrary join_of deed_of deed_in event_of
apart_2 = refl

within : (n : ℕ) → n < 3 → 0 + n < doubles_of fluttering_drift
within n is = let e = three in omega (arith, e, is)

-- each node has a key slot
missing_awake : (double : ℕ) → none_lacks (traffic_in steady_cluster missing_script) double ≡ true
unfolding is_arbitrary
missing_awake double = refl

pub missing_files_keep : HistoriesKeepThroughLosses → LaterSpreadsAreLess → MissingFilesKeep
missing_files_keep keep later h run =
    let w = lossy_files_give_runs steady_cluster fluttering_drift missing_script 0 250 45_726_402 h is_sane missing_covered run in
    let some : 1 ≤ missing.doubles = let e = three in omega (arith, e) in
    let sync : IsInSharpSyncAt false steady_cluster 250 (pos 0) h 0 = timed_runs_begin_in_sharp_sync false missing 250 h w.run near some in
    let synced : IsInSharpSyncAt (has_arbitrary steady_cluster missing_script) steady_cluster 250 (pos 0) h 0 = subst (λ (b : Bool). IsInSharpSyncAt b steady_cluster 250 (pos 0) h 0) (sym none_arbitrary) sync in
    let keeps = λ (passed : ℕ) (less : 0 + passed < doubles_of fluttering_drift).
    through_is_apart missing h (0 + passed) (apart_at missing_script passed)
    (covered_files_keep_through_losses keep later steady_cluster fluttering_drift missing_script 0 250 45_726_402 h 0 is_sane missing_covered run (lit≤ tt) synced (missing_awake 0) passed less (lasts passed))
    (missing_awake (0 + passed)) in
    let Keeps : ℕ → ℕ → Type 0 = λ double apart. KeepsApart missing h double apart in (
      sync,
      subst (Keeps 0) apart_0 (keeps 0 (within 0 (lit< tt))),
      subst (Keeps 1) apart_1 (keeps 1 (within 1 (lit< tt))),
      subst (Keeps 2) apart_2 (keeps 2 (within 2 (lit< tt))),
    )

-- ---- beside an arbitrary node

abbrev beside_script : ScriptView
beside_script = marking_script true

meeting : (double : ℕ) → double < 3 → heard_in (traffic_in steady_cluster (marking_script true)) double ≡ both heard.Meeting
unfolding is_arbitrary join_of deed_of deed_in event_of
meeting zero less = refl
meeting (suc zero) less = refl
meeting (suc (suc zero)) less = refl
meeting (suc (suc (suc k))) less = absurd (omega (arith, less))

beside_checks : SharpChecksHold 250 84_305_863 steady_cluster
unfolding last_of
beside_checks = two_to_five (λ k. sharp_holds_of k 250 84_305_863 steady_cluster) refl refl refl refl

beside_near : (double : ℕ) → 0 ≤ double → double < doubles_of fluttering_drift → near_at (marking_script true) double ≤ 84_305_863
unfolding doubles_of spread_through_losses last_of is_arbitrary join_of deed_of deed_in event_of
beside_near zero late less = lit≤ tt
beside_near (suc zero) late less = lit≤ tt
beside_near (suc (suc zero)) late less = lit≤ tt
beside_near (suc (suc (suc k))) late less = absurd (omega (arith, less))

beside_trusted : (double : ℕ) → 0 ≤ double → double < doubles_of fluttering_drift → all_bear_from steady_cluster (traffic_in steady_cluster (marking_script true)) 0 double ≡ true
unfolding lacking_for doubles_of is_arbitrary join_of deed_of deed_in event_of
beside_trusted zero late less = refl
beside_trusted (suc zero) late less = refl
beside_trusted (suc (suc zero)) late less = refl
beside_trusted (suc (suc (suc k))) late less = absurd (omega (arith, less))

beside_covered : IsCoveredThroughLosses steady_cluster fluttering_drift (marking_script true) 0 250 84_305_863
beside_covered =
    let sharply = sharply_covered true in
    record {
      checks = beside_checks;
      near = beside_near;
      none_joins = sharply.none_joins;
      none = sharply.none;
      flutters = sharply.flutters;
      borne = beside_trusted;
      limit = λ double passed late less few lasts. limit_follows steady_cluster (marking_script true) 0 250 double passed refl (λ k behind within lacks. refl) lasts;
    }

pub beside_files_are_covered : BesideFilesAreCovered
beside_files_are_covered = (meeting, beside_covered)

beside_apart : (double : ℕ) → double < 3 → apart_at (marking_script true) double ≡ 99_015_680
unfolding spread_through_losses is_arbitrary join_of deed_of deed_in event_of
beside_apart zero less = refl
beside_apart (suc zero) less = refl
beside_apart (suc (suc zero)) less = refl
beside_apart (suc (suc (suc k))) less = absurd (omega (arith, less))

-- each node has a key slot
beside_awake : (double : ℕ) → none_lacks (traffic_in steady_cluster (marking_script true)) double ≡ true
unfolding is_arbitrary
beside_awake double = refl

pub beside_files_keep : HistoriesKeepThroughLosses → LaterSpreadsAreLess → BesideFilesKeep
beside_files_keep keep later h run double less =
    let x : Setting = setting_of steady_cluster fluttering_drift (marking_script true) in
    let some : 1 ≤ x.doubles = let e = three in omega (arith, e) in
    let sync : IsInSharpSyncAt true steady_cluster 250 (pos 0) h 0 = stated_runs_begin_in_sharp_sync true x 250 h (steady true h run) (stated_near true) some in
    let synced : IsInSharpSyncAt (has_arbitrary steady_cluster (marking_script true)) steady_cluster 250 (pos 0) h 0 = subst (λ (b : Bool). IsInSharpSyncAt b steady_cluster 250 (pos 0) h 0) (sym (kind_is true)) sync in
    let through = covered_files_keep_through_losses keep later steady_cluster fluttering_drift (marking_script true) 0 250 84_305_863 h 0 is_sane beside_covered run (lit≤ tt) synced (beside_awake 0) double (within double less) (lasts double) in
    let keeps = through_is_apart x h (0 + double) (apart_at (marking_script true) double) through (beside_awake (0 + double)) in
    let none : 0 + double ≡ double = omega arith in
    subst (λ (n : ℕ). KeepsApart x h n 99_015_680) none (subst (KeepsApart x h (0 + double)) (beside_apart double less) keeps)
