-- The files of the run that node 5 joins and that loses frames are accepted and covered to join through losses, and it keeps what is
-- promised of it.
use Rattle.std.proofs.Common.{◌≡◌, ℕ, zero, suc, ◌+◌, ◌*◌, ◌<◌, ◌≤◌, ◌==◌, Bool, true, false, [], ◌∷◌, Some, None, length, refl, sym, ◌∙◌, subst, lit≤, lit<, arith}
use Rattle.std.specs.Prelude.{cond}
use Rattle.std.proofs.lemmas.Bool.Decides.{nat_tests}
use Rattle.csv.specs.Machine.{next_record}
use Rattle.csv.specs.Reading.{records_from, strip_bom}
use Rattle.fr_base.specs.declared.channel.Channel.{Channel}
use Rattle.fr_base.specs.declared.channel.Channel.TheVariants.{A, B}
use Rattle.fr_bound.specs.SharpBounds.{last_of}
use Rattle.fr_bound.specs.SharpChecks.{sharp_holds_of}
use Rattle.fr_bound.specs.declared.judging.Heard.TheVariants as heard
use Rattle.fr_cluster.proofs.Elements.{Contains-here}
use Rattle.fr_cluster.specs.Setting.{IsSetting, Setting}
use Rattle.fr_coverage.proofs.GapParts.{found-of-run}
use Rattle.fr_drift.specs.Held.{held}
use Rattle.fr_drift.specs.Questions.{delay_of, doubles_of, length_of, rate_of, start_of}
use Rattle.fr_history.specs.Cycles.{cycle_at, Cycles}
use Rattle.fr_history.specs.Lawful.{IsLawful}
use Rattle.fr_history.specs.Next.{cycles_of}
use Rattle.fr_history.specs.Worked.{on_a}
use Rattle.fr_history.proofs.Computing.{on_cycles}
use Rattle.fr_precision.specs.Among.{apart_through_losses, both, spread_through_losses}
use Rattle.fr_promise.specs.JoinedHistories.{FirstRatesLast, IsJoinedUpTo, KeepsJoined}
use Rattle.fr_promise.specs.SharpJoining.{group_spread_through, sharp_reach}
use Rattle.fr_promise.specs.SharpTested.{first_free_of, first_sharp_sync_of, IsUnfollowedSharpSyncAt}
use Rattle.fr_promise.specs.Statement.{IsRunOf}
use Rattle.fr_promise.proofs.CheckNumbers.{two_to_five}
use Rattle.fr_promise.proofs.FreeLemmas.{first_sharp_sync_is}
use Rattle.fr_promise.proofs.JoinedRuns.{first_rates_last_on}
use Rattle.fr_promise.proofs.Stating.{is_setting as files_are_a_setting}
use Rattle.fr_runs.proofs.Parts.{cycle_within}
use Rattle.fr_runs.specs.Gathered.{listened_by}
use Rattle.fr_script.specs.Deeds.{deed_in, passage_cmp, DeedsAscend}
use Rattle.fr_script.specs.Events.{event_of}
use Rattle.fr_script.specs.Files.{IsScriptFile}
use Rattle.fr_script.specs.Reasons.{deed_by, is_same_passage, script_reason_after}
use Rattle.fr_script.specs.Rows.{script_row_of}
use Rattle.fr_script.specs.View.{deed_of, deeds_on, is_arbitrary, join_of, AreDeeds, ScriptView}
use Rattle.fr_script.specs.declared.deeds.Passage.{Passage}
use Rattle.fr_sharp.specs.JoinedLosses.{TakesInJoining}
use Rattle.fr_sharp.specs.JoinedLossStatement.{run_group, IsCoveredToJoinThroughLosses, JoinedFilesKeepThroughLosses, KeepsJoinedThroughLosses}
use Rattle.fr_sharp.specs.LossStatement.{without_losses}
use Rattle.fr_sharp.specs.SharpStatement.{has_arbitrary}
use Rattle.fr_sharp.proofs.FromLossyFiles.{same_flutter}
use Rattle.fr_skew.specs.Sync.{are_in_sync_by_even}
use Rattle.fr_text.specs.Fields.{looked_up}
use Rattle.fr_text.specs.Records.{records_of}
use Rattle.fr_traffic.specs.Traffic.{heard_in, is_borne_to_join, traffic_in}
use Rattle.fr_worked.specs.JoiningLosses.{joining_files, joining_hears, JoiningFilesKeep, JoiningFilesLose}
use Rattle.fr_worked.specs.RunFiles.{run_of_files}
use Rattle.fr_worked.specs.SharplyJoinedFiles.{wide_cluster, wide_drift}
use Rattle.fr_worked.proofs.Accepted.{are_accepted, are_deeds, found_is_told, none_refused, one_differs, said_once, same_passage, told_by, AllKept}
use Rattle.fr_worked.proofs.Decided.{none_marked}
use Rattle.fr_worked.proofs.SharplyJoinedAre.{alone_worked, begins_longer, join_of_5, no_deeds, node_5}

abbrev script : ScriptView
script = joining_files.script

abbrev x : Setting
x = run_of_files joining_files

-- ---- the script

lost_deeds : AreDeeds script.on_a
unfolding AllKept
lost_deeds = are_deeds script.on_a tt (tt, (tt, (tt, (tt, (tt, (tt, (tt, (tt, (tt, (tt, (tt, (tt, (tt, (tt, (tt, (tt, (tt, (tt, (tt, tt)))))))))))))))))))

deeds_are : (ch : Channel) (passage : Passage) → deed_in (deeds_on script ch) passage ≡ deed_by ch passage (records_of joining_files.script_file)
unfolding told_by records_of strip_bom records_from next_record script_row_of looked_up deed_in
deeds_are A passage = found_is_told passage_cmp is_same_passage same_passage script.on_a passage
deeds_are B passage = refl

deeds_ascend : (ch : Channel) → DeedsAscend (deeds_on script ch)
deeds_ascend A = lost_deeds.ascending
deeds_ascend B = no_deeds.ascending

joins_are : (node : ℕ) → join_of script node ≡ cond (5 == node) (Some join_of_5) None
unfolding join_of
joins_are node = one_differs 5 59 node (Some join_of_5) None

script_is : IsScriptFile wide_cluster script joining_files.script_file
unfolding are_accepted is_arbitrary records_of strip_bom records_from next_record script_row_of looked_up
script_is = record {
  none_refused = none_refused (script_reason_after wide_cluster) (records_of joining_files.script_file) refl;
  stands = record {
    long = refl;
    joins_long = refl;
    nodes = λ node low. none_marked 65 node;
    joins = λ node low. joins_are node ∙ said_once (5 == node) join_of_5;
    deeds = deeds_are;
    ascending = deeds_ascend;
  };
}

-- ---- they are covered

so_heard : (joining_hears 0 ≡ both heard.Clean) × (joining_hears 1 ≡ both heard.Poor) × (joining_hears 2 ≡ both heard.Clean) × (joining_hears 3 ≡ record { offsets = heard.Clean; rates = heard.Meeting })
    × (joining_hears 4 ≡ both heard.Clean)
unfolding is_arbitrary join_of deed_of deed_in event_of
so_heard = (refl, refl, refl, refl, refl)

-- whoever follows listened in double cycle 0
none_begins : (node double : ℕ) → listened_by (join_of script node) 1 (suc (suc double)) ≡ true → ⊥
none_begins node double listens = by (5 == node) (subst (λ o. listened_by o 1 (suc (suc double)) ≡ true) (joins_are node) listens)
  where
    by : (b : Bool) → listened_by (cond b (Some join_of_5) None) 1 (suc (suc double)) ≡ true → ⊥
    by true is = grind (arith, nat_tests)
    by false is = cc

abbrev reach : ℕ
reach = 69_549_919

-- of each double cycle, that the reach takes in all of it, and that it is borne
double_is : (double : ℕ) → 0 ≤ double → double < doubles_of wide_drift
    → TakesInJoining x (run_group wide_cluster wide_drift script 0 250 double) double reach × (is_borne_to_join (traffic_in wide_cluster script) double ≡ true)
unfolding doubles_of group_spread_through last_of is_arbitrary join_of deed_of deed_in event_of
double_is zero late less = (record { rows = lit≤ tt; seconds = λ node there listens. lit≤ tt; firsts = λ node there listens. lit≤ tt }, refl)
double_is (suc zero) late less = (record { rows = lit≤ tt; seconds = λ node there listens. lit≤ tt; firsts = λ node there listens. lit≤ tt }, refl)
double_is (suc (suc zero)) late less = (record { rows = lit≤ tt; seconds = λ node there listens. lit≤ tt; firsts = λ node there listens. lit≤ tt }, refl)
double_is (suc (suc (suc zero))) late less = (record { rows = lit≤ tt; seconds = λ node there listens. lit≤ tt; firsts = λ node there listens. absurd (none_begins node.id 1 listens) }, refl)
double_is (suc (suc (suc (suc zero)))) late less = (record { rows = lit≤ tt; seconds = λ node there listens. lit≤ tt; firsts = λ node there listens. absurd (none_begins node.id 2 listens) }, refl)
double_is (suc (suc (suc (suc (suc k))))) late less = absurd (omega (arith, less))

-- without losses they are the files whose run loses nothing
covered : IsCoveredToJoinThroughLosses wide_cluster wide_drift script 0 250 reach
unfolding last_of
covered = record {
  checks = two_to_five (λ k. sharp_holds_of k 250 reach wide_cluster) refl refl refl refl;
  takes = λ double late less. (double_is double late less).0;
  none = λ g gap behind. (found-of-run wide_cluster wide_drift (without_losses script) alone_worked.sane).0 alone_worked.none g gap;
  flutters = let same = same_flutter wide_cluster wide_drift script 0 in let is = alone_worked.flutters in omega (arith, same, is);
  hears = λ double late less. (double_is double late less).1;
}

pub joining_files_lose : ((x : Setting) (n : ℕ) → IsSetting x → IsLawful x (cycles_of x n)) → ((x : Setting) (n : ℕ) → length (cycles_of x n) ≡ n) → JoiningFilesLose
joining_files_lose lawful long = record {
  sane = alone_worked.sane;
  drift = alone_worked.drift;
  script = script_is;
  run = record {
    lawful = lawful x (2 * x.doubles) (files_are_a_setting wide_cluster wide_drift script alone_worked.sane (record { long = refl; joins_long = refl; deeds_a = lost_deeds; deeds_b = no_deeds }));
    whole = long x (2 * x.doubles);
  };
  hears_0 = so_heard.0;
  hears_1 = so_heard.1;
  hears_2 = so_heard.2;
  hears_3 = so_heard.3;
  hears_4 = so_heard.4;
  covered = covered;
}

-- ---- what comes of it

five : doubles_of wide_drift ≡ 5
unfolding doubles_of
five = refl

begins : first_sharp_sync_of (has_arbitrary wide_cluster script) wide_cluster 250 (cycles_of x 2) ≡ Some 0
unfolding on_cycles first_free_of are_in_sync_by_even cycle_at cycles_of doubles_of start_of rate_of length_of delay_of held is_arbitrary join_of deed_of deed_in event_of
begins = refl

first_rates : (passed : ℕ) → FirstRatesLast wide_cluster 250 passed
first_rates passed = first_rates_last_on false wide_cluster 250 (sharp_reach false wide_cluster 250) passed alone_worked.sane alone_worked.check alone_worked.checks

abbrev apart_at : ℕ → ℕ
apart_at passed = apart_through_losses (has_arbitrary wide_cluster script) wide_cluster 250 (λ m. heard_in (traffic_in wide_cluster script) (0 + m)) passed

so_apart : (apart_at 0 ≡ 39_009_094) × (apart_at 1 ≡ 42_009_494) × (apart_at 2 ≡ 85_020_086) × (apart_at 3 ≡ 49_011_592) × (apart_at 4 ≡ 50_011_792)
unfolding spread_through_losses is_arbitrary join_of deed_of deed_in event_of
so_apart = (refl, refl, refl, refl, refl)

module _ (only : (x : Setting) (h : Cycles) → IsLawful x h → h ≡ cycles_of x (length h)) (promise : JoinedFilesKeepThroughLosses) (h : Cycles) (run : IsRunOf x h) where
  long : length h ≡ 10
  long = let whole : length h ≡ 2 * x.doubles = run.whole in let e = five in omega (arith, e, whole)

  synced : IsUnfollowedSharpSyncAt (has_arbitrary wide_cluster script) wide_cluster 250 h 0
  synced =
      let beside = has_arbitrary wide_cluster script in
      let At : Cycles → Type 0 = λ k. IsUnfollowedSharpSyncAt beside wide_cluster 250 k 0 in
      subst At (sym (only x h run.lawful))
      (begins_longer beside wide_cluster 250 x (length h) (let e = long in omega (arith, e)) (first_sharp_sync_is beside wide_cluster 250 (cycles_of x 2) 0 begins).unfollowed)

  kept : KeepsJoinedThroughLosses wide_cluster wide_drift script 250 h 0
  kept = promise wide_cluster wide_drift script joining_files.drift_file joining_files.script_file 0 250 reach h 0 alone_worked.sane alone_worked.drift script_is covered run (lit≤ tt) synced

  keeps : (passed apart : ℕ) → passed < 5 → apart_at passed ≡ apart → KeepsJoined x h (0 + passed) apart
  keeps passed apart less is = let e = five in subst (KeepsJoined x h (0 + passed)) is ((kept.stays passed (omega (arith, e, less)) (λ m early. first_rates m)).keeps (first_rates passed))

  joined : IsJoinedUpTo h 5 join_of_5 10
  unfolding is_arbitrary join_of deed_of deed_in event_of
  joined =
      let e = five in
      kept.joins_up_to 4 (omega (arith, e)) (λ m early. first_rates m) (on_a 5) (on_a 1) join_of_5 node_5 refl (lit≤ tt)
      (Contains-here (on_a 1) (on_a 2 ∷ on_a 3 ∷ on_a 4 ∷ on_a 5 ∷ [])) refl refl

  pub joining_files_keep : JoiningFilesKeep h
  joining_files_keep = record {
    synced = synced;
    keeps = kept;
    keeps_0 = keeps 0 39_009_094 (lit< tt) so_apart.0;
    keeps_1 = keeps 1 42_009_494 (lit< tt) so_apart.1;
    keeps_2 = keeps 2 85_020_086 (lit< tt) so_apart.2;
    keeps_3 = keeps 3 49_011_592 (lit< tt) so_apart.3;
    keeps_4 = keeps 4 50_011_792 (lit< tt) so_apart.4;
    joins = λ cycle c is. joined cycle c (let below = cycle_within h cycle c is in let e = long in omega (arith, below, e)) is;
  }
