-- The files of the worked run whose delays flutter are sharply covered, and its cycle 0 lies near.
use Rattle.std.proofs.Common.{◌≡◌, ℕ, ◌≤◌, Bool, true, false, ℤ, pos, None, refl, sym, subst, lit≤, arith}
use Rattle.std.specs.Prelude.{◌+ℤ◌, ◌-ℤ◌, ◌*ℤ◌, ◌≤ℤ◌, ◌||◌, int_lt, not, Contains}
use Rattle.std.specs.List.{list_all}
use Rattle.std.proofs.lemmas.Bool.{not-true, or_parts}
use Rattle.std.proofs.lemmas.Int.{ints}
use Rattle.std.proofs.lemmas.List.Elements.{All-contains}
use Rattle.std.proofs.lemmas.List.Sums.{AllPass-from_list_all}
use Rattle.fr_base.specs.Within.{lies_within, IsWithin}
use Rattle.fr_cluster.specs.Setting.{Setting, correct_nodes}
use Rattle.fr_cluster.specs.declared.nodes.NodeSpec.{NodeSpec}
use Rattle.fr_coverage.specs.Coverage.{gap_of_run, some_join}
use Rattle.fr_coverage.specs.Decided.{setting_of}
use Rattle.fr_coverage.specs.First.{first_below, first_in}
use Rattle.fr_coverage.specs.Flutter.{flutter_from, flutter_of, greatest_below, greatest_in}
use Rattle.fr_coverage.proofs.GapParts.{found-of-run}
use Rattle.fr_drift.specs.Held.{held}
use Rattle.fr_drift.specs.Questions.{delay_of, doubles_of, length_of, rate_of, start_of}
use Rattle.fr_history.specs.Cycles.{Cycles}
use Rattle.fr_promise.specs.Statement.{IsRunOf}
use Rattle.fr_runs.proofs.Nodes.{correct_node}
use Rattle.fr_script.specs.Deeds.{deed_in}
use Rattle.fr_script.specs.Events.{event_of}
use Rattle.fr_script.specs.View.{deed_of, is_arbitrary, join_of}
use Rattle.fr_promise.specs.HeldWalks.{sync_lasts}
use Rattle.fr_precision.specs.Lengths.{IsAboutCycle}
use Rattle.fr_sharp.specs.SettlingHistories.{AreStatedNear}
use Rattle.fr_bound.specs.SharpBounds.{last_of, sharp_lambda, sharp_near, sharp_pi}
use Rattle.fr_bound.specs.SharpChecks.{sharp_holds_of, SharpChecksHold}
use Rattle.fr_sharp.specs.SharpFiles.{CoveredFilesKeepSharply}
use Rattle.fr_runs.specs.SharpHistories.{IsInSharpSyncAt, IsSteadyRun}
use Rattle.fr_sharp.specs.SharpStatement.{has_arbitrary, IsSharplyCovered, KeepsSharply}
use Rattle.fr_worked.specs.WorkedFiles.{fluttering_drift, marking_script, FlutteringFilesAreCovered, FlutteringFilesKeepSharply}
use Rattle.fr_sharp.specs.WorkedRun.{steady_cluster}
use Rattle.fr_sharp.proofs.FromFiles.{files_give_steady_runs}
use Rattle.fr_sharp.proofs.RunStated.{stated_runs_begin_in_sharp_sync}
use Rattle.fr_promise.proofs.SharpWorked.{is_sane}
use Rattle.fr_worked.proofs.TracesFit.{within_if as within_if_told}
use Rattle.fr_promise.proofs.CheckNumbers.{two_to_five}

-- ---- they are sharply covered

no_gap : (beside : Bool) → gap_of_run steady_cluster fluttering_drift (marking_script beside) ≡ None
unfolding first_below first_in doubles_of length_of delay_of held is_arbitrary join_of deed_of deed_in event_of
no_gap false = refl
no_gap true = refl

flutter_is : (beside : Bool) → flutter_of steady_cluster fluttering_drift (marking_script beside) ≡ 250
unfolding flutter_from greatest_below greatest_in doubles_of delay_of held is_arbitrary
flutter_is false = refl
flutter_is true = refl

pub kind_is : (beside : Bool) → has_arbitrary steady_cluster (marking_script beside) ≡ beside
unfolding is_arbitrary
kind_is false = refl
kind_is true = refl

none_joins : (beside : Bool) → some_join steady_cluster (marking_script beside) ≡ false
unfolding is_arbitrary join_of
none_joins false = refl
none_joins true = refl

checks_hold : (beside : Bool) → SharpChecksHold 250 (sharp_near beside steady_cluster 250) steady_cluster
unfolding last_of
checks_hold false = two_to_five (λ k. sharp_holds_of k 250 (sharp_near false steady_cluster 250) steady_cluster) refl refl refl refl
checks_hold true = two_to_five (λ k. sharp_holds_of k 250 (sharp_near true steady_cluster 250) steady_cluster) refl refl refl refl

pub covered : (beside : Bool) → IsSharplyCovered steady_cluster fluttering_drift (marking_script beside) 0 250
covered beside = record {
  checks =
      let Hold : Bool → Type 0 = λ b. SharpChecksHold 250 (sharp_near b steady_cluster 250) steady_cluster in
      subst Hold (sym (kind_is beside)) (checks_hold beside);
  none_joins = none_joins beside;
  none = λ g gap behind. (found-of-run steady_cluster fluttering_drift (marking_script beside) is_sane).0 (no_gap beside) g gap;
  flutters = omega (arith, flutter_is beside);
}

pub fluttering_files_are_covered : FlutteringFilesAreCovered
fluttering_files_are_covered beside = (flutter_is beside, kind_is beside, covered beside)

-- ---- cycle 0

abbrev worked : Bool → Setting
worked beside = setting_of steady_cluster fluttering_drift (marking_script beside)

-- what a test tells of all four nodes is so of each correct one
passes : (test : NodeSpec → Bool) → list_all test steady_cluster.nodes ≡ true → (beside : Bool) (some : NodeSpec) → Contains (correct_nodes (worked beside)) some → test some ≡ true
passes test all beside some there =
    All-contains (λ (n : NodeSpec). test n ≡ true) steady_cluster.nodes some (AllPass-from_list_all test steady_cluster.nodes all) (correct_node (worked beside) some there).there

pairs_pass : (f : NodeSpec → ℤ) (bound : ℤ) → list_all (λ (a : NodeSpec). list_all (λ (b : NodeSpec). lies_within bound (f a -ℤ f b)) steady_cluster.nodes) steady_cluster.nodes ≡ true
    → (beside : Bool) (one other : NodeSpec) → Contains (correct_nodes (worked beside)) one → Contains (correct_nodes (worked beside)) other → IsWithin bound (f one -ℤ f other)
pairs_pass f bound all beside one other here there =
    within_if_told bound (f one -ℤ f other)
    (passes (λ (b : NodeSpec). lies_within bound (f one -ℤ f b))
    (passes (λ (a : NodeSpec). list_all (λ (b : NodeSpec). lies_within bound (f a -ℤ f b)) steady_cluster.nodes) all beside one here) beside other there)

abbrev start_in : NodeSpec → ℤ
start_in node = start_of fluttering_drift node.id

abbrev length_in : NodeSpec → ℤ
length_in node = (steady_cluster.micros +ℤ rate_of fluttering_drift node.id) *ℤ length_of fluttering_drift node.id 0

starts_near : list_all (λ (a : NodeSpec). list_all (λ (b : NodeSpec). lies_within (pos 18_000_000) (start_in a -ℤ start_in b)) steady_cluster.nodes) steady_cluster.nodes ≡ true
unfolding start_of
starts_near = refl

lengths_near : list_all (λ (a : NodeSpec). list_all (λ (b : NodeSpec). lies_within (pos 4_000_000) (length_in a -ℤ length_in b)) steady_cluster.nodes) steady_cluster.nodes ≡ true
unfolding rate_of length_of held
lengths_near = refl

abbrev in_range : ℤ → Bool
in_range z = not (int_lt z (pos 199_980_000_000) || int_lt (pos 200_020_000_000) z)

lengths_in_range : list_all (λ (a : NodeSpec). in_range (length_in a)) steady_cluster.nodes ≡ true
unfolding rate_of length_of held
lengths_in_range = refl

about_if_told : (z : ℤ) → in_range z ≡ true → IsAboutCycle steady_cluster (pos 0) z
about_if_told z is =
    let parts = or_parts (int_lt z (pos 199_980_000_000)) (int_lt (pos 200_020_000_000) z) (not-true (int_lt z (pos 199_980_000_000) || int_lt (pos 200_020_000_000) z) is) in
    record { low = no_less z (pos 199_980_000_000) parts.0; high = no_less (pos 200_020_000_000) z parts.1 }
  where
    no_less : (a b : ℤ) → int_lt a b ≡ false → b ≤ℤ a
    no_less a b is = grind (arith, ints)

wider_than : (a b : ℕ) (z : ℤ) → a ≤ b → IsWithin (pos a) z → IsWithin (pos b) z
wider_than a b z le near = record { low = omega (arith, ints, le, near.low); high = omega (arith, ints, le, near.high) }

takes_starts : (beside : Bool) → 18_000_000 ≤ sharp_pi beside steady_cluster 250
takes_starts false = lit≤ tt
takes_starts true = lit≤ tt

takes_lengths : (beside : Bool) → 4_000_000 ≤ sharp_lambda beside steady_cluster 250
takes_lengths false = lit≤ tt
takes_lengths true = lit≤ tt

pub stated_near : (beside : Bool) → AreStatedNear (worked beside) (sharp_pi beside steady_cluster 250) (sharp_lambda beside steady_cluster 250)
stated_near beside = record {
  starts = λ one other here there. wider_than 18_000_000 (sharp_pi beside steady_cluster 250) (start_in one -ℤ start_in other) (takes_starts beside) (pairs_pass start_in (pos 18_000_000) starts_near beside one other here there);
  lengths = λ one other here there. wider_than 4_000_000 (sharp_lambda beside steady_cluster 250) (length_in one -ℤ length_in other) (takes_lengths beside) (pairs_pass length_in (pos 4_000_000) lengths_near beside one other here there);
  about = λ some there. about_if_told (length_in some) (passes (λ (a : NodeSpec). in_range (length_in a)) lengths_in_range beside some there);
}

-- ---- what comes of it

three_doubles : (beside : Bool) → 1 ≤ (worked beside).doubles
unfolding doubles_of
three_doubles beside = lit≤ tt

lasts_on : sync_lasts steady_cluster 250 ≡ None
lasts_on = refl

pub steady : (beside : Bool) (h : Cycles) → IsRunOf (worked beside) h → IsSteadyRun beside (worked beside) 250 h
steady beside h run =
    let c = covered beside in
    let Steady : Bool → Type 0 = λ b. IsSteadyRun b (worked beside) 250 h in
    subst Steady (kind_is beside) (files_give_steady_runs steady_cluster fluttering_drift (marking_script beside) 0 250 h is_sane c.none c.flutters c.none_joins run)

pub fluttering_files_keep_sharply : CoveredFilesKeepSharply → FlutteringFilesKeepSharply
fluttering_files_keep_sharply keep beside h run =
    let x : Setting = worked beside in
    let sync : IsInSharpSyncAt beside steady_cluster 250 (pos 0) h 0 = stated_runs_begin_in_sharp_sync beside x 250 h (steady beside h run) (stated_near beside) (three_doubles beside) in
    let In : Bool → Type 0 = λ b. IsInSharpSyncAt b steady_cluster 250 (pos 0) h 0 in
    let Keeps : Bool → Type 0 = λ b. KeepsSharply b x 250 h 0 in
    let kept : KeepsSharply beside x 250 h 0 =
    subst Keeps (kind_is beside) (keep steady_cluster fluttering_drift (marking_script beside) 0 250 h 0 is_sane (covered beside) run (lit≤ tt) (subst In (sym (kind_is beside)) sync)) in
    (sync, kept, kept.always lasts_on)
