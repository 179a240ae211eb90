-- The files of the three runs in which lengths walk: they are accepted and sharply covered, and their runs begin in sharp sync.
use Rattle.std.proofs.Common.{◌≡◌, ◌<◌, ◌≤◌, ◌*◌, ◌<ℤ◌, ◌*ℤ◌, ℕ, ◌==◌, Bool, true, false, [], ◌∷◌, Some, None, length, pos, refl, sym, ◌∙◌, subst, lit≤, lit<, arith}
use Rattle.std.specs.Prelude.{cond, IfSome}
use Rattle.std.specs.Ordering.{nat_cmp}
use Rattle.std.proofs.lemmas.Int.{ints}
use Rattle.csv.specs.Machine.{next_record}
use Rattle.csv.specs.Reading.{records_from, strip_bom}
use Rattle.fr_base.specs.declared.channel.Channel.{Channel}
use Rattle.fr_base.specs.declared.channel.Channel.TheVariants.{A, B}
use Rattle.fr_cluster.specs.Questions.{compensation_of}
use Rattle.fr_cluster.specs.Ranges.{InRange}
use Rattle.fr_cluster.specs.Sane.{IsSane}
use Rattle.fr_cluster.specs.Setting.{IsSetting, Setting}
use Rattle.fr_cluster.specs.Values.{figure}
use Rattle.fr_cluster.specs.declared.join.Join.{Join}
use Rattle.fr_cluster.specs.declared.names.ParamName.{ParamName}
use Rattle.fr_cluster.specs.declared.names.ParamName.TheVariants as name
use Rattle.fr_cluster.proofs.Elements.{Contains-here, Contains-there}
use Rattle.fr_coverage.specs.Coverage.{gap_of_run, some_join}
use Rattle.fr_coverage.specs.First.{first_below, first_in}
use Rattle.fr_coverage.specs.Flutter.{flutter_from, flutter_of, greatest_below, greatest_in}
use Rattle.fr_coverage.proofs.GapParts.{found-of-run}
use Rattle.fr_drift.specs.Files.{IsDriftFile}
use Rattle.fr_drift.specs.Held.{held}
use Rattle.fr_drift.specs.Keys.{delay_cmp, delay_key, length_cmp, length_key}
use Rattle.fr_drift.specs.Questions.{delay_of, doubles_of, length_of, rate_of, start_of}
use Rattle.fr_drift.specs.Reasons.{delay_at, drift_reason_after}
use Rattle.fr_drift.specs.Rows.{drift_row_of, rate_in}
use Rattle.fr_drift.specs.View.{compensation_on, delay_rows}
use Rattle.fr_history.specs.Lawful.{IsLawful}
use Rattle.fr_history.specs.Next.{cycles_of}
use Rattle.fr_history.specs.Worked.{on_a}
use Rattle.fr_history.proofs.Computing.{on_cycles}
use Rattle.fr_history.specs.Cycles.{cycle_at}
use Rattle.fr_runs.specs.Stated.{all_cycles}
use Rattle.fr_script.specs.Deeds.{DeedsAscend, deed_in}
use Rattle.fr_script.specs.Events.{event_of}
use Rattle.fr_script.specs.Files.{IsScriptFile}
use Rattle.fr_script.specs.Reasons.{deed_by, is_named_in, join_by, script_reason_after}
use Rattle.fr_script.specs.Rows.{script_row_of}
use Rattle.fr_script.specs.View.{AreDeeds, IsScript, deed_of, deeds_on, is_arbitrary, join_of}
use Rattle.fr_script.specs.declared.deeds.Passage.{Passage}
use Rattle.fr_bound.specs.Bounds.{shortest_micro}
use Rattle.fr_bound.specs.SharpBounds.{last_of, rate_walk, sharp_near, walk_lasts}
use Rattle.fr_bound.specs.SharpChecks.{sharp_holds_of, SharpChecksHold}
use Rattle.fr_promise.specs.HeldWalks.{SyncLastsAfter, sync_lasts}
use Rattle.fr_sharp.specs.JoinedFiles.{IsSharplyCoveredToJoin, JoinedFilesKeepSharpPrecision, KeepsSharplyJoined}
use Rattle.fr_promise.specs.JoinedHistories.{FirstRatesLast, FirstRatesLastSo, first_rates_last}
use Rattle.fr_runs.specs.SharpHistories.{IsInSharpSyncAt}
use Rattle.fr_promise.specs.SharpJoining.{sharp_join_holds_of, SharpJoinChecksHold}
use Rattle.fr_sharp.specs.SharpStatement.{FilesKeepSharpPrecision, has_arbitrary, IsSharplyCovered, KeepsSharply}
use Rattle.fr_promise.specs.SharpTested.{IsUnfollowedSharpSyncAt, first_free_of, first_sharp_sync_of}
use Rattle.fr_promise.proofs.FreeLemmas.{first_sharp_sync_is}
use Rattle.fr_skew.specs.Sync.{are_in_sync_by_even}
use Rattle.fr_text.specs.Fields.{looked_up, or_else}
use Rattle.fr_text.specs.Records.{records_of}
use Rattle.fr_worked.specs.Files.{no_join}
use Rattle.fr_worked.specs.RunFiles.{RunFiles, run_of_files}
use Rattle.fr_worked.specs.SharplyJoinedFiles.{wide_cluster}
use Rattle.fr_worked.specs.WalkingFiles.{AreWalking, KeepThoughLengthsWalk, KeepWhileFirstRatesLast, KeepWhileTheWalkLasts, changing_cluster, changing_drift, changing_drift_file, changing_files, walking_cluster, walking_drift, walking_drift_file, walking_files, walking_joined_files}
use Rattle.fr_worked.proofs.Accepted.{AllKept, are_accepted, are_deeds, delay_is, found_is_told, length_is, none_refused, one_differs, said_once, same_delay, same_length, same_number, told_by}
use Rattle.fr_worked.proofs.Decided.{none_marked}
use Rattle.fr_promise.proofs.Stating.{is_setting as files_are_a_setting}
use Rattle.fr_worked.proofs.SharplyJoinedAre.{begins_longer, is_sane}
use Rattle.fr_promise.proofs.CheckNumbers.{six_to_nine, two_to_five}

-- ---- the cluster

in_range : (n : ParamName) → InRange n (figure walking_cluster n)
in_range name.gMacroPerCycle = (grind (arith, ints), grind (arith, ints))
in_range other = (grind (arith, ints), grind (arith, ints))

walking_is_sane : IsSane walking_cluster
walking_is_sane =
    let wide : IsSane wide_cluster = is_sane in
    let c = wide.constraints in
    record {
      ranges = in_range;
      constraints = record {
        whole_cycle = c.whole_cycle;
        acts_in_slot = c.acts_in_slot;
        corrects_after = c.corrects_after;
        leaves_microticks = c.leaves_microticks;
        passive_first = c.passive_first;
        sync_nodes = c.sync_nodes;
        own_slots = c.own_slots;
        free_slots = c.free_slots;
      };
      lists = wide.lists;
    }

-- that whose oscillators may change
changing_in_range : (n : ParamName) → InRange n (figure changing_cluster n)
changing_in_range name.gMacroPerCycle = (grind (arith, ints), grind (arith, ints))
changing_in_range other = (grind (arith, ints), grind (arith, ints))

changing_is_sane : IsSane changing_cluster
changing_is_sane =
    let walking : IsSane walking_cluster = walking_is_sane in
    let c = walking.constraints in
    record {
      ranges = changing_in_range;
      constraints = record {
        whole_cycle = c.whole_cycle;
        acts_in_slot = c.acts_in_slot;
        corrects_after = c.corrects_after;
        leaves_microticks = c.leaves_microticks;
        passive_first = c.passive_first;
        sync_nodes = c.sync_nodes;
        own_slots = c.own_slots;
        free_slots = c.free_slots;
      };
      lists = walking.lists;
    }

checks_hold : SharpChecksHold 400_000 (sharp_near false walking_cluster 400_000) walking_cluster
unfolding last_of
checks_hold = two_to_five (λ k. sharp_holds_of k 400_000 (sharp_near false walking_cluster 400_000) walking_cluster) refl refl refl refl

changing_checks_hold : SharpChecksHold 200_000 (sharp_near false changing_cluster 200_000) changing_cluster
unfolding last_of
changing_checks_hold = two_to_five (λ k. sharp_holds_of k 200_000 (sharp_near false changing_cluster 200_000) changing_cluster) refl refl refl refl

join_checks_hold : SharpJoinChecksHold false 400_000 walking_cluster
unfolding last_of
join_checks_hold = six_to_nine (λ k. sharp_join_holds_of k false 400_000 walking_cluster) refl refl refl refl

first_fails : sharp_holds_of 1 400_000 (sharp_near false walking_cluster 400_000) walking_cluster ≡ false
first_fails = refl

walk_ends : walk_lasts walking_cluster 400_000 ≡ Some 9
walk_ends = refl

sync_goes_on : sync_lasts walking_cluster 400_000 ≡ None
sync_goes_on = refl

changing_fails : sharp_holds_of 1 200_000 (sharp_near false changing_cluster 200_000) changing_cluster ≡ false
changing_fails = refl

changing_ends : sync_lasts changing_cluster 200_000 ≡ Some 6
changing_ends = refl

changing_walks : (pos 3 *ℤ rate_walk changing_cluster 200_000) <ℤ pos (2 * shortest_micro changing_cluster)
changing_walks = grind (arith, ints)

rates_end : first_rates_last walking_cluster 400_000 ≡ Some 7
rates_end = refl

-- ---- the drift file

drift_accepted : are_accepted (drift_reason_after walking_cluster) [] (records_of walking_drift_file) ≡ true
unfolding are_accepted records_of strip_bom records_from next_record drift_row_of rate_in looked_up
drift_accepted = refl

compensations_are : (ch : Channel) → compensation_on walking_drift ch ≡ compensation_of walking_cluster ch
compensations_are A = refl
compensations_are B = refl

delays_are : (sender receiver : ℕ) (ch : Channel) (from : ℕ) → delay_rows walking_drift sender receiver ch from ≡ delay_at sender receiver ch from (records_of walking_drift_file)
unfolding told_by records_of strip_bom records_from next_record drift_row_of rate_in looked_up
delays_are sender receiver A from = found_is_told delay_cmp delay_is same_delay walking_drift.delays_a (delay_key sender receiver from)
delays_are sender receiver B from = refl

drift_is : IsDriftFile walking_cluster walking_drift walking_drift_file
unfolding told_by records_of strip_bom records_from next_record drift_row_of rate_in looked_up
drift_is = record {
  none_refused = none_refused (drift_reason_after walking_cluster) (records_of walking_drift_file) drift_accepted;
  stands = record {
    doubles = refl;
    compensation = compensations_are;
    starts = λ node. found_is_told nat_cmp (λ row asked. row == asked) same_number walking_drift.starts node;
    lengths = λ node from. found_is_told length_cmp length_is same_length walking_drift.lengths (length_key node from);
    delays = delays_are;
    order = record { starts = refl; lengths = refl; delays_a = refl; delays_b = refl };
  };
}

-- that of the changing cluster
changing_accepted : are_accepted (drift_reason_after changing_cluster) [] (records_of changing_drift_file) ≡ true
unfolding are_accepted records_of strip_bom records_from next_record drift_row_of rate_in looked_up
changing_accepted = refl

changing_compensations : (ch : Channel) → compensation_on changing_drift ch ≡ compensation_of changing_cluster ch
changing_compensations A = refl
changing_compensations B = refl

changing_delays : (sender receiver : ℕ) (ch : Channel) (from : ℕ) → delay_rows changing_drift sender receiver ch from ≡ delay_at sender receiver ch from (records_of changing_drift_file)
unfolding told_by records_of strip_bom records_from next_record drift_row_of rate_in looked_up
changing_delays sender receiver A from = found_is_told delay_cmp delay_is same_delay changing_drift.delays_a (delay_key sender receiver from)
changing_delays sender receiver B from = refl

changing_drift_is : IsDriftFile changing_cluster changing_drift changing_drift_file
unfolding told_by records_of strip_bom records_from next_record drift_row_of rate_in looked_up
changing_drift_is = record {
  none_refused = none_refused (drift_reason_after changing_cluster) (records_of changing_drift_file) changing_accepted;
  stands = record {
    doubles = refl;
    compensation = changing_compensations;
    starts = λ node. found_is_told nat_cmp (λ row asked. row == asked) same_number changing_drift.starts node;
    lengths = λ node from. found_is_told length_cmp length_is same_length changing_drift.lengths (length_key node from);
    delays = changing_delays;
    order = record { starts = refl; lengths = refl; delays_a = refl; delays_b = refl };
  };
}

some_double : 1 ≤ doubles_of walking_drift
unfolding doubles_of
some_double = lit≤ tt

-- ---- the scripts

no_deeds : AreDeeds []
unfolding AllKept
no_deeds = are_deeds [] tt tt

-- that in which no node joins
none_accepted : are_accepted (script_reason_after walking_cluster) [] (records_of walking_files.script_file) ≡ true
unfolding are_accepted records_of strip_bom records_from next_record script_row_of looked_up
none_accepted = refl

none_deeds : (ch : Channel) (passage : Passage) → deed_in (deeds_on walking_files.script ch) passage ≡ deed_by ch passage (records_of walking_files.script_file)
unfolding records_of strip_bom records_from next_record script_row_of looked_up deed_in
none_deeds A passage = refl
none_deeds B passage = refl

none_ascend : (ch : Channel) → DeedsAscend (deeds_on walking_files.script ch)
none_ascend A = no_deeds.ascending
none_ascend B = no_deeds.ascending

none_nodes : (node : ℕ) → is_arbitrary walking_files.script node ≡ false
unfolding is_arbitrary
none_nodes node = none_marked 65 node

none_joins_are : (node : ℕ) → join_of walking_files.script node ≡ cond (5 == node) no_join no_join
unfolding join_of
none_joins_are node = one_differs 5 59 node no_join no_join

none_said : (node : ℕ) → (is_named_in node (records_of walking_files.script_file) ≡ false) × (join_by node (records_of walking_files.script_file) ≡ no_join)
unfolding records_of strip_bom records_from next_record script_row_of looked_up
none_said node = (refl, refl)

no_choice : (test : Bool) → cond test no_join no_join ≡ no_join
no_choice true = refl
no_choice false = refl

none_is : IsScriptFile walking_cluster walking_files.script walking_files.script_file
none_is = record {
  none_refused = none_refused (script_reason_after walking_cluster) (records_of walking_files.script_file) none_accepted;
  stands = record {
    long = refl;
    joins_long = refl;
    nodes = λ node low. none_nodes node ∙ sym (none_said node).0;
    joins = λ node low. none_joins_are node ∙ no_choice (5 == node) ∙ sym (none_said node).1;
    deeds = none_deeds;
    ascending = none_ascend;
  };
}

changing_none_accepted : are_accepted (script_reason_after changing_cluster) [] (records_of changing_files.script_file) ≡ true
unfolding are_accepted records_of strip_bom records_from next_record script_row_of looked_up
changing_none_accepted = refl

changing_none_is : IsScriptFile changing_cluster changing_files.script changing_files.script_file
changing_none_is = record {
  none_refused = none_refused (script_reason_after changing_cluster) (records_of changing_files.script_file) changing_none_accepted;
  stands = none_is.stands;
}

-- that in which node 5 does
joined_accepted : are_accepted (script_reason_after walking_cluster) [] (records_of walking_joined_files.script_file) ≡ true
unfolding are_accepted records_of strip_bom records_from next_record script_row_of looked_up
joined_accepted = refl

joined_deeds : (ch : Channel) (passage : Passage) → deed_in (deeds_on walking_joined_files.script ch) passage ≡ deed_by ch passage (records_of walking_joined_files.script_file)
unfolding records_of strip_bom records_from next_record script_row_of looked_up deed_in
joined_deeds A passage = refl
joined_deeds B passage = refl

joined_ascend : (ch : Channel) → DeedsAscend (deeds_on walking_joined_files.script ch)
joined_ascend A = no_deeds.ascending
joined_ascend B = no_deeds.ascending

abbrev join_of_5 : Join
join_of_5 = record { double = 0; reference = 1 }

joined_nodes : (node : ℕ) → is_arbitrary walking_joined_files.script node ≡ false
unfolding is_arbitrary
joined_nodes node = none_marked 65 node

joined_joins_are : (node : ℕ) → join_of walking_joined_files.script node ≡ cond (5 == node) (Some join_of_5) None
unfolding join_of
joined_joins_are node = one_differs 5 59 node (Some join_of_5) None

joined_said : (node : ℕ) → (is_named_in node (records_of walking_joined_files.script_file) ≡ false) × (join_by node (records_of walking_joined_files.script_file) ≡ or_else (cond (5 == node) (Some join_of_5) None) None)
unfolding records_of strip_bom records_from next_record script_row_of looked_up
joined_said node = (refl, refl)

joined_is : IsScriptFile walking_cluster walking_joined_files.script walking_joined_files.script_file
joined_is = record {
  none_refused = none_refused (script_reason_after walking_cluster) (records_of walking_joined_files.script_file) joined_accepted;
  stands = record {
    long = refl;
    joins_long = refl;
    nodes = λ node low. joined_nodes node ∙ sym (joined_said node).0;
    joins = λ node low. joined_joins_are node ∙ said_once (5 == node) join_of_5 ∙ sym (joined_said node).1;
    deeds = joined_deeds;
    ascending = joined_ascend;
  };
}

-- ---- what is computed of the files and their runs

pub record AreWorked (f : RunFiles) (flutter : ℕ) : Type 0 where
  pub sane : IsSane f.params
  pub fails : sharp_holds_of 1 flutter (sharp_near false f.params flutter) f.params ≡ false
  pub drift : IsDriftFile f.params f.drift f.drift_file
  pub script : IsScriptFile f.params f.script f.script_file
  pub proper : IsScript f.script
  pub kind : has_arbitrary f.params f.script ≡ false
  pub flutters : flutter_of f.params f.drift f.script ≡ flutter
  pub none : gap_of_run f.params f.drift f.script ≡ None
  pub long : 1 ≤ doubles_of f.drift
  pub begins : first_sharp_sync_of false f.params flutter (cycles_of (run_of_files f) 2) ≡ Some 0

none_gap : gap_of_run walking_cluster walking_drift walking_files.script ≡ None
unfolding first_below first_in doubles_of length_of delay_of held is_arbitrary join_of deed_of deed_in event_of
none_gap = refl

none_flutter : flutter_of walking_cluster walking_drift walking_files.script ≡ 400_000
unfolding flutter_from greatest_below greatest_in doubles_of delay_of held is_arbitrary
none_flutter = refl

none_kind : has_arbitrary walking_cluster walking_files.script ≡ false
unfolding is_arbitrary
none_kind = refl

none_join : some_join walking_cluster walking_files.script ≡ false
unfolding is_arbitrary join_of
none_join = refl

none_begins : first_sharp_sync_of false walking_cluster 400_000 (cycles_of (run_of_files walking_files) 2) ≡ Some 0
unfolding on_cycles first_free_of are_in_sync_by_even cycle_at cycles_of doubles_of start_of rate_of length_of delay_of held is_arbitrary join_of deed_of deed_in event_of
none_begins = refl

none_worked : AreWorked walking_files 400_000
none_worked = record {
  sane = walking_is_sane;
  fails = first_fails;
  drift = drift_is;
  script = none_is;
  proper = record { long = refl; joins_long = refl; deeds_a = no_deeds; deeds_b = no_deeds };
  kind = none_kind;
  flutters = none_flutter;
  none = none_gap;
  long = some_double;
  begins = none_begins;
}

changing_gap : gap_of_run changing_cluster changing_drift changing_files.script ≡ None
unfolding first_below first_in doubles_of length_of delay_of held is_arbitrary join_of deed_of deed_in event_of
changing_gap = refl

changing_flutter : flutter_of changing_cluster changing_drift changing_files.script ≡ 200_000
unfolding flutter_from greatest_below greatest_in doubles_of delay_of held is_arbitrary
changing_flutter = refl

changing_kind : has_arbitrary changing_cluster changing_files.script ≡ false
unfolding is_arbitrary
changing_kind = refl

changing_join : some_join changing_cluster changing_files.script ≡ false
unfolding is_arbitrary join_of
changing_join = refl

changing_begins : first_sharp_sync_of false changing_cluster 200_000 (cycles_of (run_of_files changing_files) 2) ≡ Some 0
unfolding on_cycles first_free_of are_in_sync_by_even cycle_at cycles_of doubles_of start_of rate_of length_of delay_of held is_arbitrary join_of deed_of deed_in event_of
changing_begins = refl

changing_worked : AreWorked changing_files 200_000
unfolding doubles_of
changing_worked = record {
  sane = changing_is_sane;
  fails = changing_fails;
  drift = changing_drift_is;
  script = changing_none_is;
  proper = record { long = refl; joins_long = refl; deeds_a = no_deeds; deeds_b = no_deeds };
  kind = changing_kind;
  flutters = changing_flutter;
  none = changing_gap;
  long = some_double;
  begins = changing_begins;
}

joined_gap : gap_of_run walking_cluster walking_drift walking_joined_files.script ≡ None
unfolding first_below first_in doubles_of length_of delay_of held is_arbitrary join_of deed_of deed_in event_of
joined_gap = refl

joined_flutter : flutter_of walking_cluster walking_drift walking_joined_files.script ≡ 400_000
unfolding flutter_from greatest_below greatest_in doubles_of delay_of held is_arbitrary
joined_flutter = refl

joined_kind : has_arbitrary walking_cluster walking_joined_files.script ≡ false
unfolding is_arbitrary
joined_kind = refl

joined_begins : first_sharp_sync_of false walking_cluster 400_000 (cycles_of (run_of_files walking_joined_files) 2) ≡ Some 0
unfolding on_cycles first_free_of are_in_sync_by_even cycle_at cycles_of doubles_of start_of rate_of length_of delay_of held is_arbitrary join_of deed_of deed_in event_of
joined_begins = refl

joined_worked : AreWorked walking_joined_files 400_000
joined_worked = record {
  sane = walking_is_sane;
  fails = first_fails;
  drift = drift_is;
  script = joined_is;
  proper = record { long = refl; joins_long = refl; deeds_a = no_deeds; deeds_b = no_deeds };
  kind = joined_kind;
  flutters = joined_flutter;
  none = joined_gap;
  long = some_double;
  begins = joined_begins;
}

-- ---- so the promise speaks of them

are_walking : (f : RunFiles) (flutter : ℕ) → ((x : Setting) (n : ℕ) → IsSetting x → IsLawful x (cycles_of x n)) → ((x : Setting) (n : ℕ) → length (cycles_of x n) ≡ n) → AreWorked f flutter
    → AreWalking f flutter
are_walking f flutter lawful long w =
    let x : Setting = run_of_files f in record {
      sane = w.sane;
      drift = w.drift;
      script = w.script;
      kind = w.kind;
      flutters = w.flutters;
      fails = w.fails;
      run = record { lawful = lawful x (2 * x.doubles) (files_are_a_setting f.params f.drift f.script w.sane w.proper); whole = long x (2 * x.doubles) };
      first = record {
        unfollowed = begins_longer false f.params flutter x (2 * x.doubles) (let least = w.long in omega (arith, least)) (first_sharp_sync_is false f.params flutter (cycles_of x 2) 0 w.begins).unfollowed;
        first = λ earlier less sync. absurd (omega (arith, less));
      };
    }

-- where no node joins them
pub record AreKept (f : RunFiles) (flutter : ℕ) : Type 0 where
  pub walking : AreWalking f flutter
  pub covered : IsSharplyCovered f.params f.drift f.script 0 flutter
  pub keeps : KeepsSharply false (run_of_files f) flutter (all_cycles (run_of_files f)) 0

are_kept : (f : RunFiles) (flutter : ℕ) → ((x : Setting) (n : ℕ) → IsSetting x → IsLawful x (cycles_of x n)) → ((x : Setting) (n : ℕ) → length (cycles_of x n) ≡ n) → FilesKeepSharpPrecision
    → AreWorked f flutter → SharpChecksHold flutter (sharp_near false f.params flutter) f.params → some_join f.params f.script ≡ false → AreKept f flutter
are_kept f flutter lawful long promise worked checks joins =
    let x : Setting = run_of_files f in
    let w : AreWalking f flutter = are_walking f flutter lawful long worked in
    let Hold : Bool → Type 0 = λ b. SharpChecksHold flutter (sharp_near b f.params flutter) f.params in
    let covered : IsSharplyCovered f.params f.drift f.script 0 flutter = record {
      checks = subst Hold (sym w.kind) checks;
      none_joins = joins;
      none = λ g gap behind. (found-of-run f.params f.drift f.script w.sane).0 worked.none g gap;
      flutters = let same = w.flutters in omega (arith, same);
    } in
    let At : Bool → Type 0 = λ b. IsInSharpSyncAt b f.params flutter (pos 0) (all_cycles x) 0 in
    let Keeps : Bool → Type 0 = λ b. KeepsSharply b x flutter (all_cycles x) 0 in
    let keeps : KeepsSharply false x flutter (all_cycles x) 0 =
    subst Keeps w.kind
    (promise f.params f.drift f.script f.drift_file f.script_file 0 flutter (all_cycles x) 0 w.sane w.drift w.script covered w.run (lit≤ tt) (subst At (sym w.kind) w.first.unfollowed.synced)) in
    record { walking = w; covered = covered; keeps = keeps }

twelve : doubles_of walking_drift ≡ 12
unfolding doubles_of
twelve = refl

before_end : (lasts : ℕ) → lasts < 12 → lasts < doubles_of walking_drift
before_end lasts less = let is = twelve in omega (arith, is, less)

pub keep_though_lengths_walk : ((x : Setting) (n : ℕ) → IsSetting x → IsLawful x (cycles_of x n)) → ((x : Setting) (n : ℕ) → length (cycles_of x n) ≡ n)
    → FilesKeepSharpPrecision → KeepThoughLengthsWalk walking_files 400_000 9
keep_though_lengths_walk lawful long promise =
    let kept : AreKept walking_files 400_000 = are_kept walking_files 400_000 lawful long promise none_worked checks_hold none_join in record {
      walking = kept.walking;
      covered = kept.covered;
      walks = walk_ends;
      short = before_end 9 (lit< tt);
      held = sync_goes_on;
      always = kept.keeps.always sync_goes_on;
    }

sync_goes_on_so_far : SyncLastsAfter changing_cluster 200_000 5
sync_goes_on_so_far =
    let In : (o : _) → Type 0 = λ o. IfSome o (λ lasts. 5 < lasts) in
    subst In (sym changing_ends) (lit< tt)

pub keep_while_the_walk_lasts : ((x : Setting) (n : ℕ) → IsSetting x → IsLawful x (cycles_of x n)) → ((x : Setting) (n : ℕ) → length (cycles_of x n) ≡ n)
    → FilesKeepSharpPrecision → KeepWhileTheWalkLasts changing_files 200_000 6
unfolding doubles_of
keep_while_the_walk_lasts lawful long promise =
    let kept : AreKept changing_files 200_000 = are_kept changing_files 200_000 lawful long promise changing_worked changing_checks_hold changing_join in record {
      walking = kept.walking;
      covered = kept.covered;
      little = changing_walks;
      ends = changing_ends;
      short = before_end 6 (lit< tt);
      keeps = kept.keeps;
      last = kept.keeps.keeps 5 (lit≤ tt) (before_end 5 (lit< tt)) sync_goes_on_so_far;
    }

rates_go_on : FirstRatesLastSo → (m : ℕ) → m < 7 → FirstRatesLast walking_cluster 400_000 m
rates_go_on so m less =
    let In : (o : _) → Type 0 = λ o. IfSome o (λ lasts. m < lasts) in
    (so walking_cluster 400_000 m).1 (subst In (sym rates_end) less)

pub keep_while_first_rates_last : ((x : Setting) (n : ℕ) → IsSetting x → IsLawful x (cycles_of x n)) → ((x : Setting) (n : ℕ) → length (cycles_of x n) ≡ n)
    → JoinedFilesKeepSharpPrecision → FirstRatesLastSo → KeepWhileFirstRatesLast walking_joined_files 400_000 7 5 (record { double = 0; reference = 1 })
unfolding is_arbitrary join_of
keep_while_first_rates_last lawful long promise so =
    let f : RunFiles = walking_joined_files in
    let x : Setting = run_of_files f in
    let w : AreWalking f 400_000 = are_walking f 400_000 lawful long joined_worked in
    let Hold : Bool → Type 0 = λ b. SharpJoinChecksHold b 400_000 walking_cluster in
    let covered : IsSharplyCoveredToJoin f.params f.drift f.script 0 400_000 = record {
      checks = subst Hold (sym joined_kind) join_checks_hold;
      none = λ g gap behind. (found-of-run f.params f.drift f.script walking_is_sane).0 joined_gap g gap;
      flutters = let same = joined_flutter in omega (arith, same);
    } in
    let At : Bool → Type 0 = λ b. IsUnfollowedSharpSyncAt b f.params 400_000 (all_cycles x) 0 in
    let Keeps : Bool → Type 0 = λ b. KeepsSharplyJoined b x 400_000 (all_cycles x) 0 in
    let keeps : KeepsSharplyJoined false x 400_000 (all_cycles x) 0 =
    subst Keeps joined_kind
    (promise f.params f.drift f.script f.drift_file f.script_file 0 400_000 (all_cycles x) 0 walking_is_sane drift_is joined_is covered w.run (lit≤ tt) (subst At (sym joined_kind) w.first.unfollowed)) in
    let before : (m : ℕ) → m < 6 → FirstRatesLast walking_cluster 400_000 m = λ m less. rates_go_on so m (omega (arith, less)) in
    record {
      walking = w;
      covered = covered;
      ends = rates_end;
      short = before_end 7 (lit< tt);
      keeps = keeps;
      last = (keeps.keeps 6 (before_end 6 (lit< tt)) before).keeps (rates_go_on so 6 (lit< tt));
      listens = refl;
      joined =
          keeps.joins_up_to 6 (before_end 6 (lit< tt)) before (on_a 5) join_of_5
          (Contains-there (on_a 1) (on_a 2 ∷ on_a 3 ∷ on_a 4 ∷ on_a 5 ∷ []) (on_a 5)
          (Contains-there (on_a 2) (on_a 3 ∷ on_a 4 ∷ on_a 5 ∷ []) (on_a 5)
          (Contains-there (on_a 3) (on_a 4 ∷ on_a 5 ∷ []) (on_a 5)
          (Contains-there (on_a 4) (on_a 5 ∷ []) (on_a 5) (Contains-here (on_a 5) []))))) refl (lit≤ tt);
    }
