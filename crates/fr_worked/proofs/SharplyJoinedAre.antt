-- The files whose delays flutter, and which node 5 joins: they are accepted and sharply covered to join, and their run begins in sharp
-- sync.
use Rattle.std.proofs.Common.{◌≡◌, ◌≤◌, ◌*◌, ℕ, ◌==◌, Bool, true, false, ◌||◌, [], ◌∷◌, Some, None, length, refl, sym, ◌∙◌, subst, lit≤, lit<, arith}
use Rattle.std.specs.Prelude.{cond, Contains}
use Rattle.std.specs.Ordering.{nat_cmp}
use Rattle.std.proofs.lemmas.Int.{ints}
use Rattle.csv.specs.Machine.{next_record}
use Rattle.csv.specs.Reading.{records_from, strip_bom}
use Rattle.fr_base.specs.declared.channel.Channel.{Channel}
use Rattle.fr_base.specs.declared.channel.Channel.TheVariants.{A, B}
use Rattle.fr_cluster.specs.Questions.{compensation_of}
use Rattle.fr_cluster.specs.Ranges.{InRange}
use Rattle.fr_cluster.specs.Sane.{IsSane}
use Rattle.fr_cluster.specs.Setting.{IsSetting, Setting}
use Rattle.fr_cluster.specs.Values.{Values, figure}
use Rattle.fr_cluster.specs.declared.join.Join.{Join}
use Rattle.fr_cluster.specs.declared.names.ParamName.{ParamName}
use Rattle.fr_cluster.specs.declared.names.ParamName.TheVariants as name
use Rattle.fr_cluster.proofs.Elements.{Contains-here, Contains-there}
use Rattle.fr_bound.specs.Checks.{holds_of}
use Rattle.fr_coverage.specs.Coverage.{gap_of_run}
use Rattle.fr_coverage.specs.First.{first_below, first_in}
use Rattle.fr_coverage.specs.Flutter.{flutter_from, flutter_of, greatest_below, greatest_in}
use Rattle.fr_coverage.proofs.GapParts.{found-of-run}
use Rattle.fr_drift.specs.Files.{IsDriftFile}
use Rattle.fr_drift.specs.Held.{held}
use Rattle.fr_drift.specs.Keys.{delay_cmp, delay_key, length_cmp, length_key}
use Rattle.fr_drift.specs.Questions.{delay_of, doubles_of, length_of, rate_of, start_of}
use Rattle.fr_drift.specs.Reasons.{delay_at, drift_reason_after}
use Rattle.fr_drift.specs.Rows.{drift_row_of, rate_in}
use Rattle.fr_drift.specs.View.{compensation_on, delay_rows}
use Rattle.fr_history.specs.Lawful.{IsLawful}
use Rattle.fr_history.specs.Next.{cycles_of}
use Rattle.fr_history.specs.Worked.{on_a}
use Rattle.fr_history.proofs.Computing.{on_cycles}
use Rattle.fr_history.specs.Cycles.{cycle_at}
use Rattle.fr_promise.specs.Statement.{IsRunOf}
use Rattle.fr_runs.specs.Stated.{all_cycles}
use Rattle.fr_script.specs.Deeds.{DeedsAscend, deed_in, passage_cmp}
use Rattle.fr_script.specs.Events.{event_of}
use Rattle.fr_script.specs.Files.{IsScriptFile}
use Rattle.fr_script.specs.Reasons.{deed_by, is_named_in, is_same_passage, join_by, script_reason_after}
use Rattle.fr_script.specs.Rows.{script_row_of}
use Rattle.fr_script.specs.View.{AreDeeds, IsScript, deed_of, deeds_on, is_arbitrary, join_of}
use Rattle.fr_script.specs.declared.deeds.Passage.{Passage}
use Rattle.fr_sharp.specs.JoinedFiles.{IsSharplyCoveredToJoin, JoinedFilesKeepSharpPrecision, KeepsSharplyJoined}
use Rattle.fr_bound.specs.SharpBounds.{last_of}
use Rattle.fr_bound.specs.SharpChecks.{sharp_holds_of}
use Rattle.fr_promise.specs.SharpJoining.{sharp_join_holds_of, sharp_reach, SharpJoinChecksHold}
use Rattle.fr_sharp.specs.SharpStatement.{has_arbitrary}
use Rattle.fr_promise.specs.SharpTested.{IsFirstSharpSync, IsUnfollowedSharpSyncAt, first_free_of, first_sharp_sync_of}
use Rattle.fr_promise.proofs.FreeLemmas.{first_sharp_sync_is}
use Rattle.fr_skew.specs.Sync.{are_in_sync_by_even}
use Rattle.fr_text.specs.Fields.{looked_up, or_else}
use Rattle.fr_text.specs.Records.{records_of}
use Rattle.fr_worked.specs.Clusters.{cluster_of}
use Rattle.fr_worked.specs.RunFiles.{RunFiles, JoinsInTime, run_of_files}
use Rattle.fr_worked.specs.SharplyJoinedFiles.{KeepSharplyFromTheStart, alone_files, beside_files, wide_drift, wide_drift_file, wide_cluster}
use Rattle.fr_worked.proofs.Accepted.{AllKept, are_accepted, are_deeds, delay_is, found_is_told, length_is, marked, none_refused, one_differs, said_once, same_delay, same_length, same_number, same_passage, told_by}
use Rattle.fr_worked.proofs.Decided.{none_marked}
use Rattle.fr_promise.proofs.Stating.{is_setting as files_are_a_setting}
use Rattle.fr_worked.proofs.FilesKept.{first_two}
use Rattle.fr_worked.proofs.Sane.{cluster_sane, nodes_from}
use Rattle.fr_promise.proofs.CheckNumbers.{six_to_nine}

-- ---- the cluster

in_range : (n : ParamName) → InRange n (figure wide_cluster n)
in_range name.gMacroPerCycle = (grind (arith, ints), grind (arith, ints))
in_range other = (grind (arith, ints), grind (arith, ints))

narrow : IsSane (cluster_of (on_a 1 ∷ on_a 2 ∷ on_a 3 ∷ on_a 4 ∷ on_a 5 ∷ []))
unfolding nodes_from
narrow = cluster_sane false 5 (lit≤ tt) (lit≤ tt)

pub is_sane : IsSane wide_cluster
is_sane =
    let c = narrow.constraints in
    record {
      ranges = in_range;
      constraints = record {
        whole_cycle = c.whole_cycle;
        acts_in_slot = c.acts_in_slot;
        corrects_after = c.corrects_after;
        leaves_microticks = lit≤ tt;
        passive_first = c.passive_first;
        sync_nodes = c.sync_nodes;
        own_slots = c.own_slots;
        free_slots = c.free_slots;
      };
      lists = narrow.lists;
    }

checks_hold : (beside : Bool) → SharpJoinChecksHold beside 250 wide_cluster
unfolding last_of
checks_hold false = six_to_nine (λ k. sharp_join_holds_of k false 250 wide_cluster) refl refl refl refl
checks_hold true = six_to_nine (λ k. sharp_join_holds_of k true 250 wide_cluster) refl refl refl refl

-- ---- the drift file

drift_accepted : are_accepted (drift_reason_after wide_cluster) [] (records_of wide_drift_file) ≡ true
unfolding are_accepted records_of strip_bom records_from next_record drift_row_of rate_in looked_up
drift_accepted = refl

compensations_are : (ch : Channel) → compensation_on wide_drift ch ≡ compensation_of wide_cluster ch
compensations_are A = refl
compensations_are B = refl

delays_are : (sender receiver : ℕ) (ch : Channel) (from : ℕ) → delay_rows wide_drift sender receiver ch from ≡ delay_at sender receiver ch from (records_of wide_drift_file)
unfolding told_by records_of strip_bom records_from next_record drift_row_of rate_in looked_up
delays_are sender receiver A from = found_is_told delay_cmp delay_is same_delay wide_drift.delays_a (delay_key sender receiver from)
delays_are sender receiver B from = refl

drift_is : IsDriftFile wide_cluster wide_drift wide_drift_file
unfolding told_by records_of strip_bom records_from next_record drift_row_of rate_in looked_up
drift_is = record {
  none_refused = none_refused (drift_reason_after wide_cluster) (records_of wide_drift_file) drift_accepted;
  stands = record {
    doubles = refl;
    compensation = compensations_are;
    starts = λ node. found_is_told nat_cmp (λ row asked. row == asked) same_number wide_drift.starts node;
    lengths = λ node from. found_is_told length_cmp length_is same_length wide_drift.lengths (length_key node from);
    delays = delays_are;
    order = record { starts = refl; lengths = refl; delays_a = refl; delays_b = refl };
  };
}

-- ---- the scripts

pub no_deeds : AreDeeds []
unfolding AllKept
no_deeds = are_deeds [] tt tt

alone_accepted : are_accepted (script_reason_after wide_cluster) [] (records_of alone_files.script_file) ≡ true
unfolding are_accepted records_of strip_bom records_from next_record script_row_of looked_up
alone_accepted = refl

alone_deeds : (ch : Channel) (passage : Passage) → deed_in (deeds_on alone_files.script ch) passage ≡ deed_by ch passage (records_of alone_files.script_file)
unfolding records_of strip_bom records_from next_record script_row_of looked_up deed_in
alone_deeds A passage = refl
alone_deeds B passage = refl

alone_ascend : (ch : Channel) → DeedsAscend (deeds_on alone_files.script ch)
alone_ascend A = no_deeds.ascending
alone_ascend B = no_deeds.ascending

abbrev pub join_of_5 : Join
join_of_5 = record { double = 0; reference = 1 }

alone_nodes : (node : ℕ) → is_arbitrary alone_files.script node ≡ false
unfolding is_arbitrary
alone_nodes node = none_marked 65 node

alone_joins_are : (node : ℕ) → join_of alone_files.script node ≡ cond (5 == node) (Some join_of_5) None
unfolding join_of
alone_joins_are node = one_differs 5 59 node (Some join_of_5) None

alone_said : (node : ℕ) → (is_named_in node (records_of alone_files.script_file) ≡ false) × (join_by node (records_of alone_files.script_file) ≡ or_else (cond (5 == node) (Some join_of_5) None) None)
unfolding records_of strip_bom records_from next_record script_row_of looked_up
alone_said node = (refl, refl)

alone_is : IsScriptFile wide_cluster alone_files.script alone_files.script_file
alone_is = record {
  none_refused = none_refused (script_reason_after wide_cluster) (records_of alone_files.script_file) alone_accepted;
  stands = record {
    long = refl;
    joins_long = refl;
    nodes = λ node low. alone_nodes node ∙ sym (alone_said node).0;
    joins = λ node low. alone_joins_are node ∙ said_once (5 == node) join_of_5 ∙ sym (alone_said node).1;
    deeds = alone_deeds;
    ascending = alone_ascend;
  };
}

beside_accepted : are_accepted (script_reason_after wide_cluster) [] (records_of beside_files.script_file) ≡ true
unfolding are_accepted records_of strip_bom records_from next_record script_row_of looked_up
beside_accepted = refl

beside_deeds : (ch : Channel) (passage : Passage) → deed_in (deeds_on beside_files.script ch) passage ≡ deed_by ch passage (records_of beside_files.script_file)
unfolding told_by records_of strip_bom records_from next_record script_row_of looked_up deed_in
beside_deeds A passage = found_is_told passage_cmp is_same_passage same_passage beside_files.script.on_a passage
beside_deeds B passage = refl

said_deeds : AreDeeds beside_files.script.on_a
unfolding AllKept
said_deeds =
    are_deeds beside_files.script.on_a tt
    (record { from = record { le = tt }; to = record { le = tt }; said = tt }, (record { from = record { le = tt }; to = record { le = tt }; said = tt }, (record { from = record { le = tt }; to = record { le = tt }; said = tt }, (record { from = record { le = tt }; to = record { le = tt }; said = tt }, tt))))

beside_ascend : (ch : Channel) → DeedsAscend (deeds_on beside_files.script ch)
beside_ascend A = said_deeds.ascending
beside_ascend B = no_deeds.ascending

beside_nodes : (node : ℕ) → is_arbitrary beside_files.script node ≡ cond (4 == node) true false
unfolding is_arbitrary
beside_nodes node = one_differs 4 60 node true false

beside_joins_are : (node : ℕ) → join_of beside_files.script node ≡ cond (5 == node) (Some join_of_5) None
unfolding join_of
beside_joins_are node = one_differs 5 59 node (Some join_of_5) None

beside_said : (node : ℕ) → (is_named_in node (records_of beside_files.script_file) ≡ ((4 == node) || false)) × (join_by node (records_of beside_files.script_file) ≡ or_else (cond (5 == node) (Some join_of_5) None) None)
unfolding records_of strip_bom records_from next_record script_row_of looked_up
beside_said node = (refl, refl)

beside_is : IsScriptFile wide_cluster beside_files.script beside_files.script_file
beside_is = record {
  none_refused = none_refused (script_reason_after wide_cluster) (records_of beside_files.script_file) beside_accepted;
  stands = record {
    long = refl;
    joins_long = refl;
    nodes = λ node low. beside_nodes node ∙ marked (4 == node) ∙ sym (beside_said node).0;
    joins = λ node low. beside_joins_are node ∙ said_once (5 == node) join_of_5 ∙ sym (beside_said node).1;
    deeds = beside_deeds;
    ascending = beside_ascend;
  };
}

-- ---- what is computed of the files and their runs

pub record AreSharplyWorked (beside : Bool) (f : RunFiles) (flutter : ℕ) : Type 0 where
  pub sane : IsSane f.params
  pub drift : IsDriftFile f.params f.drift f.drift_file
  pub script : IsScriptFile f.params f.script f.script_file
  pub proper : IsScript f.script
  pub kind : has_arbitrary f.params f.script ≡ beside
  pub flutters : flutter_of f.params f.drift f.script ≡ flutter
  pub checks : SharpJoinChecksHold beside flutter f.params
  pub check : sharp_holds_of 1 flutter (sharp_reach beside f.params flutter) f.params ≡ true
  pub older : holds_of 7 f.params ≡ false
  pub none : gap_of_run f.params f.drift f.script ≡ None
  pub long : 1 ≤ doubles_of f.drift
  pub begins : first_sharp_sync_of beside f.params flutter (cycles_of (run_of_files f) 2) ≡ Some 0

some_double : 1 ≤ doubles_of wide_drift
unfolding doubles_of
some_double = lit≤ tt

alone_gap : gap_of_run wide_cluster wide_drift alone_files.script ≡ None
unfolding first_below first_in doubles_of length_of delay_of held is_arbitrary join_of deed_of deed_in event_of
alone_gap = refl

alone_flutter : flutter_of wide_cluster wide_drift alone_files.script ≡ 250
unfolding flutter_from greatest_below greatest_in doubles_of delay_of held is_arbitrary
alone_flutter = refl

alone_kind : has_arbitrary wide_cluster alone_files.script ≡ false
unfolding is_arbitrary
alone_kind = refl

alone_begins : first_sharp_sync_of false wide_cluster 250 (cycles_of (run_of_files alone_files) 2) ≡ Some 0
unfolding on_cycles first_free_of are_in_sync_by_even cycle_at cycles_of doubles_of start_of rate_of length_of delay_of held is_arbitrary join_of deed_of deed_in event_of
alone_begins = refl

first_check : (beside : Bool) → sharp_holds_of 1 250 (sharp_reach beside wide_cluster 250) wide_cluster ≡ true
first_check false = refl
first_check true = refl

pub alone_worked : AreSharplyWorked false alone_files 250
alone_worked = record {
  sane = is_sane;
  drift = drift_is;
  script = alone_is;
  proper = record { long = refl; joins_long = refl; deeds_a = no_deeds; deeds_b = no_deeds };
  kind = alone_kind;
  flutters = alone_flutter;
  checks = checks_hold false;
  check = first_check false;
  older = refl;
  none = alone_gap;
  long = some_double;
  begins = alone_begins;
}

beside_gap : gap_of_run wide_cluster wide_drift beside_files.script ≡ None
unfolding first_below first_in doubles_of length_of delay_of held is_arbitrary join_of deed_of deed_in event_of
beside_gap = refl

beside_flutter : flutter_of wide_cluster wide_drift beside_files.script ≡ 250
unfolding flutter_from greatest_below greatest_in doubles_of delay_of held is_arbitrary
beside_flutter = refl

beside_kind : has_arbitrary wide_cluster beside_files.script ≡ true
unfolding is_arbitrary
beside_kind = refl

beside_begins : first_sharp_sync_of true wide_cluster 250 (cycles_of (run_of_files beside_files) 2) ≡ Some 0
unfolding on_cycles first_free_of are_in_sync_by_even cycle_at cycles_of doubles_of start_of rate_of length_of delay_of held is_arbitrary join_of deed_of deed_in event_of
beside_begins = refl

pub beside_worked : AreSharplyWorked true beside_files 250
beside_worked = record {
  sane = is_sane;
  drift = drift_is;
  script = beside_is;
  proper = record { long = refl; joins_long = refl; deeds_a = said_deeds; deeds_b = no_deeds };
  kind = beside_kind;
  flutters = beside_flutter;
  checks = checks_hold true;
  check = first_check true;
  older = refl;
  none = beside_gap;
  long = some_double;
  begins = beside_begins;
}

-- ---- so the promise speaks of them

-- where the first two cycles are in sharp sync the run is
pub begins_longer : (beside : Bool) (p : Values) (flutter : ℕ) (x : Setting) (n : ℕ) → 2 ≤ n → IsUnfollowedSharpSyncAt beside p flutter (cycles_of x 2) 0
    → IsUnfollowedSharpSyncAt beside p flutter (cycles_of x n) 0
begins_longer beside p flutter x n long u =
    let s = u.synced in
    record {
      synced = record {
        even = s.even;
        odd = s.odd;
        has_even = first_two x n 0 s.even long (omega arith) s.has_even;
        has_odd = first_two x n 1 s.odd long (omega arith) s.has_odd;
        in_sync = s.in_sync;
      };
      none_early = u.none_early;
      none_late = u.none_late;
    }

pub keep_sharply_from_the_start :
    (beside : Bool) (f : RunFiles) (flutter : ℕ)
    → ((x : Setting) (n : ℕ) → IsSetting x → IsLawful x (cycles_of x n)) → ((x : Setting) (n : ℕ) → length (cycles_of x n) ≡ n)
    → JoinedFilesKeepSharpPrecision → AreSharplyWorked beside f flutter → KeepSharplyFromTheStart beside f flutter
keep_sharply_from_the_start beside f flutter lawful long promise w =
    let x : Setting = run_of_files f in
    let run : IsRunOf x (all_cycles x) = record { lawful = lawful x (2 * x.doubles) (files_are_a_setting f.params f.drift f.script w.sane w.proper); whole = long x (2 * x.doubles) } in
    let first : IsFirstSharpSync beside f.params flutter (all_cycles x) 0 = record {
      unfollowed = begins_longer beside f.params flutter x (2 * x.doubles) (let least = w.long in omega (arith, least)) (first_sharp_sync_is beside f.params flutter (cycles_of x 2) 0 w.begins).unfollowed;
      first = λ earlier less sync. absurd (omega (arith, less));
    } in
    let Hold : Bool → Type 0 = λ b. SharpJoinChecksHold b flutter f.params in
    let covered : IsSharplyCoveredToJoin f.params f.drift f.script 0 flutter = record {
      checks = subst Hold (sym w.kind) w.checks;
      none = λ g gap behind. (found-of-run f.params f.drift f.script w.sane).0 w.none g gap;
      flutters = let same = w.flutters in omega (arith, same);
    } in
    let At : Bool → Type 0 = λ b. IsUnfollowedSharpSyncAt b f.params flutter (all_cycles x) 0 in
    let Keeps : Bool → Type 0 = λ b. KeepsSharplyJoined b x flutter (all_cycles x) 0 in
    record {
      sane = w.sane;
      drift = w.drift;
      script = w.script;
      kind = w.kind;
      flutters = w.flutters;
      covered = covered;
      check = w.check;
      older = w.older;
      run = run;
      first = first;
      keeps =
          subst Keeps w.kind
          (promise f.params f.drift f.script f.drift_file f.script_file 0 flutter (all_cycles x) 0 w.sane w.drift w.script covered run (lit≤ tt) (subst At (sym w.kind) first.unfollowed));
    }

-- node 5, which is one of the nodes of the first files, joins
pub node_5 : Contains (on_a 1 ∷ on_a 2 ∷ on_a 3 ∷ on_a 4 ∷ on_a 5 ∷ []) (on_a 5)
node_5 =
    Contains-there (on_a 1) (on_a 2 ∷ on_a 3 ∷ on_a 4 ∷ on_a 5 ∷ []) (on_a 5)
    (Contains-there (on_a 2) (on_a 3 ∷ on_a 4 ∷ on_a 5 ∷ []) (on_a 5)
    (Contains-there (on_a 3) (on_a 4 ∷ on_a 5 ∷ []) (on_a 5)
    (Contains-there (on_a 4) (on_a 5 ∷ []) (on_a 5) (Contains-here (on_a 5) []))))

pub alone_joins : KeepSharplyFromTheStart false alone_files 250 → JoinsInTime alone_files 5 (record { double = 0; reference = 1 })
unfolding is_arbitrary join_of doubles_of
alone_joins w = record {
  listens = refl;
  soon = lit< tt;
  joined = w.keeps.joins (w.keeps.on w.check) (on_a 5) (record { double = 0; reference = 1 }) node_5 refl (lit≤ tt);
}

pub beside_joins : KeepSharplyFromTheStart true beside_files 250 → JoinsInTime beside_files 5 (record { double = 0; reference = 1 })
unfolding is_arbitrary join_of doubles_of
beside_joins w = record {
  listens = refl;
  soon = lit< tt;
  joined =
      w.keeps.joins (w.keeps.on w.check) (on_a 5) (record { double = 0; reference = 1 })
      (Contains-there (on_a 1) (on_a 2 ∷ on_a 3 ∷ on_a 5 ∷ []) (on_a 5)
      (Contains-there (on_a 2) (on_a 3 ∷ on_a 5 ∷ []) (on_a 5)
      (Contains-there (on_a 3) (on_a 5 ∷ []) (on_a 5) (Contains-here (on_a 5) [])))) refl (lit≤ tt);
}
