-- The files of two channels, uneven clocks and an arbitrary node: they are accepted and have no gap, and their run begins in sync.
use Rattle.std.proofs.Common.{◌≡◌, ◌<◌, ◌≤◌, ℕ, ◌==◌, true, false, ◌||◌, [], ◌∷◌, Some, None, refl, sym, ◌∙◌, lit≤, lit<}
use Rattle.std.specs.Prelude.{cond}
use Rattle.std.specs.Ordering.{nat_cmp}
use Rattle.csv.specs.Machine.{next_record}
use Rattle.csv.specs.Reading.{records_from, strip_bom}
use Rattle.hex.specs.Hex.{decode_pairs}
use Rattle.fr_base.specs.declared.channel.Channel.{Channel}
use Rattle.fr_base.specs.declared.channel.Channel.TheVariants.{A, B}
use Rattle.fr_cluster.specs.Questions.{compensation_of}
use Rattle.fr_cluster.specs.declared.join.Join.{Join}
use Rattle.fr_cluster.proofs.Elements.{Contains-here, Contains-there}
use Rattle.fr_coverage.specs.Coverage.{first_gap}
use Rattle.fr_drift.specs.Files.{IsDriftFile}
use Rattle.fr_drift.specs.Held.{held}
use Rattle.fr_drift.specs.Keys.{delay_cmp, delay_key, length_cmp, length_key}
use Rattle.fr_drift.specs.Questions.{delay_of, doubles_of, length_of, rate_of, start_of}
use Rattle.fr_drift.specs.Reasons.{delay_at, drift_reason_after}
use Rattle.fr_drift.specs.Rows.{drift_row_of, rate_in}
use Rattle.fr_drift.specs.View.{compensation_on, delay_rows}
use Rattle.fr_history.specs.Next.{cycles_of}
use Rattle.fr_history.specs.Unfollowed.{first_unfollowed_sync_of}
use Rattle.fr_history.proofs.Computing.{on_cycles, on_told}
use Rattle.fr_script.specs.Deeds.{DeedsAscend, deed_in, passage_cmp}
use Rattle.fr_script.specs.Events.{event_of}
use Rattle.fr_script.specs.Files.{IsScriptFile}
use Rattle.fr_script.specs.Reasons.{deed_by, is_named_in, is_same_passage, join_by, script_reason_after}
use Rattle.fr_script.specs.Rows.{script_row_of}
use Rattle.fr_script.specs.View.{AreDeeds, deed_of, deeds_on, is_arbitrary, join_of}
use Rattle.fr_script.specs.declared.deeds.Passage.{Passage}
use Rattle.fr_text.specs.Fields.{looked_up, or_else}
use Rattle.fr_text.specs.Records.{records_of}
use Rattle.fr_worked.specs.JoinedFiles.{uneven_files}
use Rattle.fr_worked.specs.RunFiles.{KeepFromTheStart, JoinsInTime, run_of_files}
use Rattle.fr_worked.specs.Uneven.{node_on_both, on_b, small_cluster}
use Rattle.fr_worked.proofs.Accepted.{AllKept, are_accepted, are_deeds, delay_is, found_is_told, length_is, marked, none_refused, one_differs, said_twice, same_delay, same_length, same_number, same_passage, told_by, two_differ}
use Rattle.fr_worked.proofs.Computing.{on_gaps}
use Rattle.fr_worked.proofs.FilesKept.{AreWorked, takes_part}
use Rattle.fr_worked.proofs.UnevenStated.{is_sane, three_bytes}

-- ---- they are accepted

drift_accepted : are_accepted (drift_reason_after small_cluster) [] (records_of uneven_files.drift_file) ≡ true
unfolding are_accepted records_of strip_bom records_from next_record drift_row_of rate_in looked_up
drift_accepted = refl

compensations_are : (ch : Channel) → compensation_on uneven_files.drift ch ≡ compensation_of small_cluster ch
compensations_are A = refl
compensations_are B = refl

delays_are : (sender receiver : ℕ) (ch : Channel) (from : ℕ) → delay_rows uneven_files.drift sender receiver ch from ≡ delay_at sender receiver ch from (records_of uneven_files.drift_file)
unfolding told_by records_of strip_bom records_from next_record drift_row_of rate_in looked_up
delays_are sender receiver A from = found_is_told delay_cmp delay_is same_delay uneven_files.drift.delays_a (delay_key sender receiver from)
delays_are sender receiver B from = found_is_told delay_cmp delay_is same_delay uneven_files.drift.delays_b (delay_key sender receiver from)

drift_is : IsDriftFile small_cluster uneven_files.drift uneven_files.drift_file
unfolding told_by records_of strip_bom records_from next_record drift_row_of rate_in looked_up
drift_is = record {
  none_refused = none_refused (drift_reason_after small_cluster) (records_of uneven_files.drift_file) drift_accepted;
  stands = record {
    doubles = refl;
    compensation = compensations_are;
    starts = λ node. found_is_told nat_cmp (λ row asked. row == asked) same_number uneven_files.drift.starts node;
    lengths = λ node from. found_is_told length_cmp length_is same_length uneven_files.drift.lengths (length_key node from);
    delays = delays_are;
    order = record { starts = refl; lengths = refl; delays_a = refl; delays_b = refl };
  };
}

script_accepted : are_accepted (script_reason_after small_cluster) [] (records_of uneven_files.script_file) ≡ true
unfolding are_accepted records_of strip_bom records_from next_record script_row_of decode_pairs looked_up
script_accepted = refl

deeds_are : (ch : Channel) (passage : Passage) → deed_in (deeds_on uneven_files.script ch) passage ≡ deed_by ch passage (records_of uneven_files.script_file)
unfolding told_by records_of strip_bom records_from next_record script_row_of decode_pairs looked_up deed_in
deeds_are A passage = found_is_told passage_cmp is_same_passage same_passage uneven_files.script.on_a passage
deeds_are B passage = found_is_told passage_cmp is_same_passage same_passage uneven_files.script.on_b passage

deeds_on_a : AreDeeds uneven_files.script.on_a
unfolding AllKept
deeds_on_a =
    are_deeds uneven_files.script.on_a tt
    (tt, (lit< tt, (record { from = record { le = tt }; to = record { le = tt }; said = tt }, (record { from = record { le = tt }; to = record { le = tt }; said = tt }, (record { from = record { le = tt }; to = record { le = tt }; said = tt }, (record { from = record { le = tt }; to = record { le = tt }; said = tt }, tt))))))

deeds_on_b : AreDeeds uneven_files.script.on_b
unfolding AllKept
deeds_on_b = are_deeds uneven_files.script.on_b tt (record { from = record { le = tt }; to = record { le = tt }; said = record { few = lit≤ tt; small = three_bytes } }, tt)

deeds_ascend : (ch : Channel) → DeedsAscend (deeds_on uneven_files.script ch)
deeds_ascend A = deeds_on_a.ascending
deeds_ascend B = deeds_on_b.ascending

nodes_are : (node : ℕ) → is_arbitrary uneven_files.script node ≡ cond (4 == node) true false
unfolding is_arbitrary
nodes_are node = one_differs 4 60 node true false

nodes_said : (node : ℕ) → is_named_in node (records_of uneven_files.script_file) ≡ ((4 == node) || false)
unfolding records_of strip_bom records_from next_record script_row_of decode_pairs
nodes_said node = refl

abbrev join_of_5 : Join
join_of_5 = record { double = 0; reference = 1 }

abbrev join_of_6 : Join
join_of_6 = record { double = 1; reference = 2 }

joins_are : (node : ℕ) → join_of uneven_files.script node ≡ cond (5 == node) (Some join_of_5) (cond (6 == node) (Some join_of_6) None)
unfolding join_of
joins_are node = two_differ 5 58 node (Some join_of_5) (Some join_of_6) None

joins_said : (node : ℕ) → join_by node (records_of uneven_files.script_file) ≡ or_else (cond (5 == node) (Some join_of_5) None) (or_else (cond (6 == node) (Some join_of_6) None) None)
unfolding records_of strip_bom records_from next_record script_row_of decode_pairs looked_up
joins_said node = refl

script_is : IsScriptFile small_cluster uneven_files.script uneven_files.script_file
script_is = record {
  none_refused = none_refused (script_reason_after small_cluster) (records_of uneven_files.script_file) script_accepted;
  stands = record {
    long = refl;
    joins_long = refl;
    nodes = λ node low. nodes_are node ∙ marked (4 == node) ∙ sym (nodes_said node);
    joins = λ node low. joins_are node ∙ said_twice (5 == node) (6 == node) join_of_5 join_of_6 ∙ sym (joins_said node);
    deeds = deeds_are;
    ascending = deeds_ascend;
  };
}

-- ---- they have no gap, and their run begins in sync

no_gap : first_gap small_cluster uneven_files.drift uneven_files.script ≡ None
unfolding on_gaps doubles_of length_of delay_of held is_arbitrary join_of deed_of deed_in event_of
no_gap = refl

begins : first_unfollowed_sync_of small_cluster (cycles_of (run_of_files uneven_files) 2) ≡ Some 0
unfolding on_cycles on_told cycles_of doubles_of start_of rate_of length_of delay_of held is_arbitrary join_of deed_of deed_in event_of
begins = refl

some_double : 1 ≤ doubles_of uneven_files.drift
unfolding doubles_of
some_double = lit≤ tt

pub uneven_files_are : AreWorked uneven_files
uneven_files_are = record {
  sane = is_sane;
  drift = drift_is;
  script = script_is;
  proper = record { long = refl; joins_long = refl; deeds_a = deeds_on_a; deeds_b = deeds_on_b };
  none = no_gap;
  long = some_double;
  begins = begins;
}

pub node_5_takes_part : KeepFromTheStart uneven_files → JoinsInTime uneven_files 5 (record { double = 0; reference = 1 })
unfolding is_arbitrary join_of doubles_of
node_5_takes_part w =
    takes_part uneven_files (node_on_both 5) (record { double = 0; reference = 1 }) w
    (Contains-there (node_on_both 1) (node_on_both 2 ∷ node_on_both 3 ∷ node_on_both 5 ∷ on_b 6 ∷ []) (node_on_both 5)
    (Contains-there (node_on_both 2) (node_on_both 3 ∷ node_on_both 5 ∷ on_b 6 ∷ []) (node_on_both 5)
    (Contains-there (node_on_both 3) (node_on_both 5 ∷ on_b 6 ∷ []) (node_on_both 5) (Contains-here (node_on_both 5) (on_b 6 ∷ []))))) refl (lit< tt)

pub node_6_takes_part : KeepFromTheStart uneven_files → JoinsInTime uneven_files 6 (record { double = 1; reference = 2 })
unfolding is_arbitrary join_of doubles_of
node_6_takes_part w =
    takes_part uneven_files (on_b 6) (record { double = 1; reference = 2 }) w
    (Contains-there (node_on_both 1) (node_on_both 2 ∷ node_on_both 3 ∷ node_on_both 5 ∷ on_b 6 ∷ []) (on_b 6)
    (Contains-there (node_on_both 2) (node_on_both 3 ∷ node_on_both 5 ∷ on_b 6 ∷ []) (on_b 6)
    (Contains-there (node_on_both 3) (node_on_both 5 ∷ on_b 6 ∷ []) (on_b 6)
    (Contains-there (node_on_both 5) (on_b 6 ∷ []) (on_b 6) (Contains-here (on_b 6) []))))) refl (lit< tt)
