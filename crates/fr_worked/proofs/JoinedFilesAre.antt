-- The files of three nodes one of which joins: they are accepted, decide the worked run, and have no gap.
use Rattle.std.proofs.Common.{◌≡◌, ◌≤◌, ℕ, ◌==◌, Bool, true, false, [], ◌∷◌, Option, Some, None, refl, ap, ◌∙◌, arith, lit≤, lit<}
use Rattle.std.specs.Prelude.{cond}
use Rattle.std.proofs.lemmas.Bool.Decides.{nat_tests}
use Rattle.csv.specs.Machine.{next_record}
use Rattle.csv.specs.Reading.{records_from, strip_bom}
use Rattle.fr_base.specs.declared.channel.Channel.{Channel}
use Rattle.fr_base.specs.declared.channel.Channel.TheVariants.{A, B}
use Rattle.fr_base.specs.Event.Event.{Regular}
use Rattle.fr_cluster.specs.Questions.{compensation_of}
use Rattle.fr_cluster.specs.declared.join.Join.{Join}
use Rattle.fr_cluster.proofs.Elements.{Contains-here, Contains-there}
use Rattle.fr_coverage.specs.Coverage.{first_gap}
use Rattle.fr_drift.specs.Files.{IsDriftFile}
use Rattle.fr_drift.specs.Held.{held}
use Rattle.fr_drift.specs.Questions.{delay_of, doubles_of, length_of, rate_of, start_of}
use Rattle.fr_drift.specs.Reasons.{delay_at, drift_reason_after}
use Rattle.fr_drift.specs.Rows.{drift_row_of}
use Rattle.fr_drift.specs.View.{compensation_on, delay_rows}
use Rattle.fr_history.specs.Next.{cycles_of}
use Rattle.fr_history.specs.Unfollowed.{first_unfollowed_sync_of}
use Rattle.fr_history.specs.Worked.{joined_run, on_a, roomy_cluster}
use Rattle.fr_history.proofs.Computing.{on_cycles, on_told}
use Rattle.fr_script.specs.Deeds.{DeedsAscend, deed_in}
use Rattle.fr_script.specs.Events.{event_of}
use Rattle.fr_script.specs.Files.{IsScriptFile}
use Rattle.fr_script.specs.Reasons.{deed_by, script_reason_after}
use Rattle.fr_script.specs.Rows.{script_row_of}
use Rattle.fr_script.specs.View.{AreDeeds, deed_of, deeds_on, is_arbitrary, join_of}
use Rattle.fr_script.specs.declared.deeds.Passage.{Passage}
use Rattle.fr_text.specs.Fields.{looked_up}
use Rattle.fr_text.specs.Records.{records_of}
use Rattle.fr_worked.specs.JoinedFiles.{joined_files}
use Rattle.fr_worked.specs.RunFiles.{KeepFromTheStart, JoinsInTime, run_of_files}
use Rattle.fr_worked.proofs.Accepted.{AllKept, are_accepted, are_deeds, none_refused, one_differs, said_once}
use Rattle.fr_worked.proofs.Begun.{is_sane}
use Rattle.fr_worked.proofs.Computing.{on_gaps}
use Rattle.fr_worked.proofs.Decided.{decided, event_is, none_marked, steady_delays, steady_doubles, steady_lengths, steady_rates, steady_starts}
use Rattle.fr_worked.proofs.FilesKept.{AreWorked, takes_part}

-- ---- they are accepted

drift_accepted : are_accepted (drift_reason_after roomy_cluster) [] (records_of joined_files.drift_file) ≡ true
unfolding are_accepted records_of strip_bom records_from next_record drift_row_of looked_up
drift_accepted = refl

compensations_are : (ch : Channel) → compensation_on joined_files.drift ch ≡ compensation_of roomy_cluster ch
compensations_are A = refl
compensations_are B = refl

delays_are : (sender receiver : ℕ) (ch : Channel) (from : ℕ) → delay_rows joined_files.drift sender receiver ch from ≡ delay_at sender receiver ch from (records_of joined_files.drift_file)
unfolding records_of strip_bom records_from next_record drift_row_of looked_up
delays_are sender receiver A from = refl
delays_are sender receiver B from = refl

drift_is : IsDriftFile roomy_cluster joined_files.drift joined_files.drift_file
unfolding records_of strip_bom records_from next_record drift_row_of looked_up
drift_is = record {
  none_refused = none_refused (drift_reason_after roomy_cluster) (records_of joined_files.drift_file) drift_accepted;
  stands = record {
    doubles = refl;
    compensation = compensations_are;
    starts = λ node. refl;
    lengths = λ node from. refl;
    delays = delays_are;
    order = record { starts = refl; lengths = refl; delays_a = refl; delays_b = refl };
  };
}

script_accepted : are_accepted (script_reason_after roomy_cluster) [] (records_of joined_files.script_file) ≡ true
unfolding are_accepted records_of strip_bom records_from next_record script_row_of looked_up
script_accepted = refl

abbrev joining : Option Join
joining = Some (record { double = 1; reference = 1 })

joins_are : (node : ℕ) → join_of joined_files.script node ≡ cond (3 == node) joining None
unfolding join_of
joins_are node = one_differs 3 61 node joining None

nodes_are : (node : ℕ) → is_arbitrary joined_files.script node ≡ false
unfolding is_arbitrary
nodes_are node = none_marked 65 node

deeds_are : (ch : Channel) (passage : Passage) → deed_in (deeds_on joined_files.script ch) passage ≡ deed_by ch passage (records_of joined_files.script_file)
unfolding records_of strip_bom records_from next_record script_row_of looked_up deed_in
deeds_are A passage = refl
deeds_are B passage = refl

no_deeds : AreDeeds []
unfolding AllKept
no_deeds = are_deeds [] tt tt

deeds_ascend : (ch : Channel) → DeedsAscend (deeds_on joined_files.script ch)
deeds_ascend A = no_deeds.ascending
deeds_ascend B = no_deeds.ascending

script_is : IsScriptFile roomy_cluster joined_files.script joined_files.script_file
unfolding records_of strip_bom records_from next_record script_row_of looked_up
script_is = record {
  none_refused = none_refused (script_reason_after roomy_cluster) (records_of joined_files.script_file) script_accepted;
  stands = record {
    long = refl;
    joins_long = refl;
    nodes = λ node low. nodes_are node;
    joins = λ node low. joins_are node ∙ said_once (3 == node) (record { double = 1; reference = 1 });
    deeds = deeds_are;
    ascending = deeds_ascend;
  };
}

-- ---- they decide the run

events_are : (cycle sender receiver : ℕ) (channel : Channel) → event_of joined_files.script cycle sender receiver channel ≡ Regular
unfolding deed_of deed_in
events_are cycle sender receiver channel = event_is joined_files.script cycle sender receiver channel false None (nodes_are sender) (no_deed channel)
  where
    no_deed : (channel : Channel) → deed_of joined_files.script cycle sender receiver channel ≡ None
    no_deed A = refl
    no_deed B = refl

pub files_decide : run_of_files joined_files ≡ joined_run
files_decide = decided joined_files.drift joined_files.script joined_run (record {
  doubles = steady_doubles 6;
  starts = steady_starts 6;
  rates = steady_rates 6;
  lengths = steady_lengths 6;
  delays = steady_delays 6;
  nodes = nodes_are;
  events = events_are;
  joins = λ node. joins_are node ∙ (let same : (3 == node) ≡ (node == 3) = grind (arith, nat_tests) in ap (λ (b : Bool). cond b joining None) same);
})

-- ---- they have no gap, and their run begins in sync

no_gap : first_gap roomy_cluster joined_files.drift joined_files.script ≡ None
unfolding on_gaps doubles_of length_of delay_of held is_arbitrary join_of deed_of deed_in event_of
no_gap = refl

begins : first_unfollowed_sync_of roomy_cluster (cycles_of (run_of_files joined_files) 2) ≡ Some 0
unfolding on_cycles on_told cycles_of doubles_of start_of rate_of length_of delay_of held is_arbitrary join_of deed_of deed_in event_of
begins = refl

some_double : 1 ≤ doubles_of joined_files.drift
unfolding doubles_of
some_double = lit≤ tt

pub joined_files_are : AreWorked joined_files
joined_files_are = record {
  sane = is_sane;
  drift = drift_is;
  script = script_is;
  proper = record { long = refl; joins_long = refl; deeds_a = no_deeds; deeds_b = no_deeds };
  none = no_gap;
  long = some_double;
  begins = begins;
}

pub node_3_takes_part : KeepFromTheStart joined_files → JoinsInTime joined_files 3 (record { double = 1; reference = 1 })
unfolding is_arbitrary join_of doubles_of
node_3_takes_part w =
    takes_part joined_files (on_a 3) (record { double = 1; reference = 1 }) w
    (Contains-there (on_a 1) (on_a 2 ∷ on_a 3 ∷ []) (on_a 3) (Contains-there (on_a 2) (on_a 3 ∷ []) (on_a 3) (Contains-here (on_a 3) []))) refl (lit< tt)
