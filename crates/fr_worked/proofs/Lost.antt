-- The runs in which one frame is hit, cycle by cycle.
use Rattle.std.proofs.Common.{◌≡◌, [], ◌∷◌, None, Some, pos, refl, ℕ, true, false, Bool, ◌==◌, ◌&&◌, ◌∙◌, if◌then◌else◌}
use Rattle.std.specs.Prelude.{cond}
use Rattle.fr_base.specs.Event.{Event}
use Rattle.fr_base.specs.Event.Event.{Regular, Silent, Flip}
use Rattle.fr_base.specs.declared.channel.Channel.{Channel}
use Rattle.fr_base.specs.declared.channel.Channel.TheVariants.{A, B}
use Rattle.fr_script.specs.Deeds.{deed_in, passage_of}
use Rattle.fr_script.specs.Deed.{done_by}
use Rattle.fr_script.specs.Events.{event_of}
use Rattle.fr_script.specs.declared.deed.Deed.{Deed}
use Rattle.fr_script.specs.declared.deed.Deed.TheVariants as deed
use Rattle.fr_worked.proofs.Decided.{decided, event_is, no_row, none_marked, passage_is, plain_joins}
use Rattle.fr_worked.proofs.Offset.{offset_delays, offset_doubles, offset_lengths, offset_rates, offset_starts}
use Rattle.fr_drift.specs.View.{DriftView}
use Rattle.fr_coverage.specs.Coverage.{first_gap}
use Rattle.fr_script.specs.View.{ScriptView, deed_of, is_arbitrary}
use Rattle.fr_coverage.specs.declared.gap.Gap.TheVariants.{Link}
use Rattle.fr_history.specs.Skew.{greatest_skew_of}
use Rattle.fr_history.specs.Next.{cycles_of, next_cycle}
use Rattle.fr_history.specs.Unfollowed.{first_unfollowed_sync_of}
use Rattle.fr_history.proofs.Computing.{on_cycles, on_told}
use Rattle.fr_lines.specs.Text.{report_of}
use Rattle.fr_worked.proofs.Computing.{on_gaps, on_reports}
use Rattle.fr_worked.proofs.Gaps.{delays_decided, doubles_decided, events_decided, joins_decided, lengths_decided, nodes_decided}
use Rattle.fr_coverage.specs.Decided.{setting_of}
use Rattle.fr_worked.specs.Working.{alone_cycle, alone_cycles}
use Rattle.fr_worked.specs.Offset.{offset_cycle_0, offset_cycle_1, offset_cycle_2, offset_drift}
use Rattle.fr_worked.specs.Lost.{flipped_cycle_3, flipped_history, flipped_report, flipped_run, lost_cycle_3, lost_history, lost_on_one_cycle_0, lost_on_one_cycle_1, lost_on_one_cycle_2, lost_on_one_cycle_3, lost_on_one_history, lost_on_one_report, lost_on_one_run, lost_report, lost_run, hit_by, hit_script, lost_script, flipped_script}

lost_0_is : next_cycle lost_run [] ≡ alone_cycle offset_cycle_0
unfolding on_cycles
lost_0_is = refl

lost_1_is : next_cycle lost_run (alone_cycles (offset_cycle_0 ∷ [])) ≡ alone_cycle offset_cycle_1
unfolding on_cycles
lost_1_is = refl

lost_2_is : next_cycle lost_run (alone_cycles (offset_cycle_1 ∷ offset_cycle_0 ∷ [])) ≡ alone_cycle offset_cycle_2
unfolding on_cycles
lost_2_is = refl

lost_3_is : next_cycle lost_run (alone_cycles (offset_cycle_2 ∷ offset_cycle_1 ∷ offset_cycle_0 ∷ [])) ≡ alone_cycle lost_cycle_3
unfolding on_cycles
lost_3_is = refl

pub lost_cycles_are : cycles_of lost_run 4 ≡ alone_cycles lost_history
unfolding cycles_of
lost_cycles_are = Prim.rw (lost_0_is, lost_1_is, lost_2_is, lost_3_is) refl

pub lost_skew_is : greatest_skew_of lost_run.params lost_history ≡ Some (record { skew = pos 2_500_000; cycle = 0; macrotick = 0 })
unfolding on_told
lost_skew_is = refl

pub lost_sync_is : first_unfollowed_sync_of lost_run.params (alone_cycles lost_history) ≡ Some 0
unfolding on_told
lost_sync_is = refl

pub lost_report_is : report_of lost_run (Some (Link 1 2 1)) (alone_cycles lost_history) ≡ lost_report
unfolding on_reports
lost_report_is = refl

pub lost_gap_is : (d : DriftView) (s : ScriptView) → setting_of lost_run.params d s ≡ lost_run → first_gap lost_run.params d s ≡ Some (Link 1 2 1)
unfolding on_gaps
lost_gap_is d s same =
    Prim.simp (
      doubles_decided lost_run.params d s lost_run same,
      nodes_decided lost_run.params d s lost_run same,
      joins_decided lost_run.params d s lost_run same,
      lengths_decided lost_run.params d s lost_run same,
      delays_decided lost_run.params d s lost_run same,
      events_decided lost_run.params d s lost_run same,
    ) refl

flipped_0_is : next_cycle flipped_run [] ≡ alone_cycle offset_cycle_0
unfolding on_cycles
flipped_0_is = refl

flipped_1_is : next_cycle flipped_run (alone_cycles (offset_cycle_0 ∷ [])) ≡ alone_cycle offset_cycle_1
unfolding on_cycles
flipped_1_is = refl

flipped_2_is : next_cycle flipped_run (alone_cycles (offset_cycle_1 ∷ offset_cycle_0 ∷ [])) ≡ alone_cycle offset_cycle_2
unfolding on_cycles
flipped_2_is = refl

flipped_3_is : next_cycle flipped_run (alone_cycles (offset_cycle_2 ∷ offset_cycle_1 ∷ offset_cycle_0 ∷ [])) ≡ alone_cycle flipped_cycle_3
unfolding on_cycles
flipped_3_is = refl

pub flipped_cycles_are : cycles_of flipped_run 4 ≡ alone_cycles flipped_history
unfolding cycles_of
flipped_cycles_are = Prim.rw (flipped_0_is, flipped_1_is, flipped_2_is, flipped_3_is) refl

pub flipped_skew_is : greatest_skew_of flipped_run.params flipped_history ≡ Some (record { skew = pos 2_500_000; cycle = 0; macrotick = 0 })
unfolding on_told
flipped_skew_is = refl

pub flipped_sync_is : first_unfollowed_sync_of flipped_run.params (alone_cycles flipped_history) ≡ Some 0
unfolding on_told
flipped_sync_is = refl

pub flipped_report_is : report_of flipped_run (Some (Link 1 2 1)) (alone_cycles flipped_history) ≡ flipped_report
unfolding on_reports
flipped_report_is = refl

pub flipped_gap_is : (d : DriftView) (s : ScriptView) → setting_of flipped_run.params d s ≡ flipped_run → first_gap flipped_run.params d s ≡ Some (Link 1 2 1)
unfolding on_gaps
flipped_gap_is d s same =
    Prim.simp (
      doubles_decided flipped_run.params d s flipped_run same,
      nodes_decided flipped_run.params d s flipped_run same,
      joins_decided flipped_run.params d s flipped_run same,
      lengths_decided flipped_run.params d s flipped_run same,
      delays_decided flipped_run.params d s flipped_run same,
      events_decided flipped_run.params d s flipped_run same,
    ) refl

lost_on_one_0_is : next_cycle lost_on_one_run [] ≡ alone_cycle lost_on_one_cycle_0
unfolding on_cycles
lost_on_one_0_is = refl

lost_on_one_1_is : next_cycle lost_on_one_run (alone_cycles (lost_on_one_cycle_0 ∷ [])) ≡ alone_cycle lost_on_one_cycle_1
unfolding on_cycles
lost_on_one_1_is = refl

lost_on_one_2_is : next_cycle lost_on_one_run (alone_cycles (lost_on_one_cycle_1 ∷ lost_on_one_cycle_0 ∷ [])) ≡ alone_cycle lost_on_one_cycle_2
unfolding on_cycles
lost_on_one_2_is = refl

lost_on_one_3_is : next_cycle lost_on_one_run (alone_cycles (lost_on_one_cycle_2 ∷ lost_on_one_cycle_1 ∷ lost_on_one_cycle_0 ∷ [])) ≡ alone_cycle lost_on_one_cycle_3
unfolding on_cycles
lost_on_one_3_is = refl

pub lost_on_one_cycles_are : cycles_of lost_on_one_run 4 ≡ alone_cycles lost_on_one_history
unfolding cycles_of
lost_on_one_cycles_are = Prim.rw (lost_on_one_0_is, lost_on_one_1_is, lost_on_one_2_is, lost_on_one_3_is) refl

pub lost_on_one_skew_is : greatest_skew_of lost_on_one_run.params lost_on_one_history ≡ Some (record { skew = pos 2_500_000; cycle = 0; macrotick = 0 })
unfolding on_told
lost_on_one_skew_is = refl

pub lost_on_one_sync_is : first_unfollowed_sync_of lost_on_one_run.params (alone_cycles lost_on_one_history) ≡ Some 0
unfolding on_told
lost_on_one_sync_is = refl

pub lost_on_one_report_is : report_of lost_on_one_run None (alone_cycles lost_on_one_history) ≡ lost_on_one_report
unfolding on_reports
lost_on_one_report_is = refl

pub lost_on_one_gap_is : (d : DriftView) (s : ScriptView) → setting_of lost_on_one_run.params d s ≡ lost_on_one_run → first_gap lost_on_one_run.params d s ≡ None
unfolding on_gaps
lost_on_one_gap_is d s same =
    Prim.simp (
      doubles_decided lost_on_one_run.params d s lost_on_one_run same,
      nodes_decided lost_on_one_run.params d s lost_on_one_run same,
      joins_decided lost_on_one_run.params d s lost_on_one_run same,
      lengths_decided lost_on_one_run.params d s lost_on_one_run same,
      delays_decided lost_on_one_run.params d s lost_on_one_run same,
      events_decided lost_on_one_run.params d s lost_on_one_run same,
    ) refl

-- ---- what the scripts answer

hit_nodes : (hit : Deed) (node : ℕ) → is_arbitrary (hit_script hit) node ≡ false
unfolding is_arbitrary
hit_nodes hit node = none_marked 65 node

hit_on_a :
    (hit : Deed) (cycle sender receiver : ℕ)
    → deed_of (hit_script hit) cycle sender receiver A ≡ cond ((sender == 1) && ((receiver == 2) && (cycle == 3))) (Some hit) None
unfolding deed_of deed_in
hit_on_a hit cycle sender receiver i = cond (passage_is (passage_of sender receiver cycle) (passage_of 1 2 3) i) (Some hit) None

hit_on_b : (hit : Deed) (cycle sender receiver : ℕ) → deed_of (hit_script hit) cycle sender receiver B ≡ None
unfolding deed_of
hit_on_b hit cycle sender receiver = no_row (passage_of sender receiver cycle)

hit_events :
    (hit : Deed) (event : Event) → done_by (Some hit) ≡ event
    → (cycle sender receiver : ℕ) (channel : Channel) → event_of (hit_script hit) cycle sender receiver channel ≡ hit_by event cycle sender receiver channel
hit_events hit event does cycle sender receiver A =
    event_is (hit_script hit) cycle sender receiver A false (cond ((sender == 1) && ((receiver == 2) && (cycle == 3))) (Some hit) None)
    (hit_nodes hit sender) (hit_on_a hit cycle sender receiver)
    ∙ by (sender == 1) (receiver == 2) (cycle == 3)
  where
    by : (from_1 to_2 in_3 : Bool) → done_by (cond (from_1 && (to_2 && in_3)) (Some hit) None) ≡ (if in_3 && from_1 && to_2 then event else Regular)
    by true true true = does
    by true true false = refl
    by true false true = refl
    by true false false = refl
    by false to_2 true = refl
    by false to_2 false = refl
hit_events hit event does cycle sender receiver B =
    event_is (hit_script hit) cycle sender receiver B false None (hit_nodes hit sender) (hit_on_b hit cycle sender receiver)
    ∙ by ((cycle == 3) && (sender == 1) && (receiver == 2))
  where
    by : (test : Bool) → Regular ≡ (if test then Regular else Regular)
    by true = refl
    by false = refl

pub lost_files_are : setting_of lost_run.params offset_drift lost_script ≡ lost_run
lost_files_are = decided offset_drift lost_script lost_run (record {
  doubles = offset_doubles;
  starts = offset_starts;
  rates = offset_rates;
  lengths = offset_lengths;
  delays = offset_delays;
  nodes = hit_nodes deed.Lose;
  events = hit_events deed.Lose Silent refl;
  joins = plain_joins lost_script refl;
})

pub flipped_files_are : setting_of flipped_run.params offset_drift flipped_script ≡ flipped_run
flipped_files_are = decided offset_drift flipped_script flipped_run (record {
  doubles = offset_doubles;
  starts = offset_starts;
  rates = offset_rates;
  lengths = offset_lengths;
  delays = offset_delays;
  nodes = hit_nodes (deed.Flip 0);
  events = hit_events (deed.Flip 0) (Flip 0) refl;
  joins = plain_joins flipped_script refl;
})

pub lost_on_one_files_are : setting_of lost_on_one_run.params offset_drift lost_script ≡ lost_on_one_run
lost_on_one_files_are = decided offset_drift lost_script lost_on_one_run (record {
  doubles = offset_doubles;
  starts = offset_starts;
  rates = offset_rates;
  lengths = offset_lengths;
  delays = offset_delays;
  nodes = hit_nodes deed.Lose;
  events = hit_events deed.Lose Silent refl;
  joins = plain_joins lost_script refl;
})
