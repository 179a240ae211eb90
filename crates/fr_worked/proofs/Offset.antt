-- The run of two nodes with an offset, cycle by cycle.
use Rattle.std.proofs.Common.{◌≡◌, ℕ, ◌==◌, Bool, true, false, Option, [], ◌∷◌, None, Some, pos, ap, ◌∙◌, refl, if◌then◌else◌}
use Rattle.std.specs.Option.{option_map_or}
use Rattle.std.specs.Prelude.{cond}
use Rattle.fr_base.specs.declared.channel.Channel.{Channel}
use Rattle.fr_drift.specs.Questions.{delay_of, doubles_of, length_of, rate_of, start_of}
use Rattle.fr_drift.specs.View.{DriftView}
use Rattle.fr_drift.specs.declared.rows.Start.{Start}
use Rattle.fr_coverage.specs.Coverage.{first_gap}
use Rattle.fr_script.specs.View.{ScriptView}
use Rattle.fr_history.specs.Skew.{greatest_skew_of}
use Rattle.fr_history.specs.Next.{cycles_of, next_cycle}
use Rattle.fr_history.specs.Unfollowed.{first_unfollowed_sync_of}
use Rattle.fr_history.proofs.Computing.{on_cycles, on_told}
use Rattle.fr_lines.specs.Text.{report_of}
use Rattle.fr_worked.proofs.Computing.{on_gaps, on_reports}
use Rattle.fr_worked.proofs.Decided.{decided, one_start, plain_events, plain_joins, plain_nodes, steady_delays, steady_lengths}
use Rattle.fr_worked.proofs.Gaps.{delays_decided, doubles_decided, events_decided, joins_decided, lengths_decided, nodes_decided}
use Rattle.fr_worked.specs.Files.{plain_script}
use Rattle.fr_coverage.specs.Decided.{setting_of}
use Rattle.fr_worked.specs.Working.{alone_cycle, alone_cycles}
use Rattle.fr_worked.specs.Offset.{offset_cycle_0, offset_cycle_1, offset_cycle_2, offset_cycle_3, offset_drift, offset_history, offset_report, offset_run}

cycle_0_is : next_cycle offset_run [] ≡ alone_cycle offset_cycle_0
unfolding on_cycles
cycle_0_is = refl

cycle_1_is : next_cycle offset_run (alone_cycles (offset_cycle_0 ∷ [])) ≡ alone_cycle offset_cycle_1
unfolding on_cycles
cycle_1_is = refl

cycle_2_is : next_cycle offset_run (alone_cycles (offset_cycle_1 ∷ offset_cycle_0 ∷ [])) ≡ alone_cycle offset_cycle_2
unfolding on_cycles
cycle_2_is = refl

cycle_3_is : next_cycle offset_run (alone_cycles (offset_cycle_2 ∷ offset_cycle_1 ∷ offset_cycle_0 ∷ [])) ≡ alone_cycle offset_cycle_3
unfolding on_cycles
cycle_3_is = refl

pub offset_cycles_are : cycles_of offset_run 4 ≡ alone_cycles offset_history
unfolding cycles_of
offset_cycles_are = Prim.rw (cycle_0_is, cycle_1_is, cycle_2_is, cycle_3_is) refl

pub offset_skew_is : greatest_skew_of offset_run.params offset_history ≡ Some (record { skew = pos 2_500_000; cycle = 0; macrotick = 0 })
unfolding on_told
offset_skew_is = refl

pub offset_sync_is : first_unfollowed_sync_of offset_run.params (alone_cycles offset_history) ≡ Some 0
unfolding on_told
offset_sync_is = refl

pub offset_report_is : report_of offset_run None (alone_cycles offset_history) ≡ offset_report
unfolding on_reports
offset_report_is = refl

pub offset_gap_is : (d : DriftView) (s : ScriptView) → setting_of offset_run.params d s ≡ offset_run → first_gap offset_run.params d s ≡ None
unfolding on_gaps
offset_gap_is d s same =
    Prim.simp (
      doubles_decided offset_run.params d s offset_run same,
      nodes_decided offset_run.params d s offset_run same,
      joins_decided offset_run.params d s offset_run same,
      lengths_decided offset_run.params d s offset_run same,
      delays_decided offset_run.params d s offset_run same,
      events_decided offset_run.params d s offset_run same,
    ) refl

-- the start of node 2, and the row of a node that is node 2 or not
abbrev later : Start
later = record { ticks = pos 2_500_000; rate = pos 0 }

abbrev start_row : Bool → Option Start
start_row there = cond there (Some later) None

-- what the drift file of the run answers
pub offset_doubles : doubles_of offset_drift ≡ 2
unfolding doubles_of
offset_doubles = refl

pub offset_starts : (node : ℕ) → start_of offset_drift node ≡ (if node == 2 then pos 2_500_000 else pos 0)
unfolding start_of
offset_starts node =
    ap (λ (o : Option Start). option_map_or (λ (s : Start). s.ticks) o (pos 0)) (one_start node 2 later)
    ∙ by (node == 2)
  where
    by : (there : Bool) → option_map_or (λ (s : Start). s.ticks) (start_row there) (pos 0) ≡ (if there then pos 2_500_000 else pos 0)
    by true = refl
    by false = refl

pub offset_rates : (node : ℕ) → rate_of offset_drift node ≡ pos 0
unfolding rate_of
offset_rates node =
    ap (λ (o : Option Start). option_map_or (λ (s : Start). s.rate) o (pos 0)) (one_start node 2 later)
    ∙ by (node == 2)
  where
    by : (there : Bool) → option_map_or (λ (s : Start). s.rate) (start_row there) (pos 0) ≡ pos 0
    by true = refl
    by false = refl

pub offset_lengths : (node cycle : ℕ) → length_of offset_drift node cycle ≡ pos 1_000_000
unfolding length_of
offset_lengths node cycle = steady_lengths 2 node cycle

pub offset_delays : (sender receiver : ℕ) (channel : Channel) (cycle : ℕ) → delay_of offset_drift sender receiver channel cycle ≡ pos 0
unfolding delay_of
offset_delays sender receiver channel cycle = steady_delays 2 sender receiver channel cycle

pub offset_files_are : setting_of offset_run.params offset_drift plain_script ≡ offset_run
offset_files_are = decided offset_drift plain_script offset_run (record {
  doubles = offset_doubles;
  starts = offset_starts;
  rates = offset_rates;
  lengths = offset_lengths;
  delays = offset_delays;
  nodes = plain_nodes;
  events = plain_events;
  joins = plain_joins plain_script refl;
})
