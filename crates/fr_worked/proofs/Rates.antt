-- The run of two nodes whose oscillators lie apart, cycle by cycle.
use Rattle.std.proofs.Common.{◌≡◌, [], ◌∷◌, None, Some, pos, refl, ℕ, ℤ, suc, true, false, Bool, ◌==◌, ◌&&◌, Option, ap, ◌∙◌, arith, if◌then◌else◌}
use Rattle.std.specs.Prelude.{cond, unwrap_or}
use Rattle.std.proofs.lemmas.Bool.Decides.{nat_tests}
use Rattle.fr_base.specs.declared.channel.Channel.{Channel}
use Rattle.fr_drift.specs.Keys.{length_key}
use Rattle.fr_drift.specs.Questions.{delay_of, doubles_of, length_of, rate_of, start_of}
use Rattle.fr_worked.proofs.Decided.{decided, held_first, length_is, plain_events, plain_joins, plain_nodes, steady_delays, steady_rates, steady_starts}
use Rattle.fr_drift.specs.View.{DriftView, length_rows}
use Rattle.fr_coverage.specs.Coverage.{first_gap}
use Rattle.fr_script.specs.View.{ScriptView}
use Rattle.fr_history.specs.Skew.{greatest_skew_of}
use Rattle.fr_history.specs.Next.{cycles_of, next_cycle}
use Rattle.fr_history.specs.Unfollowed.{first_unfollowed_sync_of}
use Rattle.fr_history.proofs.Computing.{on_cycles, on_told}
use Rattle.fr_lines.specs.Text.{report_of}
use Rattle.fr_worked.proofs.Computing.{on_gaps, on_reports}
use Rattle.fr_worked.proofs.Gaps.{delays_decided, doubles_decided, events_decided, joins_decided, lengths_decided, nodes_decided}
use Rattle.fr_worked.specs.Files.{plain_script}
use Rattle.fr_coverage.specs.Decided.{setting_of}
use Rattle.fr_worked.specs.Working.{alone_cycle, alone_cycles}
use Rattle.fr_worked.specs.Rates.{rates_cycle_0, rates_cycle_1, rates_cycle_2, rates_cycle_3, rates_history, rates_report, rates_run, rates_drift}

cycle_0_is : next_cycle rates_run [] ≡ alone_cycle rates_cycle_0
unfolding on_cycles
cycle_0_is = refl

cycle_1_is : next_cycle rates_run (alone_cycles (rates_cycle_0 ∷ [])) ≡ alone_cycle rates_cycle_1
unfolding on_cycles
cycle_1_is = refl

cycle_2_is : next_cycle rates_run (alone_cycles (rates_cycle_1 ∷ rates_cycle_0 ∷ [])) ≡ alone_cycle rates_cycle_2
unfolding on_cycles
cycle_2_is = refl

cycle_3_is : next_cycle rates_run (alone_cycles (rates_cycle_2 ∷ rates_cycle_1 ∷ rates_cycle_0 ∷ [])) ≡ alone_cycle rates_cycle_3
unfolding on_cycles
cycle_3_is = refl

pub rates_cycles_are : cycles_of rates_run 4 ≡ alone_cycles rates_history
unfolding cycles_of
rates_cycles_are = Prim.rw (cycle_0_is, cycle_1_is, cycle_2_is, cycle_3_is) refl

pub rates_skew_is : greatest_skew_of rates_run.params rates_history ≡ Some (record { skew = pos 79_200_000; cycle = 1; macrotick = 4_900 })
unfolding on_told
rates_skew_is = refl

pub rates_sync_is : first_unfollowed_sync_of rates_run.params (alone_cycles rates_history) ≡ Some 1
unfolding on_told
rates_sync_is = refl

pub rates_report_is : report_of rates_run None (alone_cycles rates_history) ≡ rates_report
unfolding on_reports
rates_report_is = refl

pub rates_gap_is : (d : DriftView) (s : ScriptView) → setting_of rates_run.params d s ≡ rates_run → first_gap rates_run.params d s ≡ None
unfolding on_gaps
rates_gap_is d s same =
    Prim.simp (
      doubles_decided rates_run.params d s rates_run same,
      nodes_decided rates_run.params d s rates_run same,
      joins_decided rates_run.params d s rates_run same,
      lengths_decided rates_run.params d s rates_run same,
      delays_decided rates_run.params d s rates_run same,
      events_decided rates_run.params d s rates_run same,
    ) refl

-- the row of a node, by whether it is node 1 or node 2, and whether the row asked for is that of cycle 0
abbrev row_of : (is_1 is_2 zeroth : Bool) → Option ℤ
row_of is_1 is_2 zeroth = cond (is_1 && zeroth) (Some (pos 1_000_100)) (cond (is_2 && zeroth) (Some (pos 999_900)) None)

rows_are : (node from : ℕ) → length_rows rates_drift node from ≡ row_of (node == 1) (node == 2) (from == 0)
rows_are node from i =
    cond (length_is (length_key node from) (length_key 1 0) i) (Some (pos 1_000_100))
    (cond (length_is (length_key node from) (length_key 2 0) i) (Some (pos 999_900)) None)

none_later : (node cycle : ℕ) → length_rows rates_drift node (suc cycle) ≡ None
none_later node cycle =
    let later : (suc cycle == 0) ≡ false = grind (arith, nat_tests) in
    rows_are node (suc cycle) ∙ ap (λ (b : Bool). row_of (node == 1) (node == 2) b) later ∙ by (node == 1) (node == 2)
  where
    by : (is_1 is_2 : Bool) → row_of is_1 is_2 false ≡ None
    by true true = refl
    by true false = refl
    by false true = refl
    by false false = refl

-- what the drift file of the run answers
rates_doubles : doubles_of rates_drift ≡ 2
unfolding doubles_of
rates_doubles = refl

rates_starts : (node : ℕ) → start_of rates_drift node ≡ pos 0
unfolding start_of
rates_starts node = steady_starts 2 node

rates_rates : (node : ℕ) → rate_of rates_drift node ≡ pos 0
unfolding rate_of
rates_rates node = steady_rates 2 node

rates_lengths : (node cycle : ℕ) → length_of rates_drift node cycle ≡ (if node == 1 then pos 1_000_100 else if node == 2 then pos 999_900 else pos 1_000_000)
unfolding length_of
rates_lengths node cycle =
    ap (λ (o : Option ℤ). unwrap_or o (pos 1_000_000)) (held_first (length_rows rates_drift node) (none_later node) cycle ∙ rows_are node 0)
    ∙ by (node == 1) (node == 2)
  where
    by : (is_1 is_2 : Bool) → unwrap_or (row_of is_1 is_2 true) (pos 1_000_000) ≡ (if is_1 then pos 1_000_100 else if is_2 then pos 999_900 else pos 1_000_000)
    by true is_2 = refl
    by false true = refl
    by false false = refl

rates_delays : (sender receiver : ℕ) (channel : Channel) (cycle : ℕ) → delay_of rates_drift sender receiver channel cycle ≡ pos 0
unfolding delay_of
rates_delays sender receiver channel cycle = steady_delays 2 sender receiver channel cycle

pub rates_files_are : setting_of rates_run.params rates_drift plain_script ≡ rates_run
rates_files_are = decided rates_drift plain_script rates_run (record {
  doubles = rates_doubles;
  starts = rates_starts;
  rates = rates_rates;
  lengths = rates_lengths;
  delays = rates_delays;
  nodes = plain_nodes;
  events = plain_events;
  joins = plain_joins plain_script refl;
})
