-- The run with an arbitrary node that says nothing, cycle by cycle.
use Rattle.std.proofs.Common.{◌≡◌, [], ◌∷◌, Some, pos, refl, ℕ, zero, suc, true, false, Bool, ◌==◌, sym, ◌∙◌, arith, if◌then◌else◌, None}
use Rattle.std.proofs.lemmas.Bool.Decides.{nat_tests}
use Rattle.fr_base.specs.Event.Event.{Regular, Silent}
use Rattle.fr_base.specs.declared.channel.Channel.{Channel}
use Rattle.fr_base.specs.declared.channel.Channel.TheVariants.{A, B}
use Rattle.fr_script.specs.Deeds.{deed_in}
use Rattle.fr_script.specs.Events.{event_by, event_of}
use Rattle.fr_worked.proofs.Decided.{decided, event_is, none_marked, plain_joins, steady_delays, steady_doubles, steady_lengths, steady_rates, steady_starts}
use Rattle.fr_drift.specs.View.{DriftView}
use Rattle.fr_coverage.specs.Coverage.{first_gap}
use Rattle.fr_script.specs.View.{ScriptView, deed_of, is_arbitrary}
use Rattle.fr_coverage.specs.declared.gap.Gap.TheVariants.{Count}
use Rattle.fr_history.specs.Skew.{greatest_skew_of}
use Rattle.fr_history.specs.Next.{cycles_of, next_cycle}
use Rattle.fr_history.specs.Unfollowed.{first_unfollowed_sync_of}
use Rattle.fr_history.proofs.Computing.{on_cycles, on_told}
use Rattle.fr_lines.specs.Text.{report_of}
use Rattle.fr_worked.proofs.Computing.{on_gaps, on_reports}
use Rattle.fr_worked.proofs.Gaps.{doubles_decided, joins_decided, nodes_decided}
use Rattle.fr_worked.specs.Files.{steady_drift}
use Rattle.fr_coverage.specs.Decided.{setting_of}
use Rattle.fr_worked.specs.Working.{alone_cycle, alone_cycles}
use Rattle.fr_worked.specs.Quiet.{quiet_cycle_0, quiet_cycle_1, quiet_history, quiet_report, quiet_run, quiet_script}

cycle_0_is : next_cycle quiet_run [] ≡ alone_cycle quiet_cycle_0
unfolding on_cycles
cycle_0_is = refl

cycle_1_is : next_cycle quiet_run (alone_cycles (quiet_cycle_0 ∷ [])) ≡ alone_cycle quiet_cycle_1
unfolding on_cycles
cycle_1_is = refl

pub quiet_cycles_are : cycles_of quiet_run 2 ≡ alone_cycles quiet_history
unfolding cycles_of
quiet_cycles_are = Prim.rw (cycle_0_is, cycle_1_is) refl

pub quiet_skew_is : greatest_skew_of quiet_run.params quiet_history ≡ Some (record { skew = pos 0; cycle = 0; macrotick = 0 })
unfolding on_told
quiet_skew_is = refl

pub quiet_sync_is : first_unfollowed_sync_of quiet_run.params (alone_cycles quiet_history) ≡ Some 0
unfolding on_told
quiet_sync_is = refl

pub quiet_report_is : report_of quiet_run (Some (Count 2 1)) (alone_cycles quiet_history) ≡ quiet_report
unfolding on_reports
quiet_report_is = refl

pub quiet_gap_is : (d : DriftView) (s : ScriptView) → setting_of quiet_run.params d s ≡ quiet_run → first_gap quiet_run.params d s ≡ Some (Count 2 1)
unfolding on_gaps
quiet_gap_is d s same =
    Prim.simp (
      doubles_decided quiet_run.params d s quiet_run same,
      nodes_decided quiet_run.params d s quiet_run same,
      joins_decided quiet_run.params d s quiet_run same,
    ) refl

-- what the script of the run answers
quiet_nodes : (node : ℕ) → is_arbitrary quiet_script node ≡ (node == 3)
unfolding is_arbitrary
quiet_nodes zero = refl
quiet_nodes (suc zero) = refl
quiet_nodes (suc (suc zero)) = refl
quiet_nodes (suc (suc (suc zero))) = refl
quiet_nodes (suc (suc (suc (suc node)))) =
    let other : (suc (suc (suc (suc node))) == 3) ≡ false = grind (arith, nat_tests) in none_marked 61 node ∙ sym other

quiet_deeds : (cycle sender receiver : ℕ) (channel : Channel) → deed_of quiet_script cycle sender receiver channel ≡ None
unfolding deed_of deed_in
quiet_deeds cycle sender receiver A = refl
quiet_deeds cycle sender receiver B = refl

quiet_events : (cycle sender receiver : ℕ) (channel : Channel) → event_of quiet_script cycle sender receiver channel ≡ (if sender == 3 then Silent else Regular)
quiet_events cycle sender receiver channel =
    event_is quiet_script cycle sender receiver channel (sender == 3) None (quiet_nodes sender) (quiet_deeds cycle sender receiver channel) ∙ by (sender == 3)
  where
    by : (arbitrary : Bool) → event_by arbitrary None ≡ (if arbitrary then Silent else Regular)
    by true = refl
    by false = refl

pub quiet_files_are : setting_of quiet_run.params (steady_drift 1) quiet_script ≡ quiet_run
quiet_files_are = decided (steady_drift 1) quiet_script quiet_run (record {
  doubles = steady_doubles 1;
  starts = steady_starts 1;
  rates = steady_rates 1;
  lengths = steady_lengths 1;
  delays = steady_delays 1;
  nodes = quiet_nodes;
  events = quiet_events;
  joins = plain_joins quiet_script refl;
})
