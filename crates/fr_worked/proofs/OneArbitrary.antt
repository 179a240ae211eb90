-- The run with one arbitrary node, cycle by cycle.
use Rattle.std.proofs.Common.{◌≡◌, [], ◌∷◌, None, Some, pos, refl, ℕ, zero, suc, negsuc, true, false, Bool, ◌==◌, nat_lt, ◌&&◌, ◌||◌, Option, sym, ap, ◌∙◌, arith, if◌then◌else◌}
use Rattle.std.specs.Prelude.{cond}
use Rattle.std.proofs.lemmas.Bool.Decides.{nat_tests}
use Rattle.fr_base.specs.Event.{Event}
use Rattle.fr_base.specs.Event as event
use Rattle.fr_base.specs.declared.channel.Channel.{Channel}
use Rattle.fr_base.specs.declared.channel.Channel.TheVariants.{A, B}
use Rattle.fr_script.specs.Deeds.{passage_of}
use Rattle.fr_script.specs.Events.{event_by, event_of}
use Rattle.fr_script.specs.declared.deed.Deed.{Deed}
use Rattle.fr_script.specs.declared.deed.Deed.TheVariants as deed
use Rattle.fr_worked.proofs.Decided.{decided, event_is, no_row, none_marked, plain_joins, rows_say, steady_delays, steady_doubles, steady_lengths, steady_rates, steady_starts}
use Rattle.fr_drift.specs.View.{DriftView}
use Rattle.fr_coverage.specs.Coverage.{first_gap}
use Rattle.fr_script.specs.View.{ScriptView, deed_of, is_arbitrary}
use Rattle.fr_history.specs.Skew.{greatest_skew_of}
use Rattle.fr_history.specs.Next.{cycles_of, next_cycle}
use Rattle.fr_history.specs.Unfollowed.{first_unfollowed_sync_of}
use Rattle.fr_history.proofs.Computing.{on_cycles, on_told}
use Rattle.fr_lines.specs.Text.{report_of}
use Rattle.fr_worked.proofs.Computing.{on_gaps, on_reports}
use Rattle.fr_worked.proofs.Gaps.{delays_decided, doubles_decided, events_decided, joins_decided, lengths_decided, nodes_decided}
use Rattle.fr_worked.specs.Files.{said_first, says_to, steady_drift}
use Rattle.fr_coverage.specs.Decided.{setting_of}
use Rattle.fr_worked.specs.Working.{alone_cycle, alone_cycles}
use Rattle.fr_worked.specs.OneArbitrary.{one_arbitrary_cycle_0, one_arbitrary_cycle_1, one_arbitrary_history, one_arbitrary_report, one_arbitrary_run, one_arbitrary_script, said_to}

cycle_0_is : next_cycle one_arbitrary_run [] ≡ alone_cycle one_arbitrary_cycle_0
unfolding on_cycles
cycle_0_is = refl

cycle_1_is : next_cycle one_arbitrary_run (alone_cycles (one_arbitrary_cycle_0 ∷ [])) ≡ alone_cycle one_arbitrary_cycle_1
unfolding on_cycles
cycle_1_is = refl

pub one_arbitrary_cycles_are : cycles_of one_arbitrary_run 2 ≡ alone_cycles one_arbitrary_history
unfolding cycles_of
one_arbitrary_cycles_are = Prim.rw (cycle_0_is, cycle_1_is) refl

pub one_arbitrary_skew_is : greatest_skew_of one_arbitrary_run.params one_arbitrary_history ≡ Some (record { skew = pos 0; cycle = 0; macrotick = 0 })
unfolding on_told
one_arbitrary_skew_is = refl

pub one_arbitrary_sync_is : first_unfollowed_sync_of one_arbitrary_run.params (alone_cycles one_arbitrary_history) ≡ Some 0
unfolding on_told
one_arbitrary_sync_is = refl

pub one_arbitrary_report_is : report_of one_arbitrary_run None (alone_cycles one_arbitrary_history) ≡ one_arbitrary_report
unfolding on_reports
one_arbitrary_report_is = refl

pub one_arbitrary_gap_is : (d : DriftView) (s : ScriptView) → setting_of one_arbitrary_run.params d s ≡ one_arbitrary_run → first_gap one_arbitrary_run.params d s ≡ None
unfolding on_gaps
one_arbitrary_gap_is d s same =
    Prim.simp (
      doubles_decided one_arbitrary_run.params d s one_arbitrary_run same,
      nodes_decided one_arbitrary_run.params d s one_arbitrary_run same,
      joins_decided one_arbitrary_run.params d s one_arbitrary_run same,
      lengths_decided one_arbitrary_run.params d s one_arbitrary_run same,
      delays_decided one_arbitrary_run.params d s one_arbitrary_run same,
      events_decided one_arbitrary_run.params d s one_arbitrary_run same,
    ) refl

-- what the script of the run answers
one_arbitrary_nodes : (node : ℕ) → is_arbitrary one_arbitrary_script node ≡ (node == 4)
unfolding is_arbitrary
one_arbitrary_nodes zero = refl
one_arbitrary_nodes (suc zero) = refl
one_arbitrary_nodes (suc (suc zero)) = refl
one_arbitrary_nodes (suc (suc (suc zero))) = refl
one_arbitrary_nodes (suc (suc (suc (suc zero)))) = refl
one_arbitrary_nodes (suc (suc (suc (suc (suc node))))) =
    let other : (suc (suc (suc (suc (suc node)))) == 4) ≡ false = grind (arith, nat_tests) in none_marked 60 node ∙ sym other

-- what node 4 says, by whether it is the sender, the receiver is node 1 or node 2, and the cycle is one of the first two
abbrev said : (by to_1 to_2 first : Bool) → Option Deed
said by to_1 to_2 first =
    cond (by && ((to_1 || false) && first)) (Some (deed.Say (pos 100_000_000) None))
    (cond (by && ((to_2 || false) && first)) (Some (deed.Say (negsuc 99_999_999) None)) None)

one_arbitrary_deeds : (cycle sender receiver : ℕ) → deed_of one_arbitrary_script cycle sender receiver A ≡ said (sender == 4) (receiver == 1) (receiver == 2) (nat_lt cycle 2)
unfolding deed_of
one_arbitrary_deeds cycle sender receiver =
    rows_say 4 (pos 100_000_000) (1 ∷ []) (says_to 4 (negsuc 99_999_999) (2 ∷ [])) cycle sender receiver
    ∙ ap
    (λ (o : Option Deed). cond ((sender == 4) && (((receiver == 1) || false) && nat_lt cycle 2)) (Some (deed.Say (pos 100_000_000) None)) o)
    (rows_say 4 (negsuc 99_999_999) (2 ∷ []) [] cycle sender receiver ∙ ap (λ (o : Option Deed). cond ((sender == 4) && (((receiver == 2) || false) && nat_lt cycle 2)) (Some (deed.Say (negsuc 99_999_999) None)) o) (no_row (passage_of sender receiver cycle)))

silent_on_b : (cycle sender receiver : ℕ) → deed_of one_arbitrary_script cycle sender receiver B ≡ None
unfolding deed_of
silent_on_b cycle sender receiver = no_row (passage_of sender receiver cycle)

one_arbitrary_events :
    (cycle sender receiver : ℕ) (channel : Channel)
    → event_of one_arbitrary_script cycle sender receiver channel ≡ (if sender == 4 then said_first (said_to receiver) cycle channel else event.Regular)
one_arbitrary_events cycle sender receiver A =
    event_is one_arbitrary_script cycle sender receiver A (sender == 4) (said (sender == 4) (receiver == 1) (receiver == 2) (nat_lt cycle 2))
    (one_arbitrary_nodes sender) (one_arbitrary_deeds cycle sender receiver)
    ∙ on_channel_a (sender == 4) (receiver == 1) (receiver == 2) (nat_lt cycle 2)
  where
    on_channel_a :
        (by to_1 to_2 first : Bool)
        → event_by by (said by to_1 to_2 first)
        ≡ (if by then (if first then (if to_1 then event.Say (pos 100_000_000) None else if to_2 then event.Say (negsuc 99_999_999) None else event.Silent) else event.Silent) else event.Regular)
    on_channel_a false to_1 to_2 first = refl
    on_channel_a true true true true = refl
    on_channel_a true true true false = refl
    on_channel_a true true false true = refl
    on_channel_a true true false false = refl
    on_channel_a true false true true = refl
    on_channel_a true false true false = refl
    on_channel_a true false false true = refl
    on_channel_a true false false false = refl
one_arbitrary_events cycle sender receiver B =
    event_is one_arbitrary_script cycle sender receiver B (sender == 4) None (one_arbitrary_nodes sender) (silent_on_b cycle sender receiver)
    ∙ on_channel_b (sender == 4) (nat_lt cycle 2)
  where
    on_channel_b : (by first : Bool) → event_by by None ≡ (if by then (if first then event.Silent else event.Silent) else event.Regular)
    on_channel_b false first = refl
    on_channel_b true true = refl
    on_channel_b true false = refl

pub one_arbitrary_files_are : setting_of one_arbitrary_run.params (steady_drift 1) one_arbitrary_script ≡ one_arbitrary_run
one_arbitrary_files_are = decided (steady_drift 1) one_arbitrary_script one_arbitrary_run (record {
  doubles = steady_doubles 1;
  starts = steady_starts 1;
  rates = steady_rates 1;
  lengths = steady_lengths 1;
  delays = steady_delays 1;
  nodes = one_arbitrary_nodes;
  events = one_arbitrary_events;
  joins = plain_joins one_arbitrary_script refl;
})
