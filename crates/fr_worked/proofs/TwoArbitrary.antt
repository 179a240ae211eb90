-- The run with two arbitrary nodes, cycle by cycle.
use Rattle.std.proofs.Common.{◌≡◌, [], ◌∷◌, None, Some, pos, refl, ℕ, zero, suc, negsuc, true, false, Bool, not, ◌==◌, nat_lt, ◌&&◌, ◌||◌, List, Option, sym, ap, ◌∙◌, arith, if◌then◌else◌, ◌++◌}
use Rattle.fr_script.specs.declared.deeds.Passage.{Passage}
use Rattle.std.specs.List.{list_any}
use Rattle.std.specs.Prelude.{cond}
use Rattle.std.proofs.lemmas.Bool.Decides.{nat_tests}
use Rattle.fr_base.specs.Event.{Event}
use Rattle.fr_base.specs.Event as event
use Rattle.fr_base.specs.declared.channel.Channel.{Channel}
use Rattle.fr_base.specs.declared.channel.Channel.TheVariants.{A, B}
use Rattle.fr_script.specs.Deeds.{deed_in, passage_of}
use Rattle.fr_script.specs.Events.{event_by, event_of}
use Rattle.fr_script.specs.declared.deed.Deed.{Deed}
use Rattle.fr_script.specs.declared.deed.Deed.TheVariants as deed
use Rattle.fr_worked.proofs.Decided.{decided, event_is, no_row, none_marked, plain_joins, rows_say, steady_delays, steady_doubles, steady_lengths, steady_rates, steady_starts}
use Rattle.fr_drift.specs.View.{DriftView}
use Rattle.fr_coverage.specs.Coverage.{first_gap}
use Rattle.fr_script.specs.View.{ScriptView, deed_of, is_arbitrary}
use Rattle.fr_history.specs.Skew.{greatest_skew_of}
use Rattle.fr_history.specs.Next.{cycles_of, next_cycle}
use Rattle.fr_history.specs.Unfollowed.{first_unfollowed_sync_of}
use Rattle.fr_history.proofs.Computing.{on_cycles, on_told}
use Rattle.fr_lines.specs.Text.{report_of}
use Rattle.fr_worked.proofs.Computing.{on_gaps, on_reports}
use Rattle.fr_worked.proofs.Gaps.{delays_decided, doubles_decided, events_decided, joins_decided, lengths_decided, nodes_decided}
use Rattle.fr_worked.specs.Files.{said_first, says_to, steady_drift}
use Rattle.fr_coverage.specs.Decided.{setting_of}
use Rattle.fr_worked.specs.Working.{alone_cycle, alone_cycles}
use Rattle.fr_worked.specs.TwoArbitrary.{two_arbitrary_cycle_0, two_arbitrary_cycle_1, two_arbitrary_history, two_arbitrary_report, two_arbitrary_run, two_arbitrary_script, is_among_six, said_early_to, said_late_to}

cycle_0_is : next_cycle two_arbitrary_run [] ≡ alone_cycle two_arbitrary_cycle_0
unfolding on_cycles
cycle_0_is = refl

cycle_1_is : next_cycle two_arbitrary_run (alone_cycles (two_arbitrary_cycle_0 ∷ [])) ≡ alone_cycle two_arbitrary_cycle_1
unfolding on_cycles
cycle_1_is = refl

pub two_arbitrary_cycles_are : cycles_of two_arbitrary_run 2 ≡ alone_cycles two_arbitrary_history
unfolding cycles_of
two_arbitrary_cycles_are = Prim.rw (cycle_0_is, cycle_1_is) refl

pub two_arbitrary_skew_is : greatest_skew_of two_arbitrary_run.params two_arbitrary_history ≡ Some (record { skew = pos 0; cycle = 0; macrotick = 0 })
unfolding on_told
two_arbitrary_skew_is = refl

pub two_arbitrary_sync_is : first_unfollowed_sync_of two_arbitrary_run.params (alone_cycles two_arbitrary_history) ≡ Some 0
unfolding on_told
two_arbitrary_sync_is = refl

pub two_arbitrary_report_is : report_of two_arbitrary_run None (alone_cycles two_arbitrary_history) ≡ two_arbitrary_report
unfolding on_reports
two_arbitrary_report_is = refl

pub two_arbitrary_gap_is : (d : DriftView) (s : ScriptView) → setting_of two_arbitrary_run.params d s ≡ two_arbitrary_run → first_gap two_arbitrary_run.params d s ≡ None
unfolding on_gaps
two_arbitrary_gap_is d s same =
    Prim.simp (
      doubles_decided two_arbitrary_run.params d s two_arbitrary_run same,
      nodes_decided two_arbitrary_run.params d s two_arbitrary_run same,
      joins_decided two_arbitrary_run.params d s two_arbitrary_run same,
      lengths_decided two_arbitrary_run.params d s two_arbitrary_run same,
      delays_decided two_arbitrary_run.params d s two_arbitrary_run same,
      events_decided two_arbitrary_run.params d s two_arbitrary_run same,
    ) refl

-- what the script of the run answers
two_arbitrary_nodes : (node : ℕ) → is_arbitrary two_arbitrary_script node ≡ ((node == 7) || (node == 8))
unfolding is_arbitrary
two_arbitrary_nodes zero = refl
two_arbitrary_nodes (suc zero) = refl
two_arbitrary_nodes (suc (suc zero)) = refl
two_arbitrary_nodes (suc (suc (suc zero))) = refl
two_arbitrary_nodes (suc (suc (suc (suc zero)))) = refl
two_arbitrary_nodes (suc (suc (suc (suc (suc zero))))) = refl
two_arbitrary_nodes (suc (suc (suc (suc (suc (suc zero)))))) = refl
two_arbitrary_nodes (suc (suc (suc (suc (suc (suc (suc zero))))))) = refl
two_arbitrary_nodes (suc (suc (suc (suc (suc (suc (suc (suc zero)))))))) = refl
two_arbitrary_nodes (suc (suc (suc (suc (suc (suc (suc (suc (suc node))))))))) =
    let not_7 : ((suc (suc (suc (suc (suc (suc (suc (suc (suc node))))))))) == 7) ≡ false = grind (arith, nat_tests) in
    let not_8 : ((suc (suc (suc (suc (suc (suc (suc (suc (suc node))))))))) == 8) ≡ false = grind (arith, nat_tests) in
    none_marked 56 node ∙ (λ i. sym not_7 i || sym not_8 i)

-- the receivers of rows of node 7 and of node 8
late_listens : (receiver : ℕ) → list_any (λ r. receiver == r) (1 ∷ 2 ∷ 3 ∷ 4 ∷ 5 ∷ 6 ∷ []) ≡ is_among_six receiver
late_listens zero = refl
late_listens (suc zero) = refl
late_listens (suc (suc zero)) = refl
late_listens (suc (suc (suc zero))) = refl
late_listens (suc (suc (suc (suc zero)))) = refl
late_listens (suc (suc (suc (suc (suc zero))))) = refl
late_listens (suc (suc (suc (suc (suc (suc zero)))))) = refl
late_listens (suc (suc (suc (suc (suc (suc (suc receiver))))))) =
    let not_1 : ((suc (suc (suc (suc (suc (suc (suc receiver))))))) == 1) ≡ false = grind (arith, nat_tests) in
    let not_2 : ((suc (suc (suc (suc (suc (suc (suc receiver))))))) == 2) ≡ false = grind (arith, nat_tests) in
    let not_3 : ((suc (suc (suc (suc (suc (suc (suc receiver))))))) == 3) ≡ false = grind (arith, nat_tests) in
    let not_4 : ((suc (suc (suc (suc (suc (suc (suc receiver))))))) == 4) ≡ false = grind (arith, nat_tests) in
    let not_5 : ((suc (suc (suc (suc (suc (suc (suc receiver))))))) == 5) ≡ false = grind (arith, nat_tests) in
    let not_6 : ((suc (suc (suc (suc (suc (suc (suc receiver))))))) == 6) ≡ false = grind (arith, nat_tests) in
    let past : nat_lt (suc (suc (suc (suc (suc (suc (suc receiver))))))) 7 ≡ false = grind (arith, nat_tests) in
    let above : nat_lt 0 (suc (suc (suc (suc (suc (suc (suc receiver))))))) ≡ true = grind (arith, nat_tests) in
    (λ i. not_1 i || (not_2 i || (not_3 i || (not_4 i || (not_5 i || (not_6 i || false)))))) ∙ (λ i. sym above i && sym past i)

early_listens : (receiver : ℕ) → list_any (λ r. receiver == r) (1 ∷ 3 ∷ 4 ∷ 5 ∷ 6 ∷ []) ≡ (is_among_six receiver && not (receiver == 2))
early_listens zero = refl
early_listens (suc zero) = refl
early_listens (suc (suc zero)) = refl
early_listens (suc (suc (suc zero))) = refl
early_listens (suc (suc (suc (suc zero)))) = refl
early_listens (suc (suc (suc (suc (suc zero))))) = refl
early_listens (suc (suc (suc (suc (suc (suc zero)))))) = refl
early_listens (suc (suc (suc (suc (suc (suc (suc receiver))))))) =
    let not_1 : ((suc (suc (suc (suc (suc (suc (suc receiver))))))) == 1) ≡ false = grind (arith, nat_tests) in
    let not_3 : ((suc (suc (suc (suc (suc (suc (suc receiver))))))) == 3) ≡ false = grind (arith, nat_tests) in
    let not_4 : ((suc (suc (suc (suc (suc (suc (suc receiver))))))) == 4) ≡ false = grind (arith, nat_tests) in
    let not_5 : ((suc (suc (suc (suc (suc (suc (suc receiver))))))) == 5) ≡ false = grind (arith, nat_tests) in
    let not_6 : ((suc (suc (suc (suc (suc (suc (suc receiver))))))) == 6) ≡ false = grind (arith, nat_tests) in
    let past : nat_lt (suc (suc (suc (suc (suc (suc (suc receiver))))))) 7 ≡ false = grind (arith, nat_tests) in
    let above : nat_lt 0 (suc (suc (suc (suc (suc (suc (suc receiver))))))) ≡ true = grind (arith, nat_tests) in
    (λ i. not_1 i || (not_3 i || (not_4 i || (not_5 i || (not_6 i || false))))) ∙ (λ i. (sym above i && sym past i) && not ((suc (suc (suc (suc (suc (suc (suc receiver))))))) == 2))

-- what they say, by whether one of them is the sender, the receiver is one of the six and node 2, and the cycle is one of the
-- first two
abbrev said : (by_7 by_8 six to_2 first : Bool) → Option Deed
said by_7 by_8 six to_2 first =
    cond (by_7 && (six && first)) (Some (deed.Say (pos 100_000_000) None))
    (cond (by_8 && ((six && not to_2) && first)) (Some (deed.Say (negsuc 99_999_999) None)) None)

late_deeds :
    (rest : List (Passage × Deed)) (cycle sender receiver : ℕ)
    → deed_in (says_to 7 (pos 100_000_000) (1 ∷ 2 ∷ 3 ∷ 4 ∷ 5 ∷ 6 ∷ []) ++ rest) (passage_of sender receiver cycle)
    ≡ cond ((sender == 7) && (is_among_six receiver && nat_lt cycle 2)) (Some (deed.Say (pos 100_000_000) None)) (deed_in rest (passage_of sender receiver cycle))
late_deeds rest cycle sender receiver =
    rows_say 7 (pos 100_000_000) (1 ∷ 2 ∷ 3 ∷ 4 ∷ 5 ∷ 6 ∷ []) rest cycle sender receiver
    ∙ ap (λ (b : Bool). cond ((sender == 7) && (b && nat_lt cycle 2)) (Some (deed.Say (pos 100_000_000) None)) (deed_in rest (passage_of sender receiver cycle))) (late_listens receiver)

early_deeds :
    (rest : List (Passage × Deed)) (cycle sender receiver : ℕ)
    → deed_in (says_to 8 (negsuc 99_999_999) (1 ∷ 3 ∷ 4 ∷ 5 ∷ 6 ∷ []) ++ rest) (passage_of sender receiver cycle)
    ≡ cond ((sender == 8) && ((is_among_six receiver && not (receiver == 2)) && nat_lt cycle 2)) (Some (deed.Say (negsuc 99_999_999) None)) (deed_in rest (passage_of sender receiver cycle))
early_deeds rest cycle sender receiver =
    rows_say 8 (negsuc 99_999_999) (1 ∷ 3 ∷ 4 ∷ 5 ∷ 6 ∷ []) rest cycle sender receiver
    ∙ ap (λ (b : Bool). cond ((sender == 8) && (b && nat_lt cycle 2)) (Some (deed.Say (negsuc 99_999_999) None)) (deed_in rest (passage_of sender receiver cycle))) (early_listens receiver)

two_arbitrary_deeds :
    (cycle sender receiver : ℕ)
    → deed_of two_arbitrary_script cycle sender receiver A ≡ said (sender == 7) (sender == 8) (is_among_six receiver) (receiver == 2) (nat_lt cycle 2)
unfolding deed_of
two_arbitrary_deeds cycle sender receiver =
    late_deeds (says_to 8 (negsuc 99_999_999) (1 ∷ 3 ∷ 4 ∷ 5 ∷ 6 ∷ [])) cycle sender receiver
    ∙ ap
    (λ (o : Option Deed). cond ((sender == 7) && (is_among_six receiver && nat_lt cycle 2)) (Some (deed.Say (pos 100_000_000) None)) o)
    (early_deeds [] cycle sender receiver
    ∙ ap
    (λ (o : Option Deed). cond ((sender == 8) && ((is_among_six receiver && not (receiver == 2)) && nat_lt cycle 2)) (Some (deed.Say (negsuc 99_999_999) None)) o)
    (no_row (passage_of sender receiver cycle)))

silent_on_b : (cycle sender receiver : ℕ) → deed_of two_arbitrary_script cycle sender receiver B ≡ None
unfolding deed_of
silent_on_b cycle sender receiver = no_row (passage_of sender receiver cycle)

two_arbitrary_events :
    (cycle sender receiver : ℕ) (channel : Channel)
    → event_of two_arbitrary_script cycle sender receiver channel
    ≡ (if sender == 7 then said_first (said_late_to receiver) cycle channel else if sender == 8 then said_first (said_early_to receiver) cycle channel else event.Regular)
two_arbitrary_events cycle sender receiver A =
    event_is two_arbitrary_script cycle sender receiver A ((sender == 7) || (sender == 8))
    (said (sender == 7) (sender == 8) (is_among_six receiver) (receiver == 2) (nat_lt cycle 2))
    (two_arbitrary_nodes sender) (two_arbitrary_deeds cycle sender receiver)
    ∙ on_channel_a (sender == 7) (sender == 8) (is_among_six receiver) (receiver == 2) (nat_lt cycle 2)
  where
    on_channel_a :
        (by_7 by_8 six to_2 first : Bool)
        → event_by (by_7 || by_8) (said by_7 by_8 six to_2 first)
        ≡ (if by_7 then (if first then (if six then event.Say (pos 100_000_000) None else event.Silent) else event.Silent)
        else if by_8 then (if first then (if six && not to_2 then event.Say (negsuc 99_999_999) None else event.Silent) else event.Silent)
        else event.Regular)
    on_channel_a false false six to_2 first = refl
    on_channel_a true true true true true = refl
    on_channel_a true true true true false = refl
    on_channel_a true true true false true = refl
    on_channel_a true true true false false = refl
    on_channel_a true true false true true = refl
    on_channel_a true true false true false = refl
    on_channel_a true true false false true = refl
    on_channel_a true true false false false = refl
    on_channel_a true false true true true = refl
    on_channel_a true false true true false = refl
    on_channel_a true false true false true = refl
    on_channel_a true false true false false = refl
    on_channel_a true false false true true = refl
    on_channel_a true false false true false = refl
    on_channel_a true false false false true = refl
    on_channel_a true false false false false = refl
    on_channel_a false true true true true = refl
    on_channel_a false true true true false = refl
    on_channel_a false true true false true = refl
    on_channel_a false true true false false = refl
    on_channel_a false true false true true = refl
    on_channel_a false true false true false = refl
    on_channel_a false true false false true = refl
    on_channel_a false true false false false = refl
two_arbitrary_events cycle sender receiver B =
    event_is two_arbitrary_script cycle sender receiver B ((sender == 7) || (sender == 8)) None (two_arbitrary_nodes sender) (silent_on_b cycle sender receiver)
    ∙ on_channel_b (sender == 7) (sender == 8) (nat_lt cycle 2)
  where
    on_channel_b :
        (by_7 by_8 first : Bool)
        → event_by (by_7 || by_8) None
        ≡ (if by_7 then (if first then event.Silent else event.Silent) else if by_8 then (if first then event.Silent else event.Silent) else event.Regular)
    on_channel_b true by_8 true = refl
    on_channel_b true by_8 false = refl
    on_channel_b false true true = refl
    on_channel_b false true false = refl
    on_channel_b false false first = refl

pub two_arbitrary_files_are : setting_of two_arbitrary_run.params (steady_drift 1) two_arbitrary_script ≡ two_arbitrary_run
two_arbitrary_files_are = decided (steady_drift 1) two_arbitrary_script two_arbitrary_run (record {
  doubles = steady_doubles 1;
  starts = steady_starts 1;
  rates = steady_rates 1;
  lengths = steady_lengths 1;
  delays = steady_delays 1;
  nodes = two_arbitrary_nodes;
  events = two_arbitrary_events;
  joins = plain_joins two_arbitrary_script refl;
})
