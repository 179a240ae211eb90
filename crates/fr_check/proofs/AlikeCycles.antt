-- Whether arbitrary nodes are alike in a double cycle, by the cycles of a trace.
use Rattle.std.proofs.Common.{◌≡◌, ℕ, suc, ◌+◌, ◌*◌, ◌<◌, ◌≤◌, true, List, length, get_or, Option, Some, None, ap, ap₂, refl, sym, ◌∙◌, arith}
use Rattle.std.specs.List.{list_all}
use Rattle.fr_cluster.specs.Values.{Values}
use Rattle.fr_history.specs.History.{History, Record, record_at}
use Rattle.fr_trace.specs.Cycles.{history_by, kept_of}
use Rattle.fr_trace.specs.Trace.{TraceView}
use Rattle.fr_trace.specs.declared.trace.TracedCycle.{TracedCycle}
use Rattle.fr_verdict.specs.Alike.{are_alike_in, are_all_alike, is_node_alike}
use Rattle.fr_verdict.proofs.Records.{no_record, record_of_cycle}

odd_next : (double : ℕ) → suc (2 * double) ≡ 2 * double + 1
odd_next double = omega arith

-- where both its cycles are there
pub alike_there : (p : Values) (t : TraceView) (cycles : List TracedCycle) (double : ℕ) (even odd : TracedCycle) → history_by cycles ≡ t.history → 2 * double + 1 < length cycles
    → even ≡ get_or cycles (2 * double) even → odd ≡ get_or cycles (2 * double + 1) odd → are_all_alike p t double ≡ list_all (is_node_alike p t (kept_of even) (kept_of odd)) p.nodes
unfolding are_all_alike
alike_there p t cycles double even odd whole lt is_even is_odd =
    let early : record_at t.history (2 * double) ≡ Some (kept_of even) =
    ap (λ (h : History). record_at h (2 * double)) (sym whole) ∙ record_of_cycle cycles (2 * double) even (omega (arith, lt)) is_even in
    let late : record_at t.history (suc (2 * double)) ≡ Some (kept_of odd) =
    ap (record_at t.history) (odd_next double) ∙ ap (λ (h : History). record_at h (2 * double + 1)) (sym whole) ∙ record_of_cycle cycles (2 * double + 1) odd lt is_odd in
    ap₂ (are_alike_in p t) early late

-- and where not
pub alike_away : (p : Values) (t : TraceView) (cycles : List TracedCycle) (double : ℕ) → history_by cycles ≡ t.history → length cycles ≤ 2 * double + 1 → are_all_alike p t double ≡ true
unfolding are_all_alike
alike_away p t cycles double whole le =
    let late : record_at t.history (suc (2 * double)) ≡ None =
    ap (record_at t.history) (odd_next double) ∙ ap (λ (h : History). record_at h (2 * double + 1)) (sym whole) ∙ no_record cycles (2 * double + 1) le in
    ap (are_alike_in p t (record_at t.history (2 * double))) late ∙ by (record_at t.history (2 * double))
  where
    by : (o : Option Record) → are_alike_in p t o None ≡ true
    by None = refl
    by (Some even) = refl
