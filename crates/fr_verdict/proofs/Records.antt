-- The record of a cycle of a trace.
use Rattle.std.proofs.Common.{◌≡◌, ℕ, zero, suc, ◌+◌, ◌<◌, ◌≤◌, List, [], ◌∷◌, length, get_or, All, Option, Some, None, refl, ap, sym, ◌∙◌, arith}
use Rattle.std.specs.Prelude.{fold, option_and_then, slice_index_or}
use Rattle.fr_history.specs.History.{History, Record, record_at, row_of}
use Rattle.fr_history.proofs.Greatest.{record_after, record_here}
use Rattle.fr_history.proofs.Synced.{record_at-lt}
use Rattle.fr_trace.specs.Cycles.{and_then, history_by, kept_of}
use Rattle.fr_trace.specs.Trace.{row_at}
use Rattle.fr_trace.specs.declared.trace.TracedCycle.{TracedCycle}
use Rattle.fr_trace.specs.Lasting.{IsTracedRecord}
use Rattle.fr_verdict.specs.Sound.{AreOrdered, AreTimed}
use Rattle.fr_verdict.proofs.Parts.{history_length}
use Rattle.fr_verdict.proofs.Parts.{all_cons, all_rest}

pub record_stays : (g : History) (cycles : List TracedCycle) (k : ℕ) → k < length g → record_at (fold and_then g cycles) k ≡ record_at g k
record_stays g [] k lt = refl
record_stays g (cycle ∷ cycles) k lt = record_stays (kept_of cycle ∷ g) cycles k (omega arith) ∙ record_after (kept_of cycle) g k lt

record_along : (g : History) (cycles : List TracedCycle) (k : ℕ) (cycle : TracedCycle) → k < length cycles → cycle ≡ get_or cycles k cycle
    → record_at (fold and_then g cycles) (length g + k) ≡ Some (kept_of cycle)
record_along g [] k cycle lt is = absurd (omega arith)
record_along g (first ∷ cycles) zero cycle lt is =
    let place : length g + 0 ≡ length g = omega arith in
    ap (record_at (fold and_then (kept_of first ∷ g) cycles)) place
    ∙ record_stays (kept_of first ∷ g) cycles (length g) (omega arith)
    ∙ record_here (kept_of first) g
    ∙ ap (λ (c : TracedCycle). Some (kept_of c)) (sym is)
record_along g (first ∷ cycles) (suc k) cycle lt is =
    let place : length g + suc k ≡ suc (length g) + k = omega arith in
    ap (record_at (fold and_then (kept_of first ∷ g) cycles)) place ∙ record_along (kept_of first ∷ g) cycles k cycle (omega arith) is

pub record_of_cycle : (cycles : List TracedCycle) (k : ℕ) (cycle : TracedCycle) → k < length cycles → cycle ≡ get_or cycles k cycle → record_at (history_by cycles) k ≡ Some (kept_of cycle)
unfolding history_by
record_of_cycle cycles k cycle lt is =
    let place : k ≡ 0 + k = omega arith in
    ap (record_at (fold and_then [] cycles)) place ∙ record_along [] cycles k cycle lt is

pub no_record : (cycles : List TracedCycle) (k : ℕ) → length cycles ≤ k → record_at (history_by cycles) k ≡ None
no_record cycles k from = by_record (record_at (history_by cycles) k) refl
  where
    by_record : (o : Option Record) → record_at (history_by cycles) k ≡ o → o ≡ None
    by_record None e = refl
    by_record (Some r) e =
        let lt = record_at-lt (history_by cycles) k r e in
        let long = history_length cycles in
        absurd (omega arith)

pub row_of_record : (h : History) (k node : ℕ) (r : Record) → record_at h k ≡ Some r → row_at h k node ≡ row_of r.rows node
unfolding row_at
row_of_record h k node r is = ap (option_and_then (λ (s : Record). row_of s.rows node)) is

pub row_of_none : (h : History) (k node : ℕ) → record_at h k ≡ None → row_at h k node ≡ None
unfolding row_at
row_of_none h k node is = ap (option_and_then (λ (s : Record). row_of s.rows node)) is

-- ---- what holds of each record holds of each cycle

kept_all : (P : Record → Type 0) (h : History) (cycles : List TracedCycle) → All P (fold and_then h cycles) → All P h × All (λ cycle. P (kept_of cycle)) cycles
kept_all P h [] all = (all, λ k d lt. absurd (omega arith))
kept_all P h (cycle ∷ cycles) all =
    let rest : All P (kept_of cycle ∷ h) × All (λ c. P (kept_of c)) cycles = kept_all P (kept_of cycle ∷ h) cycles all in
    (all_rest P (kept_of cycle) h rest.0, all_cons (λ c. P (kept_of c)) cycle cycles (rest.0 0 (kept_of cycle) (omega arith)) rest.1)

pub kept_each : (P : Record → Type 0) (cycles : List TracedCycle) → All P (history_by cycles) → All (λ cycle. P (kept_of cycle)) cycles
unfolding history_by
kept_each P cycles all = (kept_all P [] cycles all).1

pub timed_each : (cycles : List TracedCycle) → All IsTracedRecord (history_by cycles) → AreTimed cycles
timed_each cycles all = λ k d lt i row less. let r : IsTracedRecord (kept_of (slice_index_or cycles k d)) = kept_each IsTracedRecord cycles all k d lt in (r.rows_proper i row less).0

pub ordered_each : (cycles : List TracedCycle) → All IsTracedRecord (history_by cycles) → AreOrdered cycles
ordered_each cycles all = λ k d lt. let r : IsTracedRecord (kept_of (slice_index_or cycles k d)) = kept_each IsTracedRecord cycles all k d lt in r.devs_ascend
