-- A trace under construction, with one row more in its place.
use Rattle.std.proofs.Common.{◌≡◌, ◌≢◌, ℕ, ◌+◌, Bool, true, false, List, [], ◌∷◌, ◌++◌, length, Result, Ok, Err, refl, ap, sym, ◌∙◌, arith}
use Rattle.std.specs.Prelude.{◌==◌, OnOk, fold, if◌then◌else◌}
use Rattle.std.proofs.lemmas.Bool.Decides.{nat_tests}
use Rattle.std.proofs.lemmas.List.{append-nil}
use Rattle.std.proofs.lemmas.List.Sums.{fold-append}
use Rattle.fr_base.specs.Counts.{no_counts}
use Rattle.fr_base.specs.declared.node_row.NodeRow.{NodeRow}
use Rattle.fr_history.specs.History.{History, Record}
use Rattle.fr_trace.specs.Cycles.{and_then, history_by, kept_of}
use Rattle.fr_trace.specs.Draft.{HasClock, HasEnded, HasKept, over_of, part_of}
use Rattle.fr_trace.specs.Joins.{latest_rows}
use Rattle.fr_trace.specs.Said.{no_record}
use Rattle.fr_trace.specs.declared.draft.Draft.{Draft}
use Rattle.fr_trace.specs.declared.rows.Row.TheVariants as row
use Rattle.fr_trace.specs.declared.trace.TracedCycle.{TracedCycle}

pub history-more : (cycles : List TracedCycle) (cycle : TracedCycle) → history_by (cycles ++ cycle ∷ []) ≡ kept_of cycle ∷ history_by cycles
unfolding history_by
history-more cycles cycle = fold-append and_then [] cycles (cycle ∷ [])

-- the rows of the last of some cycles
pub latest-none : (cycles : List TracedCycle) → length cycles ≡ 0 → [] ≡ latest_rows (history_by cycles)
unfolding history_by
latest-none [] e = refl
latest-none (cycle ∷ cycles) e = absurd (omega (arith, e))

pub latest-last : (cycles earlier : List TracedCycle) (last : TracedCycle) → cycles ≡ earlier ++ last ∷ [] → last.rows.items ≡ latest_rows (history_by cycles)
latest-last cycles earlier last e = sym (ap latest_rows (ap history_by e ∙ history-more earlier last))

long : (h : History) (cycles : List TracedCycle) → length (fold and_then h cycles) ≡ length cycles + length h
long h [] = omega arith
long h (cycle ∷ cycles) = let rest = long (kept_of cycle ∷ h) cycles in omega arith

pub history-length : (cycles : List TracedCycle) → length (history_by cycles) ≡ length cycles
unfolding history_by
history-length cycles = let all = long [] cycles in omega arith

eq-no : (a b : ℕ) → a ≢ b → (a == b) ≡ false
eq-no a b ne = grind (arith, nat_tests, ne)

eq-yes : (a b : ℕ) → a ≡ b → (a == b) ≡ true
eq-yes a b e = grind (arith, nat_tests, e)

pub on_ok-map : {A E : Type 0} (r : Result A E) (P Q : Type 0) → (P → Q) → OnOk r P → OnOk r Q
on_ok-map (Ok a) P Q f h = f h
on_ok-map (Err e) P Q f h = tt

-- a row of the cycle under way
pub kept-clock : (before after : Draft) (cycle : ℕ) (clock : NodeRow) → cycle ≡ length before.cycles.items → HasClock before after clock → HasKept before after (row.Clock cycle clock)
kept-clock before after cycle clock at put =
    let here : (cycle == length (over_of before)) ≡ true = eq-yes cycle (length (over_of before)) (at ∙ sym (history-length before.cycles.items)) in
    record {
      doubles = put.head.doubles;
      named = put.head.named ∙ sym (append-nil before.arbitrary.items);
      joins = put.head.joins ∙ sym (append-nil before.joins.items);
      last = put.head.last;
      count = put.head.count;
      over = put.over ∙ sym (ap (λ (b : Bool). if b then over_of before else part_of before ∷ over_of before) here);
      part = put.part ∙ sym (ap (λ (b : Bool). if b then record (part_of before) { rows = before.rows.items ++ clock ∷ [] } else record no_record { rows = clock ∷ [] }) here);
    }

-- a row of the next one
pub kept-next : (before mid after : Draft) (cycle : ℕ) (clock : NodeRow) → cycle ≢ length before.cycles.items → HasEnded before mid → HasClock mid after clock
    → HasKept before after (row.Clock cycle clock)
kept-next before mid after cycle clock at end put =
    let here : (cycle == length (over_of before)) ≡ false = eq-no cycle (length (over_of before)) (λ same. at (same ∙ history-length before.cycles.items)) in
    let rows : mid.rows.items ≡ [] = ap (λ (r : Record). r.rows) end.part in
    let devs : mid.devs.items ≡ [] = ap (λ (r : Record). r.devs) end.part in
    let one : record (part_of mid) { rows = mid.rows.items ++ clock ∷ [] } ≡ record no_record { rows = clock ∷ [] } =
    λ i. record { rows = rows i ++ clock ∷ []; devs = devs i; counts = no_counts }
    in
    record {
      doubles = put.head.doubles ∙ end.head.doubles;
      named = put.head.named ∙ end.head.named ∙ sym (append-nil before.arbitrary.items);
      joins = put.head.joins ∙ end.head.joins ∙ sym (append-nil before.joins.items);
      last = put.head.last ∙ end.head.last;
      count = put.head.count ∙ end.head.count;
      over = put.over ∙ end.over ∙ sym (ap (λ (b : Bool). if b then over_of before else part_of before ∷ over_of before) here);
      part = put.part ∙ one ∙ sym (ap (λ (b : Bool). if b then record (part_of before) { rows = before.rows.items ++ clock ∷ [] } else record no_record { rows = clock ∷ [] }) here);
    }
