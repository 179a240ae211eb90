-- Operation control of the nodes of a trace, record by record.
use Rattle.std.proofs.Common.{◌≡◌, ◌≢◌, ◌⊎◌, inl, inr, get_or, set, get_or-set_same, get_or-set_other, length-set, ℕ, ◌+◌, ◌<◌, ◌≤◌, ◌%◌, ◌==◌, Bool, true, false, List, [], ◌∷◌, ◌++◌, length, Option, Some, None, refl, ap, ap₂, sym, ◌∙◌, arith}
use Rattle.std.specs.Prelude.{All, if◌then◌else◌}
use Rattle.std.specs.Option.{option_or}
use Rattle.std.proofs.lemmas.Bool.{cases_eq}
use Rattle.std.proofs.lemmas.List.Folds.{find-append}
use Rattle.fr_base.specs.declared.dev.Dev.{Dev}
use Rattle.fr_base.specs.declared.node_row.NodeRow.{NodeRow}
use Rattle.fr_base.specs.declared.state.Outcome.{Outcome}
use Rattle.fr_cluster.specs.Values.{Values}
use Rattle.fr_history.specs.History.{History, Record, row_of}
use Rattle.fr_history.specs.Terms.{offset_term_in, outcomes_by, outcomes_in, rate_term_in, status_in}
use Rattle.fr_history.proofs.Rows.{more_control}
use Rattle.fr_poc.specs.Control.{Control, Status, after_double, control_of, first_status, step_of}
use Rattle.fr_poc.specs.Limits.{limits_of}
use Rattle.fr_poc.specs.declared.control.PocLimits.{PocLimits}
use Rattle.fr_time.specs.Cycles.{is_odd}
use Rattle.fr_trace.specs.Cycles.{history_by}
use Rattle.fr_trace.specs.declared.trace.TracedCycle.{TracedCycle}
use Rattle.fr_verdict.proofs.Parts.{all_rest, history_length}
use Rattle.fr_check.specs.Controls.{ControlStands, HasStepped, Hold, control_at}
use Rattle.fr_check.specs.Corrections.{IsCorrection, correction_at}
use Rattle.fr_check.specs.declared.corrections.Correction.{Correction}

pub fresh_stands : (p : Values) (limits : PocLimits) (controls : List Control) (node : ℕ) → limits ≡ limits_of p → control_at controls node ≡ record { limits = limits; status = first_status } → ControlStands p [] controls node
unfolding outcomes_in
fresh_stands p limits controls node same made = made ∙ ap (λ (l : PocLimits). let control : Control = record { limits = l; status = first_status } in control) same

appended_none : {X : Type 0} (xs : List X) → xs ++ [] ≡ xs
appended_none [] = refl
appended_none (x ∷ xs) = ap (λ ys. x ∷ ys) (appended_none xs)

pub stood_still : (p : Values) (h : History) (odds : List Dev) (rows : List NodeRow) (controls : List Control) (node : ℕ) → ControlStands p h controls node → row_of rows node ≡ None → HasStepped p h odds rows controls node
stood_still p h odds rows controls node stands none =
    let same : outcomes_in p h node ++ outcomes_by p h odds (row_of rows node) ≡ outcomes_in p h node =
    ap (λ (o : Option NodeRow). outcomes_in p h node ++ outcomes_by p h odds o) none ∙ appended_none (outcomes_in p h node) in
    stands ∙ sym (ap (λ (outcomes : List (Outcome × Outcome)). let control : Control = record { limits = limits_of p; status = control_of (limits_of p) outcomes } in control) same)

pub has_stepped : (p : Values) (h : History) (odds : List Dev) (rows : List NodeRow) (old new : List Control) (node : ℕ) (row : NodeRow) (offset rate : Outcome)
    → ControlStands p h old node → row_of rows node ≡ Some row → control_at new node ≡ after_double (control_at old node) offset rate
    → offset ≡ (offset_term_in p h odds row.node).outcome → rate ≡ (rate_term_in p h odds row).outcome → HasStepped p h odds rows new node
has_stepped p h odds rows old new node row offset rate stands some moved by_offset by_rate =
    let o : Outcome = (offset_term_in p h odds row.node).outcome in
    let r : Outcome = (rate_term_in p h odds row).outcome in
    let outcomes : outcomes_in p h node ++ outcomes_by p h odds (row_of rows node) ≡ outcomes_in p h node ++ (o, r) ∷ [] =
    ap (λ (found : Option NodeRow). outcomes_in p h node ++ outcomes_by p h odds found) some in
    moved
    ∙ ap (λ (control : Control). after_double control offset rate) stands
    ∙ ap₂ (λ (a b : Outcome). let control : Control = record { limits = limits_of p; status = step_of (limits_of p) (status_in p h node) a b } in control) by_offset by_rate
    ∙ sym (ap (λ (status : Status). let control : Control = record { limits = limits_of p; status = status } in control)
    (ap (control_of (limits_of p)) outcomes ∙ more_control (limits_of p) (outcomes_in p h node) o r))

stands_where_none : (p : Values) (h : History) (odds : List Dev) (rows : List NodeRow) (controls : List Control) (node : ℕ) → HasStepped p h odds rows controls node → row_of rows node ≡ None → ControlStands p h controls node
stands_where_none p h odds rows controls node so none =
    let same : outcomes_in p h node ++ outcomes_by p h odds (row_of rows node) ≡ outcomes_in p h node =
    ap (λ (o : Option NodeRow). outcomes_in p h node ++ outcomes_by p h odds o) none ∙ appended_none (outcomes_in p h node) in
    so ∙ ap (λ (outcomes : List (Outcome × Outcome)). let control : Control = record { limits = limits_of p; status = control_of (limits_of p) outcomes } in control) same

-- ---- one more row, of a node with a greater number

none_below : (rows : List NodeRow) (node : ℕ) → All (λ row. row.node < node) rows → row_of rows node ≡ None
none_below [] node below = refl
none_below (row ∷ rows) node below =
    let lower : row.node < node = below 0 row (omega arith) in
    let other : (row.node == node) ≡ false = grind arith in
    rw other (none_below rows node (all_rest (λ (r : NodeRow). r.node < node) row rows below))

with_one_more : (rows more : List NodeRow) (row : NodeRow) (node : ℕ) → more ≡ rows ++ row ∷ [] → row_of more node ≡ option_or (row_of rows node) (if row.node == node then Some row else None)
with_one_more rows more row node parted = ap (λ (xs : List NodeRow). row_of xs node) parted ∙ find-append (λ (r : NodeRow). r.node == node) rows (row ∷ [])

or_nothing : (o : Option NodeRow) → option_or o None ≡ o
or_nothing None = refl
or_nothing (Some row) = refl

pub one_stepped : (p : Values) (h : History) (odds : List Dev) (rows more : List NodeRow) (row : NodeRow) (corrections : List Correction) (old new : List Control) (node : ℕ)
    → more ≡ rows ++ row ∷ [] → All (λ earlier. earlier.node < row.node) rows → IsCorrection p h odds corrections row → HasStepped p h odds rows old node
    → control_at new row.node ≡ after_double (control_at old row.node) (correction_at corrections row.node).offset.outcome (correction_at corrections row.node).rate.outcome
    → ((other : ℕ) → other ≢ row.node → control_at new other ≡ control_at old other)
    → HasStepped p h odds more new node
one_stepped p h odds rows more row corrections old new node parted below kept before here others = by_node (cases_eq node row.node)
  where
    by_node : (node ≡ row.node) ⊎ (node ≡ row.node → ⊥) → HasStepped p h odds more new node
    by_node (inl same) =
        let offset : Outcome = (correction_at corrections row.node).offset.outcome in
        let rate : Outcome = (correction_at corrections row.node).rate.outcome in
        let none : row_of rows node ≡ None = ap (row_of rows) same ∙ none_below rows row.node below in
        let own : (row.node == node) ≡ true = grind arith in
        let some : row_of more node ≡ Some row =
        with_one_more rows more row node parted ∙ ap₂ (λ (o : Option NodeRow) (b : Bool). option_or o (if b then Some row else None)) none own in
        let moved : control_at new node ≡ after_double (control_at old node) offset rate =
        ap (control_at new) same ∙ here ∙ sym (ap (λ (n : ℕ). after_double (control_at old n) offset rate) same) in
        has_stepped p h odds more old new node row offset rate (stands_where_none p h odds rows old node before none) some moved
        (ap (λ (both : Correction). both.offset.outcome) kept) (ap (λ (both : Correction). both.rate.outcome) kept)
    by_node (inr differs) =
        let other : (row.node == node) ≡ false = grind arith in
        let same : row_of more node ≡ row_of rows node =
        with_one_more rows more row node parted ∙ ap (λ (b : Bool). option_or (row_of rows node) (if b then Some row else None)) other ∙ or_nothing (row_of rows node) in
        others node differs ∙ before
        ∙ sym (ap (λ (o : Option NodeRow). let control : Control = record { limits = limits_of p; status = control_of (limits_of p) (outcomes_in p h node ++ outcomes_by p h odds o) } in control) same)

-- ---- the number of cycles

pub odd_history : (cycles : List TracedCycle) (b : Bool) → (length cycles % 2 == 1) ≡ b → is_odd (length (history_by cycles)) ≡ b
odd_history cycles b e = ap is_odd (history_length cycles) ∙ e

-- ---- behind one more record

pub hold_even : (p : Values) (h : History) (r : Record) (controls : List Control) → is_odd (length h) ≡ false → Hold p h controls → Hold p (r ∷ h) controls
unfolding outcomes_in
hold_even p h r controls even hold = λ node from to.
    let same : outcomes_in p (r ∷ h) node ≡ outcomes_in p h node =
    ap (λ (b : Bool). outcomes_in p h node ++ (if b then outcomes_by p h r.devs (row_of r.rows node) else [])) even ∙ appended_none (outcomes_in p h node) in
    hold node from to ∙ sym (ap (λ (outcomes : List (Outcome × Outcome)). let control : Control = record { limits = limits_of p; status = control_of (limits_of p) outcomes } in control) same)

pub hold_odd : (p : Values) (h : History) (r : Record) (controls : List Control) → is_odd (length h) ≡ true
    → ((node : ℕ) → 1 ≤ node → node ≤ 64 → HasStepped p h r.devs r.rows controls node) → Hold p (r ∷ h) controls
unfolding outcomes_in
hold_odd p h r controls odd hold = λ node from to.
    let same : outcomes_in p (r ∷ h) node ≡ outcomes_in p h node ++ outcomes_by p h r.devs (row_of r.rows node) =
    ap (λ (b : Bool). outcomes_in p h node ++ (if b then outcomes_by p h r.devs (row_of r.rows node) else [])) odd in
    hold node from to ∙ sym (ap (λ (outcomes : List (Outcome × Outcome)). let control : Control = record { limits = limits_of p; status = control_of (limits_of p) outcomes } in control) same)

-- ---- controls that begin

made_is : (control : Control) (limits : PocLimits) → control.limits ≡ limits → control.status ≡ first_status → control ≡ record { limits = limits; status = first_status }
made_is control limits a b = ap₂ (λ (l : PocLimits) (s : Status). let made : Control = record { limits = l; status = s } in made) a b

set_at : (controls : List Control) (node k : ℕ) (control blank : Control) → node < length controls → k ≡ node → get_or (set controls node control) k blank ≡ control
set_at controls node k control blank lt same = rw same (rw get_or-set_same refl)

set_elsewhere : (controls : List Control) (node k : ℕ) (control blank : Control) → k ≢ node → get_or (set controls node control) k blank ≡ get_or controls k blank
set_elsewhere controls node k control blank ne = let other : k ≢ node = ne in rw get_or-set_other refl

pub begun_more : (controls : List Control) (node : ℕ) (limits : PocLimits) (control : Control) → length controls ≡ 65 → node < 65 → control.limits ≡ limits → control.status ≡ first_status
    → ((k : ℕ) → k < node → control_at controls k ≡ record { limits = limits; status = first_status })
    → (length (set controls node control) ≡ 65) × ((k : ℕ) → k < node + 1 → control_at (set controls node control) k ≡ record { limits = limits; status = first_status })
begun_more controls node limits control long lt a b below = (length-set controls node control ∙ long, λ k less. at k less (cases_eq k node))
  where
    at : (k : ℕ) → k < node + 1 → (k ≡ node) ⊎ (k ≡ node → ⊥) → control_at (set controls node control) k ≡ record { limits = limits; status = first_status }
    at k less (inl same) =
        set_at controls node k control (record { limits = record { passive = 1; fatal = 1; halt_allowed = false; to_active = 0 }; status = first_status }) (omega arith) same
        ∙ made_is control limits a b
    at k less (inr other) =
        set_elsewhere controls node k control (record { limits = record { passive = 1; fatal = 1; halt_allowed = false; to_active = 0 }; status = first_status }) other
        ∙ below k (omega arith)
