-- What operation control has of a double cycle, by the row that a node had in its odd cycle.
use Rattle.std.proofs.Common.{◌≡◌, ℕ, ◌*◌, Some, None, [], ◌∷◌, ◌++◌, length, ap, ap₂, ◌∙◌, if◌then◌else◌}
use Rattle.std.proofs.lemmas.List.{append-nil, length-map}
use Rattle.std.proofs.lemmas.List.Sums.{fold-append}
use Rattle.fr_base.specs.declared.node_row.NodeRow.{NodeRow}
use Rattle.fr_base.specs.declared.state.Outcome.{Outcome}
use Rattle.fr_base.specs.declared.state.Outcome.TheVariants.{Within}
use Rattle.fr_base.specs.declared.state.State.TheVariants.{Active}
use Rattle.fr_poc.specs.Control.{Status, control_of, first_status, step_of}
use Rattle.fr_poc.specs.Limits.{limits_of}
use Rattle.fr_history.specs.History.{row_of}
use Rattle.fr_history.specs.Terms.{offset_term_in, outcomes_by, outcomes_in, rate_term_in, status_in}
use Rattle.fr_cluster.specs.Setting.{Setting}
use Rattle.fr_history.specs.Cycles.{Cycle, Cycles, told_of}
use Rattle.fr_runs.proofs.Doubles.{even_length, odd_length, outcomes_even, stays}

pub told_counted : (h : Cycles) (double : ℕ) → length h ≡ 2 * double → length (told_of h) ≡ 2 * double
told_counted h double counted = length-map h (λ (c : Cycle). c.told) ∙ counted

-- none, where it had none
pub outcomes_none : (x : Setting) (h : Cycles) (even odd : Cycle) (double node : ℕ) → length h ≡ 2 * double → row_of odd.told.rows node ≡ None
    → outcomes_in x.params (told_of (odd ∷ even ∷ h)) node ≡ outcomes_in x.params (told_of h) node
unfolding outcomes_in
outcomes_none x h even odd double node counted none =
    let p = x.params in
    let told = told_of h in
    let two = told_counted h double counted in
    let before = outcomes_in p (even.told ∷ told) node in
    ap (λ b. before ++ (if b then outcomes_by p (even.told ∷ told) odd.told.devs (row_of odd.told.rows node) else [])) (odd_length (length told) double two)
    ∙ ap (λ o. before ++ outcomes_by p (even.told ∷ told) odd.told.devs o) none
    ∙ append-nil before
    ∙ outcomes_even x told even.told node (even_length (length told) double two)

-- and its own terms', where it had one
pub outcomes_some : (x : Setting) (h : Cycles) (even odd : Cycle) (double node : ℕ) (row : NodeRow) → length h ≡ 2 * double → row_of odd.told.rows node ≡ Some row
    → outcomes_in x.params (told_of (odd ∷ even ∷ h)) node
    ≡ outcomes_in x.params (told_of h) node
    ++ ((offset_term_in x.params (told_of (even ∷ h)) odd.told.devs row.node).outcome, (rate_term_in x.params (told_of (even ∷ h)) odd.told.devs row).outcome) ∷ []
unfolding outcomes_in
outcomes_some x h even odd double node row counted some =
    let p = x.params in
    let told = told_of h in
    let two = told_counted h double counted in
    let before = outcomes_in p (even.told ∷ told) node in
    let pair : Outcome × Outcome = ((offset_term_in p (even.told ∷ told) odd.told.devs row.node).outcome, (rate_term_in p (even.told ∷ told) odd.told.devs row).outcome) in
    ap (λ b. before ++ (if b then outcomes_by p (even.told ∷ told) odd.told.devs (row_of odd.told.rows node) else [])) (odd_length (length told) double two)
    ∙ ap (λ o. before ++ outcomes_by p (even.told ∷ told) odd.told.devs o) some
    ∙ ap (λ outcomes. outcomes ++ pair ∷ []) (outcomes_even x told even.told node (even_length (length told) double two))

-- a node without outcomes begins active
pub begun_active : (x : Setting) (h : Cycles) (node : ℕ) → outcomes_in x.params (told_of h) node ≡ [] → (status_in x.params (told_of h) node).state ≡ Active
begun_active x h node is = ap (λ outcomes. (control_of (limits_of x.params) outcomes).state) is

-- and an active node whose terms were not cut stays so
pub active_after : (x : Setting) (h : Cycles) (even odd : Cycle) (double node : ℕ) (row : NodeRow) → length h ≡ 2 * double → row_of odd.told.rows node ≡ Some row
    → (status_in x.params (told_of h) node).state ≡ Active
    → (offset_term_in x.params (told_of (even ∷ h)) odd.told.devs row.node).outcome ≡ Within
    → (rate_term_in x.params (told_of (even ∷ h)) odd.told.devs row).outcome ≡ Within
    → (status_in x.params (told_of (odd ∷ even ∷ h)) node).state ≡ Active
active_after x h even odd double node row counted some active offset rate =
    let p = x.params in
    let limits = limits_of p in
    let before = outcomes_in p (told_of h) node in
    let step : Status → Outcome × Outcome → Status = λ status pair. step_of limits status pair.0 pair.1 in
    let pair : Outcome × Outcome = ((offset_term_in p (told_of (even ∷ h)) odd.told.devs row.node).outcome, (rate_term_in p (told_of (even ∷ h)) odd.told.devs row).outcome) in
    let both : pair ≡ (Within, Within) = ap₂ (λ (a : Outcome) (b : Outcome). (a, b)) offset rate in
    ap (λ outcomes. (control_of limits outcomes).state) (outcomes_some x h even odd double node row counted some)
    ∙ ap (λ (status : Status). status.state) (fold-append step first_status before (pair ∷ []))
    ∙ ap (λ pair. (step (status_in p (told_of h) node) pair).state) both
    ∙ stays x (status_in p (told_of h) node) active

-- so it goes on by one step
pub status_step : (x : Setting) (h : Cycles) (even odd : Cycle) (double node : ℕ) (row : NodeRow) → length h ≡ 2 * double → row_of odd.told.rows node ≡ Some row
    → status_in x.params (told_of (odd ∷ even ∷ h)) node
    ≡ step_of (limits_of x.params) (status_in x.params (told_of h) node) (offset_term_in x.params (told_of (even ∷ h)) odd.told.devs row.node).outcome
    (rate_term_in x.params (told_of (even ∷ h)) odd.told.devs row).outcome
status_step x h even odd double node row counted some =
    let p = x.params in
    let limits = limits_of p in
    let step : Status → Outcome × Outcome → Status = λ status pair. step_of limits status pair.0 pair.1 in
    let pair : Outcome × Outcome = ((offset_term_in p (told_of (even ∷ h)) odd.told.devs row.node).outcome, (rate_term_in p (told_of (even ∷ h)) odd.told.devs row).outcome) in
    ap (control_of limits) (outcomes_some x h even odd double node row counted some) ∙ fold-append step first_status (outcomes_in p (told_of h) node) (pair ∷ [])
