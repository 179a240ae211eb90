-- Even and odd cycles: whether they end with corrections, and what they add to operation control.
use Rattle.std.proofs.Common.{◌≡◌, ℕ, suc, ◌*◌, ◌%◌, ◌==◌, true, false, not, ◌&&◌, [], ◌∷◌, ◌++◌, length, ap, ◌∙◌, arith, if◌then◌else◌}
use Rattle.std.proofs.lemmas.List.{append-nil}
use Rattle.fr_base.specs.States.{is_halted}
use Rattle.fr_base.specs.declared.node_row.NodeRow.{NodeRow}
use Rattle.fr_base.specs.declared.state.Outcome.TheVariants.{Within}
use Rattle.fr_base.specs.declared.state.State.TheVariants.{Active}
use Rattle.fr_time.specs.Cycles.{is_odd}
use Rattle.fr_poc.specs.Control.{Status, control_of, status_after, step_of}
use Rattle.fr_poc.specs.Limits.{limits_of}
use Rattle.fr_history.specs.History.{History, Record, row_of}
use Rattle.fr_cluster.specs.Setting.{Setting}
use Rattle.fr_history.specs.Terms.{outcomes_by, outcomes_in, status_in}
use Rattle.fr_history.specs.Rows.{is_corrected}

-- ---- parities

pub even_length : (n double : ℕ) → n ≡ 2 * double → is_odd n ≡ false
even_length n double is = let rest : n % 2 ≡ 0 = omega (arith, is) in ap (λ r. r == 1) rest

pub odd_length : (n double : ℕ) → n ≡ 2 * double → is_odd (suc n) ≡ true
odd_length n double is = let rest : suc n % 2 ≡ 1 = omega (arith, is) in ap (λ r. r == 1) rest

pub even_stands : (h : History) (row : NodeRow) → is_odd (length h) ≡ false → is_corrected h row ≡ false
even_stands h row even = ap (λ b. b && not (is_halted row.state)) even

pub odd_is_corrected : (h : History) (row : NodeRow) → is_odd (length h) ≡ true → row.state ≡ Active → is_corrected h row ≡ true
odd_is_corrected h row odd active = ap (λ b. b && not (is_halted row.state)) odd ∙ ap (λ s. not (is_halted s)) active

-- ---- operation control

-- no pair of outcomes comes of an even cycle
pub outcomes_even : (x : Setting) (h : History) (even : Record) (node : ℕ) → is_odd (length h) ≡ false → outcomes_in x.params (even ∷ h) node ≡ outcomes_in x.params h node
unfolding outcomes_in
outcomes_even x h even node parity =
    ap (λ b. outcomes_in x.params h node ++ (if b then outcomes_by x.params h even.devs (row_of even.rows node) else [])) parity ∙ append-nil (outcomes_in x.params h node)

-- an active node with both terms within their limits stays active
pub stays : (x : Setting) (status : Status) → status.state ≡ Active → (step_of (limits_of x.params) status Within Within).state ≡ Active
stays x status active =
    ap (λ s. (status_after (limits_of x.params) status s Within).state) active

-- the status is the same after an even cycle
pub status_even : (x : Setting) (h : History) (even : Record) (node : ℕ) → is_odd (length h) ≡ false → (status_in x.params (even ∷ h) node).state ≡ (status_in x.params h node).state
status_even x h even node parity = ap (λ outcomes. (control_of (limits_of x.params) outcomes).state) (outcomes_even x h even node parity)
