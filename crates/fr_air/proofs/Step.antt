-- One cycle of a receiver: behind the next cycle it stands as the run says, with a row or as a follower.
use Rattle.std.proofs.Common.{◌≡◌, ℕ, suc, ◌+◌, ℤ, pos, Bool, true, false, not, ◌&&◌, Option, Some, None, List, [], ◌∷◌, ◌++◌, length, refl, ap, sym, ◌∙◌, append-nil, if◌then◌else◌, add-one, arith}
use Rattle.std.proofs.lemmas.List.{length-map}
use Rattle.fr_base.specs.States.{cut_of, is_halted}
use Rattle.fr_base.specs.declared.dev.Dev.{Dev}
use Rattle.fr_base.specs.declared.node_row.NodeRow.{NodeRow}
use Rattle.fr_base.specs.declared.state.Outcome.{Outcome}
use Rattle.fr_base.specs.declared.state.State.{State}
use Rattle.fr_base.specs.declared.state.State.TheVariants.{Active, Passive, Halt}
use Rattle.fr_cluster.specs.Values.{Values, amount}
use Rattle.fr_cluster.specs.declared.names.ParamName.TheVariants as name
use Rattle.fr_cluster.specs.declared.nodes.NodeSpec.{NodeSpec}
use Rattle.fr_time.specs.Cycles.{is_odd}
use Rattle.fr_time.specs.Instant.{next_start_of}
use Rattle.fr_time.specs.Position.{grid_for}
use Rattle.fr_measure.specs.Readings.{Readings, no_readings, reading}
use Rattle.fr_measure.specs.Values.{offset_at, rate_at, values_of}
use Rattle.fr_cluster.specs.Questions.{own_index}
use Rattle.fr_correct.specs.Terms.{offset_term_of, rate_term_of}
use Rattle.fr_correct.specs.declared.term.Term.{Term}
use Rattle.fr_poc.specs.Control.{Control, Status, after_double, control_of, status_after, step_of, worse_of}
use Rattle.fr_poc.specs.declared.control.PocLimits.{PocLimits}
use Rattle.fr_node.specs.Cycle.{in_cycle, corrects, ended, ended_row_of_node, next_control, next_outcomes, next_rate, offset_term_of_node, rate_term_of_node}
use Rattle.fr_poc.specs.Limits.{limits_of}
use Rattle.fr_node.specs.View.{NodeView, node_row_of}
use Rattle.fr_cluster.specs.Setting.{Setting}
use Rattle.fr_history.specs.History.{row_of}
use Rattle.fr_history.specs.Terms.{offset_term_by, outcomes_by, outcomes_in, rate_term_by, status_in}
use Rattle.fr_history.specs.Cycles.{Cycle, Cycles, told_of}
use Rattle.fr_history.specs.Laws.{rate_by_rows, rate_of_next, start_by_rows, start_of_next}
use Rattle.fr_history.specs.Lawful.{IsLawful}
use Rattle.fr_history.specs.Next.{early_follower, early_row, early_rows, early_told, next_cycle}
use Rattle.fr_history.specs.Standing.{following_nodes, row_nodes}
use Rattle.fr_air.specs.Nodes.{all_devs, all_devs_after, outcomes_after, pair_in, readings_after, readings_of, takes_part}
use Rattle.fr_air.specs.Views.{node_of_next}
use Rattle.fr_air.specs.Hearing.{after_slots}
use Rattle.fr_air.proofs.Columns.{heard_even, heard_odd, heard_table, offset_values_same, rate_values_same, readings_same_of}
use Rattle.fr_history.proofs.Flat.{Among}
use Rattle.fr_history.proofs.Rows.{more_control}
use Rattle.fr_air.proofs.Members.{IsRun, all_as_own, all_recorded, early_of, followers-untold, last_as_own, members, next_follower, next_row, own_devs, own_devs_behind, row_of-followers, row_of-told, takes, were-members}
use Rattle.fr_air.proofs.Table.{slots_with_table}

-- a receiver with its cycle begun
abbrev pub begun_node : Setting → Cycles → Bool → ℕ → NodeView
begun_node x h follows node = in_cycle (node_of_next x h follows node) (x.microtick node (length h))

-- and with what the next cycle records of it
abbrev pub heard_node : Setting → Cycles → Bool → ℕ → NodeView
heard_node x h follows node = record (begun_node x h follows node) { table = readings_after x (next_cycle x h ∷ h) node }

pub begun_row : (x : Setting) (h : Cycles) (follows : Bool) (node : ℕ) → node_row_of (begun_node x h follows node) ≡ early_of x h follows node
unfolding early_row early_follower
begun_row x h false node = refl
begun_row x h true node = refl

-- ---- its table

-- what it begins a cycle with
abbrev pub begun_table : Setting → Cycles → ℕ → Readings
begun_table x h node = if is_odd (length h) then readings_after x h node else no_readings

even_before : (n : ℕ) → is_odd (suc n) ≡ true → is_odd n ≡ false
even_before n odd = grind arith

-- behind an even cycle the deviations of that cycle alone
pub begun_odd : (x : Setting) (h : Cycles) → IsLawful x h → (follows : Bool) (node : NodeSpec) → Among node (members x h follows) → is_odd (length h) ≡ true
    → readings_after x h node.id ≡ readings_of x.params (all_devs_after h) [] node.id
unfolding readings_after
begun_odd x [] lawful follows node is odd = absurd (cc)
begun_odd x (c ∷ h) lawful follows node is odd =
    let even : is_odd (length h) ≡ false = even_before (length h) odd in
    let took : takes_part c node.id ≡ true = takes x h c lawful.0 follows node (were-members x h c lawful even follows node is) in
    rw (took, even) refl

-- the table of one that takes part in the next cycle
next_readings : (x : Setting) (h : Cycles) (node : ℕ) (odd : Bool) → takes_part (next_cycle x h) node ≡ true → is_odd (length h) ≡ odd
    → readings_after x (next_cycle x h ∷ h) node ≡ (if odd then readings_of x.params (all_devs_after h) (all_devs (next_cycle x h)) node else readings_of x.params (all_devs (next_cycle x h)) [] node)
unfolding readings_after
next_readings x h node odd took is = rw (took, is) refl

table_by : (x : Setting) (h : Cycles) → IsRun x h → (follows : Bool) (node : NodeSpec) → Among node (members x h follows) → (odd : Bool) → is_odd (length h) ≡ odd
    → heard_table x (length h) (early_rows x h) (early_of x h follows node.id) odd (if odd then readings_after x h node.id else no_readings)
    ≡ (if odd then readings_of x.params (all_devs_after h) (all_devs (next_cycle x h)) node.id else readings_of x.params (all_devs (next_cycle x h)) [] node.id)
table_by x h run follows node is true odd =
    ap (heard_table x (length h) (early_rows x h) (early_of x h follows node.id) true) (begun_odd x h run.lawful.1 follows node is odd)
    ∙ heard_odd x run.sane (length h) (early_rows x h) (early_of x h follows node.id) (all_devs_after h) (all_devs (next_cycle x h)) node.id (all_recorded x h run.lawful.1 follows node is)
table_by x h run follows node is false odd =
    heard_even x run.sane (length h) (early_rows x h) (early_of x h follows node.id) (all_devs (next_cycle x h)) node.id (all_recorded x h run.lawful.1 follows node is)

pub next_table : (x : Setting) (h : Cycles) → IsRun x h → (follows : Bool) (node : NodeSpec) → Among node (members x h follows)
    → heard_table x (length h) (early_rows x h) (early_of x h follows node.id) (is_odd (length h)) (begun_table x h node.id) ≡ readings_after x (next_cycle x h ∷ h) node.id
next_table x h run follows node is =
    table_by x h run follows node is (is_odd (length h)) refl
    ∙ sym (next_readings x h node.id (is_odd (length h)) (takes x h (next_cycle x h) run.lawful.0 follows node is) refl)

-- after all slots a receiver has heard what is recorded of it
pub heard_all : (x : Setting) (h : Cycles) → IsRun x h → (follows : Bool) (node : NodeSpec) → Among node (members x h follows)
    → after_slots x (length h) (early_rows x h) (amount x.params name.gNumberOfStaticSlots) (begun_node x h follows node.id) ≡ heard_node x h follows node.id
heard_all x h run follows node is =
    let begun : NodeView = begun_node x h follows node.id in
    let s : ℕ = amount x.params name.gNumberOfStaticSlots in
    slots_with_table x (length h) (early_rows x h) begun s
    ∙ ap (λ (row : NodeRow). let v : NodeView = record begun { table = heard_table x (length h) (early_rows x h) row (is_odd (length h)) (begun_table x h node.id) } in v) (begun_row x h follows node.id)
    ∙ ap (λ (t : Readings). let v : NodeView = record begun { table = t } in v) (next_table x h run follows node is)

-- ---- the terms at the end of an odd cycle

-- its own key index, which a follower has not
abbrev pub own_key_of : Values → Bool → ℕ → Option ℕ
own_key_of p follows node = if follows then None else own_index p node

-- the terms that its own deviations give
abbrev pub next_offset : Setting → Cycles → Bool → ℕ → Term
next_offset x h follows node =
    offset_term_by x.params (own_devs_behind h follows) (own_devs (next_cycle x h) follows) node (own_key_of x.params follows node)

abbrev pub next_rate_term : Setting → Cycles → Bool → ℕ → Term
next_rate_term x h follows node =
    rate_term_by x.params (own_devs_behind h follows) (own_devs (next_cycle x h) follows) (early_of x h follows node) (own_key_of x.params follows node)

odd_table : (x : Setting) (h : Cycles) → IsRun x h → (follows : Bool) (node : NodeSpec) → Among node (members x h follows) → is_odd (length h) ≡ true
    → readings_after x (next_cycle x h ∷ h) node.id ≡ readings_of x.params (own_devs_behind h follows) (own_devs (next_cycle x h) follows) node.id
odd_table x h run follows node is odd =
    next_readings x h node.id true (takes x h (next_cycle x h) run.lawful.0 follows node is) odd
    ∙ readings_same_of x.params (all_devs_after h) (all_devs (next_cycle x h)) (own_devs_behind h follows) (own_devs (next_cycle x h) follows) node.id
    (last_as_own x h run.lawful.1 run.next odd follows node is) (all_as_own x h run.lawful.1 follows node is)

offset_same : (x : Setting) (h : Cycles) → IsRun x h → (follows : Bool) (node : NodeSpec) → Among node (members x h follows) → is_odd (length h) ≡ true
    → offset_term_of_node x.params (heard_node x h follows node.id) ≡ next_offset x h follows node.id
offset_same x h run follows node is odd =
    let own : Option ℕ = own_key_of x.params follows node.id in
    ap (λ (t : Readings). offset_term_of x.params.offset_limit (values_of (offset_at (reading t) own))) (odd_table x h run follows node is odd)
    ∙ ap (offset_term_of x.params.offset_limit) (offset_values_same x.params (own_devs_behind h follows) (own_devs (next_cycle x h) follows) node.id own)

rate_of_early : (x : Setting) (h : Cycles) (follows : Bool) (node : ℕ) → (early_of x h follows node).rate ≡ rate_of_next x h node
unfolding early_row early_follower
rate_of_early x h false node = refl
rate_of_early x h true node = refl

node_of_early : (x : Setting) (h : Cycles) (follows : Bool) (node : ℕ) → (early_of x h follows node).node ≡ node
unfolding early_row early_follower
node_of_early x h false node = refl
node_of_early x h true node = refl

rate_same : (x : Setting) (h : Cycles) → IsRun x h → (follows : Bool) (node : NodeSpec) → Among node (members x h follows) → is_odd (length h) ≡ true
    → rate_term_of_node x.params (heard_node x h follows node.id) ≡ next_rate_term x h follows node.id
rate_same x h run follows node is odd =
    let p : Values = x.params in
    let own : Option ℕ = own_key_of p follows node.id in
    let evens : List Dev = own_devs_behind h follows in
    let odds : List Dev = own_devs (next_cycle x h) follows in
    let row : NodeRow = early_of x h follows node.id in
    ap (λ (t : Readings). rate_term_of (rate_of_next x h node.id) p.damping p.rate_limit (values_of (rate_at (reading t) own))) (odd_table x h run follows node is odd)
    ∙ ap (rate_term_of (rate_of_next x h node.id) p.damping p.rate_limit) (rate_values_same p evens odds node.id own)
    ∙ ap (λ (r : ℤ). rate_term_by p evens odds (record row { node = node.id; rate = r }) own) (sym (rate_of_early x h follows node.id))
    ∙ ap (λ (n : ℕ). rate_term_by p evens odds (record row { node = n }) own) (sym (node_of_early x h follows node.id))

-- ---- the row at the end of the cycle

-- its state in the cycle
abbrev pub state_in : Setting → Cycles → Bool → ℕ → State
state_in x h follows node = if follows then Passive else (status_in x.params (told_of h) node).state

both_left : (a b : Bool) → (a && b) ≡ true → a ≡ true
both_left true b is = refl
both_left false b is = is

-- where it corrects, and where it does not
ended_by : (x : Setting) (h : Cycles) → IsRun x h → (follows : Bool) (node : NodeSpec) → Among node (members x h follows) → (c : Bool)
    → (is_odd (length h) && not (is_halted (state_in x h follows node.id))) ≡ c
    → ended_row_of_node x.params (heard_node x h follows node.id)
    ≡ record (early_of x h follows node.id) {
      offset = if c then (next_offset x h follows node.id).value else pos 0;
      cut = if c then cut_of (next_offset x h follows node.id).outcome + cut_of (next_rate_term x h follows node.id).outcome else 0;
    }
ended_by x h run follows node is true corrects =
    let p : Values = x.params in
    let odd : is_odd (length h) ≡ true = both_left (is_odd (length h)) (not (is_halted (state_in x h follows node.id))) corrects in
    let heard : NodeView = heard_node x h follows node.id in
    let rate : Term = rate_term_of_node p heard in
    let row : NodeRow = node_row_of heard in
    ap (λ (b : Bool). if b then (let r : NodeRow = record row { offset = (offset_term_of_node p heard).value; cut = cut_of (offset_term_of_node p heard).outcome + cut_of rate.outcome } in r) else row) corrects
    ∙ ap (λ (t : Term). let r : NodeRow = record row { offset = t.value; cut = cut_of t.outcome + cut_of rate.outcome } in r) (offset_same x h run follows node is odd)
    ∙ ap (λ (t : Term). let r : NodeRow = record row { offset = (next_offset x h follows node.id).value; cut = cut_of (next_offset x h follows node.id).outcome + cut_of t.outcome } in r) (rate_same x h run follows node is odd)
    ∙ ap (λ (e : NodeRow). let r : NodeRow = record e { offset = (next_offset x h follows node.id).value; cut = cut_of (next_offset x h follows node.id).outcome + cut_of (next_rate_term x h follows node.id).outcome } in r) (begun_row x h follows node.id)
ended_by x h run follows node is false corrects =
    let p : Values = x.params in
    let heard : NodeView = heard_node x h follows node.id in
    let row : NodeRow = node_row_of heard in
    ap (λ (b : Bool). if b then (let r : NodeRow = record row { offset = (offset_term_of_node p heard).value; cut = cut_of (offset_term_of_node p heard).outcome + cut_of (rate_term_of_node p heard).outcome } in r) else row) corrects
    ∙ ap (λ (e : NodeRow). let r : NodeRow = record e { offset = pos 0; cut = 0 } in r) (begun_row x h follows node.id)

told_long : (h : Cycles) → length (told_of h) ≡ length h
told_long h = length-map h (λ (c : Cycle). c.told)

pub ended_told : (x : Setting) (h : Cycles) → IsRun x h → (node : NodeSpec) → Among node (row_nodes x h) → ended_row_of_node x.params (heard_node x h false node.id) ≡ next_row x h node.id
unfolding early_told early_row next_cycle
ended_told x h run node is =
    let p : Values = x.params in
    let row : NodeRow = early_row x h node.id in
    let state : State = (status_in p (told_of h) node.id).state in
    ended_by x h run false node is (is_odd (length h) && not (is_halted state)) refl
    ∙ ap (λ (n : ℕ). let r : NodeRow = record row {
      offset = if is_odd n && not (is_halted state) then (next_offset x h false node.id).value else pos 0;
      cut = if is_odd n && not (is_halted state) then cut_of (next_offset x h false node.id).outcome + cut_of (next_rate_term x h false node.id).outcome else 0;
    } in r) (sym (told_long h))

and_not_halted : (b : Bool) → (b && true) ≡ b
and_not_halted true = refl
and_not_halted false = refl

pub ended_follower_is : (x : Setting) (h : Cycles) → IsRun x h → (node : NodeSpec) → Among node (following_nodes x h) → ended_row_of_node x.params (heard_node x h true node.id) ≡ next_follower x h node.id
unfolding early_follower next_cycle
ended_follower_is x h run node is = ended_by x h run true node is (is_odd (length h)) (and_not_halted (is_odd (length h)))

-- ---- the start and the rate term of the next cycle

pub start_told : (x : Setting) (h : Cycles) → IsRun x h → (node : NodeSpec) → Among node (row_nodes x h)
    → next_start_of (grid_for x.params) (ended_row_of_node x.params (heard_node x h false node.id)) ≡ start_of_next x (next_cycle x h ∷ h) node.id
start_told x h run node is =
    let c : Cycle = next_cycle x h in
    ap (next_start_of (grid_for x.params)) (ended_told x h run node is)
    ∙ sym (ap (λ (o : Option NodeRow). start_by_rows x (c ∷ h) node.id o (row_of c.followers node.id)) (row_of-told x h node is))

pub start_followed : (x : Setting) (h : Cycles) → IsRun x h → (node : NodeSpec) → Among node (following_nodes x h)
    → next_start_of (grid_for x.params) (ended_row_of_node x.params (heard_node x h true node.id)) ≡ start_of_next x (next_cycle x h ∷ h) node.id
start_followed x h run node is =
    let c : Cycle = next_cycle x h in
    ap (next_start_of (grid_for x.params)) (ended_follower_is x h run node is)
    ∙ sym
    (
    ap (λ (o : Option NodeRow). start_by_rows x (c ∷ h) node.id o (row_of c.followers node.id)) (followers-untold x h run.lawful node is)
    ∙ ap (start_by_rows x (c ∷ h) node.id None) (row_of-followers x h node is)
    )

-- where it corrects, and where it does not
rate_value : (x : Setting) (h : Cycles) → IsRun x h → (follows : Bool) (node : NodeSpec) → Among node (members x h follows) → (c : Bool)
    → (is_odd (length h) && not (is_halted (state_in x h follows node.id))) ≡ c
    → next_rate x.params (heard_node x h follows node.id) ≡ (if c then (next_rate_term x h follows node.id).value else rate_of_next x h node.id)
rate_value x h run follows node is true corrects =
    let odd : is_odd (length h) ≡ true = both_left (is_odd (length h)) (not (is_halted (state_in x h follows node.id))) corrects in
    ap (λ (b : Bool). if b then (rate_term_of_node x.params (heard_node x h follows node.id)).value else rate_of_next x h node.id) corrects
    ∙ ap (λ (t : Term). t.value) (rate_same x h run follows node is odd)
rate_value x h run follows node is false corrects =
    ap (λ (b : Bool). if b then (rate_term_of_node x.params (heard_node x h follows node.id)).value else rate_of_next x h node.id) corrects

pub rate_told : (x : Setting) (h : Cycles) → IsRun x h → (node : NodeSpec) → Among node (row_nodes x h) → next_rate x.params (heard_node x h false node.id) ≡ rate_of_next x (next_cycle x h ∷ h) node.id
unfolding early_row
rate_told x h run node is =
    let c : Cycle = next_cycle x h in
    let state : State = (status_in x.params (told_of h) node.id).state in
    rate_value x h run false node is (is_odd (length h) && not (is_halted state)) refl
    ∙ ap (λ (n : ℕ). if is_odd n && not (is_halted state) then (next_rate_term x h false node.id).value else rate_of_next x h node.id) (sym (told_long h))
    ∙ sym (ap (λ (o : Option NodeRow). rate_by_rows x c h node.id o (row_of c.followers node.id)) (row_of-told x h node is))

pub rate_followed : (x : Setting) (h : Cycles) → IsRun x h → (node : NodeSpec) → Among node (following_nodes x h) → next_rate x.params (heard_node x h true node.id) ≡ rate_of_next x (next_cycle x h ∷ h) node.id
unfolding early_follower
rate_followed x h run node is =
    let c : Cycle = next_cycle x h in
    rate_value x h run true node is (is_odd (length h)) (and_not_halted (is_odd (length h)))
    ∙ sym
    (
    ap (λ (o : Option NodeRow). rate_by_rows x c h node.id o (row_of c.followers node.id)) (followers-untold x h run.lawful node is)
    ∙ ap (rate_by_rows x c h node.id None) (row_of-followers x h node is)
    )

-- ---- operation control

-- a halted node stays as it is, whatever the outcomes
halted_stays : (limits : PocLimits) (status : Status) (offset rate : Outcome) → is_halted status.state ≡ true → step_of limits status offset rate ≡ status
halted_stays limits status offset rate is = by_state status.state is
  where
    by_state : (state : State) → is_halted state ≡ true → status_after limits status state (worse_of offset rate) ≡ status
    by_state Active wrong = absurd (cc)
    by_state Passive wrong = absurd (cc)
    by_state Halt right = refl

-- how both terms of a node end in an odd cycle
abbrev outcomes_next : Setting → Cycles → ℕ → List (Outcome × Outcome)
outcomes_next x h node = ((next_offset x h false node).outcome, (next_rate_term x h false node).outcome) ∷ []

-- the status after the next cycle, in an even and in an odd cycle
status_by : (x : Setting) (h : Cycles) → IsRun x h → (node : NodeSpec) → Among node (row_nodes x h) → (odd halted : Bool) → is_odd (length h) ≡ odd
    → is_halted (status_in x.params (told_of h) node.id).state ≡ halted
    → (let c : Bool = odd && not halted in
    if c then step_of (limits_of x.params) (status_in x.params (told_of h) node.id) (offset_term_of_node x.params (heard_node x h false node.id)).outcome (rate_term_of_node x.params (heard_node x h false node.id)).outcome
    else status_in x.params (told_of h) node.id)
    ≡ control_of (limits_of x.params) (outcomes_in x.params (told_of h) node.id ++ (if odd then outcomes_next x h node.id else []))
status_by x h run node is false halted odd halts = sym (ap (control_of (limits_of x.params)) (append-nil (outcomes_in x.params (told_of h) node.id)))
status_by x h run node is true true odd halts =
    let before : List (Outcome × Outcome) = outcomes_in x.params (told_of h) node.id in
    let offset : Outcome = (next_offset x h false node.id).outcome in
    let rate : Outcome = (next_rate_term x h false node.id).outcome in
    sym (more_control (limits_of x.params) before offset rate ∙ halted_stays (limits_of x.params) (status_in x.params (told_of h) node.id) offset rate halts)
status_by x h run node is true false odd halts =
    let limits : PocLimits = limits_of x.params in
    let status : Status = status_in x.params (told_of h) node.id in
    let rate : Term = rate_term_of_node x.params (heard_node x h false node.id) in
    ap (λ (t : Term). step_of limits status t.outcome rate.outcome) (offset_same x h run false node is odd)
    ∙ ap (λ (t : Term). step_of limits status (next_offset x h false node.id).outcome t.outcome) (rate_same x h run false node is odd)
    ∙ sym (more_control limits (outcomes_in x.params (told_of h) node.id) (next_offset x h false node.id).outcome (next_rate_term x h false node.id).outcome)

control_with : (c : Bool) (limits : PocLimits) (status : Status) (offset rate : Outcome) →
    (if c then after_double (record { limits = limits; status = status }) offset rate else (record { limits = limits; status = status })) ≡ (let made : Control = record { limits = limits; status = if c then step_of limits status offset rate else status } in made)
control_with true limits status offset rate = refl
control_with false limits status offset rate = refl

-- what the next cycle adds to the outcomes of a node with a row
outcomes-told : (x : Setting) (h : Cycles) (node : NodeSpec) → Among node (row_nodes x h)
    → outcomes_in x.params (told_of (next_cycle x h ∷ h)) node.id ≡ outcomes_in x.params (told_of h) node.id ++ (if is_odd (length h) then outcomes_next x h node.id else [])
unfolding outcomes_in early_row
outcomes-told x h node is =
    let c : Cycle = next_cycle x h in
    let before : List (Outcome × Outcome) = outcomes_in x.params (told_of h) node.id in
    ap (λ (o : Option NodeRow). before ++ (if is_odd (length (told_of h)) then outcomes_by x.params (told_of h) c.told.devs o else [])) (row_of-told x h node is)
    ∙ ap (λ (n : ℕ). before ++ (if is_odd n then outcomes_next x h node.id else [])) (told_long h)

-- and to that of a follower
outcomes-followed : (x : Setting) (h : Cycles) → IsLawful x (next_cycle x h ∷ h) → (node : NodeSpec) → Among node (following_nodes x h)
    → outcomes_in x.params (told_of (next_cycle x h ∷ h)) node.id ≡ outcomes_in x.params (told_of h) node.id
unfolding outcomes_in
outcomes-followed x h lawful node is =
    let c : Cycle = next_cycle x h in
    let before : List (Outcome × Outcome) = outcomes_in x.params (told_of h) node.id in
    ap (λ (o : Option NodeRow). before ++ (if is_odd (length (told_of h)) then outcomes_by x.params (told_of h) c.told.devs o else [])) (followers-untold x h lawful node is)
    ∙ ap (λ (more : List (Outcome × Outcome)). before ++ more) (none_either (is_odd (length (told_of h))))
    ∙ append-nil before
  where
    nothing : List (Outcome × Outcome)
    nothing = []

    none_either : (b : Bool) → (if b then nothing else nothing) ≡ nothing
    none_either true = refl
    none_either false = refl

abbrev control_after : Setting → Cycles → ℕ → Control
control_after x h node = record { limits = limits_of x.params; status = status_in x.params (told_of h) node }

pub control_told : (x : Setting) (h : Cycles) → IsRun x h → (node : NodeSpec) → Among node (row_nodes x h)
    → next_control x.params (heard_node x h false node.id) ≡ control_after x (next_cycle x h ∷ h) node.id
control_told x h run node is =
    let p : Values = x.params in
    let status : Status = status_in p (told_of h) node.id in
    let heard : NodeView = heard_node x h false node.id in
    control_with (is_odd (length h) && not (is_halted status.state)) (limits_of p) status (offset_term_of_node p heard).outcome (rate_term_of_node p heard).outcome
    ∙ ap (λ (s : Status). let made : Control = record { limits = limits_of p; status = s } in made)
    (status_by x h run node is (is_odd (length h)) (is_halted status.state) refl refl ∙ sym (ap (control_of (limits_of p)) (outcomes-told x h node is)))

same_control : (b : Bool) (c : Control) → (if b then c else c) ≡ c
same_control true c = refl
same_control false c = refl

pub control_followed : (x : Setting) (h : Cycles) → IsLawful x (next_cycle x h ∷ h) → (node : NodeSpec) → Among node (following_nodes x h)
    → next_control x.params (heard_node x h true node.id) ≡ control_after x (next_cycle x h ∷ h) node.id
control_followed x h lawful node is =
    same_control (corrects (heard_node x h true node.id)) (control_after x h node.id)
    ∙ ap (λ (pairs : List (Outcome × Outcome)). let made : Control = record { limits = limits_of x.params; status = control_of (limits_of x.params) pairs } in made)
    (sym (outcomes-followed x h lawful node is))

-- ---- the outcomes

pair_same : (x : Setting) (h : Cycles) → IsRun x h → (follows : Bool) (node : NodeSpec) → Among node (members x h follows) → (odd : Bool) → is_odd (length h) ≡ odd
    → (let o : Option (Outcome × Outcome) =
    if odd then Some ((offset_term_of_node x.params (heard_node x h follows node.id)).outcome, (rate_term_of_node x.params (heard_node x h follows node.id)).outcome) else outcomes_after x h node.id in o)
    ≡ (if odd then Some ((next_offset x h follows node.id).outcome, (next_rate_term x h follows node.id).outcome) else outcomes_after x h node.id)
pair_same x h run follows node is false odd = refl
pair_same x h run follows node is true odd =
    let rate : Term = rate_term_of_node x.params (heard_node x h follows node.id) in
    ap (λ (t : Term). let o : Option (Outcome × Outcome) = Some (t.outcome, rate.outcome) in o) (offset_same x h run follows node is odd)
    ∙ ap (λ (t : Term). let o : Option (Outcome × Outcome) = Some ((next_offset x h follows node.id).outcome, t.outcome) in o) (rate_same x h run follows node is odd)

pub pair_told : (x : Setting) (h : Cycles) → IsRun x h → (node : NodeSpec) → Among node (row_nodes x h)
    → next_outcomes x.params (heard_node x h false node.id) ≡ outcomes_after x (next_cycle x h ∷ h) node.id
unfolding outcomes_after early_row
pair_told x h run node is =
    let c : Cycle = next_cycle x h in
    let before : Option (Outcome × Outcome) = outcomes_after x h node.id in
    pair_same x h run false node is (is_odd (length h)) refl
    ∙ sym (ap (λ (o : Option NodeRow). if is_odd (length h) then pair_in x.params h c o (row_of c.followers node.id) before else before) (row_of-told x h node is))

pub pair_followed : (x : Setting) (h : Cycles) → IsRun x h → (node : NodeSpec) → Among node (following_nodes x h)
    → next_outcomes x.params (heard_node x h true node.id) ≡ outcomes_after x (next_cycle x h ∷ h) node.id
unfolding outcomes_after early_follower
pair_followed x h run node is =
    let c : Cycle = next_cycle x h in
    let before : Option (Outcome × Outcome) = outcomes_after x h node.id in
    pair_same x h run true node is (is_odd (length h)) refl
    ∙ sym
    (
    ap (λ (o : Option NodeRow). if is_odd (length h) then pair_in x.params h c o (row_of c.followers node.id) before else before) (followers-untold x h run.lawful node is)
    ∙ ap (λ (o : Option NodeRow). if is_odd (length h) then pair_in x.params h c None o before else before) (row_of-followers x h node is)
    )

-- ---- the receiver

abbrev made_node : ℕ → ℕ → ℤ → ℤ → Readings → Control → Bool → Option (Outcome × Outcome) → NodeView
made_node id cycle start rate table control follows outcomes = record {
  id = id;
  cycle = cycle;
  length = None;
  start = start;
  rate = rate;
  table = table;
  control = control;
  follows = follows;
  outcomes = outcomes;
}

node_same : (id c d : ℕ) (s t r q : ℤ) (table : Readings) (k l : Control) (follows : Bool) (o m : Option (Outcome × Outcome)) → c ≡ d → s ≡ t → r ≡ q → k ≡ l → o ≡ m
    → made_node id c s r table k follows o ≡ made_node id d t q table l follows m
node_same id c d s t r q table k l follows o m cycles starts rates controls outcomes = cc

ended_with : (x : Setting) (h : Cycles) (follows : Bool) (node : ℕ)
    → next_start_of (grid_for x.params) (ended_row_of_node x.params (heard_node x h follows node)) ≡ start_of_next x (next_cycle x h ∷ h) node
    → next_rate x.params (heard_node x h follows node) ≡ rate_of_next x (next_cycle x h ∷ h) node
    → next_control x.params (heard_node x h follows node) ≡ control_after x (next_cycle x h ∷ h) node
    → next_outcomes x.params (heard_node x h follows node) ≡ outcomes_after x (next_cycle x h ∷ h) node
    → ended x.params (heard_node x h follows node) ≡ node_of_next x (next_cycle x h ∷ h) follows node
ended_with x h follows node start rate control outcomes =
    node_same node (length h + 1) (suc (length h))
    (next_start_of (grid_for x.params) (ended_row_of_node x.params (heard_node x h follows node))) (start_of_next x (next_cycle x h ∷ h) node)
    (next_rate x.params (heard_node x h follows node)) (rate_of_next x (next_cycle x h ∷ h) node)
    (readings_after x (next_cycle x h ∷ h) node)
    (next_control x.params (heard_node x h follows node)) (control_after x (next_cycle x h ∷ h) node)
    follows
    (next_outcomes x.params (heard_node x h follows node)) (outcomes_after x (next_cycle x h ∷ h) node)
    (add-one (length h)) start rate control outcomes

pub ended_is : (x : Setting) (h : Cycles) → IsRun x h → (follows : Bool) (node : NodeSpec) → Among node (members x h follows)
    → ended x.params (heard_node x h follows node.id) ≡ node_of_next x (next_cycle x h ∷ h) follows node.id
ended_is x h run false node is =
    ended_with x h false node.id (start_told x h run node is) (rate_told x h run node is) (control_told x h run node is) (pair_told x h run node is)
ended_is x h run true node is =
    ended_with x h true node.id (start_followed x h run node is) (rate_followed x h run node is) (control_followed x h run.lawful node is) (pair_followed x h run node is)
