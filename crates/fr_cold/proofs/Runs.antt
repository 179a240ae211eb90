-- Macroticks at which nothing happens, and the begins that are still to be told.
use Rattle.std.proofs.Common.{◌≡◌, ℕ, zero, suc, ◌+◌, ◌-◌, ◌*◌, ◌<◌, ◌≤◌, Bool, true, false, List, [], ◌∷◌, ◌++◌, None, refl, ap, sym, ◌∙◌, arith}
use Rattle.std.specs.Prelude.{nat_lt, ◌==◌, ◌||◌, if◌then◌else◌}
use Rattle.std.proofs.lemmas.Bool.Decides.{nat_tests}
use Rattle.fr_cluster.specs.Values.{Values}
use Rattle.fr_cluster.specs.Questions.{is_coldstart}
use Rattle.fr_cold.specs.Node.{acts, is_resolved, resolved, sends, sent, switched}
use Rattle.fr_cold.specs.Cluster.{Switches, action_of, after_macrotick, begins_at, macroticks_of_cycle, moved_states, ready_states, states_at}
use Rattle.fr_cold.specs.StartupLaws.{IsNumber}
use Rattle.fr_cold.specs.declared.state.ColdState.{ColdState}
use Rattle.fr_cold.specs.declared.state.ColdState.TheVariants as state
use Rattle.fr_cold.proofs.Ages.{next-as, ready-as, sends-as, sends_at, starts-off}
use Rattle.fr_cold.proofs.Hearing.{hears-none}
use Rattle.fr_cold.specs.View.{PowerView, switch_rows}
use Rattle.fr_cold.specs.Questions.{IsUnswitched, macroticks_of_run, switches_of}
use Rattle.fr_cold.specs.Cold.{Agrees, state_in}
use Rattle.fr_cold.specs.Events.{IsQuietUpTo, ready_at}
use Rattle.fr_cold.specs.Leads.{lead_at, leads_after, leads_at, leads_in, leads_of, leads_or_none}
use Rattle.fr_cold.specs.declared.cold.Lead.{Lead}

neither : (x y : Bool) → (x || y) ≡ false → (x ≡ false) × (y ≡ false)
neither true y e = cc e
neither false y e = (refl, e)

-- a node that does not act stays as it is
idle-ready : (g t : ℕ) (s : ColdState) → is_resolved g t s ≡ false → resolved g t s ≡ s
idle-ready g t state.Off e = refl
idle-ready g t (state.Listening since) e = refl
idle-ready g t (state.Resolving begun) e = rw e refl
idle-ready g t (state.Leading begun) e = refl

idle-sent : (g a t : ℕ) (s : ColdState) → sends g a t s ≡ false → sent g t s ≡ s
idle-sent g a t state.Off e = refl
idle-sent g a t (state.Listening since) e = let due = neither (t == since + 2 * g) false e in rw due.0 refl
idle-sent g a t (state.Resolving begun) e = refl
idle-sent g a t (state.Leading begun) e = refl

-- where no node is switched there is no switch of a coldstart node
no-switch : (p : Values) (v : PowerView) (t node : ℕ) → switch_rows v t node ≡ None → switches_of p v t node ≡ None
unfolding switches_of
no-switch p v t node e = by (is_coldstart p node)
  where
    by : (b : Bool) → (if b then switch_rows v t node else None) ≡ None
    by true = e
    by false = refl

module _ (p : Values) (v : PowerView) (t : ℕ) (s : ℕ → ColdState) (unswitched : IsUnswitched v t) (same : (node : ℕ) → IsNumber node → states_at p (switches_of p v) t node ≡ s node)
    (idle : (node : ℕ) → IsNumber node → acts (macroticks_of_cycle p) (action_of p node) t (s node) ≡ false) where
  idle-now : (node : ℕ) → IsNumber node → ready_at p v t node ≡ s node
  idle-now node number =
      let parts = neither (is_resolved (macroticks_of_cycle p) t (s node)) (sends (macroticks_of_cycle p) (action_of p node) t (s node)) (idle node number) in
      ready-as p (switches_of p v) t node None (s node) (no-switch p v t node (unswitched node number)) (same node number) ∙ idle-ready (macroticks_of_cycle p) t (s node) parts.0

  idle-silent : (node : ℕ) → IsNumber node → sends_at p (switches_of p v) t node ≡ false
  idle-silent node number =
      let parts = neither (is_resolved (macroticks_of_cycle p) t (s node)) (sends (macroticks_of_cycle p) (action_of p node) t (s node)) (idle node number) in
      sends-as p (switches_of p v) t node (s node) (idle-now node number) ∙ parts.1

  -- after it all nodes are as they were
  idle-next : (node : ℕ) → IsNumber node → states_at p (switches_of p v) (suc t) node ≡ s node
  idle-next node number =
      let parts = neither (is_resolved (macroticks_of_cycle p) t (s node)) (sends (macroticks_of_cycle p) (action_of p node) t (s node)) (idle node number) in
      next-as p (switches_of p v) t node (s node) false (idle-now node number)
      (hears-none p t (ready_states p (switches_of p v) t (states_at p (switches_of p v) t)) node (λ j other. idle-silent j other))
      ∙ idle-sent (macroticks_of_cycle p) (action_of p node) t (s node) parts.1

  -- and none began to lead
  idle-begins : (node : ℕ) → IsNumber node → begins_at p (switches_of p v) t node ≡ false
  unfolding begins_at
  idle-begins node number =
      let parts = neither (is_resolved (macroticks_of_cycle p) t (s node)) (sends (macroticks_of_cycle p) (action_of p node) t (s node)) (idle node number) in
      let none : switches_of p v t node ≡ None = no-switch p v t node (unswitched node number) in
      (λ i. is_resolved (macroticks_of_cycle p) t (switched (none i) t (same node number i))) ∙ parts.0

-- the begins of nodes none of which begins
leads-none : (p : Values) (switches : Switches) (t node n : ℕ) → 1 ≤ node → node + n ≤ 65 → ((j : ℕ) → IsNumber j → begins_at p switches t j ≡ false) → leads_at p switches t node n ≡ []
unfolding leads_at
leads-none p switches t node zero from to none = refl
leads-none p switches t node (suc n) from to none =
    rw (none node (record { from = from; to = omega arith })) (leads-none p switches t (suc node) n (omega arith) (omega arith) none)

-- those of a macrotick and of the later ones
leads-more : (p : Values) (switches : Switches) (t left : ℕ) → 1 ≤ left → leads_in p switches t left ≡ leads_at p switches t 1 64 ++ leads_in p switches (suc t) (left - 1)
unfolding leads_in
leads-more p switches t zero some = absurd (omega arith)
leads-more p switches t (suc n) some = let rest : suc n - 1 ≡ n = omega arith in rw rest refl

module _ (p : Values) (v : PowerView) (list : List ColdState) (from to : ℕ) (stands : Agrees list (states_at p (switches_of p v) from)) (quiet : IsQuietUpTo p v list from to 65) where
  -- between two macroticks at which something happens, all nodes stay as they are
  pub quiet-states : (n : ℕ) → from + n ≤ to → (node : ℕ) → IsNumber node → states_at p (switches_of p v) (from + n) node ≡ state_in list node
  quiet-states zero below node number = ap (λ (t : ℕ). states_at p (switches_of p v) t node) (omega arith) ∙ sym (stands node number)
  quiet-states (suc n) below node number =
      let step : from + suc n ≡ suc (from + n) = omega arith in
      ap (λ (t : ℕ). states_at p (switches_of p v) t node) step
      ∙ idle-next p v (from + n) (λ j. state_in list j) (quiet.switches (from + n) (omega arith) (omega arith)) (λ j other. quiet-states n (omega arith) j other)
      (λ j other. quiet.acts (from + n) j (omega arith) (omega arith) other (let most = other.to in omega arith)) node number

  -- and no begin lies between them
  pub quiet-leads : (end n : ℕ) → from + n ≤ to → to ≤ end → leads_in p (switches_of p v) from (end - from) ≡ leads_in p (switches_of p v) (from + n) (end - (from + n))
  quiet-leads end zero below within = let same : from + 0 ≡ from = omega arith in rw same refl
  quiet-leads end (suc n) below within =
      let step : from + suc n ≡ suc (from + n) = omega arith in
      let less : (end - (from + n)) - 1 ≡ end - suc (from + n) = omega arith in
      let none : leads_at p (switches_of p v) (from + n) 1 64 ≡ [] =
      leads-none p (switches_of p v) (from + n) 1 64 (omega arith) (omega arith)
      (λ j other.
      idle-begins p v (from + n) (λ k. state_in list k) (quiet.switches (from + n) (omega arith) (omega arith)) (λ k one. quiet-states n (omega arith) k one)
      (λ k one. quiet.acts (from + n) k (omega arith) (omega arith) one (let most = one.to in omega arith)) j other)
      in
      quiet-leads end n (omega arith) within
      ∙ leads-more p (switches_of p v) (from + n) (end - (from + n)) (omega arith)
      ∙ rw (none, less, step) refl

-- at a later macrotick all nodes are as they were, and the begins up to the end are the same
pub quiet-stands : (p : Values) (v : PowerView) (list : List ColdState) (from to : ℕ) → Agrees list (states_at p (switches_of p v) from) → IsQuietUpTo p v list from to 65 → from ≤ to
    → Agrees list (states_at p (switches_of p v) to)
quiet-stands p v list from to stands quiet later node number =
    let whole : from + (to - from) ≡ to = omega arith in
    sym (ap (λ (t : ℕ). states_at p (switches_of p v) t node) (sym whole) ∙ quiet-states p v list from to stands quiet (to - from) (omega arith) node number)

pub quiet-same : (p : Values) (v : PowerView) (list : List ColdState) (from to end : ℕ) → Agrees list (states_at p (switches_of p v) from) → IsQuietUpTo p v list from to 65 → from ≤ to
    → to ≤ end → leads_in p (switches_of p v) from (end - from) ≡ leads_in p (switches_of p v) to (end - to)
quiet-same p v list from to end stands quiet later within =
    let whole : from + (to - from) ≡ to = omega arith in
    quiet-leads p v list from to stands quiet end (to - from) (omega arith) within ∙ ap (λ (t : ℕ). leads_in p (switches_of p v) t (end - t)) whole

-- the begins from a macrotick on, with all nodes
pub rest-at : (p : Values) (v : PowerView) (t : ℕ) → t ≤ macroticks_of_run p v → leads_after p v t 0 ≡ leads_in p (switches_of p v) t (macroticks_of_run p v - t)
unfolding leads_after leads_in
rest-at p v t within = by (nat_lt t (macroticks_of_run p v)) refl
  where
    by : (b : Bool) → nat_lt t (macroticks_of_run p v) ≡ b
        → leads_or_none (nat_lt t (macroticks_of_run p v)) (leads_at p (switches_of p v) t 1 64 ++ leads_in p (switches_of p v) (suc t) (macroticks_of_run p v - suc t)) ≡ leads_in p (switches_of p v) t (macroticks_of_run p v - t)
    by true e =
        let below : t < macroticks_of_run p v = grind (arith, nat_tests) in
        let less : (macroticks_of_run p v - t) - 1 ≡ macroticks_of_run p v - suc t = omega arith in
        rw e (sym (leads-more p (switches_of p v) t (macroticks_of_run p v - t) (omega arith) ∙ rw less refl))
    by false e =
        let none : macroticks_of_run p v - t ≡ 0 = grind (arith, nat_tests) in
        rw (e, none) (sym nothing)
      where
        nothing : leads_in p (switches_of p v) t 0 ≡ []
        nothing = refl

-- at the end none is left
pub rest-over : (p : Values) (v : PowerView) (t told : ℕ) → macroticks_of_run p v ≤ t → leads_after p v t told ≡ []
unfolding leads_after
rest-over p v t told over = let past : nat_lt t (macroticks_of_run p v) ≡ false = grind (arith, nat_tests) in rw past refl

-- before it, those of the macrotick and of the later ones
pub rest-now : (p : Values) (v : PowerView) (t told : ℕ) → t < macroticks_of_run p v
    → leads_after p v t told ≡ leads_at p (switches_of p v) t (suc told) (64 - told) ++ leads_in p (switches_of p v) (suc t) (macroticks_of_run p v - suc t)
unfolding leads_after
rest-now p v t told below = let ahead : nat_lt t (macroticks_of_run p v) ≡ true = grind (arith, nat_tests) in rw ahead refl

pub rest-start : (p : Values) (v : PowerView) → leads_after p v 0 0 ≡ leads_of p v
unfolding leads_of
rest-start p v = rest-at p v 0 (omega arith) ∙ ap (λ (n : ℕ). leads_in p (switches_of p v) 0 n) (omega arith)

-- a begin is told
pub rest-told : (p : Values) (v : PowerView) (t told node : ℕ) → t < macroticks_of_run p v
    → leads_at p (switches_of p v) t (suc told) (64 - told) ≡ lead_at t node ∷ leads_at p (switches_of p v) t (suc node) (64 - node)
    → leads_after p v t told ≡ lead_at t node ∷ leads_after p v t node
rest-told p v t told node below e = rest-now p v t told below ∙ rw e (ap (λ (rest : List Lead). lead_at t node ∷ rest) (sym (rest-now p v t node below)))

-- or none is left at this macrotick
pub rest-passed : (p : Values) (v : PowerView) (t told : ℕ) → t < macroticks_of_run p v → leads_at p (switches_of p v) t (suc told) (64 - told) ≡ []
    → leads_after p v t told ≡ leads_in p (switches_of p v) (t + 1) (macroticks_of_run p v - (t + 1))
rest-passed p v t told below e = let one : t + 1 ≡ suc t = omega arith in rest-now p v t told below ∙ rw (e, one) refl

-- the nodes are asked one by one whether they begin
pub asked-none : (p : Values) (switches : Switches) (t n : ℕ) → n ≤ 64 → begins_at p switches t n ≡ false → leads_at p switches t n (65 - n) ≡ leads_at p switches t (n + 1) (65 - (n + 1))
unfolding leads_at
asked-none p switches t n few e =
    let more : 65 - n ≡ suc (64 - n) = omega arith in
    let next : n + 1 ≡ suc n = omega arith in
    let left : 65 - suc n ≡ 64 - n = omega arith in
    rw (more, e, next, left) refl

pub asked-one : (p : Values) (switches : Switches) (t n : ℕ) → n ≤ 64 → begins_at p switches t n ≡ true → leads_at p switches t n (65 - n) ≡ lead_at t n ∷ leads_at p switches t (suc n) (64 - n)
unfolding leads_at
asked-one p switches t n few e = let more : 65 - n ≡ suc (64 - n) = omega arith in rw (more, e) refl

pub asked-all : (p : Values) (switches : Switches) (t n : ℕ) → 65 ≤ n → leads_at p switches t n (65 - n) ≡ []
unfolding leads_at
asked-all p switches t n past = let none : 65 - n ≡ 0 = omega arith in rw none refl

pub begins-is : (p : Values) (v : PowerView) (t node : ℕ) (s : ColdState) → s ≡ states_at p (switches_of p v) t node
    → is_resolved (macroticks_of_cycle p) t (switched (switches_of p v t node) t s) ≡ begins_at p (switches_of p v) t node
unfolding begins_at
begins-is p v t node s e = ap (λ (x : ColdState). is_resolved (macroticks_of_cycle p) t (switched (switches_of p v t node) t x)) e

-- the states after one macrotick more
pub passed : (p : Values) (v : PowerView) (t : ℕ) (list : List ColdState) → Agrees list (moved_states p t (ready_at p v t)) → Agrees list (states_at p (switches_of p v) (t + 1))
unfolding states_at after_macrotick
passed p v t list h node number = let one : t + 1 ≡ suc t = omega arith in rw one (h node number)

-- the states before macrotick 0
pub at-start : (p : Values) (v : PowerView) (list : List ColdState) → ((node : ℕ) → IsNumber node → state_in list node ≡ state.Off) → Agrees list (states_at p (switches_of p v) 0)
at-start p v list h node number = h node number ∙ sym (starts-off p (switches_of p v) node)
