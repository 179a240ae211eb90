-- At most one node leads.
use Rattle.std.proofs.Common.{◌≡◌, ℕ, suc, ◌+◌, ◌*◌, ◌<◌, ◌≤◌, ◌⊎◌, Bool, true, false, inl, inr, refl, ap, sym, subst, ◌∙◌, arith}
use Rattle.std.specs.Prelude.{◌==◌, ◌||◌}
use Rattle.std.proofs.lemmas.Bool.{cases_lt}
use Rattle.std.proofs.lemmas.Bool.Decides.{nat_tests}
use Rattle.fr_cluster.specs.Values.{Values}
use Rattle.fr_cluster.specs.Sane.{IsSane}
use Rattle.fr_cluster.specs.Questions.{is_coldstart}
use Rattle.fr_cold.specs.Node.{is_leading, is_turn}
use Rattle.fr_cold.specs.Cluster.{Switches, action_of, macroticks_of_cycle, ready_states, states_at}
use Rattle.fr_cold.specs.StartupLaws.{AreConnected, AtMostOneLeads, IsNumber, SwitchesStarters}
use Rattle.fr_cold.specs.declared.state.ColdState.{ColdState}
use Rattle.fr_cold.specs.declared.state.ColdState.TheVariants as state
use Rattle.fr_cold.proofs.KeySlots.{action-apart, action-within, cycle-from}
use Rattle.fr_cold.proofs.StartupTurns.{turn-below, turn-first, turn-only}
use Rattle.fr_cold.proofs.Ages.{IsAged, Kept, hears_at, kept, next-as, on-starts, sends_at}

or-true : (x : Bool) → (x || true) ≡ true
or-true true = refl
or-true false = refl

-- a node that leads began at some macrotick
pub led : (s : ColdState) → is_leading s ≡ true → (begun : ℕ) × (s ≡ state.Leading begun)
led state.Off e = cc e
led (state.Listening since) e = cc e
led (state.Resolving begun) e = cc e
led (state.Leading begun) e = (begun, refl)

module _ (p : Values) (switches : Switches) (sane : IsSane p) (starters : SwitchesStarters p switches) (joined : AreConnected p) where
  aged : (t i begun : ℕ) → IsNumber i → states_at p switches t i ≡ state.Leading begun → (begun + 1 + 4 * macroticks_of_cycle p < t) × IsAged p switches i begun t
  unfolding Kept
  aged t i begun number e = subst (Kept p switches i t) e (kept p switches sane starters joined t i number)

  starts : (t i begun : ℕ) → states_at p switches t i ≡ state.Leading begun → is_coldstart p i ≡ true
  starts t i begun e = on-starts p switches starters t i (λ off. let never : state.Leading begun ≡ state.Off = sym e ∙ off in cc never)

  -- two that began together send at different macroticks of their first cycle, and each would have heard the other
  together : (t i j begun : ℕ) → IsNumber i → IsNumber j → states_at p switches t i ≡ state.Leading begun → states_at p switches t j ≡ state.Leading begun
      → action_of p i ≡ action_of p j
  together t i j begun number_i number_j at_i at_j =
      let one = aged t i begun number_i at_i in
      let other = aged t j begun number_j at_j in
      let late = one.0 in
      let within_i = action-within p i sane in
      let within_j = action-within p j sane in
      let m = begun + 1 + action_of p i in
      let sends_i : sends_at p switches m i ≡ true = one.1.own m (omega arith) (omega arith) ∙ rw (turn-first m (macroticks_of_cycle p)) (or-true (m == begun)) in
      let sends_j : sends_at p switches m j ≡ true = other.1.joins m i (omega arith) (omega arith) (omega arith) number_i sends_i in
      let past : (m == begun) ≡ false = grind (arith, nat_tests) in
      let turn : is_turn (begun + 1 + action_of p j) (macroticks_of_cycle p) m ≡ true = sym (other.1.own m (omega arith) (omega arith) ∙ rw past refl) ∙ sends_j in
      let same : m ≡ begun + 1 + action_of p j = turn-only (begun + 1 + action_of p j) (macroticks_of_cycle p) m turn (omega arith) in
      omega arith

  -- of two that began at different macroticks the earlier sent in the two cycles before the later began
  apart : (t i j x y : ℕ) → IsNumber i → IsNumber j → states_at p switches t i ≡ state.Leading x → states_at p switches t j ≡ state.Leading y → x < y → ⊥
  apart t i j x y number_i number_j at_i at_j less = by (cases_lt y (x + 2 * macroticks_of_cycle p))
    where
      one : (x + 1 + 4 * macroticks_of_cycle p < t) × IsAged p switches i x t
      one = aged t i x number_i at_i

      other : (y + 1 + 4 * macroticks_of_cycle p < t) × IsAged p switches j y t
      other = aged t j y number_j at_j

      clash : (m : ℕ) → x ≤ m → m < y → y < m + 2 * macroticks_of_cycle p → ((m == x) || is_turn (x + 1 + action_of p i) (macroticks_of_cycle p) m) ≡ true → ⊥
      clash m from below near turn =
          let late = other.0 in
          let sends : sends_at p switches m i ≡ true = one.1.own m from (omega arith) ∙ turn in
          let silent : sends_at p switches m i ≡ false = other.1.silent m i near below number_i in
          let never : true ≡ false = sym sends ∙ silent in
          cc never

      by : (y < x + 2 * macroticks_of_cycle p) ⊎ (x + 2 * macroticks_of_cycle p ≤ y) → ⊥
      by (inl near) = let itself : (x == x) ≡ true = grind (arith, nat_tests) in clash x (omega arith) less near (rw itself refl)
      by (inr far) =
          let some = cycle-from p sane in
          let within = action-within p i sane in
          let turn = turn-below (x + 1 + action_of p i) (macroticks_of_cycle p) y (omega arith) (omega arith) in
          let from = turn.from in
          let late = turn.late in
          clash turn.turn (omega arith) turn.below (omega arith) (rw turn.is_turn (or-true (turn.turn == x)))

  one-leads : (t i j : ℕ) → IsNumber i → IsNumber j → is_leading (states_at p switches t i) ≡ true → is_leading (states_at p switches t j) ≡ true → i ≡ j
  one-leads t i j number_i number_j leads_i leads_j = by (cases_lt a.0 b.0) (cases_lt b.0 a.0)
    where
      a : (begun : ℕ) × (states_at p switches t i ≡ state.Leading begun)
      a = led (states_at p switches t i) leads_i

      b : (begun : ℕ) × (states_at p switches t j ≡ state.Leading begun)
      b = led (states_at p switches t j) leads_j

      by : (a.0 < b.0) ⊎ (b.0 ≤ a.0) → (b.0 < a.0) ⊎ (a.0 ≤ b.0) → i ≡ j
      by (inl less) other = absurd (apart t i j a.0 b.0 number_i number_j a.1 b.1 less)
      by (inr not_less) (inl less) = absurd (apart t j i b.0 a.0 number_j number_i b.1 a.1 less)
      by (inr not_less) (inr not_more) =
          let same : b.0 ≡ a.0 = omega arith in
          let at_j : states_at p switches t j ≡ state.Leading a.0 = b.1 ∙ ap (λ (x : ℕ). state.Leading x) same in
          action-apart p i j sane (starts t i a.0 a.1) (starts t j a.0 at_j) (together t i j a.0 number_i number_j a.1 at_j)

  stays : (b : Bool) (t begun : ℕ) → Rattle.fr_cold.specs.Node.heard b t (state.Leading begun) ≡ state.Leading begun
  stays true t begun = refl
  stays false t begun = refl

  -- a node that leads within a macrotick leads after it
  leads-on : (t i : ℕ) → is_leading (ready_states p switches t (states_at p switches t) i) ≡ true → is_leading (states_at p switches (suc t) i) ≡ true
  leads-on t i leads =
      let a = led (ready_states p switches t (states_at p switches t) i) leads in
      ap is_leading (next-as p switches t i (state.Leading a.0) (hears_at p switches t i) a.1 refl ∙ stays (hears_at p switches t i) t a.0)

  pub at-most-one : AtMostOneLeads p switches
  at-most-one = record {
    between = one-leads;
    within = λ t a b number_a number_b leads_a leads_b. one-leads (suc t) a b number_a number_b (leads-on t a leads_a) (leads-on t b leads_b);
  }
