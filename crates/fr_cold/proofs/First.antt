-- Where no node is switched off, the first one leads: what all nodes do, phase by phase.
use Rattle.std.proofs.Common.{◌≡◌, ◌≢◌, ℕ, suc, ◌+◌, ◌*◌, ◌<◌, ◌≤◌, ◌⊎◌, Bool, true, false, Option, Some, None, inl, inr, refl, sym, subst, ◌∙◌, arith}
use Rattle.std.specs.Prelude.{◌==◌}
use Rattle.std.proofs.lemmas.Bool.{cases_eq}
use Rattle.fr_cluster.specs.Values.{Values}
use Rattle.fr_cluster.specs.Sane.{IsSane}
use Rattle.fr_cluster.specs.Questions.{is_coldstart}
use Rattle.fr_cold.specs.Cluster.{Switches, action_of, macroticks_of_cycle, ready_states, states_at}
use Rattle.fr_cold.specs.StartupLaws.{AreConnected, StaysOn, SwitchesStarters}
use Rattle.fr_cold.specs.declared.state.ColdState.{ColdState}
use Rattle.fr_cold.specs.declared.state.ColdState.TheVariants as state
use Rattle.fr_cold.specs.declared.state.Switch.{Switch}
use Rattle.fr_cold.specs.declared.state.Switch.TheVariants as switch
use Rattle.fr_cold.proofs.KeySlots.{cycle-from}
use Rattle.fr_cold.proofs.StartupTurns.{turn-before}
use Rattle.fr_cold.proofs.Hearing.{sender-deaf}
use Rattle.fr_cold.proofs.Ages.{hears_at, sends_at}
use Rattle.fr_cold.proofs.StartupSteps.{move-due, move-off, move-on, next-anew, next-deaf, resolving-anew, resolving-deaf, sends-due, sends-not_due, sends-resolving}

-- a node that is off, or listens since some macrotick or a later one
unfoldable pub IsLow : ℕ → ColdState → Type 0
IsLow low state.Off = Unit {0}
IsLow low (state.Listening since) = low ≤ since
IsLow low (state.Resolving begun) = ⊥
IsLow low (state.Leading begun) = ⊥

-- the same, and what listens since this very macrotick has a later action point
unfoldable pub IsRival : ℕ → ℕ → ℕ → ColdState → Type 0
IsRival own action low state.Off = Unit {0}
IsRival own action low (state.Listening since) = (low ≤ since) × (since ≡ low → own < action)
IsRival own action low (state.Resolving begun) = ⊥
IsRival own action low (state.Leading begun) = ⊥

-- a node that is off, listens since this macrotick or a later one, or sent the symbol at it and has a later action point
unfoldable pub Contends : ℕ → ℕ → ℕ → ColdState → Type 0
Contends own action low state.Off = Unit {0}
Contends own action low (state.Listening since) = low ≤ since
Contends own action low (state.Resolving begun) = (begun ≡ low) × (own < action)
Contends own action low (state.Leading begun) = ⊥

pub not-equal : (a b : ℕ) → a ≢ b → (a == b) ≡ false
not-equal a b other = grind arith

pub is-equal : (a b : ℕ) → a ≡ b → (a == b) ≡ true
is-equal a b same = grind arith

module _ (p : Values) (switches : Switches) (sane : IsSane p) (starters : SwitchesStarters p switches) (joined : AreConnected p) (stays : StaysOn switches) where
  -- a node is switched on or not at all
  pub on-or-none : (t j : ℕ) → (switches t j ≡ Some switch.On) ⊎ (switches t j ≡ None)
  on-or-none t j = by (switches t j) refl
    where
      by : (o : Option Switch) → switches t j ≡ o → (switches t j ≡ Some switch.On) ⊎ (switches t j ≡ None)
      by None e = inr e
      by (Some switch.On) e = inl e
      by (Some switch.Off) e = absurd (stays.never_off t j e)

  -- a node that is switched is a coldstart node
  pub on-starter : (t j : ℕ) → switches t j ≡ Some switch.On → is_coldstart p j ≡ true
  on-starter t j e = by (is_coldstart p j) refl
    where
      by : (b : Bool) → is_coldstart p j ≡ b → is_coldstart p j ≡ true
      by true is = is
      by false is = let none : switches t j ≡ None = starters t j is in let never : Some switch.On ≡ None = sym e ∙ none in absurd (cc never)

  -- a node that is low sends nothing for two cycles
  pub low-quiet : (low t j : ℕ) → t < low + 2 * macroticks_of_cycle p → IsLow low (states_at p switches t j) → sends_at p switches t j ≡ false
  unfolding IsLow
  low-quiet low t j near is = by (on-or-none t j) (states_at p switches t j) refl is
    where
      by : (switches t j ≡ Some switch.On) ⊎ (switches t j ≡ None) → (s : ColdState) → states_at p switches t j ≡ s → IsLow low s → sends_at p switches t j ≡ false
      by (inl on) s es is = (move-on p switches sane t j on).sends_is
      by (inr none) state.Off es is = (move-off p switches sane t j none es).sends_is
      by (inr none) (state.Listening since) es is = sends-not_due p switches sane t j since none es (not-equal t (since + 2 * macroticks_of_cycle p) (λ same. absurd (omega arith)))
      by (inr none) (state.Resolving begun) es is = absurd is
      by (inr none) (state.Leading begun) es is = absurd is

  -- where it hears nothing it stays low
  pub low-deaf : (low t j : ℕ) → low ≤ t → t < low + 2 * macroticks_of_cycle p → hears_at p switches t j ≡ false → IsLow low (states_at p switches t j) → IsLow low (states_at p switches (suc t) j)
  unfolding IsLow
  low-deaf low t j from near deaf is = by (on-or-none t j) (states_at p switches t j) refl is
    where
      by : (switches t j ≡ Some switch.On) ⊎ (switches t j ≡ None) → (s : ColdState) → states_at p switches t j ≡ s → IsLow low s → IsLow low (states_at p switches (suc t) j)
      by (inl on) s es is = subst (IsLow low) (sym (move-on p switches sane t j on).next_is) from
      by (inr none) state.Off es is = subst (IsLow low) (sym (move-off p switches sane t j none es).next_is) tt
      by (inr none) (state.Listening since) es is =
          subst (IsLow low) (sym (next-deaf p switches sane t j since none es (not-equal t (since + 2 * macroticks_of_cycle p) (λ same. absurd (omega arith))) deaf)) is
      by (inr none) (state.Resolving begun) es is = absurd is
      by (inr none) (state.Leading begun) es is = absurd is

  -- where it hears something, if it is on, it listens anew
  pub low-hears : (low t j : ℕ) → t < low + 2 * macroticks_of_cycle p → (states_at p switches t j ≢ state.Off → hears_at p switches t j ≡ true) → IsLow low (states_at p switches t j)
      → IsLow t (states_at p switches (suc t) j)
  unfolding IsLow
  low-hears low t j near hears is = by (on-or-none t j) (states_at p switches t j) refl is
    where
      by : (switches t j ≡ Some switch.On) ⊎ (switches t j ≡ None) → (s : ColdState) → states_at p switches t j ≡ s → IsLow low s → IsLow t (states_at p switches (suc t) j)
      by (inl on) s es is = let here : t ≤ t = omega arith in subst (IsLow t) (sym (move-on p switches sane t j on).next_is) here
      by (inr none) state.Off es is = subst (IsLow t) (sym (move-off p switches sane t j none es).next_is) tt
      by (inr none) (state.Listening since) es is =
          let there : states_at p switches t j ≢ state.Off = λ off. let never : state.Listening since ≡ state.Off = sym es ∙ off in cc never in
          let here : t ≤ t = omega arith in
          subst (IsLow t) (sym (next-anew p switches sane t j since none es (not-equal t (since + 2 * macroticks_of_cycle p) (λ same. absurd (omega arith))) (hears there))) here
      by (inr none) (state.Resolving begun) es is = absurd is
      by (inr none) (state.Leading begun) es is = absurd is

  -- a rival is low
  pub rival-low : (own action low : ℕ) (s : ColdState) → IsRival own action low s → IsLow low s
  unfolding IsLow IsRival
  rival-low own action low state.Off is = tt
  rival-low own action low (state.Listening since) is = is.0
  rival-low own action low (state.Resolving begun) is = is
  rival-low own action low (state.Leading begun) is = is

  pub rival-deaf : (own action low t j : ℕ) → low < t → t < low + 2 * macroticks_of_cycle p → hears_at p switches t j ≡ false → IsRival own action low (states_at p switches t j)
      → IsRival own action low (states_at p switches (suc t) j)
  unfolding IsRival
  rival-deaf own action low t j from near deaf is = by (on-or-none t j) (states_at p switches t j) refl is
    where
      by : (switches t j ≡ Some switch.On) ⊎ (switches t j ≡ None) → (s : ColdState) → states_at p switches t j ≡ s → IsRival own action low s → IsRival own action low (states_at p switches (suc t) j)
      by (inl on) s es is =
          let later : (low ≤ t) × (t ≡ low → own < action) = (omega arith, λ same. absurd (omega arith)) in
          subst (IsRival own action low) (sym (move-on p switches sane t j on).next_is) later
      by (inr none) state.Off es is = subst (IsRival own action low) (sym (move-off p switches sane t j none es).next_is) tt
      by (inr none) (state.Listening since) es is =
          let low_since = is.0 in
          subst (IsRival own action low) (sym (next-deaf p switches sane t j since none es (not-equal t (since + 2 * macroticks_of_cycle p) (λ same. absurd (omega arith))) deaf)) is
      by (inr none) (state.Resolving begun) es is = absurd is
      by (inr none) (state.Leading begun) es is = absurd is

  -- two cycles after it may send the symbol, or hears one
  pub rival-sends : (own action low t j : ℕ) → t ≡ low + 2 * macroticks_of_cycle p → (states_at p switches t j ≢ state.Off → sends_at p switches t j ≡ false → hears_at p switches t j ≡ true)
      → IsRival own action low (states_at p switches t j) → Contends own action t (states_at p switches (suc t) j)
  unfolding IsRival Contends
  rival-sends own action low t j at hears is = by (on-or-none t j) (states_at p switches t j) refl is
    where
      listens : (since : ℕ) → switches t j ≡ None → states_at p switches t j ≡ state.Listening since → (low ≤ since) × (since ≡ low → own < action) → (since ≡ low) ⊎ (since ≡ low → ⊥)
          → Contends own action t (states_at p switches (suc t) j)
      listens since none es is (inl same) =
          let due : (t == since + 2 * macroticks_of_cycle p) ≡ true = is-equal t (since + 2 * macroticks_of_cycle p) (omega arith) in
          let deaf : hears_at p switches t j ≡ false = sender-deaf p t (ready_states p switches t (states_at p switches t)) j (sends-due p switches sane t j since none es due) in
          let both : (t ≡ t) × (own < action) = (refl, is.1 same) in
          subst (Contends own action t) (sym (move-due p switches sane t j since none es due deaf).next_is) both
      listens since none es is (inr other) =
          let low_since = is.0 in
          let due : (t == since + 2 * macroticks_of_cycle p) ≡ false = not-equal t (since + 2 * macroticks_of_cycle p) (λ same. other (omega arith)) in
          let there : states_at p switches t j ≢ state.Off = λ off. let never : state.Listening since ≡ state.Off = sym es ∙ off in cc never in
          let here : t ≤ t = omega arith in
          subst (Contends own action t) (sym (next-anew p switches sane t j since none es due (hears there (sends-not_due p switches sane t j since none es due)))) here

      by : (switches t j ≡ Some switch.On) ⊎ (switches t j ≡ None) → (s : ColdState) → states_at p switches t j ≡ s → IsRival own action low s → Contends own action t (states_at p switches (suc t) j)
      by (inl on) s es is = let here : t ≤ t = omega arith in subst (Contends own action t) (sym (move-on p switches sane t j on).next_is) here
      by (inr none) state.Off es is = subst (Contends own action t) (sym (move-off p switches sane t j none es).next_is) tt
      by (inr none) (state.Listening since) es is = listens since none es is (cases_eq since low)
      by (inr none) (state.Resolving begun) es is = absurd is
      by (inr none) (state.Leading begun) es is = absurd is

  -- up to the first startup frame of the first one, none of the others sends
  pub contends-quiet : (own low t j : ℕ) → t ≤ low + 1 + own → own < macroticks_of_cycle p → Contends own (action_of p j) low (states_at p switches t j) → sends_at p switches t j ≡ false
  unfolding Contends
  contends-quiet own low t j near small is = by (on-or-none t j) (states_at p switches t j) refl is
    where
      by : (switches t j ≡ Some switch.On) ⊎ (switches t j ≡ None) → (s : ColdState) → states_at p switches t j ≡ s → Contends own (action_of p j) low s → sends_at p switches t j ≡ false
      by (inl on) s es is = (move-on p switches sane t j on).sends_is
      by (inr none) state.Off es is = (move-off p switches sane t j none es).sends_is
      by (inr none) (state.Listening since) es is = sends-not_due p switches sane t j since none es (not-equal t (since + 2 * macroticks_of_cycle p) (λ same. let some = cycle-from p sane in absurd (omega arith)))
      by (inr none) (state.Resolving begun) es is =
          let at = is.0 in
          let later = is.1 in
          sends-resolving p switches sane t j begun none es (not-equal t (begun + 1 + 4 * macroticks_of_cycle p) (λ same. absurd (omega arith)))
          ∙ turn-before (begun + 1 + action_of p j) (macroticks_of_cycle p) t (omega arith)
      by (inr none) (state.Leading begun) es is = absurd is

  pub contends-deaf : (own low t j : ℕ) → low ≤ t → t ≤ low + 1 + own → own < macroticks_of_cycle p → hears_at p switches t j ≡ false → Contends own (action_of p j) low (states_at p switches t j)
      → Contends own (action_of p j) low (states_at p switches (suc t) j)
  unfolding Contends
  contends-deaf own low t j from near small deaf is = by (on-or-none t j) (states_at p switches t j) refl is
    where
      by : (switches t j ≡ Some switch.On) ⊎ (switches t j ≡ None) → (s : ColdState) → states_at p switches t j ≡ s → Contends own (action_of p j) low s
          → Contends own (action_of p j) low (states_at p switches (suc t) j)
      by (inl on) s es is = subst (Contends own (action_of p j) low) (sym (move-on p switches sane t j on).next_is) from
      by (inr none) state.Off es is = subst (Contends own (action_of p j) low) (sym (move-off p switches sane t j none es).next_is) tt
      by (inr none) (state.Listening since) es is =
          subst (Contends own (action_of p j) low) (sym (next-deaf p switches sane t j since none es (not-equal t (since + 2 * macroticks_of_cycle p) (λ same. let some = cycle-from p sane in absurd (omega arith))) deaf)) is
      by (inr none) (state.Resolving begun) es is =
          let at = is.0 in
          subst (Contends own (action_of p j) low) (sym (resolving-deaf p switches sane t j begun none es (not-equal t (begun + 1 + 4 * macroticks_of_cycle p) (λ same. absurd (omega arith))) deaf)) is
      by (inr none) (state.Leading begun) es is = absurd is

  pub contends-hears : (own low t j : ℕ) → t ≤ low + 1 + own → own < macroticks_of_cycle p → (states_at p switches t j ≢ state.Off → hears_at p switches t j ≡ true)
      → Contends own (action_of p j) low (states_at p switches t j) → IsLow t (states_at p switches (suc t) j)
  unfolding Contends IsLow
  contends-hears own low t j near small hears is = by (on-or-none t j) (states_at p switches t j) refl is
    where
      here : t ≤ t
      here = omega arith

      by : (switches t j ≡ Some switch.On) ⊎ (switches t j ≡ None) → (s : ColdState) → states_at p switches t j ≡ s → Contends own (action_of p j) low s → IsLow t (states_at p switches (suc t) j)
      by (inl on) s es is = subst (IsLow t) (sym (move-on p switches sane t j on).next_is) here
      by (inr none) state.Off es is = subst (IsLow t) (sym (move-off p switches sane t j none es).next_is) tt
      by (inr none) (state.Listening since) es is =
          let there : states_at p switches t j ≢ state.Off = λ off. let never : state.Listening since ≡ state.Off = sym es ∙ off in cc never in
          subst (IsLow t) (sym (next-anew p switches sane t j since none es (not-equal t (since + 2 * macroticks_of_cycle p) (λ same. let some = cycle-from p sane in absurd (omega arith))) (hears there))) here
      by (inr none) (state.Resolving begun) es is =
          let at = is.0 in
          let there : states_at p switches t j ≢ state.Off = λ off. let never : state.Resolving begun ≡ state.Off = sym es ∙ off in cc never in
          subst (IsLow t) (sym (resolving-anew p switches sane t j begun none es (not-equal t (begun + 1 + 4 * macroticks_of_cycle p) (λ same. absurd (omega arith))) (hears there))) here
      by (inr none) (state.Leading begun) es is = absurd is
