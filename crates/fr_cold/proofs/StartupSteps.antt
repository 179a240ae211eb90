-- One macrotick of a node by what it does before it.
use Rattle.std.proofs.Common.{◌≡◌, ℕ, suc, ◌+◌, ◌*◌, Bool, true, false, Some, None, refl, ◌∙◌, arith}
use Rattle.std.specs.Prelude.{◌==◌}
use Rattle.std.proofs.lemmas.Bool.Decides.{nat_tests}
use Rattle.fr_cluster.specs.Values.{Values}
use Rattle.fr_cluster.specs.Sane.{IsSane}
use Rattle.fr_cold.specs.Node.{heard, is_turn, sent}
use Rattle.fr_cold.specs.Cluster.{Switches, action_of, macroticks_of_cycle, ready_states, states_at}
use Rattle.fr_cold.specs.declared.state.ColdState.{ColdState}
use Rattle.fr_cold.specs.declared.state.ColdState.TheVariants as state
use Rattle.fr_cold.specs.declared.state.Switch.TheVariants as switch
use Rattle.fr_cold.proofs.Ages.{hears_at, next-as, ready-as, sends-as, sends_at}
use Rattle.fr_cold.proofs.KeySlots.{cycle-from}

module _ (p : Values) (switches : Switches) (sane : IsSane p) (t j : ℕ) where
  -- whether it sends at the macrotick, and what it does after it
  pub record Moves (sends : Bool) (next : ColdState) : Type 0 where
    pub sends_is : sends_at p switches t j ≡ sends
    pub next_is : states_at p switches (suc t) j ≡ next

  pub move-on : switches t j ≡ Some switch.On → Moves false (state.Listening t)
  move-on eo = record { sends_is = sends-as p switches t j (state.Listening t) ready ∙ rw not_yet refl; next_is = next-as p switches t j (state.Listening t) (hears_at p switches t j) ready refl ∙ same (hears_at p switches t j) }
    where
      not_yet : (t == t + 2 * macroticks_of_cycle p) ≡ false
      not_yet = let some = cycle-from p sane in grind (arith, nat_tests)

      ready : ready_states p switches t (states_at p switches t) j ≡ state.Listening t
      ready = ready-as p switches t j (Some switch.On) (states_at p switches t j) eo refl

      same : (b : Bool) → heard b t (sent (macroticks_of_cycle p) t (state.Listening t)) ≡ state.Listening t
      same true = rw not_yet refl
      same false = rw not_yet refl

  pub move-off : switches t j ≡ None → states_at p switches t j ≡ state.Off → Moves false state.Off
  move-off eo es = record { sends_is = sends-as p switches t j state.Off ready; next_is = next-as p switches t j state.Off (hears_at p switches t j) ready refl ∙ same (hears_at p switches t j) }
    where
      ready : ready_states p switches t (states_at p switches t) j ≡ state.Off
      ready = ready-as p switches t j None state.Off eo es

      same : (b : Bool) → heard b t state.Off ≡ state.Off
      same true = refl
      same false = refl

  pub move-due : (since : ℕ) → switches t j ≡ None → states_at p switches t j ≡ state.Listening since → (t == since + 2 * macroticks_of_cycle p) ≡ true → hears_at p switches t j ≡ false → Moves true (state.Resolving t)
  move-due since eo es due deaf = record { sends_is = sends-as p switches t j (state.Listening since) ready ∙ rw due refl; next_is = next-as p switches t j (state.Listening since) false ready deaf ∙ rw due refl }
    where
      ready : ready_states p switches t (states_at p switches t) j ≡ state.Listening since
      ready = ready-as p switches t j None (state.Listening since) eo es

  pub sends-due : (since : ℕ) → switches t j ≡ None → states_at p switches t j ≡ state.Listening since → (t == since + 2 * macroticks_of_cycle p) ≡ true → sends_at p switches t j ≡ true
  sends-due since eo es due = sends-as p switches t j (state.Listening since) (ready-as p switches t j None (state.Listening since) eo es) ∙ rw due refl

  pub sends-not_due : (since : ℕ) → switches t j ≡ None → states_at p switches t j ≡ state.Listening since → (t == since + 2 * macroticks_of_cycle p) ≡ false → sends_at p switches t j ≡ false
  sends-not_due since eo es due = sends-as p switches t j (state.Listening since) (ready-as p switches t j None (state.Listening since) eo es) ∙ rw due refl

  pub next-deaf : (since : ℕ) → switches t j ≡ None → states_at p switches t j ≡ state.Listening since → (t == since + 2 * macroticks_of_cycle p) ≡ false → hears_at p switches t j ≡ false
      → states_at p switches (suc t) j ≡ state.Listening since
  next-deaf since eo es due deaf = next-as p switches t j (state.Listening since) false (ready-as p switches t j None (state.Listening since) eo es) deaf ∙ rw due refl

  pub next-anew : (since : ℕ) → switches t j ≡ None → states_at p switches t j ≡ state.Listening since → (t == since + 2 * macroticks_of_cycle p) ≡ false → hears_at p switches t j ≡ true
      → states_at p switches (suc t) j ≡ state.Listening t
  next-anew since eo es due hears = next-as p switches t j (state.Listening since) true (ready-as p switches t j None (state.Listening since) eo es) hears ∙ rw due refl

  -- one that resolves collisions, with some cycles to go
  still : (begun : ℕ) → switches t j ≡ None → states_at p switches t j ≡ state.Resolving begun → (t == begun + 1 + 4 * macroticks_of_cycle p) ≡ false
      → ready_states p switches t (states_at p switches t) j ≡ state.Resolving begun
  still begun eo es due = ready-as p switches t j None (state.Resolving begun) eo es ∙ rw due refl

  pub sends-resolving : (begun : ℕ) → switches t j ≡ None → states_at p switches t j ≡ state.Resolving begun → (t == begun + 1 + 4 * macroticks_of_cycle p) ≡ false
      → sends_at p switches t j ≡ is_turn (begun + 1 + action_of p j) (macroticks_of_cycle p) t
  sends-resolving begun eo es due = sends-as p switches t j (state.Resolving begun) (still begun eo es due)

  pub resolving-deaf : (begun : ℕ) → switches t j ≡ None → states_at p switches t j ≡ state.Resolving begun → (t == begun + 1 + 4 * macroticks_of_cycle p) ≡ false
      → hears_at p switches t j ≡ false → states_at p switches (suc t) j ≡ state.Resolving begun
  resolving-deaf begun eo es due deaf = next-as p switches t j (state.Resolving begun) false (still begun eo es due) deaf

  pub resolving-anew : (begun : ℕ) → switches t j ≡ None → states_at p switches t j ≡ state.Resolving begun → (t == begun + 1 + 4 * macroticks_of_cycle p) ≡ false
      → hears_at p switches t j ≡ true → states_at p switches (suc t) j ≡ state.Listening t
  resolving-anew begun eo es due hears = next-as p switches t j (state.Resolving begun) true (still begun eo es due) hears

  -- one that leads, from this macrotick on or from before
  pub leading-goes-on : (begun : ℕ) → ready_states p switches t (states_at p switches t) j ≡ state.Leading begun
      → Moves (is_turn (begun + 1 + action_of p j) (macroticks_of_cycle p) t) (state.Leading begun)
  leading-goes-on begun ready = record {
    sends_is = sends-as p switches t j (state.Leading begun) ready;
    next_is = next-as p switches t j (state.Leading begun) (hears_at p switches t j) ready refl ∙ same (hears_at p switches t j);
  }
    where
      same : (b : Bool) → heard b t (state.Leading begun) ≡ state.Leading begun
      same true = refl
      same false = refl
