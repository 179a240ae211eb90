-- Where no node is switched off, the first one leads, and no other ever does.
use Rattle.std.proofs.Common.{◌≡◌, ◌≢◌, ℕ, zero, suc, ◌+◌, ◌*◌, ◌<◌, ◌≤◌, ◌⊎◌, Bool, true, false, Some, None, inl, inr, refl, ap, sym, subst, ◌∙◌, arith}
use Rattle.std.specs.Prelude.{nat_lt, ◌==◌, ◌&&◌, if◌then◌else◌}
use Rattle.std.proofs.lemmas.Bool.{cases_eq, cases_lt}
use Rattle.std.proofs.lemmas.Bool.Decides.{nat_tests}
use Rattle.fr_cluster.specs.Values.{Values}
use Rattle.fr_cluster.specs.Sane.{IsSane}
use Rattle.fr_cluster.specs.Questions.{is_coldstart}
use Rattle.fr_cold.specs.Node.{is_leading, is_resolved, is_turn}
use Rattle.fr_cold.specs.Cluster.{Switches, action_of, begins_at, macroticks_of_cycle, ready_states, states_at}
use Rattle.fr_cold.specs.StartupLaws.{AreConnected, IsFirstOn, IsNumber, LeadsAlone, StaysOn, SwitchesStarters}
use Rattle.fr_cold.specs.declared.state.ColdState.{ColdState}
use Rattle.fr_cold.specs.declared.state.ColdState.TheVariants as state
use Rattle.fr_cold.specs.declared.state.Switch.TheVariants as switch
use Rattle.fr_cold.proofs.KeySlots.{HasKey, action-apart, action-is, action-order, action-within, cycle-from, has-key, own-key}
use Rattle.fr_cold.proofs.StartupTurns.{turn-at, turn-before, turn-between, turn-first}
use Rattle.fr_cold.proofs.Hearing.{hears-none, hears-one, sender-deaf}
use Rattle.fr_cold.proofs.Ages.{hears_at, on-starts, ready-as, sends_at, starts-off}
use Rattle.fr_cold.proofs.StartupSteps.{leading-goes-on, move-due, move-off, move-on, next-deaf, resolving-deaf, sends-due, sends-not_due, sends-resolving}
use Rattle.fr_cold.proofs.First.{Contends, IsLow, IsRival, contends-deaf, contends-hears, contends-quiet, is-equal, low-deaf, low-hears, low-quiet, not-equal, on-or-none, on-starter, rival-deaf, rival-low, rival-sends}

module _ (p : Values) (switches : Switches) (at i : ℕ) (sane : IsSane p) (starters : SwitchesStarters p switches) (joined : AreConnected p) (stays : StaysOn switches) (first : IsFirstOn p switches at i) where
  -- the macrotick of its symbol, that of its first startup frame, and those of the later ones
  abbrev symbol : ℕ
  symbol = at + 2 * macroticks_of_cycle p

  abbrev frame : ℕ → ℕ
  frame n = (at + 2 * macroticks_of_cycle p) + 1 + action_of p i + macroticks_of_cycle p * n

  -- what the first one does from its symbol on
  unfoldable winner : ℕ → ColdState
  winner t = if nat_lt (symbol + 1 + 4 * macroticks_of_cycle p) t then state.Leading symbol else state.Resolving symbol

  -- before any node is switched on
  record IsBefore (t : ℕ) : Type 0 where
    when : t ≤ at
    all_off : (j : ℕ) → states_at p switches t j ≡ state.Off

  -- while the first one listens
  record IsWaiting (t : ℕ) : Type 0 where
    from : at < t
    to : t ≤ symbol
    first_is : states_at p switches t i ≡ state.Listening at
    others : (j : ℕ) → IsNumber j → j ≢ i → IsRival (action_of p i) (action_of p j) at (states_at p switches t j)

  -- until its first startup frame
  record IsContending (t : ℕ) : Type 0 where
    from : symbol < t
    to : t ≤ frame 0
    first_is : states_at p switches t i ≡ state.Resolving symbol
    others : (j : ℕ) → IsNumber j → j ≢ i → Contends (action_of p i) (action_of p j) symbol (states_at p switches t j)

  -- from it on
  record IsWon (t n : ℕ) : Type 0 where
    from : frame n < t
    to : t ≤ frame (suc n)
    first_is : states_at p switches t i ≡ winner t
    others : (j : ℕ) → IsNumber j → j ≢ i → IsLow (frame n) (states_at p switches t j)

  data Phase (t : ℕ) : Type 0 where
    Before : IsBefore t → Phase t
    Waiting : IsWaiting t → Phase t
    Contending : IsContending t → Phase t
    Won : (n : ℕ) → IsWon t n → Phase t

  -- the first one is switched on once
  first-none : (t : ℕ) → t ≢ at → switches t i ≡ None
  first-none t other = by (on-or-none p switches sane starters joined stays t i)
    where
      by : (switches t i ≡ Some switch.On) ⊎ (switches t i ≡ None) → switches t i ≡ None
      by (inl on) = absurd (other (stays.on_once t at i on first.here))
      by (inr none) = none

  first-starter : is_coldstart p i ≡ true
  first-starter = on-starter p switches sane starters joined stays at i first.here

  -- another that is switched on with it has a later action point
  later : (j : ℕ) → IsNumber j → j ≢ i → switches at j ≡ Some switch.On → action_of p i < action_of p j
  later j number other on = by (cases_eq (action_of p i) (action_of p j))
    where
      starts : is_coldstart p j ≡ true
      starts = on-starter p switches sane starters joined stays at j on

      a : HasKey p i
      a = has-key p i sane first-starter

      b : HasKey p j
      b = has-key p j sane starts

      order : action_of p i ≤ action_of p j
      order =
          let slots : a.slot ≤ b.slot = first.least j a.slot b.slot number on (own-key p i a) (own-key p j b) in
          let points = action-order p a.slot b.slot slots in
          omega (arith, points, action-is p i a, action-is p j b)

      by : (action_of p i ≡ action_of p j) ⊎ (action_of p i ≡ action_of p j → ⊥) → action_of p i < action_of p j
      by (inl same) = absurd (other (sym (action-apart p i j sane first-starter starts same)))
      by (inr apart) = let least = order in omega arith

  -- where none sends none hears
  none-hears : (t j : ℕ) → sends_at p switches t i ≡ false → ((k : ℕ) → IsNumber k → k ≢ i → sends_at p switches t k ≡ false) → hears_at p switches t j ≡ false
  none-hears t j quiet others = hears-none p t (ready_states p switches t (states_at p switches t)) j (λ k number. by k number (cases_eq k i))
    where
      by : (k : ℕ) → IsNumber k → (k ≡ i) ⊎ (k ≡ i → ⊥) → sends_at p switches t k ≡ false
      by k number (inl same) = subst (λ (x : ℕ). sends_at p switches t x ≡ false) (sym same) quiet
      by k number (inr other) = others k number other

  -- where the first one sends, another that is on and sends nothing hears it
  hears-first : (t j : ℕ) → IsNumber j → sends_at p switches t i ≡ true → states_at p switches t j ≢ state.Off → sends_at p switches t j ≡ false → hears_at p switches t j ≡ true
  hears-first t j number sends on quiet =
      hears-one p t (ready_states p switches t (states_at p switches t)) j i first.number (joined j i number first.number (λ same. let clash : sends_at p switches t j ≡ true = subst (λ (k : ℕ). sends_at p switches t k ≡ true) (sym same) sends in let never : true ≡ false = sym clash ∙ quiet in cc never) (on-starts p switches starters t j on) first-starter) sends quiet

  -- each macrotick leads from phase to phase
  from-before : (t : ℕ) → IsBefore t → (t < at) ⊎ (at ≤ t) → Phase (suc t)
  unfolding IsRival
  from-before t is (inl early) = Before (record {
    when = omega arith;
    all_off = λ j. off j (on-or-none p switches sane starters joined stays t j);
  })
    where
      off : (j : ℕ) → (switches t j ≡ Some switch.On) ⊎ (switches t j ≡ None) → states_at p switches (suc t) j ≡ state.Off
      off j (inl on) = let late = first.earliest t j on in absurd (omega arith)
      off j (inr none) = (move-off p switches sane t j none (is.all_off j)).next_is
  from-before t is (inr late) = Waiting (record {
    from = omega arith;
    to = let some = cycle-from p sane in let when = is.when in omega arith;
    first_is = subst (λ (x : ℕ). states_at p switches (suc t) i ≡ state.Listening x) now (move-on p switches sane t i (subst (λ (x : ℕ). switches x i ≡ Some switch.On) (sym now) first.here)).next_is;
    others = λ j number other. rival j number other (on-or-none p switches sane starters joined stays t j);
  })
    where
      now : t ≡ at
      now = let when = is.when in omega arith

      rival : (j : ℕ) → IsNumber j → j ≢ i → (switches t j ≡ Some switch.On) ⊎ (switches t j ≡ None) → IsRival (action_of p i) (action_of p j) at (states_at p switches (suc t) j)
      rival j number other (inl on) =
          let same : switches at j ≡ Some switch.On = subst (λ (x : ℕ). switches x j ≡ Some switch.On) now on in
          let both : (at ≤ t) × (t ≡ at → action_of p i < action_of p j) = (late, λ _. later j number other same) in
          subst (IsRival (action_of p i) (action_of p j) at) (sym (move-on p switches sane t j on).next_is) both
      rival j number other (inr none) = subst (IsRival (action_of p i) (action_of p j) at) (sym (move-off p switches sane t j none (is.all_off j)).next_is) tt

  -- the first one while it listens, up to its symbol
  waiting-quiet : (t : ℕ) → IsWaiting t → t < symbol → sends_at p switches t i ≡ false
  waiting-quiet t is early =
      let from = is.from in
      sends-not_due p switches sane t i at (first-none t (λ same. absurd (omega arith))) is.first_is (not-equal t (at + 2 * macroticks_of_cycle p) (λ same. absurd (omega arith)))

  from-waiting : (t : ℕ) → IsWaiting t → (t < symbol) ⊎ (symbol ≤ t) → Phase (suc t)
  from-waiting t is (inl early) = Waiting (record {
    from = let from = is.from in omega arith;
    to = omega arith;
    first_is =
        let from = is.from in
        next-deaf p switches sane t i at (first-none t (λ same. absurd (omega arith))) is.first_is (not-equal t (at + 2 * macroticks_of_cycle p) (λ same. absurd (omega arith))) (deaf i);
    others = λ j number other. rival-deaf p switches sane starters joined stays (action_of p i) (action_of p j) at t j is.from early (deaf j) (is.others j number other);
  })
    where
      deaf : (j : ℕ) → hears_at p switches t j ≡ false
      deaf j = none-hears t j (waiting-quiet t is early) (λ k number other.
          low-quiet p switches sane starters joined stays at t k early
          (rival-low p switches sane starters joined stays (action_of p i) (action_of p k) at (states_at p switches t k) (is.others k number other)))
  from-waiting t is (inr late) = Contending (record {
    from = omega arith;
    to = let to = is.to in omega arith;
    first_is = (move-due p switches sane t i at none is.first_is due (sender-deaf p t (ready_states p switches t (states_at p switches t)) i sends)).next_is ∙ ap (λ (x : ℕ). state.Resolving x) now;
    others = λ j number other.
        subst (λ (x : ℕ). Contends (action_of p i) (action_of p j) x (states_at p switches (suc t) j)) now
        (rival-sends p switches sane starters joined stays (action_of p i) (action_of p j) at t j now (λ on quiet. hears-first t j number sends on quiet) (is.others j number other));
  })
    where
      now : t ≡ symbol
      now = let to = is.to in omega arith

      none : switches t i ≡ None
      none = first-none t (λ same. let some = cycle-from p sane in absurd (omega arith))

      due : (t == at + 2 * macroticks_of_cycle p) ≡ true
      due = is-equal t (at + 2 * macroticks_of_cycle p) now

      sends : sends_at p switches t i ≡ true
      sends = sends-due p switches sane t i at none is.first_is due

  -- the first one between its symbol and the end of collision resolution
  resolving-none : (t : ℕ) → symbol < t → switches t i ≡ None
  resolving-none t from = first-none t (λ same. absurd (omega arith))

  small : action_of p i < macroticks_of_cycle p
  small = action-within p i sane

  from-contending : (t : ℕ) → IsContending t → (t < frame 0) ⊎ (frame 0 ≤ t) → Phase (suc t)
  unfolding winner
  from-contending t is (inl early) = Contending (record {
    from = let from = is.from in omega arith;
    to = omega arith;
    first_is = resolving-deaf p switches sane t i symbol (resolving-none t is.from) is.first_is due (deaf i);
    others = λ j number other.
        contends-deaf p switches sane starters joined stays (action_of p i) symbol t j (let from = is.from in omega arith) (omega arith) small (deaf j) (is.others j number other);
  })
    where
      due : (t == symbol + 1 + 4 * macroticks_of_cycle p) ≡ false
      due = let near = small in not-equal t (symbol + 1 + 4 * macroticks_of_cycle p) (λ same. absurd (omega arith))

      quiet : sends_at p switches t i ≡ false
      quiet = sends-resolving p switches sane t i symbol (resolving-none t is.from) is.first_is due ∙ turn-before (symbol + 1 + action_of p i) (macroticks_of_cycle p) t (omega arith)

      deaf : (j : ℕ) → hears_at p switches t j ≡ false
      deaf j = none-hears t j quiet (λ k number other.
          contends-quiet p switches sane starters joined stays (action_of p i) symbol t k (omega arith) small (is.others k number other))
  from-contending t is (inr late) = Won 0 (record {
    from = omega arith;
    to = let near = small in let to = is.to in omega arith;
    first_is = resolving-deaf p switches sane t i symbol (resolving-none t is.from) is.first_is due (sender-deaf p t (ready_states p switches t (states_at p switches t)) i sends) ∙ still;
    others = λ j number other.
        subst (λ (x : ℕ). IsLow x (states_at p switches (suc t) j)) now
        (contends-hears p switches sane starters joined stays (action_of p i) symbol t j (omega arith) small (λ on. hears-first t j number sends on (quiet j number other)) (is.others j number other));
  })
    where
      now : t ≡ frame 0
      now = let to = is.to in omega arith

      due : (t == symbol + 1 + 4 * macroticks_of_cycle p) ≡ false
      due = let near = small in not-equal t (symbol + 1 + 4 * macroticks_of_cycle p) (λ same. absurd (omega arith))

      first_turn : t ≡ symbol + 1 + action_of p i
      first_turn = omega arith

      sends : sends_at p switches t i ≡ true
      sends =
          sends-resolving p switches sane t i symbol (resolving-none t is.from) is.first_is due
          ∙ subst (λ (x : ℕ). is_turn (symbol + 1 + action_of p i) (macroticks_of_cycle p) x ≡ true) (sym first_turn) (turn-first (symbol + 1 + action_of p i) (macroticks_of_cycle p))

      quiet : (j : ℕ) → IsNumber j → j ≢ i → sends_at p switches t j ≡ false
      quiet j number other = contends-quiet p switches sane starters joined stays (action_of p i) symbol t j (omega arith) small (is.others j number other)

      still : state.Resolving symbol ≡ winner (suc t)
      still = let near = small in let young : nat_lt (symbol + 1 + 4 * macroticks_of_cycle p) (suc t) ≡ false = grind (arith, nat_tests) in rw young refl

  -- the first one from its symbol on: when it sends, and what it does where it hears nothing
  winner-sends : (t : ℕ) → symbol < t → states_at p switches t i ≡ winner t → sends_at p switches t i ≡ is_turn (symbol + 1 + action_of p i) (macroticks_of_cycle p) t
  unfolding winner
  winner-sends t from is = by (nat_lt (symbol + 1 + 4 * macroticks_of_cycle p) t) refl (t == symbol + 1 + 4 * macroticks_of_cycle p) refl
    where
      none : switches t i ≡ None
      none = resolving-none t from

      by : (old : Bool) → nat_lt (symbol + 1 + 4 * macroticks_of_cycle p) t ≡ old → (due : Bool) → (t == symbol + 1 + 4 * macroticks_of_cycle p) ≡ due
          → sends_at p switches t i ≡ is_turn (symbol + 1 + action_of p i) (macroticks_of_cycle p) t
      by true o due d = (leading-goes-on p switches sane t i symbol (ready-as p switches t i None (state.Leading symbol) none (is ∙ rw o refl))).sends_is
      by false o true d = (leading-goes-on p switches sane t i symbol (ready-as p switches t i None (state.Resolving symbol) none (is ∙ rw o refl) ∙ rw d refl)).sends_is
      by false o false d = sends-resolving p switches sane t i symbol none (is ∙ rw o refl) d

  winner-next : (t : ℕ) → symbol < t → hears_at p switches t i ≡ false → states_at p switches t i ≡ winner t → states_at p switches (suc t) i ≡ winner (suc t)
  unfolding winner
  winner-next t from deaf is = by (nat_lt (symbol + 1 + 4 * macroticks_of_cycle p) t) refl (t == symbol + 1 + 4 * macroticks_of_cycle p) refl
    where
      none : switches t i ≡ None
      none = resolving-none t from

      leads : nat_lt (symbol + 1 + 4 * macroticks_of_cycle p) (suc t) ≡ true → state.Leading symbol ≡ winner (suc t)
      leads late = rw late refl

      waits : nat_lt (symbol + 1 + 4 * macroticks_of_cycle p) (suc t) ≡ false → state.Resolving symbol ≡ winner (suc t)
      waits early = rw early refl

      by : (old : Bool) → nat_lt (symbol + 1 + 4 * macroticks_of_cycle p) t ≡ old → (due : Bool) → (t == symbol + 1 + 4 * macroticks_of_cycle p) ≡ due → states_at p switches (suc t) i ≡ winner (suc t)
      by true o due d =
          (leading-goes-on p switches sane t i symbol (ready-as p switches t i None (state.Leading symbol) none (is ∙ rw o refl))).next_is
          ∙ leads (grind (arith, nat_tests))
      by false o true d =
          (leading-goes-on p switches sane t i symbol (ready-as p switches t i None (state.Resolving symbol) none (is ∙ rw o refl) ∙ rw d refl)).next_is
          ∙ leads (grind (arith, nat_tests))
      by false o false d = resolving-deaf p switches sane t i symbol none (is ∙ rw o refl) d deaf ∙ waits (grind (arith, nat_tests))

  from-won : (t n : ℕ) → IsWon t n → (t < frame (suc n)) ⊎ (frame (suc n) ≤ t) → Phase (suc t)
  from-won t n is (inl early) = Won n (record {
    from = let from = is.from in omega arith;
    to = omega arith;
    first_is = winner-next t after (deaf i) is.first_is;
    others = λ j number other. low-deaf p switches sane starters joined stays (frame n) t j (let from = is.from in omega arith) near (deaf j) (is.others j number other);
  })
    where
      more : macroticks_of_cycle p * suc n ≡ macroticks_of_cycle p * n + macroticks_of_cycle p
      more = omega arith

      near : t < frame n + 2 * macroticks_of_cycle p
      near = let m = more in omega arith

      after : symbol < t
      after = let from = is.from in omega arith

      quiet : sends_at p switches t i ≡ false
      quiet = winner-sends t after is.first_is ∙ turn-between (symbol + 1 + action_of p i) (macroticks_of_cycle p) n t is.from (let m = more in omega arith)

      deaf : (j : ℕ) → hears_at p switches t j ≡ false
      deaf j = none-hears t j quiet (λ k number other. low-quiet p switches sane starters joined stays (frame n) t k near (is.others k number other))
  from-won t n is (inr late) = Won (suc n) (record {
    from = omega arith;
    to = let to = is.to in let m = more in omega arith;
    first_is = winner-next t after (sender-deaf p t (ready_states p switches t (states_at p switches t)) i sends) is.first_is;
    others = λ j number other.
        subst (λ (x : ℕ). IsLow x (states_at p switches (suc t) j)) now
        (low-hears p switches sane starters joined stays (frame n) t j near (λ on. hears-first t j number sends on (quiet j number other)) (is.others j number other));
  })
    where
      more : (macroticks_of_cycle p * suc n ≡ macroticks_of_cycle p * n + macroticks_of_cycle p) × (macroticks_of_cycle p * suc (suc n) ≡ macroticks_of_cycle p * n + 2 * macroticks_of_cycle p)
      more = (omega arith, omega arith)

      now : t ≡ frame (suc n)
      now = let to = is.to in omega arith

      near : t < frame n + 2 * macroticks_of_cycle p
      near = let m = more in let some = cycle-from p sane in let e = now in omega arith

      after : symbol < t
      after = let from = is.from in omega arith

      sends : sends_at p switches t i ≡ true
      sends =
          winner-sends t after is.first_is
          ∙ subst (λ (x : ℕ). is_turn (symbol + 1 + action_of p i) (macroticks_of_cycle p) x ≡ true) (sym now) (turn-at (symbol + 1 + action_of p i) (macroticks_of_cycle p) (suc n))

      quiet : (j : ℕ) → IsNumber j → j ≢ i → sends_at p switches t j ≡ false
      quiet j number other = low-quiet p switches sane starters joined stays (frame n) t j near (is.others j number other)

  phase-next : (t : ℕ) → Phase t → Phase (suc t)
  phase-next t (Before is) = from-before t is (cases_lt t at)
  phase-next t (Waiting is) = from-waiting t is (cases_lt t symbol)
  phase-next t (Contending is) = from-contending t is (cases_lt t (frame 0))
  phase-next t (Won n is) = from-won t n is (cases_lt t (frame (suc n)))

  phase : (t : ℕ) → Phase t
  phase zero = Before (record { when = omega arith; all_off = λ j. starts-off p switches j })
  phase (suc t) = phase-next t (phase t)

  -- which of them leads
  abbrev begin : ℕ
  begin = at + 6 * macroticks_of_cycle p + 1

  first-leads : (t : ℕ) → Phase t → is_leading (states_at p switches t i) ≡ nat_lt begin t
  unfolding winner
  first-leads t (Before is) = let when = is.when in let early : nat_lt begin t ≡ false = grind (arith, nat_tests) in ap is_leading (is.all_off i) ∙ sym early
  first-leads t (Waiting is) = let to = is.to in let early : nat_lt begin t ≡ false = grind (arith, nat_tests) in ap is_leading is.first_is ∙ sym early
  first-leads t (Contending is) = let to = is.to in let near = small in let early : nat_lt begin t ≡ false = grind (arith, nat_tests) in ap is_leading is.first_is ∙ sym early
  first-leads t (Won n is) = ap is_leading is.first_is ∙ by (nat_lt (symbol + 1 + 4 * macroticks_of_cycle p) t) refl
    where
      by : (old : Bool) → nat_lt (symbol + 1 + 4 * macroticks_of_cycle p) t ≡ old → is_leading (winner t) ≡ nat_lt begin t
      by true o = let late : nat_lt begin t ≡ true = grind (arith, nat_tests) in rw o (sym late)
      by false o = let early : nat_lt begin t ≡ false = grind (arith, nat_tests) in rw o (sym early)

  rival-not : (own action low : ℕ) (s : ColdState) → IsRival own action low s → is_leading s ≡ false
  unfolding IsRival
  rival-not own action low state.Off is = refl
  rival-not own action low (state.Listening since) is = refl
  rival-not own action low (state.Resolving begun) is = refl
  rival-not own action low (state.Leading begun) is = absurd is

  contends-not : (own action low : ℕ) (s : ColdState) → Contends own action low s → is_leading s ≡ false
  unfolding Contends
  contends-not own action low state.Off is = refl
  contends-not own action low (state.Listening since) is = refl
  contends-not own action low (state.Resolving begun) is = refl
  contends-not own action low (state.Leading begun) is = absurd is

  low-not : (low : ℕ) (s : ColdState) → IsLow low s → is_leading s ≡ false
  unfolding IsLow
  low-not low state.Off is = refl
  low-not low (state.Listening since) is = refl
  low-not low (state.Resolving begun) is = refl
  low-not low (state.Leading begun) is = absurd is

  others-not : (t j : ℕ) → IsNumber j → j ≢ i → Phase t → is_leading (states_at p switches t j) ≡ false
  others-not t j number other (Before is) = ap is_leading (is.all_off j)
  others-not t j number other (Waiting is) = rival-not (action_of p i) (action_of p j) at (states_at p switches t j) (is.others j number other)
  others-not t j number other (Contending is) = contends-not (action_of p i) (action_of p j) symbol (states_at p switches t j) (is.others j number other)
  others-not t j number other (Won n is) = low-not (frame n) (states_at p switches t j) (is.others j number other)

  -- and when it begins
  begins-on : (t j : ℕ) → switches t j ≡ Some switch.On → begins_at p switches t j ≡ false
  unfolding begins_at
  begins-on t j on = rw on refl

  begins-none : (t j : ℕ) (s : ColdState) → switches t j ≡ None → states_at p switches t j ≡ s → begins_at p switches t j ≡ is_resolved (macroticks_of_cycle p) t s
  unfolding begins_at
  begins-none t j s none e = rw (none, e) refl

  low-begins : (low t : ℕ) (s : ColdState) → IsLow low s → is_resolved (macroticks_of_cycle p) t s ≡ false
  unfolding IsLow
  low-begins low t state.Off is = refl
  low-begins low t (state.Listening since) is = refl
  low-begins low t (state.Resolving begun) is = absurd is
  low-begins low t (state.Leading begun) is = refl

  contends-begins : (own action low t : ℕ) (s : ColdState) → t ≤ low + 1 + own → own < macroticks_of_cycle p → Contends own action low s → is_resolved (macroticks_of_cycle p) t s ≡ false
  unfolding Contends
  contends-begins own action low t state.Off near less is = refl
  contends-begins own action low t (state.Listening since) near less is = refl
  contends-begins own action low t (state.Resolving begun) near less is = let now = is.0 in not-equal t (begun + 1 + 4 * macroticks_of_cycle p) (λ same. absurd (omega arith))
  contends-begins own action low t (state.Leading begun) near less is = refl

  others-begin : (t j : ℕ) → IsNumber j → j ≢ i → Phase t → switches t j ≡ None → begins_at p switches t j ≡ false
  others-begin t j number other (Before is) none = begins-none t j state.Off none (is.all_off j)
  others-begin t j number other (Waiting is) none =
      begins-none t j (states_at p switches t j) none refl
      ∙ low-begins at t (states_at p switches t j) (rival-low p switches sane starters joined stays (action_of p i) (action_of p j) at (states_at p switches t j) (is.others j number other))
  others-begin t j number other (Contending is) none =
      begins-none t j (states_at p switches t j) none refl
      ∙ contends-begins (action_of p i) (action_of p j) symbol t (states_at p switches t j) (let to = is.to in omega arith) small (is.others j number other)
  others-begin t j number other (Won n is) none = begins-none t j (states_at p switches t j) none refl ∙ low-begins (frame n) t (states_at p switches t j) (is.others j number other)

  first-begins : (t : ℕ) → Phase t → switches t i ≡ None → begins_at p switches t i ≡ (t == begin)
  unfolding winner
  first-begins t (Before is) none = let when = is.when in begins-none t i state.Off none (is.all_off i) ∙ sym (not-equal t begin (λ same. absurd (omega arith)))
  first-begins t (Waiting is) none = let to = is.to in begins-none t i (state.Listening at) none is.first_is ∙ sym (not-equal t begin (λ same. absurd (omega arith)))
  first-begins t (Contending is) none = begins-none t i (state.Resolving symbol) none is.first_is ∙ ap (λ (x : ℕ). t == x) same
    where
      same : symbol + 1 + 4 * macroticks_of_cycle p ≡ begin
      same = omega arith
  first-begins t (Won n is) none = begins-none t i (winner t) none is.first_is ∙ by (nat_lt (symbol + 1 + 4 * macroticks_of_cycle p) t) refl
    where
      same : symbol + 1 + 4 * macroticks_of_cycle p ≡ begin
      same = omega arith

      by : (old : Bool) → nat_lt (symbol + 1 + 4 * macroticks_of_cycle p) t ≡ old → is_resolved (macroticks_of_cycle p) t (winner t) ≡ (t == begin)
      by true o = let past : (t == begin) ≡ false = grind (arith, nat_tests) in rw o (sym past)
      by false o = rw o (ap (λ (x : ℕ). t == x) same)

  begins-when : (t j : ℕ) → IsNumber j → begins_at p switches t j ≡ ((t == begin) && (j == i))
  begins-when t j number = by (cases_eq j i) (on-or-none p switches sane starters joined stays t j)
    where
      and-false : (b : Bool) → (b && false) ≡ false
      and-false true = refl
      and-false false = refl

      and-true : (b : Bool) → (b && true) ≡ b
      and-true true = refl
      and-true false = refl

      own : (switches t i ≡ Some switch.On) ⊎ (switches t i ≡ None) → begins_at p switches t i ≡ (t == begin)
      own (inl on) = let once : t ≡ at = stays.on_once t at i on first.here in begins-on t i on ∙ sym (not-equal t begin (λ same. absurd (omega arith)))
      own (inr none) = first-begins t (phase t) none

      by : (j ≡ i) ⊎ (j ≡ i → ⊥) → (switches t j ≡ Some switch.On) ⊎ (switches t j ≡ None) → begins_at p switches t j ≡ ((t == begin) && (j == i))
      by (inl same) switch = rw (is-equal j i same, and-true (t == begin)) (ap (λ (x : ℕ). begins_at p switches t x) same ∙ own (on-or-none p switches sane starters joined stays t i))
      by (inr other) (inl on) = begins-on t j on ∙ sym (rw (not-equal j i other) (and-false (t == begin)))
      by (inr other) (inr none) = others-begin t j number other (phase t) none ∙ sym (rw (not-equal j i other) (and-false (t == begin)))

  pub leads-alone : LeadsAlone p switches i (at + 6 * macroticks_of_cycle p + 1)
  leads-alone = record {
    leads = λ t. first-leads t (phase t);
    others = λ t other number apart. others-not t other number apart (phase t);
    begins = λ t other number. begins-when t other number;
  }
