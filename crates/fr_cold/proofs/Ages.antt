-- What the state of a node tells of the macroticks before: who sent, and who could not have.
use Rattle.std.proofs.Common.{◌≡◌, ◌≢◌, ℕ, zero, suc, ◌+◌, ◌*◌, ◌<◌, ◌≤◌, ◌⊎◌, Bool, true, false, Option, Some, None, inl, inr, refl, ap, sym, subst, ◌∙◌, arith}
use Rattle.std.specs.Prelude.{◌==◌, ◌||◌}
use Rattle.std.proofs.lemmas.Bool.{cases_eq}
use Rattle.std.proofs.lemmas.Bool.Decides.{nat_tests}
use Rattle.fr_cluster.specs.Values.{Values}
use Rattle.fr_cluster.specs.Sane.{IsSane}
use Rattle.fr_cluster.specs.Questions.{is_coldstart}
use Rattle.fr_cold.specs.Node.{heard, is_turn, resolved, sends, sent, switched}
use Rattle.fr_cold.specs.Cluster.{Switches, action_of, after_macrotick, is_hearing, is_sending, macroticks_of_cycle, moved_states, ready_states, states_at}
use Rattle.fr_cold.specs.StartupLaws.{AreConnected, IsNumber, SwitchesStarters}
use Rattle.fr_cold.specs.declared.state.ColdState.{ColdState}
use Rattle.fr_cold.specs.declared.state.ColdState.TheVariants as state
use Rattle.fr_cold.specs.declared.state.Switch.{Switch}
use Rattle.fr_cold.specs.declared.state.Switch.TheVariants as switch
use Rattle.fr_cold.proofs.Hearing.{hears-not, sender-deaf}
use Rattle.fr_cold.proofs.KeySlots.{cycle-from}

-- whether a node sends at a macrotick of the run, and whether it hears something
abbrev pub sends_at : Values → Switches → ℕ → ℕ → Bool
sends_at p switches t i = is_sending p t (ready_states p switches t (states_at p switches t)) i

abbrev pub hears_at : Values → Switches → ℕ → ℕ → Bool
hears_at p switches t i = is_hearing p t (ready_states p switches t (states_at p switches t)) i

module _ (p : Values) (switches : Switches) where
  -- a macrotick by parts, where the switch and the state before are known
  pub ready-as : (t i : ℕ) (o : Option Switch) (s : ColdState) → switches t i ≡ o → states_at p switches t i ≡ s
      → ready_states p switches t (states_at p switches t) i ≡ resolved (macroticks_of_cycle p) t (switched o t s)
  unfolding ready_states
  ready-as t i o s eo es = rw (eo, es) refl

  pub sends-as : (t i : ℕ) (r : ColdState) → ready_states p switches t (states_at p switches t) i ≡ r → sends_at p switches t i ≡ sends (macroticks_of_cycle p) (action_of p i) t r
  unfolding is_sending
  sends-as t i r e = ap (λ (s : ColdState). sends (macroticks_of_cycle p) (action_of p i) t s) e

  pub next-as : (t i : ℕ) (r : ColdState) (hears : Bool) → ready_states p switches t (states_at p switches t) i ≡ r → hears_at p switches t i ≡ hears
      → states_at p switches (suc t) i ≡ heard hears t (sent (macroticks_of_cycle p) t r)
  unfolding states_at after_macrotick moved_states
  next-as t i r hears e h = rw (e, h) refl

  pub starts-off : (i : ℕ) → states_at p switches 0 i ≡ state.Off
  unfolding states_at
  starts-off i = refl

  off-hears : (b : Bool) (t : ℕ) → heard b t state.Off ≡ state.Off
  off-hears true t = refl
  off-hears false t = refl

  -- a node that is no coldstart node stays off
  pub stays-off : SwitchesStarters p switches → (t i : ℕ) → is_coldstart p i ≡ false → states_at p switches t i ≡ state.Off
  stays-off starters zero i idle = starts-off i
  stays-off starters (suc t) i idle =
      next-as t i state.Off (hears_at p switches t i) (ready-as t i None state.Off (starters t i idle) (stays-off starters t i idle)) refl
      ∙ off-hears (hears_at p switches t i) t

  pub off-silent : SwitchesStarters p switches → (t i : ℕ) → is_coldstart p i ≡ false → sends_at p switches t i ≡ false
  off-silent starters t i idle = sends-as t i state.Off (ready-as t i None state.Off (starters t i idle) (stays-off starters t i idle))

  -- a node that is not off is a coldstart node
  pub on-starts : SwitchesStarters p switches → (t i : ℕ) → states_at p switches t i ≢ state.Off → is_coldstart p i ≡ true
  on-starts starters t i on = by (is_coldstart p i) refl
    where
      by : (b : Bool) → is_coldstart p i ≡ b → is_coldstart p i ≡ true
      by true e = e
      by false e = absurd (on (stays-off starters t i e))

  -- none sends between two macroticks
  pub record IsSilent (from to : ℕ) : Type 0 where
    pub none : (x j : ℕ) → from < x → x < to → IsNumber j → sends_at p switches x j ≡ false

  -- a node that sent the symbol at a macrotick: none sent in the two cycles before; in the four after, where one sent this
  -- one did too; and when it sent itself
  pub record IsAged (i begun t : ℕ) : Type 0 where
    pub before : begun < t
    pub silent : (x j : ℕ) → begun < x + 2 * macroticks_of_cycle p → x < begun → IsNumber j → sends_at p switches x j ≡ false
    pub joins : (x j : ℕ) → begun ≤ x → x < t → x ≤ begun + 4 * macroticks_of_cycle p → IsNumber j → sends_at p switches x j ≡ true → sends_at p switches x i ≡ true
    pub own : (x : ℕ) → begun ≤ x → x < t → sends_at p switches x i ≡ ((x == begun) || is_turn (begun + 1 + action_of p i) (macroticks_of_cycle p) x)

  -- what the state before a macrotick tells
  unfoldable pub Kept : ℕ → ℕ → ColdState → Type 0
  Kept i t state.Off = Unit {0}
  Kept i t (state.Listening since) = (since < t) × IsSilent since t
  Kept i t (state.Resolving begun) = (t ≤ begun + 1 + 4 * macroticks_of_cycle p) × IsAged i begun t
  Kept i t (state.Leading begun) = (begun + 1 + 4 * macroticks_of_cycle p < t) × IsAged i begun t

  -- a node that listens anew
  fresh : (i t : ℕ) → Kept i (suc t) (state.Listening t)
  unfolding Kept
  fresh i t = (omega arith, record { none = λ x j low high number. absurd (omega arith) })

  -- one macrotick older
  older : (i begun t : ℕ) → IsAged i begun t → sends_at p switches t i ≡ is_turn (begun + 1 + action_of p i) (macroticks_of_cycle p) t
      → ((j : ℕ) → t ≤ begun + 4 * macroticks_of_cycle p → IsNumber j → sends_at p switches t j ≡ true → sends_at p switches t i ≡ true) → IsAged i begun (suc t)
  older i begun t aged turn here = record {
    before = let before = aged.before in omega arith;
    silent = aged.silent;
    joins = λ x j from to near number sends. joins x j from to near number sends (cases_eq x t);
    own = λ x from to. own x from to (cases_eq x t);
  }
    where
      joins : (x j : ℕ) → begun ≤ x → x < suc t → x ≤ begun + 4 * macroticks_of_cycle p → IsNumber j → sends_at p switches x j ≡ true → (x ≡ t) ⊎ (x ≡ t → ⊥) → sends_at p switches x i ≡ true
      joins x j from to near number sends (inl same) = subst (λ (y : ℕ). sends_at p switches y i ≡ true) (sym same) (here j (rw same at near) number (rw same at sends))
      joins x j from to near number sends (inr other) = aged.joins x j from (omega arith) near number sends

      own : (x : ℕ) → begun ≤ x → x < suc t → (x ≡ t) ⊎ (x ≡ t → ⊥) → sends_at p switches x i ≡ ((x == begun) || is_turn (begun + 1 + action_of p i) (macroticks_of_cycle p) x)
      own x from to (inl same) =
          let later : (t == begun) ≡ false = let before = aged.before in grind (arith, nat_tests) in
          let at_t : sends_at p switches t i ≡ ((t == begun) || is_turn (begun + 1 + action_of p i) (macroticks_of_cycle p) t) = turn ∙ rw later refl in
          subst (λ (y : ℕ). sends_at p switches y i ≡ ((y == begun) || is_turn (begun + 1 + action_of p i) (macroticks_of_cycle p) y)) (sym same) at_t
      own x from to (inr other) = aged.own x from (omega arith)

  module _ (sane : IsSane p) (starters : SwitchesStarters p switches) (joined : AreConnected p) where
    -- where a node that is on neither sends nor hears, none sends
    not-heard : (t i : ℕ) → IsNumber i → states_at p switches t i ≢ state.Off → sends_at p switches t i ≡ false → hears_at p switches t i ≡ false
        → (j : ℕ) → IsNumber j → sends_at p switches t j ≡ false
    not-heard t i number on quiet deaf j other = by (cases_eq i j) (is_coldstart p j) refl
      where
        by : (i ≡ j) ⊎ (i ≡ j → ⊥) → (b : Bool) → is_coldstart p j ≡ b → sends_at p switches t j ≡ false
        by (inl same) b e = subst (λ (k : ℕ). sends_at p switches t k ≡ false) same quiet
        by (inr apart) false e = off-silent starters t j e
        by (inr apart) true e = hears-not p t (ready_states p switches t (states_at p switches t)) i j other (joined i j number other apart (on-starts starters t i on) e) quiet deaf

    -- silence goes on
    more-silent : (t since : ℕ) → IsSilent since t → ((j : ℕ) → IsNumber j → sends_at p switches t j ≡ false) → IsSilent since (suc t)
    more-silent t since silent here = record { none = λ x j low high number. none x j low high number (cases_eq x t) }
      where
        none : (x j : ℕ) → since < x → x < suc t → IsNumber j → (x ≡ t) ⊎ (x ≡ t → ⊥) → sends_at p switches x j ≡ false
        none x j low high number (inl same) = subst (λ (y : ℕ). sends_at p switches y j ≡ false) (sym same) (here j number)
        none x j low high number (inr other) = silent.none x j low (omega arith) number

    -- a node that was just switched on
    keeps-on : (t i : ℕ) → switches t i ≡ Some switch.On → Kept i (suc t) (states_at p switches (suc t) i)
    keeps-on t i eo = subst (Kept i (suc t)) (sym (next ∙ same (hears_at p switches t i))) (fresh i t)
      where
        not_yet : (t == t + 2 * macroticks_of_cycle p) ≡ false
        not_yet = let some = cycle-from p sane in grind (arith, nat_tests)

        same : (b : Bool) → heard b t (sent (macroticks_of_cycle p) t (state.Listening t)) ≡ state.Listening t
        same true = rw not_yet refl
        same false = rw not_yet refl

        next : states_at p switches (suc t) i ≡ heard (hears_at p switches t i) t (sent (macroticks_of_cycle p) t (state.Listening t))
        next = next-as t i (state.Listening t) (hears_at p switches t i) (ready-as t i (Some switch.On) (states_at p switches t i) eo refl) refl

    -- one that is off
    keeps-off : (t i : ℕ) → ready_states p switches t (states_at p switches t) i ≡ state.Off → Kept i (suc t) (states_at p switches (suc t) i)
    unfolding Kept
    keeps-off t i e = subst (Kept i (suc t)) (sym (next-as t i state.Off (hears_at p switches t i) e refl ∙ off-hears (hears_at p switches t i) t)) tt

    -- one that listens
    keeps-listening : (t i since : ℕ) → IsNumber i → switches t i ≡ None → states_at p switches t i ≡ state.Listening since → Kept i t (state.Listening since)
        → Kept i (suc t) (states_at p switches (suc t) i)
    unfolding Kept
    keeps-listening t i since number eo es kept = by (t == since + 2 * macroticks_of_cycle p) refl (hears_at p switches t i) refl
      where
        ready : ready_states p switches t (states_at p switches t) i ≡ state.Listening since
        ready = ready-as t i None (state.Listening since) eo es

        on : states_at p switches t i ≢ state.Off
        on off = let never : state.Listening since ≡ state.Off = sym es ∙ off in cc never

        due-aged : (t == since + 2 * macroticks_of_cycle p) ≡ true → sends_at p switches t i ≡ true → Kept i (suc t) (state.Resolving t)
        due-aged due sends =
            let at : t ≡ since + 2 * macroticks_of_cycle p = grind (arith, nat_tests) in (
              omega arith,
              record {
                before = omega arith;
                silent = λ x j near low other. kept.1.none x j (omega arith) low other;
                joins = λ x j from to near other _. let same : x ≡ t = omega arith in subst (λ (y : ℕ). sends_at p switches y i ≡ true) (sym same) sends;
                own = λ x from to.
                    let same : t ≡ x = omega arith in
                    let itself : (t == t) ≡ true = grind (arith, nat_tests) in
                    subst (λ (y : ℕ). sends_at p switches y i ≡ ((y == t) || is_turn (t + 1 + action_of p i) (macroticks_of_cycle p) y)) same (sends ∙ rw itself refl);
              },
            )

        waits : (t == since + 2 * macroticks_of_cycle p) ≡ false → sends_at p switches t i ≡ false → hears_at p switches t i ≡ false → Kept i (suc t) (state.Listening since)
        waits due sends deaf = (let before = kept.0 in omega arith, more-silent t since kept.1 (not-heard t i number on sends deaf))

        by : (due : Bool) → (t == since + 2 * macroticks_of_cycle p) ≡ due → (hears : Bool) → hears_at p switches t i ≡ hears → Kept i (suc t) (states_at p switches (suc t) i)
        by true due hears h =
            let sends : sends_at p switches t i ≡ true = sends-as t i (state.Listening since) ready ∙ rw due refl in
            let deaf : hears_at p switches t i ≡ false = sender-deaf p t (ready_states p switches t (states_at p switches t)) i sends in
            let next : states_at p switches (suc t) i ≡ state.Resolving t = next-as t i (state.Listening since) false ready deaf ∙ rw due refl in
            subst (Kept i (suc t)) (sym next) (due-aged due sends)
        by false due true h =
            let next : states_at p switches (suc t) i ≡ state.Listening t = next-as t i (state.Listening since) true ready h ∙ rw due refl in
            subst (Kept i (suc t)) (sym next) (fresh i t)
        by false due false h =
            let sends : sends_at p switches t i ≡ false = sends-as t i (state.Listening since) ready ∙ rw due refl in
            let next : states_at p switches (suc t) i ≡ state.Listening since = next-as t i (state.Listening since) false ready h ∙ rw due refl in
            subst (Kept i (suc t)) (sym next) (waits due sends h)

    -- one that leads
    stays-leading : (b : Bool) (t begun : ℕ) → heard b t (state.Leading begun) ≡ state.Leading begun
    stays-leading true t begun = refl
    stays-leading false t begun = refl

    keeps-leading : (t i begun : ℕ) → ready_states p switches t (states_at p switches t) i ≡ state.Leading begun → begun + 4 * macroticks_of_cycle p < t → IsAged i begun t
        → Kept i (suc t) (states_at p switches (suc t) i)
    unfolding Kept
    keeps-leading t i begun ready late aged = subst (Kept i (suc t)) (sym next) here
      where
        next : states_at p switches (suc t) i ≡ state.Leading begun
        next = next-as t i (state.Leading begun) (hears_at p switches t i) ready refl ∙ stays-leading (hears_at p switches t i) t begun

        here : Kept i (suc t) (state.Leading begun)
        here = (omega arith, older i begun t aged (sends-as t i (state.Leading begun) ready) (λ j near number sends. absurd (omega arith)))

    -- one that resolves collisions
    keeps-resolving : (t i begun : ℕ) → IsNumber i → switches t i ≡ None → states_at p switches t i ≡ state.Resolving begun → Kept i t (state.Resolving begun)
        → Kept i (suc t) (states_at p switches (suc t) i)
    unfolding Kept
    keeps-resolving t i begun number eo es kept = by (t == begun + 1 + 4 * macroticks_of_cycle p) refl (hears_at p switches t i) refl
      where
        ready : ready_states p switches t (states_at p switches t) i ≡ resolved (macroticks_of_cycle p) t (state.Resolving begun)
        ready = ready-as t i None (state.Resolving begun) eo es

        on : states_at p switches t i ≢ state.Off
        on off = let never : state.Resolving begun ≡ state.Off = sym es ∙ off in cc never

        joins : hears_at p switches t i ≡ false → (j : ℕ) → IsNumber j → sends_at p switches t j ≡ true → (b : Bool) → sends_at p switches t i ≡ b → sends_at p switches t i ≡ true
        joins deaf j other sends true e = e
        joins deaf j other sends false e = let none : sends_at p switches t j ≡ false = not-heard t i number on e deaf j other in cc

        goes-on : (t == begun + 1 + 4 * macroticks_of_cycle p) ≡ false → hears_at p switches t i ≡ false → ready_states p switches t (states_at p switches t) i ≡ state.Resolving begun → Kept i (suc t) (state.Resolving begun)
        goes-on due deaf is =
            let other : t ≢ begun + 1 + 4 * macroticks_of_cycle p = λ same. let yes : (t == begun + 1 + 4 * macroticks_of_cycle p) ≡ true = grind (arith, nat_tests) in cc in
            let before = kept.0 in (
              omega arith,
              older i begun t kept.1 (sends-as t i (state.Resolving begun) is) (λ j near number sends. joins deaf j number sends (sends_at p switches t i) refl),
            )

        by : (due : Bool) → (t == begun + 1 + 4 * macroticks_of_cycle p) ≡ due → (hears : Bool) → hears_at p switches t i ≡ hears → Kept i (suc t) (states_at p switches (suc t) i)
        by true due hears h =
            let at : t ≡ begun + 1 + 4 * macroticks_of_cycle p = grind (arith, nat_tests) in
            keeps-leading t i begun (ready ∙ rw due refl) (omega arith) kept.1
        by false due true h =
            let is : ready_states p switches t (states_at p switches t) i ≡ state.Resolving begun = ready ∙ rw due refl in
            subst (Kept i (suc t)) (sym (next-as t i (state.Resolving begun) true is h)) (fresh i t)
        by false due false h =
            let is : ready_states p switches t (states_at p switches t) i ≡ state.Resolving begun = ready ∙ rw due refl in
            subst (Kept i (suc t)) (sym (next-as t i (state.Resolving begun) false is h)) (goes-on due h is)

    -- every macrotick keeps what the states tell
    keeps : (t i : ℕ) → IsNumber i → (o : Option Switch) → switches t i ≡ o → (s : ColdState) → states_at p switches t i ≡ s → Kept i t s → Kept i (suc t) (states_at p switches (suc t) i)
    unfolding Kept
    keeps t i number (Some switch.On) eo s es kept = keeps-on t i eo
    keeps t i number (Some switch.Off) eo s es kept = keeps-off t i (ready-as t i (Some switch.Off) s eo es)
    keeps t i number None eo state.Off es kept = keeps-off t i (ready-as t i None state.Off eo es)
    keeps t i number None eo (state.Listening since) es kept = keeps-listening t i since number eo es kept
    keeps t i number None eo (state.Resolving begun) es kept = keeps-resolving t i begun number eo es kept
    keeps t i number None eo (state.Leading begun) es kept = keeps-leader kept
      where
        keeps-leader : Kept i t (state.Leading begun) → Kept i (suc t) (states_at p switches (suc t) i)
        keeps-leader k = keeps-leading t i begun (ready-as t i None (state.Leading begun) eo es) (let late = k.0 in omega arith) k.1

    pub kept : (t i : ℕ) → IsNumber i → Kept i t (states_at p switches t i)
    unfolding Kept
    kept zero i number = subst (Kept i 0) (sym (starts-off i)) nothing
      where
        nothing : Kept i 0 state.Off
        nothing = tt
    kept (suc t) i number = keeps t i number (switches t i) refl (states_at p switches t i) refl (kept t i number)
