-- Who hears something at a macrotick.
use Rattle.std.proofs.Common.{◌≡◌, ℕ, zero, suc, ◌≤◌, ◌⊎◌, Bool, true, false, inl, inr, refl, arith}
use Rattle.std.specs.Prelude.{not, ◌&&◌, ◌||◌}
use Rattle.std.proofs.lemmas.Bool.{cases_eq}
use Rattle.fr_base.specs.declared.channel.Channel.{Channel}
use Rattle.fr_base.specs.declared.channel.Channel.TheVariants as channel
use Rattle.fr_cluster.specs.Values.{Values}
use Rattle.fr_cluster.specs.Questions.{has_channel, node_of}
use Rattle.fr_cold.specs.Cluster.{States, is_busy, is_hearing, is_sending, is_sharing}
use Rattle.fr_cold.specs.StartupLaws.{IsNumber}

or-right : (x : Bool) → (x || true) ≡ true
or-right true = refl
or-right false = refl

both-parts : (x y : Bool) → (x && y) ≡ true → (x ≡ true) × (y ≡ true)
both-parts true true e = (refl, refl)
both-parts true false e = cc e
both-parts false y e = cc e

either-part : (x y : Bool) → (x || y) ≡ true → (x ≡ true) ⊎ (y ≡ true)
either-part true y e = inl refl
either-part false y e = inr e

hear-some : (s a u b v : Bool) → s ≡ false → ((a ≡ true) × (u ≡ true)) ⊎ ((b ≡ true) × (v ≡ true)) → (not s && ((a && u) || (b && v))) ≡ true
hear-some s a u b v e (inl h) = rw (e, h.0, h.1) refl
hear-some s a u b v e (inr h) = rw (e, h.0, h.1) (or-right (a && u))

hear-no : (s a u b v : Bool) → u ≡ false → v ≡ false → (not s && ((a && u) || (b && v))) ≡ false
hear-no true a u b v e f = refl
hear-no false true u b v e f = rw (e, f) (nothing b)
  where
    nothing : (b : Bool) → (b && false) ≡ false
    nothing true = refl
    nothing false = refl
hear-no false false u true v e f = f
hear-no false false u false v e f = refl

module _ (p : Values) (t : ℕ) (states : States) where
  -- a channel on which one sends is busy
  busy-some : (ch : Channel) (n j : ℕ) → 1 ≤ j → j ≤ n → is_sending p t states j ≡ true → has_channel (node_of p j) ch ≡ true → is_busy p t states ch n ≡ true
  unfolding is_busy
  busy-some ch zero j from to sends has = absurd (omega arith)
  busy-some ch (suc n) j from to sends has = by (cases_eq j (suc n)) (λ below. busy-some ch n j from below sends has)
    where
      by : (j ≡ suc n) ⊎ (j ≡ suc n → ⊥) → (j ≤ n → is_busy p t states ch n ≡ true) → (is_busy p t states ch n || (is_sending p t states (suc n) && has_channel (node_of p (suc n)) ch)) ≡ true
      by (inl same) earlier =
          let s : is_sending p t states (suc n) ≡ true = rw same at sends in
          let h : has_channel (node_of p (suc n)) ch ≡ true = rw same at has in
          rw (s, h) (or-right (is_busy p t states ch n))
      by (inr other) earlier = rw (earlier (omega arith)) refl

  -- one on which none sends is not
  busy-none : (ch : Channel) (n : ℕ) → ((j : ℕ) → 1 ≤ j → j ≤ n → is_sending p t states j ≡ false) → is_busy p t states ch n ≡ false
  unfolding is_busy
  busy-none ch zero none = refl
  busy-none ch (suc n) none = rw (busy-none ch n (λ j from to. none j from (omega arith)), none (suc n) (omega arith) (omega arith)) refl

  -- a node that sends nothing hears another that shares a channel
  pub hears-one : (i j : ℕ) → IsNumber j → is_sharing p i j ≡ true → is_sending p t states j ≡ true → is_sending p t states i ≡ false → is_hearing p t states i ≡ true
  unfolding is_hearing
  hears-one i j number shares sends quiet =
      hear-some (is_sending p t states i) (has_channel (node_of p i) channel.A) (is_busy p t states channel.A 64) (has_channel (node_of p i) channel.B) (is_busy p t states channel.B 64) quiet
      (by (either-part _ _ shares))
    where
      on : (ch : Channel) → (has_channel (node_of p i) ch && has_channel (node_of p j) ch) ≡ true → (has_channel (node_of p i) ch ≡ true) × (is_busy p t states ch 64 ≡ true)
      on ch both = let parts = both-parts (has_channel (node_of p i) ch) (has_channel (node_of p j) ch) both in (parts.0, busy-some ch 64 j number.from number.to sends parts.1)

      by : ((has_channel (node_of p i) channel.A && has_channel (node_of p j) channel.A) ≡ true) ⊎ ((has_channel (node_of p i) channel.B && has_channel (node_of p j) channel.B) ≡ true)
          → ((has_channel (node_of p i) channel.A ≡ true) × (is_busy p t states channel.A 64 ≡ true)) ⊎ ((has_channel (node_of p i) channel.B ≡ true) × (is_busy p t states channel.B 64 ≡ true))
      by (inl a) = inl (on channel.A a)
      by (inr b) = inr (on channel.B b)

  -- where none sends none hears
  pub hears-none : (i : ℕ) → ((j : ℕ) → IsNumber j → is_sending p t states j ≡ false) → is_hearing p t states i ≡ false
  unfolding is_hearing
  hears-none i none =
      hear-no (is_sending p t states i) (has_channel (node_of p i) channel.A) (is_busy p t states channel.A 64) (has_channel (node_of p i) channel.B) (is_busy p t states channel.B 64)
      (busy-none channel.A 64 (λ j from to. none j (record { from = from; to = to })))
      (busy-none channel.B 64 (λ j from to. none j (record { from = from; to = to })))

  -- a node that sends hears nothing
  pub sender-deaf : (i : ℕ) → is_sending p t states i ≡ true → is_hearing p t states i ≡ false
  unfolding is_hearing
  sender-deaf i sends = rw sends refl

  -- what a silent node does not hear was not sent by one that shares a channel
  pub hears-not : (i j : ℕ) → IsNumber j → is_sharing p i j ≡ true → is_sending p t states i ≡ false → is_hearing p t states i ≡ false → is_sending p t states j ≡ false
  hears-not i j number shares quiet deaf = by (is_sending p t states j) refl
    where
      by : (b : Bool) → is_sending p t states j ≡ b → is_sending p t states j ≡ false
      by false e = e
      by true e = let hears : is_hearing p t states i ≡ true = hears-one i j number shares e quiet in cc
