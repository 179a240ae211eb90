-- Keys of one node or one link, and the row that holds.
use Rattle.std.proofs.Common.{◌≡◌, ℕ, ℤ, zero, suc, ◌+◌, ◌-◌, ◌<◌, ◌≤◌, false, Option, Some, None, ap, sym, ◌∙◌, refl, arith}
use Rattle.std.specs.Prelude.{IfSome, IsSome}
use Rattle.std.specs.declared.cmp.Ordering.{Ordering}
use Rattle.std.specs.declared.cmp.Ordering.TheVariants.{Less, Equal, Greater}
use Rattle.std.specs.Ordering.{nat_cmp, ordering_then, is_gt, is_lt}
use Rattle.std.proofs.lemmas.Bool.Decides.{nat_tests}
use Rattle.std.proofs.lemmas.Cmp.{nat_cmp_total, tied_itself}
use Rattle.fr_text.specs.Fields.{or_else}
use Rattle.fr_drift.specs.Keys.{delay_cmp, delay_key, length_cmp, length_key}
use Rattle.fr_drift.specs.Spans.{IsFromTo, IsLastRow, IsFirstRow}
use Rattle.fr_drift.specs.Held.{held, IsNextRow}
use Rattle.fr_drift.specs.declared.keys.DelayKey.{DelayKey}

-- keys that stand by cycles, with none of another kind between them
pub record IsLine {K : Type 0} (cmp : K → K → Ordering) (at : ℕ → K) : Type 0 where
  pub ordered : (a b : ℕ) → cmp (at a) (at b) ≡ nat_cmp a b
  pub between : (a b : ℕ) (key : K) → IsFromTo cmp (at a) (at b) key → (c : ℕ) × (key ≡ at c)

-- what is not greater: of a pair of orders, and of numbers
then-first : (x y : Ordering) → is_gt (ordering_then x y) ≡ false → is_gt x ≡ false
then-first Less y e = refl
then-first Equal y e = refl
then-first Greater y e = e

then-second : (x y : Ordering) → x ≡ Equal → is_gt (ordering_then x y) ≡ false → is_gt y ≡ false
then-second Less y same e = cc
then-second Equal y same e = e
then-second Greater y same e = cc

both-ways : (a b : ℕ) → is_gt (nat_cmp a b) ≡ false → is_gt (nat_cmp b a) ≡ false → b ≡ a
both-ways a b e f = grind (arith, nat_tests)

up-to : (a b : ℕ) → is_gt (nat_cmp a b) ≡ false → a ≤ b
up-to a b e = grind (arith, nat_tests)

not-later : (a b : ℕ) → a ≤ b → is_gt (nat_cmp a b) ≡ false
not-later a b e = grind (arith, nat_tests)

not-less : (a b : ℕ) → is_lt (nat_cmp a b) ≡ false → b ≤ a
not-less a b e = grind (arith, nat_tests)

itself : (a : ℕ) → nat_cmp a a ≡ Equal
itself a = tied_itself nat_cmp_total a

pub length-line : (node : ℕ) → IsLine length_cmp (length_key node)
length-line node = record {
  ordered = λ a b. rw (itself node) refl;
  between = λ a b key h.
      let same = both-ways node key.node (then-first (nat_cmp node key.node) (nat_cmp a key.from) h.from) (then-first (nat_cmp key.node node) (nat_cmp key.from b) h.to) in
      (key.from, λ i. record { node = same i; from = key.from });
}

pub delay-line : (sender receiver : ℕ) → IsLine delay_cmp (delay_key sender receiver)
delay-line sender receiver = record {
  ordered = λ a b. rw (itself sender, itself receiver) refl;
  between = λ a b key h. between a b key h;
}
  where
    between : (a b : ℕ) (key : DelayKey) → IsFromTo delay_cmp (delay_key sender receiver a) (delay_key sender receiver b) key → (c : ℕ) × (key ≡ delay_key sender receiver c)
    between a b key h =
        let one =
        both-ways sender key.sender (then-first (nat_cmp sender key.sender) (ordering_then (nat_cmp receiver key.receiver) (nat_cmp a key.from)) h.from)
        (then-first (nat_cmp key.sender sender) (ordering_then (nat_cmp key.receiver receiver) (nat_cmp key.from b)) h.to)
        in
        let up = then-second (nat_cmp sender key.sender) (ordering_then (nat_cmp receiver key.receiver) (nat_cmp a key.from)) (rw one (itself sender)) h.from in
        let down = then-second (nat_cmp key.sender sender) (ordering_then (nat_cmp key.receiver receiver) (nat_cmp key.from b)) (rw one (itself sender)) h.to in
        let other = both-ways receiver key.receiver (then-first (nat_cmp receiver key.receiver) (nat_cmp a key.from) up) (then-first (nat_cmp key.receiver receiver) (nat_cmp key.from b) down) in
        (key.from, λ i. record { sender = one i; receiver = other i; from = key.from })

-- what lies between two cycles of a line
pub inside : {K : Type 0} {cmp : K → K → Ordering} {at : ℕ → K} → IsLine cmp at → (a b c : ℕ) → a ≤ c → c ≤ b → IsFromTo cmp (at a) (at b) (at c)
inside line a b c low high = record { from = rw (line.ordered a c) (not-later a c low); to = rw (line.ordered c b) (not-later c b high) }

none-or-some : {A : Type 0} (o : Option A) → (IsSome o → ⊥) → o ≡ None
none-or-some None never = refl
none-or-some (Some x) never = absurd (never refl)

-- a row that stands at the cycle holds
held-here : (rows : ℕ → Option ℤ) (c : ℕ) (v : ℤ) → rows c ≡ Some v → held rows c ≡ Some v
unfolding held
held-here rows zero v e = e
held-here rows (suc c) v e = rw e refl

held-over : (rows : ℕ → Option ℤ) (c : ℕ) → rows (suc c) ≡ None → held rows (suc c) ≡ held rows c
unfolding held
held-over rows c e = rw e refl

-- rows after which none stands still hold
pub held-stays : (rows : ℕ → Option ℤ) (a n : ℕ) → ((c : ℕ) → a < c → c ≤ a + n → rows c ≡ None) → held rows (a + n) ≡ held rows a
held-stays rows a zero none = ap (λ (c : ℕ). held rows c) (omega arith)
held-stays rows a (suc n) none =
    let step : a + suc n ≡ suc (a + n) = omega arith in
    let here : rows (suc (a + n)) ≡ None = none (suc (a + n)) (omega arith) (omega arith) in
    ap (λ (c : ℕ). held rows c) step ∙ held-over rows (a + n) here ∙ held-stays rows a n (λ c low high. none c low (omega arith))

-- where no row stands none holds
pub held-none : (rows : ℕ → Option ℤ) (n : ℕ) → ((c : ℕ) → c ≤ n → rows c ≡ None) → held rows n ≡ None
unfolding held
held-none rows zero none = none 0 (omega arith)
held-none rows (suc n) none = rw (none (suc n) (omega arith)) (held-none rows n (λ c high. none c (omega arith)))

pub held-last : (rows : ℕ → Option ℤ) (k n : ℕ) (v : ℤ) → k ≤ n → rows k ≡ Some v → ((c : ℕ) → k < c → c ≤ n → rows c ≡ None) → held rows n ≡ Some v
held-last rows k n v high there later =
    let whole : k + (n - k) ≡ n = omega arith in
    ap (λ (c : ℕ). held rows c) (sym whole) ∙ held-stays rows k (n - k) (λ c low to. later c low (omega (arith, whole))) ∙ held-here rows k v there

module _ {K : Type 0} {cmp : K → K → Ordering} {at : ℕ → K} (line : IsLine cmp at) (rows : K → Option ℤ) where
  -- the last row up to a cycle is the one that holds
  pub last-held : (n : ℕ) (key : K) (ticks : ℤ) → IsLastRow cmp rows (at 0) (at n) (key, ticks) → held (λ c. rows (at c)) n ≡ Some ticks
  last-held n key ticks h =
      let place = line.between 0 n key h.inside in
      let high = up-to place.0 n (rw (place.1, line.ordered place.0 n) at h.inside.to) in
      held-last (λ c. rows (at c)) place.0 n ticks high (rw place.1 at h.there)
      (λ c low to.
      none-or-some (rows (at c))
      (λ some.
      let ahead = rw (place.1, line.ordered place.0 c) at (h.after (at c) (inside line 0 n c (omega arith) to) some) in
      let no : c ≤ place.0 = not-less place.0 c ahead in
      absurd (omega arith)))

  pub last-none : (n : ℕ) → ((key : K) → IsFromTo cmp (at 0) (at n) key → rows key ≡ None) → held (λ c. rows (at c)) n ≡ None
  last-none n none = held-none (λ c. rows (at c)) n (λ c to. none (at c) (inside line 0 n c (omega arith) to))

  -- the first row after a cycle is the next
  pub first-next : (cycle end : ℕ) (key : K) → IsFirstRow cmp rows (at (cycle + 1)) (at end) key → (c : ℕ) × (key ≡ at c) × IsNextRow (λ c. rows (at c)) cycle end c
  first-next cycle end key h =
      let place = line.between (cycle + 1) end key h.inside in
      let low = up-to (cycle + 1) place.0 (rw (place.1, line.ordered (cycle + 1) place.0) at h.inside.from) in
      let high = up-to place.0 end (rw (place.1, line.ordered place.0 end) at h.inside.to) in (
        place.0,
        place.1,
        record {
          after = omega arith;
          within = high;
          quiet = λ c from to.
              none-or-some (rows (at c))
              (λ some.
              let after = rw (place.1, line.ordered place.0 c) at (h.before (at c) (inside line (cycle + 1) end c (omega arith) (omega arith)) some) in
              let no : place.0 ≤ c = up-to place.0 c after in
              absurd (omega arith));
          stands = λ _. rw place.1 at h.there;
        },
      )

  pub first-none : (cycle end : ℕ) → cycle < end → ((key : K) → IsFromTo cmp (at (cycle + 1)) (at end) key → rows key ≡ None) → IsNextRow (λ c. rows (at c)) cycle end end
  first-none cycle end lt none = record {
    after = lt;
    within = omega arith;
    quiet = λ c from to. none (at c) (inside line (cycle + 1) end c (omega arith) (omega arith));
    stands = λ past. absurd (omega arith);
  }

-- rows that are the same hold alike
pub held-same : (f g : ℕ → Option ℤ) (n : ℕ) → ((c : ℕ) → f c ≡ g c) → held f n ≡ held g n
held-same f g n e = λ i. held (λ c. e c i) n

-- what holds of all rows holds of the one that holds
pub held-proper : (P : ℤ → Type 0) (rows : ℕ → Option ℤ) (n : ℕ) → ((c : ℕ) → IfSome (rows c) P) → IfSome (held rows n) P
unfolding held
held-proper P rows zero all = all 0
held-proper P rows (suc n) all = by (rows (suc n)) (all (suc n)) (held-proper P rows n all)
  where
    by : (o : Option ℤ) → IfSome o P → IfSome (held rows n) P → IfSome (or_else o (held rows n)) P
    by None here before = before
    by (Some v) here before = here

-- up to the next row the same one holds
pub next-stays : (rows : ℕ → Option ℤ) (cycle end found c : ℕ) → IsNextRow rows cycle end found → cycle ≤ c → c < found → held rows c ≡ held rows cycle
next-stays rows cycle end found c h low high =
    let whole : cycle + (c - cycle) ≡ c = omega arith in
    ap (λ (k : ℕ). held rows k) (sym whole) ∙ held-stays rows cycle (c - cycle) (λ k from to. h.quiet k from (omega (arith, whole)))

-- rows that are the same have the same next row
pub next-same : (f g : ℕ → Option ℤ) (cycle end found : ℕ) → ((c : ℕ) → f c ≡ g c) → IsNextRow f cycle end found → IsNextRow g cycle end found
next-same f g cycle end found e h = record {
  after = h.after;
  within = h.within;
  quiet = λ c from to. sym (e c) ∙ h.quiet c from to;
  stands = λ before. rw (← e found) (h.stands before);
}
