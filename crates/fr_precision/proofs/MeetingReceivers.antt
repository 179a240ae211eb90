-- Two receivers that have values of common senders, more of them than both discard together, and each of others besides: their
-- midpoints lie half as far apart as these values do, those of one sender and any two.
use Rattle.std.proofs.Common.{◌≡◌, ◌+◌, ◌≤◌, ◌<◌, Bool, false, cond, ℤ, pos, List, [], ◌∷◌, ◌++◌, length, All, inl, inr, arith}
use Rattle.std.specs.Prelude.{◌+ℤ◌, ◌-ℤ◌, ◌*ℤ◌, ◌≤ℤ◌, ◌<ℤ◌, int_lt}
use Rattle.std.specs.List.{count_by, AllZip}
use Rattle.std.proofs.lemmas.Bool.{cases_Bool}
use Rattle.std.proofs.lemmas.Int.{ints}
use Rattle.std.proofs.lemmas.List.Elements.{All-head, All-tail}
use Rattle.std.proofs.lemmas.List.Sums.{sum_by-cons}
use Rattle.fr_base.specs.Within.{IsWithin}
use Rattle.fr_midpoint.specs.Midpoint.{discarded, half_of_sum, IsMidpoint}
use Rattle.fr_midpoint.specs.Receivers.{place_at, Hears, Receiver}
use Rattle.fr_midpoint.specs.Said.{lies_after}
use Rattle.fr_midpoint.proofs.Counts.{count_by-cons_no, count_by-cons_yes}
use Rattle.fr_midpoint.proofs.Products.{addz-mulz, mulz-lez}
use Rattle.fr_precision.proofs.CrowdLemmas.{passed_of, some_from, some_to}

-- two receivers, what they have, and how near it lies
pub record Meet {X : Type 0} (P : X → Type 0) (Says Also : X → ℤ → Type 0) (common own other_own : List X) (same cross longest : ℤ) (one other : Receiver) : Type 0 where
  pub lasts : pos 0 <ℤ one.unit
  pub also_lasts : pos 0 <ℤ other.unit
  pub short : one.unit ≤ℤ longest
  pub also_short : other.unit ≤ℤ longest
  pub holds : All P (common ++ own)
  pub also_holds : All P (common ++ other_own)
  pub hears : Hears X Says (common ++ own) one.values
  pub also_hears : Hears X Also (common ++ other_own) other.values
  pub each : (x : X) (v u : ℤ) → P x → Says x v → Also x u → IsWithin same (lies_after one other v u)
  pub all : (x y : X) (v u : ℤ) → P x → P y → Says x v → Also y u → IsWithin cross (lies_after one other v u)
  pub enough : discarded (length one.values) + discarded (length other.values) + 1 ≤ length common

opposite : (bound x y : ℤ) → IsWithin bound (x -ℤ y) → IsWithin bound (y -ℤ x)
opposite bound x y near = record { low = omega (arith, ints, near.high); high = omega (arith, ints, near.low) }

turned : {X : Type 0} (P : X → Type 0) (Says Also : X → ℤ → Type 0) (common own other_own : List X) (same cross longest : ℤ) (one other : Receiver)
    → Meet P Says Also common own other_own same cross longest one other → Meet P Also Says common other_own own same cross longest other one
turned P Says Also common own other_own same cross longest one other meet = record {
  lasts = meet.also_lasts;
  also_lasts = meet.lasts;
  short = meet.also_short;
  also_short = meet.short;
  holds = meet.also_holds;
  also_holds = meet.holds;
  hears = meet.also_hears;
  also_hears = meet.hears;
  each = λ x v u is says also. opposite same (place_at one u) (place_at other v) (meet.each x u v is also says);
  all = λ x y v u is also_is says also. opposite cross (place_at one u) (place_at other v) (meet.all y x u v also_is is also says);
  enough = omega (arith, meet.enough);
}

-- ---- a common sender

-- its two values, which both fail
record Shared {X : Type 0} (P : X → Type 0) (Says Also : X → ℤ → Type 0) (fails also_fails : ℤ → Bool) : Type 0 where
  sender : X
  value : ℤ
  other_value : ℤ
  holds : P sender
  says : Says sender value
  also_says : Also sender other_value
  is : fails value ≡ false
  also_is : also_fails other_value ≡ false

-- where more are common than pass on both sides
shared_of :
    {X : Type 0} (P : X → Type 0) (Says Also : X → ℤ → Type 0) (fails also_fails : ℤ → Bool) (common own other_own : List X) (said other_said : List ℤ)
    → All P (common ++ own) → AllZip Says (common ++ own) said → AllZip Also (common ++ other_own) other_said
    → count_by fails said + count_by also_fails other_said < length common → Shared P Says Also fails also_fails
shared_of P Says Also fails also_fails [] own other_own said other_said all each also few = absurd (omega arith)
shared_of P Says Also fails also_fails (x ∷ xs) own other_own [] other_said all each also few = absurd each
shared_of P Says Also fails also_fails (x ∷ xs) own other_own (v ∷ vs) [] all each also few = absurd also
shared_of P Says Also fails also_fails (x ∷ xs) own other_own (v ∷ vs) (u ∷ us) all each also few = elim (cases_Bool (fails v)) [
  | inl passes ↦
      shared_of P Says Also fails also_fails xs own other_own vs us (All-tail P x (xs ++ own) all) each.1 also.1
      (omega (arith, few, count_by-cons_yes fails v vs passes, sum_by-cons (λ y. cond (also_fails y) 1 0) u us))
  | inr is ↦ elim (cases_Bool (also_fails u)) [
    | inl passes ↦
        shared_of P Says Also fails also_fails xs own other_own vs us (All-tail P x (xs ++ own) all) each.1 also.1
        (omega (arith, few, count_by-cons_no fails v vs is, count_by-cons_yes also_fails u us passes))
    | inr also_is ↦ record {
      sender = x;
      value = v;
      other_value = u;
      holds = All-head P x (xs ++ own) all;
      says = each.0;
      also_says = also.0;
      is = is;
      also_is = also_is;
    }
  ]
]

-- ---- places

place_order : (receiver : Receiver) (v w : ℤ) → pos 0 <ℤ receiver.unit → v ≤ℤ w → place_at receiver v ≤ℤ place_at receiver w
place_order receiver v w lasts le =
    moved receiver.base (v *ℤ receiver.unit) (w *ℤ receiver.unit) (mulz-lez v w receiver.unit le (omega (arith, ints, lasts)))
  where
    moved : (base a b : ℤ) → a ≤ℤ b → (base +ℤ a) ≤ℤ (base +ℤ b)
    moved base a b le = omega (arith, ints)

not_below : (a b : ℤ) → int_lt a b ≡ false → b ≤ℤ a
not_below a b h = omega (arith, ints)

between : (a b c d s : ℤ) → a ≤ℤ b → c ≤ℤ d → IsWithin s (b -ℤ c) → (a -ℤ d) ≤ℤ s
between a b c d s h k near = omega (arith, ints, near.high)

-- two sums that differ by no more than 1 do so by no more than a unit, in units
scaled : (a b c d unit : ℤ) → pos 0 <ℤ unit → (a +ℤ b) ≤ℤ ((c +ℤ d) +ℤ pos 1)
    → ((a *ℤ unit) +ℤ (b *ℤ unit)) ≤ℤ (((c *ℤ unit) +ℤ (d *ℤ unit)) +ℤ unit)
scaled a b c d unit lasts le =
    step (a *ℤ unit) (b *ℤ unit) (c *ℤ unit) (d *ℤ unit) unit ((a +ℤ b) *ℤ unit) ((c +ℤ d) *ℤ unit) (pos 1 *ℤ unit) (((c +ℤ d) +ℤ pos 1) *ℤ unit)
    (addz-mulz a b unit) (addz-mulz c d unit) (addz-mulz (c +ℤ d) (pos 1) unit) (one_times unit)
    (mulz-lez (a +ℤ b) ((c +ℤ d) +ℤ pos 1) unit le (omega (arith, ints, lasts)))
  where
    one_times : (t : ℤ) → pos 1 *ℤ t ≡ t
    one_times t = omega (arith, ints)

    step : (a b c d t ab cd one more : ℤ) → ab ≡ a +ℤ b → cd ≡ c +ℤ d → more ≡ cd +ℤ one → one ≡ t → ab ≤ℤ more → (a +ℤ b) ≤ℤ ((c +ℤ d) +ℤ t)
    step a b c d t ab cd one more e f g h le = omega (arith, ints)

-- halving toward zero takes at most a unit from twice the place
half_doubled : (low high mid : ℤ) → mid ≡ half_of_sum low high
    → ((mid +ℤ mid) ≤ℤ ((low +ℤ high) +ℤ pos 1)) × ((low +ℤ high) ≤ℤ ((mid +ℤ mid) +ℤ pos 1))
half_doubled low high mid half = (omega (arith, ints), omega (arith, ints))

section_sum :
    (same cross longest e m l h t f n k g u : ℤ)
    → (m +ℤ m) ≤ℤ ((l +ℤ h) +ℤ t) → (k +ℤ g) ≤ℤ ((n +ℤ n) +ℤ u) → t ≤ℤ longest → u ≤ℤ longest
    → ((e +ℤ l) -ℤ (f +ℤ g)) ≤ℤ same → ((e +ℤ h) -ℤ (f +ℤ k)) ≤ℤ cross
    → (pos 2 *ℤ ((e +ℤ m) -ℤ (f +ℤ n))) ≤ℤ (same +ℤ cross +ℤ (pos 2 *ℤ longest))
section_sum same cross longest e m l h t f n k g u a b c d i j = omega (arith, ints)

-- ---- two receivers

-- the least that remains lies no further after the other's greatest than the two values of a common sender
low_near : {X : Type 0} (P : X → Type 0) (Says Also : X → ℤ → Type 0) (common own other_own : List X) (same cross longest : ℤ) (one other : Receiver) (mid other_mid : ℤ)
    → Meet P Says Also common own other_own same cross longest one other → (is : IsMidpoint one.values mid) (also : IsMidpoint other.values other_mid)
    → lies_after one other is.low also.high ≤ℤ same
low_near P Says Also common own other_own same cross longest one other mid other_mid meet is also =
    let low : ℤ → Bool = λ v. int_lt v is.low in
    let high : ℤ → Bool = λ u. int_lt also.high u in
    let passed = passed_of Says low (common ++ own) one.values meet.hears in
    let also_passed = passed_of Also high (common ++ other_own) other.values meet.also_hears in
    let pair =
    shared_of P Says Also low high common own other_own meet.hears.said meet.also_hears.said meet.holds meet.hears.each meet.also_hears.each
    (omega (arith, passed.0, also_passed.0, is.least.few_below, also.greatest.few_above, meet.enough)) in
    between (place_at one is.low) (place_at one pair.value) (place_at other pair.other_value) (place_at other also.high) same
    (place_order one is.low pair.value meet.lasts (not_below pair.value is.low pair.is))
    (place_order other pair.other_value also.high meet.also_lasts (not_below also.high pair.other_value pair.also_is))
    (meet.each pair.sender pair.value pair.other_value pair.holds pair.says pair.also_says)

-- the greatest that remains lies no further after the other's least than any two values of senders
high_near : {X : Type 0} (P : X → Type 0) (Says Also : X → ℤ → Type 0) (common own other_own : List X) (same cross longest : ℤ) (one other : Receiver) (mid other_mid : ℤ)
    → Meet P Says Also common own other_own same cross longest one other → (is : IsMidpoint one.values mid) (also : IsMidpoint other.values other_mid)
    → lies_after one other is.high also.low ≤ℤ cross
high_near P Says Also common own other_own same cross longest one other mid other_mid meet is also =
    let from = some_from P Says (common ++ own) one.values is.high meet.holds meet.hears is.greatest in
    let to = some_to P Also (common ++ other_own) other.values also.low meet.also_holds meet.also_hears also.least in
    between (place_at one is.high) (place_at one from.value) (place_at other to.value) (place_at other also.low) cross
    (place_order one is.high from.value meet.lasts (not_below from.value is.high from.is))
    (place_order other to.value also.low meet.also_lasts (not_below also.low to.value to.is))
    (meet.all from.sender to.sender from.value to.value from.holds to.holds from.says to.says)

no_further : {X : Type 0} (P : X → Type 0) (Says Also : X → ℤ → Type 0) (common own other_own : List X) (same cross longest : ℤ) (one other : Receiver) (mid other_mid : ℤ)
    → Meet P Says Also common own other_own same cross longest one other → IsMidpoint one.values mid → IsMidpoint other.values other_mid
    → (pos 2 *ℤ lies_after one other mid other_mid) ≤ℤ (same +ℤ cross +ℤ (pos 2 *ℤ longest))
no_further P Says Also common own other_own same cross longest one other mid other_mid meet is also =
    section_sum same cross longest
    one.base (mid *ℤ one.unit) (is.low *ℤ one.unit) (is.high *ℤ one.unit) one.unit
    other.base (other_mid *ℤ other.unit) (also.low *ℤ other.unit) (also.high *ℤ other.unit) other.unit
    (scaled mid mid is.low is.high one.unit meet.lasts (half_doubled is.low is.high mid is.half).0)
    (scaled also.low also.high other_mid other_mid other.unit meet.also_lasts (half_doubled also.low also.high other_mid also.half).1)
    meet.short meet.also_short
    (low_near P Says Also common own other_own same cross longest one other mid other_mid meet is also)
    (high_near P Says Also common own other_own same cross longest one other mid other_mid meet is also)

both_ways : (a b bound : ℤ) → (pos 2 *ℤ (a -ℤ b)) ≤ℤ bound → (pos 2 *ℤ (b -ℤ a)) ≤ℤ bound → IsWithin bound (pos 2 *ℤ (a -ℤ b))
both_ways a b bound up down = record { low = omega (arith, ints); high = omega (arith, ints) }

pub two_meeting : {X : Type 0} (P : X → Type 0) (Says Also : X → ℤ → Type 0) (common own other_own : List X) (same cross longest : ℤ) (one other : Receiver) (mid other_mid : ℤ)
    → Meet P Says Also common own other_own same cross longest one other → IsMidpoint one.values mid → IsMidpoint other.values other_mid
    → IsWithin (same +ℤ cross +ℤ (pos 2 *ℤ longest)) (pos 2 *ℤ lies_after one other mid other_mid)
two_meeting P Says Also common own other_own same cross longest one other mid other_mid meet is also =
    both_ways (place_at one mid) (place_at other other_mid) (same +ℤ cross +ℤ (pos 2 *ℤ longest))
    (no_further P Says Also common own other_own same cross longest one other mid other_mid meet is also)
    (
    no_further P Also Says common other_own own same cross longest other one other_mid mid
    (turned P Says Also common own other_own same cross longest one other meet) also is
    )
