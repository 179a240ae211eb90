-- The midpoints of receivers that have values of common senders, value by value.
use Rattle.std.proofs.Common.{◌≡◌, ℕ, ◌+◌, ◌*◌, ◌≤◌, ◌<◌, Bool, true, false, cond, ℤ, pos, List, [], ◌∷◌, ◌++◌, length, get_or, All, inl, inr, ap, sym, ◌∙◌, arith}
use Rattle.std.specs.Prelude.{◌+ℤ◌, ◌-ℤ◌, ◌*ℤ◌, ◌≤ℤ◌, ◌<ℤ◌, int_lt, int_le}
use Rattle.std.specs.List.{count_by, AllZip}
use Rattle.std.proofs.lemmas.Bool.{cases_Bool}
use Rattle.std.proofs.lemmas.Int.{ints, by_lt_z}
use Rattle.std.proofs.lemmas.List.Elements.{All-head, All-tail}
use Rattle.std.proofs.lemmas.List.Sums.{count_by-le-length, sum_by-append, sum_by-cons}
use Rattle.std.proofs.lemmas.List.Sorted.{sum_by-IsPermutation}
use Rattle.std.proofs.lemmas.Slice.Zip.{AllZip-long}
use Rattle.fr_base.specs.Within.{IsBetween, IsWithin}
use Rattle.fr_midpoint.specs.Midpoint.{discarded, half_of_sum, IsMidpoint}
use Rattle.fr_midpoint.specs.Receivers.{place_at, Receiver}
use Rattle.fr_midpoint.specs.Said.{lies_after, AllLieNear, KeepsSaid, OneBetween, SameLieNear, TwoReceiversAlone, TwoReceiversApart}
use Rattle.fr_midpoint.proofs.Counts.{both-le-length, count_by-cons_no, count_by-cons_yes, length-le-both}
use Rattle.fr_midpoint.proofs.Products.{addz-mulz, mulz-lez}

-- ---- how many pass

-- what passes among all values passes among what was said, but for the further values
count_by-said :
    (test : ℤ → Bool) (said : List ℤ) (receiver : Receiver) (keeps : KeepsSaid said receiver)
    → (count_by test said ≤ count_by test receiver.values) × (count_by test receiver.values ≤ count_by test said + length keeps.further)
count_by-said test said receiver keeps =
    let f : ℤ → ℕ = λ x. cond (test x) 1 0 in
    let moved = sum_by-IsPermutation f (said ++ keeps.further) receiver.values keeps.parts in
    let both = sum_by-append f said keeps.further in
    let few = count_by-le-length test keeps.further in
    (omega (arith, moved, both), omega (arith, moved, both, few))

-- ---- a value that was said, and a pair of them

-- one that passes, where some do
record Said (P : ℤ → Type 0) (test : ℤ → Bool) : Type 0 where
  value : ℤ
  holds : P value
  passes : test value ≡ true

some_said : (P : ℤ → Type 0) (test : ℤ → Bool) (said : List ℤ) → All P said → 0 < count_by test said → Said P test
some_said P test [] all some = absurd (omega arith)
some_said P test (v ∷ vs) all some = elim (cases_Bool (test v)) [
  | inl passes ↦ record { value = v; holds = All-head P v vs all; passes = passes }
  | inr fails ↦ some_said P test vs (All-tail P v vs all) (omega (arith, count_by-cons_no test v vs fails))
]

-- two of one sender that both fail, where less than all pass
record Pair (R : ℤ → ℤ → Type 0) (p q : ℤ → Bool) : Type 0 where
  one : ℤ
  other : ℤ
  says : R one other
  one_fails : p one ≡ false
  other_fails : q other ≡ false

some_pair :
    (R : ℤ → ℤ → Type 0) (p q : ℤ → Bool) (said other : List ℤ)
    → AllZip R said other → count_by p said + count_by q other < length said → Pair R p q
some_pair R p q [] other each few = absurd (omega arith)
some_pair R p q (v ∷ vs) [] each few = absurd each
some_pair R p q (v ∷ vs) (u ∷ us) each few = elim (cases_Bool (p v)) [
  | inl passes ↦
      some_pair R p q vs us each.1
      (omega (arith, count_by-cons_yes p v vs passes, sum_by-cons (λ y. cond (q y) 1 0) u us))
  | inr fails ↦ elim (cases_Bool (q u)) [
    | inl passes ↦
        some_pair R p q vs us each.1
        (omega (arith, count_by-cons_no p v vs fails, count_by-cons_yes q u us passes))
    | inr neither ↦ record { one = v; other = u; says = each.0; one_fails = fails; other_fails = neither }
  ]
]

-- ---- the other way round

opposite : (bound x y : ℤ) → IsWithin bound (x -ℤ y) → IsWithin bound (y -ℤ x)
opposite bound x y near = record { low = omega (arith, ints, near.high); high = omega (arith, ints, near.low) }

same_opposite : (one other : Receiver) (same : ℤ) (said other_said : List ℤ) → SameLieNear one other same said other_said → SameLieNear other one same other_said said
same_opposite one other same [] [] each = tt
same_opposite one other same [] (u ∷ us) each = absurd each
same_opposite one other same (v ∷ vs) [] each = absurd each
same_opposite one other same (v ∷ vs) (u ∷ us) each =
    (opposite same (place_at one v) (place_at other u) each.0, same_opposite one other same vs us each.1)

all_opposite : (one other : Receiver) (cross : ℤ) (said other_said : List ℤ) → AllLieNear one other cross said other_said → AllLieNear other one cross other_said said
all_opposite one other cross said other_said all j e within i d short =
    opposite cross (place_at one (get_or said i d)) (place_at other (get_or other_said j e)) (all i d short j e within)

pub within_both : (a b bound : ℤ) → (a -ℤ b) ≤ℤ bound → (b -ℤ a) ≤ℤ bound → IsWithin bound (a -ℤ b)
within_both a b bound up down = record { low = omega (arith, ints); high = omega (arith, ints) }

-- ---- what remains

discarded_twice : (n : ℕ) → 0 < n → 2 * discarded n + 1 ≤ n
discarded_twice n some = grind arith

above_from : (low high x : ℤ) → high <ℤ low → int_lt x low ≡ false → int_lt high x ≡ true
above_from low high x before h = grind (arith, ints)

-- what remains is in order
remains_ordered : (values : List ℤ) (mid : ℤ) (is : IsMidpoint values mid) → is.low ≤ℤ is.high
remains_ordered values mid is =
    by_lt_z
    is.high
    is.low
    (λ before.
    let below = is.least.few_below in
    let above = is.greatest.few_above in
    let some = is.least.more_up_to in
    let within = count_by-le-length (λ x. int_le x is.low) values in
    let all = length-le-both (λ x. int_lt x is.low) (λ x. int_lt is.high x) values (λ x h. above_from is.low is.high x before h) in
    let twice = discarded_twice (length values) (omega arith) in
    absurd (omega arith))
    (λ h. h)

half_between : (low high mid : ℤ) → low ≤ℤ high → mid ≡ half_of_sum low high → (low ≤ℤ mid) × (mid ≤ℤ high)
half_between low high mid order half = (omega (arith, ints), omega (arith, ints))

-- ---- places

half_doubled :
    (low high mid : ℤ) → mid ≡ half_of_sum low high
    → ((mid +ℤ mid) ≤ℤ ((low +ℤ high) +ℤ pos 1)) × ((low +ℤ high) ≤ℤ ((mid +ℤ mid) +ℤ pos 1))
half_doubled low high mid half = (omega (arith, ints), omega (arith, ints))

-- halving toward zero takes at most a unit from twice the place
doubled_place :
    (low high mid unit : ℤ) → pos 0 <ℤ unit → mid ≡ half_of_sum low high
    → (((mid *ℤ unit) +ℤ (mid *ℤ unit)) ≤ℤ (((low *ℤ unit) +ℤ (high *ℤ unit)) +ℤ unit))
    × (((low *ℤ unit) +ℤ (high *ℤ unit)) ≤ℤ (((mid *ℤ unit) +ℤ (mid *ℤ unit)) +ℤ unit))
doubled_place low high mid unit lasts half =
    let near = half_doubled low high mid half in
    let from : pos 0 ≤ℤ unit = omega (arith, ints, lasts) in
    let up = mulz-lez (mid +ℤ mid) ((low +ℤ high) +ℤ pos 1) unit near.0 from in
    let down = mulz-lez (low +ℤ high) ((mid +ℤ mid) +ℤ pos 1) unit near.1 from in
    let twice = addz-mulz mid mid unit in
    let both = addz-mulz low high unit in
    let more = addz-mulz (low +ℤ high) (pos 1) unit in
    let other = addz-mulz (mid +ℤ mid) (pos 1) unit in (
      step (mid *ℤ unit) (low *ℤ unit) (high *ℤ unit) unit ((mid +ℤ mid) *ℤ unit) ((low +ℤ high) *ℤ unit) (pos 1 *ℤ unit) (((low +ℤ high) +ℤ pos 1) *ℤ unit) twice both more (one_times unit) up,
      back (mid *ℤ unit) (low *ℤ unit) (high *ℤ unit) unit ((mid +ℤ mid) *ℤ unit) ((low +ℤ high) *ℤ unit) (pos 1 *ℤ unit) (((mid +ℤ mid) +ℤ pos 1) *ℤ unit) twice both other (one_times unit) down,
    )
  where
    one_times : (t : ℤ) → pos 1 *ℤ t ≡ t
    one_times t = omega (arith, ints)

    step : (m l h t mm lh one more : ℤ) → mm ≡ m +ℤ m → lh ≡ l +ℤ h → more ≡ lh +ℤ one → one ≡ t → mm ≤ℤ more → (m +ℤ m) ≤ℤ ((l +ℤ h) +ℤ t)
    step m l h t mm lh one more a b c d e = omega (arith, ints)

    back : (m l h t mm lh one more : ℤ) → mm ≡ m +ℤ m → lh ≡ l +ℤ h → more ≡ mm +ℤ one → one ≡ t → lh ≤ℤ more → (l +ℤ h) ≤ℤ ((m +ℤ m) +ℤ t)
    back m l h t mm lh one more a b c d e = omega (arith, ints)

place_order : (receiver : Receiver) (v w : ℤ) → pos 0 <ℤ receiver.unit → v ≤ℤ w → place_at receiver v ≤ℤ place_at receiver w
place_order receiver v w lasts le =
    let scaled : (v *ℤ receiver.unit) ≤ℤ (w *ℤ receiver.unit) = mulz-lez v w receiver.unit le (omega (arith, ints, lasts)) in
    moved receiver.base (v *ℤ receiver.unit) (w *ℤ receiver.unit) scaled
  where
    moved : (base a b : ℤ) → a ≤ℤ b → (base +ℤ a) ≤ℤ (base +ℤ b)
    moved base a b le = omega (arith, ints)

at_most : (a b : ℤ) → int_le a b ≡ true → a ≤ℤ b
at_most a b h = omega (arith, ints)

not_below : (a b : ℤ) → int_lt a b ≡ false → b ≤ℤ a
not_below a b h = omega (arith, ints)

through : (a b c : ℤ) → a ≤ℤ b → b ≤ℤ c → a ≤ℤ c
through a b c low high = omega (arith, ints)

between : (a b c d s : ℤ) → a ≤ℤ b → c ≤ℤ d → IsWithin s (b -ℤ c) → (a -ℤ d) ≤ℤ s
between a b c d s h k near = omega (arith, ints, near.high)

-- one receiver's number lies no further after the other's than values of one sender, where less than all lie on the wrong
-- side of them
pair_near : (one other : Receiver) (same : ℤ) (said other_said : List ℤ) (low high : ℤ) → pos 0 <ℤ one.unit → pos 0 <ℤ other.unit → SameLieNear one other same said other_said
    → count_by (λ v. int_lt v low) said + count_by (λ u. int_lt high u) other_said < length said
    → lies_after one other low high ≤ℤ same
pair_near one other same said other_said low high lasts also_lasts each few =
    let pair = some_pair (λ v u. IsWithin same (lies_after one other v u)) (λ v. int_lt v low) (λ u. int_lt high u) said other_said each few in
    between (place_at one low) (place_at one pair.one) (place_at other pair.other) (place_at other high) same
    (place_order one low pair.one lasts (not_below pair.one low pair.one_fails))
    (place_order other pair.other high also_lasts (not_below high pair.other pair.other_fails))
    pair.says

-- ---- beside further values

section_sum :
    (same cross longest e m l h t f n k g u : ℤ)
    → (m +ℤ m) ≤ℤ ((l +ℤ h) +ℤ t) → (k +ℤ g) ≤ℤ ((n +ℤ n) +ℤ u) → t ≤ℤ longest → u ≤ℤ longest
    → ((e +ℤ l) -ℤ (f +ℤ g)) ≤ℤ same → ((e +ℤ h) -ℤ (f +ℤ k)) ≤ℤ cross
    → (pos 2 *ℤ ((e +ℤ m) -ℤ (f +ℤ n))) ≤ℤ (same +ℤ cross +ℤ (pos 2 *ℤ longest))
section_sum same cross longest e m l h t f n k g u a b c d i j = omega (arith, ints)

-- the least that remains lies no further after the other's greatest than two values of one sender
low_near : (said other_said : List ℤ) (same : ℤ) (one other : Receiver) (mid other_mid : ℤ) (is : IsMidpoint one.values mid) (also : IsMidpoint other.values other_mid)
    → KeepsSaid said one → KeepsSaid other_said other → SameLieNear one other same said other_said
    → discarded (length one.values) + discarded (length other.values) + 1 ≤ length said
    → lies_after one other is.low also.high ≤ℤ same
low_near said other_said same one other mid other_mid is also keeps also_keeps each share =
    let low : ℤ → Bool = λ v. int_lt v is.low in
    let high : ℤ → Bool = λ u. int_lt also.high u in
    let counts = count_by-said low said one keeps in
    let also_counts = count_by-said high other_said other also_keeps in
    pair_near one other same said other_said is.low also.high keeps.lasts also_keeps.lasts each
    (omega (arith, counts.0, also_counts.0, is.least.few_below, also.greatest.few_above, share))

-- the greatest that remains lies no further after the other's least than any two values of senders
high_near : (said other_said : List ℤ) (cross : ℤ) (one other : Receiver) (mid other_mid : ℤ) (is : IsMidpoint one.values mid) (also : IsMidpoint other.values other_mid)
    → KeepsSaid said one → KeepsSaid other_said other → AllLieNear one other cross said other_said
    → lies_after one other is.high also.low ≤ℤ cross
high_near said other_said cross one other mid other_mid is also keeps also_keeps all =
    let high : ℤ → Bool = λ v. int_le is.high v in
    let low : ℤ → Bool = λ u. int_le u also.low in
    let counts = count_by-said high said one keeps in
    let also_counts = count_by-said low other_said other also_keeps in
    let found = some_said (λ v. All (λ u. IsWithin cross (lies_after one other v u)) other_said) high said all (omega (arith, counts.1, keeps.few, is.greatest.more_from)) in
    let other_found = some_said (λ u. IsWithin cross (lies_after one other found.value u)) low other_said found.holds (omega (arith, also_counts.1, also_keeps.few, also.least.more_up_to)) in
    between (place_at one is.high) (place_at one found.value) (place_at other other_found.value) (place_at other also.low) cross
    (place_order one is.high found.value keeps.lasts (at_most is.high found.value found.passes))
    (place_order other other_found.value also.low also_keeps.lasts (at_most other_found.value also.low other_found.passes))
    other_found.holds

apart : (said other_said : List ℤ) (same cross longest : ℤ) (one other : Receiver) (mid other_mid : ℤ)
    → KeepsSaid said one → KeepsSaid other_said other → one.unit ≤ℤ longest → other.unit ≤ℤ longest
    → SameLieNear one other same said other_said → AllLieNear one other cross said other_said
    → discarded (length one.values) + discarded (length other.values) + 1 ≤ length said
    → IsMidpoint one.values mid → IsMidpoint other.values other_mid
    → (pos 2 *ℤ lies_after one other mid other_mid) ≤ℤ (same +ℤ cross +ℤ (pos 2 *ℤ longest))
apart said other_said same cross longest one other mid other_mid keeps also_keeps short also_short each all share is also =
    let doubled = doubled_place is.low is.high mid one.unit keeps.lasts is.half in
    let also_doubled = doubled_place also.low also.high other_mid other.unit also_keeps.lasts also.half in
    section_sum same cross longest
    one.base (mid *ℤ one.unit) (is.low *ℤ one.unit) (is.high *ℤ one.unit) one.unit
    other.base (other_mid *ℤ other.unit) (also.low *ℤ other.unit) (also.high *ℤ other.unit) other.unit
    doubled.0 also_doubled.1 short also_short
    (low_near said other_said same one other mid other_mid is also keeps also_keeps each share)
    (high_near said other_said cross one other mid other_mid is also keeps also_keeps all)

both_ways : (a b bound : ℤ) → (pos 2 *ℤ (a -ℤ b)) ≤ℤ bound → (pos 2 *ℤ (b -ℤ a)) ≤ℤ bound → IsWithin bound (pos 2 *ℤ (a -ℤ b))
both_ways a b bound up down = record { low = omega (arith, ints); high = omega (arith, ints) }

pub two_apart_lem : TwoReceiversApart
two_apart_lem said other_said same cross longest one other mid other_mid keeps also_keeps short also_short each all share is also =
    let long = AllZip-long (λ v u. IsWithin same (lies_after one other v u)) said other_said each in
    both_ways (place_at one mid) (place_at other other_mid) (same +ℤ cross +ℤ (pos 2 *ℤ longest))
    (apart said other_said same cross longest one other mid other_mid keeps also_keeps short also_short each all share is also)
    (
    apart other_said said same cross longest other one other_mid mid also_keeps keeps also_short short
    (same_opposite one other same said other_said each) (all_opposite one other cross said other_said all)
    (omega (arith, share, long)) also is
    )

-- ---- without further values

no_further : (x low : ℤ) → int_le x low ≡ true → int_lt low x ≡ false
no_further x low h = grind (arith, ints)

below_not_from : (x low : ℤ) → int_lt x low ≡ true → int_le low x ≡ false
below_not_from x low h = grind (arith, ints)

-- the least that remains for one lies no further after the other's
lows_near : (said other_said : List ℤ) (same : ℤ) (one other : Receiver) (mid other_mid : ℤ) (is : IsMidpoint one.values mid) (also : IsMidpoint other.values other_mid)
    → KeepsSaid said one → KeepsSaid other_said other → SameLieNear one other same said other_said
    → length one.values ≡ length said → length other.values ≡ length said
    → lies_after one other is.low also.low ≤ℤ same
lows_near said other_said same one other mid other_mid is also keeps also_keeps each none also_none =
    let low : ℤ → Bool = λ v. int_lt v is.low in
    let counts = count_by-said low said one keeps in
    let also_counts = count_by-said (λ u. int_lt also.low u) other_said other also_keeps in
    let rest = both-le-length (λ u. int_le u also.low) (λ u. int_lt also.low u) other.values (λ u h. no_further u also.low h) in
    let as_many : discarded (length one.values) ≡ discarded (length other.values) = ap discarded (none ∙ sym also_none) in
    pair_near one other same said other_said is.low also.low keeps.lasts also_keeps.lasts each
    (omega (arith, counts.0, also_counts.0, rest, is.least.few_below, also.least.more_up_to, as_many, also_none))

-- nor does the greatest
highs_near : (said other_said : List ℤ) (same : ℤ) (one other : Receiver) (mid other_mid : ℤ) (is : IsMidpoint one.values mid) (also : IsMidpoint other.values other_mid)
    → KeepsSaid said one → KeepsSaid other_said other → SameLieNear one other same said other_said
    → length one.values ≡ length said → length other.values ≡ length said
    → lies_after one other is.high also.high ≤ℤ same
highs_near said other_said same one other mid other_mid is also keeps also_keeps each none also_none =
    let high : ℤ → Bool = λ u. int_lt also.high u in
    let counts = count_by-said (λ v. int_lt v is.high) said one keeps in
    let also_counts = count_by-said high other_said other also_keeps in
    let rest = both-le-length (λ v. int_lt v is.high) (λ v. int_le is.high v) one.values (λ v h. below_not_from v is.high h) in
    let as_many : discarded (length one.values) ≡ discarded (length other.values) = ap discarded (none ∙ sym also_none) in
    pair_near one other same said other_said is.high also.high keeps.lasts also_keeps.lasts each
    (omega (arith, counts.0, also_counts.0, rest, is.greatest.more_from, also.greatest.few_above, as_many, none))

alone_sum :
    (same longest e m l h t f n k g u : ℤ)
    → (m +ℤ m) ≤ℤ ((l +ℤ h) +ℤ t) → (k +ℤ g) ≤ℤ ((n +ℤ n) +ℤ u) → t ≤ℤ longest → u ≤ℤ longest
    → ((e +ℤ l) -ℤ (f +ℤ k)) ≤ℤ same → ((e +ℤ h) -ℤ (f +ℤ g)) ≤ℤ same
    → ((e +ℤ m) -ℤ (f +ℤ n)) ≤ℤ (same +ℤ longest)
alone_sum same longest e m l h t f n k g u a b c d i j = omega (arith, ints)

alone : (said other_said : List ℤ) (same longest : ℤ) (one other : Receiver) (mid other_mid : ℤ)
    → KeepsSaid said one → KeepsSaid other_said other → one.unit ≤ℤ longest → other.unit ≤ℤ longest
    → SameLieNear one other same said other_said
    → length one.values ≡ length said → length other.values ≡ length said
    → IsMidpoint one.values mid → IsMidpoint other.values other_mid
    → lies_after one other mid other_mid ≤ℤ (same +ℤ longest)
alone said other_said same longest one other mid other_mid keeps also_keeps short also_short each none also_none is also =
    let doubled = doubled_place is.low is.high mid one.unit keeps.lasts is.half in
    let also_doubled = doubled_place also.low also.high other_mid other.unit also_keeps.lasts also.half in
    alone_sum same longest
    one.base (mid *ℤ one.unit) (is.low *ℤ one.unit) (is.high *ℤ one.unit) one.unit
    other.base (other_mid *ℤ other.unit) (also.low *ℤ other.unit) (also.high *ℤ other.unit) other.unit
    doubled.0 also_doubled.1 short also_short
    (lows_near said other_said same one other mid other_mid is also keeps also_keeps each none also_none)
    (highs_near said other_said same one other mid other_mid is also keeps also_keeps each none also_none)

pub two_alone_lem : TwoReceiversAlone
two_alone_lem said other_said same longest one other mid other_mid keeps also_keeps short also_short each none also_none is also =
    let long = AllZip-long (λ v u. IsWithin same (lies_after one other v u)) said other_said each in
    within_both (place_at one mid) (place_at other other_mid) (same +ℤ longest)
    (alone said other_said same longest one other mid other_mid keeps also_keeps short also_short each none also_none is also)
    (
    alone other_said said same longest other one other_mid mid also_keeps keeps also_short short
    (same_opposite one other same said other_said each) (omega (arith, also_none, long)) (omega (arith, none, long)) also is
    )

-- ---- one receiver

pub one_between_lem : OneBetween
one_between_lem said least greatest receiver mid keeps all is =
    let order = half_between is.low is.high mid (remains_ordered receiver.values mid is) is.half in
    let up_to : ℤ → Bool = λ v. int_le v is.low in
    let from : ℤ → Bool = λ v. int_le is.high v in
    let counts = count_by-said up_to said receiver keeps in
    let also_counts = count_by-said from said receiver keeps in
    let low = some_said (λ v. IsBetween least greatest (place_at receiver v)) up_to said all (omega (arith, counts.1, keeps.few, is.least.more_up_to)) in
    let high = some_said (λ v. IsBetween least greatest (place_at receiver v)) from said all (omega (arith, also_counts.1, keeps.few, is.greatest.more_from)) in
    record {
      low = through least (place_at receiver low.value) (place_at receiver mid) low.holds.low
          (place_order receiver low.value mid keeps.lasts (through low.value is.low mid (at_most low.value is.low low.passes) order.0));
      high = through (place_at receiver mid) (place_at receiver high.value) greatest
          (place_order receiver mid high.value keeps.lasts (through mid is.high high.value order.1 (at_most is.high high.value high.passes)))
          high.holds.high;
    }
