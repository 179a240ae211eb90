-- Which double cycles are judged.
use Rattle.std.proofs.Common.{◌≡◌, ℕ, zero, suc, ◌+◌, ◌≤◌, ◌*◌, ◌/◌, Bool, true, false, ℤ, pos, refl, ap, sym, ◌∙◌, subst, arith}
use Rattle.std.specs.Prelude.{◌&&◌, ◌-ℤ◌, ◌+ℤ◌, nat_le, ◌-◌}
use Rattle.std.proofs.lemmas.Bool.Decides.{nat_tests}
use Rattle.std.proofs.lemmas.Int.{ints}
use Rattle.fr_cluster.specs.Values.{Values, amount}
use Rattle.fr_cluster.specs.declared.names.ParamName.TheVariants as name
use Rattle.fr_bound.specs.declared.judging.Known.{Known}
use Rattle.fr_bound.specs.Bounds.{arrival_error, longest_micro}
use Rattle.fr_bound.specs.Checks.{left_of}
use Rattle.fr_bound.specs.SharpBounds.{last_action, odd_spread, rate_room, rate_walk}
use Rattle.fr_bound.specs.SharpChecks.{sharp_holds_of, SharpChecksHold}
use Rattle.fr_bound.specs.SharpSpreads.{sharply_near_in}
use Rattle.fr_bound.specs.Judged.{all_but_first_hold, from_none, is_judged_double, is_taken_in, walked_on, IsJudgedDouble}

-- a judged one is taken in by the limits
pub judged_taken : (p : Values) (flutter : ℕ) (known : Known) → IsJudgedDouble p flutter known → is_taken_in p known ≡ true
judged_taken p flutter known is =
    by known.spread.starts known.spread.lengths known.beyond (last_action p * odd_spread p known.spread.lengths / amount p name.gMacroPerCycle) (longest_micro p) (arrival_error p) (left_of 3 p) (from_none (rate_walk p flutter)) (rate_room p)
    (is.checks 3 (omega arith) (omega arith)) is.room
  where
    by : (starts lengths beyond share long error limit walk room : ℕ) → nat_le (starts + lengths + share + long + error + long) limit ≡ true → beyond + walk ≤ room
        → (nat_le starts limit && (nat_le lengths limit && nat_le beyond room)) ≡ true
    by starts lengths beyond share long error limit walk room check fits =
        let a : nat_le starts limit ≡ true = grind (arith, nat_tests) in
        let b : nat_le lengths limit ≡ true = grind (arith, nat_tests) in
        let c : nat_le beyond room ≡ true = grind (arith, nat_tests) in
        rw (a, b, c) refl

pub not_judged : (p : Values) (flutter : ℕ) (known : Known) → is_taken_in p known ≡ false → IsJudgedDouble p flutter known → ⊥
not_judged p flutter known not is = differ (is_taken_in p known) not (judged_taken p flutter known is)
  where
    differ : (b : Bool) → b ≡ false → b ≡ true → ⊥
    differ b one other = grind arith

-- a walk that may be below 0, as what adds to it and what is taken off
pub none_of : (walk : ℤ) (gain loss : ℕ) → walk ≡ pos gain -ℤ pos loss → from_none walk ≡ gain - loss
none_of walk gain loss is = grind (arith, ints)

pub walked_is : (p : Values) (flutter beyond gain loss : ℕ) → rate_walk p flutter ≡ pos gain -ℤ pos loss → walked_on p flutter beyond ≡ (beyond + gain) - loss
walked_is p flutter beyond gain loss is = none_of (pos beyond +ℤ rate_walk p flutter) (beyond + gain) loss (moved (rate_walk p flutter) is)
  where
    moved : (walk : ℤ) → walk ≡ pos gain -ℤ pos loss → (pos beyond +ℤ walk) ≡ pos (beyond + gain) -ℤ pos loss
    moved walk is = omega (arith, ints, is)

-- ---- as a test

holding : (flutter reach : ℕ) (p : Values) → all_but_first_hold flutter reach p ≡ true → SharpChecksHold flutter reach p
holding flutter reach p all zero from to = absurd (omega (arith, from))
holding flutter reach p all (suc zero) from to = absurd (omega (arith, from))
holding flutter reach p all (suc (suc zero)) from to = by (sharp_holds_of 2 flutter reach p) (sharp_holds_of 3 flutter reach p && (sharp_holds_of 4 flutter reach p && sharp_holds_of 5 flutter reach p)) all
  where
    by : (a b : Bool) → (a && b) ≡ true → a ≡ true
    by true b is = refl
    by false b is = is
holding flutter reach p all (suc (suc (suc zero))) from to = by (sharp_holds_of 2 flutter reach p) (sharp_holds_of 3 flutter reach p) (sharp_holds_of 4 flutter reach p && sharp_holds_of 5 flutter reach p) all
  where
    by : (a b c : Bool) → (a && (b && c)) ≡ true → b ≡ true
    by true true c is = refl
    by true false c is = is
    by false b c is = absurd (cc is)
holding flutter reach p all (suc (suc (suc (suc zero)))) from to = by (sharp_holds_of 2 flutter reach p) (sharp_holds_of 3 flutter reach p) (sharp_holds_of 4 flutter reach p) (sharp_holds_of 5 flutter reach p) all
  where
    by : (a b c d : Bool) → (a && (b && (c && d))) ≡ true → c ≡ true
    by true true true d is = refl
    by true true false d is = is
    by true false c d is = absurd (cc is)
    by false b c d is = absurd (cc is)
holding flutter reach p all (suc (suc (suc (suc (suc zero))))) from to = by (sharp_holds_of 2 flutter reach p) (sharp_holds_of 3 flutter reach p) (sharp_holds_of 4 flutter reach p) (sharp_holds_of 5 flutter reach p) all
  where
    by : (a b c d : Bool) → (a && (b && (c && d))) ≡ true → d ≡ true
    by true true true d is = is
    by true true false d is = absurd (cc is)
    by true false c d is = absurd (cc is)
    by false b c d is = absurd (cc is)
holding flutter reach p all (suc (suc (suc (suc (suc (suc k)))))) from to = absurd (omega (arith, to))

all_held : (flutter reach : ℕ) (p : Values) → SharpChecksHold flutter reach p → all_but_first_hold flutter reach p ≡ true
all_held flutter reach p hold = rw (hold 2 (omega arith) (omega arith), hold 3 (omega arith) (omega arith), hold 4 (omega arith) (omega arith), hold 5 (omega arith) (omega arith)) refl

-- a double cycle is judged exactly where the test says so
pub judged_from : (p : Values) (flutter : ℕ) (known : Known) → is_judged_double p flutter known ≡ true → IsJudgedDouble p flutter known
judged_from p flutter known is =
    let parts = both (all_but_first_hold flutter (sharply_near_in p known.spread) p) (nat_le (known.beyond + from_none (rate_walk p flutter)) (rate_room p)) is in
    record { checks = holding flutter (sharply_near_in p known.spread) p parts.0; room = le (known.beyond + from_none (rate_walk p flutter)) (rate_room p) parts.1 }
  where
    both : (a b : Bool) → (a && b) ≡ true → (a ≡ true) × (b ≡ true)
    both true b is = (refl, is)
    both false b is = absurd (cc is)

    le : (a b : ℕ) → nat_le a b ≡ true → a ≤ b
    le a b is = grind (arith, nat_tests)

pub judged_none : (p : Values) (flutter : ℕ) (known : Known) → is_taken_in p known ≡ false → false ≡ is_judged_double p flutter known
judged_none p flutter known not = by (is_judged_double p flutter known) refl
  where
    by : (b : Bool) → is_judged_double p flutter known ≡ b → false ≡ b
    by false is = refl
    by true is = absurd (not_judged p flutter known not (judged_from p flutter known is))

-- where the checks hold the room decides, and where they do not they do
pub judged_then : (p : Values) (flutter : ℕ) (known : Known) (reach : ℕ) (hold : Bool) → reach ≡ sharply_near_in p known.spread → hold ≡ true
    → (hold ≡ true → SharpChecksHold flutter reach p) → nat_le (known.beyond + from_none (rate_walk p flutter)) (rate_room p) ≡ is_judged_double p flutter known
judged_then p flutter known reach hold same is checks =
    let all = all_held flutter (sharply_near_in p known.spread) p (subst (λ r. SharpChecksHold flutter r p) same (checks is)) in
    sym (ap (λ b. b && nat_le (known.beyond + from_none (rate_walk p flutter)) (rate_room p)) all)

pub judged_else : (p : Values) (flutter : ℕ) (known : Known) (reach : ℕ) (hold : Bool) → reach ≡ sharply_near_in p known.spread → hold ≡ false
    → (hold ≡ false → SharpChecksHold flutter reach p → ⊥) → hold ≡ is_judged_double p flutter known
judged_else p flutter known reach hold same is fail = is ∙ by (is_judged_double p flutter known) refl
  where
    by : (b : Bool) → is_judged_double p flutter known ≡ b → false ≡ b
    by false is = refl
    by true passes = absurd (fail is (subst (λ r. SharpChecksHold flutter r p) (sym same) (judged_from p flutter known passes).checks))
