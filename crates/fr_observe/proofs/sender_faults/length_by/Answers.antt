use Rattle.std.proofs.Common.{◌≡◌, ℕ, ℤ, Bool, true, false, pos, refl, arith, rules}
use Rattle.std.specs.Prelude.{◌+ℤ◌, ◌-ℤ◌, ◌<ℤ◌, ◌||◌, int_lt}
use Rattle.std.proofs.lemmas.Int.{ints}
use Rattle.fr_course.specs.Near.{EndWithin}
use Rattle.fr_course.specs.declared.intervals.Interval.{Interval}
use Rattle.fr_observe.proofs.sender_faults.length_by.Goals as goal

less : (a b : ℤ) → int_lt a b ≡ true → a <ℤ b
less a b is = grind (arith, ints)

-- lengths that are wide of others by a bound are none that lie further off
allowed-near : (allowed proper long : Interval) (beyond : ℕ) → EndWithin (pos 1_000_000_000_000) proper → EndWithin (pos 6_200_000_000_000_000_000) long
    → allowed.low ≡ proper.low -ℤ pos beyond → allowed.high ≡ proper.high +ℤ pos beyond
    → (int_lt allowed.high long.low || int_lt long.high allowed.low) ≡ true → EndWithin (pos 6_400_000_000_000_000_000) allowed
allowed-near allowed proper long beyond near far low high apart = by (int_lt allowed.high long.low) (less allowed.high long.low) apart
  where
    by : (b : Bool) → (b ≡ true → allowed.high <ℤ long.low) → (b || int_lt long.high allowed.low) ≡ true → EndWithin (pos 6_400_000_000_000_000_000) allowed
    by true is then_is =
        let lt = is refl in
        record {
          low_from = omega (arith, ints, lt, low, high, near.low_from, near.high_from, far.low_to);
          low_to = omega (arith, ints, low, near.low_to);
          high_from = omega (arith, ints, high, near.high_from);
          high_to = omega (arith, ints, lt, far.low_to);
        }
    by false is then_is =
        let lt = less long.high allowed.low then_is in
        record {
          low_from = omega (arith, ints, lt, far.high_from);
          low_to = omega (arith, ints, low, near.low_to);
          high_from = omega (arith, ints, high, near.high_from);
          high_to = omega (arith, ints, lt, low, high, near.low_to, near.high_to, far.high_from);
        }

pub of-requires-then-lie_apart : goal.of-requires-then-lie_apart
of-requires-then-lie_apart c =
    let apart : (int_lt c.lengths_beyond-allowed.result.high c.args.long.now.low || int_lt c.args.long.now.high c.lengths_beyond-allowed.result.low) ≡ true = search rules in
    allowed-near c.lengths_beyond-allowed.result c.args.proper.now c.args.long.now c.args.beyond c.requires.proper c.requires.long c.lengths_beyond-allowed.ensures.low
    c.lengths_beyond-allowed.ensures.high apart
