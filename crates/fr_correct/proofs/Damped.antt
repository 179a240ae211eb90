-- What damping does to a number.
use Rattle.std.proofs.Common.{◌≡◌, ◌⊎◌, ℤ, pos, inl, inr, arith}
use Rattle.std.specs.Prelude.{neg_ℤ, ◌+ℤ◌, ◌-ℤ◌, ◌≤ℤ◌, ◌<ℤ◌}
use Rattle.std.proofs.lemmas.Int.{ints, by_lt_z}
use Rattle.fr_base.specs.Within.{IsWithin}
use Rattle.fr_correct.specs.Terms.{damped}
use Rattle.fr_correct.specs.Damping.{DampingTakesToward, IsTakenToward, IsTakenOnce}

-- the three cases
damped_above : (c x : ℤ) → c <ℤ x → damped c x ≡ x -ℤ c
damped_above c x above = grind (arith, ints)

damped_below : (c x : ℤ) → pos 0 ≤ℤ c → x <ℤ neg_ℤ c → damped c x ≡ x +ℤ c
damped_below c x from below = grind (arith, ints)

damped_between : (c x : ℤ) → x ≤ℤ c → neg_ℤ c ≤ℤ x → damped c x ≡ pos 0
damped_between c x to from = grind (arith, ints)

pub damped_cases : (c x : ℤ) → pos 0 ≤ℤ c
    → ((c <ℤ x) × (damped c x ≡ x -ℤ c)) ⊎ ((x <ℤ neg_ℤ c) × (damped c x ≡ x +ℤ c)) ⊎ ((x ≤ℤ c) × (neg_ℤ c ≤ℤ x) × (damped c x ≡ pos 0))
damped_cases c x from =
    by_lt_z c x (λ above. inl (above, damped_above c x above))
    (λ to. by_lt_z x (neg_ℤ c) (λ below. inr (inl (below, damped_below c x from below))) (λ least. inr (inr (to, least, damped_between c x to least))))

taken : (c x b : ℤ) → pos 0 ≤ℤ c
    → ((c <ℤ x) × (b ≡ x -ℤ c)) ⊎ ((x <ℤ neg_ℤ c) × (b ≡ x +ℤ c)) ⊎ ((x ≤ℤ c) × (neg_ℤ c ≤ℤ x) × (b ≡ pos 0))
    → IsTakenToward c x b
taken c x b from (inl (above, is)) = record {
  from_above = λ h. (omega (arith, ints), omega (arith, ints));
  from_below = λ h. (omega (arith, ints), omega (arith, ints));
  near = record { low = omega (arith, ints); high = omega (arith, ints) };
  above = λ h. is;
  below = λ h. omega (arith, ints);
}
taken c x b from (inr (inl (below, is))) = record {
  from_above = λ h. (omega (arith, ints), omega (arith, ints));
  from_below = λ h. (omega (arith, ints), omega (arith, ints));
  near = record { low = omega (arith, ints); high = omega (arith, ints) };
  above = λ h. omega (arith, ints);
  below = λ h. is;
}
taken c x b from (inr (inr (to, least, is))) = record {
  from_above = λ h. (omega (arith, ints), omega (arith, ints));
  from_below = λ h. (omega (arith, ints), omega (arith, ints));
  near = record { low = omega (arith, ints); high = omega (arith, ints) };
  above = λ h. omega (arith, ints);
  below = λ h. omega (arith, ints);
}

pub damped-IsTakenToward : DampingTakesToward
damped-IsTakenToward c x from = taken c x (damped c x) from (damped_cases c x from)

-- whatever the sign of the result, it is the damped number
above_is : (c x b d : ℤ) → pos 0 ≤ℤ c → pos 0 <ℤ b → b ≡ x -ℤ c
    → ((c <ℤ x) × (d ≡ x -ℤ c)) ⊎ ((x <ℤ neg_ℤ c) × (d ≡ x +ℤ c)) ⊎ ((x ≤ℤ c) × (neg_ℤ c ≤ℤ x) × (d ≡ pos 0)) → b ≡ d
above_is c x b d from up is (inl (above, also)) = omega (arith, ints)
above_is c x b d from up is (inr (inl (below, also))) = absurd (omega (arith, ints))
above_is c x b d from up is (inr (inr (to, least, also))) = absurd (omega (arith, ints))

below_is : (c x b d : ℤ) → pos 0 ≤ℤ c → b <ℤ pos 0 → b ≡ x +ℤ c
    → ((c <ℤ x) × (d ≡ x -ℤ c)) ⊎ ((x <ℤ neg_ℤ c) × (d ≡ x +ℤ c)) ⊎ ((x ≤ℤ c) × (neg_ℤ c ≤ℤ x) × (d ≡ pos 0)) → b ≡ d
below_is c x b d from down is (inl (above, also)) = absurd (omega (arith, ints))
below_is c x b d from down is (inr (inl (below, also))) = omega (arith, ints)
below_is c x b d from down is (inr (inr (to, least, also))) = absurd (omega (arith, ints))

zero_is : (c x b d : ℤ) → b ≤ℤ pos 0 → pos 0 ≤ℤ b → IsWithin c (x -ℤ b)
    → ((c <ℤ x) × (d ≡ x -ℤ c)) ⊎ ((x <ℤ neg_ℤ c) × (d ≡ x +ℤ c)) ⊎ ((x ≤ℤ c) × (neg_ℤ c ≤ℤ x) × (d ≡ pos 0)) → b ≡ d
zero_is c x b d to least near (inl (above, also)) = absurd (omega (arith, ints, near.high))
zero_is c x b d to least near (inr (inl (below, also))) = absurd (omega (arith, ints, near.low))
zero_is c x b d to least near (inr (inr (most, from, also))) = omega (arith, ints)

pub damped_once : IsTakenOnce
damped_once c x b from is =
    let which = damped_cases c x from in
    by_lt_z (pos 0) b
    (λ up. above_is c x b (damped c x) from up (is.above up) which)
    (λ to. by_lt_z b (pos 0) (λ down. below_is c x b (damped c x) from down (is.below down) which) (λ least. zero_is c x b (damped c x) to least is.near which))
