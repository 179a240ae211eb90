-- What damping does to a number.
use Rattle.std.specs.Prelude.{◌≡◌, ℤ, pos, ◌+ℤ◌, ◌-ℤ◌, ◌≤ℤ◌, ◌<ℤ◌}
use Rattle.fr_base.specs.Within.{IsWithin}
use Rattle.fr_correct.specs.Terms.{damped}

-- one number is what another becomes that is taken toward 0 by so much, but not beyond it: it lies between 0 and the
-- other, no further from it than that, and where it is not 0 exactly that far from it
pub record IsTakenToward (damping x result : ℤ) : Type 0 where
  pub from_above : pos 0 ≤ℤ x → (pos 0 ≤ℤ result) × (result ≤ℤ x)
  pub from_below : x ≤ℤ pos 0 → (x ≤ℤ result) × (result ≤ℤ pos 0)
  pub near : IsWithin damping (x -ℤ result)
  pub above : pos 0 <ℤ result → result ≡ x -ℤ damping
  pub below : result <ℤ pos 0 → result ≡ x +ℤ damping

-- the damped number is the number taken toward 0 by the damping
abbrev pub DampingTakesToward : Type 0
DampingTakesToward = (damping x : ℤ) → pos 0 ≤ℤ damping → IsTakenToward damping x (damped damping x)

-- no other number is
abbrev pub IsTakenOnce : Type 0
IsTakenOnce = (damping x result : ℤ) → pos 0 ≤ℤ damping → IsTakenToward damping x result → result ≡ damped damping x
