-- Quotients rounded down and up.
use Rattle.std.proofs.Common.{◌≡◌, ℤ, pos, arith}
use Rattle.std.specs.Prelude.{◌+ℤ◌, ◌-ℤ◌, ◌*ℤ◌, ◌≤ℤ◌, ◌<ℤ◌, neg_ℤ}
use Rattle.std.proofs.lemmas.Int.{ints, by_lt_z}
use Rattle.fr_midpoint.proofs.Products.{addz-mulz, mulz-lez, mulz-lez_left, negz-mulz}
use Rattle.fr_time.specs.Position.{floor_of}
use Rattle.fr_time.proofs.Lines.{rest_of}
use Rattle.fr_course.specs.Readings.{ceiling_of}

pub floor_below : (n d : ℤ) → pos 0 <ℤ d → (floor_of n d *ℤ d) ≤ℤ n
floor_below n d some = low n (floor_of n d *ℤ d) (rest_of n d some).from
  where
    low : (n f : ℤ) → pos 0 ≤ℤ (n -ℤ f) → f ≤ℤ n
    low n f h = omega (arith, ints)

-- a number whose product is no greater is no greater
pub floor_above : (n d t : ℤ) → pos 0 <ℤ d → (t *ℤ d) ≤ℤ n → t ≤ℤ floor_of n d
floor_above n d t some le =
    let f = floor_of n d in
    by_lt_z
    f
    t
    (λ less.
    let next : ((f +ℤ pos 1) *ℤ d) ≤ℤ (t *ℤ d) = mulz-lez (f +ℤ pos 1) t d (after f t less) (whole d some) in
    absurd (over n (f *ℤ d) ((f +ℤ pos 1) *ℤ d) (t *ℤ d) d (pos 1 *ℤ d) (rest_of n d some).to next (addz-mulz f (pos 1) d) (one d) le))
    (λ h. h)
  where
    after : (f t : ℤ) → f <ℤ t → (f +ℤ pos 1) ≤ℤ t
    after f t h = omega (arith, ints)

    whole : (d : ℤ) → pos 0 <ℤ d → pos 0 ≤ℤ d
    whole d h = omega (arith, ints)

    one : (d : ℤ) → pos 1 *ℤ d ≡ d
    one d = omega (arith, ints)

    over : (n fd next td d od : ℤ) → ((n -ℤ fd) +ℤ pos 1) ≤ℤ d → next ≤ℤ td → next ≡ fd +ℤ od → od ≡ d → td ≤ℤ n → ⊥
    over n fd next td d od a b c e g = omega (arith, ints)

pub ceiling_above : (n d : ℤ) → pos 0 <ℤ d → n ≤ℤ (ceiling_of n d *ℤ d)
ceiling_above n d some =
    turned n (floor_of (neg_ℤ n) d *ℤ d) (ceiling_of n d *ℤ d) (floor_below (neg_ℤ n) d some) (negz-mulz (floor_of (neg_ℤ n) d) d)
  where
    turned : (n f c : ℤ) → f ≤ℤ neg_ℤ n → c ≡ neg_ℤ f → n ≤ℤ c
    turned n f c a b = omega (arith, ints)

pub ceiling_below : (n d t : ℤ) → pos 0 <ℤ d → n ≤ℤ (t *ℤ d) → ceiling_of n d ≤ℤ t
ceiling_below n d t some le =
    turned (floor_of (neg_ℤ n) d) t (floor_above (neg_ℤ n) d (neg_ℤ t) some (low n (t *ℤ d) (neg_ℤ t *ℤ d) le (negz-mulz t d)))
  where
    low : (n td m : ℤ) → n ≤ℤ td → m ≡ neg_ℤ td → m ≤ℤ neg_ℤ n
    low n td m a b = omega (arith, ints)

    turned : (f t : ℤ) → neg_ℤ t ≤ℤ f → neg_ℤ f ≤ℤ t
    turned f t h = omega (arith, ints)

-- a product with a number from 0 down turns the order
pub mulz-lez_down : (a b t : ℤ) → a ≤ℤ b → t ≤ℤ pos 0 → (t *ℤ b) ≤ℤ (t *ℤ a)
mulz-lez_down a b t le to =
    turned (t *ℤ a) (t *ℤ b) (neg_ℤ t *ℤ a) (neg_ℤ t *ℤ b) (mulz-lez_left a b (neg_ℤ t) le (up t to)) (negz-mulz t a) (negz-mulz t b)
  where
    up : (t : ℤ) → t ≤ℤ pos 0 → pos 0 ≤ℤ neg_ℤ t
    up t h = omega (arith, ints)

    turned : (ta tb na nb : ℤ) → na ≤ℤ nb → na ≡ neg_ℤ ta → nb ≡ neg_ℤ tb → tb ≤ℤ ta
    turned ta tb na nb a b c = omega (arith, ints)
