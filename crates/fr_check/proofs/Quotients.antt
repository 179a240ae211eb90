-- Deviations compared with quotients rounded down, by products.
use Rattle.std.proofs.Common.{◌≡◌, ◌∙◌, ℤ, pos, true, false, ap, sym, arith}
use lib.Signed.{le_z}
use Rattle.std.specs.Prelude.{◌+ℤ◌, ◌-ℤ◌, ◌*ℤ◌, ◌≤ℤ◌, ◌<ℤ◌, int_lt}
use Rattle.std.proofs.lemmas.Int.{ints, by_lt_z}
use Rattle.fr_midpoint.proofs.Products.{addz-mulz, mulz-lez}
use Rattle.fr_time.proofs.Lines.{Rest, rest_of}
use Rattle.fr_time.proofs.Ends.{int_lt_false, int_lt_true}
use Rattle.fr_time.specs.Position.{floor_of}

once : (t : ℤ) → pos 1 *ℤ t ≡ t
once t = omega (arith, ints)

-- one more of a number of microticks
one_more : (a d : ℤ) → (a +ℤ pos 1) *ℤ d ≡ (a *ℤ d) +ℤ d
one_more a d = addz-mulz a (pos 1) d ∙ ap (λ (x : ℤ). (a *ℤ d) +ℤ x) (once d)

-- a lies below f: one more of it is no more than f
below : (n ad fd d more : ℤ) → more ≤ℤ fd → more ≡ ad +ℤ d → pos 0 ≤ℤ (n -ℤ fd) → ad ≤ℤ (n -ℤ d)
below n ad fd d more le is from = omega (arith, ints, le, is, from)

not_below : (n ad fd d : ℤ) → fd ≤ℤ ad → ((n -ℤ fd) +ℤ pos 1) ≤ℤ d → (n -ℤ d) <ℤ ad
not_below n ad fd d le to = omega (arith, ints, le, to)

above : (n ad fd d more : ℤ) → more ≤ℤ ad → more ≡ fd +ℤ d → ((n -ℤ fd) +ℤ pos 1) ≤ℤ d → n <ℤ ad
above n ad fd d more le is to = omega (arith, ints, le, is, to)

not_above : (n ad fd : ℤ) → ad ≤ℤ fd → pos 0 ≤ℤ (n -ℤ fd) → ad ≤ℤ n
not_above n ad fd le from = omega (arith, ints, le, from)

le_true : (a b : ℤ) → a ≤ℤ b → le_z a b ≡ true
le_true a b below = grind (arith, ints)

le_false : (a b : ℤ) → b <ℤ a → le_z a b ≡ false
le_false a b above = grind (arith, ints)

next : (a b : ℤ) → a <ℤ b → (a +ℤ pos 1) ≤ℤ b
next a b lt = omega (arith, ints, lt)

positive : (d : ℤ) → pos 0 <ℤ d → pos 0 ≤ℤ d
positive d some = omega (arith, ints, some)

-- a number is less than a quotient rounded down exactly where its product is no more than what is left below
pub less_same : (a n d : ℤ) → pos 0 <ℤ d → le_z (a *ℤ d) (n -ℤ d) ≡ int_lt a (floor_of n d)
less_same a n d some =
    let rest : Rest n d = rest_of n d some in
    let f : ℤ = floor_of n d in
    by_lt_z a f
    (λ lt. le_true (a *ℤ d) (n -ℤ d) (below n (a *ℤ d) (f *ℤ d) d ((a +ℤ pos 1) *ℤ d) (mulz-lez (a +ℤ pos 1) f d (next a f lt) (positive d some)) (one_more a d) rest.from)
    ∙ sym (int_lt_true a f lt))
    (λ le. le_false (a *ℤ d) (n -ℤ d) (not_below n (a *ℤ d) (f *ℤ d) d (mulz-lez f a d le (positive d some)) rest.to)
    ∙ sym (int_lt_false a f le))

-- and more exactly where its product is more
pub more_same : (a n d : ℤ) → pos 0 <ℤ d → int_lt n (a *ℤ d) ≡ int_lt (floor_of n d) a
more_same a n d some =
    let rest : Rest n d = rest_of n d some in
    let f : ℤ = floor_of n d in
    by_lt_z f a
    (λ lt. int_lt_true n (a *ℤ d) (above n (a *ℤ d) (f *ℤ d) d ((f +ℤ pos 1) *ℤ d) (mulz-lez (f +ℤ pos 1) a d (next f a lt) (positive d some)) (one_more f d) rest.to)
    ∙ sym (int_lt_true f a lt))
    (λ le. int_lt_false n (a *ℤ d) (not_above n (a *ℤ d) (f *ℤ d) (mulz-lez a f d le (positive d some)) rest.from)
    ∙ sym (int_lt_false f a le))
