-- What a test says of each number of some consecutive ones it says of all: so the checks, by their numbers.
use Rattle.std.proofs.Common.{◌≡◌, ℕ, zero, suc, ◌≤◌, Bool, true, arith}

-- the checks of a run
pub one_to_five : (test : ℕ → Bool) → test 1 ≡ true → test 2 ≡ true → test 3 ≡ true → test 4 ≡ true → test 5 ≡ true → (k : ℕ) → 1 ≤ k → k ≤ 5 → test k ≡ true
one_to_five test one two three four five zero from to = absurd (omega (arith, from))
one_to_five test one two three four five (suc zero) from to = one
one_to_five test one two three four five (suc (suc zero)) from to = two
one_to_five test one two three four five (suc (suc (suc zero))) from to = three
one_to_five test one two three four five (suc (suc (suc (suc zero)))) from to = four
one_to_five test one two three four five (suc (suc (suc (suc (suc zero))))) from to = five
one_to_five test one two three four five (suc (suc (suc (suc (suc (suc k)))))) from to = absurd (omega (arith, to))

-- all of them but the first
pub two_to_five : (test : ℕ → Bool) → test 2 ≡ true → test 3 ≡ true → test 4 ≡ true → test 5 ≡ true → (k : ℕ) → 2 ≤ k → k ≤ 5 → test k ≡ true
two_to_five test two three four five zero from to = absurd (omega (arith, from))
two_to_five test two three four five (suc zero) from to = absurd (omega (arith, from))
two_to_five test two three four five (suc (suc zero)) from to = two
two_to_five test two three four five (suc (suc (suc zero))) from to = three
two_to_five test two three four five (suc (suc (suc (suc zero)))) from to = four
two_to_five test two three four five (suc (suc (suc (suc (suc zero))))) from to = five
two_to_five test two three four five (suc (suc (suc (suc (suc (suc k)))))) from to = absurd (omega (arith, to))

-- those of a run that nodes join
pub six_to_nine : (test : ℕ → Bool) → test 6 ≡ true → test 7 ≡ true → test 8 ≡ true → test 9 ≡ true → (k : ℕ) → 6 ≤ k → k ≤ 9 → test k ≡ true
six_to_nine test six seven eight nine zero from to = absurd (omega (arith, from))
six_to_nine test six seven eight nine (suc zero) from to = absurd (omega (arith, from))
six_to_nine test six seven eight nine (suc (suc zero)) from to = absurd (omega (arith, from))
six_to_nine test six seven eight nine (suc (suc (suc zero))) from to = absurd (omega (arith, from))
six_to_nine test six seven eight nine (suc (suc (suc (suc zero)))) from to = absurd (omega (arith, from))
six_to_nine test six seven eight nine (suc (suc (suc (suc (suc zero))))) from to = absurd (omega (arith, from))
six_to_nine test six seven eight nine (suc (suc (suc (suc (suc (suc zero)))))) from to = six
six_to_nine test six seven eight nine (suc (suc (suc (suc (suc (suc (suc zero))))))) from to = seven
six_to_nine test six seven eight nine (suc (suc (suc (suc (suc (suc (suc (suc zero)))))))) from to = eight
six_to_nine test six seven eight nine (suc (suc (suc (suc (suc (suc (suc (suc (suc zero))))))))) from to = nine
six_to_nine test six seven eight nine (suc (suc (suc (suc (suc (suc (suc (suc (suc (suc k)))))))))) from to = absurd (omega (arith, to))
