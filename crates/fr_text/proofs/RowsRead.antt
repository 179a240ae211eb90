-- What holds of a row that was read, by the fields that it was read from.
use Rattle.std.proofs.Common.{◌≡◌, ℕ, ℤ, pos, negsuc, ◌≤◌, ◌≤ℤ◌, Bool, true, false, List, length, Option, Some, None, Result, Ok, Err, refl, arith}
use Rattle.std.specs.Prelude.{int_lt, nat_lt, ◌||◌, IfOk, if◌then◌else◌}
use Rattle.std.proofs.lemmas.Bool.Decides.{nat_tests}
use Rattle.std.proofs.lemmas.Int.{ints}
use Rattle.fr_base.specs.Number.{number_of, within}
use Rattle.fr_base.specs.declared.numbers.NumberFault.{NumberFault}
use Rattle.fr_base.specs.declared.numbers.NumberFault.TheVariants as fault
use Rattle.fr_base.specs.declared.reason.Reason.{Reason}
use Rattle.fr_text.specs.Fields.{both_of, hex_digits_in, natural_of, natural_within, or_reason}

-- of a choice, where it holds of both sides
pub of_either : {Row : Type 0} (P : Row → Type 0) (b : Bool) (x y : Result Row Reason) → IfOk x P → IfOk y P → IfOk (if b then x else y) P
of_either P true x y one two = one
of_either P false x y one two = two

-- of what is made of numbers that were read
pub of_read : {A Row : Type 0} (P : Row → Type 0) (f : A → Result Row Reason) (r : Result A NumberFault) → ((x : A) → r ≡ Ok x → IfOk (f x) P) → IfOk (or_reason f r) P
of_read P f (Ok x) each = each x refl
of_read P f (Err why) each = tt

value_or : {A : Type 0} → A → Result A NumberFault → A
value_or other (Ok a) = a
value_or other (Err why) = other

-- of two numbers that were read each was
pub both_read : {A B : Type 0} (a : Result A NumberFault) (b : Result B NumberFault) (x : A × B) → both_of a b ≡ Ok x → (a ≡ Ok x.0) × (b ≡ Ok x.1)
unfolding value_or
both_read (Ok a) (Ok b) x e = let same : (a, b) ≡ x = λ i. value_or x (e i) in ((λ i. Ok ((same i).0)), (λ i. Ok ((same i).1)))
both_read (Ok a) (Err why) x e = absurd (cc e)
both_read (Err fault.NotDigits) b x e = absurd (cc e)
both_read (Err fault.OutOfRange) (Ok b) x e = absurd (cc e)
both_read (Err fault.OutOfRange) (Err why) x e = absurd (cc e)

-- a natural number that was read lies within its limits
pub natural_read : (low high : ℕ) (text : List ℕ) (n : ℕ) → natural_of low high text ≡ Ok n → (low ≤ n) × (n ≤ high)
natural_read low high text n e = by (number_of text) e
  where
    by_test : (m : ℕ) (b : Bool) → (nat_lt m low || nat_lt high m) ≡ b → (if b then Err fault.OutOfRange else Ok m) ≡ Ok n → (low ≤ n) × (n ≤ high)
    by_test m true test same = absurd (cc same)
    by_test m false test same = let is : m ≡ n = cc same in (grind (arith, nat_tests), grind (arith, nat_tests))

    by : (o : Option ℤ) → natural_within low high o ≡ Ok n → (low ≤ n) × (n ≤ high)
    by None same = absurd (cc same)
    by (Some (pos m)) same = by_test m (nat_lt m low || nat_lt high m) refl same
    by (Some (negsuc m)) same = absurd (cc same)

-- so does a number with a sign
pub within_read : (low high : ℤ) (o : Option ℤ) (z : ℤ) → within low high o ≡ Ok z → (low ≤ℤ z) × (z ≤ℤ high)
within_read low high None z e = absurd (cc e)
within_read low high (Some y) z e = by (int_lt y low || int_lt high y) refl e
  where
    by : (b : Bool) → (int_lt y low || int_lt high y) ≡ b → (if b then Err fault.OutOfRange else Ok y) ≡ Ok z → (low ≤ℤ z) × (z ≤ℤ high)
    by true test same = absurd (cc same)
    by false test same = let is : y ≡ z = cc same in (grind (arith, ints), grind (arith, ints))

-- a field with as many hexadecimal digits as a frame has, or fewer
pub digits_read : (text : List ℕ) (n : ℕ) → hex_digits_in text ≡ Ok n → length text ≤ 524
digits_read text n e = by (nat_lt 524 (length text)) refl e
  where
    by : (b : Bool) → nat_lt 524 (length text) ≡ b → (if b then Err fault.OutOfRange else Ok (length text)) ≡ Ok n → length text ≤ 524
    by true test same = absurd (cc same)
    by false test same = grind (arith, nat_tests)
