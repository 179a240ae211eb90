-- How the values that a receiver has are counted.
use Rattle.std.proofs.Common.{◌≡◌, ◌∙◌, ℕ, ◌+◌, ◌≤◌, ◌&&◌, ◌||◌, Bool, true, false, not, List, [], ◌∷◌, count_by, refl, ap, sym, arith, cond}
use Rattle.std.specs.Prelude.{nat_le}
use Rattle.std.specs.List.{list_any}
use Rattle.std.proofs.lemmas.List.Sums.{sum_by-cons}

module _ {X : Type 0} where
  cons : (p : X → Bool) (x : X) (xs : List X) → count_by p (x ∷ xs) ≡ cond (p x) 1 0 + count_by p xs
  cons p x xs = sum_by-cons (λ (n : X). cond (p n) 1 0) x xs

  pub and_true : (p : X → Bool) (xs : List X) → count_by (λ x. p x && true) xs ≡ count_by p xs
  and_true p [] = refl
  and_true p (x ∷ xs) =
      cons (λ y. p y && true) x xs ∙ ap (λ (b : Bool). cond b 1 0 + count_by (λ y. p y && true) xs) (both (p x))
      ∙ ap (λ (n : ℕ). cond (p x) 1 0 + n) (and_true p xs) ∙ sym (cons p x xs)
    where
      both : (b : Bool) → (b && true) ≡ b
      both true = refl
      both false = refl

  -- among those of one kind, those that pass and those that do not are all
  pub parted_among : (k p q : X → Bool) (xs : List X) → count_by (λ x. k x && (p x && not (q x))) xs + count_by (λ x. k x && (p x && q x)) xs ≡ count_by (λ x. k x && p x) xs
  parted_among k p q [] = refl
  parted_among k p q (x ∷ xs) =
      by (k x) (p x) (q x) (count_by (λ y. k y && (p y && not (q y))) (x ∷ xs)) (count_by (λ y. k y && (p y && q y)) (x ∷ xs)) (count_by (λ y. k y && p y) (x ∷ xs))
      (count_by (λ y. k y && (p y && not (q y))) xs) (count_by (λ y. k y && (p y && q y)) xs) (count_by (λ y. k y && p y) xs) (cons (λ y. k y && (p y && not (q y))) x xs)
      (cons (λ y. k y && (p y && q y)) x xs) (cons (λ y. k y && p y) x xs) (parted_among k p q xs)
    where
      by : (o a b : Bool) (less more all l m n : ℕ) → less ≡ cond (o && (a && not b)) 1 0 + l → more ≡ cond (o && (a && b)) 1 0 + m → all ≡ cond (o && a) 1 0 + n → l + m ≡ n
          → less + more ≡ all
      by true true true less more all l m n x y z so = omega (arith, x, y, z, so)
      by true true false less more all l m n x y z so = omega (arith, x, y, z, so)
      by true false b less more all l m n x y z so = omega (arith, x, y, z, so)
      by false a b less more all l m n x y z so = omega (arith, x, y, z, so)

  pub parted : (p q : X → Bool) (xs : List X) → count_by (λ x. p x && not (q x)) xs + count_by (λ x. p x && q x) xs ≡ count_by p xs
  parted p q xs = parted_among (λ x. true) p q xs

  pub no_more : (p q : X → Bool) (xs : List X) → count_by (λ x. p x && q x) xs ≤ count_by p xs
  no_more p q xs = let all = parted p q xs in step (count_by (λ x. p x && not (q x)) xs) (count_by (λ x. p x && q x) xs) (count_by p xs) all
    where
      step : (a b c : ℕ) → a + b ≡ c → b ≤ c
      step a b c is = omega (arith, is)

  -- one or more are counted where one passes
  pub some_counted : (p : X → Bool) (xs : List X) → nat_le 1 (count_by p xs) ≡ list_any p xs
  some_counted p [] = refl
  some_counted p (x ∷ xs) = ap (nat_le 1) (cons p x xs) ∙ by (p x) (count_by p xs) (list_any p xs) (some_counted p xs)
    where
      by : (b : Bool) (n : ℕ) (any : Bool) → nat_le 1 n ≡ any → nat_le 1 (cond b 1 0 + n) ≡ (b || any)
      by true n any is = grind arith
      by false n any is =
          let none : 0 + n ≡ n = omega arith in
          ap (nat_le 1) none ∙ is
