-- Sums over lists, in either order.
use Rattle.std.proofs.Common.{◌≡◌, ℕ, zero, suc, ◌+◌, List, [], ◌∷◌, ◌++◌, map, refl, ap, ap₂, sym, ◌∙◌, arith}
use Rattle.std.specs.List.{flat_map, range_with_len, sum_by}
use Rattle.std.proofs.lemmas.List.Sums.{sum_by-append, sum_by-cons}

pub sum_by-map : {A B : Type 0} (f : B → ℕ) (g : A → B) (xs : List A) → sum_by f (map g xs) ≡ sum_by (λ x. f (g x)) xs
sum_by-map f g [] = refl
sum_by-map f g (x ∷ xs) = sum_by-cons f (g x) (map g xs) ∙ ap (λ n. f (g x) + n) (sum_by-map f g xs) ∙ sym (sum_by-cons (λ y. f (g y)) x xs)

pub sum_by-flat_map : {A B : Type 0} (f : B → ℕ) (g : A → List B) (xs : List A) → sum_by f (flat_map g xs) ≡ sum_by (λ x. sum_by f (g x)) xs
sum_by-flat_map f g [] = refl
sum_by-flat_map f g (x ∷ xs) =
    sum_by-append f (g x) (flat_map g xs) ∙ ap (λ n. sum_by f (g x) + n) (sum_by-flat_map f g xs) ∙ sym (sum_by-cons (λ y. sum_by f (g y)) x xs)

pub sum_by-same : {A : Type 0} (f g : A → ℕ) (xs : List A) → ((x : A) → f x ≡ g x) → sum_by f xs ≡ sum_by g xs
sum_by-same f g [] same = refl
sum_by-same f g (x ∷ xs) same = sum_by-cons f x xs ∙ ap₂ (λ n m. n + m) (same x) (sum_by-same f g xs same) ∙ sym (sum_by-cons g x xs)

pub sum_by-plus : {A : Type 0} (f g : A → ℕ) (xs : List A) → sum_by (λ x. f x + g x) xs ≡ sum_by f xs + sum_by g xs
sum_by-plus f g [] = refl
sum_by-plus f g (x ∷ xs) =
    let both : sum_by (λ y. f y + g y) (x ∷ xs) ≡ f x + g x + sum_by (λ y. f y + g y) xs = sum_by-cons (λ y. f y + g y) x xs in
    let one : sum_by f (x ∷ xs) ≡ f x + sum_by f xs = sum_by-cons f x xs in
    let other : sum_by g (x ∷ xs) ≡ g x + sum_by g xs = sum_by-cons g x xs in
    let rest : sum_by (λ y. f y + g y) xs ≡ sum_by f xs + sum_by g xs = sum_by-plus f g xs in
    both ∙ ap (λ n. f x + g x + n) rest ∙ turn (f x) (g x) (sum_by f xs) (sum_by g xs) ∙ sym (ap₂ (λ n m. n + m) one other)
  where
    turn : (a b c d : ℕ) → a + b + (c + d) ≡ a + c + (b + d)
    turn a b c d = omega arith

pub sum_by-zero : {A : Type 0} (xs : List A) → sum_by (λ _. 0) xs ≡ 0
sum_by-zero [] = refl
sum_by-zero (x ∷ xs) = sum_by-cons (λ _. 0) x xs ∙ (let e : sum_by (λ _. 0) xs ≡ 0 = sum_by-zero xs in omega (arith, e))

-- sums over two lists may be taken in either order
pub sum_by-turned : {A B : Type 0} (f : A → B → ℕ) (xs : List A) (ys : List B) → sum_by (λ x. sum_by (f x) ys) xs ≡ sum_by (λ y. sum_by (λ x. f x y) xs) ys
sum_by-turned f [] ys = sym (sum_by-zero ys)
sum_by-turned f (x ∷ xs) ys =
    sum_by-cons (λ z. sum_by (f z) ys) x xs
    ∙ ap (λ n. sum_by (f x) ys + n) (sum_by-turned f xs ys)
    ∙ sym (sum_by-plus (f x) (λ y. sum_by (λ z. f z y) xs) ys)
    ∙ sum_by-same (λ y. f x y + sum_by (λ z. f z y) xs) (λ y. sum_by (λ z. f z y) (x ∷ xs)) ys (λ y. sym (sum_by-cons (λ z. f z y) x xs))

-- one more number of a range
pub range_more : (from count : ℕ) → range_with_len from (suc count) ≡ range_with_len from count ++ (from + count) ∷ []
range_more from zero = let e : from ≡ from + 0 = omega arith in ap (λ (n : ℕ). n ∷ []) e
range_more from (suc count) =
    let e : from + 1 + count ≡ from + suc count = omega arith in
    ap (λ (ns : List ℕ). from ∷ ns) (range_more (from + 1) count ∙ ap (λ (n : ℕ). range_with_len (from + 1) count ++ n ∷ []) e)

pub sum_by-more : (f : ℕ → ℕ) (from count : ℕ) → sum_by f (range_with_len from (suc count)) ≡ sum_by f (range_with_len from count) + f (from + count)
sum_by-more f from count = ap (sum_by f) (range_more from count) ∙ sum_by-append f (range_with_len from count) ((from + count) ∷ []) ∙ ap (λ n. sum_by f (range_with_len from count) + n) (single (f (from + count)))
  where
    single : (n : ℕ) → 0 + n ≡ n
    single n = omega arith
