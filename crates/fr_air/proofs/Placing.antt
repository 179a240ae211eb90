-- The elements of an ascending list that pass one of two tests are those of the one with those of the other put in.
use Rattle.std.proofs.Common.{◌≡◌, ℕ, ◌<◌, nat_lt, Bool, true, false, ◌&&◌, ◌||◌, List, [], ◌∷◌, filter, refl, ap, sym, ◌∙◌, arith, if◌then◌else◌}
use Rattle.std.specs.Prelude.{AllPairs, Contains}
use Rattle.fr_cluster.proofs.KeyNodes.{AllPairs-first, AllPairs-rest}
use Rattle.fr_cluster.proofs.Elements.{Contains-here, Contains-there, filtered}
use Rattle.fr_air.specs.Placing.{put, put_all}

less : (a b : ℕ) → a < b → nat_lt a b ≡ true
less a b lt = grind arith

not_less : (a b : ℕ) → a < b → nat_lt b a ≡ false
not_less a b lt = grind arith

-- an element that comes before all others stands in front
put_first : {X : Type 0} (number : X → ℕ) (x : X) (ys : List X) → ((y : X) → Contains ys y → number x < number y) → put number x ys ≡ x ∷ ys
put_first number x [] before = refl
put_first number x (y ∷ ys) before =
    ap (λ b. if b then x ∷ y ∷ ys else y ∷ put number x ys) (less (number x) (number y) (before y (Contains-here y ys)))

-- and stays there, where others are put in
put_all_after : {X : Type 0} (number : X → ℕ) (x : X) (xs ys : List X) → ((z : X) → Contains xs z → number x < number z)
    → put_all number xs (x ∷ ys) ≡ x ∷ put_all number xs ys
put_all_after number x [] ys before = refl
put_all_after number x (z ∷ xs) ys before =
    ap (put_all number xs) (ap (λ b. if b then z ∷ x ∷ ys else x ∷ put number z ys) (not_less (number x) (number z) (before z (Contains-here z xs))))
    ∙ put_all_after number x xs (put number z ys) (λ y among. before y (Contains-there z xs y among))

parted_by : {X : Type 0} (number : X → ℕ) (whole had new : X → Bool) (x : X) (xs : List X) (a b : Bool) → had x ≡ a → new x ≡ b → whole x ≡ (a || b)
    → (a ≡ true → b ≡ true → ⊥) → ((y : X) → Contains xs y → number x < number y)
    → filter whole xs ≡ put_all number (filter new xs) (filter had xs)
    → filter whole (x ∷ xs) ≡ put_all number (filter new (x ∷ xs)) (filter had (x ∷ xs))
parted_by number whole had new x xs true true h n w apart before rest = absurd (apart refl refl)
parted_by number whole had new x xs true false h n w apart before rest =
    let all : filter whole (x ∷ xs) ≡ x ∷ filter whole xs = rw w refl in
    let kept : filter had (x ∷ xs) ≡ x ∷ filter had xs = rw h refl in
    let none : filter new (x ∷ xs) ≡ filter new xs = rw n refl in
    all ∙ ap (λ ys. x ∷ ys) rest
    ∙ sym (put_all_after number x (filter new xs) (filter had xs) (λ y among. before y (filtered new xs y among).0))
    ∙ sym (ap (λ ys. put_all number ys (x ∷ filter had xs)) none)
    ∙ sym (ap (put_all number (filter new (x ∷ xs))) kept)
parted_by number whole had new x xs false true h n w apart before rest =
    let all : filter whole (x ∷ xs) ≡ x ∷ filter whole xs = rw w refl in
    let left : filter had (x ∷ xs) ≡ filter had xs = rw h refl in
    let some : filter new (x ∷ xs) ≡ x ∷ filter new xs = rw n refl in
    all ∙ ap (λ ys. x ∷ ys) rest
    ∙ sym (put_all_after number x (filter new xs) (filter had xs) (λ y among. before y (filtered new xs y among).0))
    ∙ sym (ap (put_all number (filter new xs)) (put_first number x (filter had xs) (λ y among. before y (filtered had xs y among).0)))
    ∙ sym (ap (λ ys. put_all number ys (filter had xs)) some)
    ∙ sym (ap (put_all number (filter new (x ∷ xs))) left)
parted_by number whole had new x xs false false h n w apart before rest =
    let all : filter whole (x ∷ xs) ≡ filter whole xs = rw w refl in
    let left : filter had (x ∷ xs) ≡ filter had xs = rw h refl in
    let none : filter new (x ∷ xs) ≡ filter new xs = rw n refl in
    all ∙ rest ∙ sym (ap (λ ys. put_all number ys (filter had xs)) none) ∙ sym (ap (put_all number (filter new (x ∷ xs))) left)

pub parted : {X : Type 0} (number : X → ℕ) (whole had new : X → Bool) (xs : List X) → AllPairs (λ (a : X) (b : X). number a < number b) xs
    → ((x : X) → Contains xs x → whole x ≡ (had x || new x)) → ((x : X) → Contains xs x → had x ≡ true → new x ≡ true → ⊥)
    → filter whole xs ≡ put_all number (filter new xs) (filter had xs)
parted number whole had new [] ascend same apart = refl
parted {X = X} number whole had new (x ∷ xs) ascend same apart =
    let R : X → X → Type 0 = λ a b. number a < number b in
    parted_by number whole had new x xs (had x) (new x) refl refl (same x (Contains-here x xs)) (apart x (Contains-here x xs))
    (λ y among. AllPairs-first R x xs y ascend among)
    (
    parted number whole had new xs (AllPairs-rest R x xs ascend) (λ y among. same y (Contains-there x xs y among))
    (λ y among. apart y (Contains-there x xs y among))
    )

-- both tests at once, or one after the other
pub filter_both : {X : Type 0} (f g : X → Bool) (xs : List X) → filter (λ x. f x && g x) xs ≡ filter g (filter f xs)
filter_both f g [] = refl
filter_both f g (x ∷ xs) = by (f x) refl (filter_both f g xs)
  where
    by : (b : Bool) → f x ≡ b → filter (λ y. f y && g y) xs ≡ filter g (filter f xs) → filter (λ y. f y && g y) (x ∷ xs) ≡ filter g (filter f (x ∷ xs))
    by true is rest = rw is (ap (λ ys. if g x then x ∷ ys else ys) rest)
    by false is rest = rw is rest

-- tests that agree on the elements of a list keep the same ones
pub filter_same : {X : Type 0} (f g : X → Bool) (xs : List X) → ((x : X) → Contains xs x → f x ≡ g x) → filter f xs ≡ filter g xs
filter_same f g [] agree = refl
filter_same f g (x ∷ xs) agree =
    ap (λ b. if b then x ∷ filter f xs else filter f xs) (agree x (Contains-here x xs))
    ∙ ap (λ ys. if g x then x ∷ ys else ys) (filter_same f g xs (λ y among. agree y (Contains-there x xs y among)))
