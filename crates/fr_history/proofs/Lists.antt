-- Lists that are made of others element by element.
use Rattle.std.proofs.Common.{◌≡◌, List, [], ◌∷◌, All, map, refl, ap, ap₂}
use Rattle.std.specs.List.{flat_map}
use Rattle.std.proofs.lemmas.List.Concat.{flat_map-cons}
use Rattle.std.proofs.lemmas.List.Elements.{All-append, All-cons, All-head, All-nil, All-tail}

-- two functions that agree on each element make the same list
pub map_same : {A B : Type 0} (f g : A → B) (xs : List A) → All (λ x. f x ≡ g x) xs → map f xs ≡ map g xs
map_same f g [] same = refl
map_same f g (x ∷ xs) same =
    ap₂ (λ y ys. y ∷ ys) (All-head (λ a. f a ≡ g a) x xs same) (map_same f g xs (All-tail (λ a. f a ≡ g a) x xs same))

pub map-map : {A B C : Type 0} (f : B → C) (g : A → B) (xs : List A) → map f (map g xs) ≡ map (λ x. f (g x)) xs
map-map f g [] = refl
map-map f g (x ∷ xs) = ap (λ ys. f (g x) ∷ ys) (map-map f g xs)

-- a list whose elements a function leaves
pub map_left : {A : Type 0} (f : A → A) (xs : List A) → All (λ x. f x ≡ x) xs → map f xs ≡ xs
map_left f [] same = refl
map_left f (x ∷ xs) same = ap₂ (λ y ys. y ∷ ys) (All-head (λ a. f a ≡ a) x xs same) (map_left f xs (All-tail (λ a. f a ≡ a) x xs same))

-- two facts of each element
pub All-both : {A : Type 0} (P Q R : A → Type 0) → ((x : A) → P x → Q x → R x) → (xs : List A) → All P xs → All Q xs → All R xs
All-both P Q R from [] first second = All-nil R
All-both P Q R from (x ∷ xs) first second =
    All-cons R x xs (from x (All-head P x xs first) (All-head Q x xs second)) (All-both P Q R from xs (All-tail P x xs first) (All-tail Q x xs second))

-- a fact of every element, whatever the list
pub All-every : {A : Type 0} (P : A → Type 0) → ((x : A) → P x) → (xs : List A) → All P xs
All-every P each [] = All-nil P
All-every P each (x ∷ xs) = All-cons P x xs (each x) (All-every P each xs)

-- a fact of each element of the lists that are put after one another
pub All-flat_map : {A B : Type 0} (P : B → Type 0) (f : A → List B) → ((x : A) → All P (f x)) → (xs : List A) → All P (flat_map f xs)
All-flat_map P f each [] = All-nil P
All-flat_map P f each (x ∷ xs) = rw (flat_map-cons f x xs) (All-append P (f x) (flat_map f xs) (each x) (All-flat_map P f each xs))
