-- Lists that are put after one another: mapped, filtered, searched.
use Rattle.std.proofs.Common.{◌≡◌, ◌⊎◌, ℕ, zero, suc, ◌+◌, ◌<◌, ◌≤◌, Bool, true, false, cond, Option, Some, None, List, [], ◌∷◌, ◌++◌, length, map, get_or, refl, ap, ap₂, sym, ◌∙◌, inl, inr, arith}
use Rattle.std.specs.Prelude.{filter, find, option_and_then}
use Rattle.std.specs.List.{cons_option, filter_map, flat_map, range_with_len}
use Rattle.std.specs.Option.{option_or, option_to_list}
use Rattle.std.proofs.lemmas.List.Elements.{filter_map-append}
use Rattle.std.proofs.lemmas.List.Folds.{find-append}

-- an element is one of a list
unfoldable pub Among : {A : Type 0} → A → List A → Type 0
Among x [] = ⊥
Among x (y ∷ ys) = (x ≡ y) ⊎ Among x ys

pub among_here : {A : Type 0} (x : A) (xs : List A) → Among x (x ∷ xs)
unfolding Among
among_here x xs = inl refl

pub among_there : {A : Type 0} (x y : A) (xs : List A) → Among x xs → Among x (y ∷ xs)
unfolding Among
among_there x y xs is = inr is

-- functions that agree on the elements of a list make the same lists
pub flat_map_same : {A B : Type 0} (f g : A → List B) (xs : List A) → ((x : A) → Among x xs → f x ≡ g x) → flat_map f xs ≡ flat_map g xs
flat_map_same f g [] same = refl
flat_map_same f g (x ∷ xs) same = ap₂ (λ ys zs. ys ++ zs) (same x (among_here x xs)) (flat_map_same f g xs (λ y is. same y (among_there y x xs is)))

pub map_same_among : {A B : Type 0} (f g : A → B) (xs : List A) → ((x : A) → Among x xs → f x ≡ g x) → map f xs ≡ map g xs
map_same_among f g [] same = refl
map_same_among f g (x ∷ xs) same = ap₂ (λ y ys. y ∷ ys) (same x (among_here x xs)) (map_same_among f g xs (λ y is. same y (among_there y x xs is)))

pub filter_map-map : {A B C : Type 0} (f : B → Option C) (g : A → B) (xs : List A) → filter_map f (map g xs) ≡ filter_map (λ x. f (g x)) xs
filter_map-map f g [] = refl
filter_map-map f g (x ∷ xs) = ap (cons_option (f (g x))) (filter_map-map f g xs)

pub filter_map-flat_map : {A B C : Type 0} (f : B → Option C) (g : A → List B) (xs : List A) → filter_map f (flat_map g xs) ≡ flat_map (λ x. filter_map f (g x)) xs
filter_map-flat_map f g [] = refl
filter_map-flat_map f g (x ∷ xs) = filter_map-append f (g x) (flat_map g xs) ∙ ap (λ ys. filter_map f (g x) ++ ys) (filter_map-flat_map f g xs)

one_listed : {B : Type 0} (o : Option B) → cons_option o [] ≡ option_to_list o
one_listed None = refl
one_listed (Some y) = refl

pub filter_map-option : {A B : Type 0} (f : A → Option B) (o : Option A) → filter_map f (option_to_list o) ≡ option_to_list (option_and_then f o)
filter_map-option f None = refl
filter_map-option f (Some x) = one_listed (f x)

-- elements without a list of their own may be left out
pub flat_map-filter : {A B : Type 0} (f : A → List B) (p : A → Bool) (xs : List A) → ((x : A) → p x ≡ false → f x ≡ []) → flat_map f (filter p xs) ≡ flat_map f xs
flat_map-filter f p [] empty = refl
flat_map-filter f p (x ∷ xs) empty = by_test (p x) refl (flat_map-filter f p xs empty)
  where
    by_test : (b : Bool) → p x ≡ b → flat_map f (filter p xs) ≡ flat_map f xs → flat_map f (cond b (x ∷ filter p xs) (filter p xs)) ≡ f x ++ flat_map f xs
    by_test true passes rest = ap (λ ys. f x ++ ys) rest
    by_test false fails rest = rest ∙ ap (λ ys. ys ++ flat_map f xs) (sym (empty x fails))

-- what is searched for stands in the part of one element or of none
or_none : {A : Type 0} (o : Option A) → option_or o None ≡ o
or_none None = refl
or_none (Some a) = refl

or_same : {A : Type 0} (o : Option A) → option_or o o ≡ o
or_same None = refl
or_same (Some a) = refl

-- where each part has the wanted or none, the whole has the wanted or none
find_within : {A B : Type 0} (p : B → Bool) (f : A → List B) (t : Option B) (xs : List A) → ((x : A) → Among x xs → (find p (f x) ≡ None) ⊎ (find p (f x) ≡ t)) → (find p (flat_map f xs) ≡ None) ⊎ (find p (flat_map f xs) ≡ t)
find_within p f t [] each = inl refl
find_within p f t (x ∷ xs) each = by_both (each x (among_here x xs)) (find_within p f t xs (λ y is. each y (among_there y x xs is)))
  where
    joined : find p (f x ++ flat_map f xs) ≡ option_or (find p (f x)) (find p (flat_map f xs))
    joined = find-append p (f x) (flat_map f xs)

    by_both : (find p (f x) ≡ None) ⊎ (find p (f x) ≡ t) → (find p (flat_map f xs) ≡ None) ⊎ (find p (flat_map f xs) ≡ t) → (find p (f x ++ flat_map f xs) ≡ None) ⊎ (find p (f x ++ flat_map f xs) ≡ t)
    by_both (inl none) (inl rest) = inl (joined ∙ ap₂ option_or none rest)
    by_both (inl none) (inr rest) = inr (joined ∙ ap₂ option_or none rest)
    by_both (inr here) (inl rest) = inr (joined ∙ ap₂ option_or here rest ∙ or_none t)
    by_both (inr here) (inr rest) = inr (joined ∙ ap₂ option_or here rest ∙ or_same t)

-- and where one element's part has the wanted, so has the whole
pub find_found : {A B : Type 0} (p : B → Bool) (f : A → List B) (t : Option B) (xs : List A) (y : A) → Among y xs → find p (f y) ≡ t → ((x : A) → Among x xs → (find p (f x) ≡ None) ⊎ (find p (f x) ≡ t)) → find p (flat_map f xs) ≡ t
unfolding Among
find_found p f t [] y is here each = absurd is
find_found p f t (x ∷ xs) y (inl same) here each = by_rest (find_within p f t xs (λ z is. each z (inr is)))
  where
    joined : find p (f x ++ flat_map f xs) ≡ option_or (find p (f x)) (find p (flat_map f xs))
    joined = find-append p (f x) (flat_map f xs)

    head : find p (f x) ≡ t
    head = ap (λ z. find p (f z)) (sym same) ∙ here

    by_rest : (find p (flat_map f xs) ≡ None) ⊎ (find p (flat_map f xs) ≡ t) → find p (f x ++ flat_map f xs) ≡ t
    by_rest (inl rest) = joined ∙ ap₂ option_or head rest ∙ or_none t
    by_rest (inr rest) = joined ∙ ap₂ option_or head rest ∙ or_same t
find_found p f t (x ∷ xs) y (inr is) here each = by_head (each x (inl refl)) (find_found p f t xs y is here (λ z there. each z (inr there)))
  where
    joined : find p (f x ++ flat_map f xs) ≡ option_or (find p (f x)) (find p (flat_map f xs))
    joined = find-append p (f x) (flat_map f xs)

    by_head : (find p (f x) ≡ None) ⊎ (find p (f x) ≡ t) → find p (flat_map f xs) ≡ t → find p (f x ++ flat_map f xs) ≡ t
    by_head (inl none) rest = joined ∙ ap₂ option_or none rest
    by_head (inr head) rest = joined ∙ ap₂ option_or head rest ∙ or_same t

-- a search that finds in no part finds nothing
pub find_nowhere : {A B : Type 0} (p : B → Bool) (f : A → List B) (xs : List A) → ((x : A) → find p (f x) ≡ None) → find p (flat_map f xs) ≡ None
find_nowhere p f [] each = refl
find_nowhere p f (x ∷ xs) each = find-append p (f x) (flat_map f xs) ∙ ap₂ option_or (each x) (find_nowhere p f xs each)

-- a number of a range is among it
pub among_range : (from count k : ℕ) → from ≤ k → k < from + count → Among k (range_with_len from count)
unfolding Among
among_range from zero k low high = absurd (omega arith)
among_range from (suc count) k low high = by_place (grind arith) (λ above. among_range (from + 1) count k above (omega arith))
  where
    by_place : (k ≡ from) ⊎ (from + 1 ≤ k) → (from + 1 ≤ k → Among k (range_with_len (from + 1) count)) → (k ≡ from) ⊎ Among k (range_with_len (from + 1) count)
    by_place (inl same) rest = inl same
    by_place (inr above) rest = inr (rest above)

-- lists that are the same at each place are the same
pub same_lists : {A : Type 0} (d : A) (xs ys : List A) → length xs ≡ length ys → ((k : ℕ) → k < length xs → get_or xs k d ≡ get_or ys k d) → xs ≡ ys
same_lists d [] [] long same = refl
same_lists d [] (y ∷ ys) long same = absurd (omega arith)
same_lists d (x ∷ xs) [] long same = absurd (omega arith)
same_lists d (x ∷ xs) (y ∷ ys) long same = ap₂ (λ z zs. z ∷ zs) (same zero (omega arith)) (same_lists d xs ys (omega arith) (λ k below. same (suc k) (omega arith)))

pub get_or-map-range : {A : Type 0} (f : ℕ → A) (d : A) (from count k : ℕ) → k < count → get_or (map f (range_with_len from count)) k d ≡ f (from + k)
get_or-map-range f d from zero k below = absurd (omega arith)
get_or-map-range f d from (suc count) zero below = let e : from ≡ from + 0 = omega arith in ap f e
get_or-map-range f d from (suc count) (suc k) below = let e : from + 1 + k ≡ from + suc k = omega arith in get_or-map-range f d (from + 1) count k (omega arith) ∙ ap f e

pub length-map-range : {A : Type 0} (f : ℕ → A) (from count : ℕ) → length (map f (range_with_len from count)) ≡ count
length-map-range f from zero = refl
length-map-range f from (suc count) = let e : length (map f (range_with_len (from + 1) count)) ≡ count = length-map-range f (from + 1) count in omega (arith, e)

-- the elements of a range
pub range_from : (from count k : ℕ) → Among k (range_with_len from count) → from ≤ k
unfolding Among
range_from from zero k is = absurd is
range_from from (suc count) k (inl same) = omega arith
range_from from (suc count) k (inr there) = let low : from + 1 ≤ k = range_from (from + 1) count k there in omega (arith, low)

pub range_to : (from count k : ℕ) → Among k (range_with_len from count) → k < from + count
unfolding Among
range_to from zero k is = absurd is
range_to from (suc count) k (inl same) = omega arith
range_to from (suc count) k (inr there) = let high : k < from + 1 + count = range_to (from + 1) count k there in omega (arith, high)
