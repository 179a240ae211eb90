-- What is found first, one step further.
use Rattle.std.proofs.Common.{◌≡◌, ℕ, zero, suc, ◌<◌, ◌≤◌, Bool, true, false, List, [], ◌∷◌, length, Option, Some, None, take, ap, sym, ◌∙◌, refl, arith, ◌⊎◌, inl, inr, subst}
use Rattle.std.specs.Prelude.{nat_le, slice_index_or, if◌then◌else◌}
use Rattle.std.specs.Option.{option_or}
use Rattle.std.proofs.lemmas.Bool.{cases_eq}
use Rattle.std.proofs.lemmas.Bool.Decides.{nat_tests}
use Rattle.fr_coverage.specs.First.{first_below, first_in, from_on}

or-first : {A : Type 0} (a b : Option A) → option_or a b ≡ None → a ≡ None
or-first None b h = refl
or-first (Some x) b h = cc h

or-second : {A : Type 0} (a b : Option A) → option_or a b ≡ None → b ≡ None
or-second None b h = h
or-second (Some x) b h = cc h

or-none : {A : Type 0} (a b : Option A) → a ≡ None → b ≡ None → option_or a b ≡ None
or-none a b e f = rw e f

or-some : {A : Type 0} (a b : Option A) (x : A) → a ≡ None → b ≡ Some x → option_or a b ≡ Some x
or-some a b x e f = rw e f

or-kept : {A : Type 0} (a b : Option A) (x : A) → a ≡ Some x → option_or a b ≡ Some x
or-kept a b x e = rw e refl

pub below-zero : {A : Type 0} (f : ℕ → Option A) → first_below f 0 ≡ None
unfolding first_below
below-zero f = refl

pub below-next : {A : Type 0} (f : ℕ → Option A) (n : ℕ) → first_below f n ≡ None → f n ≡ None → first_below f (suc n) ≡ None
unfolding first_below
below-next f n h e = or-none (first_below f n) (f n) h e

-- nothing is found further on where nothing is to be found
pub below-skip : {A : Type 0} (f : ℕ → Option A) (n m : ℕ) → first_below f n ≡ None → n ≤ m → ((k : ℕ) → n ≤ k → k < m → f k ≡ None) → first_below f m ≡ None
unfolding first_below
below-skip f n zero h le none = refl
below-skip f n (suc m) h le none = by (cases_eq n (suc m)) (λ lt. below-skip f n m h lt (λ k from to. none k from (omega arith)))
  where
    by : (n ≡ suc m) ⊎ (n ≡ suc m → ⊥) → (n ≤ m → first_below f m ≡ None) → first_below f (suc m) ≡ None
    by (inl e) rest = let P : ℕ → Type 0 = λ k. first_below f k ≡ None in subst P e h
    by (inr ne) rest = or-none (first_below f m) (f m) (rest (omega arith)) (none m (omega arith) (omega arith))

-- what is found at a number stays found further on
pub below-found : {A : Type 0} (f : ℕ → Option A) (n m : ℕ) (x : A) → first_below f n ≡ None → f n ≡ Some x → n < m → first_below f m ≡ Some x
unfolding first_below
below-found f n zero x h e lt = absurd (omega arith)
below-found f n (suc m) x h e lt = by (cases_eq n m) (λ below. below-found f n m x h e below)
  where
    by : (n ≡ m) ⊎ (n ≡ m → ⊥) → (n < m → first_below f m ≡ Some x) → first_below f (suc m) ≡ Some x
    by (inl same) rest = or-some (first_below f m) (f m) x (rw (← same) h) (rw (← same) e)
    by (inr ne) rest = or-kept (first_below f m) (f m) x (rest (omega arith))

-- from a number on what is given stays, and before it there is nothing
pub from-before : {A : Type 0} (f : ℕ → Option A) (from n : ℕ) → n < from → from_on from f n ≡ None
from-before f from n lt =
    let e : nat_le from n ≡ false = grind (arith, nat_tests) in ap (λ (b : Bool). if b then f n else None) e

pub from-behind : {A : Type 0} (f : ℕ → Option A) (from n : ℕ) → from ≤ n → from_on from f n ≡ f n
from-behind f from n le =
    let e : nat_le from n ≡ true = grind (arith, nat_tests) in ap (λ (b : Bool). if b then f n else None) e

pub from-none : {A : Type 0} (f : ℕ → Option A) (from n : ℕ) → f n ≡ None → from_on from f n ≡ None
from-none f from n e = by (nat_le from n)
  where
    by : (b : Bool) → (if b then f n else None) ≡ None
    by true = e
    by false = refl

-- nothing is found where the search begins
pub from-start : {A : Type 0} (f : ℕ → Option A) (from start : ℕ) → start ≤ from → first_below (from_on from f) start ≡ None
from-start f from start le =
    below-skip (from_on from f) 0 start (below-zero (from_on from f)) (omega arith) (λ k low high. from-before f from k (omega arith))

-- further on, and what is found
pub from-skip : {A : Type 0} (f : ℕ → Option A) (from n m : ℕ) → first_below (from_on from f) n ≡ None → n ≤ m → ((k : ℕ) → n ≤ k → k < m → f k ≡ None)
    → first_below (from_on from f) m ≡ None
from-skip f from n m h le none = below-skip (from_on from f) n m h le (λ k low high. from-none f from k (none k low high))

pub from-found : {A : Type 0} (f : ℕ → Option A) (from n m : ℕ) (x : A) → first_below (from_on from f) n ≡ None → from ≤ n → f n ≡ Some x → n < m
    → first_below (from_on from f) m ≡ Some x
from-found f from n m x h le e lt = below-found (from_on from f) n m x h (from-behind f from n le ∙ e) lt

pub in-nil : {A B : Type 0} (f : A → Option B) → first_in f [] ≡ None
unfolding first_in
in-nil f = refl

-- along a list, one element further, and up to the first that gives something
pub in-more : {A B : Type 0} (f : A → Option B) (xs : List A) (i : ℕ) (x : A) → i < length xs → x ≡ slice_index_or xs i x → first_in f (take i xs) ≡ None → f x ≡ None → first_in f (take (suc i) xs) ≡ None
unfolding first_in
in-more f [] i x lt e h none = refl
in-more f (y ∷ ys) zero x lt e h none = or-none (f y) _ (ap f (sym e) ∙ none) refl
in-more f (y ∷ ys) (suc i) x lt e h none = or-none (f y) _ (or-first (f y) _ h) (in-more f ys i x (omega arith) e (or-second (f y) _ h) none)

pub in-hit : {A B : Type 0} (f : A → Option B) (xs : List A) (i : ℕ) (x : A) (b : B) → i < length xs → x ≡ slice_index_or xs i x → first_in f (take i xs) ≡ None → f x ≡ Some b → first_in f xs ≡ Some b
unfolding first_in
in-hit f [] i x b lt e h some = absurd (omega arith)
in-hit f (y ∷ ys) zero x b lt e h some = or-kept (f y) _ b (ap f (sym e) ∙ some)
in-hit f (y ∷ ys) (suc i) x b lt e h some = or-some (f y) _ b (or-first (f y) _ h) (in-hit f ys i x b (omega arith) e (or-second (f y) _ h) some)
