-- Which of several places of a flutter is told: one step further along numbers and lists.
use Rattle.std.proofs.Common.{◌≡◌, ℕ, zero, suc, ◌<◌, ◌≤◌, Bool, true, false, List, [], ◌∷◌, length, Option, Some, None, take, ap, sym, ◌∙◌, refl, arith, ◌⊎◌, inl, inr}
use Rattle.std.specs.Prelude.{max, nat_le, nat_lt, slice_index_or, ◌==◌, ◌&&◌, ◌||◌, if◌then◌else◌}
use Rattle.std.proofs.lemmas.Bool.{cases_eq}
use Rattle.std.proofs.lemmas.Bool.Decides.{nat_tests}
use Rattle.fr_base.specs.declared.channel.Channel.{Channel}
use Rattle.fr_coverage.specs.First.{from_on}
use Rattle.fr_coverage.specs.Flutter.{flutter_in, fluttering_in, greatest_below, greatest_between, greatest_in, outdoes, ticks_of, told_below, told_in, told_of_two}
use Rattle.fr_coverage.proofs.First.{from-before}
use Rattle.fr_drift.specs.View.{DriftView}
use Rattle.fr_coverage.specs.declared.gap.Fluttering.{Fluttering}

-- beside none one stays
pub told-alone : (one : Option Fluttering) → told_of_two one None ≡ one
told-alone None = refl
told-alone (Some one) = refl

-- whether one outdoes another, by their numbers
abbrev outdone : ℕ → ℕ → ℕ → ℕ → Bool
outdone t k u n = nat_lt u t || ((t == u) && nat_lt n k)

over-two : (t k u n v m : ℕ) → outdone u n t k ≡ true → outdone v m u n ≡ true → outdone v m t k ≡ true
over-two t k u n v m e f = grind (arith, nat_tests)

under-two : (t k u n v m : ℕ) → outdone u n t k ≡ false → outdone v m u n ≡ false → outdone v m t k ≡ false
under-two t k u n v m e f = grind (arith, nat_tests)

-- three in turn, from either side
told-three : (one two three : Option Fluttering) → told_of_two one (told_of_two two three) ≡ told_of_two (told_of_two one two) three
told-three None two three = refl
told-three (Some a) None three = refl
told-three (Some a) (Some b) None = sym (told-alone (told_of_two (Some a) (Some b)))
told-three (Some a) (Some b) (Some c) =
    by (outdoes b a) refl (outdoes c b) refl
  where
    by : (one : Bool) → outdoes b a ≡ one → (two : Bool) → outdoes c b ≡ two
        → told_of_two (Some a) (if two then Some c else Some b) ≡ told_of_two (if one then Some b else Some a) (Some c)
    by true e true f =
        let g : outdoes c a ≡ true = over-two a.ticks a.double b.ticks b.double c.ticks c.double e f in
        ap (λ (o : Bool). if o then Some c else Some a) g ∙ sym (ap (λ (o : Bool). if o then Some c else Some b) f)
    by true e false f =
        ap (λ (o : Bool). if o then Some b else Some a) e ∙ sym (ap (λ (o : Bool). if o then Some c else Some b) f)
    by false e true f = refl
    by false e false f =
        let g : outdoes c a ≡ false = under-two a.ticks a.double b.ticks b.double c.ticks c.double e f in
        ap (λ (o : Bool). if o then Some b else Some a) e ∙ sym (ap (λ (o : Bool). if o then Some c else Some a) g)

pub told-zero : (f : ℕ → Option Fluttering) → told_below f 0 ≡ None
unfolding told_below
told-zero f = refl

pub told-next : (f : ℕ → Option Fluttering) (n : ℕ) → told_below f (suc n) ≡ told_of_two (told_below f n) (f n)
unfolding told_below
told-next f n = refl

-- it stays where the numbers further on give nothing
pub told-skip : (f : ℕ → Option Fluttering) (n m : ℕ) → n ≤ m → ((k : ℕ) → n ≤ k → k < m → f k ≡ None) → told_below f m ≡ told_below f n
unfolding told_below
told-skip f zero zero le none = refl
told-skip f (suc n) zero le none = absurd (omega arith)
told-skip f n (suc m) le none = by (cases_eq n (suc m)) (λ lt. told-skip f n m lt (λ k from to. none k from (omega arith)))
  where
    by : (n ≡ suc m) ⊎ (n ≡ suc m → ⊥) → (n ≤ m → told_below f m ≡ told_below f n) → told_below f (suc m) ≡ told_below f n
    by (inl e) rest = ap (told_below f) (sym e)
    by (inr ne) rest =
        ap (told_of_two (told_below f m)) (none m (omega arith) (omega arith)) ∙ told-alone (told_below f m) ∙ rest (omega arith)

-- nothing is told where the search begins
pub told-start : (f : ℕ → Option Fluttering) (from start : ℕ) → start ≤ from → told_below (from_on from f) start ≡ None
told-start f from start le =
    told-skip (from_on from f) 0 start (omega arith) (λ k low high. from-before f from k (omega arith)) ∙ told-zero (from_on from f)

pub told-nil : {A : Type 0} (f : A → Option Fluttering) → told_in f [] ≡ None
unfolding told_in
told-nil f = refl

-- along a list, one element further
pub told-more : {A : Type 0} (f : A → Option Fluttering) (xs : List A) (i : ℕ) (x : A) → i < length xs → x ≡ slice_index_or xs i x
    → told_in f (take (suc i) xs) ≡ told_of_two (told_in f (take i xs)) (f x)
unfolding told_in
told-more f [] i x lt e = absurd (omega arith)
told-more f (y ∷ ys) zero x lt e = told-alone (f y) ∙ ap f (sym e)
told-more f (y ∷ ys) (suc i) x lt e =
    ap (told_of_two (f y)) (told-more f ys i x (omega arith) e) ∙ told-three (f y) (told_in f (take i ys)) (f x)

-- ---- its ticks

pub ticks-two : (one other : Option Fluttering) → ticks_of (told_of_two one other) ≡ max (ticks_of one) (ticks_of other)
ticks-two None other = grind arith
ticks-two (Some a) None = grind arith
ticks-two (Some a) (Some b) = by (outdoes b a) refl
  where
    more : (t k u n : ℕ) → outdone u n t k ≡ true → u ≡ max t u
    more t k u n e = grind (arith, nat_tests)

    less : (t k u n : ℕ) → outdone u n t k ≡ false → t ≡ max t u
    less t k u n e = grind (arith, nat_tests)

    by : (o : Bool) → outdoes b a ≡ o → ticks_of (if o then Some b else Some a) ≡ max a.ticks b.ticks
    by true e = more a.ticks a.double b.ticks b.double e
    by false e = less a.ticks a.double b.ticks b.double e

ticks-below : (f : ℕ → Option Fluttering) (g : ℕ → ℕ) (n : ℕ) → ((k : ℕ) → ticks_of (f k) ≡ g k) → ticks_of (told_below f n) ≡ greatest_below g n
unfolding told_below greatest_below
ticks-below f g zero same = refl
ticks-below f g (suc n) same =
    ticks-two (told_below f n) (f n) ∙ ap (λ (t : ℕ). max t (ticks_of (f n))) (ticks-below f g n same) ∙ ap (max (greatest_below g n)) (same n)

pub ticks-in : {A : Type 0} (f : A → Option Fluttering) (g : A → ℕ) (xs : List A) → ((x : A) → ticks_of (f x) ≡ g x) → ticks_of (told_in f xs) ≡ greatest_in g xs
unfolding told_in greatest_in
ticks-in f g [] same = refl
ticks-in f g (x ∷ xs) same =
    ticks-two (f x) (told_in f xs) ∙ ap (λ (t : ℕ). max t (ticks_of (told_in f xs))) (same x) ∙ ap (max (g x)) (ticks-in f g xs same)

ticks-or : (n : ℕ) (place : Fluttering) → place.ticks ≡ n → ticks_of (if n == 0 then None else Some place) ≡ n
ticks-or n place e = by (n == 0) refl
  where
    by : (o : Bool) → (n == 0) ≡ o → ticks_of (if o then None else Some place) ≡ n
    by true none = grind (arith, nat_tests)
    by false some = e

ticks-from : (f : ℕ → Option Fluttering) (g : ℕ → ℕ) (from k : ℕ) → ticks_of (f k) ≡ g k → ticks_of (from_on from f k) ≡ (if nat_le from k then g k else 0)
ticks-from f g from k e = by (nat_le from k)
  where
    by : (b : Bool) → ticks_of (if b then f k else None) ≡ (if b then g k else 0)
    by true = e
    by false = refl

-- those of a link on a channel
pub ticks-between : (d : DriftView) (i j : ℕ) (ch : Channel) (from n : ℕ)
    → ticks_of (told_below (from_on from (fluttering_in d i j ch)) n) ≡ greatest_between (flutter_in d i j ch) from n
ticks-between d i j ch from n =
    ticks-below (from_on from (fluttering_in d i j ch)) _ n
    (λ k. ticks-from (fluttering_in d i j ch) (flutter_in d i j ch) from k (ticks-or (flutter_in d i j ch k) _ refl))
