-- How many elements of a list pass a test, where those before or after a place do or do not.
use Rattle.std.proofs.Common.{◌≡◌, ℕ, zero, suc, ◌+◌, ◌≤◌, ◌<◌, Bool, true, false, cond, List, [], ◌∷◌, length, get_or, ap, refl, arith, lit≤, zero-le}
use Rattle.std.specs.Prelude.{Some}
use Rattle.std.specs.List.{count_by, find}
use Rattle.std.proofs.lemmas.List.Sums.{count_by-le-length, sum_by-cons, sum_by-le-sum_by}

pub count_by-cons_no :
    {X : Type 0} (p : X → Bool) (x : X) (xs : List X) → p x ≡ false → count_by p (x ∷ xs) ≡ count_by p xs
count_by-cons_no p x xs fails =
    omega (arith, sum_by-cons (λ y. cond (p y) 1 0) x xs, ap (λ b. cond {A = ℕ} b 1 0) fails)

pub count_by-cons_yes :
    {X : Type 0} (p : X → Bool) (x : X) (xs : List X) → p x ≡ true → count_by p (x ∷ xs) ≡ suc (count_by p xs)
count_by-cons_yes p x xs passes =
    omega (arith, sum_by-cons (λ y. cond (p y) 1 0) x xs, ap (λ b. cond {A = ℕ} b 1 0) passes)

one_at_most : (b : Bool) → cond b 1 0 ≤ 1
one_at_most true = lit≤ tt
one_at_most false = lit≤ tt

cond-le-cond : (a b : Bool) → (a ≡ true → b ≡ true) → cond a 1 0 ≤ cond b 1 0
cond-le-cond false b along = zero-le
cond-le-cond true b along = rw (along refl) (lit≤ tt)

count_by-cons_le : {X : Type 0} (p : X → Bool) (x : X) (xs : List X) → count_by p (x ∷ xs) ≤ suc (count_by p xs)
count_by-cons_le p x xs = omega (arith, sum_by-cons (λ y. cond (p y) 1 0) x xs, one_at_most (p x))

count_by-le-cons : {X : Type 0} (p : X → Bool) (x : X) (xs : List X) → count_by p xs ≤ count_by p (x ∷ xs)
count_by-le-cons p x xs = omega (arith, sum_by-cons (λ y. cond (p y) 1 0) x xs)

-- at most k pass, where all from place k on fail
pub count_by-front :
    {X : Type 0} (p : X → Bool) (xs : List X) (k : ℕ) (d : X)
    → ((i : ℕ) → k ≤ i → i < length xs → p (get_or xs i d) ≡ false) → count_by p xs ≤ k
count_by-front p [] k d fails = omega arith
count_by-front p (x ∷ xs) zero d fails =
    omega (
      arith,
      count_by-cons_no p x xs (fails 0 (omega arith) (omega arith)),
      count_by-front p xs 0 d (λ i h l. fails (suc i) (omega arith) (omega arith)),
    )
count_by-front p (x ∷ xs) (suc k) d fails =
    omega (arith, count_by-cons_le p x xs, count_by-front p xs k d (λ i h l. fails (suc i) (omega arith) (omega arith)))

-- at least k pass, where all before place k do
pub front-count_by :
    {X : Type 0} (p : X → Bool) (xs : List X) (k : ℕ) (d : X)
    → ((i : ℕ) → i < k → p (get_or xs i d) ≡ true) → k ≤ length xs → k ≤ count_by p xs
front-count_by p [] k d passes short = omega arith
front-count_by p (x ∷ xs) zero d passes short = omega arith
front-count_by p (x ∷ xs) (suc k) d passes short =
    omega (arith, count_by-cons_yes p x xs (passes 0 (omega arith)), front-count_by p xs k d (λ i h. passes (suc i) (omega arith)) (omega arith))

-- at most those from place j on pass, where all before it fail
pub count_by-back :
    {X : Type 0} (p : X → Bool) (xs : List X) (j : ℕ) (d : X)
    → ((i : ℕ) → i < j → p (get_or xs i d) ≡ false) → j ≤ length xs → count_by p xs + j ≤ length xs
count_by-back p xs zero d fails short = omega (arith, count_by-le-length p xs)
count_by-back p [] (suc j) d fails short = omega arith
count_by-back p (x ∷ xs) (suc j) d fails short =
    omega (arith, count_by-cons_no p x xs (fails 0 (omega arith)), count_by-back p xs j d (λ i h. fails (suc i) (omega arith)) (omega arith))

-- at least those from place j on pass, where all of them do
pub back-count_by :
    {X : Type 0} (p : X → Bool) (xs : List X) (j : ℕ) (d : X)
    → ((i : ℕ) → j ≤ i → i < length xs → p (get_or xs i d) ≡ true) → length xs ≤ count_by p xs + j
back-count_by p [] j d passes = omega arith
back-count_by p (x ∷ xs) zero d passes =
    omega (
      arith,
      count_by-cons_yes p x xs (passes 0 (omega arith) (omega arith)),
      back-count_by p xs 0 d (λ i h l. passes (suc i) (omega arith) (omega arith)),
    )
back-count_by p (x ∷ xs) (suc j) d passes =
    omega (arith, count_by-le-cons p x xs, back-count_by p xs j d (λ i h l. passes (suc i) (omega arith) (omega arith)))

-- a test that passes wherever another does passes at least as often
pub count_by-le-count_by :
    {X : Type 0} (p q : X → Bool) (xs : List X) → ((x : X) → p x ≡ true → q x ≡ true) → count_by p xs ≤ count_by q xs
count_by-le-count_by p q xs along =
    sum_by-le-sum_by (λ x. cond (p x) 1 0) (λ x. cond (q x) 1 0) xs (λ x. cond-le-cond (p x) (q x) (along x))

one_of_two : (a b c : Bool) → (a ≡ true → b ≡ false → c ≡ true) → cond a 1 0 ≤ cond b 1 0 + cond c 1 0
one_of_two false b c other = zero-le
one_of_two true true c other = omega arith
one_of_two true false c other = rw (other refl refl) (lit≤ tt)

-- a test that passes only where one of two others does passes at most as often as both
pub count_by-le-both :
    {X : Type 0} (p q r : X → Bool) (xs : List X) → ((x : X) → p x ≡ true → q x ≡ false → r x ≡ true)
    → count_by p xs ≤ count_by q xs + count_by r xs
count_by-le-both p q r [] other = omega arith
count_by-le-both p q r (x ∷ xs) other =
    omega (
      arith,
      sum_by-cons (λ y. cond (p y) 1 0) x xs,
      sum_by-cons (λ y. cond (q y) 1 0) x xs,
      sum_by-cons (λ y. cond (r y) 1 0) x xs,
      one_of_two (p x) (q x) (r x) (other x),
      count_by-le-both p q r xs other,
    )

two_at_most : (a b c : Bool) → (a ≡ true → b ≡ false) → (a ≡ true → c ≡ true) → (b ≡ true → c ≡ true) → cond a 1 0 + cond b 1 0 ≤ cond c 1 0
two_at_most true b c other one two = rw (other refl, one refl) (omega arith)
two_at_most false true c other one two = rw (two refl) (omega arith)
two_at_most false false c other one two = omega arith

-- two tests that pass nowhere together pass at most as often as one that passes where either does
pub both-le-count_by :
    {X : Type 0} (p q r : X → Bool) (xs : List X) → ((x : X) → p x ≡ true → q x ≡ false) → ((x : X) → p x ≡ true → r x ≡ true)
    → ((x : X) → q x ≡ true → r x ≡ true) → count_by p xs + count_by q xs ≤ count_by r xs
both-le-count_by p q r [] other one two = omega arith
both-le-count_by p q r (x ∷ xs) other one two =
    omega (
      arith,
      sum_by-cons (λ y. cond (p y) 1 0) x xs,
      sum_by-cons (λ y. cond (q y) 1 0) x xs,
      sum_by-cons (λ y. cond (r y) 1 0) x xs,
      two_at_most (p x) (q x) (r x) (other x) (one x) (two x),
      both-le-count_by p q r xs other one two,
    )

pub all_pass : {X : Type 0} (xs : List X) → count_by (λ x. true) xs ≡ length xs
all_pass [] = refl
all_pass {X} (x ∷ xs) = omega (arith, count_by-cons_yes (λ (y : X). true) x xs refl, all_pass xs)

-- no element passes both of two tests
pub both-le-length :
    {X : Type 0} (p q : X → Bool) (xs : List X) → ((x : X) → p x ≡ true → q x ≡ false) → count_by p xs + count_by q xs ≤ length xs
both-le-length {X} p q xs other =
    let all = all_pass xs in
    let both = both-le-count_by p q (λ (x : X). true) xs other (λ x any. refl) (λ x any. refl) in
    omega (arith, all, both)

-- each element passes one of two tests
pub length-le-both :
    {X : Type 0} (p q : X → Bool) (xs : List X) → ((x : X) → p x ≡ false → q x ≡ true) → length xs ≤ count_by p xs + count_by q xs
length-le-both {X} p q xs other =
    let all = all_pass xs in
    let one = count_by-le-both (λ (x : X). true) p q xs (λ x any. other x) in
    omega (arith, all, one)

find-cond :
    {X : Type 0} (p : X → Bool) (x only : X) (xs : List X) (b : Bool) → p x ≡ b → (b ≡ true → x ≡ only)
    → (0 < count_by p xs → find p xs ≡ Some only) → 0 < count_by p (x ∷ xs) → cond b (Some x) (find p xs) ≡ Some only
find-cond p x only xs true is one rest some = ap Some (one refl)
find-cond p x only xs false is one rest some = rest (omega (arith, count_by-cons_no p x xs is))

-- a search finds the only element that passes, where there is one
pub find-only :
    {X : Type 0} (p : X → Bool) (only : X) (xs : List X) → ((x : X) → p x ≡ true → x ≡ only) → 0 < count_by p xs
    → find p xs ≡ Some only
find-only p only [] one some = absurd (omega arith)
find-only p only (x ∷ xs) one some =
    find-cond p x only xs (p x) refl (one x) (find-only p only xs one) some
