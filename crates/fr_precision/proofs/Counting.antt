-- How many elements of a list pass a test, against how many of another.
use Rattle.std.proofs.Common.{◌≡◌, ◌≢◌, ℕ, suc, ◌+◌, ◌<◌, ◌≤◌, ◌==◌, Bool, true, false, cond, not, ◌&&◌, List, [], ◌∷◌, get_or, refl, ap, sym, ◌∙◌, inl, inr, arith}
use Rattle.std.specs.Prelude.{AllPairs, Contains, count_by}
use Rattle.std.specs.List.{range_with_len}
use Rattle.std.proofs.lemmas.List.Sums.{sum_by-cons}
use Rattle.std.proofs.lemmas.List.FromFn.{get_or-range_with_len, length-range_with_len}
use Rattle.fr_cluster.proofs.Elements.{Contains-here, Contains-none, Contains-there}
use Rattle.fr_cluster.proofs.KeyNodes.{AllPairs-first, AllPairs-rest, Contains-cons_cases}

-- one where the test passes
abbrev pub one_if : Bool → ℕ
one_if b = cond b 1 0

pub count_cons : {X : Type 0} (p : X → Bool) (x : X) (xs : List X) → count_by p (x ∷ xs) ≡ one_if (p x) + count_by p xs
count_cons p x xs = sum_by-cons (λ y. cond (p y) 1 0) x xs

pub count_yes : {X : Type 0} (p : X → Bool) (x : X) (xs : List X) → p x ≡ true → count_by p (x ∷ xs) ≡ suc (count_by p xs)
count_yes p x xs passes =
    let e = count_cons p x xs in
    let one : one_if (p x) ≡ 1 = ap one_if passes in
    omega (arith, e, one)

pub count_no : {X : Type 0} (p : X → Bool) (x : X) (xs : List X) → p x ≡ false → count_by p (x ∷ xs) ≡ count_by p xs
count_no p x xs fails =
    let e = count_cons p x xs in
    let none : one_if (p x) ≡ 0 = ap one_if fails in
    omega (arith, e, none)

-- what passes the one test passes the other
abbrev pub Implies : {X : Type 0} → (X → Bool) → (X → Bool) → Type 0
Implies {X = X} p q = (x : X) → p x ≡ true → q x ≡ true

one_le : (b c : Bool) → (b ≡ true → c ≡ true) → one_if b ≤ one_if c
one_le true c implies = let e : one_if c ≡ 1 = ap one_if (implies refl) in omega (arith, e)
one_le false c implies = omega arith

pub count_le : {X : Type 0} (p q : X → Bool) (xs : List X) → Implies p q → count_by p xs ≤ count_by q xs
count_le p q [] implies = omega arith
count_le p q (x ∷ xs) implies =
    let rest = count_le p q xs implies in
    let one = one_le (p x) (q x) (implies x) in
    let e = count_cons p x xs in
    let g = count_cons q x xs in
    omega (arith, rest, one, e, g)

-- and of those that fail the one there is one that passes the other
pub count_less : {X : Type 0} (p q : X → Bool) (xs : List X) (x : X) → Implies p q → Contains xs x → p x ≡ false → q x ≡ true → count_by p xs < count_by q xs
count_less p q [] x implies among fails passes = absurd (Contains-none x among)
count_less p q (y ∷ ys) x implies among fails passes =
    let e = count_cons p y ys in
    let g = count_cons q y ys in
    elim (Contains-cons_cases y ys x among) [
      | inl same ↦
          let rest = count_le p q ys implies in
          let none : one_if (p y) ≡ 0 = ap one_if (ap p same ∙ fails) in
          let one : one_if (q y) ≡ 1 = ap one_if (ap q same ∙ passes) in
          omega (arith, e, g, rest, none, one)
      | inr more ↦
          let rest = count_less p q ys x implies more fails passes in
          let one = one_le (p y) (q y) (implies y) in
          omega (arith, e, g, rest, one)
    ]

-- a list has so many elements of each kind as are sent to different elements of another that pass
pub record AreSent (want test : ℕ → Bool) (to : ℕ → ℕ) (xs ys : List ℕ) : Type 0 where
  pub apart : AllPairs (λ a b. a ≢ b) xs
  pub lands : (x : ℕ) → Contains xs x → want x ≡ true → Contains ys (to x) × (test (to x) ≡ true)
  pub sole : (x y : ℕ) → Contains xs x → Contains xs y → want x ≡ true → want y ≡ true → to x ≡ to y → x ≡ y

without : (ℕ → Bool) → ℕ → ℕ → Bool
without test y x = test x && not (x == y)

without_implies : (test : ℕ → Bool) (y : ℕ) → Implies (without test y) test
unfolding without
without_implies test y x is = first (test x) (not (x == y)) is
  where
    first : (b c : Bool) → (b && c) ≡ true → b ≡ true
    first true c is = refl
    first false c is = absurd (cc)

without_itself : (test : ℕ → Bool) (y : ℕ) → without test y y ≡ false
unfolding without
without_itself test y = last (test y) (y == y) (equal y)
  where
    equal : (a : ℕ) → (a == a) ≡ true
    equal a = grind arith

    last : (b c : Bool) → c ≡ true → (b && not c) ≡ false
    last true c is = rw is refl
    last false c is = refl

without_other : (test : ℕ → Bool) (y x : ℕ) → test x ≡ true → x ≢ y → without test y x ≡ true
unfolding without
without_other test y x passes other = rw (passes, differs x y other) refl
  where
    differs : (a b : ℕ) → a ≢ b → (a == b) ≡ false
    differs a b other = grind arith

rest_sent : (want test : ℕ → Bool) (to : ℕ → ℕ) (x : ℕ) (xs ys : List ℕ) → AreSent want test to (x ∷ xs) ys → AreSent want test to xs ys
rest_sent want test to x xs ys sent = record {
  apart = AllPairs-rest (λ a b. a ≢ b) x xs sent.apart;
  lands = λ y among is. sent.lands y (Contains-there x xs y among) is;
  sole = λ y z here there is also same. sent.sole y z (Contains-there x xs y here) (Contains-there x xs z there) is also same;
}

others_sent : (want test : ℕ → Bool) (to : ℕ → ℕ) (x : ℕ) (xs ys : List ℕ) → want x ≡ true → AreSent want test to (x ∷ xs) ys
    → AreSent want (without test (to x)) to xs ys
others_sent want test to x xs ys wanted sent = record {
  apart = AllPairs-rest (λ a b. a ≢ b) x xs sent.apart;
  lands =
      λ y among is.
      let there = sent.lands y (Contains-there x xs y among) is in
      let differs : to y ≢ to x = λ same.
      AllPairs-first (λ a b. a ≢ b) x xs y sent.apart among (sym (sent.sole y x (Contains-there x xs y among) (Contains-here x xs) is wanted same)) in
      (there.0, without_other test (to x) (to y) there.1 differs);
  sole = λ y z here there is also same. sent.sole y z (Contains-there x xs y here) (Contains-there x xs z there) is also same;
}

sent_by : (want test : ℕ → Bool) (to : ℕ → ℕ) (x : ℕ) (xs ys : List ℕ) (b : Bool) → want x ≡ b → AreSent want test to (x ∷ xs) ys
    → ((other : ℕ → Bool) → AreSent want other to xs ys → count_by want xs ≤ count_by other ys)
    → count_by want (x ∷ xs) ≤ count_by test ys
sent_by want test to x xs ys true wanted sent counted =
    let more = counted (without test (to x)) (others_sent want test to x xs ys wanted sent) in
    let lands = sent.lands x (Contains-here x xs) wanted in
    let less = count_less (without test (to x)) test ys (to x) (without_implies test (to x)) lands.0 (without_itself test (to x)) lands.1 in
    let e = count_yes want x xs wanted in
    omega (arith, more, less, e)
sent_by want test to x xs ys false unwanted sent counted =
    let more = counted test (rest_sent want test to x xs ys sent) in
    let e = count_no want x xs unwanted in
    omega (arith, more, e)

pub sent_apart : (want test : ℕ → Bool) (to : ℕ → ℕ) (xs ys : List ℕ) → AreSent want test to xs ys → count_by want xs ≤ count_by test ys
sent_apart want test to [] ys sent = omega arith
sent_apart want test to (x ∷ xs) ys sent = sent_by want test to x xs ys (want x) refl sent (λ other others. sent_apart want other to xs ys others)

-- ---- ranges

pub range_apart : (a n : ℕ) → AllPairs (λ x y. x ≢ y) (range_with_len a n)
range_apart a n i j d before within =
    let size = length-range_with_len a n in
    let one = get_or-range_with_len a n i d (omega (arith, before, within, size)) in
    let other = get_or-range_with_len a n j d (omega (arith, within, size)) in
    λ same. omega (arith, before, one, other, same)

pub range_contains : (n i : ℕ) → i < n → Contains (range_with_len 0 n) i
range_contains n i below =
    let size = length-range_with_len 0 n in
    let at : get_or (range_with_len 0 n) i i ≡ i = let e = get_or-range_with_len 0 n i i below in omega (arith, e) in
    (i, omega (arith, below, size), at)
