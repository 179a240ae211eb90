-- Lists of indexes from which those of some elements are taken out, and what stands at them.
use Rattle.std.proofs.Common.{◌≡◌, ◌≢◌, ◌⊎◌, ℕ, suc, ◌≤◌, ◌==◌, Bool, true, false, ℤ, Option, Some, None, List, [], ◌∷◌, ◌++◌, All, length, map, refl, ap, sym, ◌∙◌, subst, inl, inr, arith}
use Rattle.std.specs.Prelude.{AllPairs, Contains, IfSome, IsPermutation, IsSome, count_by, filter, is_none, is_some}
use Rattle.std.specs.List.{AllZip, cons_option, filter_map}
use Rattle.std.proofs.lemmas.Bool.{eqb-true}
use Rattle.std.proofs.lemmas.List.Elements.{All-cons, All-contains_itself, All-map, All-nil}
use Rattle.std.proofs.lemmas.List.Kept.{AllPairs-cons}
use Rattle.std.proofs.lemmas.List.Sorted.{IsPermutation-cons, IsPermutation-middle, IsPermutation-refl, IsPermutation-trans}
use Rattle.fr_cluster.proofs.Elements.{Contains-here, Contains-none, Contains-there}
use Rattle.fr_cluster.proofs.KeyNodes.{AllPairs-first, AllPairs-rest, Contains-cons_cases}
use Rattle.fr_precision.proofs.Counting.{count_cons, sent_apart}
use Rattle.fr_precision.proofs.Senders.{All-along}

-- ---- indexes taken out

-- an index goes to the front, and all other indexes stay, whatever stands at them
pub record IsTaken (range : List ℕ) (index : ℕ) : Type 0 where
  pub rest : List ℕ
  pub front : (at : ℕ → Option ℤ) → IsPermutation (filter_map at (index ∷ rest)) (filter_map at range)
  pub stays : (other : ℕ) → Contains range other → other ≢ index → Contains rest other

exchanged : (a b : Option ℤ) (xs : List ℤ) → IsPermutation (cons_option a (cons_option b xs)) (cons_option b (cons_option a xs))
exchanged None b xs = IsPermutation-refl (cons_option b xs)
exchanged (Some a) None xs = IsPermutation-refl (a ∷ xs)
exchanged (Some a) (Some b) xs = IsPermutation-middle (a ∷ []) b xs

behind : (o : Option ℤ) (xs ys : List ℤ) → IsPermutation xs ys → IsPermutation (cons_option o xs) (cons_option o ys)
behind None xs ys same = same
behind (Some v) xs ys same = IsPermutation-cons v xs ys same

taken_here : (range : List ℕ) (first index : ℕ) → first ≡ index → IsTaken (first ∷ range) index
taken_here range first index same =
    record {
      rest = range;
      front = λ at. let At : ℕ → Type 0 = λ i. IsPermutation (filter_map at (i ∷ range)) (filter_map at (first ∷ range)) in subst At same (IsPermutation-refl (filter_map at (first ∷ range)));
      stays = λ other among differs. elim (Contains-cons_cases first range other among) [
        | inl here ↦ absurd (differs (sym here ∙ same))
        | inr more ↦ more
      ];
    }

taken_there : (range : List ℕ) (first index : ℕ) → IsTaken range index → IsTaken (first ∷ range) index
taken_there range first index taken =
    record {
      rest = first ∷ taken.rest;
      front = λ at.
          IsPermutation-trans (cons_option (at index) (cons_option (at first) (filter_map at taken.rest))) (cons_option (at first) (cons_option (at index) (filter_map at taken.rest)))
          (cons_option (at first) (filter_map at range)) (exchanged (at index) (at first) (filter_map at taken.rest))
          (behind (at first) (filter_map at (index ∷ taken.rest)) (filter_map at range) (taken.front at));
      stays = λ other among differs. elim (Contains-cons_cases first range other among) [
        | inl here ↦ (let Has : ℕ → Type 0 = λ n. Contains (first ∷ taken.rest) n in subst Has here (Contains-here first taken.rest))
        | inr more ↦ Contains-there first taken.rest other (taken.stays other more differs)
      ];
    }

taken : (range : List ℕ) (index : ℕ) → Contains range index → IsTaken range index
taken [] index among = absurd (Contains-none index among)
taken (first ∷ range) index among = elim (Contains-cons_cases first range index among) [
  | inl here ↦ taken_here range first index here
  | inr more ↦ taken_there range first index (taken range index more)
]

-- some indexes taken out
pub record AreTaken (range some : List ℕ) : Type 0 where
  pub rest : List ℕ
  pub front : (at : ℕ → Option ℤ) → IsPermutation (filter_map at (some ++ rest)) (filter_map at range)

pub all_taken : (range some : List ℕ) → AllPairs (λ a b. a ≢ b) some → ((one : ℕ) → Contains some one → Contains range one) → AreTaken range some
all_taken range [] apart each = record { rest = range; front = λ at. IsPermutation-refl (filter_map at range) }
all_taken range (one ∷ some) apart each =
    let first = taken range one (each one (Contains-here one some)) in
    let rest =
    all_taken first.rest some (AllPairs-rest (λ a b. a ≢ b) one some apart)
    (λ other among.
    first.stays other (each other (Contains-there one some other among)) (λ same. AllPairs-first (λ a b. a ≢ b) one some other apart among (sym same))) in
    record {
      rest = rest.rest;
      front = λ at.
          IsPermutation-trans (cons_option (at one) (filter_map at (some ++ rest.rest))) (cons_option (at one) (filter_map at first.rest)) (filter_map at range)
          (behind (at one) (filter_map at (some ++ rest.rest)) (filter_map at first.rest) (rest.front at)) (first.front at);
    }

-- ---- what stands at some indexes

-- those that are there, and those of other indexes
pub heard_parts : (at : ℕ → Option ℤ) (some rest : List ℕ) → filter_map at (some ++ rest) ≡ filter_map (λ value. value) (map at some) ++ filter_map at rest
heard_parts at [] rest = refl
heard_parts at (one ∷ some) rest = by (at one) (heard_parts at some rest)
  where
    by : (o : Option ℤ) → filter_map at (some ++ rest) ≡ filter_map (λ value. value) (map at some) ++ filter_map at rest
        → cons_option o (filter_map at (some ++ rest)) ≡ cons_option o (filter_map (λ value. value) (map at some)) ++ filter_map at rest
    by None same = same
    by (Some v) same = ap (λ values. v ∷ values) same

-- where there is something at each of them, they are as many
pub all_there : (at : ℕ → Option ℤ) (some : List ℕ) → ((one : ℕ) → Contains some one → IsSome (at one)) → length (filter_map (λ value. value) (map at some)) ≡ length some
all_there at [] each = refl
all_there at (one ∷ some) each = by (at one) (each one (Contains-here one some)) (all_there at some (λ other among. each other (Contains-there one some other among)))
  where
    by : (o : Option ℤ) → IsSome o → length (filter_map (λ value. value) (map at some)) ≡ length some → length (cons_option o (filter_map (λ value. value) (map at some))) ≡ suc (length some)
    by None there rest = absurd (cc there)
    by (Some v) there rest = ap suc rest

-- where something stands at no more indexes, there are no more
pub no_more_there : (at other : ℕ → Option ℤ) (some : List ℕ) → ((index : ℕ) → IsSome (at index) → IsSome (other index)) → length (filter_map at some) ≤ length (filter_map other some)
no_more_there at other [] each = omega arith
no_more_there at other (one ∷ some) each = by (at one) (other one) (each one) (no_more_there at other some each)
  where
    by : (a b : Option ℤ) → (IsSome a → IsSome b) → length (filter_map at some) ≤ length (filter_map other some)
        → length (cons_option a (filter_map at some)) ≤ length (cons_option b (filter_map other some))
    by None None each le = le
    by None (Some b) each le = omega (arith, le)
    by (Some a) None each le = let none : Option ℤ = None in let there : is_some none ≡ true = each refl in absurd (cc there)
    by (Some a) (Some b) each le = omega (arith, le)

-- what some elements have at their indexes lies in what each is said to
pub all_lie : {X Y : Type 0} (Lies : Y → ℤ → Type 0) (box : X → Y) (at : ℕ → Option ℤ) (index : X → ℕ) (some : List X)
    → ((one : X) → Contains some one → IfSome (at (index one)) (Lies (box one))) → AllZip (λ (y : Y) (o : Option ℤ). IfSome o (Lies y)) (map box some) (map at (map index some))
all_lie Lies box at index [] each = tt
all_lie Lies box at index (one ∷ some) each =
    (each one (Contains-here one some), all_lie Lies box at index some (λ other among. each other (Contains-there one some other among)))

-- ---- numbers that are among some

among_or_not : (xs : List ℕ) (x : ℕ) → Contains xs x ⊎ (Contains xs x → ⊥)
among_or_not [] x = inr (λ among. Contains-none x among)
among_or_not (y ∷ ys) x = by (same (y == x) refl) (among_or_not ys x)
  where
    same : (t : Bool) → (y == x) ≡ t → (y ≡ x) ⊎ (y ≢ x)
    same true is = inl (eqb-true y x is)
    same false is = inr (λ e. let equal : (y == x) ≡ true = grind arith in let f : true ≡ false = sym equal ∙ is in cc f)

    by : (y ≡ x) ⊎ (y ≢ x) → Contains ys x ⊎ (Contains ys x → ⊥) → Contains (y ∷ ys) x ⊎ (Contains (y ∷ ys) x → ⊥)
    by (inl is) rest = inl (let Has : ℕ → Type 0 = λ n. Contains (y ∷ ys) n in subst Has is (Contains-here y ys))
    by (inr differs) (inl more) = inl (Contains-there y ys x more)
    by (inr differs) (inr none) = inr (λ among. elim (Contains-cons_cases y ys x among) [
      | inl is ↦ differs is
      | inr more ↦ none more
    ])

pub all_pass : {X : Type 0} (xs : List X) → count_by (λ (x : X). true) xs ≡ length xs
all_pass [] = refl
all_pass {X = X} (x ∷ xs) = let e = count_cons (λ (y : X). true) x xs in let rest = all_pass xs in omega (arith, e, rest)

-- different numbers at which nothing stands, each of which is among some or has something, are no more than those
pub few_missing : (value : ℕ → Option ℤ) (nodes missed : List ℕ) → AllPairs (λ a b. a ≢ b) nodes
    → ((node : ℕ) → Contains nodes node → (Contains missed node → ⊥) → IsSome (value node)) → count_by (λ node. is_none (value node)) nodes ≤ length missed
few_missing value nodes missed apart each =
    let counted =
    sent_apart (λ node. is_none (value node)) (λ (n : ℕ). true) (λ n. n) nodes missed
    (record { apart = apart; lands = λ node among none. (lands node among none (among_or_not missed node), refl); sole = λ x y here there wanted also same. same }) in
    let long = all_pass missed in
    omega (arith, counted, long)
  where
    there_none : (o : Option ℤ) → is_none o ≡ true → IsSome o → ⊥
    there_none None none some = absurd (cc some)
    there_none (Some v) none some = absurd (cc none)

    lands : (node : ℕ) → Contains nodes node → is_none (value node) ≡ true → Contains missed node ⊎ (Contains missed node → ⊥) → Contains missed node
    lands node among none (inl is) = is
    lands node among none (inr not_there) = absurd (there_none (value node) none (each node among not_there))

pub count_mapped : {X Y : Type 0} (test : Y → Bool) (f : X → Y) (xs : List X) → count_by test (map f xs) ≡ count_by (λ x. test (f x)) xs
count_mapped test f [] = refl
count_mapped test f (x ∷ xs) =
    let one = count_cons test (f x) (map f xs) in
    let also = count_cons (λ z. test (f z)) x xs in
    let rest = count_mapped test f xs in
    omega (arith, one, also, rest)

-- ---- lists without one of them

-- of some that differ at most one is left out
left_by : (X : Type 0) (test : X → Bool) (one : X) (some : List X) (b : Bool) → test one ≡ b → length some ≤ suc (length (filter test some))
    → (test one ≡ false → filter test some ≡ some) → length (one ∷ some) ≤ suc (length (filter test (one ∷ some)))
left_by X test one some true passes rest all =
    let kept : filter test (one ∷ some) ≡ one ∷ filter test some = rw passes refl in
    let long : length (filter test (one ∷ some)) ≡ suc (length (filter test some)) = ap length kept in
    omega (arith, rest, long)
left_by X test one some false fails rest all =
    let left : filter test (one ∷ some) ≡ filter test some = rw fails refl in
    let same : filter test (one ∷ some) ≡ some = left ∙ all fails in
    let long : length (filter test (one ∷ some)) ≡ length some = ap length same in
    omega (arith, long)

pub all_kept : (X : Type 0) (test : X → Bool) (some : List X) → ((one : X) → Contains some one → test one ≡ true) → filter test some ≡ some
all_kept X test [] passes = refl
all_kept X test (one ∷ some) passes =
    let kept : filter test (one ∷ some) ≡ one ∷ filter test some = (let first = passes one (Contains-here one some) in rw first refl) in
    kept ∙ ap (λ rest. one ∷ rest) (all_kept X test some (λ other among. passes other (Contains-there one some other among)))

pub one_left_out : (X : Type 0) (test : X → Bool) (some : List X) → AllPairs (λ one other. test one ≡ false → test other ≡ true) some → length some ≤ suc (length (filter test some))
one_left_out X test [] apart = omega arith
one_left_out X test (one ∷ some) apart =
    let R : X → X → Type 0 = λ a b. test a ≡ false → test b ≡ true in
    left_by X test one some (test one) refl (one_left_out X test some (AllPairs-rest R one some apart))
    (λ fails. all_kept X test some (λ other among. AllPairs-first R one some other apart among fails))

-- ---- lists of what some elements give

-- none gives anything
pub none_given : {X Y : Type 0} (f : X → Option Y) (xs : List X) → ((x : X) → Contains xs x → f x ≡ None) → filter_map f xs ≡ []
none_given f [] none = refl
none_given f (x ∷ xs) none = ap (λ o. cons_option o (filter_map f xs)) (none x (Contains-here x xs)) ∙ none_given f xs (λ y there. none y (Contains-there x xs y there))

-- what holds of all that they give
given_all : {X Y : Type 0} (f : X → Option Y) (P : Y → Type 0) (xs : List X) → ((x : X) (y : Y) → Contains xs x → f x ≡ Some y → P y) → All P (filter_map f xs)
given_all f P [] each = All-nil P
given_all {X = X} {Y = Y} f P (x ∷ xs) each = by (f x) refl (given_all f P xs (λ z y among. each z y (Contains-there x xs z among)))
  where
    by : (o : Option Y) → f x ≡ o → All P (filter_map f xs) → All P (cons_option o (filter_map f xs))
    by None none rest = rest
    by (Some y) some rest = All-cons P y (filter_map f xs) (each x y (Contains-here x xs) some) rest

-- what any two of some have, any two have that they give
pub AllPairs-given : {X Y : Type 0} (R : X → X → Type 0) (S : Y → Y → Type 0) (f : X → Option Y) (xs : List X) → AllPairs R xs
    → ((a b : X) (c d : Y) → Contains xs a → Contains xs b → R a b → f a ≡ Some c → f b ≡ Some d → S c d) → AllPairs S (filter_map f xs)
AllPairs-given R S f [] apart each = λ i j d before within. absurd (omega (arith, within))
AllPairs-given {X = X} {Y = Y} R S f (x ∷ xs) apart each =
    by (f x) refl (AllPairs-given R S f xs (AllPairs-rest R x xs apart) (λ a b c d here there. each a b c d (Contains-there x xs a here) (Contains-there x xs b there)))
  where
    by : (o : Option Y) → f x ≡ o → AllPairs S (filter_map f xs) → AllPairs S (cons_option o (filter_map f xs))
    by None none rest = rest
    by (Some y) some rest =
        AllPairs-cons S y (filter_map f xs)
        (given_all f (S y) xs (λ z w among is. each x z y w (Contains-here x xs) (Contains-there x xs z among) (AllPairs-first R x xs z apart among) some is)) rest

-- what any two of some have, any two have that these are taken to
pub AllPairs-mapped : {X Y : Type 0} (R : Y → Y → Type 0) (f : X → Y) (xs : List X) → AllPairs (λ (a : X) (b : X). R (f a) (f b)) xs → AllPairs R (map f xs)
AllPairs-mapped R f [] apart = λ i j d before within. absurd (omega (arith, within))
AllPairs-mapped {X = X} R f (x ∷ xs) apart =
    AllPairs-cons R (f x) (map f xs)
    (
    All-map (R (f x)) f xs
    (
    All-along (Contains xs) (λ (y : X). R (f x) (f y)) xs (λ y among. AllPairs-first (λ (a : X) (b : X). R (f a) (f b)) x xs y apart among)
    (All-contains_itself xs)
    )
    )
    (AllPairs-mapped R f xs (AllPairs-rest (λ (a : X) (b : X). R (f a) (f b)) x xs apart))
