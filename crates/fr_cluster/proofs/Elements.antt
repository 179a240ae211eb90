-- Elements of lists, and searches among them.
use Rattle.std.proofs.Common.{◌≡◌, ◌⊎◌, suc, Bool, true, false, Option, Some, None, List, [], ◌∷◌, refl, ap, sym, ◌∙◌, subst, inl, inr, arith}
use Rattle.std.specs.Prelude.{AllPairs, Contains, filter, find}
use Rattle.fr_cluster.proofs.KeyNodes.{Contains-cons_cases}
use Rattle.std.proofs.lemmas.List.Elements.{Contains-append_cases, Contains-append_left, Contains-append_right, Contains-push, Contains-push_cases}

-- ---- elements

pub Contains-none : {X : Type 0} (y : X) → Contains [] y → ⊥
Contains-none y among = omega (arith, among.1)

pub Contains-here : {X : Type 0} (x : X) (xs : List X) → Contains (x ∷ xs) x
Contains-here x xs = Contains-append_left (x ∷ []) xs x (Contains-push [] x)

pub Contains-there : {X : Type 0} (x : X) (xs : List X) (y : X) → Contains xs y → Contains (x ∷ xs) y
Contains-there x xs y among = Contains-append_right (x ∷ []) xs y among

-- ---- what is found, and what is kept

found_by : {X : Type 0} (p : X → Bool) (y : X) (xs : List X) (x : X) (b : Bool) → p y ≡ b → (find p xs ≡ Some x → (p x ≡ true) × Contains xs x)
    → find p (y ∷ xs) ≡ Some x → (p x ≡ true) × Contains (y ∷ xs) x
found_by p y xs x true passes rest is =
    let here : find p (y ∷ xs) ≡ Some y = rw passes refl in
    let found : Some y ≡ Some x = sym here ∙ is in
    let same : y ≡ x = cc in
    (ap p (sym same) ∙ passes, subst (Contains (y ∷ xs)) same (Contains-here y xs))
found_by p y xs x false fails rest is =
    let there : find p (y ∷ xs) ≡ find p xs = rw fails refl in
    let more : (p x ≡ true) × Contains xs x = rest (sym there ∙ is) in
    (more.0, Contains-there y xs x more.1)

pub found : {X : Type 0} (p : X → Bool) (xs : List X) (x : X) → find p xs ≡ Some x → (p x ≡ true) × Contains xs x
found p [] x is = absurd (cc)
found p (y ∷ xs) x is = found_by p y xs x (p y) refl (found p xs x) is

not_found_by : {X : Type 0} (p : X → Bool) (y : X) (xs : List X) (x : X) (b : Bool) → p y ≡ b → (find p xs ≡ None → Contains xs x → p x ≡ false)
    → find p (y ∷ xs) ≡ None → Contains (y ∷ xs) x → p x ≡ false
not_found_by p y xs x true passes rest none among =
    let here : find p (y ∷ xs) ≡ Some y = rw passes refl in
    let found : Some y ≡ None = sym here ∙ none in
    absurd (cc)
not_found_by p y xs x false fails rest none among =
    let there : find p (y ∷ xs) ≡ find p xs = rw fails refl in
    elim (Contains-cons_cases y xs x among) [
      | inl same ↦ ap p (sym same) ∙ fails
      | inr more ↦ rest (sym there ∙ none) more
    ]

pub not_found : {X : Type 0} (p : X → Bool) (xs : List X) (x : X) → find p xs ≡ None → Contains xs x → p x ≡ false
not_found p [] x none among = absurd (Contains-none x among)
not_found p (y ∷ xs) x none among = not_found_by p y xs x (p y) refl (not_found p xs x) none among

-- the one element that passes a test is found
by_option : {X : Type 0} (p : X → Bool) (xs : List X) (x : X) (o : Option X) → find p xs ≡ o → Contains xs x → p x ≡ true
    → ((y : X) → Contains xs y → p y ≡ true → y ≡ x) → o ≡ Some x
by_option p xs x None is among passes sole =
    let fails : p x ≡ false = not_found p xs x is among in
    let e : true ≡ false = sym passes ∙ fails in
    absurd (cc)
by_option {X = X} p xs x (Some y) is among passes sole =
    let there = found p xs y is in
    ap (λ (z : X). Some z) (sole y there.1 there.0)

pub sole_found : {X : Type 0} (p : X → Bool) (xs : List X) (x : X) → Contains xs x → p x ≡ true
    → ((y : X) → Contains xs y → p y ≡ true → y ≡ x) → find p xs ≡ Some x
sole_found p xs x among passes sole = by_option p xs x (find p xs) refl among passes sole

filtered_by : {X : Type 0} (p : X → Bool) (y : X) (xs : List X) (x : X) (b : Bool) → p y ≡ b → (Contains (filter p xs) x → Contains xs x × (p x ≡ true))
    → Contains (filter p (y ∷ xs)) x → Contains (y ∷ xs) x × (p x ≡ true)
filtered_by {X = X} p y xs x true passes rest among =
    let kept : filter p (y ∷ xs) ≡ y ∷ filter p xs = rw passes refl in
    let Has : List X → Type 0 = λ ys. Contains ys x in
    elim (Contains-cons_cases y (filter p xs) x (subst Has kept among)) [
      | inl same ↦ (subst (Contains (y ∷ xs)) same (Contains-here y xs), ap p (sym same) ∙ passes)
      | inr more ↦ (Contains-there y xs x (rest more).0, (rest more).1)
    ]
filtered_by {X = X} p y xs x false fails rest among =
    let left : filter p (y ∷ xs) ≡ filter p xs = rw fails refl in
    let Has : List X → Type 0 = λ ys. Contains ys x in
    let more = rest (subst Has left among) in
    (Contains-there y xs x more.0, more.1)

pub filtered : {X : Type 0} (p : X → Bool) (xs : List X) (x : X) → Contains (filter p xs) x → Contains xs x × (p x ≡ true)
filtered p [] x among = absurd (Contains-none x among)
filtered p (y ∷ xs) x among = filtered_by p y xs x (p y) refl (filtered p xs x) among

kept_by : {X : Type 0} (p : X → Bool) (y : X) (xs : List X) (x : X) (b : Bool) → p y ≡ b → (Contains xs x → Contains (filter p xs) x)
    → Contains (y ∷ xs) x → p x ≡ true → Contains (filter p (y ∷ xs)) x
kept_by {X = X} p y xs x true passes rest among is =
    let kept : filter p (y ∷ xs) ≡ y ∷ filter p xs = rw passes refl in
    let Has : List X → Type 0 = λ ys. Contains ys x in
    subst Has (sym kept)
    (
    elim (Contains-cons_cases y xs x among) [
      | inl same ↦ subst (Contains (y ∷ filter p xs)) same (Contains-here y (filter p xs))
      | inr more ↦ Contains-there y (filter p xs) x (rest more)
    ]
    )
kept_by {X = X} p y xs x false fails rest among is =
    let left : filter p (y ∷ xs) ≡ filter p xs = rw fails refl in
    let Has : List X → Type 0 = λ ys. Contains ys x in
    subst Has (sym left)
    (
    elim (Contains-cons_cases y xs x among) [
      | inl same ↦ let e : true ≡ false = sym is ∙ ap p (sym same) ∙ fails in absurd (cc)
      | inr more ↦ rest more
    ]
    )

pub kept_filtered : {X : Type 0} (p : X → Bool) (xs : List X) (x : X) → Contains xs x → p x ≡ true → Contains (filter p xs) x
kept_filtered p [] x among is = absurd (Contains-none x among)
kept_filtered p (y ∷ xs) x among is = kept_by p y xs x (p y) refl (λ more. kept_filtered p xs x more is) among is
