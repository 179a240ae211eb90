-- Tables of what a search finds, and what holds of what it finds.
use Rattle.std.proofs.Common.{◌≡◌, ◌<◌, ◌+◌, ℕ, List, [], ◌∷◌, Bool, Option, Some, None, inl, inr, refl, ap, sym, subst, ◌∙◌, get_or, arith, Bor}
use Rattle.std.specs.Prelude.{All, IfSome, find, map}
use Rattle.std.specs.Option.{option_copied}
use Rattle.std.specs.List.{range_with_len}
use Rattle.std.proofs.lemmas.Bool.{cases_Bool}
use Rattle.std.proofs.lemmas.List.Elements.{All-head, All-tail}
use Rattle.std.proofs.lemmas.List.FromFn.{get_or-map-range_with_len}

-- a table of what a search of a list finds at each number has it at this number
pub at_number : {A X : Type 0} (search_of : List A → ℕ → X) (items seen : List A) (table : List X) (size place number : ℕ) (entry : X) → items ≡ seen
    → table ≡ map (search_of items) (range_with_len 0 size) → entry ≡ get_or table place entry → place ≡ number → number < size → entry ≡ search_of seen number
at_number search_of items seen table size place number entry view is at same below =
    let within : place < size = omega (arith, same, below) in
    let from_none : 0 + place ≡ number = omega (arith, same) in
    at
    ∙ ap (λ t. get_or t place entry) is
    ∙ get_or-map-range_with_len (search_of items) 0 size place number entry within from_none
    ∙ ap (λ xs. search_of xs number) view

-- what holds of each element holds of the one that is found
pub find_keeps : {X : Type 0} (P : X → Type 0) (test : X → Bool) (xs : List X) → All P xs → IfSome (find test xs) P
find_keeps P test [] all = tt
find_keeps {X} P test (x ∷ xs) all =
    let Keeps : Option X → Type 0 = λ found. IfSome found P in
    elim (cases_Bool (test x)) [
      | inl passes ↦ let here : find test (x ∷ xs) ≡ Some x = rw passes refl in subst Keeps (sym here) (All-head P x xs all)
      | inr not ↦ let rest : find test (x ∷ xs) ≡ find test xs = rw not refl in subst Keeps (sym rest) (find_keeps P test xs (All-tail P x xs all))
    ]

-- what holds of a value holds of it where it is lent
pub lent_keeps : {X : Type 0} (P : X → Type 0) (lent : Option (Bor X)) (found : Option X) → option_copied lent ≡ found → IfSome found P → IfSome lent (λ x. P x.now)
lent_keeps P None found same holds = tt
lent_keeps {X} P (Some x) found same holds = let Keeps : Option X → Type 0 = λ r. IfSome r P in subst Keeps (sym same) holds
