-- The list of a map's values, one key index further.
use Rattle.std.proofs.Common.{◌≡◌, ℕ, ◌+◌, ◌≤◌, ℤ, Option, Some, None, List, [], ◌∷◌, ◌++◌, length, refl, ap, sym, ◌∙◌, arith, zero-add, length-append}
use Rattle.std.specs.List.{filter_map, range_with_len}
use Rattle.std.specs.Option.{option_to_list}
use Rattle.std.proofs.lemmas.List.Elements.{filter_map-append}
use Rattle.std.proofs.lemmas.List.FromFn.{map-range_with_len_more}
use Rattle.std.proofs.lemmas.List.{map-id}

filter_map-one : (at : ℕ → Option ℤ) (i : ℕ) → filter_map at (i ∷ []) ≡ option_to_list (at i)
filter_map-one at i = elim (at i) as (λ v. filter_map (λ _. v) (i ∷ []) ≡ option_to_list v) [ None ↦ refl | Some x ↦ refl ]

range_with_len_more : (n : ℕ) → range_with_len 0 (n + 1) ≡ range_with_len 0 n ++ n ∷ []
range_with_len_more n =
    sym (map-id (range_with_len 0 (n + 1)))
    ∙ map-range_with_len_more (λ i. i) 0 n n (zero-add n)
    ∙ ap (λ xs. xs ++ n ∷ []) (map-id (range_with_len 0 n))

values_more :
    (at : ℕ → Option ℤ) (i : ℕ)
    → filter_map at (range_with_len 0 (i + 1)) ≡ filter_map at (range_with_len 0 i) ++ option_to_list (at i)
values_more at i =
    ap (filter_map at) (range_with_len_more i)
    ∙ filter_map-append at (range_with_len 0 i) (i ∷ [])
    ∙ ap (λ xs. filter_map at (range_with_len 0 i) ++ xs) (filter_map-one at i)

length-option_to_list : (value : Option ℤ) → length (option_to_list value) ≤ 1
length-option_to_list None = omega arith
length-option_to_list (Some x) = omega arith

-- the value at one more key index is appended where there is one
pub values_step :
    (at : ℕ → Option ℤ) (i : ℕ) (value : Option ℤ) (xs ys : List ℤ)
    → xs ≡ filter_map at (range_with_len 0 i) → length xs ≤ i → value ≡ at i → ys ≡ xs ++ option_to_list value
    → (ys ≡ filter_map at (range_with_len 0 (i + 1))) × (length ys ≤ i + 1)
values_step at i value xs ys before few is appended = (
  cc (values_more at i),
  omega (arith, ap length appended, length-append xs (option_to_list value), length-option_to_list value),
)
