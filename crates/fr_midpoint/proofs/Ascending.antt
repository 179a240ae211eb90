-- The order in an ascending list of signed numbers.
use Rattle.std.proofs.Common.{◌≡◌, ℕ, ◌≤◌, ◌<◌, Bool, true, false, cond, ℤ, List, length, get_or, refl, sym, ◌∙◌}
use Rattle.std.specs.Prelude.{int_lt, IsSorted}
use Rattle.std.specs.Ordering.{is_lt, int_cmp}
use Rattle.std.specs.Cmp.{int_cmp_total}
use Rattle.std.specs.declared.cmp.Ordering.TheVariants.{Less, Equal, Greater}
use Rattle.std.proofs.lemmas.List.Sorted.{sorted_far, ranks_by}

is_lt-cond : (a b : Bool) → is_lt (cond a Less (cond b Greater Equal)) ≡ a
is_lt-cond true b = refl
is_lt-cond false true = refl
is_lt-cond false false = refl

-- what stands later is not less
pub ascending :
    (xs : List ℤ) → IsSorted int_cmp xs → (i j : ℕ) (d : ℤ) → i ≤ j → j < length xs
    → int_lt (get_or xs j d) (get_or xs i d) ≡ false
ascending xs up i j d before short =
    sym (is_lt-cond (int_lt (get_or xs j d) (get_or xs i d)) (int_lt (get_or xs i d) (get_or xs j d)))
    ∙ sorted_far (λ x y. is_lt (int_cmp x y)) (ranks_by int_cmp_total (λ x. x)) xs up i j d before short
