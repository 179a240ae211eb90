-- How many of some things there are, with one more.
use Rattle.std.proofs.Common.{◌≡◌, ◌∙◌, ℕ, ◌+◌, ◌<◌, Bool, cond, List, take, length, count_by, get_or, slice_get, Some, sym, ap}
use Rattle.std.specs.List.{filter}
use Rattle.std.proofs.lemmas.List.Filters.{length-filter_more}
use Rattle.std.proofs.lemmas.List.Sums.{length-filter}
use Rattle.std.proofs.lemmas.Option.{get_or_from_slice_get}

pub counted-more : {X : Type 0} (p : X → Bool) (xs : List X) (place : ℕ) (x : X) → place < length xs → slice_get xs place ≡ Some x
    → count_by p (take (place + 1) xs) ≡ count_by p (take place xs) + cond (p x) 1 0
counted-more {X} p xs place x lt is =
    let at : get_or xs place x ≡ x = get_or_from_slice_get xs place x x is in
    sym (length-filter p (take (place + 1) xs))
    ∙ length-filter_more p xs place x lt
    ∙ ap (λ (n : ℕ). n + cond (p (get_or xs place x)) 1 0) (length-filter p (take place xs))
    ∙ ap (λ (y : X). count_by p (take place xs) + cond (p y) 1 0) at
