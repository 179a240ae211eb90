-- A cell that is out stays so while another one is taken.
use Rattle.std.proofs.Common.{◌≡◌, ◌≢◌, ℕ, ◌<◌, Bool, true, false, List, length, set, Some, ap, sym, ◌∙◌, subst}
use Rattle.std.specs.Prelude.{slice_get}
use Rattle.std.proofs.lemmas.List.{get_or-set_other, length-set}
use Rattle.std.proofs.lemmas.Option.{get_or_from_slice_get, slice_get-get_or, slice_get_within}
use Rattle.fr_pool.specs.Pool.{PoolView, IsOut, Takes}

out-set : (out : List Bool) (k j : ℕ) → j ≢ k → slice_get out j ≡ Some true → slice_get (set out k true) j ≡ Some true
out-set out k j apart is =
    let lt : j < length out = slice_get_within out j true is in
    let long : j < length (set out k true) = rw length-set lt in
    slice_get-get_or (set out k true) j true long ∙ ap (λ (v : Bool). Some v) (get_or-set_other out k j true true apart ∙ get_or_from_slice_get out j true true is)

pub out-still : (old taken : PoolView) (cell other : ℕ) → Takes old cell taken → IsOut old other → IsOut taken other
out-still old taken cell other takes out =
    let P : PoolView → Type 0 = λ pool. IsOut pool other in
    let apart : other ≢ cell = λ equal. let both : Some true ≡ Some false = sym out ∙ ap (slice_get old.out) equal ∙ takes.free in cc in
    subst P (sym takes.taken) (out-set old.out cell other apart out)
