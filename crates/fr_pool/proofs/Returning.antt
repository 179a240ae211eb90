-- A cell that is taken and given back leaves the same cells out.
use Rattle.std.proofs.Common.{◌≡◌, ℕ, Bool, true, false, List, set, Some, ap, sym, ◌∙◌}
use Rattle.std.specs.Prelude.{slice_get}
use Rattle.std.proofs.lemmas.List.{set-get_or, set-set}
use Rattle.std.proofs.lemmas.Option.{get_or_from_slice_get}

pub set-returned : (out : List Bool) (cell : ℕ) → slice_get out cell ≡ Some false → set (set out cell true) cell false ≡ out
set-returned out cell free =
    set-set out cell true false
    ∙ ap (set out cell) (sym (get_or_from_slice_get out cell false true free))
    ∙ set-get_or out cell true
