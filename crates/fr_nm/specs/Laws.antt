-- What the laws of vectors speak of.
use Rattle.std.specs.Prelude.{◌≡◌, ℕ, ◌+◌, List, [], ◌∷◌, ◌++◌, Option, Some, None, is_some, if◌then◌else◌}
use Rattle.fr_nm.specs.Vectors.{Recorded, folded, given_to, how_many_count, merged, vector_in}
use Rattle.fr_nm.specs.declared.vector.Folded.{Folded}

-- the vector of a row
abbrev pub vector_at : Option Folded → Option (List ℕ)
vector_at None = None
vector_at (Some row) = Some row.vector

-- a record that is there already, once more at the end: no vector changes, its cycle has one frame more, and so have all, where it counts
pub record IsAgain (width : ℕ) (before : List Recorded) (r : Recorded) (after : List Recorded) : Type 0 where
  pub vectors : (cycle : ℕ) → vector_at (folded width cycle ((before ++ r ∷ after) ++ r ∷ [])) ≡ vector_at (folded width cycle (before ++ r ∷ after))
  pub rows : (cycle : ℕ) → folded width cycle ((before ++ r ∷ after) ++ r ∷ []) ≡ merged (folded width cycle (before ++ r ∷ after)) (given_to width cycle r)
  pub frames : how_many_count width ((before ++ r ∷ after) ++ r ∷ []) ≡ how_many_count width (before ++ r ∷ after) + (if is_some (vector_in width r) then 1 else 0)
