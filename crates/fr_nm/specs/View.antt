-- What contracts see of the vectors of a recording.
use Rattle.std.specs.Prelude.{◌≡◌, ℕ, ◌+◌, ◌^◌, ◌<◌, ◌≤◌, true, List, length, Option, Some, IfSome, if◌then◌else◌}
use Rattle.std.specs.Ordering.{nat_cmp}
use Rattle.std.specs.BTreeMap.{BTreeMap, IsOrdered, get, is_at}
use Rattle.std.specs.FinMap.{is_sorted}
use Rattle.std.specs.Map.{lookup}
use Rattle.fr_nm.specs.Vectors.{Recorded, folded, how_many_count}
use Rattle.fr_nm.specs.declared.vector.Folded.{Folded}

-- the bytes of a vector, the rows of the cycles, and how many records count and how many do not
pub record VectorsView : Type 0 where
  pub width : ℕ
  pub rows : List (ℕ × Folded)
  pub frames : ℕ
  pub ignored : ℕ

-- the row of a cycle
abbrev pub vector_row_in : List (ℕ × Folded) → ℕ → Option Folded
vector_row_in rows cycle = lookup (is_at (nat_cmp cycle)) rows

-- the vectors are those of the records: a row for each cycle with a record that counts, in ascending order
pub record VectorsStandFor (v : VectorsView) (records : List Recorded) : Type 0 where
  pub rows : (cycle : ℕ) → vector_row_in v.rows cycle ≡ folded v.width cycle records
  pub order : is_sorted nat_cmp v.rows ≡ true
  pub frames : v.frames ≡ how_many_count v.width records
  pub ignored : v.frames + v.ignored ≡ length records

-- what holds of all vectors
pub record IsFolding (v : VectorsView) : Type 0 where
  pub from : 1 ≤ v.width
  pub to : v.width ≤ 12
  pub few : v.frames + v.ignored < 2 ^ 63
  pub most : (cycle : ℕ) → IfSome (vector_row_in v.rows cycle) (λ row. row.frames ≤ v.frames)

-- a row is put at a cycle, and all else stays
pub record IsRowPut (old new : BTreeMap ℕ Folded) (cycle : ℕ) (row : Folded) : Type 0 where
  pub ordered : IsOrdered nat_cmp new
  pub filled : (q : ℕ) → get nat_cmp new q ≡ (if is_at (nat_cmp cycle) q then Some row else get nat_cmp old q)
