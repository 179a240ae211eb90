-- What contracts see of a pool of cells.
use Rattle.std.specs.Prelude.{◌≡◌, ℕ, ◌≤◌, Bool, true, false, List, [], length, slice_get, slice_index_or, slice_set, take, replicate, All, Some}

-- A pool: for each of its cells whether it is out, and its bytes.
pub record PoolView : Type 0 where
  pub out : List Bool
  pub bytes : List (List ℕ)

-- a cell is out, or is not
abbrev pub IsOut : PoolView → ℕ → Type 0
IsOut pool cell = slice_get pool.out cell ≡ Some true

abbrev pub IsFree : PoolView → ℕ → Type 0
IsFree pool cell = slice_get pool.out cell ≡ Some false

-- some cell is not out
abbrev pub HasFree : PoolView → Type 0
HasFree pool = (cell : ℕ) × IsFree pool cell

-- all cells are out
abbrev pub AllOut : List Bool → Type 0
AllOut out = All (λ each. each ≡ true) out

-- a pool with a cell taken out, and with one given back: the bytes of all cells stay
abbrev pub taken_out : ℕ → PoolView → PoolView
taken_out cell pool = record pool { out = slice_set pool.out cell true }

abbrev pub given_back : ℕ → PoolView → PoolView
given_back cell pool = record pool { out = slice_set pool.out cell false }

-- with these bytes in a cell
abbrev pub written_in : ℕ → List ℕ → PoolView → PoolView
written_in cell bytes pool = record pool { bytes = slice_set pool.bytes cell bytes }

-- with the bytes of a cell in another
abbrev pub copied_in : ℕ → ℕ → PoolView → PoolView
copied_in from to pool = written_in to (slice_index_or pool.bytes from []) pool

-- a cell that was not out is taken out; it is the first that was not
pub record Takes (old : PoolView) (cell : ℕ) (new : PoolView) : Type 0 where
  pub free : IsFree old cell
  pub first : AllOut (take cell old.out)
  pub taken : new ≡ taken_out cell old

-- a pool of so many cells, none of which is out, and every byte is 0
abbrev pub fresh_pool : ℕ → PoolView
fresh_pool cells = record { out = replicate cells false; bytes = replicate cells (replicate 264 0) }

-- what holds of the parts of a pool: each cell has its bytes, and each cell below the lowest is out
pub record IsPool (out : List Bool) (bytes : List (List ℕ)) (lowest : ℕ) : Type 0 where
  pub sizes : length bytes ≡ length out
  pub within : lowest ≤ length out
  pub below : AllOut (take lowest out)
