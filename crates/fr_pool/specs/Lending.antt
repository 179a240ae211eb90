-- What a pool is once the bytes of a cell that it lent are let go: that cell has what was written, and nothing else changes.
use Rattle.std.specs.Prelude.{ℕ, List}
use Rattle.std.specs.Borrow.{Lends, MutBor, Fml, Array, u8}
use Rattle.fr_pool.specs.Pool.{PoolView, written_in}
use Rattle.fr_pool.specs.contracts.pool.Pool.{the_row}

abbrev pub LendsCell : MutBor PoolView → ℕ → MutBor (List ℕ) → Fml
LendsCell pool cell bytes = Lends the_row (Array u8 0) pool bytes (λ written. written_in cell written pool.now)
