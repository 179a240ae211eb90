-- Of rows that stand at cycles, the one that holds in a cycle.
use Rattle.std.specs.Prelude.{ℕ, zero, suc, ℤ, ◌≡◌, ◌<◌, ◌≤◌, Option, None, IsSome}
use Rattle.fr_text.specs.Fields.{or_else}

-- the last row that stands at the cycle or before it
unfoldable pub held : (ℕ → Option ℤ) → ℕ → Option ℤ
held rows zero = rows zero
held rows (suc cycle) = or_else (rows (suc cycle)) (held rows cycle)

-- the first cycle after a cycle and before an end at which a row stands, else the end
pub record IsNextRow (rows : ℕ → Option ℤ) (cycle end found : ℕ) : Type 0 where
  pub after : cycle < found
  pub within : found ≤ end
  pub quiet : (c : ℕ) → cycle < c → c < found → rows c ≡ None
  pub stands : found < end → IsSome (rows found)

-- up to it the value of each cycle is that of this one
pub record IsNextChange (rows : ℕ → Option ℤ) (value : ℕ → ℤ) (cycle end found : ℕ) : Type 0 where
  pub next : IsNextRow rows cycle end found
  pub stays : (c : ℕ) → cycle ≤ c → c < found → value c ≡ value cycle
