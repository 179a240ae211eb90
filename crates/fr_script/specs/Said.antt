-- The bytes of a frame that an arbitrary node says.
use Rattle.std.specs.Prelude.{ℕ, ◌<◌, ◌≤◌, List, length, All}

-- at most as many bytes as a frame has, each of them a byte
pub record AreSaidBytes (bytes : List ℕ) : Type 0 where
  pub few : length bytes ≤ 262
  pub small : All (λ b. b < 256) bytes
