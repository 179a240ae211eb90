-- Who outweighs whom.
use Rattle.std.specs.Prelude.{ℕ, ◌==◌, ◌&&◌, ◌||◌, nat_le, Bool}

-- so many correct sync nodes outweigh so many arbitrary ones
abbrev pub outweighs : ℕ → ℕ → Bool
outweighs correct arbitrary =
    ((arbitrary == 0) && nat_le 1 correct) || ((arbitrary == 1) && nat_le 3 correct) || ((arbitrary == 2) && nat_le 6 correct)
