-- The numbers of cycles: 0, 1, 2 and so on.
use Rattle.std.specs.Prelude.{ℕ, ◌+◌, ◌*◌, ◌/◌, ◌%◌, Bool, ◌==◌}

-- the cycle count that a frame carries (section 4.2.9)
abbrev pub cycle_count : ℕ → ℕ
cycle_count cycle = cycle % 64

-- whether a cycle is odd
abbrev pub is_odd : ℕ → Bool
is_odd cycle = cycle % 2 == 1

-- the two cycles of a double cycle
abbrev pub even_cycle : ℕ → ℕ
even_cycle double = 2 * double

abbrev pub odd_cycle : ℕ → ℕ
odd_cycle double = 2 * double + 1

-- the double cycle of a cycle
abbrev pub double_cycle_of : ℕ → ℕ
double_cycle_of cycle = cycle / 2
