-- Whether a register sees each list of a few ones, as a function.
use Rattle.std.proofs.Common.{ℕ, zero, suc, Bool, true, false, not, ◌&&◌, List, [], ◌∷◌}
use Rattle.fr_crc.specs.Register.{register_stepped}

-- whether no bit is 1
abbrev pub is_none : List Bool → Bool
is_none [] = true
is_none (true ∷ bits) = false
is_none (false ∷ bits) = is_none bits

-- whether the register is not nothing after each list of so many bits, of which at most so many are 1
abbrev pub sees : ℕ → ℕ → List Bool → List Bool → Bool
sees zero w g r = not (is_none r)
sees (suc n) zero g r = not (is_none r)
sees (suc n) (suc w) g r = sees n (suc w) g (register_stepped g r false) && sees n w g (register_stepped g r true)
