-- What is told of some cycles is as long as they are.
use Rattle.std.proofs.Common.{◌≡◌, suc, [], ◌∷◌, length, refl, ap}
use Rattle.fr_history.specs.Cycles.{Cycles, told_of}

pub told_length : (h : Cycles) → length (told_of h) ≡ length h
told_length [] = refl
told_length (c ∷ h) = ap suc (told_length h)
