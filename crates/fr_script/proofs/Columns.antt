-- A record of seven fields is the list of them.
use Rattle.std.proofs.Common.{◌≡◌, [], ◌∷◌, length, refl, arith}
use Rattle.fr_text.specs.Records.{FileRecord}
use Rattle.fr_text.specs.Fields.{field_of}

pub seven-listed : (r : FileRecord) → length r ≡ 7 → r ≡ field_of r 0 ∷ field_of r 1 ∷ field_of r 2 ∷ field_of r 3 ∷ field_of r 4 ∷ field_of r 5 ∷ field_of r 6 ∷ []
seven-listed [] h = absurd (omega (arith, h))
seven-listed (a ∷ []) h = absurd (omega (arith, h))
seven-listed (a ∷ b ∷ []) h = absurd (omega (arith, h))
seven-listed (a ∷ b ∷ c ∷ []) h = absurd (omega (arith, h))
seven-listed (a ∷ b ∷ c ∷ d ∷ []) h = absurd (omega (arith, h))
seven-listed (a ∷ b ∷ c ∷ d ∷ e ∷ []) h = absurd (omega (arith, h))
seven-listed (a ∷ b ∷ c ∷ d ∷ e ∷ f ∷ []) h = absurd (omega (arith, h))
seven-listed (a ∷ b ∷ c ∷ d ∷ e ∷ f ∷ g ∷ []) h = refl
seven-listed (a ∷ b ∷ c ∷ d ∷ e ∷ f ∷ g ∷ x ∷ rest) h = absurd (omega (arith, h))
