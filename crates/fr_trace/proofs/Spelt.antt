-- The line of a deviation, spelt from its end on.
use Rattle.std.proofs.Common.{◌≡◌, ℕ, List, [], ◌∷◌, ◌++◌, codes, sym, subst, append_assoc}
use Rattle.fr_text.specs.Pieces.{line}

pub dev_spelt : (front slot letter value : List ℕ) (byte : ℕ) → letter ≡ byte ∷ []
    → front ++ 44 ∷ (slot ++ 44 ∷ byte ∷ 44 ∷ (value ++ codes ",,\n")) ≡ line (front ++ codes "," ++ slot ++ codes "," ++ letter ++ codes "," ++ value ++ codes "," ++ codes ",")
dev_spelt front slot letter value byte is =
    let P : List ℕ → Type 0 = λ l. front ++ 44 ∷ (slot ++ 44 ∷ byte ∷ 44 ∷ (value ++ codes ",,\n")) ≡ line (front ++ codes "," ++ slot ++ codes "," ++ l ++ codes "," ++ value ++ codes "," ++ codes ",") in
    subst P (sym is) (simp append_assoc)
