-- What lists that were said by the same senders have in common.
use Rattle.std.proofs.Common.{ℤ, List, [], ◌∷◌, All}
use Rattle.std.specs.List.{AllZip}
use Rattle.std.proofs.lemmas.List.Elements.{All-cons, All-head, All-nil, All-tail}

-- what holds of each sender and its value
pub zip_said :
    {X : Type 0} (P : X → Type 0) (R : X → ℤ → Type 0) (Q : ℤ → Type 0) (xs : List X) (said : List ℤ)
    → ((x : X) (v : ℤ) → P x → R x v → Q v) → All P xs → AllZip R xs said → All Q said
zip_said P R Q [] [] step all each = All-nil Q
zip_said P R Q [] (v ∷ vs) step all each = absurd each
zip_said P R Q (x ∷ xs) [] step all each = absurd each
zip_said P R Q (x ∷ xs) (v ∷ vs) step all each =
    All-cons Q v vs (step x v (All-head P x xs all) each.0) (zip_said P R Q xs vs step (All-tail P x xs all) each.1)

-- and its two values
pub zip_both :
    {X : Type 0} (P : X → Type 0) (R S : X → ℤ → Type 0) (T : ℤ → ℤ → Type 0) (xs : List X) (said other : List ℤ)
    → ((x : X) (v u : ℤ) → P x → R x v → S x u → T v u) → All P xs → AllZip R xs said → AllZip S xs other → AllZip T said other
zip_both P R S T [] [] [] step all each also = tt
zip_both P R S T [] [] (u ∷ us) step all each also = absurd also
zip_both P R S T [] (v ∷ vs) other step all each also = absurd each
zip_both P R S T (x ∷ xs) [] other step all each also = absurd each
zip_both P R S T (x ∷ xs) (v ∷ vs) [] step all each also = absurd also
zip_both P R S T (x ∷ xs) (v ∷ vs) (u ∷ us) step all each also =
    (step x v u (All-head P x xs all) each.0 also.0, zip_both P R S T xs vs us step (All-tail P x xs all) each.1 also.1)

-- and the values of any two senders
pub zip_all :
    {X : Type 0} (N : X → X → Type 0) (R S : X → ℤ → Type 0) (T : ℤ → ℤ → Type 0) (xs : List X) (said other : List ℤ)
    → ((x y : X) (v u : ℤ) → N x y → R x v → S y u → T v u) → All (λ x. All (N x) xs) xs → AllZip R xs said → AllZip S xs other
    → All (λ v. All (T v) other) said
zip_all N R S T xs said other step all each also =
    zip_said (λ x. All (N x) xs) R (λ v. All (T v) other) xs said
    (λ x v row says. zip_said (N x) S (T v) xs other (λ y u near also_says. step x y v u near says also_says) row also) all each
