-- Lists of senders, and the lists of their positions.
use Rattle.std.proofs.Common.{◌≡◌, ◌≤◌, ℤ, List, [], ◌∷◌, ◌++◌, length, map, All, refl, suc, ap, arith}
use Rattle.std.specs.Prelude.{◌-ℤ◌, ◌≤ℤ◌}
use Rattle.std.specs.List.{AllZip}
use Rattle.std.proofs.lemmas.List.{length-append}
use Rattle.std.proofs.lemmas.List.Elements.{All-cons, All-head, All-nil, All-tail}
use Rattle.std.proofs.lemmas.List.Sorted.{length_permutation}
use Rattle.std.proofs.lemmas.Slice.Zip.{AllZip-long}
use Rattle.fr_base.specs.Within.{IsWithin}
use Rattle.fr_midpoint.specs.Receivers.{Hears}
use Rattle.fr_base.specs.Within.{LieWithin}

pub All-along : {X : Type 0} (P Q : X → Type 0) (xs : List X) → ((x : X) → P x → Q x) → All P xs → All Q xs
All-along P Q [] step all = All-nil Q
All-along P Q (x ∷ xs) step all = All-cons Q x xs (step x (All-head P x xs all)) (All-along P Q xs step (All-tail P x xs all))

pub All-both : {X : Type 0} (P Q R : X → Type 0) (xs : List X) → ((x : X) → P x → Q x → R x) → All P xs → All Q xs → All R xs
All-both P Q R [] step all also = All-nil R
All-both P Q R (x ∷ xs) step all also =
    All-cons R x xs (step x (All-head P x xs all) (All-head Q x xs also)) (All-both P Q R xs step (All-tail P x xs all) (All-tail Q x xs also))

pub All-mapped : {X : Type 0} (P : X → Type 0) (Q : ℤ → Type 0) (f : X → ℤ) (xs : List X) → ((x : X) → P x → Q (f x)) → All P xs → All Q (map f xs)
All-mapped P Q f [] step all = All-nil Q
All-mapped P Q f (x ∷ xs) step all =
    All-cons Q (f x) (map f xs) (step x (All-head P x xs all)) (All-mapped P Q f xs step (All-tail P x xs all))

zip_mapped :
    {X : Type 0} (P : X → Type 0) (R : X → ℤ → Type 0) (S : ℤ → ℤ → Type 0) (f : X → ℤ) (xs : List X) (said : List ℤ)
    → ((x : X) (v : ℤ) → P x → R x v → S (f x) v) → All P xs → AllZip R xs said → AllZip S (map f xs) said
zip_mapped P R S f [] [] step all each = tt
zip_mapped P R S f [] (v ∷ vs) step all each = absurd each
zip_mapped P R S f (x ∷ xs) [] step all each = absurd each
zip_mapped P R S f (x ∷ xs) (v ∷ vs) step all each =
    (step x v (All-head P x xs all) each.0, zip_mapped P R S f xs vs step (All-tail P x xs all) each.1)

-- what a list has of senders it has of their positions
pub hears_mapped :
    {X : Type 0} (P : X → Type 0) (R : X → ℤ → Type 0) (S : ℤ → ℤ → Type 0) (f : X → ℤ) (xs : List X) (values : List ℤ)
    → ((x : X) (v : ℤ) → P x → R x v → S (f x) v) → All P xs → Hears X R xs values → Hears ℤ S (map f xs) values
hears_mapped P R S f xs values step all hears = record {
  said = hears.said;
  further = hears.further;
  parts = hears.parts;
  few = hears.few;
  each = zip_mapped P R S f xs hears.said step all hears.each;
}

pub length_mapped : {X : Type 0} (f : X → ℤ) (xs : List X) → length (map f xs) ≡ length xs
length_mapped f [] = refl
length_mapped f (x ∷ xs) = ap suc (length_mapped f xs)

-- a list has no fewer values than senders
pub heard_all : {X : Type 0} (R : X → ℤ → Type 0) (xs : List X) (values : List ℤ) → Hears X R xs values → length xs ≤ length values
heard_all R xs values hears =
    omega (
      arith,
      length_permutation (hears.said ++ hears.further) values hears.parts,
      length-append hears.said hears.further,
      AllZip-long R xs hears.said hears.each,
    )

-- how far senders lie apart is how far their positions do
pub lie_within :
    {X : Type 0} (f : X → ℤ) (spread : ℤ) (xs : List X)
    → All (λ one. All (λ other. IsWithin spread (f one -ℤ f other)) xs) xs → LieWithin spread (map f xs)
lie_within f spread xs near =
    All-mapped
    (λ one. All (λ other. IsWithin spread (f one -ℤ f other)) xs)
    (λ x. All (λ y. (x -ℤ y) ≤ℤ spread) (map f xs))
    f
    xs
    (λ one all.
    All-mapped (λ other. IsWithin spread (f one -ℤ f other)) (λ y. (f one -ℤ y) ≤ℤ spread) f xs (λ other within. within.high) all)
    near
