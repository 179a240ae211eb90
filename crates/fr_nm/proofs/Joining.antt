-- What a cycle has of records: parts are joined in any order.
use Rattle.std.proofs.Common.{◌≡◌, ℕ, ◌+◌, List, [], ◌∷◌, ◌++◌, Option, Some, None, refl, ap, sym, ◌∙◌, arith}
use Rattle.std.specs.Prelude.{bit_or, is_some, max, if◌then◌else◌}
use Rattle.std.specs.Int.{bit_at}
use Rattle.std.proofs.lemmas.Nat.{or_comm}
use Rattle.std.proofs.lemmas.Nat.Bits.{bit_at_or, same_from_bits}
use Rattle.fr_nm.specs.Vectors.{Recorded, folded, given_to, how_many_count, merged, or_bytes, vector_in}
use Rattle.fr_nm.specs.declared.vector.Folded.{Folded}

max_assoc : (a b c : ℕ) → max (max a b) c ≡ max a (max b c)
max_assoc a b c = grind arith

pub or_assoc : (a b c : ℕ) → bit_or (bit_or a b) c ≡ bit_or a (bit_or b c)
or_assoc a b c =
    same_from_bits (bit_or (bit_or a b) c) (bit_or a (bit_or b c))
    (λ i.
    bit_at_or (bit_or a b) c i
    ∙ ap (λ (x : ℕ). max x (bit_at c i)) (bit_at_or a b i)
    ∙ max_assoc (bit_at a i) (bit_at b i) (bit_at c i)
    ∙ ap (λ (x : ℕ). max (bit_at a i) x) (sym (bit_at_or b c i))
    ∙ sym (bit_at_or a (bit_or b c) i))

pub or_bytes-assoc : (a b c : List ℕ) → or_bytes (or_bytes a b) c ≡ or_bytes a (or_bytes b c)
unfolding or_bytes
or_bytes-assoc [] b c = refl
or_bytes-assoc (x ∷ xs) [] c = refl
or_bytes-assoc (x ∷ xs) (y ∷ ys) [] = refl
or_bytes-assoc (x ∷ xs) (y ∷ ys) (z ∷ zs) = λ i. or_assoc x y z i ∷ or_bytes-assoc xs ys zs i

pub or_bytes-comm : (a b : List ℕ) → or_bytes a b ≡ or_bytes b a
unfolding or_bytes
or_bytes-comm [] [] = refl
or_bytes-comm [] (y ∷ ys) = refl
or_bytes-comm (x ∷ xs) [] = refl
or_bytes-comm (x ∷ xs) (y ∷ ys) = λ i. or_comm x y i ∷ or_bytes-comm xs ys i

pub joined-none : (o : Option Folded) → merged o None ≡ o
joined-none None = refl
joined-none (Some a) = refl

sum_assoc : (a b c : ℕ) → a + b + c ≡ a + (b + c)
sum_assoc a b c = omega arith

sum_comm : (a b : ℕ) → a + b ≡ b + a
sum_comm a b = omega arith

pub joined-assoc : (a b c : Option Folded) → merged (merged a b) c ≡ merged a (merged b c)
joined-assoc None b c = refl
joined-assoc (Some a) None c = refl
joined-assoc (Some a) (Some b) None = refl
joined-assoc (Some a) (Some b) (Some c) = λ i. Some (record { vector = or_bytes-assoc a.vector b.vector c.vector i; frames = sum_assoc a.frames b.frames c.frames i })

pub joined-comm : (a b : Option Folded) → merged a b ≡ merged b a
joined-comm None None = refl
joined-comm None (Some b) = refl
joined-comm (Some a) None = refl
joined-comm (Some a) (Some b) = λ i. Some (record { vector = or_bytes-comm a.vector b.vector i; frames = sum_comm a.frames b.frames i })

pub folded-nil : (width cycle : ℕ) → folded width cycle [] ≡ None
unfolding folded
folded-nil width cycle = refl

-- one record more
pub folded-more : (width cycle : ℕ) (done : List Recorded) (r : Recorded) → folded width cycle (done ++ r ∷ []) ≡ merged (folded width cycle done) (given_to width cycle r)
unfolding folded
folded-more width cycle [] r = joined-none (given_to width cycle r)
folded-more width cycle (x ∷ xs) r =
    ap (λ (o : Option Folded). merged (given_to width cycle x) o) (folded-more width cycle xs r)
    ∙ sym (joined-assoc (given_to width cycle x) (folded width cycle xs) (given_to width cycle r))

pub counted-nil : (width : ℕ) → how_many_count width [] ≡ 0
unfolding how_many_count
counted-nil width = refl

one_of : ℕ → Recorded → ℕ
one_of width r = if is_some (vector_in width r) then 1 else 0

pub counted-more : (width : ℕ) (done : List Recorded) (r : Recorded) → how_many_count width (done ++ r ∷ []) ≡ how_many_count width done + (if is_some (vector_in width r) then 1 else 0)
unfolding how_many_count one_of
counted-more width [] r = let one = one_of width r in omega arith
counted-more width (x ∷ xs) r =
    ap (λ (n : ℕ). one_of width x + n) (counted-more width xs r) ∙ sym (sum_assoc (one_of width x) (how_many_count width xs) (one_of width r))
