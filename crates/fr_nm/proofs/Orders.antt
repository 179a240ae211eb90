-- The order of records changes nothing, and a record that is there again changes no vector.
use Rattle.std.proofs.Common.{◌≡◌, ℕ, zero, suc, ◌+◌, ◌<◌, List, [], ◌∷◌, ◌++◌, length, get_or, Option, Some, None, refl, ap, sym, ◌∙◌, arith}
use Rattle.std.specs.Prelude.{IsPermutation, slice_set, is_some, if◌then◌else◌}
use Rattle.std.specs.List.{swap}
use Rattle.std.specs.Int.Bits.{or_self}
use Rattle.std.proofs.lemmas.List.Sorted.{IsPermutation-keeps, length_permutation}
use Rattle.fr_nm.specs.Laws.{vector_at}
use Rattle.fr_nm.specs.Vectors.{Recorded, folded, given_to, how_many_count, merged, or_bytes, vector_in}
use Rattle.fr_nm.specs.View.{VectorsStandFor, VectorsView}
use Rattle.fr_nm.specs.declared.vector.Folded.{Folded}
use Rattle.fr_nm.specs.Text.{nm_text}
use Rattle.fr_nm.proofs.Outcomes.{stands-same}
use Rattle.fr_nm.proofs.Joining.{folded-more, joined-assoc, joined-comm, or_bytes-assoc, or_bytes-comm}

-- two parts before the others, in either order
exchanged : (a b c : Option Folded) → merged a (merged b c) ≡ merged b (merged a c)
exchanged a b c = sym (joined-assoc a b c) ∙ ap (λ (o : Option Folded). merged o c) (joined-comm a b) ∙ joined-assoc b a c

-- a record put in the place of another, and that one before them all
replaced : (width cycle : ℕ) (xs : List Recorded) (j : ℕ) (x d : Recorded) → j < length xs
    → merged (given_to width cycle (get_or xs j d)) (folded width cycle (slice_set xs j x)) ≡ merged (given_to width cycle x) (folded width cycle xs)
unfolding folded
replaced width cycle [] j x d within = absurd (omega arith)
replaced width cycle (z ∷ zs) zero x d within = exchanged (given_to width cycle z) (given_to width cycle x) (folded width cycle zs)
replaced width cycle (z ∷ zs) (suc j) x d within =
    exchanged (given_to width cycle (get_or zs j d)) (given_to width cycle z) (folded width cycle (slice_set zs j x))
    ∙ ap (λ (o : Option Folded). merged (given_to width cycle z) o) (replaced width cycle zs j x d (omega arith))
    ∙ exchanged (given_to width cycle z) (given_to width cycle x) (folded width cycle zs)

-- two records in each other's place
folded-exchanged : (width cycle : ℕ) (d : Recorded) (xs : List Recorded) (i j : ℕ) → i < length xs → j < length xs
    → folded width cycle (slice_set (slice_set xs i (get_or xs j d)) j (get_or xs i d)) ≡ folded width cycle xs
unfolding folded
folded-exchanged width cycle d [] i j a b = absurd (omega arith)
folded-exchanged width cycle d (x ∷ xs) zero zero a b = refl
folded-exchanged width cycle d (x ∷ xs) zero (suc j) a b = replaced width cycle xs j x d (omega arith)
folded-exchanged width cycle d (x ∷ xs) (suc i) zero a b = replaced width cycle xs i x d (omega arith)
folded-exchanged width cycle d (x ∷ xs) (suc i) (suc j) a b =
    ap (λ (o : Option Folded). merged (given_to width cycle x) o) (folded-exchanged width cycle d xs i j (omega arith) (omega arith))

folded-swapped : (width cycle : ℕ) (xs : List Recorded) (i j : ℕ) → i < length xs → j < length xs → folded width cycle (swap xs i j) ≡ folded width cycle xs
folded-swapped width cycle [] i j a b = absurd (omega arith)
folded-swapped width cycle (x ∷ xs) i j a b = folded-exchanged width cycle x (x ∷ xs) i j a b

pub folded-order : (width cycle : ℕ) (xs ys : List Recorded) → IsPermutation xs ys → folded width cycle ys ≡ folded width cycle xs
folded-order width cycle xs ys = IsPermutation-keeps xs (λ zs. folded width cycle zs ≡ folded width cycle xs) refl (λ l i j a b h. folded-swapped width cycle l i j a b ∙ h) ys

one_of : ℕ → Recorded → ℕ
one_of width r = if is_some (vector_in width r) then 1 else 0

three_sums : (a b c : ℕ) → a + (b + c) ≡ b + (a + c)
three_sums a b c = omega arith

counted-replaced : (width : ℕ) (xs : List Recorded) (j : ℕ) (x d : Recorded) → j < length xs → one_of width (get_or xs j d) + how_many_count width (slice_set xs j x) ≡ one_of width x + how_many_count width xs
unfolding how_many_count one_of
counted-replaced width [] j x d within = absurd (omega arith)
counted-replaced width (z ∷ zs) zero x d within = three_sums (one_of width z) (one_of width x) (how_many_count width zs)
counted-replaced width (z ∷ zs) (suc j) x d within =
    three_sums (one_of width (get_or zs j d)) (one_of width z) (how_many_count width (slice_set zs j x))
    ∙ ap (λ (n : ℕ). one_of width z + n) (counted-replaced width zs j x d (omega arith))
    ∙ three_sums (one_of width z) (one_of width x) (how_many_count width zs)

counted-exchanged : (width : ℕ) (d : Recorded) (xs : List Recorded) (i j : ℕ) → i < length xs → j < length xs → how_many_count width (slice_set (slice_set xs i (get_or xs j d)) j (get_or xs i d)) ≡ how_many_count width xs
unfolding how_many_count one_of
counted-exchanged width d [] i j a b = absurd (omega arith)
counted-exchanged width d (x ∷ xs) zero zero a b = refl
counted-exchanged width d (x ∷ xs) zero (suc j) a b = counted-replaced width xs j x d (omega arith)
counted-exchanged width d (x ∷ xs) (suc i) zero a b = counted-replaced width xs i x d (omega arith)
counted-exchanged width d (x ∷ xs) (suc i) (suc j) a b = ap (λ (n : ℕ). one_of width x + n) (counted-exchanged width d xs i j (omega arith) (omega arith))

counted-swapped : (width : ℕ) (xs : List Recorded) (i j : ℕ) → i < length xs → j < length xs → how_many_count width (swap xs i j) ≡ how_many_count width xs
counted-swapped width [] i j a b = absurd (omega arith)
counted-swapped width (x ∷ xs) i j a b = counted-exchanged width x (x ∷ xs) i j a b

counted-order : (width : ℕ) (xs ys : List Recorded) → IsPermutation xs ys → how_many_count width ys ≡ how_many_count width xs
counted-order width xs ys = IsPermutation-keeps xs (λ zs. how_many_count width zs ≡ how_many_count width xs) refl (λ l i j a b h. counted-swapped width l i j a b ∙ h) ys

-- vectors stand for records in any order
pub stands-order : (v : VectorsView) (xs ys : List Recorded) → IsPermutation xs ys → VectorsStandFor v xs → VectorsStandFor v ys
stands-order v xs ys same h = record {
  rows = λ cycle. h.rows cycle ∙ sym (folded-order v.width cycle xs ys same);
  order = h.order;
  frames = h.frames ∙ sym (counted-order v.width xs ys same);
  ignored = h.ignored ∙ sym (length_permutation xs ys same);
}

-- ---- a record that is there again
or_bytes-self : (a : List ℕ) → or_bytes a a ≡ a
unfolding or_bytes
or_bytes-self [] = refl
or_bytes-self (x ∷ xs) = λ i. or_self x i ∷ or_bytes-self xs i

-- what is joined to a part of which it is the first does not change its vector
vector_of : Option Folded → Option (List ℕ)
vector_of None = None
vector_of (Some f) = Some f.vector

again : (a b : List ℕ) → or_bytes (or_bytes a b) a ≡ or_bytes a b
again a b = or_bytes-comm (or_bytes a b) a ∙ sym (or_bytes-assoc a a b) ∙ ap (λ (x : List ℕ). or_bytes x b) (or_bytes-self a)

joined-again : (a b : Option Folded) → vector_of (merged (merged a b) a) ≡ vector_of (merged a b)
unfolding vector_of
joined-again None None = refl
joined-again None (Some b) = refl
joined-again (Some a) None = ap (λ (v : List ℕ). Some v) (or_bytes-self a.vector)
joined-again (Some a) (Some b) = ap (λ (v : List ℕ). Some v) (again a.vector b.vector)

joined_vectors : Option (List ℕ) → Option (List ℕ) → Option (List ℕ)
joined_vectors None o = o
joined_vectors (Some a) None = Some a
joined_vectors (Some a) (Some b) = Some (or_bytes a b)

vector-joined : (a b : Option Folded) → vector_of (merged a b) ≡ joined_vectors (vector_of a) (vector_of b)
unfolding vector_of joined_vectors
vector-joined None b = refl
vector-joined (Some a) None = refl
vector-joined (Some a) (Some b) = refl

folded-again : (width cycle : ℕ) (before : List Recorded) (r : Recorded) (after : List Recorded)
    → vector_of (merged (folded width cycle (before ++ r ∷ after)) (given_to width cycle r)) ≡ vector_of (folded width cycle (before ++ r ∷ after))
unfolding folded
folded-again width cycle [] r after = joined-again (given_to width cycle r) (folded width cycle after)
folded-again width cycle (x ∷ xs) r after =
    ap vector_of (joined-assoc (given_to width cycle x) (folded width cycle (xs ++ r ∷ after)) (given_to width cycle r))
    ∙ vector-joined (given_to width cycle x) (merged (folded width cycle (xs ++ r ∷ after)) (given_to width cycle r))
    ∙ ap (λ (o : Option (List ℕ)). joined_vectors (vector_of (given_to width cycle x)) o) (folded-again width cycle xs r after)
    ∙ sym (vector-joined (given_to width cycle x) (folded width cycle (xs ++ r ∷ after)))

seen : (o : Option Folded) → vector_of o ≡ vector_at o
unfolding vector_of
seen None = refl
seen (Some f) = refl

pub vector-again : (width cycle : ℕ) (before : List Recorded) (r : Recorded) (after : List Recorded)
    → vector_at (folded width cycle ((before ++ r ∷ after) ++ r ∷ [])) ≡ vector_at (folded width cycle (before ++ r ∷ after))
vector-again width cycle before r after =
    sym (seen (folded width cycle ((before ++ r ∷ after) ++ r ∷ [])))
    ∙ ap vector_of (folded-more width cycle (before ++ r ∷ after) r)
    ∙ folded-again width cycle before r after
    ∙ seen (folded width cycle (before ++ r ∷ after))

pub text-order : (v w : VectorsView) (xs ys : List Recorded) → IsPermutation xs ys → v.width ≡ w.width → VectorsStandFor v xs → VectorsStandFor w ys → nm_text v ≡ nm_text w
text-order v w xs ys same width f g = ap nm_text (stands-same v w ys width (stands-order v xs ys same f) g)
