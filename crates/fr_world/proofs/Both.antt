-- A cell is found exactly where its frame is.
use Rattle.std.proofs.Common.{◌≡◌, ◌↔◌, ◌+◌, ◌≤◌, ℕ, suc, Bool, true, false, not, cond, List, [], ◌∷◌, length, Option, Some, None, refl, ap, sym, ◌∙◌, arith}
use Rattle.std.specs.Prelude.{option_map, find}
use Rattle.std.specs.List.{position, position_or_len}
use Rattle.std.proofs.lemmas.Grind.{common_steps}
use Rattle.fr_air.specs.Memory.{Held, cell_of, frame_in_cell, is_of_place}

-- an option has a part exactly where there is something to take it of
unmapped : {A B : Type 0} (f : A → B) (o : Option A) → option_map f o ≡ None → o ≡ None
unmapped f None e = refl
unmapped f (Some a) e = cc

mapped : {A B : Type 0} (f : A → B) (o : Option A) → o ≡ None → option_map f o ≡ None
mapped f o e = ap (option_map f) e

-- nothing is found exactly where the first place is behind the list
behind : {A : Type 0} (p : A → Bool) (xs : List A) → find p xs ≡ None → position_or_len p xs ≡ length xs
behind p [] e = refl
behind p (x ∷ xs) e = by (p x) e (behind p xs)
  where
    by : (b : Bool) → cond b (Some x) (find p xs) ≡ None → (find p xs ≡ None → position_or_len p xs ≡ length xs) → cond (not b) (1 + position_or_len p xs) 0 ≡ suc (length xs)
    by true found rest = cc
    by false found rest = let same : position_or_len p xs ≡ length xs = rest found in omega arith

nothing : {A : Type 0} (p : A → Bool) (xs : List A) → position_or_len p xs ≡ length xs → find p xs ≡ None
nothing p [] e = refl
nothing p (x ∷ xs) e = by (p x) e (nothing p xs)
  where
    by : (b : Bool) → cond (not b) (1 + position_or_len p xs) 0 ≡ suc (length xs) → (position_or_len p xs ≡ length xs → find p xs ≡ None) → cond b (Some x) (find p xs) ≡ None
    by true at rest = absurd (omega arith)
    by false at rest = rest (omega arith)

at-most : {A : Type 0} (p : A → Bool) (xs : List A) → position_or_len p xs ≤ length xs
at-most p [] = omega arith
at-most p (x ∷ xs) = by (p x) (at-most p xs)
  where
    by : (b : Bool) → position_or_len p xs ≤ length xs → cond (not b) (1 + position_or_len p xs) 0 ≤ suc (length xs)
    by true most = omega arith
    by false most = omega arith

unplaced : {A : Type 0} (p : A → Bool) (xs : List A) → position p xs ≡ None → position_or_len p xs ≡ length xs
unplaced p xs e = let most : position_or_len p xs ≤ length xs = at-most p xs in grind (arith, common_steps)

placed : {A : Type 0} (p : A → Bool) (xs : List A) → position_or_len p xs ≡ length xs → position p xs ≡ None
placed p xs e = grind (arith, common_steps)

pub both : (place : ℕ) (held : List Held) → (cell_of held place ≡ None) ↔ (frame_in_cell held place ≡ None)
both place held = (
  (λ e. mapped (λ h. h.frame) (find (is_of_place place) held) (nothing (is_of_place place) held (unplaced (is_of_place place) held e))),
  (λ e. placed (is_of_place place) held (behind (is_of_place place) held (unmapped (λ h. h.frame) (find (is_of_place place) held) e))),
)
