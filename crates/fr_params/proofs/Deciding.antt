-- Each constraint holds or does not.
use Rattle.std.proofs.Common.{◌≡◌, ℕ, zero, suc, ◌<◌, ◌≤◌, Bool, true, false, List, [], ◌∷◌, length, ◌⊎◌, inl, inr, refl, arith, subst, sym}
use Rattle.std.specs.Prelude.{◌≢◌, nat_lt, slice_index_or, All, AllPairs, Contains}
use Rattle.std.proofs.lemmas.Bool.{cases_eq}
use Rattle.std.proofs.lemmas.List.Elements.{All-nil, All-cons}
use Rattle.std.proofs.lemmas.List.Kept.{AllPairs-cons}
use borrow.Author.Tests.{ltb-true, ltb-false}
use Rattle.fr_cluster.specs.Constraints.{AllHold, Amounts, ConstraintHolds, FirstFails}
use Rattle.fr_cluster.specs.declared.names.ParamName.TheVariants as name
use Rattle.fr_cluster.specs.declared.nodes.SlotSpec.{SlotSpec}

-- a fact holds or does not
abbrev pub Sure : Type 0 → Type 0
Sure P = P ⊎ (P → ⊥)

sure-less : (a b : ℕ) → Sure (a < b)
sure-less a b = by (nat_lt a b) refl
  where
    by : (t : Bool) → nat_lt a b ≡ t → Sure (a < b)
    by true e = inl (ltb-true a b e)
    by false e = let high = ltb-false a b e in inr (λ less. absurd (omega arith))

sure-most : (a b : ℕ) → Sure (a ≤ b)
sure-most a b = by (nat_lt b a) refl
  where
    by : (t : Bool) → nat_lt b a ≡ t → Sure (a ≤ b)
    by true e = let high = ltb-true b a e in inr (λ most. absurd (omega arith))
    by false e = inl (ltb-false b a e)

sure-both : {P Q : Type 0} → Sure P → Sure Q → Sure (P × Q)
sure-both (inl p) (inl q) = inl (p, q)
sure-both (inl p) (inr never) = inr (λ h. never h.1)
sure-both (inr never) q = inr (λ h. never h.0)

sure-not : {P : Type 0} → Sure P → Sure (P → ⊥)
sure-not (inl p) = inr (λ never. never p)
sure-not (inr never) = inl never

sure-all : {A : Type 0} (P : A → Type 0) → ((x : A) → Sure (P x)) → (xs : List A) → Sure (All P xs)
sure-all P each [] = inl (All-nil P)
sure-all {A} P each (x ∷ xs) = by (each x) (sure-all P each xs)
  where
    by : Sure (P x) → Sure (All P xs) → Sure (All P (x ∷ xs))
    by (inl p) (inl all) = inl (All-cons P x xs p all)
    by (inr never) rest = inr (λ h. never (h 0 x (omega arith)))
    by (inl p) (inr never) = inr (λ h. never (λ i d lt. h (suc i) d (omega (arith, lt))))

sure-differ : (keys : List ℕ) → Sure (AllPairs (λ a b. a ≢ b) keys)
sure-differ [] = inl (λ i j d lt below. absurd (omega arith))
sure-differ (x ∷ xs) = by (sure-all (λ y. x ≢ y) (λ y. sure-not (cases_eq x y)) xs) (sure-differ xs)
  where
    by : Sure (All (λ y. x ≢ y) xs) → Sure (AllPairs (λ a b. a ≢ b) xs) → Sure (AllPairs (λ a b. a ≢ b) (x ∷ xs))
    by (inl one) (inl all) = inl (AllPairs-cons (λ a b. a ≢ b) x xs one all)
    by (inr never) rest = inr (λ h. never (λ j d lt. h 0 (suc j) d (omega arith) (omega (arith, lt))))
    by (inl one) (inr never) = inr (λ h. never (λ i j d lt below. h (suc i) (suc j) d (omega (arith, lt)) (omega (arith, below))))

sure-contains : (keys : List ℕ) (k : ℕ) → Sure (Contains keys k)
sure-contains [] k = inr (λ h. absurd (omega (arith, h.1)))
sure-contains (x ∷ xs) k = by (cases_eq x k) (sure-contains xs k)
  where
    by : Sure (x ≡ k) → Sure (Contains xs k) → Sure (Contains (x ∷ xs) k)
    by (inl e) rest = inl (0, omega arith, e)
    by (inr ne) (inl h) = inl (suc h.0, omega (arith, h.1), h.2)
    by (inr ne) (inr never) = inr (λ h. elsewhere h.0 h.1 h.2)
      where
        elsewhere : (j : ℕ) → j < length (x ∷ xs) → slice_index_or (x ∷ xs) j k ≡ k → ⊥
        elsewhere zero lt e = ne e
        elsewhere (suc j) lt e = never (j, omega (arith, lt), e)

pub sure-constraint : (k : ℕ) (f : Amounts) (keys : List ℕ) (slots : List SlotSpec) → Sure (ConstraintHolds k f keys slots)
sure-constraint zero f keys slots = inl tt
sure-constraint (suc zero) f keys slots = cases_eq _ _
sure-constraint (suc (suc zero)) f keys slots = sure-less _ _
sure-constraint (suc (suc (suc zero))) f keys slots = sure-both (sure-less _ _) (sure-less _ _)
sure-constraint (suc (suc (suc (suc zero)))) f keys slots = sure-most _ _
sure-constraint (suc (suc (suc (suc (suc zero))))) f keys slots = sure-most _ _
sure-constraint (suc (suc (suc (suc (suc (suc zero)))))) f keys slots = sure-both (sure-most _ _) (sure-most _ _)
sure-constraint (suc (suc (suc (suc (suc (suc (suc zero))))))) f keys slots =
    sure-both (sure-all (λ key. key ≤ f name.gNumberOfStaticSlots) (λ key. sure-most key (f name.gNumberOfStaticSlots)) keys) (sure-differ keys)
sure-constraint (suc (suc (suc (suc (suc (suc (suc (suc zero)))))))) f keys slots =
    sure-all (λ (slot : SlotSpec). (slot.slot ≤ f name.gNumberOfStaticSlots) × (Contains keys slot.slot → ⊥))
    (λ slot. sure-both (sure-most slot.slot (f name.gNumberOfStaticSlots)) (sure-not (sure-contains keys slot.slot))) slots
sure-constraint (suc (suc (suc (suc (suc (suc (suc (suc (suc k))))))))) f keys slots = inl tt

-- all of them hold below a number, or there is a first that does not
pub first-failing : (n : ℕ) (f : Amounts) (keys : List ℕ) (slots : List SlotSpec)
    → ((k : ℕ) → k < n → ConstraintHolds k f keys slots) ⊎ ((k : ℕ) × FirstFails k f keys slots)
first-failing zero f keys slots = inl (λ k lt. absurd (omega arith))
first-failing (suc n) f keys slots = by (first-failing n f keys slots) (sure-constraint n f keys slots)
  where
    by : ((k : ℕ) → k < n → ConstraintHolds k f keys slots) ⊎ ((k : ℕ) × FirstFails k f keys slots) → Sure (ConstraintHolds n f keys slots)
        → ((k : ℕ) → k < suc n → ConstraintHolds k f keys slots) ⊎ ((k : ℕ) × FirstFails k f keys slots)
    by (inr found) sure = inr found
    by (inl all) (inr never) = inr (n, record { fails = never; earlier = all })
    by (inl all) (inl here) = inl (λ k lt. at k lt (cases_eq k n))
      where
        at : (k : ℕ) → k < suc n → (k ≡ n) ⊎ (k ≡ n → ⊥) → ConstraintHolds k f keys slots
        at k lt (inl e) = let P : ℕ → Type 0 = λ j. ConstraintHolds j f keys slots in subst P (sym e) here
        at k lt (inr ne) = all k (omega (arith, ne))

-- constraints by their numbers are all of them
pub all-hold : (f : Amounts) (keys : List ℕ) (slots : List SlotSpec) → ((k : ℕ) → k < 9 → ConstraintHolds k f keys slots) → AllHold f keys slots
all-hold f keys slots h = record {
  whole_cycle = h 1 (omega arith);
  acts_in_slot = h 2 (omega arith);
  corrects_after = h 3 (omega arith);
  leaves_microticks = h 4 (omega arith);
  passive_first = h 5 (omega arith);
  sync_nodes = h 6 (omega arith);
  own_slots = h 7 (omega arith);
  free_slots = h 8 (omega arith);
}
