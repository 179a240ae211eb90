-- A list of values by index, parted: those of the senders, and further ones.
use Rattle.std.proofs.Common.{◌≡◌, ℕ, suc, ◌≤◌, ℤ, Bool, true, Option, Some, None, List, [], ◌∷◌, ◌++◌, refl, ap, sym, ◌∙◌, subst, arith}
use Rattle.std.specs.Prelude.{count_by, length, IsPermutation, is_some}
use Rattle.std.specs.List.{AllZip, cons_option, filter_map}
use Rattle.std.proofs.lemmas.List.Sorted.{IsPermutation-cons, IsPermutation-middle, IsPermutation-refl, IsPermutation-trans}
use Rattle.fr_precision.proofs.Counting.{count_cons, count_no, count_yes}

-- how many indexes give something
counted_by : {X : Type 0} (who : ℕ → Option X) (i : ℕ) (is : List ℕ) (o : Option X) → who i ≡ o → length (filter_map who is) ≡ count_by (λ j. is_some (who j)) is
    → length (cons_option o (filter_map who is)) ≡ count_by (λ j. is_some (who j)) (i ∷ is)
counted_by who i is None none rest = rest ∙ sym (count_no (λ j. is_some (who j)) i is (ap is_some none))
counted_by who i is (Some x) some rest = ap suc rest ∙ sym (count_yes (λ j. is_some (who j)) i is (ap is_some some))

pub filter_map_counts : {X : Type 0} (who : ℕ → Option X) (is : List ℕ) → length (filter_map who is) ≡ count_by (λ i. is_some (who i)) is
filter_map_counts who [] = refl
filter_map_counts who (i ∷ is) = counted_by who i is (who i) refl (filter_map_counts who is)

-- at each index a sender has a value that says what it should, and other values are at marked indexes
pub record AreTold (X : Type 0) (Says : X → ℤ → Type 0) (who : ℕ → Option X) (at : ℕ → Option ℤ) (marked : ℕ → Bool) : Type 0 where
  pub said : (i : ℕ) (x : X) → who i ≡ Some x → (v : ℤ) × (at i ≡ Some v) × Says x v
  pub other : (i : ℕ) (v : ℤ) → who i ≡ None → at i ≡ Some v → marked i ≡ true

pub record IsParted (X : Type 0) (Says : X → ℤ → Type 0) (senders : List X) (values : List ℤ) (few : ℕ) : Type 0 where
  pub said : List ℤ
  pub further : List ℤ
  pub parts : IsPermutation (said ++ further) values
  pub each : AllZip Says senders said
  pub few_further : length further ≤ few

parted_by : (X : Type 0) (Says : X → ℤ → Type 0) (who : ℕ → Option X) (at : ℕ → Option ℤ) (marked : ℕ → Bool) (i : ℕ) (is : List ℕ)
    → AreTold X Says who at marked → IsParted X Says (filter_map who is) (filter_map at is) (count_by marked is)
    → (o : Option X) (w : Option ℤ) → who i ≡ o → at i ≡ w
    → IsParted X Says (cons_option o (filter_map who is)) (cons_option w (filter_map at is)) (count_by marked (i ∷ is))
parted_by X Says who at marked i is told rest None None none nothing = record {
  said = rest.said;
  further = rest.further;
  parts = rest.parts;
  each = rest.each;
  few_further = let e = count_cons marked i is in let f = rest.few_further in omega (arith, e, f);
}
parted_by X Says who at marked i is told rest None (Some v) none some =
    let e = count_yes marked i is (told.other i v none some) in
    let f = rest.few_further in
    record {
      said = rest.said;
      further = v ∷ rest.further;
      parts =
          IsPermutation-trans (rest.said ++ v ∷ rest.further) (v ∷ (rest.said ++ rest.further)) (v ∷ filter_map at is)
          (IsPermutation-middle rest.said v rest.further) (IsPermutation-cons v (rest.said ++ rest.further) (filter_map at is) rest.parts);
      each = rest.each;
      few_further = omega (arith, e, f);
    }
parted_by X Says who at marked i is told rest (Some x) w some is_w =
    let v = told.said i x some in
    let e = count_cons marked i is in
    let f = rest.few_further in
    let Parts : Option ℤ → Type 0 = λ value. IsParted X Says (x ∷ filter_map who is) (cons_option value (filter_map at is)) (count_by marked (i ∷ is)) in
    subst Parts (sym v.1 ∙ is_w)
    (record {
      said = v.0 ∷ rest.said;
      further = rest.further;
      parts = IsPermutation-cons v.0 (rest.said ++ rest.further) (filter_map at is) rest.parts;
      each = (v.2, rest.each);
      few_further = omega (arith, e, f);
    })

pub parted : (X : Type 0) (Says : X → ℤ → Type 0) (who : ℕ → Option X) (at : ℕ → Option ℤ) (marked : ℕ → Bool) (is : List ℕ)
    → AreTold X Says who at marked → IsParted X Says (filter_map who is) (filter_map at is) (count_by marked is)
parted X Says who at marked [] told = record { said = []; further = []; parts = IsPermutation-refl []; each = tt; few_further = omega arith }
parted X Says who at marked (i ∷ is) told = parted_by X Says who at marked i is told (parted X Says who at marked is told) (who i) (at i) refl refl
