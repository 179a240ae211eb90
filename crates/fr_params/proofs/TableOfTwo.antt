-- Places of the table of version 2, and the rows that have its numbers.
use Rattle.std.proofs.Common.{◌≡◌, ℕ, ℤ, pos, ◌+◌, ◌<◌, Bool, true, false, List, map, Option, Some, ap, sym, ◌∙◌, refl, arith, zero-add, replicate, cond, subst, length, ◌⊎◌, inl, inr}
use Rattle.std.specs.Prelude.{slice_index_or, slice_set, int_lt, IsSome, None, ◌-◌}
use Rattle.std.specs.Int.{int_max}
use Rattle.std.specs.List.{range_with_len}
use Rattle.std.proofs.lemmas.Bool.{cases_eq}
use Rattle.std.proofs.lemmas.List.{get_or-map, get_or-replicate, get_or-set_other, get_or-set_same}
use Rattle.std.proofs.lemmas.List.FromFn.{get_or-map-range_with_len}
use Rattle.fr_params.specs.Names.{place}
use Rattle.fr_cluster.specs.Numbers.{AreInRange, number_in}
use Rattle.fr_cluster.specs.Ranges.{InRange}
use Rattle.fr_cluster.specs.declared.names.ParamName.{ParamName}
use Rattle.fr_cluster.specs.declared.names.ParamName.TheVariants as name
use Rattle.fr_params.specs.declared.names.Version.{Version}
use Rattle.fr_params.specs.declared.names.Version.TheVariants.{One, Two}
use Rattle.fr_params.specs.declared.names.TheConstants.{NAMES_OF_TWO}
use Rattle.fr_params.proofs.Places.{place-lt}
use Rattle.fr_params.specs.Draft.{AreNumbers, AreRanged, entry}
use Rattle.fr_params.specs.Files.{IsMissingIn}
use Rattle.fr_params.specs.Versions.{is_of_version, name_at, row_name}

-- the place of a name in the table of version 2; the one compensation of version 1 counts as the first of the two
abbrev pub index : ParamName → ℕ
index n = (place n - (place n - 15)) + (place n - 16)

pub index-lt : (n : ParamName) → index n < 20
index-lt n = let few = place-lt n in omega (arith, few)

-- the name at the place of a name is that name, and in a file of version 1 its row is found there too
pub row-at : (version : Version) (n : ParamName) → is_of_version version n ≡ true → row_name version (name_at (index n)) ≡ n
row-at One name.pDelayCompensationA e = cc e
row-at One name.pDelayCompensationB e = cc e
row-at One other e = refl
row-at Two name.pDelayCompensation e = cc e
row-at Two other e = refl

-- the place of the name at a place is that place
pub index-at : (k : ℕ) → k < 20 → index (name_at k) ≡ k
index-at k lt =
    sym (get_or-map index NAMES_OF_TWO k name.gMacroPerCycle 0 (omega arith))
    ∙ ap (λ (xs : List ℕ). slice_index_or xs k 0) places
    ∙ get_or-map-range_with_len (λ x. x) 0 20 k k 0 lt (zero-add k)
  where
    places : map index NAMES_OF_TWO ≡ map (λ x. x) (range_with_len 0 20)
    places = refl

-- it is a name of the table
pub two-at : (k : ℕ) → k < 20 → is_of_version Two (name_at k) ≡ true
two-at k lt =
    sym (get_or-map (is_of_version Two) NAMES_OF_TWO k name.gMacroPerCycle true (omega arith))
    ∙ ap (λ (xs : List Bool). slice_index_or xs k true) all
    ∙ get_or-replicate 20 k true true lt
  where
    all : map (is_of_version Two) NAMES_OF_TWO ≡ replicate 20 true
    all = refl

row-known : (version : Version) (n : ParamName) → is_of_version Two n ≡ true → is_of_version version (row_name version n) ≡ true
row-known One name.pDelayCompensationA e = refl
row-known One name.pDelayCompensationB e = refl
row-known One other e = refl
row-known Two n e = e

-- each row that is asked for is one of the version's table
pub known-at : (version : Version) (k : ℕ) → k < 20 → is_of_version version (row_name version (name_at k)) ≡ true
known-at version k lt = row-known version (name_at k) (two-at k lt)

not-both : (n : ParamName) → is_of_version Two n ≡ true → place n ≡ 15 → ⊥
not-both name.pDelayCompensation e same = cc e
not-both other e same = absurd (omega (arith, same))

-- the rows are asked for in the order of the version's table
row-order : (version : Version) (m n : ParamName) → is_of_version version n ≡ true → place n < place (row_name version m) → index n < index m
row-order One name.pDelayCompensationA n e lt = omega (arith, lt)
row-order One name.pDelayCompensationB n e lt = omega (arith, lt)
row-order One other n e lt = omega (arith, lt)
row-order Two m n e lt = let other = not-both n e in omega (arith, lt, other)

pub earlier-at : (version : Version) (k : ℕ) (n : ParamName) → k < 20 → is_of_version version n ≡ true → place n < place (row_name version (name_at k)) → index n < k
earlier-at version k n few e lt = let less = row-order version (name_at k) n e lt in let at = index-at k few in omega (arith, less, at)

-- a number of the table stands at the place of its name
pub number-at : (numbers : List ℤ) (n : ParamName) → is_of_version Two n ≡ true → number_in numbers n ≡ slice_index_or numbers (index n) (pos 0)
number-at numbers name.pDelayCompensation e = cc e
number-at numbers other e = refl

-- the number of a name is that of its row
pub number-row : (version : Version) (values : List (Option ℤ)) (numbers : List ℤ) (n : ParamName) → AreNumbers version values numbers → is_of_version Two n ≡ true
    → entry values (place (row_name version n)) ≡ Some (number_in numbers n)
number-row version values numbers n all e =
    let here : name_at (index n) ≡ n = row-at Two n e in
    ap (λ (m : ParamName). entry values (place (row_name version m))) (sym here)
    ∙ all (index n) (index-lt n)
    ∙ ap (λ (z : ℤ). Some z) (sym (number-at numbers n e))

-- a row has the range of the name whose number it has
pub row-range : (version : Version) (n : ParamName) (z : ℤ) → InRange (row_name version n) z → InRange n z
row-range One name.pDelayCompensationA z h = h
row-range One name.pDelayCompensationB z h = h
row-range One other z h = h
row-range Two n z h = h

pub range-max : (a b : ℤ) → InRange name.pDelayCompensation a → InRange name.pDelayCompensation b → InRange name.pDelayCompensation (int_max a b)
range-max a b f g = by (int_lt b a)
  where
    by : (c : Bool) → InRange name.pDelayCompensation (cond c a b)
    by true = f
    by false = g

-- numbers of rows lie in their ranges
pub rows-ranged : (version : Version) (values : List (Option ℤ)) (numbers : List ℤ) → AreRanged values → AreNumbers version values numbers → AreInRange numbers
rows-ranged version values numbers ranged all name.pDelayCompensation =
    range-max (number_in numbers name.pDelayCompensationA) (number_in numbers name.pDelayCompensationB)
    (in_row name.pDelayCompensationA refl) (in_row name.pDelayCompensationB refl)
  where
    in_row : (n : ParamName) → is_of_version Two n ≡ true → InRange n (number_in numbers n)
    in_row n e = row-range version n (number_in numbers n) (ranged (row_name version n) (number_in numbers n) (number-row version values numbers n all e))
rows-ranged version values numbers ranged all other =
    row-range version other (number_in numbers other) (ranged (row_name version other) (number_in numbers other) (number-row version values numbers other all refl))

-- the first row that is not there is that of the first name that is missing
pub missing-in : (version : Version) (values : List (Option ℤ)) (k : ℕ) (n : ParamName) → k < 20 → n ≡ row_name version (name_at k) → entry values (place n) ≡ None
    → ((j : ℕ) → j < k → IsSome (entry values (place (row_name version (name_at j))))) → IsMissingIn version values n
missing-in version values k n few is none there = record {
  known = rw is (known-at version k few);
  missing = none;
  earlier = λ m known lt.
      let less = earlier-at version k m few known (rw is at lt) in
      let P : ParamName → Type 0 = λ x. IsSome (entry values (place x)) in
      subst P (row-at version m known) (there (index m) less);
}

-- one number more
pub numbers-more : (version : Version) (values : List (Option ℤ)) (numbers : List ℤ) (k : ℕ) (z : ℤ) → k < length numbers
    → entry values (place (row_name version (name_at k))) ≡ Some z
    → ((j : ℕ) → j < k → entry values (place (row_name version (name_at j))) ≡ Some (slice_index_or numbers j (pos 0)))
    → (j : ℕ) → j < k + 1 → entry values (place (row_name version (name_at j))) ≡ Some (slice_index_or (slice_set numbers k z) j (pos 0))
numbers-more version values numbers k z room here before j lt = by (cases_eq j k)
  where
    by : (j ≡ k) ⊎ (j ≡ k → ⊥) → entry values (place (row_name version (name_at j))) ≡ Some (slice_index_or (slice_set numbers k z) j (pos 0))
    by (inl e) = rw e (here ∙ ap (λ (x : ℤ). Some x) (sym (get_or-set_same numbers k z (pos 0) room)))
    by (inr ne) = before j (omega (arith, ne)) ∙ ap (λ (x : ℤ). Some x) (sym (get_or-set_other numbers k j z (pos 0) ne))

-- what is some number is something
pub some-is : (o : Option ℤ) (z : ℤ) → o ≡ Some z → IsSome o
some-is o z e = rw e refl
