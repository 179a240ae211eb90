-- The values of a receiver whose own is 0: one in each of some intervals that are known, but for those that it misses, and so many more.
-- Their midpoint lies in the middle of these intervals.
use Rattle.std.proofs.Common.{◌≡◌, ◌≢◌, ℕ, suc, ◌+◌, ◌≤◌, ℤ, pos, Option, Some, List, ◌∷◌, ◌++◌, length, map, ap, sym, subst, arith}
use Rattle.std.specs.Prelude.{◌≤ℤ◌, AllPairs, Contains, IfSome, IsPermutation, IsSome, count_by, is_none, is_some}
use Rattle.std.specs.List.{AllZip, cons_option, filter_map, range_with_len}
use Rattle.std.proofs.lemmas.Int.{ints}
use Rattle.std.proofs.lemmas.List.{length-map}
use Rattle.fr_base.specs.Within.{IsBetween}
use Rattle.fr_cluster.specs.Questions.{key_slot_of}
use Rattle.fr_cluster.specs.Values.{Values}
use Rattle.fr_cluster.specs.declared.nodes.NodeSpec.{NodeSpec}
use Rattle.fr_midpoint.specs.Midpoint.{IsMidpoint}
use Rattle.fr_measure.specs.Values.{values_of}
use Rattle.fr_precision.proofs.Counting.{count_no}
use Rattle.fr_precision.proofs.RoundLemmas.{map_contains}
use Rattle.fr_course.specs.Computed.{own_value}
use Rattle.fr_course.specs.Middles.{MiddlesHold, middle}
use Rattle.fr_course.specs.declared.intervals.Interval.{Interval}
use Rattle.fr_seen_runs.specs.ComputedValues.{AreKeyed}
use Rattle.fr_seen_runs.proofs.ComputedCounts.{few_besides}
use Rattle.fr_seen_runs.proofs.ComputedLists.{all_lie, all_taken, count_mapped, few_missing, heard_parts, AreTaken}

abbrev pub LiesIn : Interval → ℤ → Type 0
LiesIn interval value = IsBetween interval.low interval.high value

zero_lies : LiesIn own_value (pos 0)
zero_lies = record { low = itself (pos 0); high = itself (pos 0) }
  where
    itself : (a : ℤ) → a ≤ℤ a
    itself a = omega (arith, ints)

-- its own index and those of the others
abbrev pub indexes_of : {Y : Type 0} (node : Y → ℕ) (index : ℕ → ℕ) (own : ℕ) (others : List Y) → List ℕ
indexes_of node index own others = index own ∷ map (λ y. index (node y)) others

module _ {Y : Type 0} (p : Values) (at : ℕ → Option ℤ) (node : Y → ℕ) (index : ℕ → ℕ) (own : ℕ) (others : List Y) where
  abbrev all_indexes : List ℕ
  all_indexes = indexes_of node index own others

  -- each is that of a key slot of its own, and its own value is 0
  pub record AreIndexed : Type 0 where
    pub keyed : AreKeyed p at
    pub slots : (i : ℕ) → Contains all_indexes i → (slot : ℕ) × (key_slot_of p i ≡ Some slot)
    pub apart : AllPairs (λ (a : ℕ) (b : ℕ). a ≢ b) all_indexes
    pub below : (i : ℕ) → Contains all_indexes i → Contains (range_with_len 0 15) i
    pub zero : at (index own) ≡ Some (pos 0)

  -- each value that is there lies in an interval, and there is one of each node that isn't missed
  pub record AreSeen (box : Y → Interval) (missed : List ℕ) : Type 0 where
    pub apart : AllPairs (λ (a : ℕ) (b : ℕ). a ≢ b) (map node others)
    pub lies : (y : Y) → Contains others y → IfSome (at (index (node y))) (LiesIn (box y))
    pub there : (y : Y) → Contains others y → (Contains missed (node y) → ⊥) → IsSome (at (index (node y)))

  module _ (box : Y → Interval) (missed : List ℕ) (is : AreIndexed) (seen : AreSeen box missed) where
    others_at : List (Option ℤ)
    others_at = map at (map (λ y. index (node y)) others)

    taken : AreTaken (range_with_len 0 15) all_indexes
    taken = all_taken (range_with_len 0 15) all_indexes is.apart is.below

    none_of_others : count_by is_none (map at (map (λ y. index (node y)) others)) ≤ length missed
    none_of_others =
        let few =
        few_missing (λ n. at (index n)) (map node others) missed seen.apart
        (λ n among free.
        let y = map_contains node others n among in
        let Free : ℕ → Type 0 = λ m. Contains missed m → ⊥ in
        let There : ℕ → Type 0 = λ m. IsSome (at (index m)) in
        subst There y.2 (seen.there y.0 y.1 (subst Free (sym y.2) free))) in
        let first = count_mapped is_none at (map (λ y. index (node y)) others) in
        let second = count_mapped (λ i. is_none (at i)) (λ (y : Y). index (node y)) others in
        let third = count_mapped (λ n. is_none (at (index n))) node others in
        omega (arith, few, first, second, third)

    none_of_all : count_by is_none (map at all_indexes) ≤ length missed
    none_of_all =
        let none = count_no is_none (at (index own)) (map at (map (λ y. index (node y)) others)) (ap is_none is.zero) in
        let few = none_of_others in
        omega (arith, none, few)

    all_in : AllZip (λ (interval : Interval) (value : Option ℤ). IfSome value (LiesIn interval)) (own_value ∷ map box others) (map at all_indexes)
    all_in =
        let Own : Option ℤ → Type 0 = λ o. IfSome o (LiesIn own_value) in
        (subst Own (sym is.zero) zero_lies, all_lie LiesIn box at (λ (y : Y). index (node y)) others seen.lies)

    some_heard : 1 ≤ length (filter_map (λ value. value) (map at all_indexes))
    some_heard = let Some_of : Option ℤ → Type 0 = λ o. 1 ≤ length (cons_option o (filter_map (λ value. value) (map at (map (λ y. index (node y)) others)))) in subst Some_of (sym is.zero) (omega arith)

    parts : IsPermutation (filter_map (λ value. value) (map at all_indexes) ++ filter_map at taken.rest) (values_of at)
    unfolding values_of taken
    parts =
        let Parts : List ℤ → Type 0 = λ values. IsPermutation values (filter_map at (range_with_len 0 15)) in
        subst Parts (heard_parts at all_indexes taken.rest) (taken.front at)

    few_extra : suc (length others) + length (filter_map at taken.rest) ≤ count_by (λ (n : NodeSpec). is_some n.key) p.nodes
    unfolding taken
    few_extra =
        let few = few_besides p at all_indexes taken.rest is.keyed is.slots taken.front in
        let long = length-map others (λ (y : Y). index (node y)) in
        omega (arith, few, long)

    -- their midpoint lies in the middle of the intervals, where so many may be missed and so many further ones be there
    pub middle_lies : MiddlesHold → (further lost : ℕ) (mid : ℤ) → length missed ≤ lost
        → ((extra : ℕ) → suc (length others) + extra ≤ count_by (λ (n : NodeSpec). is_some n.key) p.nodes → extra ≤ further) → IsMidpoint (values_of at) mid
        → IfSome (middle further lost (own_value ∷ map box others)) (λ m. IsBetween m.low m.high mid)
    middle_lies holds further lost mid few room middle_is =
        let none = none_of_all in
        holds further lost (own_value ∷ map box others) (map at all_indexes) (filter_map at taken.rest) (values_of at) mid parts all_in (omega (arith, none, few)) (room (length (filter_map at taken.rest)) few_extra)
        some_heard middle_is
