-- A power file that is made of a table.
use Rattle.std.proofs.Common.{◌≡◌, ℕ, Bool, true, false, cond, List, [], ◌∷◌, Some, ap, sym, ◌∙◌, refl}
use Rattle.std.specs.Prelude.{T}
use Rattle.std.specs.Cmp.{IsTotalOrder}
use Rattle.std.specs.List.{AllByRecursion}
use Rattle.std.specs.List.Sorted.{IsStrictlySortedBy}
use Rattle.std.specs.Map.{keys_of}
use Rattle.std.specs.declared.cmp.Ordering.{Ordering}
use Rattle.std.specs.declared.cmp.Ordering.TheVariants.{Less}
use Rattle.std.specs.BTreeMap.{is_at}
use Rattle.std.specs.FinMap as map
use Rattle.std.specs.FinMap.{FinMap, IsAntisymmetric, entries-from_sorted, find, get-entries, get-from_sorted, is_sorted, same_map}
use Rattle.std.specs.FinMap.Entries.{below_all}
use Rattle.std.proofs.lemmas.Cmp.{nat_cmp_total, on_total, then_total}
use Rattle.fr_text.specs.Records.{FileRecord}
use Rattle.fr_cold.specs.Keys.{power_cmp}
use Rattle.fr_text.specs.Keys.{found_at}
use Rattle.fr_cold.specs.Draft.{IsPowerDraft}
use Rattle.fr_cold.specs.Files.{PowerStandsFor}
use Rattle.fr_cold.specs.declared.draft.Draft.{Draft}
use Rattle.fr_cold.specs.declared.keys.PowerKey.{PowerKey}

pub power_total : IsTotalOrder power_cmp
power_total = then_total (on_total (λ (k : PowerKey). k.at) nat_cmp_total) (on_total (λ (k : PowerKey). k.node) nat_cmp_total)

-- entries in the order of their keys, by either word for it
below-all : {K V : Type 0} (R : K → K → Ordering) (x : K) (es : List (K × V)) → AllByRecursion (λ y. R x y ≡ Less) (keys_of es) → below_all R x es ≡ true
below-all R x [] h = refl
below-all R x (e ∷ es) h = rw (h.0, below-all R x es h.1) refl

sorted-from_ordered : {K V : Type 0} (R : K → K → Ordering) (es : List (K × V)) → IsStrictlySortedBy R (keys_of es) → is_sorted R es ≡ true
unfolding IsStrictlySortedBy
sorted-from_ordered R [] h = refl
sorted-from_ordered R (e ∷ es) h = rw (below-all R e.0 es h.0, sorted-from_ordered R es h.1) refl

-- what is found along entries, by either word for it
find-found : {K V : Type 0} (R : K → K → Ordering) (es : List (K × V)) (q : K) → find R q es ≡ found_at R es q
find-found R [] q = refl
find-found R (e ∷ es) q = ap (cond (is_at (R q) e.0) (Some e.1)) (find-found R es q)

holds : (b : Bool) → b ≡ true → T b
holds true e = tt
holds false e = cc e

is-true : (b : Bool) → T b → b ≡ true
is-true true h = refl
is-true false h = absurd h

-- lists in the order of their keys that answer alike are one
pub same-rows : {K V : Type 0} {R : K → K → Ordering} → IsTotalOrder R → IsAntisymmetric R → (es fs : List (K × V)) → is_sorted R es ≡ true → is_sorted R fs ≡ true
    → ((q : K) → found_at R es q ≡ found_at R fs q) → es ≡ fs
same-rows {K} {V} {R} total exact es fs s t alike =
    let one = holds (is_sorted R es) s in
    let other = holds (is_sorted R fs) t in
    let maps : map.from_sorted {R = R} es ≡ map.from_sorted fs =
    same_map total exact (map.from_sorted es) (map.from_sorted fs)
    (λ q. get-from_sorted R es q one ∙ find-found R es q ∙ alike q ∙ sym (get-from_sorted R fs q other ∙ find-found R fs q))
    in
    sym (entries-from_sorted R es one) ∙ ap (λ (m : FinMap R V). map.entries m) maps ∙ entries-from_sorted R fs other

-- the entries of a finite map
pub found-entries : {K V : Type 0} {R : K → K → Ordering} (m : FinMap R V) (q : K) → found_at R (map.entries m) q ≡ map.get m q
found-entries {R = R} m q = sym (get-entries m q ∙ find-found R (map.entries m) q)

pub sorted-entries : {K V : Type 0} {R : K → K → Ordering} (m : FinMap R V) → is_sorted R (map.entries m) ≡ true
sorted-entries {R = R} m = is-true (is_sorted R (map.entries m)) (map.entries_sorted m)

-- the view of a table stands for the records that the table holds
pub stands-made : (n : ℕ) (draft : Draft) (records : List FileRecord) → IsPowerDraft draft records → draft.cycles ≡ Some n
    → PowerStandsFor (record { cycles = n; switches = draft.switches.entries }) records
stands-made n draft records h told = record {
  cycles = sym h.cycles ∙ told;
  switches = λ at node. h.switches at node;
  order = sorted-from_ordered power_cmp draft.switches.entries h.ordered;
}
