-- Vectors that stand for records, with one record more.
use Rattle.std.proofs.Common.{◌≡◌, ℕ, ◌+◌, ◌^◌, ◌<◌, ◌≤◌, List, [], ◌∷◌, ◌++◌, length, Bool, true, false, ◌==◌, Option, Some, None, refl, ap, sym, ◌∙◌, subst, arith}
use Rattle.std.specs.Prelude.{IfSome, if◌then◌else◌}
use Rattle.std.specs.Ordering.{nat_cmp}
use Rattle.std.specs.BTreeMap.{BTreeMap, get, is_at}
use Rattle.std.specs.FinMap.{is_sorted}
use Rattle.std.specs.FinMap.Entries.{below_all}
use Rattle.std.specs.List.{AllByRecursion}
use Rattle.std.specs.List.Sorted.{IsStrictlySortedBy}
use Rattle.std.specs.Map.{keys_of}
use Rattle.std.specs.declared.cmp.Ordering.{Ordering}
use Rattle.std.specs.declared.cmp.Ordering.TheVariants.{Less}
use Rattle.std.proofs.lemmas.Bool.Decides.{nat_tests}
use Rattle.std.proofs.lemmas.List.{length-append}
use Rattle.fr_nm.specs.Vectors.{Recorded, folded, how_many_count, merged, one_frame, or_bytes, vector_in}
use Rattle.fr_nm.specs.View.{IsFolding, IsRowPut, VectorsStandFor, VectorsView, vector_row_in}
use Rattle.fr_nm.specs.declared.vector.Folded.{Folded}
use Rattle.fr_nm.proofs.Joining.{counted-more, counted-nil, folded-more, folded-nil, joined-none}

-- entries in the order of their keys, by either word for it
below-all : {K V : Type 0} (R : K → K → Ordering) (x : K) (es : List (K × V)) → AllByRecursion (λ y. R x y ≡ Less) (keys_of es) → below_all R x es ≡ true
below-all R x [] h = refl
below-all R x (e ∷ es) h = rw (h.0, below-all R x es h.1) refl

pub sorted-from_ordered : {K V : Type 0} (R : K → K → Ordering) (es : List (K × V)) → IsStrictlySortedBy R (keys_of es) → is_sorted R es ≡ true
unfolding IsStrictlySortedBy
sorted-from_ordered R [] h = refl
sorted-from_ordered R (e ∷ es) h = rw (below-all R e.0 es h.0, sorted-from_ordered R es h.1) refl

pub ties : (a b : ℕ) → is_at (nat_cmp a) b ≡ (a == b)
ties a b = grind (arith, nat_tests)

same : (a b : ℕ) → (a == b) ≡ true → a ≡ b
same a b e = grind (arith, nat_tests)

pub one_longer : {A : Type 0} (xs : List A) (x : A) → length (xs ++ x ∷ []) ≡ length xs + 1
one_longer xs x = length-append xs (x ∷ [])

-- vectors of no records
pub stands-nil : (width : ℕ) (rows : List (ℕ × Folded)) → rows ≡ [] → VectorsStandFor (record { width = width; rows = rows; frames = 0; ignored = 0 }) []
stands-nil width rows e = record {
  rows = λ cycle. rw e (sym (folded-nil width cycle));
  order = rw e refl;
  frames = sym (counted-nil width);
  ignored = refl;
}

none-given : (width cycle : ℕ) (r : Recorded) (b : Bool) → vector_in width r ≡ None → (if b then one_frame (vector_in width r) else None) ≡ None
none-given width cycle r true e = rw e refl
none-given width cycle r false e = refl

-- a record that does not count
pub stands-ignored : (v : VectorsView) (records : List Recorded) (r : Recorded) → VectorsStandFor v records → vector_in v.width r ≡ None
    → VectorsStandFor (record v { ignored = v.ignored + 1 }) (records ++ r ∷ [])
stands-ignored v records r h none = record {
  rows = λ cycle.
      h.rows cycle
      ∙ sym (folded-more v.width cycle records r
      ∙ ap (λ (o : Option Folded). merged (folded v.width cycle records) o) (none-given v.width cycle r (r.cycle == cycle) none)
      ∙ joined-none (folded v.width cycle records));
  order = h.order;
  frames = h.frames ∙ sym (counted-more v.width records r ∙ rw none (let n = how_many_count v.width records in omega arith));
  ignored = let one = h.ignored in let long = one_longer records r in omega (arith, one, long);
}

-- a row that is put: at its cycle, and elsewhere
put-row : (width : ℕ) (old new : List (ℕ × Folded)) (records : List Recorded) (r : Recorded) (row : Folded) (q : ℕ) (b : Bool) → (r.cycle == q) ≡ b
    → vector_row_in new q ≡ (if b then Some row else vector_row_in old q) → Some row ≡ merged (vector_row_in old r.cycle) (one_frame (vector_in width r))
    → ((cycle : ℕ) → vector_row_in old cycle ≡ folded width cycle records) → vector_row_in new q ≡ merged (folded width q records) (if b then one_frame (vector_in width r) else None)
put-row width old new records r row q false e filled made rows = filled ∙ rows q ∙ sym (joined-none (folded width q records))
put-row width old new records r row q true e filled made rows =
    filled ∙ made ∙ ap (λ (o : Option Folded). merged o (one_frame (vector_in width r))) (rows r.cycle ∙ ap (λ (c : ℕ). folded width c records) (same r.cycle q e))

-- a record that counts
pub stands-more : (v : VectorsView) (old new : BTreeMap ℕ Folded) (records : List Recorded) (r : Recorded) (vector : List ℕ) (row : Folded) → VectorsStandFor v records → old.entries ≡ v.rows
    → vector_in v.width r ≡ Some vector → IsRowPut old new r.cycle row → Some row ≡ merged (get nat_cmp old r.cycle) (one_frame (Some vector))
    → VectorsStandFor (record { width = v.width; rows = new.entries; frames = v.frames + 1; ignored = v.ignored }) (records ++ r ∷ [])
stands-more v old new records r vector row h is some put made = record {
  rows = λ cycle.
      put-row v.width v.rows new.entries records r row cycle (r.cycle == cycle) refl
      (put.filled cycle ∙ (λ i. if ties r.cycle cycle i then Some row else vector_row_in (is i) cycle))
      (made ∙ (λ i. merged (vector_row_in (is i) r.cycle) (one_frame (sym some i))))
      h.rows
      ∙ sym (folded-more v.width cycle records r);
  order = sorted-from_ordered nat_cmp new.entries put.ordered;
  frames = ap (λ (n : ℕ). n + 1) h.frames ∙ sym (counted-more v.width records r ∙ rw some refl);
  ignored = let one = h.ignored in let long = one_longer records r in omega (arith, one, long);
}

joined-most : (o : Option Folded) (vector : List ℕ) (row : Folded) (n : ℕ) → Some row ≡ merged o (one_frame (Some vector)) → IfSome o (λ f. f.frames ≤ n) → row.frames ≤ n + 1
joined-most None vector row n e h =
    let same : row ≡ record { vector = vector; frames = 1 } = cc in
    let one : row.frames ≡ 1 = ap (λ (f : Folded). f.frames) same in
    omega (arith, one)
joined-most (Some f) vector row n e h =
    let is : row ≡ record { vector = or_bytes f.vector vector; frames = f.frames + 1 } = cc in
    let one : row.frames ≡ f.frames + 1 = ap (λ (g : Folded). g.frames) is in
    omega (arith, one, h)

later : (o : Option Folded) (n : ℕ) → IfSome o (λ f. f.frames ≤ n) → IfSome o (λ f. f.frames ≤ n + 1)
later None n h = h
later (Some f) n h = omega (arith, h)

put-most : (o : Option Folded) (b : Bool) (row : Folded) (new : Option Folded) (n : ℕ) → new ≡ (if b then Some row else o) → row.frames ≤ n + 1 → IfSome o (λ f. f.frames ≤ n) → IfSome new (λ f. f.frames ≤ n + 1)
put-most o true row new n e h k = rw e h
put-most o false row new n e h k = rw e (later o n k)

-- no row has more frames than all have
pub most-more : (v : VectorsView) (old new : BTreeMap ℕ Folded) (cycle : ℕ) (vector : List ℕ) (row : Folded) → IsFolding v → old.entries ≡ v.rows → IsRowPut old new cycle row
    → Some row ≡ merged (get nat_cmp old cycle) (one_frame (Some vector)) → (q : ℕ) → IfSome (vector_row_in new.entries q) (λ f. f.frames ≤ v.frames + 1)
most-more v old new cycle vector row h is put made q =
    let all : (c : ℕ) → IfSome (vector_row_in old.entries c) (λ f. f.frames ≤ v.frames) = λ c. subst (λ (rows : List (ℕ × Folded)). IfSome (vector_row_in rows c) (λ f. f.frames ≤ v.frames)) (sym is) (h.most c) in
    put-most (vector_row_in old.entries q) (is_at (nat_cmp cycle) q) row (vector_row_in new.entries q) v.frames (put.filled q) (joined-most (vector_row_in old.entries cycle) vector row v.frames made (all cycle)) (all q)

-- before there is one more, a row can be counted on
pub row-few : (o : Option Folded) (n : ℕ) → IfSome o (λ f. f.frames ≤ n) → n + 1 ≤ 9_223_372_036_854_775_808 → IfSome o (λ f. f.frames < 2 ^ 63)
row-few None n h few = h
row-few (Some f) n h few = omega (arith, h, few)
