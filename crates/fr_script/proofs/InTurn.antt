-- Where a passage stands among deeds in turn.
use Rattle.std.proofs.Common.{◌≡◌, ℕ, zero, suc, ◌+◌, ◌-◌, ◌<◌, ◌≤◌, true, false, cond, Bool, List, [], ◌∷◌, length, Some, None, ap, sym, subst, ◌∙◌, refl, arith, inl, inr, ◌⊎◌}
use Rattle.std.specs.Prelude.{slice_index_or}
use Rattle.std.specs.BTreeMap.{is_at}
use Rattle.std.proofs.lemmas.Bool.{cases_eq, cases_lt}
use Rattle.std.proofs.lemmas.Bool.Decides.{nat_tests}
use Rattle.std.proofs.lemmas.List.{get_or_default}
use Rattle.fr_script.specs.declared.deeds.Passage.{Passage}
use Rattle.fr_script.specs.declared.deed.Deed.{Deed}
use Rattle.fr_script.specs.declared.deed.Deed.TheVariants as deed
use Rattle.fr_script.specs.Deeds.{deed_in, passage_cmp}
use Rattle.fr_script.specs.Sayings.{is_before, AreAfter, AreBefore, AreInTurn}
use Rattle.fr_script.proofs.Tables.{is_same-at, same-passage}

further : (a b c : Passage) → is_before a b ≡ true → is_before b c ≡ true → is_before a c ≡ true
further a b c h k = grind (arith, nat_tests)

-- none stand before the first, and none from the end on
pub none-before : (es : List (Passage × Deed)) (p : Passage) → AreBefore es 0 p
none-before es p k d below there = absurd (omega (arith, below))

pub none-after : (es : List (Passage × Deed)) (p : Passage) → AreAfter es (length es) p
none-after es p k d from there = absurd (omega (arith, from, there))

-- those up to one that comes before it
pub all-before : (es : List (Passage × Deed)) (last : ℕ) (p : Passage) (e : Passage × Deed) → AreInTurn es → last < length es → is_before (slice_index_or es last e).0 p ≡ true → AreBefore es (last + 1) p
all-before es last p e turn within comes k d below there = by (cases_eq k last)
  where
    here : is_before (slice_index_or es last d).0 p ≡ true
    here = ap (λ (x : Passage × Deed). is_before x.0 p) (get_or_default es last d e within) ∙ comes

    by : (k ≡ last) ⊎ (k ≡ last → ⊥) → is_before (slice_index_or es k d).0 p ≡ true
    by (inl same) = ap (λ (i : ℕ). is_before (slice_index_or es i d).0 p) same ∙ here
    by (inr other) = further (slice_index_or es k d).0 (slice_index_or es last d).0 p (turn k last d (omega (arith, below, other)) within) here

pub all-before-end : (es : List (Passage × Deed)) (place : ℕ) (p : Passage) (e : Passage × Deed) → AreInTurn es → 0 < place → place ≤ length es → is_before (slice_index_or es (place - 1) e).0 p ≡ true → AreBefore es place p
all-before-end es place p e turn some within comes =
    let is : place - 1 + 1 ≡ place = omega (arith, some) in
    subst (λ (n : ℕ). AreBefore es n p) is (all-before es (place - 1) p e turn (omega (arith, some, within)) comes)

-- and those from one on that comes after it
pub all-after : (es : List (Passage × Deed)) (first : ℕ) (p : Passage) (e : Passage × Deed) → AreInTurn es → first < length es → is_before p (slice_index_or es first e).0 ≡ true → AreAfter es first p
all-after es first p e turn within comes k d from there = by (cases_eq k first)
  where
    here : is_before p (slice_index_or es first d).0 ≡ true
    here = ap (λ (x : Passage × Deed). is_before p x.0) (get_or_default es first d e within) ∙ comes

    by : (k ≡ first) ⊎ (k ≡ first → ⊥) → is_before p (slice_index_or es k d).0 ≡ true
    by (inl same) = ap (λ (i : ℕ). is_before p (slice_index_or es i d).0) same ∙ here
    by (inr other) = further p (slice_index_or es first d).0 (slice_index_or es k d).0 here (turn first k d (omega (arith, from, other)) there)

before-other : (a q : Passage) → is_before a q ≡ true → is_at (passage_cmp q) a ≡ false
before-other a q h = sym (is_same-at q a) ∙ grind (arith, nat_tests)

after-other : (a q : Passage) → is_before q a ≡ true → is_at (passage_cmp q) a ≡ false
after-other a q h = sym (is_same-at q a) ∙ grind (arith, nat_tests)

same-here : (a q : Passage) → is_before a q ≡ false → is_before q a ≡ false → is_at (passage_cmp q) a ≡ true
same-here a q h k = sym (is_same-at q a) ∙ grind (arith, nat_tests)

-- what is looked up where no other stands before it
pub lookup-first : (q : Passage) (es : List (Passage × Deed)) (m : ℕ) (e : Passage × Deed) → m < length es → ((k : ℕ) → k < m → is_at (passage_cmp q) (slice_index_or es k e).0 ≡ false)
    → is_at (passage_cmp q) (slice_index_or es m e).0 ≡ true → deed_in es q ≡ Some (slice_index_or es m e).1
unfolding deed_in
lookup-first q [] m e within others here = absurd (omega (arith, within))
lookup-first q (x ∷ es) zero e within others here = ap (λ (k : Bool). cond k (Some x.1) (deed_in es q)) here
lookup-first q (x ∷ es) (suc m) e within others here =
    ap (λ (k : Bool). cond k (Some x.1) (deed_in es q)) (others 0 (omega arith))
    ∙ lookup-first q es m e (omega (arith, within)) (λ k below. others (suc k) (omega (arith, below))) here

pub lookup-nowhere : (q : Passage) (es : List (Passage × Deed)) (e : Passage × Deed) → ((k : ℕ) → k < length es → is_at (passage_cmp q) (slice_index_or es k e).0 ≡ false) → deed_in es q ≡ None
unfolding deed_in
lookup-nowhere q [] e others = refl
lookup-nowhere q (x ∷ es) e others =
    ap (λ (k : Bool). cond k (Some x.1) (deed_in es q)) (others 0 (omega arith)) ∙ lookup-nowhere q es e (λ k below. others (suc k) (omega (arith, below)))

-- a passage that is neither before nor after the one at a place stands there
pub found-there : (q : Passage) (es : List (Passage × Deed)) (m : ℕ) (e : Passage × Deed) → AreInTurn es → m < length es → is_before (slice_index_or es m e).0 q ≡ false → is_before q (slice_index_or es m e).0 ≡ false
    → deed_in es q ≡ Some (slice_index_or es m e).1
found-there q es m e turn within low high =
    let here = same-here (slice_index_or es m e).0 q low high in
    let same : q ≡ (slice_index_or es m e).0 = same-passage q (slice_index_or es m e).0 here in
    lookup-first q es m e within
    (λ k below. before-other (slice_index_or es k e).0 q (ap (λ (x : Passage). is_before (slice_index_or es k e).0 x) same ∙ turn k m e below within)) here

-- and stands nowhere where all are before it or after it
pub found-nowhere : (q : Passage) (es : List (Passage × Deed)) (low high : ℕ) → high ≤ low → AreBefore es low q → AreAfter es high q → deed_in es q ≡ None
found-nowhere q es low high cross before after = lookup-nowhere q es e (λ k there. by k there (cases_lt k low))
  where
    e : Passage × Deed
    e = (q, deed.Lose)

    by : (k : ℕ) → k < length es → (k < low) ⊎ (low ≤ k) → is_at (passage_cmp q) (slice_index_or es k e).0 ≡ false
    by k there (inl below) = before-other (slice_index_or es k e).0 q (before k e below there)
    by k there (inr from) = after-other (slice_index_or es k e).0 q (after k e (omega (arith, from, cross)) there)
