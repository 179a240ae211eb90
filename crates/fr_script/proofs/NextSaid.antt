-- The next deed of a pair among deeds in turn.
use Rattle.std.proofs.Common.{◌≡◌, ℕ, ◌+◌, ◌<◌, ◌≤◌, true, false, List, length, Some, None, ap, sym, ◌∙◌, refl, arith, inl, inr, ◌⊎◌}
use Rattle.std.specs.Prelude.{IsSome, slice_index_or}
use Rattle.std.specs.BTreeMap.{is_at}
use Rattle.std.proofs.lemmas.Bool.{cases_eq, cases_lt}
use Rattle.std.proofs.lemmas.Bool.Decides.{nat_tests}
use Rattle.std.proofs.lemmas.List.{get_or_default}
use Rattle.fr_script.specs.declared.deeds.Passage.{Passage}
use Rattle.fr_script.specs.declared.deed.Deed.{Deed}
use Rattle.fr_script.specs.declared.deed.Deed.TheVariants as deed
use Rattle.fr_script.specs.Deeds.{deed_in, passage_cmp, passage_of, IsNextCycle}
use Rattle.fr_script.specs.Sayings.{is_before, is_later, AreBefore, AreInTurn}
use Rattle.fr_script.proofs.InTurn.{lookup-first, lookup-nowhere}
use Rattle.fr_script.proofs.Tables.{is_same-at}

-- no deed before a place is a later one of the pair of a passage
abbrev pub NoneLater : List (Passage × Deed) → ℕ → Passage → Type 0
NoneLater es place first = (k : ℕ) (d : Passage × Deed) → k < place → k < length es → is_later first (slice_index_or es k d).0 ≡ false

before-not-later : (a first : Passage) → is_before a first ≡ true → is_later first a ≡ false
before-not-later a first h = grind (arith, nat_tests)

pub later-init : (es : List (Passage × Deed)) (place : ℕ) (first : Passage) → AreBefore es place first → NoneLater es place first
later-init es place first before k d below there = before-not-later (slice_index_or es k d).0 first (before k d below there)

pub later-more : (es : List (Passage × Deed)) (place : ℕ) (first : Passage) (e : Passage × Deed) → place < length es → NoneLater es place first → is_later first (slice_index_or es place e).0 ≡ false → NoneLater es (place + 1) first
later-more es place first e within none here k d below there = by (cases_eq k place)
  where
    by : (k ≡ place) ⊎ (k ≡ place → ⊥) → is_later first (slice_index_or es k d).0 ≡ false
    by (inl same) = ap (λ (i : ℕ). is_later first (slice_index_or es i d).0) same ∙ ap (λ (x : Passage × Deed). is_later first x.0) (get_or_default es place d e within) ∙ here
    by (inr other) = none k d (omega (arith, below, other)) there

-- where a passage of the pair from its cycle on does not stand
not-later : (first a : Passage) (c : ℕ) → is_later first a ≡ false → first.cycle ≤ c → is_at (passage_cmp (passage_of first.sender first.receiver c)) a ≡ false
not-later first a c h low = sym (is_same-at (passage_of first.sender first.receiver c) a) ∙ grind (arith, nat_tests)

too-late : (first a : Passage) (c : ℕ) → c < a.cycle → is_at (passage_cmp (passage_of first.sender first.receiver c)) a ≡ false
too-late first a c h = sym (is_same-at (passage_of first.sender first.receiver c) a) ∙ grind (arith, nat_tests)

from-turn : (a b : Passage) → is_before a b ≡ true → a.cycle ≤ b.cycle
from-turn a b h = grind (arith, nat_tests)

-- no deed of the pair comes before the cycle of a place before which none is later
quiet-before : (es : List (Passage × Deed)) (place : ℕ) (first : Passage) (e : Passage × Deed) (c : ℕ) → AreInTurn es → place < length es → NoneLater es place first → first.cycle ≤ c → c < (slice_index_or es place e).0.cycle
    → deed_in es (passage_of first.sender first.receiver c) ≡ None
quiet-before es place first e c turn within none low high =
    lookup-nowhere (passage_of first.sender first.receiver c) es e (λ k there. by k there (cases_lt k place))
  where
    from : (k : ℕ) → k < length es → (k ≡ place) ⊎ (k ≡ place → ⊥) → place ≤ k → c < (slice_index_or es k e).0.cycle
    from k there (inl same) over = rw same high
    from k there (inr other) over =
        let rising = from-turn (slice_index_or es place e).0 (slice_index_or es k e).0 (turn place k e (omega (arith, other, over)) there) in omega (arith, rising, high)

    by : (k : ℕ) → k < length es → (k < place) ⊎ (place ≤ k) → is_at (passage_cmp (passage_of first.sender first.receiver c)) (slice_index_or es k e).0 ≡ false
    by k there (inl below) = not-later first (slice_index_or es k e).0 c (none k e below there) low
    by k there (inr over) = too-late first (slice_index_or es k e).0 c (from k there (cases_eq k place) over)

-- the place is of the end or later
pub later-over : (es : List (Passage × Deed)) (place : ℕ) (first : Passage) (e : Passage × Deed) (end : ℕ) → AreInTurn es → place < length es → NoneLater es place first → first.cycle ≤ end → end ≤ (slice_index_or es place e).0.cycle
    → IsNextCycle (λ c. deed_in es (passage_of first.sender first.receiver c) ≡ None) (λ c. IsSome (deed_in es (passage_of first.sender first.receiver c))) first.cycle end end
later-over es place first e end turn within none forward over = record {
  from = forward;
  to = omega arith;
  quiet = λ c low high. quiet-before es place first e c turn within none low (omega (arith, high, over));
  stands = λ early. absurd (omega (arith, early));
}

-- the end of the deeds
pub later-end : (es : List (Passage × Deed)) (place : ℕ) (first : Passage) (end : ℕ) → length es ≤ place → NoneLater es place first → first.cycle ≤ end
    → IsNextCycle (λ c. deed_in es (passage_of first.sender first.receiver c) ≡ None) (λ c. IsSome (deed_in es (passage_of first.sender first.receiver c))) first.cycle end end
later-end es place first end all none forward = record {
  from = forward;
  to = omega arith;
  quiet = λ c low high.
      lookup-nowhere (passage_of first.sender first.receiver c) es (first, deed.Lose)
      (λ k there. not-later first (slice_index_or es k (first, deed.Lose)).0 c (none k (first, deed.Lose) (omega (arith, all, there)) there) low);
  stands = λ early. absurd (omega (arith, early));
}

later-cycle : (first a : Passage) → is_later first a ≡ true → first.cycle ≤ a.cycle
later-cycle first a h = grind (arith, nat_tests)

later-here : (first a : Passage) → is_later first a ≡ true → is_at (passage_cmp (passage_of first.sender first.receiver a.cycle)) a ≡ true
later-here first a h = sym (is_same-at (passage_of first.sender first.receiver a.cycle) a) ∙ grind (arith, nat_tests)

-- a later one stands at the place
pub later-found : (es : List (Passage × Deed)) (place : ℕ) (first : Passage) (e : Passage × Deed) (end : ℕ) → AreInTurn es → place < length es → NoneLater es place first → is_later first (slice_index_or es place e).0 ≡ true
    → (slice_index_or es place e).0.cycle < end
    → IsNextCycle (λ c. deed_in es (passage_of first.sender first.receiver c) ≡ None) (λ c. IsSome (deed_in es (passage_of first.sender first.receiver c))) first.cycle end (slice_index_or es place e).0.cycle
later-found es place first e end turn within none later early = record {
  from = low;
  to = omega (arith, early);
  quiet = λ c low high. quiet-before es place first e c turn within none low high;
  stands = λ before. rw there refl;
}
  where
    low : first.cycle ≤ (slice_index_or es place e).0.cycle
    low = later-cycle first (slice_index_or es place e).0 later

    there : deed_in es (passage_of first.sender first.receiver (slice_index_or es place e).0.cycle) ≡ Some (slice_index_or es place e).1
    there =
        lookup-first (passage_of first.sender first.receiver (slice_index_or es place e).0.cycle) es place e within
        (λ k below. not-later first (slice_index_or es k e).0 (slice_index_or es place e).0.cycle (none k e below (omega (arith, below, within))) low)
        (later-here first (slice_index_or es place e).0 later)
