-- The double cycles of a history, each with what comes before and after it.
use Rattle.std.proofs.Common.{◌≡◌, ◌⊎◌, ℕ, suc, ◌*◌, ◌/◌, ◌<◌, ◌≤◌, Some, [], ◌∷◌, ◌++◌, length, refl, ap, sym, ◌∙◌, subst, inl, inr, arith}
use Rattle.std.proofs.lemmas.List.{append_assoc}
use Rattle.fr_history.specs.History.{History, Record, record_at}
use Rattle.fr_history.proofs.Synced.{record_at-lt, record_of_cut}

-- ---- the parts of a history

-- a double cycle of a history, with what comes before and after it
pub record Part (h : History) (k : ℕ) : Type 0 where
  pub later : History
  pub earlier : History
  pub even : Record
  pub odd : Record
  pub parted : h ≡ later ++ odd ∷ even ∷ earlier
  pub counted : length earlier ≡ 2 * k

-- the first two records of a history
record Two (h : History) (k : ℕ) : Type 0 where
  earlier : History
  even : Record
  odd : Record
  is : h ≡ odd ∷ even ∷ earlier
  counted : length earlier ≡ 2 * k

two_of : (h : History) (k : ℕ) → length h ≡ suc (suc (2 * k)) → Two h k
two_of [] k counted = absurd (omega (arith, counted))
two_of (odd ∷ []) k counted = absurd (omega (arith, counted))
two_of (odd ∷ even ∷ earlier) k counted = record { earlier = earlier; even = even; odd = odd; is = refl; counted = omega (arith, counted) }

-- a part of a history of which they are the first two
first_two : (h : History) (k : ℕ) → length h ≡ suc (suc (2 * k)) → Part h k
first_two h k counted =
    let two = two_of h k counted in
    record { later = []; earlier = two.earlier; even = two.even; odd = two.odd; parted = two.is; counted = two.counted }

later_by : (r : Record) (h : History) (k : ℕ) → Part h k → Part (r ∷ h) k
later_by r h k part = record {
  later = r ∷ part.later;
  earlier = part.earlier;
  even = part.even;
  odd = part.odd;
  parted = ap (λ (t : History). r ∷ t) part.parted;
  counted = part.counted;
}

compares : (a b : ℕ) → b ≤ suc a → (b ≤ a) ⊎ (b ≡ suc a)
compares a b le = grind arith

pub part_at : (h : History) (k : ℕ) → suc (suc (2 * k)) ≤ length h → Part h k
part_at [] k more = absurd (omega (arith, more))
part_at (r ∷ h) k more = elim (compares (length h) (suc (suc (2 * k))) more) [
  | inl less ↦ later_by r h k (part_at h k less)
  | inr same ↦ first_two (r ∷ h) k (sym same)
]

-- ---- the records of a part

even_record : (h : History) (k : ℕ) (part : Part h k) → record_at h (2 * k) ≡ Some part.even
even_record h k part =
    let moved : h ≡ (part.later ++ part.odd ∷ []) ++ part.even ∷ part.earlier = part.parted ∙ sym (append_assoc part.later (part.odd ∷ []) (part.even ∷ part.earlier)) in
    ap (λ (t : History). record_at t (2 * k)) moved
    ∙ ap (record_at ((part.later ++ part.odd ∷ []) ++ part.even ∷ part.earlier)) (sym part.counted)
    ∙ record_of_cut (part.later ++ part.odd ∷ []) part.earlier part.even

odd_record : (h : History) (k : ℕ) (part : Part h k) → record_at h (suc (2 * k)) ≡ Some part.odd
odd_record h k part =
    ap (λ (t : History). record_at t (suc (2 * k))) part.parted
    ∙ ap (λ n. record_at (part.later ++ part.odd ∷ part.even ∷ part.earlier) (suc n)) (sym part.counted)
    ∙ record_of_cut part.later (part.even ∷ part.earlier) part.odd

-- a cycle is one of the two of a double cycle
halves : (n : ℕ) → (n ≡ 2 * (n / 2)) ⊎ (n ≡ suc (2 * (n / 2)))
halves n = grind arith

-- what holds of both records of each double cycle from one on holds of each record
pub each_record : (doubles : ℕ) (h : History) (double : ℕ) (P : ℕ → Record → Type 0) → length h ≡ 2 * doubles
    → ((k : ℕ) (part : Part h k) → double ≤ k → k < doubles → P (2 * k) part.even × P (suc (2 * k)) part.odd)
    → (cycle : ℕ) (r : Record) → 2 * double ≤ cycle → record_at h cycle ≡ Some r → P cycle r
each_record doubles h double P whole each cycle r from is =
    let less = record_at-lt h cycle r is in
    let k = cycle / 2 in
    elim (halves cycle) [
      | inl even ↦
          let part = part_at h k (omega (arith, less, whole, even)) in
          let both = each k part (omega (arith, from, even)) (omega (arith, less, whole, even)) in
          let found : Some r ≡ Some part.even = sym is ∙ ap (record_at h) even ∙ even_record h k part in
          let same : r ≡ part.even = cc in
          let At : ℕ → Type 0 = λ n. P n r in
          let Of : Record → Type 0 = λ s. P (2 * k) s in
          subst At (sym even) (subst Of (sym same) both.0)
      | inr odd ↦
          let part = part_at h k (omega (arith, less, whole, odd)) in
          let both = each k part (omega (arith, from, odd)) (omega (arith, less, whole, odd)) in
          let found : Some r ≡ Some part.odd = sym is ∙ ap (record_at h) odd ∙ odd_record h k part in
          let same : r ≡ part.odd = cc in
          let At : ℕ → Type 0 = λ n. P n r in
          let Of : Record → Type 0 = λ s. P (suc (2 * k)) s in
          subst At (sym odd) (subst Of (sym same) both.1)
    ]
