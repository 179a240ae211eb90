-- The record of a cycle, and the first of a range of numbers that passes a test.
use Rattle.std.proofs.Common.{◌≡◌, ◌⊎◌, ℕ, zero, suc, ◌+◌, ◌<◌, ◌≤◌, ◌++◌, Bool, true, false, Some, None, IsSome, [], ◌∷◌, length, refl, ap, sym, ◌∙◌, inl, inr, arith, ◌==◌}
use Rattle.std.specs.Prelude.{find}
use Rattle.std.specs.List.{range_with_len}
use Rattle.std.proofs.lemmas.List.{length-append}
use Rattle.fr_history.specs.History.{History, IsRecordOf, Record, record_at}
use Rattle.fr_history.proofs.Greatest.{record_after, record_here}

-- ---- the record of a cycle

record_at-lt_by : (s : Record) (h : History) (n : ℕ) (r : Record) (b : Bool) → (length h == n) ≡ b → (record_at h n ≡ Some r → n < length h) → record_at (s ∷ h) n ≡ Some r → n < suc (length h)
unfolding record_at
record_at-lt_by s h n r true same after is = let e : length h ≡ n = grind arith in omega arith
record_at-lt_by s h n r false other after is =
    let moved : record_at (s ∷ h) n ≡ record_at h n = rw other refl in
    let below : n < length h = after (sym moved ∙ is) in
    omega arith

pub record_at-lt : (h : History) (n : ℕ) (r : Record) → record_at h n ≡ Some r → n < length h
unfolding record_at
record_at-lt [] n r is = absurd (cc)
record_at-lt (s ∷ h) n r is = record_at-lt_by s h n r (length h == n) refl (record_at-lt h n r) is

-- the record that stands before so many others is that of their number
pub record_of_cut : (later earlier : History) (r : Record) → record_at (later ++ r ∷ earlier) (length earlier) ≡ Some r
record_of_cut [] earlier r = record_here r earlier
record_of_cut (s ∷ later) earlier r =
    record_after s (later ++ r ∷ earlier) (length earlier) (let e : length (later ++ r ∷ earlier) ≡ length later + suc (length earlier) = length-append later (r ∷ earlier) in omega (arith, e))
    ∙ record_of_cut later earlier r

pub record_of_part : (h : History) (n : ℕ) (r : Record) → IsRecordOf h n r → record_at h n ≡ Some r
record_of_part h n r is = rw (is.parted, ← is.counted) (record_of_cut is.later is.earlier r)

cut_of_record_by : (s : Record) (h : History) (n : ℕ) (r : Record) (b : Bool) → (length h == n) ≡ b → (record_at h n ≡ Some r → IsRecordOf h n r) → record_at (s ∷ h) n ≡ Some r → IsRecordOf (s ∷ h) n r
unfolding record_at
cut_of_record_by s h n r true same after is =
    let e : length h ≡ n = grind arith in
    let here : record_at (s ∷ h) n ≡ Some s = rw same refl in
    let found : Some s ≡ Some r = sym here ∙ is in
    let one : s ≡ r = cc in
    record { later = []; earlier = h; parted = ap (λ (t : Record). t ∷ h) one; counted = e }
cut_of_record_by s h n r false other after is =
    let moved : record_at (s ∷ h) n ≡ record_at h n = rw other refl in
    let cut : IsRecordOf h n r = after (sym moved ∙ is) in
    record { later = s ∷ cut.later; earlier = cut.earlier; parted = ap (λ (t : History). s ∷ t) cut.parted; counted = cut.counted }

pub cut_of_record : (h : History) (n : ℕ) (r : Record) → record_at h n ≡ Some r → IsRecordOf h n r
unfolding record_at
cut_of_record [] n r is = absurd (cc)
cut_of_record (s ∷ h) n r is = cut_of_record_by s h n r (length h == n) refl (cut_of_record h n r) is

-- ---- the first of a range that passes a test

pub record IsFirstOf (test : ℕ → Bool) (from count k : ℕ) : Type 0 where
  pub from_below : from ≤ k
  pub within : k < from + count
  pub passes : test k ≡ true
  pub earlier : (j : ℕ) → from ≤ j → j < k → test j ≡ false

earlier_in : (test : ℕ → Bool) (from count k : ℕ) → test from ≡ false → IsFirstOf test (from + 1) count k → (j : ℕ) → (j ≡ from) ⊎ (from + 1 ≤ j) → j < k → test j ≡ false
earlier_in test from count k fails rest j (inl same) high = ap test same ∙ fails
earlier_in test from count k fails rest j (inr above) high = rest.earlier j above high

found_first_by : (test : ℕ → Bool) (from count k : ℕ) (b : Bool) → test from ≡ b → (find test (range_with_len (from + 1) count) ≡ Some k → IsFirstOf test (from + 1) count k) → find test (range_with_len from (suc count)) ≡ Some k → IsFirstOf test from (suc count) k
found_first_by test from count k true passes after is =
    let here : find test (range_with_len from (suc count)) ≡ Some from = rw passes refl in
    let found : Some from ≡ Some k = sym here ∙ is in
    let one : from ≡ k = cc in
    record { from_below = omega arith; within = omega arith; passes = ap test (sym one) ∙ passes; earlier = λ j low high. absurd (omega arith) }
found_first_by test from count k false fails after is =
    let moved : find test (range_with_len from (suc count)) ≡ find test (range_with_len (from + 1) count) = rw fails refl in
    let rest : IsFirstOf test (from + 1) count k = after (sym moved ∙ is) in
    record {
      from_below = omega (arith, rest.from_below);
      within = omega (arith, rest.within);
      passes = rest.passes;
      earlier = λ j low high. earlier_in test from count k fails rest j (grind arith) high;
    }

pub found_first : (test : ℕ → Bool) (from count k : ℕ) → find test (range_with_len from count) ≡ Some k → IsFirstOf test from count k
found_first test from zero k is = absurd (cc)
found_first test from (suc count) k is = found_first_by test from count k (test from) refl (found_first test (from + 1) count k) is

none_passes_by : (test : ℕ → Bool) (from count : ℕ) (b : Bool) → test from ≡ b → (find test (range_with_len (from + 1) count) ≡ None → (j : ℕ) → from + 1 ≤ j → j < from + 1 + count → test j ≡ false) →
    find test (range_with_len from (suc count)) ≡ None → (j : ℕ) → from ≤ j → j < from + suc count → (j ≡ from) ⊎ (from + 1 ≤ j) → test j ≡ false
none_passes_by test from count true passes after is j low high place =
    let here : find test (range_with_len from (suc count)) ≡ Some from = rw passes refl in
    let found : Some from ≡ None = sym here ∙ is in
    absurd (cc)
none_passes_by test from count false fails after is j low high (inl same) = ap test same ∙ fails
none_passes_by test from count false fails after is j low high (inr above) =
    let moved : find test (range_with_len from (suc count)) ≡ find test (range_with_len (from + 1) count) = rw fails refl in
    after (sym moved ∙ is) j above (omega arith)

pub none_passes : (test : ℕ → Bool) (from count : ℕ) → find test (range_with_len from count) ≡ None → (j : ℕ) → from ≤ j → j < from + count → test j ≡ false
none_passes test from zero is j low high = absurd (omega arith)
none_passes test from (suc count) is j low high =
    none_passes_by test from count (test from) refl (none_passes test (from + 1) count) is j low high (grind arith)

-- ---- each cycle of a history has a record

record_at-some_by : (s : Record) (h : History) (n : ℕ) → n < suc (length h) → (n < length h → IsSome (record_at h n)) → (n ≡ length h) ⊎ (n < length h) → IsSome (record_at (s ∷ h) n)
record_at-some_by s h n below after (inl same) = rw (same, record_here s h) refl
record_at-some_by s h n below after (inr less) = rw (record_after s h n less) (after less)

pub record_at-some : (h : History) (n : ℕ) → n < length h → IsSome (record_at h n)
record_at-some [] n below = absurd (omega arith)
record_at-some (s ∷ h) n below = record_at-some_by s h n below (record_at-some h n) (grind arith)
