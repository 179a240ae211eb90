-- The double cycles of a list of cycles.
use Rattle.std.proofs.Common.{◌≡◌, ◌⊎◌, ℕ, suc, ◌*◌, ◌/◌, ◌<◌, ◌≤◌, ◌==◌, Bool, true, false, Some, [], ◌∷◌, ◌++◌, length, refl, ap, sym, ◌∙◌, subst, inl, inr, arith}
use Rattle.std.proofs.lemmas.List.{append_assoc, length-append, length-map}
use Rattle.std.specs.Option.{option_map}
use Rattle.fr_history.specs.History.{record_at}
use Rattle.fr_history.specs.Cycles.{Cycle, Cycles, cycle_at, told_of}
use Rattle.fr_runs.specs.Rounds.{IsDoubleOf}

-- ---- the record of a cycle

equal : (a b : ℕ) → a ≡ b → (a == b) ≡ true
equal a b is = grind arith

differ : (a b : ℕ) → b < a → (a == b) ≡ false
differ a b less = grind arith

cycle_here : (c : Cycle) (h : Cycles) → cycle_at (c ∷ h) (length h) ≡ Some c
unfolding cycle_at
cycle_here c h = rw (equal (length h) (length h) refl) refl

cycle_after : (c : Cycle) (h : Cycles) (n : ℕ) → n < length h → cycle_at (c ∷ h) n ≡ cycle_at h n
unfolding cycle_at
cycle_after c h n less = rw (differ (length h) n less) refl

-- the cycle that stands before so many others is that of their number
cycle_of_cut : (later earlier : Cycles) (c : Cycle) → cycle_at (later ++ c ∷ earlier) (length earlier) ≡ Some c
cycle_of_cut [] earlier c = cycle_here c earlier
cycle_of_cut (d ∷ later) earlier c =
    let long = length-append later (c ∷ earlier) in
    cycle_after d (later ++ c ∷ earlier) (length earlier) (omega (arith, long)) ∙ cycle_of_cut later earlier c

pub cycle_found : (h : Cycles) (n : ℕ) → n < length h → (c : Cycle) × (cycle_at h n ≡ Some c)
cycle_found [] n less = absurd (omega (arith, less))
cycle_found (c ∷ h) n less = elim (compares (length h) n less) [
  | inl below ↦ let rest = cycle_found h n below in (rest.0, cycle_after c h n below ∙ rest.1)
  | inr here ↦ (c, ap (cycle_at (c ∷ h)) here ∙ cycle_here c h)
] where
  compares : (a b : ℕ) → b < suc a → (b < a) ⊎ (b ≡ a)
  compares a b less = grind arith

pub cycle_within : (h : Cycles) (n : ℕ) (c : Cycle) → cycle_at h n ≡ Some c → n < length h
unfolding cycle_at
cycle_within [] n c is = absurd (cc)
cycle_within (d ∷ h) n c is = by_test (length h == n) refl (cycle_within h n c)
  where
    by_test : (b : Bool) → (length h == n) ≡ b → (cycle_at h n ≡ Some c → n < length h) → n < suc (length h)
    by_test true same rest = let e : length h ≡ n = grind arith in omega (arith, e)
    by_test false other rest =
        let moved : cycle_at (d ∷ h) n ≡ cycle_at h n = rw other refl in
        let below : n < length h = rest (sym moved ∙ is) in
        omega (arith, below)

-- what is told of a cycle is told of it in the history
pub told_at : (h : Cycles) (n : ℕ) → record_at (told_of h) n ≡ option_map (λ (c : Cycle). c.told) (cycle_at h n)
unfolding cycle_at record_at
told_at [] n = refl
told_at (c ∷ h) n = by_test (length h == n) refl (told_at h n)
  where
    long : length (told_of h) ≡ length h
    long = length-map h (λ (d : Cycle). d.told)

    by_test : (b : Bool) → (length h == n) ≡ b → record_at (told_of h) n ≡ option_map (λ (d : Cycle). d.told) (cycle_at h n)
        → record_at (told_of (c ∷ h)) n ≡ option_map (λ (d : Cycle). d.told) (cycle_at (c ∷ h) n)
    by_test true same rest = let told : (length (told_of h) == n) ≡ true = ap (λ m. m == n) long ∙ same in rw (same, told) refl
    by_test false other rest = let told : (length (told_of h) == n) ≡ false = ap (λ m. m == n) long ∙ other in rw (other, told) rest

-- ---- double cycles

pub record DoubleAt (h : Cycles) (k : ℕ) : Type 0 where
  pub earlier : Cycles
  pub even : Cycle
  pub odd : Cycle
  pub is : IsDoubleOf h k earlier even odd

first_two : (h : Cycles) (k : ℕ) → length h ≡ suc (suc (2 * k)) → DoubleAt h k
first_two [] k counted = absurd (omega (arith, counted))
first_two (odd ∷ []) k counted = absurd (omega (arith, counted))
first_two (odd ∷ even ∷ earlier) k counted = record {
  earlier = earlier;
  even = even;
  odd = odd;
  is = record { later = []; parted = refl; counted = omega (arith, counted) };
}

pub double_at : (h : Cycles) (k : ℕ) → suc (suc (2 * k)) ≤ length h → DoubleAt h k
double_at [] k more = absurd (omega (arith, more))
double_at (c ∷ h) k more = elim (compares (length h) (suc (suc (2 * k))) more) [
  | inl less ↦
      let rest = double_at h k less in
      record {
        earlier = rest.earlier;
        even = rest.even;
        odd = rest.odd;
        is = record { later = c ∷ rest.is.later; parted = ap (λ (t : Cycles). c ∷ t) rest.is.parted; counted = rest.is.counted };
      }
  | inr same ↦ first_two (c ∷ h) k (sym same)
] where
  compares : (a b : ℕ) → b ≤ suc a → (b ≤ a) ⊎ (b ≡ suc a)
  compares a b le = grind arith

pub even_is : (h : Cycles) (k : ℕ) (earlier : Cycles) (even odd : Cycle) → IsDoubleOf h k earlier even odd → cycle_at h (2 * k) ≡ Some even
even_is h k earlier even odd d =
    let moved : h ≡ (d.later ++ odd ∷ []) ++ even ∷ earlier = d.parted ∙ sym (append_assoc d.later (odd ∷ []) (even ∷ earlier)) in
    ap (λ (t : Cycles). cycle_at t (2 * k)) moved
    ∙ ap (cycle_at ((d.later ++ odd ∷ []) ++ even ∷ earlier)) (sym d.counted)
    ∙ cycle_of_cut (d.later ++ odd ∷ []) earlier even

pub odd_is : (h : Cycles) (k : ℕ) (earlier : Cycles) (even odd : Cycle) → IsDoubleOf h k earlier even odd → cycle_at h (suc (2 * k)) ≡ Some odd
odd_is h k earlier even odd d =
    ap (λ (t : Cycles). cycle_at t (suc (2 * k))) d.parted
    ∙ ap (λ n. cycle_at (d.later ++ odd ∷ even ∷ earlier) (suc n)) (sym d.counted)
    ∙ cycle_of_cut d.later (even ∷ earlier) odd

-- a cycle is one of the two of a double cycle
halves : (n : ℕ) → (n ≡ 2 * (n / 2)) ⊎ (n ≡ suc (2 * (n / 2)))
halves n = grind arith

-- what holds of both cycles of each double cycle from one on holds of each cycle
pub each_cycle : (h : Cycles) (double doubles : ℕ) (P : ℕ → Cycle → Type 0) → length h ≡ 2 * doubles
    → ((k : ℕ) (earlier : Cycles) (even odd : Cycle) → IsDoubleOf h k earlier even odd → double ≤ k → k < doubles → P (2 * k) even × P (suc (2 * k)) odd)
    → (cycle : ℕ) (c : Cycle) → 2 * double ≤ cycle → cycle_at h cycle ≡ Some c → P cycle c
each_cycle h double doubles P whole each cycle c from is =
    let less = cycle_within h cycle c is in
    let k = cycle / 2 in
    elim (halves cycle) [
      | inl even ↦
          let d = double_at h k (omega (arith, less, whole, even)) in
          let both = each k d.earlier d.even d.odd d.is (omega (arith, from, even)) (omega (arith, less, whole, even)) in
          let found : Some c ≡ Some d.even = sym is ∙ ap (cycle_at h) even ∙ even_is h k d.earlier d.even d.odd d.is in
          let same : c ≡ d.even = cc in
          let At : ℕ → Type 0 = λ n. P n c in
          let Of : Cycle → Type 0 = λ e. P (2 * k) e in
          subst At (sym even) (subst Of (sym same) both.0)
      | inr odd ↦
          let d = double_at h k (omega (arith, less, whole, odd)) in
          let both = each k d.earlier d.even d.odd d.is (omega (arith, from, odd)) (omega (arith, less, whole, odd)) in
          let found : Some c ≡ Some d.odd = sym is ∙ ap (cycle_at h) odd ∙ odd_is h k d.earlier d.even d.odd d.is in
          let same : c ≡ d.odd = cc in
          let At : ℕ → Type 0 = λ n. P n c in
          let Of : Cycle → Type 0 = λ e. P (suc (2 * k)) e in
          subst At (sym odd) (subst Of (sym same) both.1)
    ]
