-- The first of four checks that fails, by their numbers from a base on: which of them hold, and what is told of one that fails.
use Rattle.std.proofs.Common.{◌≡◌, ◌∙◌, ℕ, zero, suc, ◌+◌, ◌-◌, ◌<◌, ◌≤◌, ◌⊎◌, inl, inr, Bool, true, false, Option, Some, None, refl, ap, sym, arith}
use Rattle.std.specs.Prelude.{if◌then◌else◌}
use Rattle.std.specs.Option.{option_or}
use Rattle.std.proofs.lemmas.Bool.{cases_eq}
use Rattle.fr_coverage.specs.First.{first_below}
use Rattle.fr_coverage.specs.declared.gap.Gap.{Gap}
use Rattle.fr_coverage.proofs.First.{below-found, below-skip, below-zero}

-- the check after k others
abbrev pub check_at : ℕ → (ℕ → Bool) → (ℕ → Gap) → ℕ → Option Gap
check_at base holds failed k = if holds (k + base) then None else Some (failed (k + base))

-- the check of a number fails, and those before it hold
pub record FailsFirst (base : ℕ) (holds : ℕ → Bool) (number : ℕ) : Type 0 where
  pub from : base ≤ number
  pub to : number < base + 4
  pub fails : holds number ≡ false
  pub earlier : (k : ℕ) → base ≤ k → k < number → holds k ≡ true

or_none : (a b : Option Gap) → option_or a b ≡ None → (a ≡ None) × (b ≡ None)
or_none None b none = (refl, none)
or_none (Some gap) b none = absurd (cc)

below_none : (what : ℕ → Option Gap) (n k : ℕ) → first_below what n ≡ None → k < n → what k ≡ None
unfolding first_below
below_none what zero k none less = absurd (omega (arith, less))
below_none what (suc n) k none less =
    let parts = or_none (first_below what n) (what n) none in
    by (cases_eq k n) parts.1 (λ below. below_none what n k parts.0 below)
  where
    by : (k ≡ n) ⊎ (k ≡ n → ⊥) → what n ≡ None → (k < n → what k ≡ None) → what k ≡ None
    by (inl same) last before = ap what same ∙ last
    by (inr other) last before = before (omega arith)

some_is : (x y : Gap) → Some x ≡ Some y → x ≡ y
some_is x y is = cc

module _ (base : ℕ) (holds : ℕ → Bool) (failed : ℕ → Gap) where
  check_holds : (k : ℕ) → holds (k + base) ≡ true → check_at base holds failed k ≡ None
  check_holds k is = ap (λ (b : Bool). if b then None else Some (failed (k + base))) is

  check_fails : (k : ℕ) → holds (k + base) ≡ false → check_at base holds failed k ≡ Some (failed (k + base))
  check_fails k is = ap (λ (b : Bool). if b then None else Some (failed (k + base))) is

  -- where all hold none is found
  pub none_fails : ((number : ℕ) → base ≤ number → number < base + 4 → holds number ≡ true) → first_below (check_at base holds failed) 4 ≡ None
  none_fails hold =
      below-skip (check_at base holds failed) 0 4 (below-zero (check_at base holds failed)) (omega arith)
      (λ k low high. check_holds k (hold (k + base) (omega arith) (omega (arith, high))))

  -- where one fails the first that does is found
  pub first_fails : (number : ℕ) → FailsFirst base holds number → first_below (check_at base holds failed) 4 ≡ Some (failed number)
  first_fails number first =
      let from = first.from in
      let k : ℕ = number - base in
      let e : number ≡ k + base = omega (arith, from) in
      let what : ℕ → Option Gap = check_at base holds failed in
      let before : first_below what k ≡ None =
      below-skip what 0 k (below-zero what) (omega arith) (λ j low high. check_holds j (first.earlier (j + base) (omega arith) (omega (arith, high, e)))) in
      let fails : holds (k + base) ≡ false = ap holds (sym e) ∙ first.fails in
      below-found what k 4 (failed (k + base)) before (check_fails k fails) (let most = first.to in omega (arith, most, e)) ∙ ap (λ (n : ℕ). Some (failed n)) (sym e)

  holds_at : (k : ℕ) (b : Bool) → holds (k + base) ≡ b → check_at base holds failed k ≡ None → holds (k + base) ≡ true
  holds_at k true is none = is
  holds_at k false is none = let e : Some (failed (k + base)) ≡ None = sym (check_fails k is) ∙ none in absurd (cc)

  -- where none is found each of them holds
  pub holds_below : (n number : ℕ) → first_below (check_at base holds failed) n ≡ None → base ≤ number → number < n + base → holds number ≡ true
  holds_below n number none from less =
      let k : ℕ = number - base in
      let e : number ≡ k + base = omega (arith, from) in
      ap holds e ∙ holds_at k (holds (k + base)) refl (below_none (check_at base holds failed) n k none (omega (arith, e, less)))

  -- where one is found it fails, and those before it hold
  pub found_failing : (n : ℕ) (gap : Gap) → n ≤ 4 → first_below (check_at base holds failed) n ≡ Some gap → (number : ℕ) × (FailsFirst base holds number × (gap ≡ failed number))
  unfolding first_below
  found_failing zero gap most is = absurd (cc)
  found_failing (suc n) gap most is =
      by (first_below (check_at base holds failed) n) (holds (n + base)) refl refl (found_failing n gap (omega (arith, most)))
    where
      by : (before : Option Gap) (b : Bool) → first_below (check_at base holds failed) n ≡ before → holds (n + base) ≡ b
          → (first_below (check_at base holds failed) n ≡ Some gap → (number : ℕ) × (FailsFirst base holds number × (gap ≡ failed number)))
          → (number : ℕ) × (FailsFirst base holds number × (gap ≡ failed number))
      by (Some other) b earlier here found =
          let same : Some other ≡ Some gap = sym (ap (λ (o : Option Gap). option_or o (check_at base holds failed n)) earlier) ∙ is in
          found (earlier ∙ same)
      by None true earlier here found =
          let same : check_at base holds failed n ≡ Some gap = sym (ap (λ (o : Option Gap). option_or o (check_at base holds failed n)) earlier) ∙ is in
          let none : None ≡ Some gap = sym (check_holds n here) ∙ same in
          absurd (cc)
      by None false earlier here found =
          let same : check_at base holds failed n ≡ Some gap = sym (ap (λ (o : Option Gap). option_or o (check_at base holds failed n)) earlier) ∙ is in
          let told : gap ≡ failed (n + base) = some_is gap (failed (n + base)) (sym same ∙ check_fails n here) in
          (n + base, (record { from = omega arith; to = omega (arith, most); fails = here; earlier = λ k from less. holds_below n k earlier from less }, told))
