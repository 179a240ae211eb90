-- In how many double cycles in a row a node lacks values, counted back from the last.
use Rattle.std.proofs.Common.{◌≡◌, ℕ, zero, suc, ◌-◌, ◌<◌, ◌≤◌, Bool, true, false, ap, ◌∙◌, arith, if◌then◌else◌}
use Rattle.std.specs.Prelude.{nat_le}
use Rattle.std.proofs.lemmas.Bool.Decides.{nat_tests}
use Rattle.fr_cluster.specs.declared.nodes.NodeSpec.{NodeSpec}
use Rattle.fr_traffic.specs.Traffic.{lacking_for, lacks_values, Traffic}

abbrev unit : Bool → ℕ
unit c = if c then 1 else 0

-- as many as there are at most
lacking_fits : (t : Traffic) (b : NodeSpec) (k : ℕ) → lacking_for t b k ≤ suc k
unfolding lacking_for
lacking_fits t b zero = by (lacks_values t 0 b)
  where
    by : (c : Bool) → (if c then 1 else 0) ≤ 1
    by true = omega arith
    by false = omega arith
lacking_fits t b (suc k) = by (lacks_values t (suc k) b) (lacking_fits t b k)
  where
    by : (c : Bool) → lacking_for t b k ≤ suc k → (if c then suc (lacking_for t b k) else 0) ≤ suc (suc k)
    by true le = omega (arith, le)
    by false le = omega arith

-- one more where it lacks values that far back, and no more where it does not
pub lacking_more : (t : Traffic) (b : NodeSpec) (k back : ℕ) → back ≤ k → back ≤ lacking_for t b k → lacks_values t (k - back) b ≡ true → suc back ≤ lacking_for t b k
unfolding lacking_for
lacking_more t b zero zero short so_far lacks = let e : unit (lacks_values t 0 b) ≡ 1 = ap unit lacks in omega (arith, e)
lacking_more t b zero (suc back) short so_far lacks = absurd (omega (arith, short))
lacking_more t b (suc k) zero short so_far lacks =
    let whole : suc k ≡ suc k - 0 = omega arith in
    let e : (if lacks_values t (suc k) b then suc (lacking_for t b k) else 0) ≡ suc (lacking_for t b k) = ap (λ (c : Bool). if c then suc (lacking_for t b k) else 0) (ap (λ (n : ℕ). lacks_values t n b) whole ∙ lacks) in
    omega (arith, e)
lacking_more t b (suc k) (suc back) short so_far lacks =
    by (lacks_values t (suc k) b) so_far (λ le. lacking_more t b k back (omega (arith, short)) le (ap (λ (n : ℕ). lacks_values t n b) less ∙ lacks))
  where
    less : k - back ≡ suc k - suc back
    less = omega arith

    by : (c : Bool) → suc back ≤ (if c then suc (lacking_for t b k) else 0) → (back ≤ lacking_for t b k → suc back ≤ lacking_for t b k) → suc (suc back) ≤ (if c then suc (lacking_for t b k) else 0)
    by true le more = let further = more (omega (arith, le)) in omega (arith, further)
    by false le more = absurd (omega (arith, le))

pub lacking_stops : (t : Traffic) (b : NodeSpec) (k back : ℕ) → back ≤ k → lacks_values t (k - back) b ≡ false → lacking_for t b k ≤ back
unfolding lacking_for
lacking_stops t b zero zero short hears = let e : unit (lacks_values t 0 b) ≡ 0 = ap unit hears in omega (arith, e)
lacking_stops t b zero (suc back) short hears = absurd (omega (arith, short))
lacking_stops t b (suc k) zero short hears =
    let whole : suc k ≡ suc k - 0 = omega arith in
    let e : (if lacks_values t (suc k) b then suc (lacking_for t b k) else 0) ≡ 0 = ap (λ (c : Bool). if c then suc (lacking_for t b k) else 0) (ap (λ (n : ℕ). lacks_values t n b) whole ∙ hears) in
    omega (arith, e)
lacking_stops t b (suc k) (suc back) short hears =
    by (lacks_values t (suc k) b) (lacking_stops t b k back (omega (arith, short)) (ap (λ (n : ℕ). lacks_values t n b) less ∙ hears))
  where
    less : k - back ≡ suc k - suc back
    less = omega arith

    by : (c : Bool) → lacking_for t b k ≤ back → (if c then suc (lacking_for t b k) else 0) ≤ suc back
    by true le = omega (arith, le)
    by false le = omega arith

pub too_few : (t : Traffic) (b : NodeSpec) (k count : ℕ) → suc k < count → false ≡ nat_le count (lacking_for t b k)
too_few t b k count less =
    let fits = lacking_fits t b k in
    below count (lacking_for t b k) (omega (arith, fits, less))
  where
    below : (n m : ℕ) → m < n → false ≡ nat_le n m
    below n m less = grind (arith, nat_tests)

pub fewer_than : (t : Traffic) (b : NodeSpec) (k back count : ℕ) → back ≤ k → back < count → lacks_values t (k - back) b ≡ false → false ≡ nat_le count (lacking_for t b k)
fewer_than t b k back count short less hears =
    let stops = lacking_stops t b k back short hears in
    below count (lacking_for t b k) (omega (arith, stops, less))
  where
    below : (n m : ℕ) → m < n → false ≡ nat_le n m
    below n m less = grind (arith, nat_tests)
