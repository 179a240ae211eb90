-- The numbers of a cluster as signed ones, and what the first two checks say of them.
use Rattle.std.proofs.Common.{◌≡◌, ℕ, ◌+◌, ◌*◌, ◌≤◌, true, ℤ, pos, negsuc, refl, ap, ◌∙◌, arith}
use Rattle.std.specs.Prelude.{◌+ℤ◌, ◌-ℤ◌, ◌*ℤ◌, ◌≤ℤ◌, nat_abs, nat_le}
use Rattle.std.proofs.lemmas.Int.{ints}
use Rattle.std.proofs.lemmas.Bool.Decides.{nat_tests}
use Rattle.std.proofs.Math.Nat.{mul-add}
use Rattle.fr_cluster.specs.Values.{Values, amount}
use Rattle.fr_cluster.specs.Sane.{IsSane}
use Rattle.fr_cluster.specs.declared.names.ParamName.TheVariants as name
use Rattle.fr_bound.specs.Bounds.{cycle_change, longest_micro, shortest_micro, y1_of}
use Rattle.fr_bound.specs.Checks.{holds_of}
use Rattle.fr_bound.proofs.Uncut.{uncut_lem}
use Rattle.fr_precision.specs.Rows.{longest_cycle, shortest_cycle}

-- microticks per cycle, damping, rate limit, change bound, the shortest and the longest microtick, y1, and the change
-- of a cycle
pub record Figures (n c ro w qm qp y1 j : ℤ) : Type 0 where
  pub n_from : pos 1 ≤ℤ n
  pub c_from : pos 0 ≤ℤ c
  pub ro_from : pos 0 ≤ℤ ro
  pub ro_to : ro ≤ℤ n
  pub w_from : pos 0 ≤ℤ w
  pub qm_from : pos 1 ≤ℤ qm
  pub order : qm ≤ℤ qp
  pub j_from : pos 0 ≤ℤ j
  pub j_is : j ≡ (n +ℤ ro) *ℤ w
  pub damps : (y1 +ℤ (pos 2 *ℤ j)) ≤ℤ (c *ℤ qm)
  pub limits : ((n *ℤ qp) -ℤ (n *ℤ qm)) ≤ℤ (ro *ℤ qm)

pub natural : (z : ℤ) → pos 0 ≤ℤ z → z ≡ pos (nat_abs z)
natural (pos n) from = refl
natural (negsuc n) from = absurd (omega (arith, ints))

-- a product of naturals as one of signed numbers
pub times_natural : (z : ℤ) (k : ℕ) → pos 0 ≤ℤ z → pos (nat_abs z * k) ≡ z *ℤ pos k
times_natural (pos n) k from = refl
times_natural (negsuc n) k from = absurd (omega (arith, ints))

pub change_is : (n ro w : ℤ) → pos 0 ≤ℤ n → pos 0 ≤ℤ ro → pos 0 ≤ℤ w → pos ((nat_abs n + nat_abs ro) * nat_abs w) ≡ (n +ℤ ro) *ℤ w
change_is (pos n) (pos ro) (pos w) a b c = refl
change_is (negsuc n) ro w a b c = absurd (omega (arith, ints))
change_is (pos n) (negsuc ro) w a b c = absurd (omega (arith, ints))
change_is (pos n) (pos ro) (negsuc w) a b c = absurd (omega (arith, ints))

-- the range of a drift is that of its bound on both sides
pub drift_range : (n q d least most : ℕ) → least + d ≡ q → most ≡ q + d → n * most ≡ n * least + 2 * (n * d)
drift_range n q d least most low high =
    let up : most ≡ least + (d + d) = omega arith in
    ap (λ k. n * k) up ∙ mul-add n least (d + d) ∙ ap (λ k. n * least + k) (mul-add n d d) ∙ last (n * least) (n * d)
  where
    last : (a b : ℕ) → a + (b + b) ≡ a + 2 * b
    last a b = omega arith

pub nat_le-true : (a b : ℕ) → nat_le a b ≡ true → a ≤ b
nat_le-true a b h = grind (arith, nat_tests)

limits_lem : (n ro : ℤ) (qm qp d : ℕ) → pos 0 ≤ℤ n → pos 0 ≤ℤ ro → nat_abs n * qp ≡ nat_abs n * qm + 2 * (nat_abs n * d) → 2 * (nat_abs n * d) ≤ nat_abs ro * qm
    → ((n *ℤ pos qp) -ℤ (n *ℤ pos qm)) ≤ℤ (ro *ℤ pos qm)
limits_lem n ro qm qp d from also wide fits =
    let a = times_natural n qp from in
    let b = times_natural n qm from in
    let c = times_natural ro qm also in
    last (nat_abs n * qp) (nat_abs n * qm) (nat_abs n * d) (nat_abs ro * qm) (n *ℤ pos qp) (n *ℤ pos qm) (ro *ℤ pos qm) a b c wide fits
  where
    last : (p q e r : ℕ) (x y z : ℤ) → pos p ≡ x → pos q ≡ y → pos r ≡ z → p ≡ q + 2 * e → 2 * e ≤ r → (x -ℤ y) ≤ℤ z
    last p q e r x y z a b c wide fits = omega (arith, ints)

damps_lem : (c : ℤ) (qm y1 j : ℕ) → pos 0 ≤ℤ c → y1 + 2 * j ≤ nat_abs c * qm → (pos y1 +ℤ (pos 2 *ℤ pos j)) ≤ℤ (c *ℤ pos qm)
damps_lem c qm y1 j from damps = last (nat_abs c * qm) y1 j (c *ℤ pos qm) (times_natural c qm from) damps
  where
    last : (p y1 j : ℕ) (x : ℤ) → pos p ≡ x → y1 + 2 * j ≤ p → (pos y1 +ℤ (pos 2 *ℤ pos j)) ≤ℤ x
    last p y1 j x is le = omega (arith, ints)

pub figures_of : (p : Values) → IsSane p → holds_of 1 p ≡ true → holds_of 2 p ≡ true
    → Figures p.micros p.damping p.rate_limit p.change_bound (pos (shortest_micro p)) (pos (longest_micro p)) (pos (y1_of p)) (pos (cycle_change p))
figures_of p sane damps limits =
    let uncut = uncut_lem p sane in
    let micros = sane.ranges name.pMicroPerCycle in
    let damping = sane.ranges name.pClusterDriftDamping in
    let rate = sane.ranges name.pRateCorrectionOut in
    let change = sane.ranges name.xChangeBound in
    let drift = sane.ranges name.xRateBound in
    let n_from : pos 0 ≤ℤ p.micros = omega (arith, ints, micros.0) in
    let c_from : pos 0 ≤ℤ p.damping = omega (arith, ints, damping.0) in
    let ro_from : pos 0 ≤ℤ p.rate_limit = omega (arith, ints, rate.0) in
    let w_from : pos 0 ≤ℤ p.change_bound = omega (arith, ints, change.0) in
    let d : ℕ = amount p name.xRateBound in
    let most : d ≤ 1500 = omega (arith, ints, drift.0, drift.1) in
    let below : shortest_micro p + d ≡ 1_000_000 = omega (arith, most) in
    record {
      n_from = omega (arith, ints, micros.0);
      c_from = c_from;
      ro_from = ro_from;
      ro_to = omega (arith, ints, uncut.cycle, n_from, ro_from);
      w_from = w_from;
      qm_from = omega (arith, ints, most);
      order = omega (arith, ints);
      j_from = omega (arith, ints);
      j_is = change_is p.micros p.rate_limit p.change_bound n_from ro_from w_from;
      damps = damps_lem p.damping (shortest_micro p) (y1_of p) (cycle_change p) c_from (nat_le-true _ _ damps);
      limits =
          limits_lem p.micros p.rate_limit (shortest_micro p) (longest_micro p) d n_from ro_from
          (drift_range (amount p name.pMicroPerCycle) 1_000_000 d (shortest_micro p) (longest_micro p) below refl)
          (nat_le-true _ _ limits);
    }

-- the shortest and the longest cycle
pub shortest_is : (p : Values) → IsSane p → pos (shortest_cycle p) ≡ p.micros *ℤ pos (shortest_micro p)
shortest_is p sane = let micros = sane.ranges name.pMicroPerCycle in times_natural p.micros (shortest_micro p) (omega (arith, ints, micros.0))

pub longest_is : (p : Values) → IsSane p → pos (longest_cycle p) ≡ p.micros *ℤ pos (longest_micro p)
longest_is p sane = let micros = sane.ranges name.pMicroPerCycle in times_natural p.micros (longest_micro p) (omega (arith, ints, micros.0))
