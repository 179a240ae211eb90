-- The numbers of a cluster as signed ones.
use Rattle.std.proofs.Common.{◌≡◌, ℕ, suc, ◌+◌, ◌*◌, ◌≤◌, ℤ, pos, negsuc, refl, ap, ◌∙◌, arith}
use Rattle.std.specs.Prelude.{◌+ℤ◌, ◌-ℤ◌, ◌*ℤ◌, ◌≤ℤ◌, nat_abs}
use Rattle.std.proofs.lemmas.Int.{ints}
use Rattle.std.proofs.Math.Nat.{suc-mul}
use Rattle.fr_cluster.specs.Values.{Values, amount}
use Rattle.fr_cluster.specs.Sane.{IsSane}
use Rattle.fr_cluster.specs.declared.names.ParamName.TheVariants as name
use Rattle.fr_bound.specs.Bounds.{cycle_change, longest_micro, shortest_micro}
use Rattle.fr_bound.proofs.Uncut.{uncut_lem}
use Rattle.fr_precision.proofs.Figures.{change_is, drift_range, times_natural}
use Rattle.fr_bound.specs.SharpBounds.{wide_change}
use Rattle.fr_bound.specs.SharpChecks.{RateSuffices}

-- microticks per cycle, damping, rate limit, offset limit, change bound, the shortest and the longest microtick, the change of
-- a cycle and the wide one
pub record Signed (n c ro oo w qm qp j wide : ℤ) : Type 0 where
  pub n_from : pos 1 ≤ℤ n
  pub c_from : pos 0 ≤ℤ c
  pub ro_from : pos 0 ≤ℤ ro
  pub ro_to : ro ≤ℤ n
  pub oo_from : pos 0 ≤ℤ oo
  pub w_from : pos 0 ≤ℤ w
  pub qm_from : pos 1 ≤ℤ qm
  pub order : qm ≤ℤ qp
  pub j_from : pos 0 ≤ℤ j
  pub j_is : j ≡ (n +ℤ ro) *ℤ w
  pub wide_is : wide ≡ (((n +ℤ ro) +ℤ oo) *ℤ w) +ℤ w

abbrev pub SignedOf : Values → Type 0
SignedOf p =
    Signed p.micros p.damping p.rate_limit p.offset_limit p.change_bound (pos (shortest_micro p)) (pos (longest_micro p)) (pos (cycle_change p)) (pos (wide_change p))

pub one_more : (a w : ℕ) → (a + 1) * w ≡ a * w + w
one_more a w = let next : a + 1 ≡ suc a = omega arith in ap (λ (k : ℕ). k * w) next ∙ suc-mul a w

wide_lem : (n ro oo w : ℤ) → pos 0 ≤ℤ n → pos 0 ≤ℤ ro → pos 0 ≤ℤ oo → pos 0 ≤ℤ w
    → pos ((nat_abs n + nat_abs ro + nat_abs oo + 1) * nat_abs w) ≡ (((n +ℤ ro) +ℤ oo) *ℤ w) +ℤ w
wide_lem (pos n) (pos ro) (pos oo) (pos w) a b c d = ap pos (one_more (n + ro + oo) w)
wide_lem (negsuc n) ro oo w a b c d = absurd (omega (arith, ints))
wide_lem (pos n) (negsuc ro) oo w a b c d = absurd (omega (arith, ints))
wide_lem (pos n) (pos ro) (negsuc oo) w a b c d = absurd (omega (arith, ints))
wide_lem (pos n) (pos ro) (pos oo) (negsuc w) a b c d = absurd (omega (arith, ints))

pub signed_of : (p : Values) → IsSane p → SignedOf p
signed_of p sane =
    let uncut = uncut_lem p sane in
    let micros = sane.ranges name.pMicroPerCycle in
    let damping = sane.ranges name.pClusterDriftDamping in
    let rate = sane.ranges name.pRateCorrectionOut in
    let offset = sane.ranges name.pOffsetCorrectionOut in
    let change = sane.ranges name.xChangeBound in
    let drift = sane.ranges name.xRateBound in
    let n_from : pos 0 ≤ℤ p.micros = omega (arith, ints, micros.0) in
    let ro_from : pos 0 ≤ℤ p.rate_limit = omega (arith, ints, rate.0) in
    let oo_from : pos 0 ≤ℤ p.offset_limit = omega (arith, ints, offset.0) in
    let w_from : pos 0 ≤ℤ p.change_bound = omega (arith, ints, change.0) in
    let d : ℕ = amount p name.xRateBound in
    let most : d ≤ 1500 = omega (arith, ints, drift.0, drift.1) in
    record {
      n_from = omega (arith, ints, micros.0);
      c_from = omega (arith, ints, damping.0);
      ro_from = ro_from;
      ro_to = omega (arith, ints, uncut.cycle, n_from, ro_from);
      oo_from = oo_from;
      w_from = w_from;
      qm_from = omega (arith, ints, most);
      order = omega (arith, ints);
      j_from = omega (arith, ints);
      j_is = change_is p.micros p.rate_limit p.change_bound n_from ro_from w_from;
      wide_is = wide_lem p.micros p.rate_limit p.offset_limit p.change_bound n_from ro_from oo_from w_from;
    }

room_lem : (n ro beyond : ℤ) (qm qp d : ℕ) → pos 0 ≤ℤ n → pos 0 ≤ℤ ro → nat_abs n * qp ≡ nat_abs n * qm + 2 * (nat_abs n * d)
    → (pos (2 * (nat_abs n * d)) +ℤ beyond) ≤ℤ pos (nat_abs ro * qm) → (((n *ℤ pos qp) -ℤ (n *ℤ pos qm)) +ℤ beyond) ≤ℤ (ro *ℤ pos qm)
room_lem n ro beyond qm qp d from also wide fits =
    last (nat_abs n * qp) (nat_abs n * qm) (nat_abs n * d) (nat_abs ro * qm) (n *ℤ pos qp) (n *ℤ pos qm) (ro *ℤ pos qm) beyond
    (times_natural n qp from) (times_natural n qm from) (times_natural ro qm also) wide fits
  where
    last : (p q e r : ℕ) (x y z beyond : ℤ) → pos p ≡ x → pos q ≡ y → pos r ≡ z → p ≡ q + 2 * e → (pos (2 * e) +ℤ beyond) ≤ℤ pos r → ((x -ℤ y) +ℤ beyond) ≤ℤ z
    last p q e r x y z beyond a b c wide fits = omega (arith, ints)

-- the rate limit reaches from the one end of the range of lengths to so far beyond the other
pub room_of : (p : Values) (beyond : ℤ) → IsSane p → RateSuffices p beyond
    → (((p.micros *ℤ pos (longest_micro p)) -ℤ (p.micros *ℤ pos (shortest_micro p))) +ℤ beyond) ≤ℤ (p.rate_limit *ℤ pos (shortest_micro p))
room_of p beyond sane suffices =
    let s = signed_of p sane in
    let drift = sane.ranges name.xRateBound in
    let d : ℕ = amount p name.xRateBound in
    let most : d ≤ 1500 = omega (arith, ints, drift.0, drift.1) in
    let below : shortest_micro p + d ≡ 1_000_000 = omega (arith, most) in
    room_lem p.micros p.rate_limit beyond (shortest_micro p) (longest_micro p) d (omega (arith, ints, s.n_from)) s.ro_from
    (drift_range (amount p name.pMicroPerCycle) 1_000_000 d (shortest_micro p) (longest_micro p) below refl) suffices
