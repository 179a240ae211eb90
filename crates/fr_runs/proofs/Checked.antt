-- What the checks of a cluster that nodes join say.
use Rattle.std.proofs.Common.{◌≡◌, ℕ, ◌+◌, ◌*◌, ◌≤◌, ℤ, pos, refl, arith}
use Rattle.std.specs.Prelude.{◌+ℤ◌, ◌-ℤ◌, ◌*ℤ◌, ◌≤ℤ◌, nat_abs, nat_lt}
use Rattle.std.proofs.lemmas.Int.{ints}
use Rattle.fr_cluster.specs.Values.{Values, amount}
use Rattle.fr_cluster.specs.Sane.{IsSane}
use Rattle.fr_cluster.specs.declared.names.ParamName.TheVariants as name
use Rattle.fr_bound.specs.Bounds.{arrival_error, follower_error, longest_micro, reach_of, shortest_micro}
use Rattle.fr_bound.specs.Checks.{left_of}
use Rattle.fr_bound.proofs.Uncut.{uncut_lem}
use Rattle.fr_precision.proofs.Figures.{drift_range, nat_le-true, times_natural}
use Rattle.fr_precision.proofs.ReceptionLaws.{leaves_room, nat_lt-true}
use Rattle.fr_runs.specs.Room.{LastChecksSuffice, RateLimitSuffices, SeventhCheckSuffices, SixthCheckSuffices}

pub sixth_check_suffices : SixthCheckSuffices
sixth_check_suffices p holds = nat_le-true _ _ holds

pub seventh_check_suffices : SeventhCheckSuffices
seventh_check_suffices p holds = step (reach_of p) (arrival_error p) (longest_micro p) (left_of 3 p) (nat_le-true _ _ holds)
  where
    step : (k e q left : ℕ) → k + e + q ≤ left → (pos k +ℤ pos e +ℤ pos q) ≤ℤ pos left
    step k e q left le = omega (arith, ints)

pub last_checks_suffice : LastChecksSuffice
last_checks_suffice p sane eighth ninth = leaves_room p (reach_of p) sane (nat_le-true _ _ eighth) (nat_lt-true _ _ ninth)

-- the sixth check over signed numbers: microticks per cycle, rate limit, the shortest and the longest microtick, and what a
-- first length may be off
pub record Room (n ro qm qp more : ℤ) : Type 0 where
  pub n_from : pos 1 ≤ℤ n
  pub ro_from : pos 0 ≤ℤ ro
  pub ro_to : ro ≤ℤ n
  pub qm_from : pos 1 ≤ℤ qm
  pub order : qm ≤ℤ qp
  pub more_from : pos 0 ≤ℤ more
  pub limits : (((n *ℤ qp) -ℤ (n *ℤ qm)) +ℤ more) ≤ℤ (ro *ℤ qm)

limits_lem : (n ro : ℤ) (qm qp d more : ℕ) → pos 0 ≤ℤ n → pos 0 ≤ℤ ro → nat_abs n * qp ≡ nat_abs n * qm + 2 * (nat_abs n * d) → 2 * (nat_abs n * d) + more ≤ nat_abs ro * qm
    → (((n *ℤ pos qp) -ℤ (n *ℤ pos qm)) +ℤ pos more) ≤ℤ (ro *ℤ pos qm)
limits_lem n ro qm qp d more from also wide fits =
    last (nat_abs n * qp) (nat_abs n * qm) (nat_abs n * d) (nat_abs ro * qm) more (n *ℤ pos qp) (n *ℤ pos qm) (ro *ℤ pos qm)
    (times_natural n qp from) (times_natural n qm from) (times_natural ro qm also) wide fits
  where
    last : (p q e r more : ℕ) (x y z : ℤ) → pos p ≡ x → pos q ≡ y → pos r ≡ z → p ≡ q + 2 * e → 2 * e + more ≤ r → ((x -ℤ y) +ℤ pos more) ≤ℤ z
    last p q e r more x y z a b c wide fits = omega (arith, ints)

pub room_of : (p : Values) → IsSane p → RateLimitSuffices p → Room p.micros p.rate_limit (pos (shortest_micro p)) (pos (longest_micro p)) (pos (follower_error p))
room_of p sane suffices =
    let uncut = uncut_lem p sane in
    let micros = sane.ranges name.pMicroPerCycle in
    let rate = sane.ranges name.pRateCorrectionOut in
    let drift = sane.ranges name.xRateBound in
    let n_from : pos 0 ≤ℤ p.micros = omega (arith, ints, micros.0) in
    let ro_from : pos 0 ≤ℤ p.rate_limit = omega (arith, ints, rate.0) in
    let d : ℕ = amount p name.xRateBound in
    let most : d ≤ 1500 = omega (arith, ints, drift.0, drift.1) in
    let below : shortest_micro p + d ≡ 1_000_000 = omega (arith, most) in
    record {
      n_from = omega (arith, ints, micros.0);
      ro_from = ro_from;
      ro_to = omega (arith, ints, uncut.cycle, n_from, ro_from);
      qm_from = omega (arith, ints, most);
      order = omega (arith, ints);
      more_from = no_less (follower_error p);
      limits =
          limits_lem p.micros p.rate_limit (shortest_micro p) (longest_micro p) d (follower_error p) n_from ro_from
          (drift_range (amount p name.pMicroPerCycle) 1_000_000 d (shortest_micro p) (longest_micro p) below refl)
          suffices;
    }
  where
    no_less : (n : ℕ) → pos 0 ≤ℤ pos n
    no_less n = omega (arith, ints)
