-- Where a length lies in its range, or no further beyond it than the rate limit can follow, its rate is within that limit.
use Rattle.std.proofs.Common.{◌≡◌, ℕ, ◌≤◌, Bool, true, false, ℤ, pos, refl, arith}
use Rattle.std.specs.Prelude.{neg_ℤ, ◌+ℤ◌, ◌-ℤ◌, ◌*ℤ◌, ◌≤ℤ◌, ◌<ℤ◌, int_le, if◌then◌else◌}
use Rattle.std.proofs.lemmas.Int.{ints}
use Rattle.fr_base.specs.declared.node_row.NodeRow.{NodeRow}
use Rattle.fr_base.specs.Within.{IsBetween, IsWithin}
use Rattle.fr_cluster.specs.Values.{Values}
use Rattle.fr_cluster.specs.Sane.{IsSane}
use Rattle.fr_midpoint.proofs.Products.{addz-mulz, lez_of_mulz-lez, mulz-lez_left, negz-mulz}
use Rattle.fr_bound.specs.Bounds.{longest_micro, shortest_micro}
use Rattle.fr_bound.specs.Checks.{holds_of, left_of, right_of}
use Rattle.fr_bound.specs.Sync.{cycle_length_of}
use Rattle.fr_precision.specs.Rows.{longest_cycle, shortest_cycle, HasProperMicro}
use Rattle.fr_precision.proofs.Figures.{longest_is, nat_le-true, shortest_is}
use Rattle.fr_bound.specs.SharpBounds.{rate_walk}
use Rattle.fr_bound.specs.SharpChecks.{RateSuffices}
use Rattle.fr_precision.specs.Lengths.{walked_after, IsAboutCycle}
use Rattle.fr_precision.specs.SharpRun.{WalkLastsAfter}
use Rattle.fr_precision.proofs.BoundLemmas.{walk_is_held}
use Rattle.fr_precision.proofs.Signed.{room_of, signed_of}

rate_fits : (n ro qm qp beyond t r : ℤ) → pos 0 ≤ℤ n → pos 0 ≤ℤ ro → pos 1 ≤ℤ qm → (((n *ℤ qp) -ℤ (n *ℤ qm)) +ℤ beyond) ≤ℤ (ro *ℤ qm) → qm ≤ℤ t → t ≤ℤ qp
    → IsBetween ((n *ℤ qm) -ℤ beyond) ((n *ℤ qp) +ℤ beyond) ((n +ℤ r) *ℤ t) → IsWithin ro r
rate_fits n ro qm qp beyond t r n_from ro_from qm_from room least most lies =
    let lasts : pos 0 <ℤ t = omega (arith, ints, qm_from, least) in
    let apart : (n +ℤ r) *ℤ t ≡ (n *ℤ t) +ℤ (r *ℤ t) = addz-mulz n r t in
    let low : (n *ℤ qm) ≤ℤ (n *ℤ t) = mulz-lez_left qm t n least n_from in
    let high : (n *ℤ t) ≤ℤ (n *ℤ qp) = mulz-lez_left t qp n most n_from in
    let limit : (ro *ℤ qm) ≤ℤ (ro *ℤ t) = mulz-lez_left qm t ro least ro_from in
    let up = lez_of_mulz-lez r ro t lasts (above (n *ℤ qm) (n *ℤ qp) (n *ℤ t) (r *ℤ t) ((n +ℤ r) *ℤ t) (ro *ℤ qm) (ro *ℤ t) beyond apart low limit room lies.high) in
    let down = lez_of_mulz-lez (neg_ℤ r) ro t lasts (below (n *ℤ qm) (n *ℤ qp) (n *ℤ t) (r *ℤ t) (neg_ℤ r *ℤ t) ((n +ℤ r) *ℤ t) (ro *ℤ qm) (ro *ℤ t) beyond apart (negz-mulz r t) high limit room lies.low) in
    record { low = omega (arith, ints, down); high = up }
  where
    above : (nqm nqp nt rt long roqm rot beyond : ℤ) → long ≡ nt +ℤ rt → nqm ≤ℤ nt → roqm ≤ℤ rot → ((nqp -ℤ nqm) +ℤ beyond) ≤ℤ roqm → long ≤ℤ (nqp +ℤ beyond) → rt ≤ℤ rot
    above nqm nqp nt rt long roqm rot beyond e a b c d = omega (arith, ints)

    below : (nqm nqp nt rt minus long roqm rot beyond : ℤ) → long ≡ nt +ℤ rt → minus ≡ neg_ℤ rt → nt ≤ℤ nqp → roqm ≤ℤ rot → ((nqp -ℤ nqm) +ℤ beyond) ≤ℤ roqm → (nqm -ℤ beyond) ≤ℤ long → minus ≤ℤ rot
    below nqm nqp nt rt minus long roqm rot beyond e f a b c d = omega (arith, ints)

pub rate_in_limit : (p : Values) (beyond : ℤ) (row : NodeRow) → IsSane p → RateSuffices p beyond → HasProperMicro p row → IsAboutCycle p beyond (cycle_length_of p row) → IsWithin p.rate_limit row.rate
rate_in_limit p beyond row sane suffices micro about =
    let s = signed_of p sane in
    rate_fits p.micros p.rate_limit (pos (shortest_micro p)) (pos (longest_micro p)) beyond row.length row.rate (omega (arith, ints, s.n_from)) s.ro_from s.qm_from (room_of p beyond sane suffices) micro.least micro.most
    (moved (pos (shortest_cycle p)) (p.micros *ℤ pos (shortest_micro p)) (pos (longest_cycle p)) (p.micros *ℤ pos (longest_micro p)) beyond (cycle_length_of p row) (shortest_is p sane) (longest_is p sane) about)
  where
    moved : (a b c d beyond x : ℤ) → a ≡ b → c ≡ d → IsBetween (a -ℤ beyond) (c +ℤ beyond) x → IsBetween (b -ℤ beyond) (d +ℤ beyond) x
    moved a b c d beyond x e f lies = record { low = omega (arith, ints, lies.low); high = omega (arith, ints, lies.high) }

-- while the walk lasts, the rate limit follows as far as the lengths have walked
pub walked_suffices : (p : Values) (flutter passed : ℕ) → IsSane p → holds_of 2 p ≡ true → WalkLastsAfter p flutter passed → RateSuffices p (walked_after p flutter passed)
walked_suffices p flutter passed sane second before =
    by (int_le (rate_walk p flutter) (pos 0)) refl (walk_is_held p flutter passed sane second before).0.suffices
  where
    still : (a b : ℕ) → a ≤ b → (pos a +ℤ pos 0) ≤ℤ pos b
    still a b le = omega (arith, ints, le)

    less : (a b : ℕ) (x w : ℤ) → int_le w (pos 0) ≡ false → (pos a +ℤ (x +ℤ w)) ≤ℤ pos b → (pos a +ℤ x) ≤ℤ pos b
    less a b x w more le = omega (arith, ints)

    by : (stops : Bool) → int_le (rate_walk p flutter) (pos 0) ≡ stops → RateSuffices p ((if stops then pos 0 else pos passed *ℤ rate_walk p flutter) +ℤ rate_walk p flutter)
        → RateSuffices p (if stops then pos 0 else pos passed *ℤ rate_walk p flutter)
    by true is suffices = still (right_of 2 p) (left_of 2 p) (nat_le-true (right_of 2 p) (left_of 2 p) second)
    by false is suffices = less (right_of 2 p) (left_of 2 p) (pos passed *ℤ rate_walk p flutter) (rate_walk p flutter) is suffices
