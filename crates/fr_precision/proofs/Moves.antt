-- What a change of the microtick makes of a length, over plain numbers.
use Rattle.std.proofs.Common.{◌≡◌, ℤ, pos, ap, ◌∙◌, arith}
use Rattle.std.specs.Prelude.{neg_ℤ, ◌+ℤ◌, ◌-ℤ◌, ◌*ℤ◌, ◌≤ℤ◌}
use Rattle.std.proofs.lemmas.Int.{ints, by_lt_z}
use Rattle.fr_base.specs.Within.{IsWithin}
use Rattle.fr_midpoint.proofs.Products.{addz-mulz, subz-mulz, mulz-addz, mulz-subz, mulz_comm, mulz-lez_left, mulz_from, mulz_within, negz-mulz}
use Rattle.fr_correct.specs.Terms.{damped}
use Rattle.fr_correct.proofs.Damped.{damped-IsTakenToward}
use Rattle.fr_precision.proofs.Figures.{Figures}
use Rattle.fr_precision.proofs.Ranges.{Ranged}

-- a length at a microtick that has changed twice at most
pub record Moved (n qm qp j t other b : ℤ) : Type 0 where
  pub least : (n *ℤ qm) ≤ℤ ((n +ℤ b) *ℤ other)
  pub most : ((n +ℤ b) *ℤ other) ≤ℤ (n *ℤ qp)
  pub near : IsWithin (pos 2 *ℤ j) (((n +ℤ b) *ℤ other) -ℤ ((n +ℤ b) *ℤ t))

moved_near : (n c ro w qm qp y1 j t other b : ℤ) → Figures n c ro w qm qp y1 j → IsWithin ro b → IsWithin (w +ℤ w) (other -ℤ t)
    → IsWithin (pos 2 *ℤ j) (((n +ℤ b) *ℤ other) -ℤ ((n +ℤ b) *ℤ t))
moved_near n c ro w qm qp y1 j t other b f limit near =
    let from : pos 0 ≤ℤ (n +ℤ b) = omega (arith, ints, limit.low, f.ro_to) in
    let to : (n +ℤ b) ≤ℤ (n +ℤ ro) = omega (arith, ints, limit.high) in
    let product : IsWithin ((n +ℤ ro) *ℤ (w +ℤ w)) ((n +ℤ b) *ℤ (other -ℤ t)) = mulz_within (n +ℤ b) (other -ℤ t) (n +ℤ ro) (w +ℤ w) from to near in
    same ((n +ℤ ro) *ℤ (w +ℤ w)) ((n +ℤ ro) *ℤ w) j ((n +ℤ b) *ℤ (other -ℤ t)) ((n +ℤ b) *ℤ other) ((n +ℤ b) *ℤ t)
    (mulz-addz w w (n +ℤ ro)) f.j_is (mulz-subz other t (n +ℤ b)) product
  where
    same : (wide once j apart x y : ℤ) → wide ≡ once +ℤ once → j ≡ once → apart ≡ x -ℤ y → IsWithin wide apart → IsWithin (pos 2 *ℤ j) (x -ℤ y)
    same wide once j apart x y a b c within = record { low = omega (arith, ints, within.low); high = omega (arith, ints, within.high) }

pub moved : (n c ro w qm qp y1 j t other b : ℤ) → Figures n c ro w qm qp y1 j → Ranged n ro qm qp j t b
    → qm ≤ℤ other → other ≤ℤ qp → IsWithin (w +ℤ w) (other -ℤ t) → Moved n qm qp j t other b
moved n c ro w qm qp y1 j t other b f r least most steady =
    let near = moved_near n c ro w qm qp y1 j t other b f r.limit steady in
    let n_from : pos 0 ≤ℤ n = omega (arith, ints, f.n_from) in
    let o_from : pos 0 ≤ℤ other = omega (arith, ints, least, f.qm_from) in
    let low : (n *ℤ qm) ≤ℤ (n *ℤ other) = mulz-lez_left qm other n least n_from in
    let high : (n *ℤ other) ≤ℤ (n *ℤ qp) = mulz-lez_left other qp n most n_from in
    let apart : (n +ℤ b) *ℤ other ≡ (n *ℤ other) +ℤ (b *ℤ other) = addz-mulz n b other in
    let minus = negz-mulz b other in
    by_lt_z (pos 0) b
    (λ up. record {
      least = longer (n *ℤ qm) (n *ℤ other) (b *ℤ other) ((n +ℤ b) *ℤ other) low apart (mulz_from b other (omega (arith, ints, up)) o_from);
      most = kept_high (n *ℤ qp) j ((n +ℤ b) *ℤ t) ((n +ℤ b) *ℤ other) (r.room_above up) near;
      near = near;
    })
    (λ to. by_lt_z b (pos 0)
    (λ down. record {
      least = kept_low (n *ℤ qm) j ((n +ℤ b) *ℤ t) ((n +ℤ b) *ℤ other) (r.room_below down) near;
      most = shorter (n *ℤ qp) (n *ℤ other) (b *ℤ other) (neg_ℤ b *ℤ other) ((n +ℤ b) *ℤ other) high apart minus (mulz_from (neg_ℤ b) other (omega (arith, ints, down)) o_from);
      near = near;
    })
    (λ from.
    let zero : b ≡ pos 0 = omega (arith, ints, to, from) in
    let same : n +ℤ b ≡ n = omega (arith, ints, zero) in
    let still : (n +ℤ b) *ℤ other ≡ n *ℤ other = ap (λ x. x *ℤ other) same in
    record {
      least = still_low (n *ℤ qm) (n *ℤ other) ((n +ℤ b) *ℤ other) low still;
      most = still_high (n *ℤ qp) (n *ℤ other) ((n +ℤ b) *ℤ other) high still;
      near = near;
    }))
  where
    longer : (nqm n_other b_other long : ℤ) → nqm ≤ℤ n_other → long ≡ n_other +ℤ b_other → pos 0 ≤ℤ b_other → nqm ≤ℤ long
    longer nqm n_other b_other long a b c = omega (arith, ints)

    shorter : (nqp n_other b_other minus long : ℤ) → n_other ≤ℤ nqp → long ≡ n_other +ℤ b_other → minus ≡ neg_ℤ b_other → pos 0 ≤ℤ minus → long ≤ℤ nqp
    shorter nqp n_other b_other minus long a b c d = omega (arith, ints)

    kept_high : (nqp j v w : ℤ) → (v +ℤ (pos 2 *ℤ j)) ≤ℤ nqp → IsWithin (pos 2 *ℤ j) (w -ℤ v) → w ≤ℤ nqp
    kept_high nqp j v w a within = omega (arith, ints, within.high)

    kept_low : (nqm j v w : ℤ) → (nqm +ℤ (pos 2 *ℤ j)) ≤ℤ v → IsWithin (pos 2 *ℤ j) (w -ℤ v) → nqm ≤ℤ w
    kept_low nqm j v w a within = omega (arith, ints, within.low)

    still_low : (a b c : ℤ) → a ≤ℤ b → c ≡ b → a ≤ℤ c
    still_low a b c le is = omega (arith, ints)

    still_high : (a b c : ℤ) → b ≤ℤ a → c ≡ b → c ≤ℤ a
    still_high a b c le is = omega (arith, ints)

-- damping changes a length by no more than the damping's own
pub damped_near : (n c qm qp t z : ℤ) → pos 0 ≤ℤ c → pos 1 ≤ℤ qm → qm ≤ℤ t → t ≤ℤ qp
    → IsWithin (c *ℤ qp) (((n +ℤ z) *ℤ t) -ℤ ((n +ℤ damped c z) *ℤ t))
damped_near n c qm qp t z c_from qm_from least most =
    let taken = damped-IsTakenToward c z c_from in
    let product : IsWithin (qp *ℤ c) (t *ℤ (z -ℤ damped c z)) = mulz_within t (z -ℤ damped c z) qp c (omega (arith, ints, least, qm_from)) most taken.near in
    let apart : t *ℤ (z -ℤ damped c z) ≡ ((n +ℤ z) *ℤ t) -ℤ ((n +ℤ damped c z) *ℤ t) =
    mulz_comm t (z -ℤ damped c z) ∙ ap (λ x. x *ℤ t) (difference n z (damped c z)) ∙ subz-mulz (n +ℤ z) (n +ℤ damped c z) t in
    same (qp *ℤ c) (c *ℤ qp) (t *ℤ (z -ℤ damped c z)) ((n +ℤ z) *ℤ t) ((n +ℤ damped c z) *ℤ t) (mulz_comm qp c) apart product
  where
    difference : (n z b : ℤ) → z -ℤ b ≡ (n +ℤ z) -ℤ (n +ℤ b)
    difference n z b = omega (arith, ints)

    same : (wide other apart x y : ℤ) → wide ≡ other → apart ≡ x -ℤ y → IsWithin wide apart → IsWithin other (x -ℤ y)
    same wide other apart x y a b within = record { low = omega (arith, ints, within.low); high = omega (arith, ints, within.high) }
