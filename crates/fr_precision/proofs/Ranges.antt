-- What damping leaves of a length, over plain numbers.
use Rattle.std.proofs.Common.{◌≡◌, ◌⊎◌, ℤ, pos, inl, inr, ap, ◌∙◌, arith}
use Rattle.std.specs.Prelude.{neg_ℤ, ◌+ℤ◌, ◌-ℤ◌, ◌*ℤ◌, ◌≤ℤ◌, ◌<ℤ◌}
use Rattle.std.proofs.lemmas.Int.{ints}
use Rattle.fr_base.specs.Within.{IsWithin}
use Rattle.fr_midpoint.proofs.Products.{addz-mulz, subz-mulz, lez_of_mulz-lez, mulz-lez_left, mulz_from, negz-mulz}
use Rattle.fr_correct.specs.Terms.{damped}
use Rattle.fr_correct.proofs.Damped.{damped_cases}
use Rattle.fr_precision.proofs.Figures.{Figures}

-- a damped number within its limit, and the length that it gives at a microtick
pub record Ranged (n ro qm qp j t b : ℤ) : Type 0 where
  pub limit : IsWithin ro b
  pub least : (n *ℤ qm) ≤ℤ ((n +ℤ b) *ℤ t)
  pub most : ((n +ℤ b) *ℤ t) ≤ℤ (n *ℤ qp)
  pub room_above : pos 0 <ℤ b → (((n +ℤ b) *ℤ t) +ℤ (pos 2 *ℤ j)) ≤ℤ (n *ℤ qp)
  pub room_below : b <ℤ pos 0 → ((n *ℤ qm) +ℤ (pos 2 *ℤ j)) ≤ℤ ((n +ℤ b) *ℤ t)

above : (n c ro w qm qp y1 j t z b : ℤ) → Figures n c ro w qm qp y1 j → qm ≤ℤ t → t ≤ℤ qp
    → ((n +ℤ z) *ℤ t) ≤ℤ ((n *ℤ qp) +ℤ y1) → c <ℤ z → b ≡ z -ℤ c → Ranged n ro qm qp j t b
above n c ro w qm qp y1 j t z b f least most to over is =
    let up : pos 0 <ℤ b = omega (arith, ints, over, is) in
    let whole : pos 0 ≤ℤ (n +ℤ b) = omega (arith, ints, up, f.n_from) in
    let t_from : pos 0 ≤ℤ t = omega (arith, ints, least, f.qm_from) in
    let same : n +ℤ b ≡ (n +ℤ z) -ℤ c = omega (arith, ints, is) in
    let taken : (n +ℤ b) *ℤ t ≡ ((n +ℤ z) *ℤ t) -ℤ (c *ℤ t) = ap (λ x. x *ℤ t) same ∙ subz-mulz (n +ℤ z) c t in
    let damps : (c *ℤ qm) ≤ℤ (c *ℤ t) = mulz-lez_left qm t c least f.c_from in
    let room : (((n +ℤ b) *ℤ t) +ℤ (pos 2 *ℤ j)) ≤ℤ (n *ℤ qp) =
    leaves (n *ℤ qp) y1 j (c *ℤ qm) (c *ℤ t) ((n +ℤ z) *ℤ t) ((n +ℤ b) *ℤ t) to f.damps damps taken in
    let apart : (n +ℤ b) *ℤ qm ≡ (n *ℤ qm) +ℤ (b *ℤ qm) = addz-mulz n b qm in
    let short : ((n +ℤ b) *ℤ qm) ≤ℤ ((n +ℤ b) *ℤ t) = mulz-lez_left qm t (n +ℤ b) least whole in
    let fits : (b *ℤ qm) ≤ℤ (ro *ℤ qm) = bounded (n *ℤ qp) (n *ℤ qm) (b *ℤ qm) (ro *ℤ qm) ((n +ℤ b) *ℤ qm) ((n +ℤ b) *ℤ t) j f.j_from room short apart f.limits in
    let limit : b ≤ℤ ro = lez_of_mulz-lez b ro qm (omega (arith, ints, f.qm_from)) fits in
    let long : (n *ℤ qm) ≤ℤ ((n +ℤ b) *ℤ t) =
    longer (n *ℤ qm) (b *ℤ qm) ((n +ℤ b) *ℤ qm) ((n +ℤ b) *ℤ t) apart short (mulz_from b qm (omega (arith, ints, up)) (omega (arith, ints, f.qm_from))) in
    record {
      limit = record { low = omega (arith, ints, up, f.ro_from); high = limit };
      least = long;
      most = omega (arith, ints, room, f.j_from);
      room_above = λ h. room;
      room_below = λ h. absurd (omega (arith, ints, up, h));
    }
  where
    leaves : (nqp y1 j cqm ct zt bt : ℤ) → zt ≤ℤ (nqp +ℤ y1) → (y1 +ℤ (pos 2 *ℤ j)) ≤ℤ cqm → cqm ≤ℤ ct → bt ≡ zt -ℤ ct → (bt +ℤ (pos 2 *ℤ j)) ≤ℤ nqp
    leaves nqp y1 j cqm ct zt bt a b c d = omega (arith, ints)

    bounded : (nqp nqm bqm roqm short long j : ℤ) → pos 0 ≤ℤ j → (long +ℤ (pos 2 *ℤ j)) ≤ℤ nqp → short ≤ℤ long → short ≡ nqm +ℤ bqm → (nqp -ℤ nqm) ≤ℤ roqm → bqm ≤ℤ roqm
    bounded nqp nqm bqm roqm short long j a b c d e = omega (arith, ints)

    longer : (nqm bqm short long : ℤ) → short ≡ nqm +ℤ bqm → short ≤ℤ long → pos 0 ≤ℤ bqm → nqm ≤ℤ long
    longer nqm bqm short long a b c = omega (arith, ints)

below : (n c ro w qm qp y1 j t z b : ℤ) → Figures n c ro w qm qp y1 j → qm ≤ℤ t → t ≤ℤ qp
    → ((n *ℤ qm) -ℤ y1) ≤ℤ ((n +ℤ z) *ℤ t) → z <ℤ neg_ℤ c → b ≡ z +ℤ c → Ranged n ro qm qp j t b
below n c ro w qm qp y1 j t z b f least most from under is =
    let down : b <ℤ pos 0 = omega (arith, ints, under, is) in
    let t_above : pos 0 <ℤ t = omega (arith, ints, least, f.qm_from) in
    let same : n +ℤ b ≡ (n +ℤ z) +ℤ c = omega (arith, ints, is) in
    let taken : (n +ℤ b) *ℤ t ≡ ((n +ℤ z) *ℤ t) +ℤ (c *ℤ t) = ap (λ x. x *ℤ t) same ∙ addz-mulz (n +ℤ z) c t in
    let damps : (c *ℤ qm) ≤ℤ (c *ℤ t) = mulz-lez_left qm t c least f.c_from in
    let room : ((n *ℤ qm) +ℤ (pos 2 *ℤ j)) ≤ℤ ((n +ℤ b) *ℤ t) =
    leaves (n *ℤ qm) y1 j (c *ℤ qm) (c *ℤ t) ((n +ℤ z) *ℤ t) ((n +ℤ b) *ℤ t) from f.damps damps taken in
    let some : pos 0 ≤ℤ (n *ℤ qm) = mulz_from n qm (omega (arith, ints, f.n_from)) (omega (arith, ints, f.qm_from)) in
    let whole : pos 0 ≤ℤ (n +ℤ b) =
    lez_of_mulz-lez (pos 0) (n +ℤ b) t t_above (positive (n *ℤ qm) j ((n +ℤ b) *ℤ t) (pos 0 *ℤ t) (none t) some f.j_from room) in
    let wide : ((n +ℤ b) *ℤ t) ≤ℤ ((n +ℤ b) *ℤ qp) = mulz-lez_left t qp (n +ℤ b) most whole in
    let apart : (n +ℤ b) *ℤ qp ≡ (n *ℤ qp) +ℤ (b *ℤ qp) = addz-mulz n b qp in
    let order : (ro *ℤ qm) ≤ℤ (ro *ℤ qp) = mulz-lez_left qm qp ro f.order f.ro_from in
    let fits : (neg_ℤ b *ℤ qp) ≤ℤ (ro *ℤ qp) =
    bounded (n *ℤ qp) (n *ℤ qm) (b *ℤ qp) (neg_ℤ b *ℤ qp) (ro *ℤ qm) (ro *ℤ qp) ((n +ℤ b) *ℤ t) ((n +ℤ b) *ℤ qp) j f.j_from room wide apart f.limits order (negz-mulz b qp) in
    let limit : neg_ℤ b ≤ℤ ro = lez_of_mulz-lez (neg_ℤ b) ro qp (omega (arith, ints, f.qm_from, f.order)) fits in
    let short : ((n +ℤ b) *ℤ t) ≤ℤ (n *ℤ qp) =
    shorter (n *ℤ qp) (b *ℤ qp) (neg_ℤ b *ℤ qp) ((n +ℤ b) *ℤ t) ((n +ℤ b) *ℤ qp) wide apart (negz-mulz b qp)
    (mulz_from (neg_ℤ b) qp (omega (arith, ints, down)) (omega (arith, ints, f.qm_from, f.order))) in
    record {
      limit = record { low = omega (arith, ints, limit); high = omega (arith, ints, down, f.ro_from) };
      least = omega (arith, ints, room, f.j_from);
      most = short;
      room_above = λ h. absurd (omega (arith, ints, down, h));
      room_below = λ h. room;
    }
  where
    none : (t : ℤ) → pos 0 *ℤ t ≡ pos 0
    none t = omega (arith, ints)

    leaves : (nqm y1 j cqm ct zt bt : ℤ) → (nqm -ℤ y1) ≤ℤ zt → (y1 +ℤ (pos 2 *ℤ j)) ≤ℤ cqm → cqm ≤ℤ ct → bt ≡ zt +ℤ ct → (nqm +ℤ (pos 2 *ℤ j)) ≤ℤ bt
    leaves nqm y1 j cqm ct zt bt a b c d = omega (arith, ints)

    positive : (nqm j bt zero : ℤ) → zero ≡ pos 0 → pos 0 ≤ℤ nqm → pos 0 ≤ℤ j → (nqm +ℤ (pos 2 *ℤ j)) ≤ℤ bt → zero ≤ℤ bt
    positive nqm j bt zero e a b c = omega (arith, ints)

    bounded : (nqp nqm bqp minus roqm roqp short wide j : ℤ) → pos 0 ≤ℤ j → (nqm +ℤ (pos 2 *ℤ j)) ≤ℤ short → short ≤ℤ wide → wide ≡ nqp +ℤ bqp → (nqp -ℤ nqm) ≤ℤ roqm → roqm ≤ℤ roqp → minus ≡ neg_ℤ bqp → minus ≤ℤ roqp
    bounded nqp nqm bqp minus roqm roqp short wide j a b c d e g h = omega (arith, ints)

    shorter : (nqp bqp minus short wide : ℤ) → short ≤ℤ wide → wide ≡ nqp +ℤ bqp → minus ≡ neg_ℤ bqp → pos 0 ≤ℤ minus → short ≤ℤ nqp
    shorter nqp bqp minus short wide a b c d = omega (arith, ints)

between : (n c ro w qm qp y1 j t b : ℤ) → Figures n c ro w qm qp y1 j → qm ≤ℤ t → t ≤ℤ qp → b ≡ pos 0 → Ranged n ro qm qp j t b
between n c ro w qm qp y1 j t b f least most is =
    let same : n +ℤ b ≡ n = omega (arith, ints, is) in
    let still : (n +ℤ b) *ℤ t ≡ n *ℤ t = ap (λ x. x *ℤ t) same in
    let n_from : pos 0 ≤ℤ n = omega (arith, ints, f.n_from) in
    let low : (n *ℤ qm) ≤ℤ (n *ℤ t) = mulz-lez_left qm t n least n_from in
    let high : (n *ℤ t) ≤ℤ (n *ℤ qp) = mulz-lez_left t qp n most n_from in
    record {
      limit = record { low = omega (arith, ints, is, f.ro_from); high = omega (arith, ints, is, f.ro_from) };
      least = kept_low (n *ℤ qm) (n *ℤ t) ((n +ℤ b) *ℤ t) still low;
      most = kept_high (n *ℤ qp) (n *ℤ t) ((n +ℤ b) *ℤ t) still high;
      room_above = λ h. absurd (omega (arith, ints, is, h));
      room_below = λ h. absurd (omega (arith, ints, is, h));
    }
  where
    kept_low : (a b c : ℤ) → c ≡ b → a ≤ℤ b → a ≤ℤ c
    kept_low a b c is le = omega (arith, ints)

    kept_high : (a b c : ℤ) → c ≡ b → b ≤ℤ a → c ≤ℤ a
    kept_high a b c is le = omega (arith, ints)

-- the damped number of a length that is off by no more than y1
pub ranged : (n c ro w qm qp y1 j t z : ℤ) → Figures n c ro w qm qp y1 j → qm ≤ℤ t → t ≤ℤ qp
    → ((n *ℤ qm) -ℤ y1) ≤ℤ ((n +ℤ z) *ℤ t) → ((n +ℤ z) *ℤ t) ≤ℤ ((n *ℤ qp) +ℤ y1) → Ranged n ro qm qp j t (damped c z)
ranged n c ro w qm qp y1 j t z f least most from to = by_case (damped_cases c z f.c_from)
  where
    by_case :
        ((c <ℤ z) × (damped c z ≡ z -ℤ c)) ⊎ ((z <ℤ neg_ℤ c) × (damped c z ≡ z +ℤ c)) ⊎ ((z ≤ℤ c) × (neg_ℤ c ≤ℤ z) × (damped c z ≡ pos 0))
        → Ranged n ro qm qp j t (damped c z)
    by_case (inl (over, is)) = above n c ro w qm qp y1 j t z (damped c z) f least most to over is
    by_case (inr (inl (under, is))) = below n c ro w qm qp y1 j t z (damped c z) f least most from under is
    by_case (inr (inr (high, low, is))) = between n c ro w qm qp y1 j t (damped c z) f least most is
