-- What damping and a change of the microtick make of a length that may lie beyond the range of lengths, over plain numbers.
use Rattle.std.proofs.Common.{◌≡◌, ◌⊎◌, ℤ, pos, inl, inr, ap, ◌∙◌, arith}
use Rattle.std.specs.Prelude.{neg_ℤ, ◌+ℤ◌, ◌-ℤ◌, ◌*ℤ◌, ◌≤ℤ◌, ◌<ℤ◌}
use Rattle.std.proofs.lemmas.Int.{ints, by_lt_z}
use Rattle.fr_base.specs.Within.{IsBetween, IsWithin}
use Rattle.fr_midpoint.proofs.Products.{addz-mulz, subz-mulz, lez_of_mulz-lez, mulz-lez_left, mulz-subz, mulz_comm, mulz_from, mulz_within, negz-mulz}
use Rattle.fr_correct.specs.Terms.{damped}
use Rattle.fr_correct.proofs.Damped.{damped_cases}
use Rattle.fr_precision.proofs.Signed.{Signed}

-- a damped rate within its limit, and the room for one change that it leaves on the side that it corrects to
pub record Walked (n ro qm qp j next t b : ℤ) : Type 0 where
  pub limit : IsWithin ro b
  pub whole : pos 0 ≤ℤ (n +ℤ b)
  pub room_above : pos 0 <ℤ b → (((n +ℤ b) *ℤ t) +ℤ j) ≤ℤ ((n *ℤ qp) +ℤ next)
  pub room_below : b <ℤ pos 0 → (((n *ℤ qm) -ℤ next) +ℤ j) ≤ℤ ((n +ℤ b) *ℤ t)

-- the numbers of a walk: how far a rate value places a length beyond its range, what damping takes of it, and the room
pub record HasRoom (n c ro qm qp j far reach next t : ℤ) : Type 0 where
  pub takes : ((far +ℤ j) -ℤ (c *ℤ t)) ≤ℤ reach
  pub room : (((n *ℤ qp) -ℤ (n *ℤ qm)) +ℤ reach) ≤ℤ (ro *ℤ qm)
  pub to_next : reach ≤ℤ next

above : (n c ro oo w qm qp j wide far reach next t z b : ℤ) → Signed n c ro oo w qm qp j wide → HasRoom n c ro qm qp j far reach next t → qm ≤ℤ t
    → ((n +ℤ z) *ℤ t) ≤ℤ ((n *ℤ qp) +ℤ far) → c <ℤ z → b ≡ z -ℤ c → Walked n ro qm qp j next t b
above n c ro oo w qm qp j wide far reach next t z b s h least to over is =
    let up : pos 0 <ℤ b = omega (arith, ints, over, is) in
    let whole : pos 0 ≤ℤ (n +ℤ b) = omega (arith, ints, up, s.n_from) in
    let same : n +ℤ b ≡ (n +ℤ z) -ℤ c = omega (arith, ints, is) in
    let taken : (n +ℤ b) *ℤ t ≡ ((n +ℤ z) *ℤ t) -ℤ (c *ℤ t) = ap (λ x. x *ℤ t) same ∙ subz-mulz (n +ℤ z) c t in
    let room : (((n +ℤ b) *ℤ t) +ℤ j) ≤ℤ ((n *ℤ qp) +ℤ reach) = leaves (n *ℤ qp) far reach j (c *ℤ t) ((n +ℤ z) *ℤ t) ((n +ℤ b) *ℤ t) to h.takes taken in
    let apart : (n +ℤ b) *ℤ qm ≡ (n *ℤ qm) +ℤ (b *ℤ qm) = addz-mulz n b qm in
    let short : ((n +ℤ b) *ℤ qm) ≤ℤ ((n +ℤ b) *ℤ t) = mulz-lez_left qm t (n +ℤ b) least whole in
    let fits : (b *ℤ qm) ≤ℤ (ro *ℤ qm) = bounded (n *ℤ qp) (n *ℤ qm) (b *ℤ qm) (ro *ℤ qm) ((n +ℤ b) *ℤ qm) ((n +ℤ b) *ℤ t) j reach s.j_from room short apart h.room in
    let limit : b ≤ℤ ro = lez_of_mulz-lez b ro qm (omega (arith, ints, s.qm_from)) fits in
    record {
      limit = record { low = omega (arith, ints, up, s.ro_from); high = limit };
      whole = whole;
      room_above = λ k. further ((n +ℤ b) *ℤ t) j (n *ℤ qp) reach next room h.to_next;
      room_below = λ k. absurd (omega (arith, ints, up, k));
    }
  where
    leaves : (nqp far reach j ct zt bt : ℤ) → zt ≤ℤ (nqp +ℤ far) → ((far +ℤ j) -ℤ ct) ≤ℤ reach → bt ≡ zt -ℤ ct → (bt +ℤ j) ≤ℤ (nqp +ℤ reach)
    leaves nqp far reach j ct zt bt a b c = omega (arith, ints)

    bounded : (nqp nqm bqm roqm short long j reach : ℤ) → pos 0 ≤ℤ j → (long +ℤ j) ≤ℤ (nqp +ℤ reach) → short ≤ℤ long → short ≡ nqm +ℤ bqm → ((nqp -ℤ nqm) +ℤ reach) ≤ℤ roqm → bqm ≤ℤ roqm
    bounded nqp nqm bqm roqm short long j reach a b c d e = omega (arith, ints)

    further : (long j nqp reach next : ℤ) → (long +ℤ j) ≤ℤ (nqp +ℤ reach) → reach ≤ℤ next → (long +ℤ j) ≤ℤ (nqp +ℤ next)
    further long j nqp reach next a b = omega (arith, ints)

below : (n c ro oo w qm qp j wide far reach next t z b : ℤ) → Signed n c ro oo w qm qp j wide → HasRoom n c ro qm qp j far reach next t → qm ≤ℤ t → t ≤ℤ qp
    → ((n *ℤ qm) -ℤ far) ≤ℤ ((n +ℤ z) *ℤ t) → z <ℤ neg_ℤ c → b ≡ z +ℤ c → Walked n ro qm qp j next t b
below n c ro oo w qm qp j wide far reach next t z b s h least most from under is =
    let down : b <ℤ pos 0 = omega (arith, ints, under, is) in
    let t_above : pos 0 <ℤ t = omega (arith, ints, least, s.qm_from) in
    let same : n +ℤ b ≡ (n +ℤ z) +ℤ c = omega (arith, ints, is) in
    let taken : (n +ℤ b) *ℤ t ≡ ((n +ℤ z) *ℤ t) +ℤ (c *ℤ t) = ap (λ x. x *ℤ t) same ∙ addz-mulz (n +ℤ z) c t in
    let room : (((n *ℤ qm) -ℤ reach) +ℤ j) ≤ℤ ((n +ℤ b) *ℤ t) = leaves (n *ℤ qm) far reach j (c *ℤ t) ((n +ℤ z) *ℤ t) ((n +ℤ b) *ℤ t) from h.takes taken in
    let slow : (ro *ℤ qm) ≤ℤ (n *ℤ qm) = mulz-lez_by ro n qm s.ro_to (omega (arith, ints, s.qm_from)) in
    let wider : (n *ℤ qm) ≤ℤ (n *ℤ qp) = mulz-lez_left qm qp n s.order (omega (arith, ints, s.n_from)) in
    let whole : pos 0 ≤ℤ (n +ℤ b) =
    lez_of_mulz-lez (pos 0) (n +ℤ b) t t_above (positive (n *ℤ qm) (n *ℤ qp) (ro *ℤ qm) reach j ((n +ℤ b) *ℤ t) (pos 0 *ℤ t) (none t) s.j_from room h.room slow wider) in
    let wide_t : ((n +ℤ b) *ℤ t) ≤ℤ ((n +ℤ b) *ℤ qp) = mulz-lez_left t qp (n +ℤ b) most whole in
    let apart : (n +ℤ b) *ℤ qp ≡ (n *ℤ qp) +ℤ (b *ℤ qp) = addz-mulz n b qp in
    let order : (ro *ℤ qm) ≤ℤ (ro *ℤ qp) = mulz-lez_left qm qp ro s.order s.ro_from in
    let fits : (neg_ℤ b *ℤ qp) ≤ℤ (ro *ℤ qp) =
    bounded (n *ℤ qp) (n *ℤ qm) (b *ℤ qp) (neg_ℤ b *ℤ qp) (ro *ℤ qm) (ro *ℤ qp) ((n +ℤ b) *ℤ t) ((n +ℤ b) *ℤ qp) j reach s.j_from room wide_t apart h.room order (negz-mulz b qp) in
    let limit : neg_ℤ b ≤ℤ ro = lez_of_mulz-lez (neg_ℤ b) ro qp (omega (arith, ints, s.qm_from, s.order)) fits in
    record {
      limit = record { low = omega (arith, ints, limit); high = omega (arith, ints, down, s.ro_from) };
      whole = whole;
      room_above = λ k. absurd (omega (arith, ints, down, k));
      room_below = λ k. further ((n +ℤ b) *ℤ t) j (n *ℤ qm) reach next room h.to_next;
    }
  where
    none : (t : ℤ) → pos 0 *ℤ t ≡ pos 0
    none t = omega (arith, ints)

    mulz-lez_by : (a b t : ℤ) → a ≤ℤ b → pos 0 ≤ℤ t → (a *ℤ t) ≤ℤ (b *ℤ t)
    mulz-lez_by a b t le from = omega (arith, ints, mulz-lez_left a b t le from, mulz_comm t a, mulz_comm t b)

    leaves : (nqm far reach j ct zt bt : ℤ) → (nqm -ℤ far) ≤ℤ zt → ((far +ℤ j) -ℤ ct) ≤ℤ reach → bt ≡ zt +ℤ ct → ((nqm -ℤ reach) +ℤ j) ≤ℤ bt
    leaves nqm far reach j ct zt bt a b c = omega (arith, ints)

    positive : (nqm nqp roqm reach j bt zero : ℤ) → zero ≡ pos 0 → pos 0 ≤ℤ j → ((nqm -ℤ reach) +ℤ j) ≤ℤ bt → ((nqp -ℤ nqm) +ℤ reach) ≤ℤ roqm → roqm ≤ℤ nqm → nqm ≤ℤ nqp → zero ≤ℤ bt
    positive nqm nqp roqm reach j bt zero e a b c d f = omega (arith, ints)

    bounded : (nqp nqm bqp minus roqm roqp short wide j reach : ℤ) → pos 0 ≤ℤ j → ((nqm -ℤ reach) +ℤ j) ≤ℤ short → short ≤ℤ wide → wide ≡ nqp +ℤ bqp → ((nqp -ℤ nqm) +ℤ reach) ≤ℤ roqm → roqm ≤ℤ roqp → minus ≡ neg_ℤ bqp → minus ≤ℤ roqp
    bounded nqp nqm bqp minus roqm roqp short wide j reach a b c d e g h = omega (arith, ints)

    further : (long j nqm reach next : ℤ) → ((nqm -ℤ reach) +ℤ j) ≤ℤ long → reach ≤ℤ next → ((nqm -ℤ next) +ℤ j) ≤ℤ long
    further long j nqm reach next a b = omega (arith, ints)

between : (n c ro oo w qm qp j wide next t b : ℤ) → Signed n c ro oo w qm qp j wide → b ≡ pos 0 → Walked n ro qm qp j next t b
between n c ro oo w qm qp j wide next t b s is = record {
  limit = record { low = omega (arith, ints, is, s.ro_from); high = omega (arith, ints, is, s.ro_from) };
  whole = omega (arith, ints, is, s.n_from);
  room_above = λ k. absurd (omega (arith, ints, is, k));
  room_below = λ k. absurd (omega (arith, ints, is, k));
}

-- the damped rate of a length that lies at most so far beyond the range
pub walked : (n c ro oo w qm qp j wide far reach next t z : ℤ) → Signed n c ro oo w qm qp j wide → HasRoom n c ro qm qp j far reach next t → qm ≤ℤ t → t ≤ℤ qp
    → IsBetween ((n *ℤ qm) -ℤ far) ((n *ℤ qp) +ℤ far) ((n +ℤ z) *ℤ t) → Walked n ro qm qp j next t (damped c z)
walked n c ro oo w qm qp j wide far reach next t z s h least most placed = by_case (damped_cases c z s.c_from)
  where
    by_case :
        ((c <ℤ z) × (damped c z ≡ z -ℤ c)) ⊎ ((z <ℤ neg_ℤ c) × (damped c z ≡ z +ℤ c)) ⊎ ((z ≤ℤ c) × (neg_ℤ c ≤ℤ z) × (damped c z ≡ pos 0))
        → Walked n ro qm qp j next t (damped c z)
    by_case (inl (over, is)) = above n c ro oo w qm qp j wide far reach next t z (damped c z) s h least placed.high over is
    by_case (inr (inl (under, is))) = below n c ro oo w qm qp j wide far reach next t z (damped c z) s h least most placed.low under is
    by_case (inr (inr (high, low, is))) = between n c ro oo w qm qp j wide next t (damped c z) s is

-- a length at a microtick that has changed once differs by no more than the change of a cycle
pub changed : (n c ro oo w qm qp j wide next t other b : ℤ) → Signed n c ro oo w qm qp j wide → Walked n ro qm qp j next t b → IsWithin w (other -ℤ t)
    → IsWithin j (((n +ℤ b) *ℤ other) -ℤ ((n +ℤ b) *ℤ t))
changed n c ro oo w qm qp j wide next t other b s r near =
    let to : (n +ℤ b) ≤ℤ (n +ℤ ro) = omega (arith, ints, r.limit.high) in
    let product : IsWithin ((n +ℤ ro) *ℤ w) ((n +ℤ b) *ℤ (other -ℤ t)) = mulz_within (n +ℤ b) (other -ℤ t) (n +ℤ ro) w r.whole to near in
    same ((n +ℤ ro) *ℤ w) j ((n +ℤ b) *ℤ (other -ℤ t)) ((n +ℤ b) *ℤ other) ((n +ℤ b) *ℤ t) s.j_is (mulz-subz other t (n +ℤ b)) product
  where
    same : (wide j apart x y : ℤ) → j ≡ wide → apart ≡ x -ℤ y → IsWithin wide apart → IsWithin j (x -ℤ y)
    same wide j apart x y a b within = record { low = omega (arith, ints, within.low); high = omega (arith, ints, within.high) }

-- and lies no further beyond the range than the walk
pub moved_on : (n c ro oo w qm qp j wide next t other b : ℤ) → Signed n c ro oo w qm qp j wide → Walked n ro qm qp j next t b → pos 0 ≤ℤ next → qm ≤ℤ other → other ≤ℤ qp → IsWithin w (other -ℤ t)
    → IsBetween ((n *ℤ qm) -ℤ next) ((n *ℤ qp) +ℤ next) ((n +ℤ b) *ℤ other)
moved_on n c ro oo w qm qp j wide next t other b s r next_from least most steady =
    let near = changed n c ro oo w qm qp j wide next t other b s r steady in
    let n_from : pos 0 ≤ℤ n = omega (arith, ints, s.n_from) in
    let o_from : pos 0 ≤ℤ other = omega (arith, ints, least, s.qm_from) in
    let low : (n *ℤ qm) ≤ℤ (n *ℤ other) = mulz-lez_left qm other n least n_from in
    let high : (n *ℤ other) ≤ℤ (n *ℤ qp) = mulz-lez_left other qp n most n_from in
    let apart : (n +ℤ b) *ℤ other ≡ (n *ℤ other) +ℤ (b *ℤ other) = addz-mulz n b other in
    let minus = negz-mulz b other in
    by_lt_z (pos 0) b
    (λ up. record {
      low = longer (n *ℤ qm) (n *ℤ other) (b *ℤ other) ((n +ℤ b) *ℤ other) next next_from low apart (mulz_from b other (omega (arith, ints, up)) o_from);
      high = kept_high (n *ℤ qp) next j ((n +ℤ b) *ℤ t) ((n +ℤ b) *ℤ other) (r.room_above up) near;
    })
    (λ to. by_lt_z b (pos 0)
    (λ down. record {
      low = kept_low (n *ℤ qm) next j ((n +ℤ b) *ℤ t) ((n +ℤ b) *ℤ other) (r.room_below down) near;
      high = shorter (n *ℤ qp) (n *ℤ other) (b *ℤ other) (neg_ℤ b *ℤ other) ((n +ℤ b) *ℤ other) next next_from high apart minus (mulz_from (neg_ℤ b) other (omega (arith, ints, down)) o_from);
    })
    (λ from.
    let zero : b ≡ pos 0 = omega (arith, ints, to, from) in
    let same : n +ℤ b ≡ n = omega (arith, ints, zero) in
    let still : (n +ℤ b) *ℤ other ≡ n *ℤ other = ap (λ x. x *ℤ other) same in
    record {
      low = still_low (n *ℤ qm) (n *ℤ other) ((n +ℤ b) *ℤ other) next next_from low still;
      high = still_high (n *ℤ qp) (n *ℤ other) ((n +ℤ b) *ℤ other) next next_from high still;
    }))
  where
    longer : (nqm n_other b_other long next : ℤ) → pos 0 ≤ℤ next → nqm ≤ℤ n_other → long ≡ n_other +ℤ b_other → pos 0 ≤ℤ b_other → (nqm -ℤ next) ≤ℤ long
    longer nqm n_other b_other long next f a b c = omega (arith, ints)

    shorter : (nqp n_other b_other minus long next : ℤ) → pos 0 ≤ℤ next → n_other ≤ℤ nqp → long ≡ n_other +ℤ b_other → minus ≡ neg_ℤ b_other → pos 0 ≤ℤ minus → long ≤ℤ (nqp +ℤ next)
    shorter nqp n_other b_other minus long next f a b c d = omega (arith, ints)

    kept_high : (nqp next j v w : ℤ) → (v +ℤ j) ≤ℤ (nqp +ℤ next) → IsWithin j (w -ℤ v) → w ≤ℤ (nqp +ℤ next)
    kept_high nqp next j v w a within = omega (arith, ints, within.high)

    kept_low : (nqm next j v w : ℤ) → ((nqm -ℤ next) +ℤ j) ≤ℤ v → IsWithin j (w -ℤ v) → (nqm -ℤ next) ≤ℤ w
    kept_low nqm next j v w a within = omega (arith, ints, within.low)

    still_low : (a b c next : ℤ) → pos 0 ≤ℤ next → a ≤ℤ b → c ≡ b → (a -ℤ next) ≤ℤ c
    still_low a b c next f le is = omega (arith, ints)

    still_high : (a b c next : ℤ) → pos 0 ≤ℤ next → b ≤ℤ a → c ≡ b → c ≤ℤ (a +ℤ next)
    still_high a b c next f le is = omega (arith, ints)
