-- Where deviations come from.
use Rattle.std.proofs.Common.{◌≡◌, ℕ, ◌+◌, ◌-◌, ◌*◌, ◌<◌, ◌≤◌, Bool, true, false, ℤ, pos, refl, ap, sym, ◌∙◌, subst, arith}
use Rattle.std.specs.Prelude.{◌+ℤ◌, ◌-ℤ◌, ◌*ℤ◌, ◌≤ℤ◌, ◌<ℤ◌, nat_abs}
use Rattle.std.proofs.lemmas.Int.{ints}
use Rattle.fr_base.specs.declared.channel.Channel.{Channel}
use Rattle.fr_base.specs.declared.channel.Channel.TheVariants as channel
use Rattle.fr_base.specs.declared.node_row.NodeRow.{NodeRow}
use Rattle.fr_cluster.specs.Values.{Values, amount}
use Rattle.fr_cluster.specs.Sane.{IsSane}
use Rattle.fr_cluster.specs.Questions.{compensation_of}
use Rattle.fr_cluster.specs.declared.names.ParamName.TheVariants as name
use Rattle.fr_base.specs.Within.{IsWithin}
use Rattle.fr_midpoint.proofs.Products.{subz-mulz, mulz-lez, mulz-subz, mulz_within}
use Rattle.fr_time.specs.Position.{even_position, floor_of, grid_for}
use Rattle.fr_time.specs.Instant.{instant_of}
use Rattle.fr_time.specs.Slots.{action_point_of}
use Rattle.fr_time.proofs.Placing.{action_point_lt}
use Rattle.fr_bound.specs.Bounds.{arrival_error, nominal, widest}
use Rattle.fr_precision.specs.Rows.{HasProperMicro}
use Rattle.fr_precision.specs.Instants.{gap_of}
use Rattle.fr_precision.specs.Deviations.{CountedIsDeviation, RecordedIsDeviation}
use Rattle.fr_precision.proofs.InstantLaws.{before_correction}
use Rattle.fr_time.proofs.Lines.{rest_of}
use Rattle.fr_precision.proofs.OffsetLaws.{micro_lasts}
use Rattle.fr_precision.proofs.ReceptionLaws.{ends_before, within_widest}

-- an instant up to the offset correction is that of the position by the rule of even cycles
pub early_is : (p : Values) (row : NodeRow) (is_odd : Bool) (macrotick : ℤ) → macrotick ≤ℤ p.correction
    → instant_of (grid_for p) row is_odd macrotick ≡ row.start +ℤ (even_position (grid_for p) row.rate macrotick *ℤ row.length)
early_is p row false macrotick to = refl
early_is p row true macrotick to = before_correction p row macrotick to

-- the compensation of a channel, and how far a microtick lies from the nominal one
pub compensation_within : (p : Values) (ch : Channel) → IsSane p → (pos 0 ≤ℤ compensation_of p ch) × (compensation_of p ch ≤ℤ pos (widest p))
compensation_within p channel.A sane = ((sane.ranges name.pDelayCompensationA).0, within_widest p channel.A)
compensation_within p channel.B sane = ((sane.ranges name.pDelayCompensationB).0, within_widest p channel.B)

pub micro_within : (p : Values) (row : NodeRow) → IsSane p → HasProperMicro p row → IsWithin (pos (amount p name.xRateBound)) (pos nominal -ℤ row.length)
micro_within p row sane micro =
    let drift = sane.ranges name.xRateBound in
    step (amount p name.xRateBound) row.length (most p.rate_bound drift.0 drift.1) micro.least micro.most
  where
    most : (d : ℤ) → pos 0 ≤ℤ d → d ≤ℤ pos 1500 → nat_abs d ≤ 1500
    most d from to = omega (arith, ints)

    step : (d : ℕ) (t : ℤ) → d ≤ 1500 → pos (1_000_000 - d) ≤ℤ t → t ≤ℤ pos (1_000_000 + d) → IsWithin (pos d) (pos 1_000_000 -ℤ t)
    step d t a b c = record { low = omega (arith, ints); high = omega (arith, ints) }

-- what counting leaves of a gap: the delay's error, the compensation in microticks of another length, and a rest
left_of_gap : (f u g t s y d q ft ut gt un w v vt : ℤ)
    → v ≡ (f -ℤ u) -ℤ g → vt ≡ (ft -ℤ ut) -ℤ gt → q ≡ ((y +ℤ d) -ℤ s) -ℤ ft → w ≡ un -ℤ ut
    → vt -ℤ (y -ℤ (s +ℤ gt)) ≡ ((d -ℤ un) +ℤ w) -ℤ q
left_of_gap f u g t s y d q ft ut gt un w v vt a b c e = omega (arith, ints)

bounded : (vt gap x w q t : ℤ) (e k : ℕ) → vt -ℤ gap ≡ (x +ℤ w) -ℤ q → IsWithin (pos e) x → IsWithin (pos k) w → pos 0 ≤ℤ q → (q +ℤ pos 1) ≤ℤ t
    → ((gap -ℤ (pos (e + k) +ℤ t)) <ℤ vt) × (vt ≤ℤ (gap +ℤ pos (e + k)))
bounded vt gap x w q t e k is near wide from to = (omega (arith, ints, near.low, wide.low), omega (arith, ints, near.high, wide.high))

pub counted_is_deviation : CountedIsDeviation
counted_is_deviation p delay slot ch is_odd row sender sane static some micro near =
    let a = pos (action_point_of p slot) in
    let y = instant_of (grid_for p) sender is_odd a in
    let t = row.length in
    let f = floor_of ((y +ℤ delay) -ℤ row.start) t in
    let u = compensation_of p ch in
    let g = even_position (grid_for p) row.rate a in
    let lasts = micro_lasts p row sane micro in
    let rest = rest_of ((y +ℤ delay) -ℤ row.start) t lasts.some in
    let acts : a ≤ℤ p.correction = sooner (action_point_of p slot) _ p.correction (action_point_lt p slot sane some) (ends_before p slot sane static) in
    let range = compensation_within p ch sane in
    let wide : IsWithin (pos (widest p * amount p name.xRateBound)) (u *ℤ (pos nominal -ℤ t)) = mulz_within u (pos nominal -ℤ t) (pos (widest p)) (pos (amount p name.xRateBound)) range.0 range.1 (micro_within p row sane micro) in
    let is =
    left_of_gap f u g t row.start y delay (((y +ℤ delay) -ℤ row.start) -ℤ (f *ℤ t)) (f *ℤ t) (u *ℤ t) (g *ℤ t) (u *ℤ pos nominal) (u *ℤ (pos nominal -ℤ t)) ((f -ℤ u) -ℤ g) (((f -ℤ u) -ℤ g) *ℤ t)
    refl (spread f u g t) refl (mulz-subz (pos nominal) t u) in
    let both =
    bounded (((f -ℤ u) -ℤ g) *ℤ t) (y -ℤ (row.start +ℤ (g *ℤ t))) (delay -ℤ (u *ℤ pos nominal)) (u *ℤ (pos nominal -ℤ t)) (((y +ℤ delay) -ℤ row.start) -ℤ (f *ℤ t)) t
    (amount p name.xDelayError) (widest p * amount p name.xRateBound) is near wide rest.from rest.to in
    let At : ℤ → Type 0 = λ x. (((y -ℤ x) -ℤ (pos (arrival_error p) +ℤ t)) <ℤ (((f -ℤ u) -ℤ g) *ℤ t)) × ((((f -ℤ u) -ℤ g) *ℤ t) ≤ℤ ((y -ℤ x) +ℤ pos (arrival_error p))) in
    let placed : At (instant_of (grid_for p) row is_odd a) = subst At (sym (early_is p row is_odd a acts)) both in
    record { low = placed.0; high = placed.1 }
  where
    sooner : (a hi : ℕ) (o : ℤ) → a < hi → pos hi ≤ℤ o → pos a ≤ℤ o
    sooner a hi o less le = omega (arith, ints)

    spread : (f u g t : ℤ) → ((f -ℤ u) -ℤ g) *ℤ t ≡ ((f *ℤ t) -ℤ (u *ℤ t)) -ℤ (g *ℤ t)
    spread f u g t = subz-mulz (f -ℤ u) g t ∙ ap (λ x. x -ℤ (g *ℤ t)) (subz-mulz f u t)

pub recorded_is_deviation : RecordedIsDeviation
recorded_is_deviation p is_odd action value row sender lasts from to =
    let gap = gap_of p is_odd action sender row in
    let e = pos (arrival_error p) in
    let t = row.length in
    let t_from : pos 0 ≤ℤ t = omega (arith, ints, lasts.some) in
    let low = rest_of (gap -ℤ e) t lasts.some in
    let high = rest_of (gap +ℤ e) t lasts.some in
    let both =
    step gap e t (value *ℤ t) (floor_of (gap -ℤ e) t *ℤ t) (floor_of (gap +ℤ e) t *ℤ t) low.to high.from
    (mulz-lez (floor_of (gap -ℤ e) t) value t from t_from) (mulz-lez value (floor_of (gap +ℤ e) t) t to t_from) in
    record { low = both.0; high = both.1 }
  where
    step : (gap e t v lo hi : ℤ) → (((gap -ℤ e) -ℤ lo) +ℤ pos 1) ≤ℤ t → pos 0 ≤ℤ ((gap +ℤ e) -ℤ hi) → lo ≤ℤ v → v ≤ℤ hi → ((gap -ℤ (e +ℤ t)) <ℤ v) × (v ≤ℤ (gap +ℤ e))
    step gap e t v lo hi a b c d = (omega (arith, ints), omega (arith, ints))
