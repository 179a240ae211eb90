use Rattle.std.proofs.Common.{◌≡◌, ◌∙◌, ℕ, ℤ, ◌+◌, ◌-◌, ◌<◌, FitsSigned, List, pos, length, get_or, drop, map, sym, ap, arith, rules}
use Rattle.std.specs.Int.{int_max}
use Rattle.std.specs.Prelude.{neg_ℤ}
use mir.Syntax.{w128}
use mir.Val.{to_z}
use Rattle.std.proofs.lemmas.Int.{ints, to_z-of_z}
use Rattle.fr_course.specs.Course.{Course}
use Rattle.fr_course.specs.Readings.{meet, Interval}
use Rattle.fr_course.specs.Corners.{corner_place}
use Rattle.fr_course.specs.Extremes.{common}
use Rattle.fr_course.specs.Near.{EndWithin}
use Rattle.fr_course.specs.Spread.{least_spread}
use Rattle.fr_course.proofs.Extremes.{common-more, common-none, least_spread-common}
use Rattle.fr_course.proofs.Limits.{max_between}
use Rattle.fr_course.proofs.Spreads.{nowhere, least_spread-none}
use Rattle.fr_course.proofs.skews.least_at.Goals as goal

pub loop-place-init : goal.loop-place-init
loop-place-init c =
    record {
      within = record { low = omega (arith, ints); high = omega (arith, ints) };
      value = sym (least_spread-none (corner_place c.args.corner c.args.scale.now) c.args.courses.now);
      near = record { low_from = record { le = tt }; low_to = record { le = tt }; high_from = record { le = tt }; high_to = record { le = tt } };
      ends = sym (common-none (corner_place c.args.corner c.args.scale.now) c.args.courses.now);
    }

pub loop-place-preserved : goal.loop-place-preserved
loop-place-preserved c =
    let f : Course → Interval = corner_place c.args.corner c.args.scale.now in
    let courses : List Course = c.args.courses.now in
    let at : ℕ = c.loop-place.place - 1 in
    let next : at + 1 ≡ c.loop-place.place = omega arith in
    let inside : at < length courses = omega arith in
    let so_far = c.loop-place.invariant in
    let apart : FitsSigned w128 c.least_distance.result = search rules in
    let kept : FitsSigned w128 (to_z w128 c.loop-place.least-bits) = omega (arith, ints, so_far.within.low, so_far.within.high) in
    let r : FitsSigned w128 c.max-least.result = search rules in
    let value : c.max-least.result ≡ int_max c.least_distance.result (to_z w128 c.loop-place.least-bits) = cc (to_z-of_z w128 c.least_distance.result apart) in
    let here : c.corner_place-point.result ≡ f (get_or courses at nowhere) = c.corner_place-point.ensures.value in
    let behind : c.loop-place.behind ≡ common (map f (drop (at + 1) courses)) = so_far.ends ∙ ap (λ (n : ℕ). common (map f (drop n courses))) (sym next) in
    let others : (to_z w128 c.loop-place.least-bits) ≡ least_spread (map f (drop (at + 1) courses)) = so_far.value ∙ ap (λ (n : ℕ). least_spread (map f (drop n courses))) (sym next) in
    let all : int_max c.least_distance.result (to_z w128 c.loop-place.least-bits) ≡ least_spread (map f (drop at courses)) =
    ap (λ (x : ℤ). int_max x (to_z w128 c.loop-place.least-bits)) c.least_distance.ensures.value
    ∙ least_spread-common f courses at nowhere c.corner_place-point.result c.loop-place.behind (to_z w128 c.loop-place.least-bits) inside here c.corner_place-point.ensures.near behind others so_far.within.low in
    let met : c.meet-behind.result ≡ common (map f (drop at courses)) =
    c.meet-behind.ensures.value ∙ ap (λ (x : Interval). meet x c.corner_place-point.result) behind ∙ ap (meet (common (map f (drop (at + 1) courses)))) here ∙ sym (common-more f courses at nowhere inside) in
    let near : EndWithin (pos 3_000_000_000_000_000_000) c.meet-behind.result =
    c.meet-behind.ensures.near (neg_ℤ (pos 3_000_000_000_000_000_000)) (pos 3_000_000_000_000_000_000) so_far.near c.corner_place-point.ensures.near in
    simp to_z-of_z (record { within = rw value (max_between (pos 6_000_000_000_000_000_000) c.least_distance.result (to_z w128 c.loop-place.least-bits) c.least_distance.ensures.within so_far.within); value = value ∙ all; near = near; ends = met })
