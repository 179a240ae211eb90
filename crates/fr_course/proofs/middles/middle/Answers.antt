use Rattle.std.proofs.Common.{◌≡◌, ◌∙◌, ℕ, ◌+◌, ◌-◌, ◌<◌, min, Option, length, arith, sym, subst, ap}
use Rattle.fr_course.specs.Readings.{Interval}
use Rattle.fr_course.specs.Ends.{AreRanked}
use Rattle.fr_course.specs.Middles.{highs_of, hull, lows_of, middle}
use Rattle.fr_course.proofs.Middling.{middle-least, middle-more, middle-none}
use Rattle.fr_course.proofs.middles.middle.Goals as goal

pub loop-missed-init : goal.loop-missed-init
loop-missed-init c =
    let known = c.args.known.now in
    let lows = subst (AreRanked (lows_of known)) (sym c.as_slice-lows.ensures.value) c.ranked-low_ends.ensures in
    let highs = subst (AreRanked (highs_of known)) (sym c.as_slice-highs.ensures.value) c.ranked-high_ends.ensures in
    (c.middle_missing-all.ensures.value known lows highs ∙ sym (middle-none c.args.further known), c.middle_missing-all.ensures.near)

pub loop-missed-preserved : goal.loop-missed-preserved
loop-missed-preserved c =
    let known = c.args.known.now in
    let lows = subst (AreRanked (lows_of known)) (sym c.as_slice-lows.ensures.value) c.ranked-low_ends.ensures in
    let highs = subst (AreRanked (highs_of known)) (sym c.as_slice-highs.ensures.value) c.ranked-high_ends.ensures in
    let some : c.loop-missed.missed + 1 < length known = omega arith in (
      c.hull-all.ensures.value
          ∙ ap (λ (so_far : Option Interval). hull so_far c.middle_missing.result) c.loop-missed.invariant.0
          ∙ ap (hull (middle c.args.further c.loop-missed.missed known)) (c.middle_missing.ensures.value known lows highs)
          ∙ sym (middle-more c.args.further c.loop-missed.missed known some),
      c.hull-all.ensures.near,
    )

pub returns-clause-value : goal.returns-clause-value
returns-clause-value c =
    let known = c.args.known.now in
    let last : c.loop-missed.missed ≡ min c.args.lost (length known - 1) = omega arith in
    c.loop-missed.invariant.0 ∙ ap (λ (n : ℕ). middle c.args.further n known) last ∙ middle-least c.args.further c.args.lost known
