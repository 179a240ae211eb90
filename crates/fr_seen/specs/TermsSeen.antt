-- Which correction terms a node applied at the end of a double cycle in which it was seen, and in the next one too.
use Rattle.std.specs.Prelude.{ℕ, ◌≡◌, ◌-ℤ◌, Option}
use Rattle.std.specs.Option.{ForSome}
use Rattle.fr_base.specs.Within.{IsBetween}
use Rattle.fr_cluster.specs.Values.{Values}
use Rattle.fr_cluster.specs.Sane.{IsSane}
use Rattle.fr_precision.specs.Rows.{IsSteady}
use Rattle.fr_course.specs.declared.intervals.Interval.{Interval}
use Rattle.fr_course.specs.Readings.{reading_scale}
use Rattle.fr_course.specs.Terms.{offset_seen, rate_step_seen}
use Rattle.fr_seen.specs.Clocks.{IsWithinDrift, LastsIn, StraightClock}
use Rattle.fr_seen.specs.Courses.{even_action, odd_action}
use Rattle.fr_seen.specs.Skews.{IsOnCourses, SeenTwice}

-- a node that sends at the same macrotick in both double cycles, with a microtick that is steady from the one to the other;
-- and what spans its action points there
pub record GoesOn (p : Values) (drift : ℕ) (clock : StraightClock) (node : SeenTwice) (span : Option Interval) : Type 0 where
  pub sane : IsSane p
  pub within_drift : IsWithinDrift drift clock
  pub on : IsOnCourses p drift clock node
  pub same_action : node.second.course.action ≡ node.first.course.action
  pub steady : IsSteady p node.first.odd node.second.even
  pub spanned :
      ForSome span
      (λ long. LastsIn clock long
      (even_action p node.second.even node.first.course.action -ℤ odd_action p node.first.odd node.first.course.action))

-- its offset term, and its next rate term less the one before, lie where the courses see them
abbrev pub OffsetsAreSeen : Type 0
OffsetsAreSeen =
    (p : Values) (drift : ℕ) (clock : StraightClock) (node : SeenTwice) (span : Option Interval) → GoesOn p drift clock node span
    → IsBetween (offset_seen (reading_scale drift p) node.first.course node.second.course span).low
    (offset_seen (reading_scale drift p) node.first.course node.second.course span).high node.first.odd.offset

abbrev pub RateStepsAreSeen : Type 0
RateStepsAreSeen =
    (p : Values) (drift : ℕ) (clock : StraightClock) (node : SeenTwice) (span : Option Interval) → GoesOn p drift clock node span
    → IsBetween (rate_step_seen (reading_scale drift p) node.first.course node.second.course).low
    (rate_step_seen (reading_scale drift p) node.first.course node.second.course).high
    (node.second.even.rate -ℤ node.first.odd.rate)
