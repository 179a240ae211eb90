-- Values that may be 0: where all that a node has of the others may be, so may their midpoint.
use Rattle.std.specs.Prelude.{◌≡◌, ◌==◌, not, true, ℤ, pos, ◌+ℤ◌, ◌-ℤ◌, ◌*ℤ◌, ◌≤ℤ◌, List, [], ◌∷◌, Option}
use Rattle.std.specs.Option.{option_map}
use Rattle.fr_base.specs.Within.{IsBetween}
use Rattle.fr_course.specs.Computed.{deviation_seen, rate_value_seen}
use Rattle.fr_course.specs.Measures.{Measuring}
use Rattle.fr_course.specs.declared.courses.Course.{Course}
use Rattle.fr_course.specs.declared.intervals.Interval.{Interval}
use Rattle.fr_course.specs.Scales.{Scale}
use Rattle.fr_course.specs.Terms.{rate_step_seen}
use Rattle.fr_observe.specs.Observing.{terms_of}
use Rattle.fr_sightings.specs.declared.sender.Sender.{Sender}
use Rattle.fr_observe.specs.declared.term.Term.{Term}
use Rattle.fr_observe.specs.declared.term.Term.TheVariants as term

-- 0 lies in an interval
abbrev pub MayBeZero : Interval → Type 0
MayBeZero interval = IsBetween interval.low interval.high (pos 0)

-- so many macroticks ahead of a receiver's action point, in cycles from the one length to the other, may lie a sender's
pub record MayMeet (scale : Scale) (receiver sender : Interval) (ahead : ℤ) (lengths : Interval) : Type 0 where
  pub before : (ahead *ℤ lengths.low) ≤ℤ (scale.macros *ℤ ((sender.high -ℤ receiver.low) +ℤ scale.micro_to))
  pub behind : (scale.macros *ℤ ((sender.low -ℤ receiver.high) -ℤ scale.micro_to)) ≤ℤ (ahead *ℤ lengths.high)

-- what a receiver has of a sender for a term
abbrev pub value_for : Term → Scale → Measuring → Course → Course → Interval
value_for term.Offset scale m receiver sender = deviation_seen scale m receiver sender
value_for term.Rate scale m receiver sender = rate_value_seen scale m receiver sender

-- what is seen of a term of it
abbrev pub seen_for : Term → Scale → Sender → Option Interval
seen_for term.Offset scale s = terms_of scale s
seen_for term.Rate scale s = option_map (rate_step_seen scale s.course) s.next

-- what it has of those of some senders that are others
abbrev pub OthersMayBeZero : Term → Scale → Measuring → Sender → List Sender → Type 0
OthersMayBeZero what scale m s [] = Unit {0}
OthersMayBeZero what scale m s (other ∷ others) =
    (not (other.node == s.node) ≡ true → MayBeZero (value_for what scale m s.course other.course))
    × OthersMayBeZero what scale m s others
