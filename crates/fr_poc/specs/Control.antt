-- How a node's state follows from its clock corrections (chapter 2, protocol operation control). The exact comparisons
-- are this profile's.
use Rattle.std.specs.Prelude.{◌≡◌, ℕ, ◌+◌, ◌≤◌, min, ◌&&◌, nat_lt, nat_le, if◌then◌else◌, List, [], ◌∷◌, ◌++◌, fold}
use Rattle.fr_base.specs.declared.State.{State}
use Rattle.fr_base.specs.declared.State.TheVariants.{Active, Passive, Halt}
use Rattle.fr_base.specs.declared.Outcome.{Outcome}
use Rattle.fr_base.specs.declared.Outcome.TheVariants.{Within, Missing, Exceeded}
use Rattle.fr_poc.specs.declared.control.PocLimits.{PocLimits}

-- a state; how many double cycles had a correction missing, and none outside its limit, since the last one with both
-- within their limits; and how many in a row a passive node had both within their limits
pub record Status : Type 0 where
  pub state : State
  pub bad : ℕ
  pub good : ℕ

-- operation control of one node: its limits, and how it stands
pub record Control : Type 0 where
  pub limits : PocLimits
  pub status : Status

-- the limits are those of a cluster: a node is passive before it may halt
pub record ArePocLimits (limits : PocLimits) : Type 0 where
  pub passive_from : 1 ≤ limits.passive
  pub passive_to : limits.passive ≤ limits.fatal
  pub fatal_to : limits.fatal ≤ 15
  pub to_active_to : limits.to_active ≤ 31

-- a node begins active, with both counters at 0
abbrev pub first_status : Status
first_status = record { state = Active; bad = 0; good = 0 }

-- the worse of two outcomes: Exceeded is worse than Missing, and Missing than Within
abbrev pub worse_of : Outcome → Outcome → Outcome
worse_of Exceeded rate = Exceeded
worse_of Missing Exceeded = Exceeded
worse_of Missing Missing = Missing
worse_of Missing Within = Missing
worse_of Within rate = rate

-- a correction lay outside its limit: Halt where that is allowed, else Passive; `bad` stays
abbrev pub exceeded_from : PocLimits → Status → Status
exceeded_from limits status = record {
  state = if limits.halt_allowed then Halt else Passive;
  bad = status.bad;
  good = 0;
}

-- the state by the number of double cycles with a correction missing
abbrev pub state_after_bad : PocLimits → State → ℕ → State
state_after_bad limits state bad =
    if limits.halt_allowed && nat_le limits.fatal bad then Halt else (if nat_le limits.passive bad then Passive else state)

-- a correction was missing: one more in `bad`, at most 15, and the state by the new `bad`
abbrev pub missing_from : PocLimits → Status → Status
missing_from limits status = record {
  state = state_after_bad limits status.state (min (status.bad + 1) 15);
  bad = min (status.bad + 1) 15;
  good = 0;
}

-- a passive node with both corrections within their limits for so many double cycles in a row: active again where that
-- is allowed and enough
abbrev pub passive_after_good : PocLimits → ℕ → Status
passive_after_good limits good =
    if nat_lt 0 limits.to_active && nat_le limits.to_active good
    then (record { state = Active; bad = 0; good = 0 })
    else (record { state = Passive; bad = 0; good = good })

-- one step, by the state before it and the worse of the two outcomes; a halted node stays as it is
abbrev pub status_after : PocLimits → Status → State → Outcome → Status
status_after limits status Halt worst = status
status_after limits status Active Exceeded = exceeded_from limits status
status_after limits status Passive Exceeded = exceeded_from limits status
status_after limits status Active Missing = missing_from limits status
status_after limits status Passive Missing = missing_from limits status
status_after limits status Active Within = record { state = Active; bad = 0; good = 0 }
status_after limits status Passive Within = passive_after_good limits (min (status.good + 1) 31)

-- one step of operation control (chapter 2), by the outcomes of the offset and of the rate correction
abbrev pub step_of : PocLimits → Status → Outcome → Outcome → Status
step_of limits status offset rate = status_after limits status status.state (worse_of offset rate)

-- operation control with the step taken
abbrev pub after_double : Control → Outcome → Outcome → Control
after_double control offset rate = record control { status = step_of control.limits control.status offset rate }

-- how a node stands after a list of pairs of outcomes (chapter 2), offset and rate, the earliest first
abbrev pub control_of : PocLimits → List (Outcome × Outcome) → Status
control_of limits outcomes = fold (λ status pair. step_of limits status pair.0 pair.1) first_status outcomes

-- a node begins with no outcomes, and each further pair of outcomes is one more step
pub record ControlStepsAlong : Type 0 where
  pub none : (limits : PocLimits) → control_of limits [] ≡ first_status
  pub more :
      (limits : PocLimits) (outcomes : List (Outcome × Outcome)) (offset rate : Outcome)
      → control_of limits (outcomes ++ (offset, rate) ∷ []) ≡ step_of limits (control_of limits outcomes) offset rate

-- the worse of two outcomes is the same whichever comes first
abbrev pub EitherIsWorse : Type 0
EitherIsWorse = (offset rate : Outcome) → worse_of offset rate ≡ worse_of rate offset
