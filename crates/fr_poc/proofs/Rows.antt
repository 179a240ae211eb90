-- The definition of operation control, computed on worked rows.
use Rattle.std.specs.Prelude.{◌≡◌, true, false, List, [], ◌∷◌, refl}
use Rattle.fr_base.specs.declared.State.{State}
use Rattle.fr_base.specs.declared.State.TheVariants.{Active, Passive, Halt}
use Rattle.fr_base.specs.declared.Outcome.{Outcome}
use Rattle.fr_base.specs.declared.Outcome.TheVariants.{Within, Missing, Exceeded}
use Rattle.fr_poc.specs.declared.control.PocLimits.{PocLimits}
use Rattle.fr_poc.specs.Control.{Status, first_status, step_of, control_of}

-- passive from 2, fatal from 4, Halt allowed, active again after 2
abbrev row_limits : PocLimits
row_limits = record { passive = 2; fatal = 4; halt_allowed = true; to_active = 2 }

-- the states along a list of outcomes of the offset correction, the rate's being Within
states_along : PocLimits → Status → List Outcome → List State
states_along limits status [] = []
states_along limits status (outcome ∷ outcomes) =
    (step_of limits status outcome Within).state ∷ states_along limits (step_of limits status outcome Within) outcomes

-- passive after two missing corrections, active again after two
activated : states_along row_limits first_status (Missing ∷ Missing ∷ Within ∷ Within ∷ []) ≡ Active ∷ Passive ∷ Passive ∷ Active ∷ []
unfolding states_along
activated = refl

-- halted after four missing corrections
halted : states_along row_limits first_status (Missing ∷ Missing ∷ Missing ∷ Missing ∷ []) ≡ Active ∷ Passive ∷ Passive ∷ Halt ∷ []
unfolding states_along
halted = refl

-- halted by a correction outside its limit, and from then on
exceeded : states_along row_limits first_status (Exceeded ∷ Within ∷ []) ≡ Halt ∷ Halt ∷ []
unfolding states_along
exceeded = refl

-- passive by a correction outside its limit where Halt is not allowed
exceeded_not_halted :
    control_of (record row_limits { halt_allowed = false }) ((Exceeded, Missing) ∷ []) ≡ record { state = Passive; bad = 0; good = 0 }
exceeded_not_halted = refl

-- the whole status after a list of pairs of outcomes
counted :
    control_of row_limits ((Missing, Within) ∷ (Within, Missing) ∷ (Within, Within) ∷ []) ≡ record { state = Passive; bad = 0; good = 1 }
counted = refl
