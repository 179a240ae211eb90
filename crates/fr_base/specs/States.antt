-- States of operation control and outcomes of corrections, as tests, numbers and words.
use Rattle.std.specs.Prelude.{ℕ, Bool, true, false, List, codes}
use Rattle.fr_base.specs.declared.state.State.{State}
use Rattle.fr_base.specs.declared.state.State.TheVariants.{Active, Passive, Halt}
use Rattle.fr_base.specs.declared.state.Outcome.{Outcome}
use Rattle.fr_base.specs.declared.state.Outcome.TheVariants.{Within, Missing, Exceeded}

-- whether a node sends
abbrev pub is_active : State → Bool
is_active Active = true
is_active Passive = false
is_active Halt = false

-- whether it neither sends nor receives
abbrev pub is_halted : State → Bool
is_halted Active = false
is_halted Passive = false
is_halted Halt = true

-- a state as it is spelt
abbrev pub state_text : State → List ℕ
state_text Active = codes "active"
state_text Passive = codes "passive"
state_text Halt = codes "halt"

-- one for a correction term that was cut
abbrev pub cut_of : Outcome → ℕ
cut_of Within = 0
cut_of Missing = 0
cut_of Exceeded = 1
