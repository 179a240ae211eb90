-- The walk over the static slots of a cycle: slot by slot, and in each slot first on channel A and then on channel B.
use Rattle.std.specs.Prelude.{ℕ, zero, suc}
use Rattle.fr_base.specs.declared.channel.Channel.{Channel}
use Rattle.fr_base.specs.declared.channel.Channel.TheVariants.{A, B}

-- a state after both channels of a slot
abbrev pub after_both_channels : {State : Type 0} → (ℕ → Channel → State → State) → ℕ → State → State
after_both_channels step slot state = step slot B (step slot A state)

-- a state after so many slots
unfoldable pub over_slots : {State : Type 0} → (ℕ → Channel → State → State) → ℕ → State → State
over_slots step zero state = state
over_slots step (suc earlier) state = after_both_channels step (suc earlier) (over_slots step earlier state)
