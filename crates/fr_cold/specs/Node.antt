-- What one coldstart node does at a macrotick, in four parts.
use Rattle.std.specs.Prelude.{ℕ, ◌+◌, ◌-◌, ◌*◌, ◌%◌, ◌==◌, nat_lt, Bool, true, false, not, ◌&&◌, ◌||◌, Option, Some, None, if◌then◌else◌}
use Rattle.fr_cold.specs.declared.state.ColdState.{ColdState}
use Rattle.fr_cold.specs.declared.state.ColdState.TheVariants as state
use Rattle.fr_cold.specs.declared.state.Switch.{Switch}
use Rattle.fr_cold.specs.declared.state.Switch.TheVariants as switch

-- first: a node that is switched off is off, and one that is switched on listens from this macrotick on
abbrev pub switched : Option Switch → ℕ → ColdState → ColdState
switched None t s = s
switched (Some switch.On) t s = state.Listening t
switched (Some switch.Off) t s = state.Off

-- whether collision resolution ends: four cycles after the macrotick that follows the symbol
abbrev pub is_resolved : ℕ → ℕ → ColdState → Bool
is_resolved cycle t state.Off = false
is_resolved cycle t (state.Listening since) = false
is_resolved cycle t (state.Resolving begun) = t == begun + 1 + 4 * cycle
is_resolved cycle t (state.Leading begun) = false

-- then: a node whose collision resolution ends leads
abbrev pub resolved : ℕ → ℕ → ColdState → ColdState
resolved cycle t state.Off = state.Off
resolved cycle t (state.Listening since) = state.Listening since
resolved cycle t (state.Resolving begun) = if t == begun + 1 + 4 * cycle then state.Leading begun else state.Resolving begun
resolved cycle t (state.Leading begun) = state.Leading begun

-- whether a macrotick is a first one or follows it by whole cycles
abbrev pub is_turn : ℕ → ℕ → ℕ → Bool
is_turn first cycle t = not (nat_lt t first) && ((t - first) % cycle == 0)

-- whether a node sends the collision avoidance symbol: it has listened for two cycles
abbrev pub is_symbol : ℕ → ℕ → ColdState → Bool
is_symbol cycle t state.Off = false
is_symbol cycle t (state.Listening since) = t == since + 2 * cycle
is_symbol cycle t (state.Resolving begun) = false
is_symbol cycle t (state.Leading begun) = false

-- whether a node sends a startup frame: its first cycle begins right after the symbol, and it sends at the action point
-- of its key slot in each cycle
abbrev pub is_frame : ℕ → ℕ → ℕ → ColdState → Bool
is_frame cycle action t state.Off = false
is_frame cycle action t (state.Listening since) = false
is_frame cycle action t (state.Resolving begun) = is_turn (begun + 1 + action) cycle t
is_frame cycle action t (state.Leading begun) = is_turn (begun + 1 + action) cycle t

-- third: whether it sends either
abbrev pub sends : ℕ → ℕ → ℕ → ColdState → Bool
sends cycle action t s = is_symbol cycle t s || is_frame cycle action t s

-- a node that sends the symbol begins collision resolution
abbrev pub sent : ℕ → ℕ → ColdState → ColdState
sent cycle t state.Off = state.Off
sent cycle t (state.Listening since) = if t == since + 2 * cycle then state.Resolving t else state.Listening since
sent cycle t (state.Resolving begun) = state.Resolving begun
sent cycle t (state.Leading begun) = state.Leading begun

-- fourth: a node that hears something listens anew, unless it leads
abbrev pub heard : Bool → ℕ → ColdState → ColdState
heard false t s = s
heard true t state.Off = state.Off
heard true t (state.Listening since) = state.Listening t
heard true t (state.Resolving begun) = state.Listening t
heard true t (state.Leading begun) = state.Leading begun

-- whether it leads
abbrev pub is_leading : ColdState → Bool
is_leading state.Off = false
is_leading (state.Listening since) = false
is_leading (state.Resolving begun) = false
is_leading (state.Leading begun) = true

-- whether a node acts by itself at a macrotick
abbrev pub acts : ℕ → ℕ → ℕ → ColdState → Bool
acts cycle action t s = is_resolved cycle t s || sends cycle action t s
