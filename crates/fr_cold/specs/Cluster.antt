-- What all nodes of a cluster do, macrotick by macrotick from the begin of the run.
use Rattle.std.specs.Prelude.{ℕ, zero, suc, Bool, false, not, ◌&&◌, ◌||◌, Option}
use Rattle.std.specs.Option.{option_map_or}
use Rattle.fr_base.specs.declared.channel.Channel.{Channel}
use Rattle.fr_base.specs.declared.channel.Channel.TheVariants as channel
use Rattle.fr_cluster.specs.Values.{Values, amount}
use Rattle.fr_cluster.specs.Questions.{has_channel, is_common, node_of, own_key}
use Rattle.fr_cluster.specs.declared.names.ParamName.TheVariants as name
use Rattle.fr_time.specs.Slots.{action_point_of}
use Rattle.fr_cold.specs.Node.{heard, is_resolved, resolved, sends, sent, switched}
use Rattle.fr_cold.specs.declared.state.ColdState.{ColdState}
use Rattle.fr_cold.specs.declared.state.ColdState.TheVariants as state
use Rattle.fr_cold.specs.declared.state.Switch.{Switch}

-- how each node is switched at each macrotick: by macrotick, and then by the node's number
abbrev pub Switches : Type 0
Switches = ℕ → ℕ → Option Switch

-- what each node does, by its number
abbrev pub States : Type 0
States = ℕ → ColdState

-- the macroticks of a cycle
abbrev pub macroticks_of_cycle : Values → ℕ
macroticks_of_cycle p = amount p name.gMacroPerCycle

-- the macrotick of its cycle at which a node sends its startup frames, that of the action point of its key slot; a
-- coldstart node has a key slot
unfoldable pub action_of : Values → ℕ → ℕ
action_of p node = option_map_or (λ slot. action_point_of p slot) (own_key p node) 0

-- the states after the first two parts of a macrotick
unfoldable pub ready_states : Values → Switches → ℕ → States → States
ready_states p switches t states node = resolved (macroticks_of_cycle p) t (switched (switches t node) t (states node))

-- whether a node sends, the states being those after the first two parts
unfoldable pub is_sending : Values → ℕ → States → ℕ → Bool
is_sending p t states node = sends (macroticks_of_cycle p) (action_of p node) t (states node)

-- whether one of the nodes 1 to n sends on a channel
unfoldable pub is_busy : Values → ℕ → States → Channel → ℕ → Bool
is_busy p t states ch zero = false
is_busy p t states ch (suc n) = is_busy p t states ch n || (is_sending p t states (suc n) && has_channel (node_of p (suc n)) ch)

-- whether a node hears something: it sends nothing itself, and another node sends on a channel that it has
unfoldable pub is_hearing : Values → ℕ → States → ℕ → Bool
is_hearing p t states node =
    not (is_sending p t states node)
    && ((has_channel (node_of p node) channel.A && is_busy p t states channel.A 64)
    || (has_channel (node_of p node) channel.B && is_busy p t states channel.B 64))

-- the states after the last two parts, of those after the first two
unfoldable pub moved_states : Values → ℕ → States → States
moved_states p t states node = heard (is_hearing p t states node) t (sent (macroticks_of_cycle p) t (states node))

-- one macrotick
unfoldable pub after_macrotick : Values → Switches → ℕ → States → States
after_macrotick p switches t states = moved_states p t (ready_states p switches t states)

-- the states after the macroticks below a number of them: at the begin all nodes are off
unfoldable pub states_at : Values → Switches → ℕ → States
states_at p switches zero = λ node. state.Off
states_at p switches (suc t) = after_macrotick p switches t (states_at p switches t)

-- whether a node begins to lead at a macrotick
unfoldable pub begins_at : Values → Switches → ℕ → ℕ → Bool
begins_at p switches t node = is_resolved (macroticks_of_cycle p) t (switched (switches t node) t (states_at p switches t node))

-- whether two nodes share a channel
abbrev pub is_sharing : Values → ℕ → ℕ → Bool
is_sharing p a b = is_common p a b channel.A || is_common p a b channel.B
