-- What a macrotick makes of all nodes, and up to which macrotick nothing happens.
use Rattle.std.specs.Prelude.{ℕ, ◌-◌, ◌≡◌, ◌≤◌, ◌<◌, suc, Bool, false, not, ◌&&◌, ◌||◌, List, [], ◌∷◌, Option, Some, None}
use Rattle.fr_base.specs.declared.channel.Channel.TheVariants as channel
use Rattle.fr_cluster.specs.Values.{Values}
use Rattle.fr_cluster.specs.Questions.{has_channel, node_of}
use Rattle.fr_cold.specs.Node.{acts, sends}
use Rattle.fr_cold.specs.Cluster.{Switches, action_of, macroticks_of_cycle, ready_states, states_at}
use Rattle.fr_cold.specs.StartupLaws.{IsNumber}
use Rattle.fr_cold.specs.declared.state.ColdState.{ColdState}
use Rattle.fr_cold.specs.View.{PowerView}
use Rattle.fr_cold.specs.Questions.{IsUnswitched, macroticks_of_run, switches_of}
use Rattle.fr_cold.specs.Cold.{ColdView, leads_left, state_in}
use Rattle.fr_cold.specs.Leads.{lead_at, leads_at, leads_in}
use Rattle.fr_cold.specs.declared.cold.Lead.{Lead}

-- the states of all nodes after the first two parts of a macrotick
abbrev pub ready_at : Values → PowerView → ℕ → ℕ → ColdState
ready_at p v t = ready_states p (switches_of p v) t (states_at p (switches_of p v) t)

-- whether a node in a state hears something, by which channels are busy
abbrev pub hears_by : Values → ℕ → ColdState → Bool → Bool → ℕ → Bool
hears_by p t s busy_a busy_b node =
    not (sends (macroticks_of_cycle p) (action_of p node) t s) && ((has_channel (node_of p node) channel.A && busy_a) || (has_channel (node_of p node) channel.B && busy_b))

-- from a macrotick up to another no node is switched, and none of the nodes below a number acts by itself
pub record IsQuietUpTo (p : Values) (v : PowerView) (states : List ColdState) (from to number : ℕ) : Type 0 where
  pub switches : (t : ℕ) → from ≤ t → t < to → IsUnswitched v t
  pub acts : (t node : ℕ) → from ≤ t → t < to → IsNumber node → node < number → acts (macroticks_of_cycle p) (action_of p node) t (state_in states node) ≡ false

-- of the nodes after one, the first that begins to lead at a macrotick, if there is one
abbrev pub IsNextBeginner : Values → Switches → ℕ → ℕ → Option ℕ → Type 0
IsNextBeginner p switches t told None = leads_at p switches t (suc told) (64 - told) ≡ []
IsNextBeginner p switches t told (Some node) =
    leads_at p switches t (suc told) (64 - told) ≡ lead_at t node ∷ leads_at p switches t (suc node) (64 - node)

-- a macrotick is over, or a begin is told
abbrev pub Steps : Values → PowerView → ColdView → ColdView → Option Lead → Type 0
Steps p v before after None = (before.at < after.at) × (leads_left p v before ≡ leads_left p v after)
Steps p v before after (Some lead) = leads_left p v before ≡ lead ∷ leads_left p v after

-- it moves on, and no begin lies between
pub record IsSkipped (p : Values) (v : PowerView) (before after : ColdView) : Type 0 where
  pub later : before.at ≤ after.at
  pub told : after.told ≡ 0
  pub same : leads_in p (switches_of p v) before.at (macroticks_of_run p v - before.at) ≡ leads_in p (switches_of p v) after.at (macroticks_of_run p v - after.at)
