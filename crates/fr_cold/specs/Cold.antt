-- What a run of startup has come to.
use Rattle.std.specs.Prelude.{ℕ, ◌-◌, ◌≡◌, ◌≤◌, List, [], ◌∷◌, slice_index_or, Option, Some, None}
use Rattle.fr_cluster.specs.Values.{Values}
use Rattle.fr_cold.specs.Cluster.{States, states_at}
use Rattle.fr_cold.specs.StartupLaws.{IsNumber}
use Rattle.fr_cold.specs.declared.state.ColdState.{ColdState}
use Rattle.fr_cold.specs.declared.state.ColdState.TheVariants as state
use Rattle.fr_cold.specs.View.{PowerView}
use Rattle.fr_cold.specs.Questions.{macroticks_of_run, switches_of}
use Rattle.fr_cold.specs.Leads.{leads_after}
use Rattle.fr_cold.specs.declared.cold.Lead.{Lead}

-- the macrotick that comes next, up to which node its begins are told, and what each node does before it, by the nodes'
-- numbers from 1 on
pub record ColdView : Type 0 where
  pub at : ℕ
  pub told : ℕ
  pub states : List ColdState

-- what a node does, of a list by the nodes' numbers
abbrev pub state_in : List ColdState → ℕ → ColdState
state_in states node = slice_index_or states (node - 1) state.Off

-- a list has what each node does
abbrev pub Agrees : List ColdState → States → Type 0
Agrees list states = (node : ℕ) → IsNumber node → state_in list node ≡ states node

-- it stands for the startup of these parameters and this power file at its moment: it has what each node does after the
-- macroticks below its own, which lies in the run or at its end
pub record StandsForStartup (p : Values) (v : PowerView) (c : ColdView) : Type 0 where
  pub within : c.at ≤ macroticks_of_run p v
  pub states : Agrees c.states (states_at p (switches_of p v) c.at)

-- the begins that are still to be told
abbrev pub leads_left : Values → PowerView → ColdView → List Lead
leads_left p v c = leads_after p v c.at c.told

-- the next begin is told, and comes off those that are still to be told; where there is none it stands at the end of the run
pub record IsRunOver (p : Values) (v : PowerView) (before after : ColdView) : Type 0 where
  pub none : leads_left p v before ≡ []
  pub ended : after.at ≡ macroticks_of_run p v

abbrev pub TellsLead : Values → PowerView → ColdView → ColdView → Option Lead → Type 0
TellsLead p v before after None = IsRunOver p v before after
TellsLead p v before after (Some lead) = leads_left p v before ≡ lead ∷ leads_left p v after
