-- The begins of leading in a run of startup, by time and then by node.
use Rattle.std.specs.Prelude.{ℕ, zero, suc, pos, ◌-◌, ◌++◌, nat_lt, Bool, true, false, List, [], ◌∷◌}
use Rattle.fr_cluster.specs.Values.{Values}
use Rattle.fr_cold.specs.Cluster.{Switches, begins_at}
use Rattle.fr_cold.specs.View.{PowerView}
use Rattle.fr_cold.specs.Questions.{macroticks_of_run, switches_of}
use Rattle.fr_cold.specs.declared.cold.Lead.{Lead}

-- a node that begins to lead at a macrotick
abbrev pub lead_at : ℕ → ℕ → Lead
lead_at t node = record { node = node; at = pos t }

-- a begin before others, if it is one
abbrev pub if_lead : Bool → Lead → List Lead → List Lead
if_lead true lead rest = lead ∷ rest
if_lead false lead rest = rest

-- those of a macrotick, of so many nodes from one on
unfoldable pub leads_at : Values → Switches → ℕ → ℕ → ℕ → List Lead
leads_at p switches t node zero = []
leads_at p switches t node (suc n) = if_lead (begins_at p switches t node) (lead_at t node) (leads_at p switches t (suc node) n)

-- those of so many macroticks from one on: the nodes have the numbers 1 to 64
unfoldable pub leads_in : Values → Switches → ℕ → ℕ → List Lead
leads_in p switches t zero = []
leads_in p switches t (suc n) = leads_at p switches t 1 64 ++ leads_in p switches (suc t) n

-- those of a run
unfoldable pub leads_of : Values → PowerView → List Lead
leads_of p v = leads_in p (switches_of p v) 0 (macroticks_of_run p v)

-- those from a macrotick on, without those of the nodes up to one of them at that macrotick
abbrev pub leads_or_none : Bool → List Lead → List Lead
leads_or_none true leads = leads
leads_or_none false leads = []

unfoldable pub leads_after : Values → PowerView → ℕ → ℕ → List Lead
leads_after p v t node =
    leads_or_none (nat_lt t (macroticks_of_run p v))
    (leads_at p (switches_of p v) t (suc node) (64 - node) ++ leads_in p (switches_of p v) (suc t) (macroticks_of_run p v - suc t))
