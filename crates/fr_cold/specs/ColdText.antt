-- What is printed of a startup.
use Rattle.std.specs.Prelude.{ℕ, zero, suc, ◌+◌, ◌-◌, ◌*◌, ◌≡◌, Bool, true, false, not, ◌&&◌, ◌||◌, List, [], ◌∷◌, ◌++◌, Option, Some, None, codes, if◌then◌else◌}
use Rattle.std.specs.Fmt.{decimal, signed_decimal}
use Rattle.fr_cluster.specs.Values.{Values}
use Rattle.fr_cluster.specs.Questions.{is_coldstart}
use Rattle.fr_text.specs.Pieces.{line}
use Rattle.fr_cold.specs.Node.{is_leading}
use Rattle.fr_cold.specs.Cluster.{States, is_sharing, macroticks_of_cycle, states_at}
use Rattle.fr_cold.specs.StartupLaws.{AreConnected, AtMostOneLeads, IsFirstOn, LeadsAlone}
use Rattle.fr_cold.specs.View.{PowerView}
use Rattle.fr_cold.specs.Questions.{IsNeverOff, cycles_of_power, macroticks_of_run, switches_of}
use Rattle.fr_cold.specs.Leads.{leads_of}
use Rattle.fr_cold.specs.Cold.{ColdView, StandsForStartup}
use Rattle.fr_cold.specs.declared.cold.Lead.{Lead}

-- how many of the nodes 1 to n are coldstart nodes
abbrev pub one_more : Bool → ℕ → ℕ
one_more true count = count + 1
one_more false count = count

unfoldable pub starters_up_to : Values → ℕ → ℕ
starters_up_to p zero = 0
starters_up_to p (suc n) = one_more (is_coldstart p (suc n)) (starters_up_to p n)

-- two coldstart nodes that share no channel
abbrev pub are_apart : Values → ℕ → ℕ → Bool
are_apart p a b = is_coldstart p a && (is_coldstart p b && not (is_sharing p a b))

-- an answer, where there is one, or another
abbrev pub answer_or : {A : Type 0} → Bool → A → Option A → Option A
answer_or true found other = Some found
answer_or false found other = other

-- of so many nodes from one on, the least that is apart from a node
unfoldable pub least_apart : Values → ℕ → ℕ → ℕ → Option ℕ
least_apart p a b zero = None
least_apart p a b (suc n) = answer_or (are_apart p a b) b (least_apart p a (suc b) n)

-- of so many nodes from one on, the least that is apart from a later one, and the least such
abbrev pub paired_or : ℕ → Option ℕ → Option (ℕ × ℕ) → Option (ℕ × ℕ)
paired_or a (Some b) other = Some (a, b)
paired_or a None other = other

unfoldable pub first_pair_in : Values → ℕ → ℕ → Option (ℕ × ℕ)
first_pair_in p a zero = None
first_pair_in p a (suc n) = paired_or a (least_apart p a (suc a) (64 - a)) (first_pair_in p (suc a) n)

-- whether every two coldstart nodes share a channel, or the least two that do not
abbrev pub connected_line : Option (ℕ × ℕ) → List ℕ
connected_line None = line (codes "connected yes")
connected_line (Some pair) = line (codes "connected no " ++ decimal pair.0 ++ codes " " ++ decimal pair.1)

-- how many coldstart nodes and cycles there are
abbrev pub counts_line : Values → PowerView → List ℕ
counts_line p v = line (codes "coldstart " ++ decimal (starters_up_to p 64) ++ codes " cycles " ++ decimal (cycles_of_power v))

abbrev pub startup_head : Values → PowerView → List ℕ
startup_head p v = counts_line p v ++ connected_line (first_pair_in p 1 64)

-- a begin of leading, and all of them
abbrev pub lead_line : Lead → List ℕ
lead_line lead = line (codes "lead " ++ decimal lead.node ++ codes " at " ++ signed_decimal lead.at)

unfoldable pub lead_text : List Lead → List ℕ
lead_text [] = []
lead_text (lead ∷ rest) = lead_line lead ++ lead_text rest

-- a node, if it leads, and so many nodes from one on
abbrev pub leading_line : Bool → ℕ → List ℕ
leading_line true node = line (codes "leading " ++ decimal node)
leading_line false node = []

unfoldable pub leading_lines : States → ℕ → ℕ → List ℕ
leading_lines states node zero = []
leading_lines states node (suc n) = leading_line (is_leading (states node)) node ++ leading_lines states (suc node) n

-- whether one of the nodes 1 to n leads
unfoldable pub does_any_lead : States → ℕ → Bool
does_any_lead states zero = false
does_any_lead states (suc n) = does_any_lead states n || is_leading (states (suc n))

-- the nodes that lead, or that there is none
abbrev pub lines_or_none : Bool → List ℕ → List ℕ
lines_or_none true lines = lines
lines_or_none false lines = line (codes "leading none")

unfoldable pub leading_text : States → List ℕ
leading_text states = lines_or_none (does_any_lead states 64) (leading_lines states 1 64)

-- the text: the nodes and cycles, the begins of leading by time and then by node, and who leads at the end
unfoldable pub cold_text : Values → PowerView → List ℕ
cold_text p v = startup_head p v ++ (lead_text (leads_of p v) ++ leading_text (states_at p (switches_of p v) (macroticks_of_run p v)))

-- a startup stands at the end of its run
pub record IsAtEnd (p : Values) (v : PowerView) (c : ColdView) : Type 0 where
  pub stands : StandsForStartup p v c
  pub ended : c.at ≡ macroticks_of_run p v

-- a text is that of the startup; where every two coldstart nodes share a channel at most one node leads at each macrotick,
-- and where besides none is switched off, the one that is switched on first, among equals the one with the least key slot,
-- is the only one that leads, six cycles and one macrotick after that
pub record IsColdText (p : Values) (v : PowerView) (text : List ℕ) : Type 0 where
  pub shown : text ≡ cold_text p v
  pub one_leader : AreConnected p → AtMostOneLeads p (switches_of p v)
  pub first_leads : AreConnected p → IsNeverOff v → (at node : ℕ) → IsFirstOn p (switches_of p v) at node → LeadsAlone p (switches_of p v) node (at + 6 * macroticks_of_cycle p + 1)
