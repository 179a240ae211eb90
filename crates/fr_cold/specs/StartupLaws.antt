-- That at most one node leads, and which one.
use Rattle.std.specs.Prelude.{ℕ, ◌+◌, ◌*◌, ◌≡◌, ◌≢◌, ◌≤◌, ◌==◌, nat_lt, true, false, ◌&&◌, Some, None}
use Rattle.fr_cluster.specs.Values.{Values}
use Rattle.fr_cluster.specs.Sane.{IsSane}
use Rattle.fr_cluster.specs.Questions.{own_key, is_coldstart}
use Rattle.fr_cold.specs.Node.{is_leading}
use Rattle.fr_cold.specs.Cluster.{Switches, begins_at, is_sharing, macroticks_of_cycle, ready_states, states_at}
use Rattle.fr_cold.specs.declared.state.Switch.TheVariants as switch

-- a node's number
pub record IsNumber (node : ℕ) : Type 0 where
  pub from : 1 ≤ node
  pub to : node ≤ 64

-- every two coldstart nodes share a channel
abbrev pub AreConnected : Values → Type 0
AreConnected p = (a b : ℕ) → IsNumber a → IsNumber b → a ≢ b → is_coldstart p a ≡ true → is_coldstart p b ≡ true → is_sharing p a b ≡ true

-- only coldstart nodes are switched
abbrev pub SwitchesStarters : Values → Switches → Type 0
SwitchesStarters p switches = (t node : ℕ) → is_coldstart p node ≡ false → switches t node ≡ None

-- of two nodes that lead between macroticks, or within one, each is the other
pub record AtMostOneLeads (p : Values) (switches : Switches) : Type 0 where
  pub between : (t a b : ℕ) → IsNumber a → IsNumber b
      → is_leading (states_at p switches t a) ≡ true → is_leading (states_at p switches t b) ≡ true → a ≡ b
  pub within : (t a b : ℕ) → IsNumber a → IsNumber b
      → is_leading (ready_states p switches t (states_at p switches t) a) ≡ true → is_leading (ready_states p switches t (states_at p switches t) b) ≡ true → a ≡ b

-- no node is switched off, and none is switched on a second time
pub record StaysOn (switches : Switches) : Type 0 where
  pub never_off : (t node : ℕ) → switches t node ≢ Some switch.Off
  pub on_once : (t u node : ℕ) → switches t node ≡ Some switch.On → switches u node ≡ Some switch.On → t ≡ u

-- the node is the one that is switched on at the least macrotick, among those the one with the least key slot: its frames
-- come first in the cycle
pub record IsFirstOn (p : Values) (switches : Switches) (at node : ℕ) : Type 0 where
  pub number : IsNumber node
  pub here : switches at node ≡ Some switch.On
  pub earliest : (t other : ℕ) → switches t other ≡ Some switch.On → at ≤ t
  pub least : (other slot key : ℕ) → IsNumber other → switches at other ≡ Some switch.On → own_key p node ≡ Some slot → own_key p other ≡ Some key → slot ≤ key

-- only this node ever leads, and it begins at this macrotick
pub record LeadsAlone (p : Values) (switches : Switches) (node begin : ℕ) : Type 0 where
  pub leads : (t : ℕ) → is_leading (states_at p switches t node) ≡ nat_lt begin t
  pub others : (t other : ℕ) → IsNumber other → other ≢ node → is_leading (states_at p switches t other) ≡ false
  pub begins : (t other : ℕ) → IsNumber other → begins_at p switches t other ≡ ((t == begin) && (other == node))

-- where all coldstart nodes share channels at most one node leads at each macrotick
abbrev pub AtMostOneEverLeads : Type 0
AtMostOneEverLeads = (p : Values) (switches : Switches) → IsSane p → SwitchesStarters p switches → AreConnected p → AtMostOneLeads p switches

-- where besides none is switched off, the first one leads, and no other
abbrev pub TheFirstLeads : Type 0
TheFirstLeads = (p : Values) (switches : Switches) (at node : ℕ) → IsSane p → SwitchesStarters p switches → AreConnected p → StaysOn switches
    → IsFirstOn p switches at node → LeadsAlone p switches node (at + 6 * macroticks_of_cycle p + 1)
