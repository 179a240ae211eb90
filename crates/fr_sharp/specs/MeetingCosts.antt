-- Of how many other sync nodes each node may miss the frames in each double cycle, for ever and whichever they are, so that the lists of
-- any two nodes meet, without arbitrary sync nodes; and how far clocks may then lie apart, in ticks.
use Rattle.std.specs.Prelude.{◌≡◌, ◌+◌, ◌-◌, ◌*◌, ◌<◌, ℕ, nat_lt, Bool, true, false, length}
use Rattle.fr_cluster.specs.Constraints.{key_slots}
use Rattle.fr_cluster.specs.Sane.{IsSane}
use Rattle.fr_cluster.specs.Values.{Values}
use Rattle.fr_midpoint.specs.Midpoint.{discarded}
use Rattle.fr_bound.specs.SharpBounds.{sharp_near, sharp_precision}
use Rattle.fr_sharp.specs.declared.meeting_costs.MeetingCost.{MeetingCost}

-- two nodes that each miss so many of a number of senders, and discard of the values of the others at one end, leave one in common
abbrev pub may_miss : ℕ → ℕ → Bool
may_miss senders missed = nat_lt (2 * (missed + discarded (senders - missed))) senders

-- the greatest number that they may miss
pub record IsMostMissed (senders missed : ℕ) : Type 0 where
  pub meets : may_miss senders missed ≡ true
  pub no_more : (more : ℕ) → missed < more → may_miss senders more ≡ false

-- the nodes of a cluster that have a key slot
abbrev pub sync_nodes : Values → ℕ
sync_nodes p = length (key_slots p.nodes)

-- macroticks and action points lie no further apart than beside arbitrary nodes where all is heard
pub record IsMeetingCost (p : Values) (flutter : ℕ) (cost : MeetingCost) : Type 0 where
  pub peak : cost.peak ≡ sharp_precision true p flutter
  pub reach : cost.reach ≡ sharp_near true p flutter
  pub missed : IsMostMissed (sync_nodes p) cost.missed

-- that is one answer, and is there
abbrev pub OneMeetingCost : Type 0
OneMeetingCost =
    (p : Values) (flutter : ℕ) (one other : MeetingCost) → IsMeetingCost p flutter one → IsMeetingCost p flutter other → one ≡ other

abbrev pub SomeMeetingCost : Type 0
SomeMeetingCost = (p : Values) (flutter : ℕ) → IsSane p → (cost : MeetingCost) × IsMeetingCost p flutter cost
