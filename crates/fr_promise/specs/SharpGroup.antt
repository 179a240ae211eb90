-- The sharper step of a cluster that nodes join: the nodes with rows, and those that follow for the first and for the second
-- double cycle, from one double cycle to the next.
use Rattle.std.specs.Prelude.{◌≡◌, ◌+◌, ◌≤◌, ℕ, Bool, false, ℤ, pos, ◌+ℤ◌, ◌-ℤ◌, ◌≤ℤ◌, List, All, map, Contains}
use Rattle.fr_base.specs.declared.node_row.NodeRow.{NodeRow}
use Rattle.fr_base.specs.declared.state.Outcome.TheVariants.{Within}
use Rattle.fr_base.specs.declared.state.State.TheVariants.{Active}
use Rattle.fr_base.specs.Within.{IsBetween, IsWithin}
use Rattle.fr_cluster.specs.Values.{Values}
use Rattle.fr_cluster.specs.Sane.{IsSane}
use Rattle.fr_cluster.specs.declared.nodes.NodeSpec.{NodeSpec}
use Rattle.fr_reception.specs.Listening.{Caught, first_start_of}
use Rattle.fr_bound.specs.Bounds.{longest_micro}
use Rattle.fr_bound.specs.Sync.{cycle_length_of}
use Rattle.fr_precision.specs.Rows.{corrected_end_of, Sender}
use Rattle.fr_precision.specs.Instants.{gap_of, row_in}
use Rattle.fr_precision.specs.Offsets.{LimitSuffices}
use Rattle.fr_precision.specs.Step.{IsAmong, IsFollowed, Member}
use Rattle.fr_precision.specs.Round.{senders_of, Hearer, IsRound, IsSender, Round}
use Rattle.fr_runs.specs.Group.{Group, IsOf, WillHaveRow}
use Rattle.fr_runs.specs.Hearers.{group_of, Hearers, IsOneOf}
use Rattle.fr_runs.specs.Listening.{BeginsAt}
use Rattle.fr_bound.specs.SharpBounds.{last_action, near_by, precision_by, sharp_precision}
use Rattle.fr_precision.specs.Lengths.{CanWalk, IsNextEven, KeepSenders, WalksOn}
use Rattle.fr_precision.specs.Among.{both, OffsetsSo, RatesSo}
use Rattle.fr_precision.specs.Placement.{IsRegular}
use Rattle.fr_precision.specs.declared.kinds.Kinds.{Kinds}
use Rattle.fr_precision.specs.SharpStep.{AreSharp, ComputesSharply}
use Rattle.fr_precision.specs.Hearing.{AllowsArbitrary}
use Rattle.fr_precision.specs.SharpRound.{IsSteadilySupplied}
use Rattle.fr_promise.specs.SharpJoining.{all_heard, sharp_group_spread, GroupGoesTo, GroupSpread}
use Rattle.fr_promise.specs.SharpListening.{IsCaughtSharply, RateTakesIn}

-- the starts of two nodes' double cycles lie at most so far apart, and the lengths of their even cycles
abbrev pub StartApart : ℕ → Member → Member → Type 0
StartApart starts one other = IsWithin (pos starts) (one.even.start -ℤ other.even.start)

abbrev pub LastApart : Values → ℕ → Member → Member → Type 0
LastApart p lengths one other = IsWithin (pos lengths) (cycle_length_of p one.even -ℤ cycle_length_of p other.even)

-- the nodes with rows lie so near, with even lengths at most so far beyond their range, and the others near them: in its second
-- double cycle a node's lengths lie as near as all, in its first not yet
pub record IsSteadyPlacing (p : Values) (s : GroupSpread) (beyond : ℤ) (g : Group) : Type 0 where
  pub sharp : AreSharp p s.rows.starts s.rows.lengths beyond (map (λ node. node.even) g.rows)
  pub seconds_start : (row node : Member) → Contains g.rows row → Contains g.seconds node → StartApart s.seconds row node
  pub seconds_last : (other node : Member) → WillHaveRow g other → Contains g.seconds node → LastApart p s.rows.lengths other node
  pub firsts_start : (row node : Member) → Contains g.rows row → Contains g.firsts node → StartApart s.firsts.starts row node
  pub firsts_last : (other node : Member) → WillHaveRow g other → Contains g.firsts node → LastApart p s.firsts.lengths other node

-- a reach takes in how far action points of the nodes with rows may lie apart, and where a node follows, those of followers too;
-- the offset limit suffices for it
pub record TakesInGroup (p : Values) (s : GroupSpread) (g : Group) (reach : ℤ) : Type 0 where
  pub limit : LimitSuffices p reach
  pub fits : pos (near_by p s.rows.starts s.rows.lengths) ≤ℤ reach
  pub fits_seconds : (node : Member) → Contains g.seconds node → pos (near_by p s.seconds s.rows.lengths) ≤ℤ reach
  pub fits_firsts : (node : Member) → Contains g.firsts node → pos (near_by p s.firsts.starts s.firsts.lengths) ≤ℤ reach

-- so placed, with such a reach; the senders are among the nodes with rows
pub record IsSteadyGroup (p : Values) (flutter : ℕ) (s : GroupSpread) (beyond walk : ℤ) (senders : List Sender) (g : Group) (reach : ℤ) : Type 0 where
  pub sane : IsSane p
  pub walks : CanWalk p flutter beyond walk
  pub takes : TakesInGroup p s g reach
  pub among : All (IsAmong g.rows) senders
  pub acts : All (λ sender. IsBetween (pos 0) (pos (last_action p)) sender.action) senders
  pub placed : IsSteadyPlacing p s beyond g

-- each computes its terms from its values of every sender
pub record AllIsHeard (beside : Bool) (p : Values) (flutter : ℕ) (senders : List Sender) (g : Group) : Type 0 where
  pub computes : (node : Member) → IsOf g node → ComputesSharply p flutter senders node
  pub keep :
      (one other : Member) → IsOf g one → IsOf g other
      → KeepSenders beside senders one.offsets other.offsets × KeepSenders beside senders one.rates other.rates

-- what is heard, of offsets and of rates, by the nodes with rows and those that follow; none of them keeps its rate
pub record GroupHears (what : Kinds) (p : Values) (flutter : ℕ) (senders : List Sender) (g : Group) : Type 0 where
  pub regular : (node : Member) → IsOf g node → IsRegular p node.even node.odd
  pub offsets : OffsetsSo what.offsets p senders g.rows (pos (last_action p)) (λ node. IsOf g node)
  pub rates : RatesSo what.rates false p flutter senders g.rows (λ node. IsOf g node)

-- where all is heard of all, so it is of both
abbrev pub AllIsHeardOfBoth : Type 0
AllIsHeardOfBoth =
    (beside : Bool) (p : Values) (flutter : ℕ) (senders : List Sender) (g : Group)
    → All (IsAmong g.rows) senders → All (λ sender. IsBetween (pos 0) (pos (last_action p)) sender.action) senders
    → AllIsHeard beside p flutter senders g → GroupHears (both (all_heard beside)) p flutter senders g

-- what the group comes to, with the bounds of the next double cycle; next is how far beyond their range lengths may lie in it
pub record IsSteadyGroupKept (p : Values) (flutter : ℕ) (to : GroupSpread) (apart : ℕ) (beyond next : ℤ) (senders : List Sender) (g : Group) (reach : ℤ) : Type 0 where
  -- each node is within reach of each with a row, up to the last action point
  pub reached :
      (is_odd : Bool) (row node : Member) (action : ℤ) → Contains g.rows row → IsOf g node → pos 0 ≤ℤ action
      → action ≤ℤ pos (last_action p)
      → IsWithin reach (gap_of p is_odd action (row_in is_odd row.even row.odd) (row_in is_odd node.even node.odd))
  -- no term of any node is cut
  pub uncut : (node : Member) → IsOf g node → node.offset_term.outcome ≡ Within
  pub range : (node : Member) → IsOf g node → WalksOn p next node.odd node.rate_term
  -- no macrotick of both cycles of two nodes with rows lies further apart than so
  pub precise :
      (one other : Member) (macrotick : ℤ) (is_odd : Bool) → Contains g.rows one → Contains g.rows other
      → pos 0 ≤ℤ macrotick → macrotick ≤ℤ p.macros
      → IsWithin (pos apart) (gap_of p is_odd macrotick (row_in is_odd one.even one.odd) (row_in is_odd other.even other.odd))
  -- the nodes with rows and those that followed twice, in whatever order they have rows in the next double cycle, are active and
  -- as near there
  pub next_rows :
      (nodes : List Member) (next_even next_odd : Member → NodeRow)
      → ((node : Member) → Contains nodes node → WillHaveRow g node × IsFollowed p node (next_even node) (next_odd node))
      → All (λ row. row.state ≡ Active) (map next_even nodes) × All (λ row. row.state ≡ Active) (map next_odd nodes)
      × AreSharp p to.rows.starts to.rows.lengths next (map next_even nodes)
  -- those that followed once follow there for the second time: near each that has a row there, with lengths as near as all
  pub second_starts :
      (row node : Member) → WillHaveRow g row → Contains g.firsts node
      → IsWithin (pos to.seconds) (corrected_end_of p row.odd -ℤ corrected_end_of p node.odd)
  pub second_lasts :
      (other node : Member) (even node_even : NodeRow) → IsOf g other → Contains g.firsts node
      → IsNextEven p other.odd other.rate_term even → IsNextEven p node.odd node.rate_term node_even
      → IsWithin (pos to.rows.lengths) (cycle_length_of p even -ℤ cycle_length_of p node_even)
  -- and those that listened to one that sends follow there for the first time, where the rate limit suffices for a first rate
  pub first_starts :
      (row : Member) (c : Caught) (reference : Sender) → RateTakesIn p flutter beyond → WillHaveRow g row
      → Contains senders reference → IsCaughtSharply p flutter beyond c reference.even reference.odd
      → IsWithin (pos to.firsts.starts) (corrected_end_of p row.odd -ℤ first_start_of p c)
  pub first_lasts :
      (other : Member) (c : Caught) (reference : Sender) (even first_even first_odd : NodeRow) → RateTakesIn p flutter beyond
      → IsOf g other → IsNextEven p other.odd other.rate_term even
      → Contains senders reference → IsCaughtSharply p flutter beyond c reference.even reference.odd
      → BeginsAt p c first_even first_odd
      → IsWithin (pos to.firsts.lengths) (cycle_length_of p even -ℤ cycle_length_of p first_even)

abbrev pub SteadyGroupsAreKept : Type 0
SteadyGroupsAreKept =
    (what : Kinds) (p : Values) (flutter : ℕ) (s to : GroupSpread) (apart : ℕ) (beyond walk next : ℤ) (senders : List Sender) (g : Group) (reach : ℤ)
    → IsSteadyGroup p flutter s beyond walk senders g reach → GroupHears what p flutter senders g → GroupGoesTo what p flutter s to
    → precision_by p s.rows.starts s.rows.lengths ≤ apart → to.rows.starts + longest_micro p ≤ apart
    → pos 0 ≤ℤ next → (beyond +ℤ walk) ≤ℤ next → IsSteadyGroupKept p flutter to apart beyond next senders g reach

-- ---- as near as in sharp sync

abbrev pub IsSharpPlacing : Bool → Values → ℕ → ℤ → Group → Type 0
IsSharpPlacing beside p flutter beyond g = IsSteadyPlacing p (sharp_group_spread beside p flutter) beyond g

abbrev pub IsSharpGroup : Bool → Values → ℕ → ℤ → ℤ → List Sender → Group → ℤ → Type 0
IsSharpGroup beside p flutter beyond walk senders g reach =
    IsSteadyGroup p flutter (sharp_group_spread beside p flutter) beyond walk senders g reach × AllIsHeard beside p flutter senders g

abbrev pub IsSharpGroupKept : Bool → Values → ℕ → ℤ → ℤ → List Sender → Group → ℤ → Type 0
IsSharpGroupKept beside p flutter beyond next senders g reach =
    IsSteadyGroupKept p flutter (sharp_group_spread beside p flutter) (sharp_precision beside p flutter) beyond next senders g reach

abbrev pub SharpGroupsAreKept : Type 0
SharpGroupsAreKept =
    (beside : Bool) (p : Values) (flutter : ℕ) (beyond walk next : ℤ) (senders : List Sender) (g : Group) (reach : ℤ)
    → IsSharpGroup beside p flutter beyond walk senders g reach → pos 0 ≤ℤ next → (beyond +ℤ walk) ≤ℤ next
    → IsSharpGroupKept beside p flutter beyond next senders g reach

-- ---- a round with nodes that follow, whatever supplies it

-- its receivers are placed so, within such a reach, and all are supplied; the senders are among the nodes with rows
pub record IsSteadyRoundFollowed (beside : Bool) (r : Round) (flutter : ℕ) (s : GroupSpread) (beyond walk : ℤ) (g : Hearers) (reach : ℤ) : Type 0 where
  pub round : IsRound r
  pub arbitrary : AllowsArbitrary beside r
  pub walks : CanWalk r.params flutter beyond walk
  pub takes : TakesInGroup r.params s (group_of r.params g) reach
  pub placed : IsSteadyPlacing r.params s beyond (group_of r.params g)
  pub supplied : (n : Hearer) → IsOneOf g n → IsSteadilySupplied r flutter n
  pub among :
      (node : NodeSpec) (slot : ℕ) → IsSender r node slot
      → (n : Hearer) × Contains g.rows n × (n.even ≡ r.even node.id) × (n.odd ≡ r.odd node.id)

-- then it is such a group, in which all is heard
abbrev pub SteadyRoundsAreFollowed : Type 0
SteadyRoundsAreFollowed =
    (beside : Bool) (r : Round) (flutter : ℕ) (s : GroupSpread) (beyond walk : ℤ) (g : Hearers) (reach : ℤ)
    → IsSteadyRoundFollowed beside r flutter s beyond walk g reach
    → IsSteadyGroup r.params flutter s beyond walk (senders_of r) (group_of r.params g) reach
    × AllIsHeard beside r.params flutter (senders_of r) (group_of r.params g)

abbrev pub IsSharpRoundFollowed : Bool → Round → ℕ → ℤ → ℤ → Hearers → ℤ → Type 0
IsSharpRoundFollowed beside r flutter beyond walk g reach =
    IsSteadyRoundFollowed beside r flutter (sharp_group_spread beside r.params flutter) beyond walk g reach

abbrev pub SharpRoundsAreFollowed : Type 0
SharpRoundsAreFollowed =
    (beside : Bool) (r : Round) (flutter : ℕ) (beyond walk : ℤ) (g : Hearers) (reach : ℤ)
    → IsSharpRoundFollowed beside r flutter beyond walk g reach
    → IsSharpGroup beside r.params flutter beyond walk (senders_of r) (group_of r.params g) reach
