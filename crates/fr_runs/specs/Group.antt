-- The step of a cluster that nodes join: the nodes with rows, and those that follow for the first and for the second double
-- cycle, from one double cycle to the next.
use Rattle.std.specs.Prelude.{◌≡◌, ◌⊎◌, true, ℕ, Bool, ℤ, pos, ◌≤ℤ◌, List, All, map, Contains}
use Rattle.fr_base.specs.Within.{IsWithin}
use Rattle.fr_base.specs.declared.node_row.NodeRow.{NodeRow}
use Rattle.fr_base.specs.declared.state.Outcome.TheVariants.{Within}
use Rattle.fr_cluster.specs.Values.{Values}
use Rattle.fr_cluster.specs.Sane.{IsSane}
use Rattle.fr_reception.specs.Listening.{Caught}
use Rattle.fr_bound.specs.Bounds.{lambda_of, precision_of, reach_of}
use Rattle.fr_bound.specs.Checks.{holds_of}
use Rattle.fr_bound.specs.Sync.{IsInSync}
use Rattle.fr_precision.specs.Rows.{corrected_end_of, KeepOne, Sender}
use Rattle.fr_precision.specs.Instants.{gap_of, row_in, LieNear}
use Rattle.fr_precision.specs.Offsets.{IsSending, LimitSuffices}
use Rattle.fr_precision.specs.Rates.{IsNext, KeepsRange}
use Rattle.fr_precision.specs.Step.{ComputesTerms, IsAmong, IsFollowed, Member}
use Rattle.fr_runs.specs.Room.{RateLimitSuffices}
use Rattle.fr_runs.specs.Listening.{BeginsAt, IsCaught}
use Rattle.fr_runs.specs.Following.{first_apart, first_lengths, second_apart, IsInReach}

-- the nodes with rows, and the nodes that follow for the second and for the first double cycle
pub record Group : Type 0 where
  pub rows : List Member
  pub seconds : List Member
  pub firsts : List Member

-- a node will have a row in the next double cycle
abbrev pub WillHaveRow : Group → Member → Type 0
WillHaveRow g node = Contains g.rows node ⊎ Contains g.seconds node

-- one of all of them
abbrev pub IsOf : Group → Member → Type 0
IsOf g node = WillHaveRow g node ⊎ Contains g.firsts node

-- a node lies so near to each node with a row
abbrev pub IsNearRows : Values → ℕ → ℕ → List Member → Member → Type 0
IsNearRows p starts lengths rows node =
    (row : Member) → Contains rows row → LieNear p (pos starts) (pos lengths) (pos lengths) row.even row.odd node.even node.odd

-- a node follows
abbrev pub IsFollower : Group → Member → Type 0
IsFollower g node = Contains g.seconds node ⊎ Contains g.firsts node

-- under the first two checks the nodes with rows are in sync, and the others near them; each has its values of every sender,
-- and the senders are among the nodes with rows. The offset limit suffices for a reach that takes in the precision, and where
-- a node follows, how far instants of followers may lie from those of the others
pub record IsGroupSynced (p : Values) (senders : List Sender) (g : Group) (reach : ℤ) : Type 0 where
  pub sane : IsSane p
  pub first : holds_of 1 p ≡ true
  pub second : holds_of 2 p ≡ true
  pub limit : LimitSuffices p reach
  pub fits : pos (precision_of p) ≤ℤ reach
  pub fits_followers : (node : Member) → IsFollower g node → pos (reach_of p) ≤ℤ reach
  pub sending : All (IsSending p) senders
  pub among : All (IsAmong g.rows) senders
  pub in_sync : IsInSync p (map (λ node. node.even) g.rows) (map (λ node. node.odd) g.rows)
  pub computes : (node : Member) → IsOf g node → ComputesTerms p senders node
  pub keep : (one other : Member) → IsOf g one → IsOf g other → KeepOne one.offsets other.offsets senders × KeepOne one.rates other.rates senders
  pub seconds_near : (node : Member) → Contains g.seconds node → IsNearRows p (second_apart p) (lambda_of p) g.rows node
  pub firsts_near : (node : Member) → Contains g.firsts node → IsNearRows p (first_apart p) (first_lengths p) g.rows node

-- what the group comes to
pub record IsGroupKept (p : Values) (senders : List Sender) (g : Group) (reach : ℤ) : Type 0 where
  -- each node is within reach of each that sends
  pub reached : (node : Member) (sender : Sender) → IsOf g node → Contains senders sender → IsInReach p reach sender.even sender.odd node.even node.odd
  -- no term of any node is cut
  pub uncut : (node : Member) → IsOf g node → node.offset_term.outcome ≡ Within
  pub range : (node : Member) → IsOf g node → KeepsRange p node.odd node.rate_term
  -- no macrotick of both cycles of two nodes with rows lies further apart than the precision
  pub precise :
      (one other : Member) (macrotick : ℤ) (is_odd : Bool) → Contains g.rows one → Contains g.rows other → pos 0 ≤ℤ macrotick → macrotick ≤ℤ p.macros
      → IsWithin (pos (precision_of p)) (gap_of p is_odd macrotick (row_in is_odd one.even one.odd) (row_in is_odd other.even other.odd))
  -- the nodes with rows and those that followed twice, in whatever order they have rows in the next double cycle, are in sync
  -- there
  pub next_rows :
      (nodes : List Member) (next_even next_odd : Member → NodeRow)
      → ((node : Member) → Contains nodes node → WillHaveRow g node × IsFollowed p node (next_even node) (next_odd node))
      → IsInSync p (map next_even nodes) (map next_odd nodes)
  -- those that followed once follow there for the second time
  pub next_seconds :
      (row node : Member) (even odd node_even node_odd : NodeRow) → WillHaveRow g row → Contains g.firsts node
      → even.start ≡ corrected_end_of p row.odd → IsNext p row.odd row.rate_term even odd
      → node_even.start ≡ corrected_end_of p node.odd → IsNext p node.odd node.rate_term node_even node_odd
      → LieNear p (pos (second_apart p)) (pos (lambda_of p)) (pos (lambda_of p)) even odd node_even node_odd
  -- and those that listened to one that sends follow there for the first time, where the rate limit suffices for a first rate
  pub next_firsts :
      (row : Member) (c : Caught) (reference : Sender) (even odd first_even first_odd : NodeRow)
      → RateLimitSuffices p → WillHaveRow g row
      → even.start ≡ corrected_end_of p row.odd → IsNext p row.odd row.rate_term even odd
      → Contains senders reference → IsCaught p c reference.even reference.odd → BeginsAt p c first_even first_odd
      → LieNear p (pos (first_apart p)) (pos (first_lengths p)) (pos (first_lengths p)) even odd first_even first_odd

abbrev pub GroupsAreKept : Type 0
GroupsAreKept =
    (p : Values) (senders : List Sender) (g : Group) (reach : ℤ) → IsGroupSynced p senders g reach → IsGroupKept p senders g reach
