-- A round with nodes that follow: its receivers, what they are supplied with, and what it comes to. How near a receiver lies
-- to the senders is no part of what it is supplied with.
use Rattle.std.specs.Prelude.{◌≡◌, ◌⊎◌, ◌≤ℤ◌, true, ℕ, ℤ, pos, List, map, Contains}
use Rattle.fr_cluster.specs.Values.{Values}
use Rattle.fr_cluster.specs.declared.nodes.NodeSpec.{NodeSpec}
use Rattle.fr_correct.specs.Terms.{offset_term_of, rate_term_of}
use Rattle.fr_bound.specs.Bounds.{lambda_of, precision_of, reach_of}
use Rattle.fr_bound.specs.Checks.{holds_of}
use Rattle.fr_bound.specs.Sync.{IsInSync}
use Rattle.fr_precision.specs.Instants.{LieNear}
use Rattle.fr_precision.specs.Offsets.{LimitSuffices}
use Rattle.fr_precision.specs.Placement.{IsRegular}
use Rattle.fr_precision.specs.Step.{Member}
use Rattle.fr_runs.specs.Following.{first_apart, first_lengths, second_apart}
use Rattle.fr_runs.specs.Group.{Group, IsGroupKept}
use Rattle.fr_precision.specs.Round.{Hearer, IsHeardAt, IsRound, IsSender, Round, offsets_of, rates_of, senders_of}

-- a receiver with regular rows, whose clock applies the offset term of the deviations that it is supplied with
pub record IsSupplied (r : Round) (n : Hearer) : Type 0 where
  pub regular : IsRegular r.params n.even n.odd
  pub applied : n.odd.offset ≡ (offset_term_of r.params.offset_limit (offsets_of n)).value
  pub hears : IsHeardAt r n

-- the receivers of a round: the nodes with rows, and those that follow for the second and for the first double cycle
pub record Hearers : Type 0 where
  pub rows : List Hearer
  pub seconds : List Hearer
  pub firsts : List Hearer

abbrev pub IsOneOf : Hearers → Hearer → Type 0
IsOneOf g n = (Contains g.rows n ⊎ Contains g.seconds n) ⊎ Contains g.firsts n

-- a receiver with its values and its terms
abbrev pub member_from : Values → Hearer → Member
member_from p n = record {
  even = n.even;
  odd = n.odd;
  offsets = offsets_of n;
  rates = rates_of n;
  offset_term = offset_term_of p.offset_limit (offsets_of n);
  rate_term = rate_term_of n.odd.rate p.damping p.rate_limit (rates_of n);
}

-- all of them as a group
abbrev pub group_of : Values → Hearers → Group
group_of p g = record {
  rows = map (member_from p) g.rows;
  seconds = map (member_from p) g.seconds;
  firsts = map (member_from p) g.firsts;
}

-- a receiver lies so near to each of some others, in starts and in the lengths of both cycles, in ticks
abbrev pub LiesNear : Values → ℕ → ℕ → List Hearer → Hearer → Type 0
LiesNear p starts lengths rows n =
    (row : Hearer) → Contains rows row → LieNear p (pos starts) (pos lengths) (pos lengths) row.even row.odd n.even n.odd

-- one that follows
abbrev pub FollowsIn : Hearers → Hearer → Type 0
FollowsIn g n = Contains g.seconds n ⊎ Contains g.firsts n

-- the senders are among the nodes with rows, which are in sync, and the others lie near these; each receiver is supplied. The
-- offset limit suffices for a reach that takes in the precision, and where a node follows, the reach of the cluster
pub record IsRoundSynced (r : Round) (g : Hearers) (reach : ℤ) : Type 0 where
  pub round : IsRound r
  pub first : holds_of 1 r.params ≡ true
  pub second : holds_of 2 r.params ≡ true
  pub limit : LimitSuffices r.params reach
  pub fits : pos (precision_of r.params) ≤ℤ reach
  pub fits_followers : (n : Hearer) → FollowsIn g n → pos (reach_of r.params) ≤ℤ reach
  pub supplied : (n : Hearer) → IsOneOf g n → IsSupplied r n
  pub among :
      (node : NodeSpec) (slot : ℕ) → IsSender r node slot
      → (n : Hearer) × Contains g.rows n × (n.even ≡ r.even node.id) × (n.odd ≡ r.odd node.id)
  pub in_sync : IsInSync r.params (map (λ n. n.even) g.rows) (map (λ n. n.odd) g.rows)
  pub seconds_near :
      (n : Hearer) → Contains g.seconds n → LiesNear r.params (second_apart r.params) (lambda_of r.params) g.rows n
  pub firsts_near :
      (n : Hearer) → Contains g.firsts n → LiesNear r.params (first_apart r.params) (first_lengths r.params) g.rows n

-- then the group is kept: no term is cut, and the next double cycle is such a one
abbrev pub RoundsAreKept : Type 0
RoundsAreKept =
    (r : Round) (g : Hearers) (reach : ℤ)
    → IsRoundSynced r g reach → IsGroupKept r.params (senders_of r) (group_of r.params g) reach
