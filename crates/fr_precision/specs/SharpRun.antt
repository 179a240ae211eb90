-- Nodes over many double cycles: they draw together as the step does, and where they are in sharp sync they stay so, for as
-- many double cycles as the rate limit holds the walk.
use Rattle.std.specs.Prelude.{ℕ, ◌≤◌, zero, suc, ◌≡◌, ◌<◌, ◌*◌, None, Bool, true, ℤ, pos, ◌+ℤ◌, ◌*ℤ◌, ◌≤ℤ◌, IfSome, List, All, map, Contains}
use Rattle.fr_base.specs.declared.node_row.NodeRow.{NodeRow}
use Rattle.fr_base.specs.declared.state.Outcome.TheVariants.{Within}
use Rattle.fr_base.specs.declared.state.State.TheVariants.{Active}
use Rattle.fr_base.specs.Within.{IsWithin}
use Rattle.fr_cluster.specs.Values.{Values}
use Rattle.fr_cluster.specs.Sane.{IsSane}
use Rattle.fr_time.specs.Position.{floor_of}
use Rattle.fr_bound.specs.Bounds.{arrival_error, lambda_of, longest_micro, pi_of, precision_of}
use Rattle.fr_bound.specs.Checks.{holds_of}
use Rattle.fr_bound.specs.Sync.{IsInSync}
use Rattle.fr_precision.specs.Rows.{Sender}
use Rattle.fr_precision.specs.Instants.{gap_of, row_in}
use Rattle.fr_precision.specs.Offsets.{LimitSuffices}
use Rattle.fr_precision.specs.Step.{IsFollowed, Member}
use Rattle.fr_bound.specs.SharpBounds.{last_action, odd_spread, sharp_lambda, sharp_near, sharp_pi, walk_lasts}
use Rattle.fr_bound.specs.SharpChecks.{SharpChecksHold}
use Rattle.fr_precision.specs.Lengths.{walked_after}
use Rattle.fr_bound.specs.SharpSpreads.{sharply_apart_in, sharply_near_in}
use Rattle.fr_bound.specs.SharpSpreads.{IsSharplySettled}
use Rattle.fr_precision.specs.SharpSettling.{sharp_spread_after}
use Rattle.fr_precision.specs.SharpStep.{AreSharp, ComeSharply, DrawsTo, IsInSharpSync, IsSharpDouble, StaySharp}

-- no node cuts a term
abbrev pub AllUncut : List Member → Type 0
AllUncut nodes = All (λ node. (node.offset_term.outcome ≡ Within) × (node.rate_term.outcome ≡ Within)) nodes

-- the next double cycle of some nodes, with its rows
pub record IsNextDouble (p : Values) (nodes next_nodes : List Member) : Type 0 where
  pub next_even : Member → NodeRow
  pub next_odd : Member → NodeRow
  pub followed : All (λ node. IsFollowed p node (next_even node) (next_odd node)) nodes
  pub evens : map (λ node. node.even) next_nodes ≡ map next_even nodes
  pub odds : map (λ node. node.odd) next_nodes ≡ map next_odd nodes

-- before the walk has used up the rate limit, and up to when it has
abbrev pub WalkLastsAfter : Values → ℕ → ℕ → Type 0
WalkLastsAfter p flutter passed = IfSome (walk_lasts p flutter) (λ lasts. passed < lasts)

abbrev pub WalkLastsUpTo : Values → ℕ → ℕ → Type 0
WalkLastsUpTo p flutter passed = IfSome (walk_lasts p flutter) (λ lasts. passed ≤ lasts)

-- all nodes are active in both cycles of a double cycle that follows another; of the first nothing is said
abbrev pub AreActiveAfter : ℕ → List Member → Type 0
AreActiveAfter zero nodes = Unit {0}
AreActiveAfter (suc k) nodes =
    All (λ row. row.state ≡ Active) (map (λ node. node.even) nodes) × All (λ row. row.state ≡ Active) (map (λ node. node.odd) nodes)

-- what is known of a double cycle before its frames: starts and even lengths lie so near, the latter no further beyond their
-- range than so, and the nodes are active where another double cycle came before
pub record BeginSharp (p : Values) (beyond : ℕ → ℤ) (starts lengths : ℕ → ℕ) (nodes : ℕ → List Member) (k : ℕ) : Type 0 where
  pub sharp : AreSharp p (starts k) (lengths k) (beyond k) (map (λ node. node.even) (nodes k))
  pub active : AreActiveAfter k (nodes k)

-- so many double cycles of some nodes and their senders, with numbers for starts and even lengths: in each that begins so near,
-- while the walk lasts, all hear all senders; and the next one follows where besides no term is cut, as operation control says
pub record AreSharpDoubles (beside : Bool) (p : Values) (flutter doubles : ℕ) (starts lengths : ℕ → ℕ) (senders : ℕ → List Sender) (nodes : ℕ → List Member) (last : ℤ) : Type 0 where
  pub sane : IsSane p
  pub second : holds_of 2 p ≡ true
  pub heard :
      (k : ℕ) → k < doubles → WalkLastsAfter p flutter k → BeginSharp p (walked_after p flutter) starts lengths nodes k
      → IsSharpDouble beside p flutter (senders k) (nodes k) last
  pub follows :
      (k : ℕ) → suc k < doubles → WalkLastsAfter p flutter k → BeginSharp p (walked_after p flutter) starts lengths nodes k → AllUncut (nodes k)
      → IsNextDouble p (nodes k) (nodes (suc k))

-- such numbers draw as the step does, and a reach takes them in
pub record DrawInReach (beside : Bool) (p : Values) (flutter doubles : ℕ) (starts lengths : ℕ → ℕ) (reach last : ℤ) : Type 0 where
  pub draws : (k : ℕ) → DrawsTo beside p flutter (starts k) (lengths k) (starts (suc k)) (lengths (suc k))
  pub suffices : LimitSuffices p reach
  pub early : last ≤ℤ p.correction
  pub fits :
      (k : ℕ) → k < doubles
      → (pos (starts k) +ℤ pos (lengths k) +ℤ floor_of (last *ℤ pos (odd_spread p (lengths k))) p.macros +ℤ pos (longest_micro p)) ≤ℤ reach

-- what holds in one of them: it begins so near, behind the last in which the walk lasts too; and while it lasts, any two come
-- together
pub record KeepsSharp (p : Values) (flutter : ℕ) (beyond : ℕ → ℤ) (starts lengths : ℕ → ℕ) (nodes : ℕ → List Member) (k : ℕ) : Type 0 where
  pub begins : WalkLastsUpTo p flutter k → BeginSharp p beyond starts lengths nodes k
  pub come :
      WalkLastsAfter p flutter k → (one other : Member) → Contains (nodes k) one → Contains (nodes k) other
      → ComeSharply p (starts (suc k)) (lengths (suc k)) (beyond (suc k)) one other

-- nodes that begin so near, with lengths in their range, draw together
abbrev pub SharpDoublesDraw : Type 0
SharpDoublesDraw =
    (beside : Bool) (p : Values) (flutter doubles : ℕ) (starts lengths : ℕ → ℕ) (senders : ℕ → List Sender) (nodes : ℕ → List Member)
    (reach last : ℤ)
    → AreSharpDoubles beside p flutter doubles starts lengths senders nodes last
    → DrawInReach beside p flutter doubles starts lengths reach last
    → AreSharp p (starts 0) (lengths 0) (pos 0) (map (λ node. node.even) (nodes 0))
    → (k : ℕ) → k < doubles → KeepsSharp p flutter (walked_after p flutter) starts lengths nodes k

-- a double cycle is in sharp sync, behind the last in which the walk lasts too; and while it lasts, any two nodes stay so,
-- with no macrotick further apart than the sharper precision
pub record StaysInSharpSync (beside : Bool) (p : Values) (flutter : ℕ) (nodes : ℕ → List Member) (k : ℕ) : Type 0 where
  pub sync :
      WalkLastsUpTo p flutter k
      → IsInSharpSync beside p flutter (walked_after p flutter k) (map (λ node. node.even) (nodes k)) (map (λ node. node.odd) (nodes k))
  pub stay :
      WalkLastsAfter p flutter k → (one other : Member) → Contains (nodes k) one → Contains (nodes k) other
      → StaySharp beside p flutter (walked_after p flutter (suc k)) one other

-- nodes that are in sharp sync in the first, with lengths in their range, are in all of them
abbrev pub SharpSyncLasts : Type 0
SharpSyncLasts =
    (beside : Bool) (p : Values) (flutter doubles : ℕ) (senders : ℕ → List Sender) (nodes : ℕ → List Member)
    → AreSharpDoubles beside p flutter doubles (λ k. sharp_pi beside p flutter) (λ k. sharp_lambda beside p flutter) senders nodes
    (pos (last_action p))
    → SharpChecksHold flutter (sharp_near beside p flutter) p
    → IsInSharpSync beside p flutter (pos 0) (map (λ node. node.even) (nodes 0)) (map (λ node. node.odd) (nodes 0))
    → (k : ℕ) → k < doubles → StaysInSharpSync beside p flutter nodes k

-- the spreads by double cycle, from stated numbers
abbrev pub starts_from : Bool → Values → ℕ → ℕ → ℕ → ℕ → ℕ
starts_from beside p flutter start rate k = (sharp_spread_after beside p flutter start rate k).starts

abbrev pub lengths_from : Bool → Values → ℕ → ℕ → ℕ → ℕ → ℕ
lengths_from beside p flutter start rate k = (sharp_spread_after beside p flutter start rate k).lengths

-- so many double cycles from stated numbers: the nodes begin within them, with lengths in their range, and the checks hold
-- with a reach for the whole way
pub record BeginWithin (beside : Bool) (p : Values) (flutter start rate reach doubles : ℕ) (senders : ℕ → List Sender) (nodes : ℕ → List Member) : Type 0 where
  pub doubles_are :
      AreSharpDoubles beside p flutter doubles (starts_from beside p flutter start rate) (lengths_from beside p flutter start rate)
      senders nodes (pos (last_action p))
  pub checks : SharpChecksHold flutter reach p
  pub near : (k : ℕ) → k < doubles → sharply_near_in p (sharp_spread_after beside p flutter start rate k) ≤ reach
  pub first : AreSharp p start rate (pos 0) (map (λ node. node.even) (nodes 0))

-- then they keep to the spreads by double cycle, and while the walk lasts, no macrotick of any two lies further apart than the
-- spread says
pub record KeepsToSpreads (beside : Bool) (p : Values) (flutter start rate : ℕ) (nodes : ℕ → List Member) (k : ℕ) : Type 0 where
  pub keeps : KeepsSharp p flutter (walked_after p flutter) (starts_from beside p flutter start rate) (lengths_from beside p flutter start rate) nodes k
  pub precise :
      WalkLastsAfter p flutter k → (one other : Member) (macrotick : ℤ) (is_odd : Bool) → Contains (nodes k) one
      → Contains (nodes k) other → pos 0 ≤ℤ macrotick → macrotick ≤ℤ p.macros
      → IsWithin
      (pos (sharply_apart_in p (sharp_spread_after beside p flutter start rate k)))
      (gap_of p is_odd macrotick (row_in is_odd one.even one.odd) (row_in is_odd other.even other.odd))

abbrev pub SharpSpreadsKeep : Type 0
SharpSpreadsKeep =
    (beside : Bool) (p : Values) (flutter start rate reach doubles : ℕ) (senders : ℕ → List Sender) (nodes : ℕ → List Member)
    → BeginWithin beside p flutter start rate reach doubles senders nodes
    → (k : ℕ) → k < doubles → KeepsToSpreads beside p flutter start rate nodes k

-- and from the double cycle on in which the spreads have come to rest, not the first, they are in sharp sync and stay so
abbrev pub SharpSyncIsReached : Type 0
SharpSyncIsReached =
    (beside : Bool) (p : Values) (flutter start rate reach doubles rest : ℕ) (senders : ℕ → List Sender) (nodes : ℕ → List Member)
    → BeginWithin beside p flutter start rate reach doubles senders nodes
    → 1 ≤ rest → IsSharplySettled beside p flutter (sharp_spread_after beside p flutter start rate rest)
    → (k : ℕ) → rest ≤ k → k < doubles → StaysInSharpSync beside p flutter nodes k

-- so many double cycles from sync in the older sense, under the older checks, where delays flutter by no more than twice the
-- error of an arrival
pub record BeginInSync (beside : Bool) (p : Values) (flutter doubles : ℕ) (senders : ℕ → List Sender) (nodes : ℕ → List Member) : Type 0 where
  pub doubles_are :
      AreSharpDoubles beside p flutter doubles (starts_from beside p flutter (pi_of p) (lambda_of p))
      (lengths_from beside p flutter (pi_of p) (lambda_of p))
      senders nodes (pos (last_action p))
  pub little : flutter ≤ 2 * arrival_error p
  pub checks : (number : ℕ) → 1 ≤ number → number ≤ 5 → holds_of number p ≡ true
  pub sync : IsInSync p (map (λ node. node.even) (nodes 0)) (map (λ node. node.odd) (nodes 0))

-- then the lengths do not walk, the nodes keep to the spreads from the older pi and lambda, with no macrotick of any two
-- further apart than the older precision; and when the spreads have come to rest they are in sharp sync
pub record KeepsFromSync (beside : Bool) (p : Values) (flutter : ℕ) (nodes : ℕ → List Member) (k : ℕ) : Type 0 where
  pub still : walk_lasts p flutter ≡ None
  pub spreads : KeepsToSpreads beside p flutter (pi_of p) (lambda_of p) nodes k
  pub older :
      (one other : Member) (macrotick : ℤ) (is_odd : Bool) → Contains (nodes k) one → Contains (nodes k) other
      → pos 0 ≤ℤ macrotick → macrotick ≤ℤ p.macros
      → IsWithin (pos (precision_of p)) (gap_of p is_odd macrotick (row_in is_odd one.even one.odd) (row_in is_odd other.even other.odd))
  pub reached :
      (rest : ℕ) → 1 ≤ rest → rest ≤ k
      → IsSharplySettled beside p flutter (sharp_spread_after beside p flutter (pi_of p) (lambda_of p) rest)
      → StaysInSharpSync beside p flutter nodes k

abbrev pub OlderSyncSettles : Type 0
OlderSyncSettles =
    (beside : Bool) (p : Values) (flutter doubles : ℕ) (senders : ℕ → List Sender) (nodes : ℕ → List Member)
    → BeginInSync beside p flutter doubles senders nodes → (k : ℕ) → k < doubles → KeepsFromSync beside p flutter nodes k
