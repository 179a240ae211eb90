-- A round in which frames may be lost: what a receiver makes of those that come. Of links nothing is asked but that it has a value of each
-- kind, and discards at each end as many as it may have of arbitrary nodes.
use Rattle.std.specs.Prelude.{◌≡◌, ◌+◌, ◌≤◌, ℕ, ℤ, pos, if◌then◌else◌, List, length, map, Contains, Option, None, is_some}
use Rattle.std.specs.List.{filter_map, range_with_len}
use Rattle.fr_cluster.specs.declared.nodes.NodeSpec.{NodeSpec}
use Rattle.fr_correct.specs.Terms.{offset_term_of}
use Rattle.fr_precision.specs.Placement.{IsRegular}
use Rattle.fr_precision.specs.Round.{offsets_of, sender_at, Hearer, IsRound, IsSender, Round}
use Rattle.fr_precision.specs.Rows.{Sender}
use Rattle.fr_precision.specs.Step.{Member}
use Rattle.fr_midpoint.specs.Midpoint.{discarded}
use Rattle.fr_measure.specs.Values.{offset_at, rate_at, values_of}
use Rattle.fr_precision.specs.Among.{ComputesOwn}
use Rattle.fr_precision.specs.Hearing.{AreSteadyPairs, IsHeardInPart}
use Rattle.fr_bound.specs.SharpBounds.{last_action}
use Rattle.fr_precision.specs.SharpRound.{as_member}

-- the senders of whom a receiver has a value, by key index
abbrev pub heard_at : Round → (ℕ → Option ℤ) → ℕ → Option Sender
heard_at r at index = if is_some (at index) then sender_at r index else None

abbrev pub senders_heard : Round → (ℕ → Option ℤ) → List Sender
senders_heard r at = filter_map (heard_at r at) (range_with_len 0 15)

-- a receiver with regular rows, whose clock applies the offset term of what came, however much that is
pub record IsSuppliedInPart (r : Round) (flutter : ℕ) (n : Hearer) : Type 0 where
  pub regular : IsRegular r.params n.even n.odd
  pub applied : n.odd.offset ≡ (offset_term_of r.params.offset_limit (offsets_of n)).value
  pub hears : IsHeardInPart r n
  pub steady : AreSteadyPairs r flutter n

-- of a list by key index: a value is of a sender, and at each end as many are discarded as there are at most besides those of senders
pub record IsTrustedOf (r : Round) (at : ℕ → Option ℤ) : Type 0 where
  pub most : ℕ
  pub at_most : length (values_of at) ≤ length (senders_heard r at) + most
  pub few : most ≤ discarded (length (senders_heard r at) + most)
  pub some : 1 ≤ length (senders_heard r at)

-- a round in which each receiver is supplied so, and trusts both its lists
pub record IsRoundInPart (r : Round) (flutter : ℕ) (rows : List Hearer) : Type 0 where
  pub round : IsRound r
  pub trusted :
      (n : Hearer) → Contains rows n
      → IsTrustedOf r (offset_at n.look n.own) × IsTrustedOf r (rate_at n.look n.own)
  pub supplied : (n : Hearer) → Contains rows n → IsSuppliedInPart r flutter n
  pub among :
      (node : NodeSpec) (slot : ℕ) → IsSender r node slot
      → (n : Hearer) × Contains rows n × (n.even ≡ r.even node.id) × (n.odd ≡ r.odd node.id)

-- then each computes its terms from the values of senders of its own
abbrev pub RoundsInPartComputeOwn : Type 0
RoundsInPartComputeOwn =
    (r : Round) (flutter : ℕ) (rows : List Hearer) (node : Member)
    → IsRoundInPart r flutter rows → Contains (map (as_member r.params) rows) node
    → ComputesOwn r.params flutter (map (as_member r.params) rows) (pos (last_action r.params)) node
