-- A round of nodes that have rows and lie apart by free numbers, as nodes do that are not yet in sync; whoever follows is
-- left out.
use Rattle.std.specs.Prelude.{◌≡◌, ◌≤ℤ◌, ◌+ℤ◌, ◌*ℤ◌, true, ℕ, ℤ, pos, List, map, Contains}
use Rattle.fr_cluster.specs.declared.nodes.NodeSpec.{NodeSpec}
use Rattle.fr_bound.specs.Bounds.{longest_micro}
use Rattle.fr_bound.specs.Checks.{holds_of}
use Rattle.fr_precision.specs.Offsets.{LimitSuffices}
use Rattle.fr_precision.specs.Step.{AreSpread, DrawNear}
use Rattle.fr_precision.specs.Round.{Hearer, IsRound, IsSender, Round}
use Rattle.fr_runs.specs.Hearers.{IsSupplied, member_from}

-- the senders are among some receivers, which lie so far apart; each of these is supplied. The offset limit suffices for a
-- reach that takes in how far their action points may lie apart
pub record IsRoundSpread (r : Round) (rows : List Hearer) (starts lengths reach : ℤ) : Type 0 where
  pub round : IsRound r
  pub first : holds_of 1 r.params ≡ true
  pub second : holds_of 2 r.params ≡ true
  pub limit : LimitSuffices r.params reach
  pub fits : (starts +ℤ (pos 2 *ℤ lengths) +ℤ pos (longest_micro r.params)) ≤ℤ reach
  pub supplied : (n : Hearer) → Contains rows n → IsSupplied r n
  pub among :
      (node : NodeSpec) (slot : ℕ) → IsSender r node slot
      → (n : Hearer) × Contains rows n × (n.even ≡ r.even node.id) × (n.odd ≡ r.odd node.id)
  pub spread : AreSpread r.params starts lengths (map (λ n. n.even) rows) (map (λ n. n.odd) rows)

-- then any two of them draw near: no term is cut, and they lie half as far apart, and some
abbrev pub RoundsDrawNear : Type 0
RoundsDrawNear =
    (r : Round) (rows : List Hearer) (starts lengths reach : ℤ) (one other : Hearer)
    → IsRoundSpread r rows starts lengths reach → Contains rows one → Contains rows other
    → DrawNear r.params starts lengths (member_from r.params one) (member_from r.params other)
