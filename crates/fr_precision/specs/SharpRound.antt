-- A round whose receivers have rows that lie so near each other, whatever supplies it: it is a double cycle as the sharper step
-- asks for.
use Rattle.std.specs.Prelude.{◌≡◌, ℕ, ℤ, pos, Bool, List, map, Contains}
use Rattle.fr_cluster.specs.Values.{Values}
use Rattle.fr_cluster.specs.declared.nodes.NodeSpec.{NodeSpec}
use Rattle.fr_correct.specs.Terms.{offset_term_of, rate_term_of}
use Rattle.fr_precision.specs.Offsets.{LimitSuffices}
use Rattle.fr_precision.specs.Placement.{IsRegular}
use Rattle.fr_precision.specs.Round.{offsets_of, rates_of, senders_of, Hearer, IsHeardAt, IsRound, IsSender, Round}
use Rattle.fr_precision.specs.Step.{Member}
use Rattle.fr_bound.specs.SharpBounds.{last_action}
use Rattle.fr_precision.specs.Hearing.{AllowsArbitrary, AreSteadyPairs}
use Rattle.fr_precision.specs.SharpStep.{ActInReach, AreSharp, IsSharpDouble, IsSharpReach}

-- a receiver with its values and its terms, as a node of the step
abbrev pub as_member : Values → Hearer → Member
as_member p n = record {
  even = n.even;
  odd = n.odd;
  offsets = offsets_of n;
  rates = rates_of n;
  offset_term = offset_term_of p.offset_limit (offsets_of n);
  rate_term = rate_term_of n.odd.rate p.damping p.rate_limit (rates_of n);
}

-- a receiver with regular rows, whose clock applies the offset term of its deviations, which are steady pairs
pub record IsSteadilySupplied (r : Round) (flutter : ℕ) (n : Hearer) : Type 0 where
  pub regular : IsRegular r.params n.even n.odd
  pub applied : n.odd.offset ≡ (offset_term_of r.params.offset_limit (offsets_of n)).value
  pub hears : IsHeardAt r n
  pub steady : AreSteadyPairs r flutter n

-- a round in reach: action points of its receivers lie within a reach for which the offset limit suffices, whatever it is that
-- says so; the senders are among them, and all are supplied
pub record IsRoundInReach (beside : Bool) (r : Round) (flutter : ℕ) (reach : ℤ) (rows : List Hearer) : Type 0 where
  pub round : IsRound r
  pub arbitrary : AllowsArbitrary beside r
  pub suffices : LimitSuffices r.params reach
  pub acts : ActInReach r.params reach (pos (last_action r.params)) (map (as_member r.params) rows)
  pub supplied : (n : Hearer) → Contains rows n → IsSteadilySupplied r flutter n
  pub among :
      (node : NodeSpec) (slot : ℕ) → IsSender r node slot
      → (n : Hearer) × Contains rows n × (n.even ≡ r.even node.id) × (n.odd ≡ r.odd node.id)

abbrev pub RoundsInReachAreSharp : Type 0
RoundsInReachAreSharp =
    (beside : Bool) (r : Round) (flutter : ℕ) (reach : ℤ) (rows : List Hearer)
    → IsRoundInReach beside r flutter reach rows
    → IsSharpDouble beside r.params flutter (senders_of r) (map (as_member r.params) rows) (pos (last_action r.params))

-- such a round: its receivers lie so near, the senders are among them, and all are supplied
pub record IsSharpRound (beside : Bool) (r : Round) (flutter starts lengths : ℕ) (beyond walk reach : ℤ) (rows : List Hearer) : Type 0 where
  pub round : IsRound r
  pub arbitrary : AllowsArbitrary beside r
  pub numbers : IsSharpReach r.params flutter starts lengths beyond walk reach (pos (last_action r.params))
  pub sharp : AreSharp r.params starts lengths beyond (map (λ n. n.even) rows)
  pub supplied : (n : Hearer) → Contains rows n → IsSteadilySupplied r flutter n
  pub among :
      (node : NodeSpec) (slot : ℕ) → IsSender r node slot
      → (n : Hearer) × Contains rows n × (n.even ≡ r.even node.id) × (n.odd ≡ r.odd node.id)

abbrev pub RoundsAreSharp : Type 0
RoundsAreSharp =
    (beside : Bool) (r : Round) (flutter starts lengths : ℕ) (beyond walk reach : ℤ) (rows : List Hearer)
    → IsSharpRound beside r flutter starts lengths beyond walk reach rows
    → AreSharp r.params starts lengths beyond (map (λ node. node.even) (map (as_member r.params) rows))
    × IsSharpDouble beside r.params flutter (senders_of r) (map (as_member r.params) rows) (pos (last_action r.params))
