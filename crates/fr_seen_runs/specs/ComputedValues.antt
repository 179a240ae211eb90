-- What a node with a row computes at the end of a double cycle that is judged, whatever frames are lost on their way to it: of which
-- values its terms are the midpoints.
use Rattle.std.specs.Prelude.{◌≡◌, ◌≢◌, ◌-ℤ◌, ℕ, suc, ℤ, pos, true, Option, Some, IfSome, IsSome}
use Rattle.fr_base.specs.Within.{IsWithin}
use Rattle.fr_bound.specs.declared.judging.Heard.{Heard}
use Rattle.fr_bound.specs.declared.judging.Known.{Known}
use Rattle.fr_cluster.specs.Questions.{key_slot_of, own_index}
use Rattle.fr_cluster.specs.Setting.{Setting}
use Rattle.fr_cluster.specs.Values.{Values}
use Rattle.fr_cluster.specs.declared.nodes.NodeSpec.{NodeSpec}
use Rattle.fr_time.specs.Slots.{action_point_of}
use Rattle.fr_midpoint.specs.Midpoint.{IsMidpoint}
use Rattle.fr_measure.specs.Deviations.{deviations_of}
use Rattle.fr_measure.specs.Values.{offset_at, rate_at, values_of}
use Rattle.fr_precision.specs.Offsets.{IsDeviation}
use Rattle.fr_precision.specs.Rows.{Sender}
use Rattle.fr_history.specs.Cycles.{Cycle, Cycles}
use Rattle.fr_history.specs.History.{row_for}
use Rattle.fr_runs.specs.Links.{IsCarried}
use Rattle.fr_runs.specs.Numbers.{HasDouble, HasRowIn}
use Rattle.fr_precision.specs.Steady.{PlacesEven}
use Rattle.fr_seen_runs.specs.JudgedTerms.{IsJudgedRun}

-- the offset and the rate values of a node at the end of a double cycle, by key index
abbrev pub told_offsets : Setting → Cycle → Cycle → NodeSpec → ℕ → Option ℤ
told_offsets x even odd node =
    offset_at (deviations_of x.params even.told.devs odd.told.devs node.id) (own_index x.params node.id)

abbrev pub told_rates : Setting → Cycle → Cycle → NodeSpec → ℕ → Option ℤ
told_rates x even odd node =
    rate_at (deviations_of x.params even.told.devs odd.told.devs node.id) (own_index x.params node.id)

-- a node with a row in a cycle and a key slot of this index
pub record IsKeyedAt (x : Setting) (c : Cycle) (node : NodeSpec) (slot index : ℕ) : Type 0 where
  pub has : HasRowIn x c node
  pub key : node.key ≡ Some slot
  pub slot_is : key_slot_of x.params index ≡ Some slot

-- of a sender a value says what it should, if there is one; and where a channel carries the frames of both cycles, there is one
pub record IsHeardOf (x : Setting) (double : ℕ) (sender receiver : NodeSpec) (value : Option ℤ) (Says : ℤ → Type 0) : Type 0 where
  pub says : IfSome value Says
  pub carried : IsCarried x sender receiver double → IsSome value

-- values stand at the indexes of key slots alone
abbrev pub AreKeyed : Values → (ℕ → Option ℤ) → Type 0
AreKeyed p at = (index : ℕ) (value : ℤ) → at index ≡ Some value → (slot : ℕ) × (key_slot_of p index ≡ Some slot)

-- its own offset value is 0, those of other nodes with rows and key slots are their deviations, and there are further ones of key slots
-- alone; and it applies their midpoint
pub record ComputesOffset (x : Setting) (double : ℕ) (even odd : Cycle) (node : NodeSpec) : Type 0 where
  pub own : (slot index : ℕ) → IsKeyedAt x even node slot index → told_offsets x even odd node index ≡ Some (pos 0)
  pub heard :
      (other : NodeSpec) (slot index : ℕ) → IsKeyedAt x even other slot index → other.id ≢ node.id
      → IsHeardOf x double other node (told_offsets x even odd node index)
      (IsDeviation x.params true (pos (action_point_of x.params slot)) (row_for odd.told.rows node.id)
      (row_for odd.told.rows other.id))
  pub keyed : AreKeyed x.params (told_offsets x even odd node)
  pub applied : IsMidpoint (values_of (told_offsets x even odd node)) (row_for odd.told.rows node.id).offset

abbrev pub OffsetsAreMidpoints : Type 0
OffsetsAreMidpoints =
    (what : Heard) (x : Setting) (flutter : ℕ) (h : Cycles) (double : ℕ) (known : Known) (even odd : Cycle) (node : NodeSpec)
    → IsJudgedRun what x flutter h double known → HasDouble h double even odd → HasRowIn x even node
    → ComputesOffset x double even odd node

-- the sender of a key slot, by the rows of its node
abbrev pub told_sender : Setting → Cycle → Cycle → NodeSpec → ℕ → Sender
told_sender x even odd node slot =
    record {
      even = row_for even.told.rows node.id;
      odd = row_for odd.told.rows node.id;
      action = pos (action_point_of x.params slot);
    }

-- so are its rate values, each of which places what lies between a node's action points, and the length of its even cycle; and its rate
-- grows by their midpoint, but for damping
pub record ComputesRate (x : Setting) (flutter : ℕ) (h : Cycles) (double : ℕ) (even odd : Cycle) (node : NodeSpec) : Type 0 where
  pub own : (slot index : ℕ) → IsKeyedAt x even node slot index → told_rates x even odd node index ≡ Some (pos 0)
  pub heard :
      (other : NodeSpec) (slot index : ℕ) → IsKeyedAt x even other slot index → other.id ≢ node.id
      → IsHeardOf x double other node (told_rates x even odd node index)
      (PlacesEven x.params flutter (told_sender x even odd other slot) (row_for odd.told.rows node.id))
  pub keyed : AreKeyed x.params (told_rates x even odd node)
  pub middle : ℤ
  pub is_middle : IsMidpoint (values_of (told_rates x even odd node)) middle
  pub grown :
      (next_even next_odd : Cycle) → HasDouble h (suc double) next_even next_odd
      → IsWithin x.params.damping
      (((row_for next_even.told.rows node.id).rate -ℤ (row_for odd.told.rows node.id).rate) -ℤ middle)

abbrev pub RatesGrowByMidpoints : Type 0
RatesGrowByMidpoints =
    (what : Heard) (x : Setting) (flutter : ℕ) (h : Cycles) (double : ℕ) (known : Known) (even odd : Cycle) (node : NodeSpec)
    → IsJudgedRun what x flutter h double known → HasDouble h double even odd → HasRowIn x even node
    → ComputesRate x flutter h double even odd node
