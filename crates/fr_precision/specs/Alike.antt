-- What arbitrary nodes say alike: of each of them two receivers have values at places that lie as near as those of a correct sender,
-- or neither has any. Such values cost nothing.
use Rattle.std.specs.Prelude.{◌≡◌, ◌+◌, ◌*◌, ◌≤◌, ℕ, ℤ, pos, ◌+ℤ◌, ◌-ℤ◌, ◌≤ℤ◌, true, false, List, map, Contains, Option, Some, None}
use Rattle.std.specs.List.{AllZip}
use Rattle.fr_base.specs.declared.channel.Channel.TheVariants.{A, B}
use Rattle.fr_base.specs.declared.node_row.NodeRow.{NodeRow}
use Rattle.fr_base.specs.Within.{IsWithin}
use Rattle.fr_cluster.specs.Questions.{key_slot_of}
use Rattle.fr_cluster.specs.Values.{Values}
use Rattle.fr_cluster.specs.declared.nodes.NodeSpec.{NodeSpec}
use Rattle.fr_time.specs.Senders.{key_node_of}
use Rattle.fr_midpoint.specs.Receivers.{measured_place}
use Rattle.fr_measure.specs.Values.{change_at, least_of, mean_of}
use Rattle.fr_bound.specs.Bounds.{arrival_error, longest_micro}
use Rattle.fr_bound.specs.SharpBounds.{last_action, odd_spread, steady_error}
use Rattle.fr_precision.specs.Rows.{end_of, Sender}
use Rattle.fr_precision.specs.Step.{Member}
use Rattle.fr_precision.specs.Steady.{placed_length}
use Rattle.fr_precision.specs.Lengths.{CanWalk}
use Rattle.fr_precision.specs.Round.{Hearer, Round}
use Rattle.fr_precision.specs.SharpRound.{as_member, IsRoundInReach}
use Rattle.fr_precision.specs.SharpStep.{ActInReach, AreSharp, ComeSharply, DrawsTo, IsSharpDouble, IsSharpLimit}

-- two offset values, each counted in its receiver's microticks from the end of its row, place one end within so many ticks
abbrev pub OffsetsLieNear : ℕ → Values → NodeRow → NodeRow → ℤ → ℤ → Type 0
OffsetsLieNear bound p row other_row value other_value =
    IsWithin
    (pos bound)
    (measured_place (end_of p row) row.length value -ℤ measured_place (end_of p other_row) other_row.length other_value)

-- and two rate values, counted so from the length of its row, one length
abbrev pub RatesLieNear : ℕ → Values → NodeRow → NodeRow → ℤ → ℤ → Type 0
RatesLieNear bound p row other_row value other_value =
    IsWithin (pos bound) (placed_length p row value -ℤ placed_length p other_row other_value)

-- how near the offset values of one correct sender do so at receivers whose even lengths lie so far apart, in ticks
abbrev pub same_offsets : Values → ℕ → ℕ
same_offsets p lengths = odd_spread p lengths + (2 * arrival_error p + 2 * longest_micro p)

-- and its rate values
abbrev pub same_rates : Values → ℕ → ℕ
same_rates p flutter = 2 * steady_error p flutter

-- ---- two nodes of a double cycle

-- the lists of two nodes were said alike: one has as many values as the other, and each lies as near as those of one correct sender
pub record ListsAreAlike (p : Values) (flutter lengths : ℕ) (one other : Member) : Type 0 where
  pub offsets : AllZip (OffsetsLieNear (same_offsets p lengths) p one.odd other.odd) one.offsets other.offsets
  pub rates : AllZip (RatesLieNear (same_rates p flutter) p one.odd other.odd) one.rates other.rates

-- such nodes come as near as without arbitrary nodes, where few values are of such
abbrev pub AlikeSpreadsShrink : Type 0
AlikeSpreadsShrink =
    (p : Values) (flutter : ℕ) (senders : List Sender) (nodes : List Member)
    (starts lengths next_starts next_lengths : ℕ) (beyond walk next reach last : ℤ) (one other : Member)
    → IsSharpLimit p flutter beyond walk reach last → ActInReach p reach last nodes → pos 0 ≤ℤ next → (beyond +ℤ walk) ≤ℤ next
    → DrawsTo false p flutter starts lengths next_starts next_lengths
    → AreSharp p starts lengths beyond (map (λ node. node.even) nodes) → IsSharpDouble true p flutter senders nodes last
    → ListsAreAlike p flutter lengths one other
    → Contains nodes one → Contains nodes other → ComeSharply p next_starts next_lengths next one other

-- ---- two receivers of a round

-- a key index is that of an arbitrary node
pub record IsArbitraryAt (r : Round) (index : ℕ) : Type 0 where
  pub slot : ℕ
  pub node : NodeSpec
  pub slot_is : key_slot_of r.params index ≡ Some slot
  pub node_is : key_node_of r.params slot ≡ Some node
  pub arbitrary : r.is_arbitrary node.id ≡ true

-- what two receivers have of one sender: neither has a value, or both have, and these lie so near
abbrev pub BothAlike : (ℤ → ℤ → Type 0) → Option ℤ → Option ℤ → Type 0
BothAlike Near None None = Unit {0}
BothAlike Near None (Some other) = ⊥
BothAlike Near (Some value) None = ⊥
BothAlike Near (Some value) (Some other) = Near value other

-- so two receivers hear each arbitrary node
pub record HearAlike (r : Round) (flutter lengths : ℕ) (n m : Hearer) : Type 0 where
  pub offsets :
      (index : ℕ) → IsArbitraryAt r index
      → BothAlike (OffsetsLieNear (same_offsets r.params lengths) r.params n.odd m.odd)
      (least_of (n.look index true A) (n.look index true B)) (least_of (m.look index true A) (m.look index true B))
  pub rates :
      (index : ℕ) → IsArbitraryAt r index
      → BothAlike (RatesLieNear (same_rates r.params flutter) r.params n.odd m.odd)
      (mean_of (change_at n.look index A) (change_at n.look index B)) (mean_of (change_at m.look index A) (change_at m.look index B))

-- the receivers of a round in reach, any two of which hear them so, come as near as without arbitrary nodes
abbrev pub AlikeRoundsShrink : Type 0
AlikeRoundsShrink =
    (r : Round) (flutter starts lengths next_starts next_lengths : ℕ) (beyond walk next reach : ℤ) (rows : List Hearer)
    → IsRoundInReach true r flutter reach rows → CanWalk r.params flutter beyond walk → pos 0 ≤ℤ next → (beyond +ℤ walk) ≤ℤ next
    → DrawsTo false r.params flutter starts lengths next_starts next_lengths
    → AreSharp r.params starts lengths beyond (map (λ node. node.even) (map (as_member r.params) rows))
    → ((n m : Hearer) → Contains rows n → Contains rows m → HearAlike r flutter lengths n m)
    → (one other : Member) → Contains (map (as_member r.params) rows) one → Contains (map (as_member r.params) rows) other
    → ComeSharply r.params next_starts next_lengths next one other
