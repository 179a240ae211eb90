-- What contracts see of a node.
use Rattle.std.specs.Prelude.{ℕ, ◌+◌, ◌*◌, ◌<◌, ◌≤◌, ℤ, pos, Bool, Option, IsSome, unwrap_or, if◌then◌else◌}
use Rattle.std.specs.Option.{ForSome}
use Rattle.fr_base.specs.declared.node_row.NodeRow.{NodeRow}
use Rattle.fr_base.specs.declared.state.Outcome.{Outcome}
use Rattle.fr_base.specs.declared.state.State.{State}
use Rattle.fr_base.specs.declared.state.State.TheVariants.{Passive}
use Rattle.fr_base.specs.Timed.{IsLength}
use Rattle.fr_base.specs.Within.{IsBetween, IsWithin}
use Rattle.fr_measure.specs.Readings.{Readings}
use Rattle.fr_poc.specs.Control.{Control}

-- A node: its number, the cycle that is under way or comes next, the length of a microtick in the one that is under
-- way, the start, in ticks, and the rate term, in microticks, of the cycle that is under way or comes next, the
-- deviations of its double cycle, its operation control, whether it follows, and how its offset and its rate term ended
-- in its last odd cycle that has ended, if there is one.
pub record NodeView : Type 0 where
  pub id : ℕ
  pub cycle : ℕ
  pub length : Option ℤ
  pub start : ℤ
  pub rate : ℤ
  pub table : Readings
  pub control : Control
  pub follows : Bool
  pub outcomes : Option (Outcome × Outcome)

-- its state: one that follows listens and corrects its clock, whatever its operation control, which takes no step
abbrev pub state_of_node : NodeView → State
state_of_node node = if node.follows then Passive else node.control.status.state

-- the row of the cycle that is under way, before its end: no offset term is there yet, and nothing was cut
abbrev pub node_row_of : NodeView → NodeRow
node_row_of node = record {
  node = node.id;
  start = node.start;
  length = unwrap_or node.length (pos 0);
  rate = node.rate;
  offset = pos 0;
  state = state_of_node node;
  cut = 0;
}

-- the numbers of a node: it begins up to 4,000,000,000,000,000 ticks behind an arrival of up to 900,000,000,000,000,000 ticks, where
-- it follows, and no cycle takes more than 990,000,000,000 ticks
pub record IsNode (node : NodeView) : Type 0 where
  pub few : node.cycle ≤ 200_000
  pub in_run : IsSome node.length → node.cycle < 200_000
  pub start : IsBetween (pos 0) (pos (904_000_000_000_000_000 + 990_000_000_000 * node.cycle)) node.start
  pub rate : IsWithin (pos 2000) node.rate
  pub length : ForSome node.length IsLength
