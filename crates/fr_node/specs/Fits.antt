-- When a node fits its cluster.
use Rattle.std.specs.Prelude.{◌≡◌, ◌≢◌, ℕ, ◌<◌, ◌≤◌, Bool, Some, None, IsNone, IsSome, IsTrue}
use Rattle.fr_base.specs.declared.channel.Channel.{Channel}
use Rattle.fr_base.specs.declared.node_row.NodeRow.{NodeRow}
use Rattle.fr_base.specs.declared.state.State.TheVariants.{Halt}
use Rattle.fr_cluster.specs.Sane.{IsSane}
use Rattle.fr_cluster.specs.Values.{Values, amount}
use Rattle.fr_cluster.specs.Questions.{has_channel, node_of, own_index, own_key}
use Rattle.fr_cluster.specs.declared.names.ParamName.TheVariants as name
use Rattle.fr_time.specs.Instant.{KeepsLimits}
use Rattle.fr_base.specs.Within.{IsWithin}
use Rattle.fr_measure.specs.Readings.{reading}
use Rattle.fr_poc.specs.Limits.{limits_of}
use Rattle.fr_correct.specs.declared.term.Term.{Term}
use Rattle.fr_node.specs.Cycle.{offset_term_of_node, rate_term_of_node}
use Rattle.fr_node.specs.View.{NodeView, state_of_node}

-- a node fits a cluster, whose parameters are sane: it is known there, its rate term lies within the limit, its operation control has the cluster's
-- limits, and it has no deviation of itself
pub record NodeFits (p : Values) (node : NodeView) : Type 0 where
  pub sane : IsSane p
  pub known : IsSome (node_of p node.id)
  pub rate : IsWithin p.rate_limit node.rate
  pub limits : node.control.limits ≡ limits_of p
  pub not_itself : (index : ℕ) (odd : Bool) (channel : Channel) → own_index p node.id ≡ Some index → reading node.table index odd channel ≡ None

-- the cycle of a node that fits is under way
pub record IsUnderWay (p : Values) (node : NodeView) : Type 0 where
  pub fits : NodeFits p node
  pub under_way : IsSome node.length

-- a node may begin a cycle: the next one, within the longest run
pub record CanBegin (node : NodeView) (cycle : ℕ) : Type 0 where
  pub between : IsNone node.length
  pub next : cycle ≡ node.cycle
  pub in_run : cycle < 200_000

-- a node whose cycle is under way may be offered a frame: it is not halted, it has the channel, and the slot is a static
-- one and not its own key slot
pub record CanReceive (p : Values) (node : NodeView) (slot : ℕ) (channel : Channel) : Type 0 where
  pub fits : NodeFits p node
  pub under_way : IsSome node.length
  pub receives : state_of_node node ≢ Halt
  pub on_channel : IsTrue (has_channel (node_of p node.id) channel)
  pub static_slot : slot ≤ amount p name.gNumberOfStaticSlots
  pub not_itself : own_key p node.id ≢ Some slot

-- the row of a cycle that has ended: its numbers are in their ranges, and each of both terms was cut at most once
pub record IsEndedRow (p : Values) (row : NodeRow) : Type 0 where
  pub proper : KeepsLimits p row
  pub cut : row.cut ≤ 2

-- the terms of a node that fits, by its deviations
pub record AreTermsOf (p : Values) (node : NodeView) (offset rate : Term) : Type 0 where
  pub offset_is : offset ≡ offset_term_of_node p node
  pub offset_within : IsWithin p.offset_limit offset.value
  pub rate_is : rate ≡ rate_term_of_node p node
  pub rate_within : IsWithin p.rate_limit rate.value
