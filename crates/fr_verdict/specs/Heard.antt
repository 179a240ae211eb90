-- What each node of two records heard of each other one, and what of any two of them suffices for it.
use Rattle.std.specs.Prelude.{◌≡◌, ℕ, ℤ, pos, Bool, Contains, IsSome, Some}
use Rattle.fr_base.specs.Rows.{dev_in}
use Rattle.fr_base.specs.declared.channel.Channel.{Channel}
use Rattle.fr_cluster.specs.Questions.{own_index}
use Rattle.fr_cluster.specs.Sane.{IsSane}
use Rattle.fr_cluster.specs.Setting.{Setting, correct_nodes, is_correct}
use Rattle.fr_cluster.specs.declared.nodes.NodeSpec.{NodeSpec}
use Rattle.fr_time.specs.Slots.{action_point_of}
use Rattle.fr_measure.specs.Deviations.{deviations_of}
use Rattle.fr_precision.specs.Offsets.{IsDeviation}
use Rattle.fr_history.specs.History.{Record, row_for}
use Rattle.fr_precision.specs.Round.{Hearer, IsHeardAt, Round}
use Rattle.fr_runs.specs.Links.{IsLinked, record_in}

-- the round of two records: the senders are the correct sync nodes
abbrev pub traced_round : Setting → Record → Record → Round
traced_round x even odd = record {
  params = x.params;
  is_arbitrary = x.is_arbitrary;
  has_rows = is_correct x;
  even = row_for even.rows;
  odd = row_for odd.rows;
}

-- a node as a receiver of this round
abbrev pub hearer_of : Setting → Record → Record → ℕ → Hearer
hearer_of x even odd node = record {
  even = row_for even.rows node;
  odd = row_for odd.rows node;
  own = own_index x.params node;
  look = deviations_of x.params even.devs odd.devs node;
}

-- each correct node has the deviations of each sender, and none of nodes that are neither correct nor arbitrary
abbrev pub AllHear : Setting → Record → Record → Type 0
AllHear x even odd =
    (node : NodeSpec) → Contains (correct_nodes x) node → IsHeardAt (traced_round x even odd) (hearer_of x even odd node.id)

-- each deviation of the sender is one of both rows, and on some channel there is one in both cycles
pub record IsHeardBy (x : Setting) (even odd : Record) (sender receiver : NodeSpec) (slot : ℕ) : Type 0 where
  pub placed :
      (is_odd : Bool) (channel : Channel) (value : ℤ)
      → dev_in (record_in is_odd even odd).devs receiver.id slot channel ≡ Some value
      → IsDeviation x.params is_odd (pos (action_point_of x.params slot))
      (row_for (record_in is_odd even odd).rows receiver.id) (row_for (record_in is_odd even odd).rows sender.id) value
  pub channel : Channel
  pub early : IsSome (dev_in even.devs receiver.id slot channel)
  pub late : IsSome (dev_in odd.devs receiver.id slot channel)

-- where this holds of each link all correct nodes hear each other, whatever their clocks are
abbrev pub HeardSuffices : Type 0
HeardSuffices =
    (x : Setting) (even odd : Record) → IsSane x.params
    → ((sender receiver : NodeSpec) (slot : ℕ) → IsLinked x sender receiver slot → IsHeardBy x even odd sender receiver slot)
    → AllHear x even odd
