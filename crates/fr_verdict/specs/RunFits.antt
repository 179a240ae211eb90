-- The trace of a run, whoever joins, fits its cluster, and its text is read back.
use Rattle.std.specs.Prelude.{◌≡◌, ◌≢◌, ℕ, ◌*◌, ◌<◌, ◌≤◌, ◌≤ℤ◌, ℤ, pos, true, false, Contains, List, length, Option, None, Some, IsSome}
use Rattle.fr_base.specs.Event.Event.{Say}
use Rattle.fr_base.specs.Timed.{IsLength}
use Rattle.fr_base.specs.Within.{IsBetween, IsWithin}
use Rattle.fr_base.specs.declared.channel.Channel.{Channel}
use Rattle.fr_cluster.specs.Questions.{is_common, node_of, own_key}
use Rattle.fr_cluster.specs.Sane.{IsSane}
use Rattle.fr_cluster.specs.Setting.{Setting}
use Rattle.fr_cluster.specs.declared.join.Join.{Join}
use Rattle.fr_cluster.specs.declared.nodes.NodeSpec.{NodeSpec}
use Rattle.fr_drift.specs.Rows.{most_link_delay}
use Rattle.fr_history.specs.Cycles.{Cycles, told_of}
use Rattle.fr_history.specs.Lawful.{IsLawful}
use Rattle.fr_trace.specs.Fits.{TraceFits}
use Rattle.fr_trace.specs.Lasting.{IsTrace}
use Rattle.fr_trace.specs.ReadBack.{IsReadBack}
use Rattle.fr_trace.specs.Text.{text_of, trace_in}
use Rattle.fr_verdict.specs.Runs.{trace_of_run}

-- what a run's files keep of a node that joins: it is a correct one of the cluster, and so is its reference, which is another one
-- with a key slot and a channel in common and joins nobody itself; and no frame is on its way to it for longer than a file lets it
pub record JoinsInRange (x : Setting) (node : ℕ) (join : Join) : Type 0 where
  pub known : IsSome (node_of x.params node)
  pub correct : x.is_arbitrary node ≡ false
  pub known_reference : IsSome (node_of x.params join.reference)
  pub correct_reference : x.is_arbitrary join.reference ≡ false
  pub key : IsSome (own_key x.params join.reference)
  pub other : join.reference ≢ node
  pub stays : x.join join.reference ≡ None
  pub channel : Channel
  pub common : is_common x.params node join.reference channel ≡ true
  pub double : join.double < 100_000
  pub delays : (sender cycle : ℕ) (ch : Channel) → x.delay sender node ch cycle ≤ℤ pos most_link_delay

-- and of all: sane parameters, 1 to 100,000 double cycles, ranges of clocks; arbitrary nodes have key slots, and say something only
-- to nodes with which they have the channel in common
pub record KeepsRanges (x : Setting) : Type 0 where
  pub sane : IsSane x.params
  pub doubles_from : 1 ≤ x.doubles
  pub doubles_to : x.doubles ≤ 100_000
  pub starts : (node : ℕ) → IsBetween (pos 0) (pos 1_000_000_000_000) (x.start node)
  pub rates : (node : ℕ) → IsWithin x.params.rate_limit (x.rate node)
  pub lengths : (node cycle : ℕ) → IsLength (x.microtick node cycle)
  pub keyed : (node : NodeSpec) → Contains x.params.nodes node → x.is_arbitrary node.id ≡ true → IsSome node.key
  pub heard :
      (cycle sender receiver : ℕ) (channel : Channel) (shift : ℤ) (bytes : Option (List ℕ))
      → x.is_arbitrary sender ≡ true → x.event cycle sender receiver channel ≡ Say shift bytes → is_common x.params sender receiver channel ≡ true
  pub joins : (node : ℕ) (join : Join) → x.join node ≡ Some join → JoinsInRange x node join

-- the trace of all cycles of such a run is one and fits
pub record IsFitting (x : Setting) (h : Cycles) : Type 0 where
  pub trace : IsTrace (trace_of_run x h)
  pub fits : TraceFits x.params (trace_of_run x h)

abbrev pub RunsFit : Type 0
RunsFit = (x : Setting) (h : Cycles) → KeepsRanges x → IsLawful x h → length h ≡ 2 * x.doubles → IsFitting x h

-- and the text that is written of it is accepted as a trace file, and stands for it and for no other
abbrev pub RunsAreReadBack : Type 0
RunsAreReadBack =
    (x : Setting) (h : Cycles) → KeepsRanges x → IsLawful x h → length h ≡ 2 * x.doubles
    → IsReadBack x.params (trace_of_run x h) (text_of (trace_in x (told_of h)))
