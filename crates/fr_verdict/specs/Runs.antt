-- The trace of a lawful run breaks no law, but that a node that joins may have its first row where the clocks are apart, and
-- that a deviation may lie outside where a frame was on its way for too long or too short, or a microtick lasted so.
use Rattle.std.specs.Prelude.{◌≡◌, ◌⊎◌, ℕ, ◌<◌, ℤ, false, Contains, ◌∷◌, ◌++◌, length}
use Rattle.fr_base.specs.declared.channel.Channel.{Channel}
use Rattle.fr_base.specs.declared.node_row.NodeRow.{NodeRow}
use Rattle.fr_cluster.specs.Sane.{IsSane}
use Rattle.fr_cluster.specs.Setting.{Setting}
use Rattle.fr_cluster.specs.Values.{Values}
use Rattle.fr_cluster.specs.declared.nodes.NodeSpec.{NodeSpec}
use Rattle.fr_precision.specs.Reception.{IsDelay}
use Rattle.fr_precision.specs.Rows.{HasProperMicro}
use Rattle.fr_runs.specs.Links.{IsLinked, Share}
use Rattle.fr_history.specs.Cycles.{Cycle, Cycles, some_joins, told_of}
use Rattle.fr_history.specs.History.{History, Record}
use Rattle.fr_history.specs.Lawful.{IsLawful}
use Rattle.fr_trace.specs.Bare.{bare_trace}
use Rattle.fr_trace.specs.Items.{IsAt}
use Rattle.fr_trace.specs.Items.Item.{Clock}
use Rattle.fr_trace.specs.Text.{trace_in}
use Rattle.fr_trace.specs.Trace.{TraceView}
use Rattle.fr_verdict.specs.Breach.{IsApartRow, IsBreach, IsLawfulTrace}
use Rattle.fr_verdict.specs.declared.unlawful.Unlawful.{Unlawful}
use Rattle.fr_verdict.specs.declared.unlawful.Unlawful.TheVariants as unlawful

-- the trace of the cycles of a run, as it is read
abbrev pub trace_of_run : Setting → Cycles → TraceView
trace_of_run x h = bare_trace (trace_in x (told_of h))

-- the first row of a node that joins, in a double cycle that is not in sync though an earlier one is
pub record IsFirstRowApart (p : Values) (t : TraceView) (u : Unlawful) : Type 0 where
  pub number : ℕ
  pub double : ℕ
  pub told : u ≡ unlawful.Apart number double
  pub h : History
  pub r : Record
  pub row : NodeRow
  pub at : IsAt t number (Clock h r row)
  pub apart : IsApartRow p t h row double

-- a deviation outside of what both rows allow
pub record IsToldOutside (u : Unlawful) : Type 0 where
  pub number : ℕ
  pub kept : ℤ
  pub low : ℤ
  pub high : ℤ
  pub told : u ≡ unlawful.Deviation number kept low high

-- no law but these two is broken in the trace of any lawful cycles
abbrev pub RunsBreakNoOther : Type 0
RunsBreakNoOther =
    (x : Setting) (h : Cycles) (u : Unlawful) → IsSane x.params → IsLawful x h → IsBreach x.params (trace_of_run x h) u
    → IsFirstRowApart x.params (trace_of_run x h) u ⊎ IsToldOutside u

-- in each cycle the delay from a correct node with a key slot to another correct node, on a channel that both have, lies within its
-- bounds, and so does the microtick of each node with a row
pub record KeepsArrivals (x : Setting) (h : Cycles) : Type 0 where
  pub micros : (later g : Cycles) (c : Cycle) (row : NodeRow) → h ≡ later ++ c ∷ g → Contains c.told.rows row → HasProperMicro x.params row
  pub delays :
      (cycle slot : ℕ) (sender receiver : NodeSpec) (channel : Channel)
      → cycle < length h → IsLinked x sender receiver slot → Share sender receiver channel
      → IsDelay x.params channel (x.delay sender.id receiver.id channel cycle)

-- there deviations lie within
abbrev pub ProperRunsBreakNoOther : Type 0
ProperRunsBreakNoOther =
    (x : Setting) (h : Cycles) (u : Unlawful) → IsSane x.params → IsLawful x h → KeepsArrivals x h → IsBreach x.params (trace_of_run x h) u
    → IsFirstRowApart x.params (trace_of_run x h) u

-- and where no correct node joins, the trace is lawful
abbrev pub ProperRunsAreLawful : Type 0
ProperRunsAreLawful =
    (x : Setting) (h : Cycles) → IsSane x.params → IsLawful x h → KeepsArrivals x h → some_joins x ≡ false → IsLawfulTrace x.params (trace_of_run x h)
