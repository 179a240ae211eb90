-- Two worked traces: of two nodes that come into sharp sync, over four double cycles; and of three nodes beside an arbitrary one.
use Rattle.std.specs.Prelude.{◌≡◌, ◌<◌, ℕ, ℤ, pos, neg_ℤ, true, false, List, [], ◌∷◌, map, Some}
use Rattle.fr_base.specs.Counts.{no_counts}
use Rattle.fr_base.specs.Rows.{dev_with}
use Rattle.fr_base.specs.declared.channel.Channel.TheVariants.{A}
use Rattle.fr_base.specs.declared.dev.Dev.{Dev}
use Rattle.fr_base.specs.declared.node_row.NodeRow.{NodeRow}
use Rattle.fr_cluster.specs.Sane.{IsSane}
use Rattle.fr_cluster.specs.Values.{Values}
use Rattle.fr_bound.specs.Bounds.{lambda_of, pi_of}
use Rattle.fr_history.specs.History.{Record}
use Rattle.fr_history.specs.Worked.{on_a}
use Rattle.fr_trace.specs.Fits.{TraceFits}
use Rattle.fr_trace.specs.Lasting.{IsTrace}
use Rattle.fr_trace.specs.Trace.{TraceView}
use Rattle.fr_verdict.specs.Answer.{IsVerdict}
use Rattle.fr_verdict.specs.declared.unlawful.Verdict.{Verdict}
use Rattle.fr_bound.specs.SharpBounds.{sharp_near}
use Rattle.fr_bound.specs.SharpChecks.{sharp_holds_of}
use Rattle.fr_bound.specs.SharpSpreads.{IsSharplySettled}
use Rattle.fr_precision.specs.SharpSettling.{sharp_spread_after}
use Rattle.fr_verdict.specs.SharpTraces.{IsRecordedInSharpSync, IsRecordedNear, IsSteadyTrace, KeepsSharpClocks, SettlesRecorded, TracedChecksHold, TracedWayHolds, recorded_flutter}
use Rattle.fr_worked.specs.Clusters.{cluster_of}
use Rattle.fr_worked.specs.Entries.{row_with, steady_rows}
use Rattle.fr_worked.specs.OneArbitrary.{one_arbitrary_devs}

-- what a trace tells of a cycle, its rows and deviations, and the record of that
abbrev pub Told : Type 0
Told = List NodeRow × List Dev

abbrev pub record_told : Told → Record
record_told told = record { rows = told.0; devs = told.1; counts = no_counts }

-- ---- two nodes

abbrev pub two_nodes : Values
two_nodes = cluster_of (on_a 1 ∷ on_a 2 ∷ [])

-- nodes 1 and 2 with nominal microticks: their starts in ticks, and by how many microticks node 2 is late, which is measured by both
abbrev pub two_rows : ℤ → ℤ → ℤ → List NodeRow
two_rows start other offset =
    row_with 1 start (pos 1_000_000) (pos 0) offset ∷ row_with 2 other (pos 1_000_000) (pos 0) (neg_ℤ offset) ∷ []

abbrev pub two_devs : ℤ → List Dev
two_devs late = dev_with 1 2 A late ∷ dev_with 2 1 A (neg_ℤ late) ∷ []

-- both begin at once
abbrev pub two_together : ℤ → Told
two_together start = (two_rows start start (pos 0), two_devs (pos 0))

-- node 2 begins 60 microticks late, each node takes off one half of that, and from the second double cycle on they begin at once
abbrev pub coming_cycles : List Told
coming_cycles =
    two_together (pos 1_400_030_000_000)
    ∷ two_together (pos 1_200_030_000_000)
    ∷ two_together (pos 1_000_030_000_000)
    ∷ two_together (pos 800_030_000_000)
    ∷ two_together (pos 600_030_000_000)
    ∷ two_together (pos 400_030_000_000)
    ∷ (two_rows (pos 200_000_000_000) (pos 200_060_000_000) (pos 30), two_devs (pos 60))
    ∷ (two_rows (pos 0) (pos 60_000_000) (pos 0), two_devs (pos 60))
    ∷ []

abbrev pub coming_trace : TraceView
coming_trace = record { doubles = 4; arbitrary = []; joins = []; history = map record_told coming_cycles }

-- it passes, in sync from its first double cycle on
abbrev pub coming_verdict : Verdict
coming_verdict = record { synced = Some 0; skew = pos 60_000_000; cycle = 0; macrotick = pos 0 }

-- the spreads from the older pi and lambda have come to rest after two double cycles, so the trace keeps the sharper precision from the
-- third one on; in the first one it is in sync, and not in sharp sync
pub record PassesAndComesSharp : Type 0 where
  pub sane : IsSane two_nodes
  pub trace : IsTrace coming_trace
  pub fits : TraceFits two_nodes coming_trace
  pub verdict : IsVerdict two_nodes coming_trace coming_verdict
  pub settled :
      IsSharplySettled false two_nodes (recorded_flutter two_nodes)
      (sharp_spread_after false two_nodes (recorded_flutter two_nodes) (pi_of two_nodes) (lambda_of two_nodes) 2)
  pub apart : IsRecordedInSharpSync false two_nodes (pos 0) coming_trace.history 0 → ⊥
  pub keeps : KeepsSharpClocks false two_nodes coming_trace 2

-- how far action points may lie apart on the way from starts 60,000,000 ticks apart, in ticks
abbrev pub coming_reach : ℕ
coming_reach = 74_098_614

-- so it settles from these starts: in each of its double cycles it keeps to the spreads, and these have come to rest after one
pub record SettlesFromFarStarts : Type 0 where
  pub steady : IsSteadyTrace false two_nodes coming_trace 0
  pub way : TracedWayHolds false two_nodes 60_000_000 0 coming_reach
  pub near : IsRecordedNear two_nodes 60_000_000 0 (pos 0) coming_trace.history 0
  pub rest :
      IsSharplySettled false two_nodes (recorded_flutter two_nodes)
      (sharp_spread_after false two_nodes (recorded_flutter two_nodes) 60_000_000 0 1)
  pub settles : (passed : ℕ) → passed < 4 → SettlesRecorded false two_nodes coming_trace 60_000_000 0 0 passed

-- ---- three nodes beside an arbitrary one

abbrev pub four_nodes : Values
four_nodes = cluster_of (on_a 1 ∷ on_a 2 ∷ on_a 3 ∷ on_a 4 ∷ [])

-- all three begin at once; node 4 is 100 microticks late at node 1, as much early at node 2, and silent at node 3
abbrev pub named_cycle : ℤ → Told
named_cycle start = (steady_rows start (1 ∷ 2 ∷ 3 ∷ []), one_arbitrary_devs)

abbrev pub named_cycles : List Told
named_cycles = named_cycle (pos 200_000_000_000) ∷ named_cycle (pos 0) ∷ []

abbrev pub named_trace : TraceView
named_trace = record { doubles = 1; arbitrary = 4 ∷ []; joins = []; history = map record_told named_cycles }

-- it meets what the law of recorded traces asks for beside arbitrary nodes, and keeps the sharper precision
pub record KeepsSharplyBeside : Type 0 where
  pub steady : IsSteadyTrace true four_nodes named_trace 0
  pub first :
      sharp_holds_of 1 (recorded_flutter four_nodes) (sharp_near true four_nodes (recorded_flutter four_nodes)) four_nodes ≡ true
  pub checks : TracedChecksHold true four_nodes
  pub synced : IsRecordedInSharpSync true four_nodes (pos 0) named_trace.history 0
  pub keeps : KeepsSharpClocks true four_nodes named_trace 0
