-- The precision of a trace that passes: its clocks ran by their laws, and from its first double cycle in sync on they keep
-- together, whoever joins.
use Rattle.std.specs.Prelude.{◌≡◌, ℕ, suc, ◌*◌, ◌<◌, ◌≤◌, ◌≤ℤ◌, pos, ◌∷◌, ◌++◌, length, filter, All, List, Some}
use Rattle.fr_base.specs.declared.node_row.NodeRow.{NodeRow}
use Rattle.fr_base.specs.declared.state.Outcome.TheVariants.{Within}
use Rattle.fr_base.specs.declared.state.State.TheVariants.{Active}
use Rattle.fr_cluster.specs.Sane.{IsSane}
use Rattle.fr_cluster.specs.Values.{Values, amount}
use Rattle.fr_cluster.specs.declared.names.ParamName.TheVariants as name
use Rattle.fr_cluster.specs.declared.nodes.NodeSpec.{NodeSpec}
use Rattle.fr_bound.specs.Bounds.{precision_of}
use Rattle.fr_history.specs.History.{History, Record, record_at, row_for}
use Rattle.fr_history.specs.Rows.{ClockLaws, RowsRun, offset_after}
use Rattle.fr_history.specs.Skew.{skew_at}
use Rattle.fr_history.specs.Sync.{IsInSyncAt}
use Rattle.fr_history.specs.Terms.{offset_term_in, rate_term_in, status_in}
use Rattle.fr_trace.specs.Fits.{TraceFits}
use Rattle.fr_trace.specs.Lasting.{IsTrace}
use Rattle.fr_trace.specs.Trace.{TraceView, has_row_in, rows_at}
use Rattle.fr_verdict.specs.Answer.{IsVerdict}
use Rattle.fr_verdict.specs.Breach.{IsLawfulTrace, traced_rate, traced_start}
use Rattle.fr_verdict.specs.declared.unlawful.Verdict.{Verdict}

-- the recorded row of a node in the cycle behind some records
abbrev pub recorded_row : TraceView → History → ℕ → NodeRow
recorded_row t h node = row_for (rows_at t.history (length h)) node

-- what the clocks of that cycle run by: lengths are those that are recorded, and so are the start and the rate where they are
-- free, in cycle 0 and in a node's first cycle
abbrev pub recorded_laws : Values → TraceView → History → ClockLaws
recorded_laws p t h = record {
  start = λ node. traced_start p h (recorded_row t h node);
  microtick = λ node. (recorded_row t h node).length;
  rate = λ node. traced_rate p h (recorded_row t h node);
  state = λ node. (status_in p h node).state;
}

-- the nodes that have a row in a record behind others
abbrev pub traced_nodes : Values → TraceView → History → Record → List NodeSpec
traced_nodes p t h r = filter (λ node. has_row_in t h r node.id) p.nodes

-- the clocks of a lawful trace run by their laws, cycle by cycle
abbrev pub LawfulTracesRun : Type 0
LawfulTracesRun =
    (p : Values) (t : TraceView) → IsTrace t → TraceFits p t → IsLawfulTrace p t → (later h : History) (r : Record)
    → t.history ≡ later ++ r ∷ h → RowsRun (recorded_laws p t h) (offset_after p h r) (traced_nodes p t h r) r.rows

-- both terms of a row's node at the end of an odd cycle, by the recorded deviations of its double cycle, lie within their limits
pub record AreTermsWithin (p : Values) (h : History) (r : Record) (row : NodeRow) : Type 0 where
  pub offset : (offset_term_in p h r.devs row.node).outcome ≡ Within
  pub rate : (rate_term_in p h r.devs row).outcome ≡ Within

-- from a double cycle on the nodes with rows are in sync in each double cycle of the trace, whoever joins or may follow there;
-- corresponding macroticks of theirs lie no further apart than the precision, in ticks, every such node is active, after the last
-- cycle too, and none of its terms is cut or missing
pub record KeepsRecordedClocks (p : Values) (t : TraceView) (double : ℕ) : Type 0 where
  pub synced : (k : ℕ) → double ≤ k → suc (2 * k) < length t.history → IsInSyncAt p t.history k
  pub skew :
      (cycle macrotick : ℕ) → 2 * double ≤ cycle → cycle < length t.history → macrotick < amount p name.gMacroPerCycle
      → skew_at p t.history cycle macrotick ≤ℤ pos (precision_of p)
  pub active :
      (cycle : ℕ) (r : Record) → 2 * double ≤ cycle → record_at t.history cycle ≡ Some r
      → All (λ row. row.state ≡ Active) r.rows
  pub within :
      (k : ℕ) (later h : History) (even odd : Record) → double ≤ k → t.history ≡ later ++ odd ∷ even ∷ h → length h ≡ 2 * k
      → All (AreTermsWithin p (even ∷ h) odd) odd.rows
  pub after :
      (last : Record) (h : History) → t.history ≡ last ∷ h → All (λ row. (status_in p t.history row.node).state ≡ Active) last.rows

-- what a verdict promises of the recorded trace: so it is from the first double cycle on that is in sync and in which no node may
-- follow, if there is one; of a node that joins nothing is said before its first row
abbrev pub KeepsItsPrecision : Values → TraceView → Verdict → Type 0
KeepsItsPrecision p t v = (double : ℕ) → v.synced ≡ Some double → KeepsRecordedClocks p t double

-- a trace with a verdict keeps its precision
abbrev pub CheckedTracesKeepPrecision : Type 0
CheckedTracesKeepPrecision =
    (p : Values) (t : TraceView) (v : Verdict) → IsSane p → IsTrace t → TraceFits p t → IsVerdict p t v → KeepsItsPrecision p t v
