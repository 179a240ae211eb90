-- The worked trace of two nodes, computed.
use Rattle.std.specs.Prelude.{◌≡◌, ℕ, ℤ, pos, negsuc, true, false, List, [], ◌∷◌, Some, None}
use Rattle.fr_base.specs.Counts.{no_counts}
use Rattle.fr_base.specs.Rows.{dev_with}
use Rattle.fr_base.specs.declared.channel.Channel.TheVariants.{A}
use Rattle.fr_base.specs.declared.dev.Dev.{Dev}
use Rattle.fr_base.specs.declared.node_row.NodeRow.{NodeRow}
use Rattle.fr_base.specs.declared.state.State.{State}
use Rattle.fr_base.specs.declared.state.State.TheVariants.{Active, Halt, Passive}
use Rattle.fr_cluster.specs.Values.{Values}
use Rattle.fr_cluster.specs.declared.nodes.NodeSpec.{NodeSpec}
use Rattle.fr_coverage.specs.declared.gap.Gap.TheVariants as gap
use Rattle.fr_history.specs.History.{Record}
use Rattle.fr_history.specs.Skew.{greatest_skew_of}
use Rattle.fr_trace.specs.Items.{lines_of}
use Rattle.fr_trace.specs.Items.Line.{CycleLine, DevLine}
use Rattle.fr_trace.specs.Trace.{TraceView}
use Rattle.fr_verdict.specs.FirstGap.{first_gap_of}
use Rattle.fr_verdict.specs.Search.{first_breach_of}
use Rattle.fr_verdict.specs.Sync.{first_synced_of}
use Rattle.fr_verdict.specs.declared.unlawful.Unlawful.TheVariants as unlawful

abbrev on_a : ℕ → NodeSpec
on_a node = record { id = node; key = Some node; on_a = true; on_b = false; coldstart = true }

-- two nodes on channel A with key slots 1 and 2, and these offset limits
abbrev pub cluster_with : ℤ → Values
cluster_with limit = record {
  macros = pos 5_000;
  micros = pos 200_000;
  static_slots = pos 140;
  slot_macros = pos 30;
  action_offset = pos 7;
  idle_macros = pos 800;
  words = pos 0;
  correction = pos 4_900;
  max_passive = pos 2;
  max_fatal = pos 4;
  halt_allowed = pos 1;
  to_active = pos 2;
  damping = pos 4;
  offset_limit = limit;
  rate_limit = pos 81;
  compensation_a = pos 0;
  compensation_b = pos 0;
  rate_bound = pos 200;
  change_bound = pos 0;
  delay_error = pos 500_000;
  nodes = on_a 1 ∷ on_a 2 ∷ [];
  slots = [];
}

abbrev pub cluster : Values
cluster = cluster_with (pos 254)

abbrev pub traced_row_with : ℕ → ℤ → ℤ → ℤ → State → NodeRow
traced_row_with node start rate offset state = record { node = node; start = start; length = pos 1_000_000; rate = rate; offset = offset; state = state; cut = 0 }

abbrev pub active_row : ℕ → ℤ → ℤ → NodeRow
active_row node start offset = traced_row_with node start (pos 0) offset Active

abbrev pub record_with : List NodeRow → List Dev → Record
record_with rows devs = record { rows = rows; devs = devs; counts = no_counts }

abbrev pub trace_with : Record → Record → TraceView
trace_with even odd = record { doubles = 1; arbitrary = []; joins = []; history = odd ∷ even ∷ [] }

-- node 2 begins 2,500,000 ticks after node 1, so that node 1 measures 2 microticks of 1,000,000 ticks and node 2 measures -3
abbrev pub both_heard : List Dev
both_heard = dev_with 1 2 A (pos 2) ∷ dev_with 2 1 A (negsuc 2) ∷ []

abbrev pub even_rows : List NodeRow
even_rows = active_row 1 (pos 0) (pos 0) ∷ active_row 2 (pos 2_500_000) (pos 0) ∷ []

-- the odd rows, with this row of node 1
abbrev pub odd_rows : NodeRow → List NodeRow
odd_rows row = row ∷ active_row 2 (pos 200_002_500_000) (negsuc 0) ∷ []

abbrev pub odd_row : NodeRow
odd_row = active_row 1 (pos 200_000_000_000) (pos 1)

abbrev pub worked : TraceView
worked = trace_with (record_with even_rows both_heard) (record_with (odd_rows odd_row) both_heard)

-- with another row of node 1 in its sixth record
abbrev pub worked_with : NodeRow → TraceView
worked_with row = trace_with (record_with even_rows both_heard) (record_with (odd_rows row) both_heard)

abbrev pub ItemsAreNumbered : Type 0
ItemsAreNumbered =
    lines_of worked
    ≡ (2, CycleLine 0 (active_row 1 (pos 0) (pos 0)))
    ∷ (3, DevLine 0 (dev_with 1 2 A (pos 2)))
    ∷ (4, CycleLine 0 (active_row 2 (pos 2_500_000) (pos 0)))
    ∷ (5, DevLine 0 (dev_with 2 1 A (negsuc 2)))
    ∷ (6, CycleLine 1 (active_row 1 (pos 200_000_000_000) (pos 1)))
    ∷ (7, DevLine 1 (dev_with 1 2 A (pos 2)))
    ∷ (8, CycleLine 1 (active_row 2 (pos 200_002_500_000) (negsuc 0)))
    ∷ (9, DevLine 1 (dev_with 2 1 A (negsuc 2)))
    ∷ []

-- no law is broken, it is in sync from its first double cycle on, and node 2 is late by the same all along
abbrev pub WorkedIsLawful : Type 0
WorkedIsLawful =
    (first_breach_of cluster worked ≡ None)
    × (first_synced_of cluster worked ≡ Some 0)
    × (greatest_skew_of cluster worked.history ≡ Some (record { skew = pos 2_500_000; cycle = 0; macrotick = 0 }))

-- another start, rate or state in its sixth record
abbrev pub RowsAreBroken : Type 0
RowsAreBroken =
    (first_breach_of cluster (worked_with (active_row 1 (pos 200_000_000_001) (pos 1))) ≡ Some (unlawful.Start 6 (pos 200_000_000_001) (pos 200_000_000_000)))
    × (first_breach_of cluster (worked_with (traced_row_with 1 (pos 200_000_000_000) (pos 1) (pos 1) Active)) ≡ Some (unlawful.Rate 6 (pos 1) (pos 0)))
    × (first_breach_of cluster (worked_with (traced_row_with 1 (pos 200_000_000_000) (pos 0) (pos 1) Passive)) ≡ Some (unlawful.Turn 6 Passive Active))

-- node 2 begins 5,000,000 ticks after node 1, and an offset limit of 1 cuts both terms, after which neither node may be active
abbrev pub apart : List Dev
apart = dev_with 1 2 A (pos 5) ∷ dev_with 2 1 A (negsuc 4) ∷ []

abbrev pub cut_terms : TraceView
cut_terms = record {
  doubles = 2;
  arbitrary = [];
  joins = [];
  history =
      record_with (active_row 1 (pos 400_001_000_000) (pos 0) ∷ active_row 2 (pos 400_004_000_000) (pos 0) ∷ []) []
      ∷ record_with (active_row 1 (pos 200_000_000_000) (pos 1) ∷ active_row 2 (pos 200_005_000_000) (negsuc 0) ∷ []) apart
      ∷ record_with (active_row 1 (pos 0) (pos 0) ∷ active_row 2 (pos 5_000_000) (pos 0) ∷ []) apart
      ∷ [];
}

-- another offset in its sixth record, no ninth record, and a node that is active after a term was cut
abbrev pub TermsAreBroken : Type 0
TermsAreBroken =
    (first_breach_of cluster (worked_with (active_row 1 (pos 200_000_000_000) (pos 2))) ≡ Some (unlawful.Offset 6 (pos 2) (pos 1)))
    × (first_breach_of cluster (trace_with (record_with even_rows both_heard) (record_with (odd_rows odd_row) (dev_with 1 2 A (pos 2) ∷ []))) ≡ Some (unlawful.Offset 8 (negsuc 0) (pos 0)))
    × (first_breach_of (cluster_with (pos 1)) cut_terms ≡ Some (unlawful.Turn 10 Active Halt))

-- a deviation about a node that is not active, and one above what both rows allow
abbrev pub DevsAreBroken : Type 0
DevsAreBroken =
    (first_breach_of cluster (trace_with (record_with (active_row 1 (pos 0) (pos 0) ∷ traced_row_with 2 (pos 2_500_000) (pos 0) (pos 0) Passive ∷ []) both_heard) (record_with (odd_rows odd_row) both_heard)) ≡ Some (unlawful.Silent 3 Passive))
    × (first_breach_of cluster (trace_with (record_with even_rows (dev_with 1 2 A (pos 2) ∷ dev_with 2 1 A (negsuc 8) ∷ [])) (record_with (odd_rows odd_row) both_heard)) ≡ Some (unlawful.Deviation 5 (negsuc 8) (negsuc 2) (negsuc 1)))

-- where nothing is measured, so that no offset is corrected
abbrev pub quiet : TraceView
quiet = trace_with (record_with even_rows []) (record_with (active_row 1 (pos 200_000_000_000) (pos 0) ∷ active_row 2 (pos 200_002_500_000) (pos 0) ∷ []) [])

-- the worked trace is covered; where nothing is measured the link from node 1 to node 2 is a gap
abbrev pub GapsAreFound : Type 0
GapsAreFound =
    (first_gap_of cluster worked ≡ None)
    × (first_breach_of cluster quiet ≡ None)
    × (first_gap_of cluster quiet ≡ Some (gap.Link 1 2 0))

-- ---- a node that joins

-- node 1 alone in a cycle
abbrev pub node_1_alone : ℤ → List Dev → Record
node_1_alone start devs = record_with (active_row 1 start (pos 0) ∷ []) devs

-- deviations of both where they begin at once
abbrev pub together : List Dev
together = dev_with 1 2 A (pos 0) ∷ dev_with 2 1 A (pos 0) ∷ []

-- node 2 listens to node 1 in double cycle 0, so that it may have its first row in cycle 6: this one, with these deviations in
-- that cycle, and with these ones in cycle 5
abbrev pub joined_with : NodeRow → List Dev → List Dev → TraceView
joined_with row devs early = record {
  doubles = 4;
  arbitrary = [];
  joins = record { node = 2; join = record { double = 0; reference = 1 } } ∷ [];
  history =
      record_with (active_row 1 (pos 1_400_000_000_000) (pos 0) ∷ active_row 2 (pos 1_400_000_000_000) (pos 0) ∷ []) together
      ∷ record_with (active_row 1 (pos 1_200_000_000_000) (pos 0) ∷ row ∷ []) devs
      ∷ node_1_alone (pos 1_000_000_000_000) early
      ∷ node_1_alone (pos 800_000_000_000) []
      ∷ node_1_alone (pos 600_000_000_000) []
      ∷ node_1_alone (pos 400_000_000_000) []
      ∷ node_1_alone (pos 200_000_000_000) []
      ∷ node_1_alone (pos 0) []
      ∷ [];
}

-- it begins as node 1 does
abbrev pub joined_trace : TraceView
joined_trace = joined_with (active_row 2 (pos 1_200_000_000_000) (pos 0)) together []

-- no law is broken: the first row of node 2 has no start law and no rate law. It is in sync from the first double cycle on, and
-- covered, though node 2 is not heard before it joins
abbrev pub JoinedIsLawful : Type 0
JoinedIsLawful = (first_breach_of cluster joined_trace ≡ None) × (first_synced_of cluster joined_trace ≡ Some 0) × (first_gap_of cluster joined_trace ≡ None)

-- it begins 400,000,000 ticks after node 1, too far apart for a double cycle in sync; or a deviation is about it before it has a row
abbrev pub NodesAreApart : Type 0
NodesAreApart =
    (first_breach_of cluster (joined_with (active_row 2 (pos 1_200_400_000_000) (pos 0)) (dev_with 1 2 A (pos 400) ∷ dev_with 2 1 A (negsuc 399) ∷ []) []) ≡ Some (unlawful.Apart 11 3))
    × (first_breach_of cluster (joined_with (active_row 2 (pos 1_200_000_000_000) (pos 0)) together (dev_with 1 2 A (pos 0) ∷ [])) ≡ Some (unlawful.Apart 9 2))
