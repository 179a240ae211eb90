-- The first gap of a trace as a function.
use Rattle.std.specs.Prelude.{◌≡◌, ℕ, suc, ◌-ℤ◌, ◌&&◌, ◌||◌, not, Bool, length, Option, Some, None, option_and_then, if◌then◌else◌}
use Rattle.std.specs.Option.{option_or}
use Rattle.fr_base.specs.declared.node_row.NodeRow.{NodeRow}
use Rattle.fr_cluster.specs.Sane.{IsSane}
use Rattle.fr_cluster.specs.Values.{Values}
use Rattle.fr_cluster.specs.declared.nodes.NodeSpec.{NodeSpec}
use Rattle.fr_bound.specs.Outweighing.{outweighs}
use Rattle.fr_precision.specs.Round.{sync_count}
use Rattle.fr_coverage.specs.Coverage.{checks_gap, has_jumped, is_off}
use Rattle.fr_coverage.specs.First.{first_below, first_in}
use Rattle.fr_coverage.specs.declared.gap.Gap.{Gap}
use Rattle.fr_coverage.specs.declared.gap.Gap.TheVariants as gap
use Rattle.fr_history.specs.History.{History}
use Rattle.fr_trace.specs.Trace.{TraceView, is_named, row_at}
use Rattle.fr_verdict.specs.Gaps.{IsCoveredTrace, IsFirstTraceGap, has_rows, is_heard, is_lasting, is_pair}
use Rattle.fr_verdict.specs.Sync.{first_synced_of, is_early}

abbrev pub traced_weighed : ℕ → ℕ → Option Gap
traced_weighed correct arbitrary = if outweighs correct arbitrary then None else Some (gap.Count correct arbitrary)

abbrev pub traced_count_gap : Values → TraceView → Option Gap
traced_count_gap p t = traced_weighed (sync_count p (is_lasting t)) (sync_count p (is_named t))

-- of one node in one cycle
abbrev pub length_by : Values → ℕ → ℕ → NodeRow → Option Gap
length_by p node cycle row = if is_off p row.length then Some (gap.Length node cycle row.length) else None

abbrev pub traced_length_gap : Values → History → ℕ → ℕ → Option Gap
traced_length_gap p h node cycle = option_and_then (length_by p node cycle) (row_at h cycle node)

abbrev pub change_by : Values → ℕ → ℕ → NodeRow → NodeRow → Option Gap
change_by p node cycle before row =
    if has_jumped p before.length row.length then Some (gap.Change node (suc cycle) (row.length -ℤ before.length)) else None

abbrev pub traced_change_gap : Values → History → ℕ → ℕ → Option Gap
traced_change_gap p h node cycle =
    option_and_then (λ before. option_and_then (change_by p node cycle before) (row_at h (suc cycle) node)) (row_at h cycle node)

-- of one node; from one cycle to the next there are as many steps as cycles but one, and none leads out of the last
abbrev pub traced_lengths_gap : Values → TraceView → NodeSpec → Option Gap
traced_lengths_gap p t node = first_below (traced_length_gap p t.history node.id) (length t.history)

abbrev pub traced_changes_gap : Values → TraceView → NodeSpec → Option Gap
traced_changes_gap p t node = first_below (traced_change_gap p t.history node.id) (length t.history)

-- of one pair of nodes, with the first double cycle in sync: whether it is looked at in a double cycle
abbrev pub is_asked : TraceView → Option ℕ → NodeSpec → NodeSpec → ℕ → Bool
is_asked t synced sender receiver double =
    not (is_early synced double) && has_rows t.history double sender && has_rows t.history double receiver

abbrev pub traced_link_gap : TraceView → Option ℕ → NodeSpec → NodeSpec → ℕ → Option Gap
traced_link_gap t synced sender receiver double =
    if not (is_asked t synced sender receiver double) || is_heard t sender receiver double then None
    else Some (gap.Link sender.id receiver.id double)

abbrev pub traced_links_gap : TraceView → Option ℕ → NodeSpec → NodeSpec → Option Gap
traced_links_gap t synced sender receiver = if is_pair t sender receiver then first_below (traced_link_gap t synced sender receiver) t.doubles else None

abbrev pub traced_pairs_gap : Values → TraceView → Option ℕ → Option Gap
traced_pairs_gap p t synced = first_in (λ sender. first_in (traced_links_gap t synced sender) p.nodes) p.nodes

-- the first gap in the order of gaps, if there is one
unfoldable pub first_gap_of : Values → TraceView → Option Gap
first_gap_of p t =
    option_or (checks_gap p)
    (option_or (traced_count_gap p t)
    (option_or (first_in (traced_lengths_gap p t) p.nodes)
    (option_or (first_in (traced_changes_gap p t) p.nodes) (traced_pairs_gap p t (first_synced_of p t)))))

-- ---- it is what is meant

abbrev pub FoundGapIsFirst : Type 0
FoundGapIsFirst = (p : Values) (t : TraceView) (g : Gap) → IsSane p → first_gap_of p t ≡ Some g → IsFirstTraceGap p t g

abbrev pub NoGapFoundIsCovered : Type 0
NoGapFoundIsCovered = (p : Values) (t : TraceView) → IsSane p → first_gap_of p t ≡ None → IsCoveredTrace p t

abbrev pub FirstGapIsFound : Type 0
FirstGapIsFound = (p : Values) (t : TraceView) (g : Gap) → IsSane p → IsFirstTraceGap p t g → first_gap_of p t ≡ Some g
