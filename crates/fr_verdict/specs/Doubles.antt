-- The links of one double cycle.
use Rattle.std.specs.Prelude.{ℕ, Option, None, if◌then◌else◌}
use Rattle.fr_cluster.specs.Values.{Values}
use Rattle.fr_cluster.specs.declared.nodes.NodeSpec.{NodeSpec}
use Rattle.fr_coverage.specs.First.{first_in}
use Rattle.fr_coverage.specs.declared.gap.Gap.{Gap}
use Rattle.fr_trace.specs.Trace.{TraceView}
use Rattle.fr_verdict.specs.FirstGap.{traced_link_gap}
use Rattle.fr_verdict.specs.Gaps.{is_pair}

-- the gap of a pair of nodes there, with the first double cycle in sync
abbrev pub pair_gap_in : TraceView → Option ℕ → ℕ → NodeSpec → NodeSpec → Option Gap
pair_gap_in t synced double sender receiver = if is_pair t sender receiver then traced_link_gap t synced sender receiver double else None

-- the first of all pairs
abbrev pub double_gap : Values → TraceView → Option ℕ → ℕ → Option Gap
double_gap p t synced double = first_in (λ sender. first_in (pair_gap_in t synced double sender) p.nodes) p.nodes
