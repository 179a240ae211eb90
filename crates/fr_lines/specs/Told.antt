-- What is told of a run, as a value.
use Rattle.std.specs.Prelude.{List, length, map, filter, Option}
use Rattle.fr_bound.specs.Bounds.{precision_of}
use Rattle.fr_cluster.specs.Constraints.{key_slots}
use Rattle.fr_cluster.specs.declared.nodes.NodeSpec.{NodeSpec}
use Rattle.fr_coverage.specs.declared.gap.Gap.{Gap}
use Rattle.fr_cluster.specs.Setting.{Setting}
use Rattle.fr_history.specs.Skew.{greatest_skew_of}
use Rattle.fr_history.specs.Cycles.{Cycles, told_of}
use Rattle.fr_history.specs.Unfollowed.{first_unfollowed_sync_of}
use Rattle.fr_history.specs.Standing.{kept_row_nodes}
use Rattle.fr_lines.specs.Clocks.{clock_of_next}
use Rattle.fr_lines.specs.Sums.{cuts_of, totals_of}
use Rattle.fr_lines.specs.declared.told.Told.{Told}

-- the arbitrary nodes
abbrev pub arbitrary_nodes : Setting → List NodeSpec
arbitrary_nodes x = filter (λ node. x.is_arbitrary node.id) x.params.nodes

-- what is told of cycles in a setting, of a run with this first gap or none: from when on its clocks are in sync and no node
-- follows, and the nodes that had a row in the last cycle
unfoldable pub run_told : Setting → Option Gap → Cycles → Told
run_told x gap h = record {
  nodes = length x.params.nodes;
  sync = length (key_slots x.params.nodes);
  arbitrary = length (arbitrary_nodes x);
  doubles = x.doubles;
  precision = precision_of x.params;
  gap = gap;
  synced = first_unfollowed_sync_of x.params h;
  greatest = greatest_skew_of x.params (told_of h);
  sums = totals_of (told_of h);
  cut = cuts_of (told_of h);
  clocks = map (clock_of_next x h) (kept_row_nodes x h);
}
