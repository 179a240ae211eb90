-- What a program tells of a run is what is told of its cycles.
use Rattle.std.proofs.Common.{◌≡◌, ℕ, Bool, true, false, ◌≤◌, cond, List, [], ◌∷◌, length, Option, refl, arith}
use Rattle.fr_bound.specs.Bounds.{precision_of}
use Rattle.std.specs.Prelude.{filter}
use Rattle.std.proofs.lemmas.Bool.{cond_both}
use Rattle.fr_cluster.specs.Constraints.{key_slots}
use Rattle.fr_cluster.specs.Sane.{IsSane}
use Rattle.fr_cluster.specs.declared.nodes.NodeSpec.{NodeSpec}
use Rattle.fr_coverage.specs.declared.gap.Gap.{Gap}
use Rattle.fr_time.specs.Cycles.{is_odd}
use Rattle.fr_history.specs.History.{History, Record, row_of}
use Rattle.fr_cluster.specs.Setting.{Setting, correct_nodes, is_correct}
use Rattle.fr_history.specs.Cycles.{Cycles, told_of}
use Rattle.fr_history.specs.Standing.{has_row, kept_row_nodes}
use Rattle.fr_history.proofs.FollowedSync.{gathered_greatest, gathered_synced}
use Rattle.fr_lines.specs.Clocks.{AreClocksBehind, last_offset_of, offset_by}
use Rattle.fr_lines.specs.Held.{ReportHolds, ReportView, last_odd_of}
use Rattle.fr_lines.specs.Told.{arbitrary_nodes, run_told}
use Rattle.fr_lines.specs.declared.clocks.Clock.{Clock}
use Rattle.fr_lines.specs.declared.told.Told.{Told}

-- the offset terms of the last odd cycle are in its rows
last_offset-next : (r : Record) (h : History) (node : ℕ) (odd : Bool) → is_odd (length h) ≡ odd → last_offset_of h node ≡ offset_by (row_of (last_odd_of h) node) → last_offset_of (r ∷ h) node ≡ offset_by (row_of (last_odd_of (r ∷ h)) node)
unfolding last_offset_of last_odd_of
last_offset-next r h node true is after = rw is refl
last_offset-next r h node false is after = rw is after

pub last_offset_is : (h : History) (node : ℕ) → last_offset_of h node ≡ offset_by (row_of (last_odd_of h) node)
unfolding last_offset_of last_odd_of
last_offset_is [] node = refl
last_offset_is (r ∷ h) node = last_offset-next r h node (is_odd (length h)) refl (last_offset_is h node)

-- there are at most as many as the cluster has nodes
length-kept : (test : NodeSpec → Bool) (nodes : List NodeSpec) → length (filter test nodes) ≤ length nodes
length-kept test [] = omega arith
length-kept test (node ∷ nodes) =
    cond_both (test node) (node ∷ filter test nodes) (filter test nodes) (λ kept. length kept ≤ length (node ∷ nodes))
    (λ kept. omega (arith, length-kept test nodes)) (λ dropped. omega (arith, length-kept test nodes))

pub row_nodes-few : (x : Setting) → IsSane x.params → (h : Cycles) → length (kept_row_nodes x h) ≤ 64
row_nodes-few x sane [] = omega (arith, length-kept (λ node. has_row x [] node.id) (correct_nodes x), length-kept (λ node. is_correct x node.id) x.params.nodes, sane.lists.few_nodes)
row_nodes-few x sane (c ∷ h) = omega (arith, length-kept (λ node. has_row x h node.id) (correct_nodes x), length-kept (λ node. is_correct x node.id) x.params.nodes, sane.lists.few_nodes)

-- what is told by a report and by the clocks behind its last cycle
abbrev pub told_by : Setting → Option Gap → ReportView → List Clock → Told
told_by x gap report clocks = record {
  nodes = length x.params.nodes;
  sync = length (key_slots x.params.nodes);
  arbitrary = length (arbitrary_nodes x);
  doubles = x.doubles;
  precision = precision_of x.params;
  gap = gap;
  synced = report.gauge.synced;
  greatest = report.gauge.greatest;
  sums = report.sums;
  cut = report.cut;
  clocks = clocks;
}

pub told_is : (x : Setting) (gap : Option Gap) (report : ReportView) (clocks : List Clock) (h : Cycles) → AreClocksBehind x h clocks → ReportHolds x.params report h → told_by x gap report clocks ≡ run_told x gap h
unfolding run_told
told_is x gap report clocks h are held =
    rw (gathered_synced x.params report.gauge h held.gauge, gathered_greatest x.params report.gauge h held.gauge, held.sums, held.cut, are) refl
