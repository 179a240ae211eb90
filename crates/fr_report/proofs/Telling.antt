-- The clocks of a world's nodes are those behind its cycles.
use Rattle.std.proofs.Common.{◌≡◌, ◌≤◌, List, [], ◌∷◌, length, map, false, Option, refl, ap, ap₂, subst, ◌∙◌, arith}
use Rattle.std.proofs.lemmas.List.{length-map}
use Rattle.fr_air.specs.Views.{node_of_next}
use Rattle.fr_cluster.specs.Sane.{IsSane}
use Rattle.fr_cluster.specs.Setting.{Setting}
use Rattle.fr_cluster.specs.Values.{Values}
use Rattle.fr_cluster.specs.declared.nodes.NodeSpec.{NodeSpec}
use Rattle.fr_coverage.specs.Decided.{setting_of}
use Rattle.fr_coverage.specs.declared.gap.Gap.{Gap}
use Rattle.fr_drift.specs.View.{DriftView}
use Rattle.fr_history.specs.Cycles.{Cycles, told_of}
use Rattle.fr_history.specs.Standing.{kept_row_nodes}
use Rattle.fr_lines.specs.Clocks.{AreClocksBehind, clock_of_next}
use Rattle.fr_lines.specs.Held.{ReportHolds, ReportView, last_odd_of}
use Rattle.fr_lines.specs.Told.{run_told}
use Rattle.fr_lines.specs.declared.clocks.Clock.{Clock}
use Rattle.fr_lines.specs.declared.told.Told.{Told}
use Rattle.fr_lines.proofs.Telling.{last_offset_is, row_nodes-few}
use Rattle.fr_node.specs.View.{NodeView}
use Rattle.fr_script.specs.View.{ScriptView}
use Rattle.fr_world.specs.Standing.{nodes_kept}
use Rattle.fr_world.specs.World.{WorldView, setting_after, world_cycles}
use Rattle.fr_report.specs.Worlds.{IsReportOf, clock_between}

-- the clock of a node behind some cycles, by its rows
clock_is : (x : Setting) (h : Cycles) (node : NodeSpec) → clock_between (last_odd_of (told_of h)) (node_of_next x h false node.id) ≡ clock_of_next x h node
clock_is x h node = rw (last_offset_is (told_of h) node.id) refl

clocks_are : (x : Setting) (h : Cycles) (nodes : List NodeSpec) → map (clock_between (last_odd_of (told_of h))) (map (λ node. node_of_next x h false node.id) nodes) ≡ map (clock_of_next x h) nodes
clocks_are x h [] = refl
clocks_are x h (node ∷ nodes) = ap₂ (λ clock clocks. clock ∷ clocks) (clock_is x h node) (clocks_are x h nodes)

pub nodes-few : (x : Setting) → IsSane x.params → (h : Cycles) (nodes : List NodeView) → nodes ≡ nodes_kept x h → length nodes ≤ 64
nodes-few x sane h nodes are =
    let long : length nodes ≡ length (kept_row_nodes x h) = ap length are ∙ length-map (kept_row_nodes x h) (λ node. node_of_next x h false node.id) in
    omega (arith, long, row_nodes-few x sane h)

pub clocks_behind : (x : Setting) (report : ReportView) (nodes : List NodeView) (clocks : List Clock) (h : Cycles) → nodes ≡ nodes_kept x h → ReportHolds x.params report h
    → clocks ≡ map (clock_between report.odd) nodes → AreClocksBehind x h clocks
clocks_behind x report nodes clocks h are held is = is ∙ rw (held.odd, are) (clocks_are x h (kept_row_nodes x h))

-- what is told of the files of a world is told of the world
pub told_of_world : (w : WorldView) (p : Values) (d : DriftView) (s : ScriptView) (report : ReportView) (gap : Option Gap) (clocks : List Clock) (told : Told) → p ≡ w.params → d ≡ w.drift → s ≡ w.script
    → ((h : Cycles) → ReportHolds p report h → AreClocksBehind (setting_of p d s) h clocks → told ≡ run_told (setting_of p d s) gap h)
    → IsReportOf w report → AreClocksBehind (setting_after w) (world_cycles w) clocks → told ≡ run_told (setting_after w) gap (world_cycles w)
told_of_world w p d s report gap clocks told params drift script is held behind =
    let Tells : Values → DriftView → ScriptView → Type 0 =
    λ q e r. ((h : Cycles) → ReportHolds q report h → AreClocksBehind (setting_of q e r) h clocks → told ≡ run_told (setting_of q e r) gap h) in
    let by_params : Tells w.params d s = subst (λ (q : Values). Tells q d s) params is in
    let by_drift : Tells w.params w.drift s = subst (λ (e : DriftView). Tells w.params e s) drift by_params in
    let by_script : Tells w.params w.drift w.script = subst (λ (r : ScriptView). Tells w.params w.drift r) script by_drift in
    by_script (world_cycles w) held behind
