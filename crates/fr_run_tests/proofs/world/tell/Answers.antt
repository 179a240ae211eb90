use Rattle.std.proofs.Common.{◌≡◌, ◌∙◌, ℕ, [], ap, arith, refl, subst, sym}
use Rattle.fr_cluster.specs.Values.{Values}
use Rattle.fr_history.specs.Cycles.{Cycles}
use Rattle.fr_history.specs.Next.{cycles_of}
use Rattle.fr_cluster.specs.Setting.{Setting}
use Rattle.fr_lines.specs.Held.{ReportHolds}
use Rattle.fr_world.specs.World.{setting_after, WorldView}
use Rattle.fr_history.proofs.RunsExist.{length-cycles_of}
use Rattle.fr_history.proofs.FollowedSync.{gathered_counted}
use Rattle.fr_run_tests.proofs.world.tell.Goals as goal

no_cycles : (x : Setting) → cycles_of x 0 ≡ []
unfolding cycles_of
no_cycles x = refl

pub loop-done-init : goal.loop-done-init
loop-done-init c =
    let world : WorldView = c.args.world.now in
    let fresh : world.cycles ≡ 0 = c.requires in
    let cycles : cycles_of (setting_after world) world.cycles ≡ [] = ap (λ (n : ℕ). cycles_of (setting_after world) n) fresh ∙ no_cycles (setting_after world) in
    let held : ReportHolds world.params c.new-report.result [] = subst (λ (p : Values). ReportHolds p c.new-report.result []) c.params.ensures.value c.new-report.ensures in record {
      ran = ap (λ (n : ℕ). record world { cycles = n }) fresh;
      held = subst (λ (h : Cycles). ReportHolds world.params c.new-report.result h) (sym cycles) held;
    }

pub greatest-requires : goal.greatest-requires
greatest-requires c =
    let after : WorldView = c.add_next.new.world in
    let counted = gathered_counted after.params c.add_next.new.report.gauge (cycles_of (setting_after after) after.cycles) c.add_next.ensures.held.gauge in
    let long = length-cycles_of (setting_after after) after.cycles in
    let ran = ap (λ (w : WorldView). w.cycles) c.add_next.ensures.ran in
    omega (arith, counted, long, ran)
