use Rattle.std.proofs.Common.{◌≡◌, ◌∙◌, ℕ, ◌*◌, ◌+◌, ◌<◌, [], ap, refl, subst, sym, arith}
use Rattle.fr_drift.specs.Questions.{doubles_of}
use Rattle.fr_cluster.specs.Values.{Values}
use Rattle.fr_history.specs.Cycles.{Cycles}
use Rattle.fr_history.specs.Next.{cycles_of}
use Rattle.fr_cluster.specs.Setting.{Setting}
use Rattle.fr_lines.specs.Held.{ReportHolds}
use Rattle.fr_world.specs.World.{setting_after, WorldView}
use Rattle.fr_report.proofs.playing.run_all.Goals as goal

no_cycles : (x : Setting) → cycles_of x 0 ≡ []
unfolding cycles_of
no_cycles x = refl

pub loop-done-init : goal.loop-done-init
loop-done-init c =
    let world : WorldView = c.args.world.now in
    let fresh : world.cycles ≡ 0 = c.requires in
    let cycles : cycles_of (setting_after world) world.cycles ≡ [] = ap (λ (n : ℕ). cycles_of (setting_after world) n) fresh ∙ no_cycles (setting_after world) in
    let held : ReportHolds world.params c.new-report.result [] = subst (λ (p : Values). ReportHolds p c.new-report.result []) c.params.ensures.value c.new-report.ensures in record {
      ran = ap (λ (n : ℕ). record world { cycles = n }) fresh;
      held = subst (λ (h : Cycles). ReportHolds world.params c.new-report.result h) (sym cycles) held;
    }

pub overflow_mul-cycles : goal.overflow_mul-cycles
overflow_mul-cycles c = omega (arith, c.doubles-cycles.ensures.to)

pub add_next-requires-clause-more : goal.add_next-requires-clause-more
add_next-requires-clause-more c =
    let ran = c.loop-done.invariant.ran in
    let cycles : c.loop-done.world.cycles ≡ c.loop-done._done = ap (λ (w : WorldView). w.cycles) ran in
    let drift : doubles_of c.loop-done.world.drift ≡ doubles_of c.args.world.now.drift = ap (λ (w : WorldView). doubles_of w.drift) ran in
    let doubles : c.doubles-cycles.result ≡ doubles_of c.args.world.now.drift = c.doubles-cycles.ensures.value ∙ ap doubles_of c.drift.ensures.value in
    let more : c.loop-done.world.cycles < 2 * doubles_of c.loop-done.world.drift = omega (arith, cycles, drift, doubles, c.loop-done-test.true) in
    more

pub add_next-requires-clause-held : goal.add_next-requires-clause-held
add_next-requires-clause-held c = c.loop-done.invariant.held

pub loop-done-preserved : goal.loop-done-preserved
loop-done-preserved c = record {
  ran = c.add_next.ensures.ran ∙ ap (λ (w : WorldView). record w { cycles = w.cycles + 1 }) c.loop-done.invariant.ran;
  held = c.add_next.ensures.held;
}

pub returns-clause-ran : goal.returns-clause-ran
returns-clause-ran c =
    let doubles : c.doubles-cycles.result ≡ doubles_of c.args.world.now.drift = c.doubles-cycles.ensures.value ∙ ap doubles_of c.drift.ensures.value in
    let all : c.loop-done._done ≡ 2 * doubles_of c.args.world.now.drift = omega (arith, doubles) in
    c.loop-done.invariant.ran ∙ ap (λ (n : ℕ). record c.args.world.now { cycles = n }) all

pub returns-clause-held : goal.returns-clause-held
returns-clause-held c = c.loop-done.invariant.held
