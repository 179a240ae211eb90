use Rattle.std.proofs.Common.{◌≡◌, ◌∙◌, ℕ, ◌+◌, ◌*◌, ◌<◌, [], Option, ap, subst, sym, arith}
use Rattle.std.specs.Prelude.{unwrap_or}
use Rattle.fr_drift.specs.Questions.{doubles_of}
use Rattle.fr_history.specs.Cycles.{Cycles}
use Rattle.fr_history.specs.Next.{cycles_of}
use Rattle.fr_lines.specs.Held.{ReportHolds}
use Rattle.fr_world.specs.World.{WorldView, setting_after, world_cycles}
use Rattle.fr_series.specs.Basis.{sharp_figures_of, IsCourse}
use Rattle.fr_series.specs.Writing.{first_sharp_at}
use Rattle.fr_series.proofs.Doubles.{no_cycles}
use Rattle.fr_series.proofs.SharpWorlds.{first_none}
use Rattle.fr_series.proofs.Worlds.{two-more}
use Rattle.fr_whole.proofs.sharp_gathering.run_all.Goals as goal

pub loop-double-init : goal.loop-double-init
loop-double-init c =
    let w : WorldView = c.args.world.now in
    let none : world_cycles w ≡ [] = ap (cycles_of (setting_after w)) c.requires.fresh ∙ no_cycles (setting_after w) in
    let P : Cycles → Type 0 = λ h. ReportHolds w.params c.args.report.now h in
    let course : IsCourse w.params w.drift w.script 0 c.from-course.result =
    rw (← c.params.ensures.value, ← c.drift-2.ensures.value, ← c.script.ensures.value) c.from-course.ensures.is in
    record {
      ran = ap (λ (n : ℕ). record w { cycles = n }) c.requires.fresh;
      held = subst P (sym none) c.requires.held;
      proper = c.from-course.ensures.proper;
      course = subst (λ (o : Option ℕ). IsCourse w.params w.drift w.script (unwrap_or o 0) c.from-course.result) (sym (first_none w)) course;
      figures = c.requires.none ∙ ap (sharp_figures_of w.params w.drift w.script) (sym (no_cycles (setting_after w)));
    }

pub loop-double-preserved : goal.loop-double-preserved
loop-double-preserved c =
    let w : WorldView = c.args.world.now in
    let v : WorldView = c.loop-double.world in
    let inv = c.loop-double.invariant in
    let n = c.loop-double.double in
    record {
      ran = two-more w v c.add_double.new.world n inv.ran c.add_double.ensures.ran;
      held = c.add_double.ensures.held;
      proper = c.add_double.ensures.proper;
      course = subst (λ (u : WorldView). IsCourse u.params u.drift u.script (unwrap_or (first_sharp_at u (n + 1)) (n + 1)) c.add_double.new.course) inv.ran c.add_double.ensures.course;
      figures =
          c.add_double.ensures.figures
          ∙ ap (λ (u : WorldView). sharp_figures_of u.params u.drift u.script (cycles_of (setting_after u) (2 * (n + 1)))) inv.ran;
    }

pub returns-clause-ran : goal.returns-clause-ran
returns-clause-ran c =
    let w : WorldView = c.args.world.now in
    let doubles : c.doubles-doubles.result ≡ doubles_of w.drift = c.doubles-doubles.ensures.value ∙ ap doubles_of c.drift.ensures.value in
    let end : c.loop-double.double ≡ doubles_of w.drift = omega (arith, doubles) in
    c.loop-double.invariant.ran ∙ ap (λ (n : ℕ). record w { cycles = 2 * n }) end

pub returns-clause-held : goal.returns-clause-held
returns-clause-held c = c.loop-double.invariant.held

pub returns-clause-figures : goal.returns-clause-figures
returns-clause-figures c =
    let w : WorldView = c.args.world.now in
    let doubles : c.doubles-doubles.result ≡ doubles_of w.drift = c.doubles-doubles.ensures.value ∙ ap doubles_of c.drift.ensures.value in
    let end : c.loop-double.double ≡ doubles_of w.drift = omega (arith, doubles) in
    let P : ℕ → Type 0 = λ k. c.loop-double.figures ≡ sharp_figures_of w.params w.drift w.script (cycles_of (setting_after w) (2 * k)) in
    subst P end c.loop-double.invariant.figures

pub add_double-requires-clause-at : goal.add_double-requires-clause-at
add_double-requires-clause-at c =
    let w : WorldView = c.args.world.now in
    let inv = c.loop-double.invariant in
    let n = c.loop-double.double in
    let doubles : c.doubles-doubles.result ≡ doubles_of w.drift = c.doubles-doubles.ensures.value ∙ ap doubles_of c.drift.ensures.value in
    let below : n < doubles_of w.drift = omega (arith, doubles) in
    let same : doubles_of w.drift ≡ doubles_of c.loop-double.world.drift = sym (ap (λ (v : WorldView). doubles_of v.drift) inv.ran) in
    record {
      at = ap (λ (v : WorldView). v.cycles) inv.ran;
      more = omega (arith, below, same);
      few = omega (arith, doubles, below, c.doubles-doubles.ensures.to);
    }

pub add_double-requires-clause-course : goal.add_double-requires-clause-course
add_double-requires-clause-course c =
    let n = c.loop-double.double in
    subst (λ (u : WorldView). IsCourse u.params u.drift u.script (unwrap_or (first_sharp_at u n) n) c.loop-double.course) (sym c.loop-double.invariant.ran) c.loop-double.invariant.course

pub add_double-requires-clause-held : goal.add_double-requires-clause-held
add_double-requires-clause-held c = c.loop-double.invariant.held

pub add_double-requires-clause-figures : goal.add_double-requires-clause-figures
add_double-requires-clause-figures c =
    let n = c.loop-double.double in
    c.loop-double.invariant.figures
    ∙ ap (λ (u : WorldView). sharp_figures_of u.params u.drift u.script (cycles_of (setting_after u) (2 * n))) (sym c.loop-double.invariant.ran)
