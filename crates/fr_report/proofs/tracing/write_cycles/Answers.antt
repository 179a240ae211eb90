use Rattle.std.proofs.Common.{◌≡◌, ◌+◌, ◌*◌, ◌≤◌, ℕ, List, ◌++◌, Ok, ap, sym, ◌∙◌, subst, arith}
use Rattle.fr_drift.specs.Questions.{doubles_of}
use Rattle.fr_program.specs.Gathered.{Gathers, PutsOn}
use Rattle.fr_program.proofs.Gathering.{gathers_cut, gathers_none, gathers_then}
use Rattle.fr_world.specs.World.{WorldView, setting_after}
use Rattle.fr_report.proofs.Texts.{next-text, text-first, text-upto, text_of_cycles}
use Rattle.fr_report.proofs.tracing.write_cycles.Goals as goal

pub loop-done-init : goal.loop-done-init
loop-done-init g c =
    let w : WorldView = c.args.world.now in
    let a = g.O.Sink.state c.args.out.now in
    let waits = c.args.waiting.now.bytes in
    let P : List ℕ → Type 0 = λ l. PutsOn waits waits a a l in
    record {
      ran = ap (λ (n : ℕ). record w { cycles = n }) c.requires;
      text = subst P (sym (text-first (setting_after w))) (gathers_none waits a);
    }

pub loop-done-preserved : goal.loop-done-preserved
loop-done-preserved g c =
    let w : WorldView = c.args.world.now in
    let inv = c.loop-done.invariant in
    let n = c.loop-done._done in
    let P : List ℕ → Type 0 = λ l. PutsOn c.args.waiting.now.bytes c.write_next.new.waiting.bytes (g.O.Sink.state c.args.out.now) (g.O.Sink.state c.write_next.new.out) l in
    record {
      ran = c.in_ok-write_next.ensures.ran ∙ ap (λ (v : WorldView). record v { cycles = v.cycles + 1 }) inv.ran;
      text = subst P (next-text c.loop-done.world w n inv.ran) (gathers_then (Ok tt) inv.text c.in_ok-write_next.ensures.text).whole;
    }

pub returns-in_err-write_next : goal.returns-in_err-write_next
returns-in_err-write_next g c =
    let w : WorldView = c.args.world.now in
    let x = setting_after w in
    let inv = c.loop-done.invariant in
    let n = c.loop-done._done in
    let doubles : c.doubles-cycles.result ≡ doubles_of w.drift = c.doubles-cycles.ensures.value ∙ ap doubles_of c.drift.ensures.value in
    let le : n + 1 ≤ 2 * doubles_of w.drift = omega (arith, doubles) in
    let rest = text-upto x (n + 1) (2 * doubles_of w.drift) le in
    let waits = c.args.waiting.now.bytes in
    let both = gathers_then _ inv.text c.in_err-write_next.ensures.text in
    let far = gathers_cut c.from_residual.result rest.0 both c.from_residual.ensures.0 in
    let P : List ℕ → Type 0 = λ l. Gathers c.from_residual.result waits c.write_next.new.waiting.bytes (g.O.Sink.state c.args.out.now) (g.O.Sink.state c.write_next.new.out) l in
    subst P (ap (λ (l : List ℕ). l ++ rest.0) (next-text c.loop-done.world w n inv.ran) ∙ sym rest.1) far

pub returns : goal.returns
returns g c =
    let w : WorldView = c.args.world.now in
    let inv = c.loop-done.invariant in
    let doubles : c.doubles-cycles.result ≡ doubles_of w.drift = c.doubles-cycles.ensures.value ∙ ap doubles_of c.drift.ensures.value in
    let end : c.loop-done._done ≡ 2 * doubles_of w.drift = omega (arith, doubles) in
    let P : ℕ → Type 0 = λ k. PutsOn c.args.waiting.now.bytes c.loop-done.waiting.bytes (g.O.Sink.state c.args.out.now) (g.O.Sink.state c.loop-done.out) (text_of_cycles (setting_after w) k) in
    record { whole = subst P end inv.text; failed = tt }
