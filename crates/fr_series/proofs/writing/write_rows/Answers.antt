use Rattle.std.proofs.Common.{◌≡◌, suc, ◌+◌, ◌*◌, ◌<◌, ◌≤◌, ℕ, List, ◌++◌, Ok, ap, sym, ◌∙◌, subst, arith}
use Rattle.fr_base.specs.Device.{Puts}
use Rattle.fr_base.proofs.Putting.{cut, then, puts_none}
use Rattle.fr_drift.specs.Questions.{doubles_of}
use Rattle.fr_history.specs.Next.{cycles_of}
use Rattle.fr_world.specs.World.{WorldView, setting_after}
use Rattle.fr_series.specs.Figures.{figures_of}
use Rattle.fr_series.specs.Scale.{scale_of}
use Rattle.fr_series.proofs.SeriesRows.{rows-none, rows-upto, text_upto}
use Rattle.fr_series.specs.Stopping.{rows_before}
use Rattle.fr_series.specs.Writing.{rows_of, text_of_double}
use Rattle.fr_series.proofs.Stops.{stops_rows}
use Rattle.fr_series.proofs.Worlds.{figures-first, figures-more, text-more, two-more}
use Rattle.fr_series.proofs.writing.write_rows.Goals as goal

pub loop-double-init : goal.loop-double-init
loop-double-init g c =
    let w : WorldView = c.args.world.now in
    let a = g.O.Sink.state c.args.out.now in
    let P : List ℕ → Type 0 = λ l. Puts (Ok tt) a a l in
    record {
      ran = ap (λ (n : ℕ). record w { cycles = n }) c.requires.fresh;
      figures = figures-first w c.args.figures.now c.requires.none;
      text = subst P (sym (rows-none (setting_after w))) (puts_none a);
    }

pub loop-double-preserved : goal.loop-double-preserved
loop-double-preserved g c =
    let w : WorldView = c.args.world.now in
    let inv = c.loop-double.invariant in
    let n = c.loop-double.double in
    let scale : c.of-scale.result ≡ scale_of w.params = c.of-scale.ensures.value ∙ ap scale_of c.params.ensures.value in
    let P : List ℕ → Type 0 = λ l. Puts (Ok tt) (g.O.Sink.state c.args.out.now) (g.O.Sink.state c.write_double.new.out) l in
    record {
      ran = two-more w c.loop-double.world c.write_double.new.world n inv.ran c.in_ok-write_double.ensures.ran;
      figures = figures-more w c.loop-double.world n c.of-scale.result c.loop-double.figures c.write_double.new.figures inv.ran scale inv.figures c.in_ok-write_double.ensures.figures;
      text = subst P (text-more w c.loop-double.world n c.of-scale.result inv.ran scale) (then (Ok tt) inv.text c.in_ok-write_double.ensures.text);
    }

pub returns-in_err-write_double-clause-text : goal.returns-in_err-write_double-clause-text
returns-in_err-write_double-clause-text g c =
    let w : WorldView = c.args.world.now in
    let x = setting_after w in
    let inv = c.loop-double.invariant in
    let n = c.loop-double.double in
    let doubles : c.doubles-doubles.result ≡ doubles_of w.drift = c.doubles-doubles.ensures.value ∙ ap doubles_of c.drift.ensures.value in
    let scale : c.of-scale.result ≡ scale_of w.params = c.of-scale.ensures.value ∙ ap scale_of c.params.ensures.value in
    let le : n + 1 ≤ doubles_of w.drift = omega (arith, doubles) in
    let rest = rows-upto x (n + 1) (doubles_of w.drift) le in
    let both = then _ inv.text c.in_err-write_double.ensures.text in
    let far = cut c.from_residual.result rest.0 both c.from_residual.ensures.0 in
    let P : List ℕ → Type 0 = λ l. Puts c.from_residual.result (g.O.Sink.state c.args.out.now) (g.O.Sink.state c.write_double.new.out) l in
    subst P (ap (λ (l : List ℕ). l ++ rest.0) (text-more w c.loop-double.world n c.of-scale.result inv.ran scale) ∙ sym rest.1) far

pub returns-in_err-write_double-clause-ran : goal.returns-in_err-write_double-clause-ran
returns-in_err-write_double-clause-ran g c =
    let w : WorldView = c.args.world.now in
    let x = setting_after w in
    let inv = c.loop-double.invariant in
    let n = c.loop-double.double in
    let doubles : c.doubles-doubles.result ≡ doubles_of w.drift = c.doubles-doubles.ensures.value ∙ ap doubles_of c.drift.ensures.value in
    let scale : c.of-scale.result ≡ scale_of w.params = c.of-scale.ensures.value ∙ ap scale_of c.params.ensures.value in
    let below : n < doubles_of w.drift = omega (arith, doubles) in
    let next : n + 1 ≡ suc n = omega arith in
    let rest = rows-upto x (n + 1) (doubles_of w.drift) (omega (arith, below)) in
    let text = text_of_double c.of-scale.result n (rows_of c.loop-double.world c.loop-double.world.cycles) (rows_of c.loop-double.world (c.loop-double.world.cycles + 1)) in
    stops_rows (rows_before w) c.from_residual.result w c.write_double.new.world (g.O.Sink.state c.args.out.now) (g.O.Sink.state c.loop-double.out) (g.O.Sink.state c.write_double.new.out) n text rest.0 c.from_residual.ensures.0 below
    (two-more w c.loop-double.world c.write_double.new.world n inv.ran c.in_err-write_double.ensures.ran ∙ ap (λ (k : ℕ). record w { cycles = 2 * k }) next)
    (rest.1 ∙ ap (λ (l : List ℕ). l ++ rest.0) (sym (text-more w c.loop-double.world n c.of-scale.result inv.ran scale))) inv.text c.in_err-write_double.ensures.text

pub returns-clause-ran : goal.returns-clause-ran
returns-clause-ran g c =
    let w : WorldView = c.args.world.now in
    let doubles : c.doubles-doubles.result ≡ doubles_of w.drift = c.doubles-doubles.ensures.value ∙ ap doubles_of c.drift.ensures.value in
    let end : c.loop-double.double ≡ doubles_of w.drift = omega (arith, doubles) in
    c.loop-double.invariant.ran ∙ ap (λ (n : ℕ). record w { cycles = 2 * n }) end

pub returns-clause-text : goal.returns-clause-text
returns-clause-text g c =
    let w : WorldView = c.args.world.now in
    let inv = c.loop-double.invariant in
    let doubles : c.doubles-doubles.result ≡ doubles_of w.drift = c.doubles-doubles.ensures.value ∙ ap doubles_of c.drift.ensures.value in
    let end : c.loop-double.double ≡ doubles_of w.drift = omega (arith, doubles) in
    let P : ℕ → Type 0 = λ k. Puts (Ok tt) (g.O.Sink.state c.args.out.now) (g.O.Sink.state c.loop-double.out) (text_upto (setting_after w) (2 * k)) in
    subst P end inv.text

pub returns-clause-figures : goal.returns-clause-figures
returns-clause-figures g c = λ ok.
    let w : WorldView = c.args.world.now in
    let inv = c.loop-double.invariant in
    let doubles : c.doubles-doubles.result ≡ doubles_of w.drift = c.doubles-doubles.ensures.value ∙ ap doubles_of c.drift.ensures.value in
    let end : c.loop-double.double ≡ doubles_of w.drift = omega (arith, doubles) in
    let P : ℕ → Type 0 = λ k. c.loop-double.figures ≡ figures_of w.params (cycles_of (setting_after w) (2 * k)) in
    subst P end inv.figures

pub write_double-requires-clause-at : goal.write_double-requires-clause-at
write_double-requires-clause-at g c =
    let w : WorldView = c.args.world.now in
    let inv = c.loop-double.invariant in
    let n = c.loop-double.double in
    let doubles : c.doubles-doubles.result ≡ doubles_of w.drift = c.doubles-doubles.ensures.value ∙ ap doubles_of c.drift.ensures.value in
    let below : n < doubles_of w.drift = omega (arith, doubles) in
    let same : doubles_of w.drift ≡ doubles_of c.loop-double.world.drift = sym (ap (λ (v : WorldView). doubles_of v.drift) inv.ran) in
    record {
      at = ap (λ (v : WorldView). v.cycles) inv.ran;
      more = omega (arith, below, same);
      few = omega (arith, doubles, below, c.doubles-doubles.ensures.to);
    }

pub write_double-requires-clause-scale : goal.write_double-requires-clause-scale
write_double-requires-clause-scale g c =
    let w : WorldView = c.args.world.now in
    let inv = c.loop-double.invariant in
    c.of-scale.ensures.value ∙ ap scale_of c.params.ensures.value ∙ ap (λ (v : WorldView). scale_of v.params) (sym inv.ran)
