use Rattle.std.proofs.Common.{◌≡◌, ◌∙◌, ◌+◌, ◌-◌, ℕ, List, ◌++◌, Ok, ap, sym, subst, arith}
use Rattle.fr_base.proofs.Putting.{cut, puts_none, then}
use Rattle.fr_base.specs.Device.{Puts}
use Rattle.fr_precision.specs.Among.{kinds_spread}
use Rattle.fr_precision.specs.declared.kinds.Kinds.{Kinds}
use Rattle.fr_sharp.specs.LossSteps.{heard_apart}
use Rattle.fr_sharp.specs.LossCosts.{heard_behind}
use Rattle.fr_sharp.proofs.LossNumbers.{first_of, never_heard}
use Rattle.fr_answer.specs.LossText.{loss_apart_line, loss_apart_lines}
use Rattle.fr_answer.proofs.LossLines.{line_is, lines_all, lines_more, lines_none, spread_more}
use Rattle.fr_answer.proofs.bound_lost.put_aparts.Goals as goal

pub loop-double-init : goal.loop-double-init
loop-double-init g c =
    let p = c.args.params.now in
    record {
      spread = first_of p c.args.flutter (heard_behind c.args.count) c.first-spread.result.spread (c.first-spread.ensures.spread never_heard);
      passed = c.first-spread.ensures.passed;
      puts = λ result after put.
          let P : List ℕ → Type 0 = λ l. Puts result (g.O.Sink.state c.args.out.now) after l in
          subst P (lines_all p c.args.flutter c.args.count c.args.doubles) put;
    }

pub loop-double-preserved : goal.loop-double-preserved
loop-double-preserved g c =
    let p = c.args.params.now in
    let t = c.args.flutter in
    let n = c.args.count in
    let m = c.loop-double.double in
    let was = c.loop-double.invariant in
    let here : c.apart_line.result ≡ loss_apart_line p t n m = c.apart_line.ensures ∙ line_is p t n m c.apart.result c.loop-double.spread.spread was.spread (c.apart.ensures.value ∙ ap (λ (what : Kinds). heard_apart what p t c.loop-double.spread.spread) c.heard_behind-heard.ensures) in
    let rest : List ℕ = loss_apart_lines p t n (m + 1) (c.args.doubles - (m + 1)) in
    let text : c.apart_line.result ++ rest ≡ loss_apart_lines p t n m (c.args.doubles - m) = ap (λ (l : List ℕ). l ++ rest) here ∙ sym (lines_more p t n m c.args.doubles c.loop-double-test.true) in
    record {
      spread = c.step.ensures.spread ∙ ap (λ (what : Kinds). kinds_spread what p t c.loop-double.spread.spread) c.heard_behind-heard.ensures ∙ spread_more p t n m c.loop-double.spread.spread was.spread;
      passed = omega (arith, c.step.ensures.passed, was.passed);
      puts = λ result after put.
          let P : List ℕ → Type 0 = λ l. Puts result (g.O.Sink.state c.loop-double.out) after l in
          was.puts result after (subst P text (then result c.in_ok-put_line.ensures put));
    }

pub returns-in_err-put_line : goal.returns-in_err-put_line
returns-in_err-put_line g c =
    let p = c.args.params.now in
    let t = c.args.flutter in
    let n = c.args.count in
    let m = c.loop-double.double in
    let was = c.loop-double.invariant in
    let here : c.apart_line.result ≡ loss_apart_line p t n m = c.apart_line.ensures ∙ line_is p t n m c.apart.result c.loop-double.spread.spread was.spread (c.apart.ensures.value ∙ ap (λ (what : Kinds). heard_apart what p t c.loop-double.spread.spread) c.heard_behind-heard.ensures) in
    let rest : List ℕ = loss_apart_lines p t n (m + 1) (c.args.doubles - (m + 1)) in
    let text : c.apart_line.result ++ rest ≡ loss_apart_lines p t n m (c.args.doubles - m) = ap (λ (l : List ℕ). l ++ rest) here ∙ sym (lines_more p t n m c.args.doubles c.loop-double-test.true) in
    let P : List ℕ → Type 0 = λ l. Puts c.from_residual.result (g.O.Sink.state c.loop-double.out) (g.O.Sink.state c.put_line.new.out) l in
    was.puts c.from_residual.result (g.O.Sink.state c.put_line.new.out) (subst P text (cut c.from_residual.result rest c.in_err-put_line.ensures c.from_residual.ensures.0))

pub returns : goal.returns
returns g c =
    let p = c.args.params.now in
    let P : List ℕ → Type 0 = λ l. Puts (Ok tt) (g.O.Sink.state c.loop-double.out) (g.O.Sink.state c.loop-double.out) l in
    c.loop-double.invariant.puts (Ok tt) (g.O.Sink.state c.loop-double.out) (subst P (lines_none p c.args.flutter c.args.count c.loop-double.double c.args.doubles c.loop-double-test.false) (puts_none (g.O.Sink.state c.loop-double.out)))
