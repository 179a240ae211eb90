use Rattle.std.proofs.Common.{◌≡◌, List, ℕ, ◌++◌, ◌∙◌, subst}
use Rattle.fr_base.specs.Device.{Puts}
use Rattle.fr_base.proofs.Putting.{cut, then}
use Rattle.fr_text.specs.Pieces.{line}
use Rattle.fr_trace.specs.Text.{clock_text, devs_text}
use Rattle.fr_trace.proofs.writing.put_row.Goals as goal

pub returns-in_err-put_line : goal.returns-in_err-put_line
returns-in_err-put_line g c = λ ascend.
    let text : c.spell_clock.new.spelt ≡ line (clock_text c.args.cycle c.args.row.now) = c.spell_clock.ensures in
    let rest = devs_text c.args.cycle c.args.row.now.node c.args.devs.now in
    let P : List ℕ → Type 0 = λ l. Puts c.from_residual.result (g.O.Sink.state c.args.out.now) (g.O.Sink.state c.put_line.new.out) (l ++ rest) in
    subst P text (cut c.from_residual.result rest c.in_err-put_line.ensures c.from_residual.ensures.0)

pub returns : goal.returns
returns g c = λ ascend.
    let text : c.spell_clock.new.spelt ≡ line (clock_text c.args.cycle c.args.row.now) = c.spell_clock.ensures in
    let rest = devs_text c.args.cycle c.args.row.now.node c.args.devs.now in
    let P : List ℕ → Type 0 = λ l. Puts c.put_devs.result (g.O.Sink.state c.args.out.now) (g.O.Sink.state c.put_devs.new.out) (l ++ rest) in
    subst P text (then c.put_devs.result c.in_ok-put_line.ensures (c.put_devs.ensures c.args.cycle (c.bytes.ensures ∙ c.dev_front.ensures.text) ascend))
