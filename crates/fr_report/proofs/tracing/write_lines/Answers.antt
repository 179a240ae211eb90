use Rattle.std.proofs.Common.{◌≡◌, ◌*◌, List, ℕ, ◌++◌, subst}
use Rattle.fr_coverage.specs.Decided.{setting_of}
use Rattle.fr_drift.specs.Questions.{doubles_of}
use Rattle.fr_program.specs.Gathered.{Gathers}
use Rattle.fr_program.proofs.Gathering.{gathers_cut, gathers_then}
use Rattle.fr_trace.specs.Text.{arbitrary_in, head_text, joining_in, text_of}
use Rattle.fr_world.specs.World.{setting_after}
use Rattle.fr_report.proofs.Texts.{text_of_cycles}
use Rattle.fr_report.proofs.tracing.write_lines.Goals as goal

pub returns-in_err-gather_head : goal.returns-in_err-gather_head
unfolding text_of
returns-in_err-gather_head g c =
    let w = c.args.world.now in
    let rest = text_of_cycles (setting_after w) (2 * doubles_of w.drift) in
    let text : head_text (doubles_of c.drift.result.now) (arbitrary_in (setting_of c.params.result.now c.drift.result.now c.script.result.now)) (joining_in (setting_of c.params.result.now c.drift.result.now c.script.result.now))
    ≡ head_text (doubles_of w.drift) (arbitrary_in (setting_after w)) (joining_in (setting_after w)) =
    λ i. head_text (doubles_of (c.drift.ensures.value i)) (arbitrary_in (setting_of (c.params.ensures.value i) (c.drift.ensures.value i) (c.script.ensures.value i))) (joining_in (setting_of (c.params.ensures.value i) (c.drift.ensures.value i) (c.script.ensures.value i)))
    in
    let P : List ℕ → Type 0 = λ l. Gathers c.from_residual.result c.args.waiting.now.bytes c.gather_head.new.waiting.bytes (g.O.Sink.state c.args.out.now) (g.O.Sink.state c.gather_head.new.out) (l ++ rest) in
    subst P text (gathers_cut c.from_residual.result rest c.in_err-gather_head.ensures c.from_residual.ensures.0)

pub returns : goal.returns
unfolding text_of
returns g c =
    let w = c.args.world.now in
    let rest = text_of_cycles (setting_after w) (2 * doubles_of w.drift) in
    let text : head_text (doubles_of c.drift.result.now) (arbitrary_in (setting_of c.params.result.now c.drift.result.now c.script.result.now)) (joining_in (setting_of c.params.result.now c.drift.result.now c.script.result.now))
    ≡ head_text (doubles_of w.drift) (arbitrary_in (setting_after w)) (joining_in (setting_after w)) =
    λ i. head_text (doubles_of (c.drift.ensures.value i)) (arbitrary_in (setting_of (c.params.ensures.value i) (c.drift.ensures.value i) (c.script.ensures.value i))) (joining_in (setting_of (c.params.ensures.value i) (c.drift.ensures.value i) (c.script.ensures.value i)))
    in
    let P : List ℕ → Type 0 = λ l. Gathers c.write_cycles.result c.args.waiting.now.bytes c.write_cycles.new.waiting.bytes (g.O.Sink.state c.args.out.now) (g.O.Sink.state c.write_cycles.new.out) (l ++ rest) in
    subst P text (gathers_then c.write_cycles.result c.in_ok-gather_head.ensures.whole c.write_cycles.ensures)
