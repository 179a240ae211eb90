use Rattle.std.proofs.Common.{List, ℕ, subst}
use Rattle.fr_program.specs.Gathered.{PutsOn}
use Rattle.fr_program.proofs.Gathering.{gathers_end, gathers_failed}
use Rattle.fr_report.specs.TraceAnswer.{trace_text}
use Rattle.fr_report.proofs.tracing.write_trace.Goals as goal

pub returns-in_err-write_lines : goal.returns-in_err-write_lines
returns-in_err-write_lines g c =
    gathers_failed c.from_residual.result (rw c.new-waiting.ensures at c.in_err-write_lines.ensures) c.from_residual.ensures.0

pub returns : goal.returns
returns g c =
    let w = c.args.world.now in
    let P : List ℕ → Type 0 = λ l. PutsOn l c.write_lines.new.waiting.bytes (g.O.Sink.state c.args.out.now) (g.O.Sink.state c.write_lines.new.out) (trace_text w.params w.drift w.script) in
    gathers_end c.put_all.result (subst P c.new-waiting.ensures c.in_ok-write_lines.ensures.whole) c.put_all.ensures.puts
