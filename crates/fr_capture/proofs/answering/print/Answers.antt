use Rattle.std.proofs.Common.{◌≡◌, ◌^◌, ◌<◌, ap, subst, arith}
use Rattle.std.proofs.lemmas.List.Elements.{All-from_get_or}
use Rattle.fr_base.specs.declared.channel.Channel.{Channel}
use Rattle.fr_capture.specs.View.{CaptureView}
use Rattle.fr_capture.proofs.Walking.{frames_found}
use Rattle.fr_capture.specs.CaptureText.{WasFed}
use Rattle.fr_capture.proofs.Going.{printed, unprinted}
use Rattle.fr_capture.proofs.answering.print.Goals as goal

pub returns-in_err-count-clause-frames : goal.returns-in_err-count-clause-frames
returns-in_err-count-clause-frames g c = frames_found c.args.channel c.args.bytes.now (All-from_get_or (λ b. b < 2 ^ 8) c.args.bytes.now 0 (λ i below. omega (arith, c.type_inv.bytes i)))

pub returns-clause-frames : goal.returns-clause-frames
returns-clause-frames g c = frames_found c.args.channel c.args.bytes.now (All-from_get_or (λ b. b < 2 ^ 8) c.args.bytes.now 0 (λ i below. omega (arith, c.type_inv.bytes i)))

pub returns-clause-puts : goal.returns-clause-puts
returns-clause-puts g c =
    let same : c.new-capture.result.channel ≡ c.args.channel = ap (λ (v : CaptureView). v.channel) c.new-capture.ensures.value in
    let fed : WasFed c.args.channel c.put_frames.new.capture c.args.bytes.now c.put_frames.new.waiting.bytes (g.O.Sink.state c.args.out.now) (g.O.Sink.state c.put_frames.new.out) c.in_ok-count.count =
    subst (λ (ch : Channel). WasFed ch c.put_frames.new.capture c.args.bytes.now c.put_frames.new.waiting.bytes (g.O.Sink.state c.args.out.now) (g.O.Sink.state c.put_frames.new.out) c.in_ok-count.count) same c.in_ok-count.ensures in
    printed c.args.channel c.put_frames.new.capture c.args.bytes.now (g.O.Sink.state c.args.out.now) (g.O.Sink.state c.put_frames.new.out) (g.O.Sink.state c.put_all.new.out) (g.O.Sink.state c.put_lines.new.out)
    c.in_ok-count.count c.finish.result c.put_lines.result (All-from_get_or (λ b. b < 2 ^ 8) c.args.bytes.now 0 (λ i below. omega (arith, c.type_inv.bytes i))) fed c.finish.ensures c.in_ok-put_all.ensures.puts (rw c.end_lines.ensures at c.put_lines.ensures)

pub returns-in_err-put_all-clause-frames : goal.returns-in_err-put_all-clause-frames
returns-in_err-put_all-clause-frames g c = frames_found c.args.channel c.args.bytes.now (All-from_get_or (λ b. b < 2 ^ 8) c.args.bytes.now 0 (λ i below. omega (arith, c.type_inv.bytes i)))

pub returns-in_err-put_all-clause-puts : goal.returns-in_err-put_all-clause-puts
returns-in_err-put_all-clause-puts g c =
    let same : c.new-capture.result.channel ≡ c.args.channel = ap (λ (v : CaptureView). v.channel) c.new-capture.ensures.value in
    let fed : WasFed c.args.channel c.put_frames.new.capture c.args.bytes.now c.put_frames.new.waiting.bytes (g.O.Sink.state c.args.out.now) (g.O.Sink.state c.put_frames.new.out) c.in_ok-count.count =
    subst (λ (ch : Channel). WasFed ch c.put_frames.new.capture c.args.bytes.now c.put_frames.new.waiting.bytes (g.O.Sink.state c.args.out.now) (g.O.Sink.state c.put_frames.new.out) c.in_ok-count.count) same c.in_ok-count.ensures in
    unprinted c.args.channel c.put_frames.new.capture c.args.bytes.now (g.O.Sink.state c.args.out.now) (g.O.Sink.state c.put_frames.new.out) (g.O.Sink.state c.put_all.new.out)
    c.in_ok-count.count c.from_residual-in_err-put_all.result (All-from_get_or (λ b. b < 2 ^ 8) c.args.bytes.now 0 (λ i below. omega (arith, c.type_inv.bytes i))) fed c.in_err-put_all.ensures.puts c.from_residual-in_err-put_all.ensures.0
