use Rattle.std.proofs.Common.{◌≡◌, ℕ, take, length, ap, ◌∙◌}
use Rattle.fr_program.proofs.Gathering.{gathers_stopped, gathers_straight, waited_before}
use Rattle.fr_report.proofs.tracing.gather_head.Goals as goal

pub returns-in_err-put_front-in-Err : goal.returns-in_err-put_front-in-Err
returns-in_err-put_front-in-Err g c =
    let same : take (length c.args.waiting.now.bytes) c.write_head.new.out.bytes ≡ c.args.waiting.now.bytes = waited_before c.args.waiting.now c.write_head.new.out c.in-Err.ensures in
    let kept : take c.len-before.result c.write_head.new.out.bytes ≡ c.args.waiting.now.bytes = ap (λ (n : ℕ). take n c.write_head.new.out.bytes) c.len-before.ensures.long ∙ same in
    gathers_stopped _ c.from_residual.result (rw kept at c.in_err-put_front-in-Err.ensures.puts) c.from_residual.ensures.0

pub returns-in_ok-put_front-in-Err : goal.returns-in_ok-put_front-in-Err
returns-in_ok-put_front-in-Err g c =
    let same : take (length c.args.waiting.now.bytes) c.write_head.new.out.bytes ≡ c.args.waiting.now.bytes = waited_before c.args.waiting.now c.write_head.new.out c.in-Err.ensures in
    let kept : take c.len-before.result c.write_head.new.out.bytes ≡ c.args.waiting.now.bytes = ap (λ (n : ℕ). take n c.write_head.new.out.bytes) c.len-before.ensures.long ∙ same in
    gathers_straight c.write_head-in-Err.result c.in_ok-put_front-in-Err.ensures.emptied (rw kept at c.in_ok-put_front-in-Err.ensures.puts) c.write_head-in-Err.ensures
