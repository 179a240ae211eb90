use Rattle.std.proofs.Common.{◌≡◌, ℕ, take, length, replicate, ap, sym, ◌∙◌, subst}
use Rattle.std.proofs.lemmas.List.{length-replicate}
use Rattle.fr_history.specs.History.{History}
use Rattle.fr_program.specs.Gathered.{AreLines}
use Rattle.fr_program.proofs.Gathering.{gathers_held, gathers_stopped, gathers_straight, waited_before}
use Rattle.fr_trace.specs.Said.{no_record}
use Rattle.fr_report.proofs.tracing.gather_cycle.Goals as goal

pub returns-in-Ok : goal.returns-in-Ok
returns-in-Ok g c = λ h numbered. gathers_held c.put_many.result (c.in-Ok.ensures h numbered) c.put_many.ensures

-- a history as long as that of the cycle
pub put_front-requires : goal.put_front-requires
put_front-requires g c =
    let h : History = replicate c.args.row.now.cycle no_record in
    let numbered : length h ≡ c.args.row.now.cycle = length-replicate c.args.row.now.cycle no_record in
    let same : take (length c.args.waiting.now.bytes) c.write_cycle.new.out.bytes ≡ c.args.waiting.now.bytes = waited_before c.args.waiting.now c.write_cycle.new.out (c.in-Err.ensures h numbered) in
    let kept : take c.len-before.result c.write_cycle.new.out.bytes ≡ c.args.waiting.now.bytes = ap (λ (n : ℕ). take n c.write_cycle.new.out.bytes) c.len-before.ensures.long ∙ same in
    subst AreLines (sym kept) c.len-before.ensures.lines

pub returns-in_err-put_front-in-Err : goal.returns-in_err-put_front-in-Err
returns-in_err-put_front-in-Err g c = λ h numbered.
    let same : take (length c.args.waiting.now.bytes) c.write_cycle.new.out.bytes ≡ c.args.waiting.now.bytes = waited_before c.args.waiting.now c.write_cycle.new.out (c.in-Err.ensures h numbered) in
    let kept : take c.len-before.result c.write_cycle.new.out.bytes ≡ c.args.waiting.now.bytes = ap (λ (n : ℕ). take n c.write_cycle.new.out.bytes) c.len-before.ensures.long ∙ same in
    gathers_stopped _ c.from_residual.result (rw kept at c.in_err-put_front-in-Err.ensures.puts) c.from_residual.ensures.0

pub returns-in_ok-put_front-in-Err : goal.returns-in_ok-put_front-in-Err
returns-in_ok-put_front-in-Err g c = λ h numbered.
    let same : take (length c.args.waiting.now.bytes) c.write_cycle.new.out.bytes ≡ c.args.waiting.now.bytes = waited_before c.args.waiting.now c.write_cycle.new.out (c.in-Err.ensures h numbered) in
    let kept : take c.len-before.result c.write_cycle.new.out.bytes ≡ c.args.waiting.now.bytes = ap (λ (n : ℕ). take n c.write_cycle.new.out.bytes) c.len-before.ensures.long ∙ same in
    gathers_straight c.write_cycle-in-Err.result c.in_ok-put_front-in-Err.ensures.emptied (rw kept at c.in_ok-put_front-in-Err.ensures.puts) (c.write_cycle-in-Err.ensures h numbered)
