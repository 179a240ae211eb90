use Rattle.std.proofs.Common.{rules, ◌≡◌}
use Rattle.std.proofs.lemmas.Grind.{common_steps}
use Rattle.fr_part_tests.proofs.frames.is_read_back.Goals as goal

pub returns-then-eq : goal.returns-then-eq
returns-then-eq c =
    let same : c.in-Ok-decode.frame.payload.now ≡ c.args.payload.now = (c.in-Ok-decode.ensures.back c.args.header.now c.args.payload.now c.in-Ok.ensures.written.frame).1 in
    search (rules, common_steps)

pub returns-in-Err-decode : goal.returns-in-Err-decode
returns-in-Err-decode c = absurd (c.in-Err-decode.ensures.back c.args.header.now c.args.payload.now c.in-Ok.ensures.written.frame)
