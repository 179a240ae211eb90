use Rattle.std.proofs.Common.{◌≡◌, ◌+◌, ◌<◌, length, take, ap, rules}
use Rattle.fr_program.specs.Watched.{reader_of}
use Rattle.fr_program.proofs.Transfers.{all_read, too_much_read}
use Rattle.fr_program.proofs.adapters.read_whole.Goals as goal

pub returns-then-given-eq0-clause-whole : goal.returns-then-given-eq0-clause-whole
returns-then-given-eq0-clause-whole g c =
    let none : c.in-Ok.given ≡ 0 = search rules in
    let room : 0 < length c.read.new.buf = search rules in
    let bytes = c.in-Ok.ensures.bytes in
    all_read 16777216 _ _ (g.F.Read.remaining (reader_of c.read.new.self)) _ (take c.in-Ok.given c.read.new.buf) _ c.turns.invariant.0 bytes.0 (ap (λ n. length (take n c.read.new.buf)) none) (bytes.1 none room)

pub returns-then-seen-gt-MAX_FILE-clause-too_long : goal.returns-then-seen-gt-MAX_FILE-clause-too_long
returns-then-seen-gt-MAX_FILE-clause-too_long g c =
    let seen : c.len.result + c.in-Ok.given ≡ length c.turns.into.items + length (take c.in-Ok.given c.read.new.buf) = search rules in
    let above : 16777216 < c.len.result + c.in-Ok.given = search rules in
    too_much_read 16777216 _ _ (g.F.Read.remaining (reader_of c.read.new.self)) _ (take c.in-Ok.given c.read.new.buf) _ _ c.turns.invariant.0 c.in-Ok.ensures.bytes.0 seen above
