use Rattle.std.proofs.Common.{◌+◌, ◌*◌, length}
use Rattle.fr_text.proofs.putting.+put.Given as goal

abbrev pub decreases-put_lines : goal.decreases-put_lines
decreases-put_lines g l = 2 * length l.lines.now

abbrev pub decreases-put_before : goal.decreases-put_before
decreases-put_before g l = 2 * length l.rest.now + 1
