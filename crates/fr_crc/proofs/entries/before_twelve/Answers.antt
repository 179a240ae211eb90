use Rattle.std.proofs.Common.{ℕ, get_or, ap}
use Rattle.fr_crc.specs.Bits.{bits}
use Rattle.fr_crc.specs.Entries.{entries_before}
use Rattle.fr_crc.proofs.entries.before_twelve.Goals as goal

pub returns : goal.returns
unfolding bits entries_before
returns c = ap (λ (i : ℕ). get_or (entries_before 96) i 0) c.from.ensures
