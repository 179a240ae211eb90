use Rattle.std.proofs.Common.{ℕ, get_or, ap}
use Rattle.fr_crc.specs.Bits.{bits}
use Rattle.fr_crc.specs.Entries.{header_lasts}
use Rattle.fr_crc.proofs.halves.last_place.Goals as goal

pub returns : goal.returns
unfolding bits header_lasts
returns c = ap (λ (i : ℕ). get_or header_lasts i 0) c.from.ensures
