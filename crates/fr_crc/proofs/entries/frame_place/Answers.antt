use Rattle.std.proofs.Common.{ℕ, get_or, ap}
use Rattle.fr_crc.specs.Bits.{bits}
use Rattle.fr_crc.specs.Entries.{frame_entries}
use Rattle.fr_crc.proofs.entries.frame_place.Goals as goal

pub returns : goal.returns
unfolding bits frame_entries
returns c = ap (λ (i : ℕ). get_or frame_entries i 0) c.from.ensures
