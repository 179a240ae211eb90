use Rattle.std.proofs.Common.{ℕ, get_or, ap, ◌∙◌, lit<}
use Rattle.fr_crc.specs.Bits.{bits}
use Rattle.fr_crc.specs.Entries.{header_lasts}
use Rattle.fr_crc.proofs.Entering.{from_zeros}
use Rattle.fr_crc.proofs.BothHalves.{four_bits}
use Rattle.fr_crc.proofs.tables.header_entry.Goals as goal

pub returns-clause-fits : goal.returns-clause-fits
returns-clause-fits c = (four_bits c.args.index c.last_place.result c.requires (c.last_place.ensures ∙ ap (λ (i : ℕ). get_or header_lasts i 0) c.from.ensures)).0

pub returns-clause-after : goal.returns-clause-after
returns-clause-after c = (four_bits c.args.index c.last_place.result c.requires (c.last_place.ensures ∙ ap (λ (i : ℕ). get_or header_lasts i 0) c.from.ensures)).1

pub returns-clause-remainder : goal.returns-clause-remainder
returns-clause-remainder c =
    from_zeros 11 0x385 c.last_place.result (bits 4 c.args.index) (lit< tt)
    (four_bits c.args.index c.last_place.result c.requires (c.last_place.ensures ∙ ap (λ (i : ℕ). get_or header_lasts i 0) c.from.ensures)).1
