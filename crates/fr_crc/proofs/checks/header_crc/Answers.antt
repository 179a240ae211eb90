use Rattle.std.proofs.Common.{ap, ◌∙◌}
use Rattle.fr_crc.specs.Crc.{header_generator, header_start}
use Rattle.fr_crc.specs.Register.{after}
use Rattle.fr_crc.proofs.Steps.{header_crc_of_all}
use Rattle.fr_crc.proofs.checks.header_crc.Goals as goal

pub returns : goal.returns
returns c =
    header_crc_of_all c.args.sync c.args.startup c.args.id c.args.words c.after_twenty.result c.after_twenty.ensures.fits
    (c.after_twenty.ensures.next ∙ ap (after header_generator header_start) c.covered.ensures)
