use Rattle.fr_crc.proofs.Entering.{covered_is}
use Rattle.fr_crc.proofs.tables.covered.Goals as goal

pub returns : goal.returns
returns c =
    covered_is c.args.sync c.args.startup c.from.result c.from-2.result c.from-3.result c.from-4.result c.args.id c.args.words
    c.from.ensures c.from-2.ensures c.from-3.ensures c.from-4.ensures c.requires.id c.requires.words
