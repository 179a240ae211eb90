use Rattle.fr_crc.proofs.BothHalves.{halves}
use Rattle.fr_crc.proofs.halves.after_twenty.Goals as goal

pub returns-clause-fits : goal.returns-clause-fits
returns-clause-fits c = (halves c.args.number c.first_place.result c.last_place.result c.first_place.ensures c.last_place.ensures).0

pub returns-clause-next : goal.returns-clause-next
returns-clause-next c = (halves c.args.number c.first_place.result c.last_place.result c.first_place.ensures c.last_place.ensures).1
