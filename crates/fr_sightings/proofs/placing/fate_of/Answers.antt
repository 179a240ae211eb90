use Rattle.std.proofs.Common.{sym}
use Rattle.fr_sightings.proofs.Proper.{irregular_is_proper, judged_is_proper}
use Rattle.fr_sightings.proofs.placing.fate_of.Goals as goal

pub fate_judged-requires-clause-judged : goal.fate_judged-requires-clause-judged
fate_judged-requires-clause-judged c =
    judged_is_proper c.args.params.now c.args.log.now c.args.entry.now c.in-Regular.judged c.sane.ensures c.requires.entry (sym c.in-Regular.ensures)

pub fate_irregular-requires-clause-judged : goal.fate_irregular-requires-clause-judged
fate_irregular-requires-clause-judged c =
    irregular_is_proper c.args.params.now c.args.log.now c.args.entry.now c.in-Irregular.judged c.sane.ensures c.requires.entry (sym c.in-Irregular.ensures)
