use Rattle.fr_air.proofs.Listening.{has_heard}
use Rattle.fr_air.specs.Memory.{frame_on}
use Rattle.fr_air.specs.Sending.{bytes_by}
use Rattle.fr_air.proofs.offering.hear.Goals as goal

pub returns-clause-heard : goal.returns-clause-heard
returns-clause-heard c =
    let a = c.args in
    let answered = c.hear-heard.ensures.answered in
    has_heard a.files.now a.air.now.turn.now a.coming.now.arrival (bytes_by (frame_on a.memory.now a.air.now.cell) a.coming.now.bytes) a.node.now c.hear-heard.new.node a.counts.now c.count.new.counts c.hear-heard.result
    c.requires.hears.ready answered.answer answered.after answered.rest answered.fits c.count.ensures
