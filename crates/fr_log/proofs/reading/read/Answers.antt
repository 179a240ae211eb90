use Rattle.fr_text.specs.Records.{records_of}
use Rattle.fr_log.proofs.Ending.{ends-reads, ends-sound}
use Rattle.fr_log.proofs.reading.read.Goals as goal

pub returns-in-Ok-clause-reads : goal.returns-in-Ok-clause-reads
returns-in-Ok-clause-reads c =
    ends-reads c.args.params.now c.args.bytes.now c.into_log.result (rw c.new-draft.ensures.params at c.in-Ok.ensures.filled.accepted)
    (c.into_log.ensures (records_of c.args.bytes.now) c.in-Ok.ensures.filled.stands)

pub returns-in-Ok-clause-sound : goal.returns-in-Ok-clause-sound
returns-in-Ok-clause-sound c =
    ends-sound c.args.params.now c.args.bytes.now c.into_log.result (rw c.new-draft.ensures.params at c.in-Ok.ensures.filled.accepted)
    (c.into_log.ensures (records_of c.args.bytes.now) c.in-Ok.ensures.filled.stands)
