use Rattle.fr_text.specs.Records.{records_of}
use Rattle.fr_script.proofs.Standing.{stands-of}
use Rattle.fr_script.proofs.reading.read.Goals as goal

pub returns-in-Ok-clause-reads : goal.returns-in-Ok-clause-reads
returns-in-Ok-clause-reads c = record {
  none_refused = rw c.new-draft.ensures.params at c.in-Ok.ensures.filled.accepted;
  stands = rw c.into_script.ensures.script (stands-of c.read_records.new.table (records_of c.args.bytes.now) c.in-Ok.ensures.filled.stands);
}

pub returns-in-Ok-clause-sound : goal.returns-in-Ok-clause-sound
returns-in-Ok-clause-sound c = record {
  fits = record {
    records = records_of c.args.bytes.now;
    none_refused = rw c.new-draft.ensures.params at c.in-Ok.ensures.filled.accepted;
    stands = rw c.into_script.ensures.script (stands-of c.read_records.new.table (records_of c.args.bytes.now) c.in-Ok.ensures.filled.stands);
  };
  proper = c.into_script.ensures.sane;
}
