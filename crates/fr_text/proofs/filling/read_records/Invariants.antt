use Rattle.std.proofs.Common.{◌≡◌, List, ◌++◌, length}
use Rattle.fr_text.specs.Records.{FileRecord, records_of}
use Rattle.fr_text.specs.Refusal.{NoneRefused}
use Rattle.fr_text.proofs.filling.read_records.Given as goal

-- the records so far, of which none is refused, are those that the table holds
abbrev pub invariant-rows : goal.invariant-rows
invariant-rows g l =
    (done : List FileRecord) × (records_of l.fn.bytes ≡ done ++ l.records)
    × NoneRefused (g.T.RecordTable.reason l.fn.table) done
    × g.T.RecordTable.holds l.table done
    × (l.number ≡ length done)
    × (g.T.RecordTable.reason l.table ≡ g.T.RecordTable.reason l.fn.table)

abbrev pub decreases-rows : goal.decreases-rows
decreases-rows g l = length l.records
