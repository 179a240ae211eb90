use Rattle.fr_trace.proofs.InOrder.{reads_in_order}
use Rattle.fr_trace.proofs.Places.{numbers_are_records}
use Rattle.fr_trace.proofs.numbered.records_in_order.Goals as goal

pub returns-clause-order : goal.returns-clause-order
returns-clause-order c = reads_in_order

pub returns-clause-numbers : goal.returns-clause-numbers
returns-clause-numbers c = numbers_are_records
