use Rattle.fr_check.proofs.Taking.{table_holds}
use Rattle.fr_check.proofs.terms.table_of.Goals as goal

pub returns : goal.returns
returns c =
    table_holds c.args.params.now c.args.evens.now c.args.odds.now c.args.node c.new-table.result c.take_own.new.table c.take_own-2.new.table
    c.new-table.ensures.empty c.take_own.ensures c.take_own-2.ensures
