use Rattle.std.proofs.Common.{◌≡◌, inr, None, Some, arith}
use Rattle.fr_cluster.specs.Questions.{key_index_of}
use Rattle.fr_check.proofs.Taking.{not_taken, taken}
use Rattle.fr_check.proofs.terms.take_dev.Goals as goal

pub returns-in-Some : goal.returns-in-Some
returns-in-Some c =
    let receives : c.args.dev.now.receiver ≡ c.args.node = grind arith in
    let is : key_index_of c.args.params.now c.args.dev.now.slot ≡ Some c.in-Some.index = cc in
    taken c.args.params.now c.args.dev.now c.args.node c.in-Some.index c.args.odd c.args.table.now c.store_first.new.table receives is c.store_first.ensures.here c.store_first.ensures.others

pub returns-in_default : goal.returns-in_default
returns-in_default c =
    let none : key_index_of c.args.params.now c.args.dev.now.slot ≡ None = cc in
    not_taken c.args.params.now c.args.dev.now c.args.node c.args.odd c.args.table.now (inr none)
