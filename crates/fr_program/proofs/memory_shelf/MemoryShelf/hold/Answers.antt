use Rattle.std.proofs.Common.{arith, rules}
use Rattle.std.proofs.lemmas.Map.Text.{text_keys}
use Rattle.fr_program.proofs.memory_shelf.MemoryShelf.hold.Goals as goal

pub returns-in-Some-clause-others : goal.returns-in-Some-clause-others
returns-in-Some-clause-others c = grind (arith, text_keys)

pub returns-in-Some-clause-counts : goal.returns-in-Some-clause-counts
returns-in-Some-clause-counts c = record { faults = grind (arith, text_keys); loads = search rules; asked = search rules }

pub returns-in_ok-insert-in-None-clause-others : goal.returns-in_ok-insert-in-None-clause-others
returns-in_ok-insert-in-None-clause-others c = grind (arith, text_keys)

pub returns-in_ok-insert-in-None-clause-counts : goal.returns-in_ok-insert-in-None-clause-counts
returns-in_ok-insert-in-None-clause-counts c = record { faults = grind (arith, text_keys); loads = search rules; asked = search rules }
