use Rattle.std.proofs.Common.{arith, rules}
use Rattle.std.proofs.lemmas.Map.Text.{text_keys}
use Rattle.fr_program.proofs.memory_shelf.MemoryShelf.count.Goals as goal

pub returns-in-Some-clause-counts : goal.returns-in-Some-clause-counts
returns-in-Some-clause-counts c = record {
  counted = search rules;
  others = grind (arith, text_keys);
  common = λ held other differs. grind (arith, text_keys);
}

pub returns-in-Some-clause-only : goal.returns-in-Some-clause-only
returns-in-Some-clause-only c = record {
  never_fall = grind (arith, text_keys);
  held = grind (arith, text_keys);
  loads = search rules;
  asked = search rules;
  failing = search rules;
}
