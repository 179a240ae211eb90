use Rattle.std.proofs.Common.{replicate}
use Rattle.std.proofs.lemmas.List.Elements.{same_from_all_zip}
use Rattle.fr_pool.proofs.pool.blank_cells.Goals as goal

pub returns : goal.returns
returns c = c.in_ok-cells.ensures.items_if_clones_equal (λ y same. same_from_all_zip _ (replicate 264 0) y same.whole (λ x copy is. is))
