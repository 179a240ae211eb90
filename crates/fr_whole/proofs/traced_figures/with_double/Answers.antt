use Rattle.fr_whole.proofs.TracedDoubles.{placed_rows}
use Rattle.fr_whole.proofs.traced_figures.with_double.Goals as goal

pub with_rows-requires-clause-even : goal.with_rows-requires-clause-even
with_rows-requires-clause-even c =
    placed_rows c.args.params.now c.grid_of-grid.result c.args.scale.now.grid c.args.even.now c.deref.result.now c.grid_of-grid.ensures.placeable c.grid_of-grid.ensures.value c.requires.grid c.requires.even c.deref.ensures.value

pub with_rows-requires-clause-odd : goal.with_rows-requires-clause-odd
with_rows-requires-clause-odd c =
    placed_rows c.args.params.now c.grid_of-grid.result c.args.scale.now.grid c.args.odd.now c.deref-2.result.now c.grid_of-grid.ensures.placeable c.grid_of-grid.ensures.value c.requires.grid c.requires.odd c.deref-2.ensures.value
