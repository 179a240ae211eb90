use Rattle.std.proofs.Common.{◌∙◌, sym}
use Rattle.fr_script.proofs.InTurn.{all-after}
use Rattle.fr_script.proofs.sayings.high_of.Goals as goal

pub returns-then-is_before-clause-after : goal.returns-then-is_before-clause-after
returns-then-is_before-clause-after c =
    all-after c.args.rows.now c.args.place c.args.passage.now c.index-rows-place.result c.requires c.if-place-rows.true (sym c.is_before.ensures ∙ c.if-is_before.true)
