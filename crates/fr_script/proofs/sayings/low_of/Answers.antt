use Rattle.std.proofs.Common.{◌∙◌, sym}
use Rattle.fr_script.proofs.InTurn.{all-before-end}
use Rattle.fr_script.proofs.sayings.low_of.Goals as goal

pub returns-then-is_before : goal.returns-then-is_before
returns-then-is_before c =
    all-before-end c.args.rows.now c.args.place c.args.passage.now c.index-rows-place.result c.requires c.if-place-gt0.true c.if-place-rows.true (sym c.is_before.ensures ∙ c.if-is_before.true)
