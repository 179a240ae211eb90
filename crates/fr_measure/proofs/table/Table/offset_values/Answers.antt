use Rattle.fr_measure.proofs.Steps.{values_step}
use Rattle.fr_measure.proofs.table.Table.offset_values.Goals as goal

pub loop-index-preserved : goal.loop-index-preserved
loop-index-preserved c =
    values_step
    _
    _
    _
    _
    _
    c.loop-index.invariant.0
    c.loop-index.invariant.1
    c.offset_value.ensures.value
    c.append.ensures
