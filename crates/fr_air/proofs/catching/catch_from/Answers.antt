use Rattle.std.proofs.Common.{◌∙◌, sym}
use Rattle.fr_air.proofs.Caught.{starts-soon}
use Rattle.fr_air.proofs.catching.catch_from.Goals as goal

pub catch_sent-requires-clause-start : goal.catch_sent-requires-clause-start
catch_sent-requires-clause-start c =
    let a = c.args in
    starts-soon a.files.now a.turn.now.cycle a.rows.now a.sending.now.node a.turn.now.channel c.in-Some.row c.requires.rows c.requires.joins (sym c.sending_row.ensures.row_is ∙ c.in-Some.is)
