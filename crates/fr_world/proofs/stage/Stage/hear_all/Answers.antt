use Rattle.std.proofs.Common.{◌∙◌, List, sym, subst}
use Rattle.std.specs.Prelude.{All}
use Rattle.fr_base.specs.declared.node_row.NodeRow.{NodeRow}
use Rattle.fr_air.proofs.Reaching.{rows-apart}
use Rattle.fr_air.specs.Reaching.{AreRowsApart, IsReach}
use Rattle.fr_air.specs.Sending.{IsEarlyRow}
use Rattle.fr_world.proofs.stage.Stage.hear_all.Goals as goal

pub reach_of-reach-requires-clause-early : goal.reach_of-reach-requires-clause-early
reach_of-reach-requires-clause-early c =
    let P : List NodeRow → Type 0 = All (IsEarlyRow c.args.files.now.params) in
    subst P (sym c.rows.ensures) c.requires.stage.early

pub reach_of-reach-requires-clause-apart : goal.reach_of-reach-requires-clause-apart
reach_of-reach-requires-clause-apart c = subst AreRowsApart (sym (c.rows.ensures ∙ c.requires.stage.rows_are)) (rows-apart c.args.self.now.nodes c.requires.nodes)

pub hear_slots-requires-clause-reach : goal.hear_slots-requires-clause-reach
hear_slots-requires-clause-reach c =
    let P : List NodeRow → Type 0 = λ rows. IsReach c.args.files.now c.args.cycle rows c.reach_of-reach.result in
    subst P c.rows.ensures c.reach_of-reach.ensures
