use Rattle.std.proofs.Common.{◌≡◌, ◌+◌, ◌-◌, ◌*◌, List, refl, ap, sym, subst, arith}
use Rattle.fr_base.specs.declared.node_row.NodeRow.{NodeRow}
use Rattle.fr_world.proofs.Stages.{stage-more, walk-more}
use Rattle.fr_air.specs.Files.{setting_in}
use Rattle.fr_air.specs.Reaching.{IsReach}
use Rattle.fr_air.specs.Walk.{over_slots}
use Rattle.fr_world.specs.Stage.{StageView}
use Rattle.fr_world.proofs.stage.Stage.hear_slots.Goals as goal

pub loop-earlier-init : goal.loop-earlier-init
unfolding over_slots
loop-earlier-init c = (refl, stage-more c.args.files.now c.args.cycle 0 (130 * 0) c.args.self.now (omega arith) c.requires.stage, c.requires.reach)

pub hear_slot-requires-clause-stage : goal.hear_slot-requires-clause-stage
hear_slot-requires-clause-stage c =
    let i = c.loop-earlier in
    stage-more c.args.files.now c.args.cycle (130 * i.earlier) (130 * (i.earlier + 1 - 1)) i.self (omega arith) i.invariant.1

pub loop-earlier-preserved : goal.loop-earlier-preserved
loop-earlier-preserved c =
    let i = c.loop-earlier in
    let P : List NodeRow → Type 0 = λ rows. IsReach c.args.files.now c.args.cycle rows c.args.reach in
    let same : c.hear_slot.new.self.rows ≡ i.self.rows = ap (λ (s : StageView). s.rows) c.hear_slot.ensures.heard in
    (walk-more (setting_in c.args.files.now) c.args.cycle i.earlier c.args.self.now i.self c.hear_slot.new.self i.invariant.0 c.hear_slot.ensures.heard, c.hear_slot.ensures.stage, subst P (sym same) i.invariant.2)
