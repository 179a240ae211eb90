use Rattle.std.proofs.Common.{◌≡◌, ◌∙◌, ◌+◌, ◌-◌, ◌*◌, List, ap, sym, subst, arith}
use Rattle.fr_base.specs.declared.node_row.NodeRow.{NodeRow}
use Rattle.fr_base.specs.declared.channel.Channel.TheVariants.{B}
use Rattle.fr_world.proofs.Stages.{stage-more}
use Rattle.fr_air.specs.Files.{setting_in}
use Rattle.fr_air.specs.Reaching.{IsReach}
use Rattle.fr_world.specs.Stage.{StageView, after_turn}
use Rattle.fr_world.proofs.stage.Stage.hear_both.Goals as goal

pub hear_on-requires-clause-before : goal.hear_on-requires-clause-before
hear_on-requires-clause-before c = record { slot = c.requires.slot; is_stage = stage-more c.args.files.now c.args.cycle (130 * (c.args.slot - 1)) (130 * (c.args.slot - 1) + 65 * 0) c.args.self.now (omega arith) c.requires.stage }

pub hear_on-requires-2-clause-before : goal.hear_on-requires-2-clause-before
hear_on-requires-2-clause-before c = record { slot = c.requires.slot; is_stage = stage-more c.args.files.now c.args.cycle (130 * (c.args.slot - 1) + 65 * 0 + 65) (130 * (c.args.slot - 1) + 65 * 1) c.hear_on.new.self (omega arith) c.hear_on.ensures.is_stage }

pub hear_on-requires-2-clause-reach : goal.hear_on-requires-2-clause-reach
hear_on-requires-2-clause-reach c =
    let a = c.args in
    let P : List NodeRow → Type 0 = λ rows. IsReach a.files.now a.cycle rows a.reach in
    let same : c.hear_on.new.self.rows ≡ a.self.now.rows = ap (λ (s : StageView). s.rows) c.hear_on.ensures.heard in
    subst P (sym same) c.requires.reach

pub returns : goal.returns
returns c =
    let a = c.args in
    record {
      heard = c.hear_on-2.ensures.heard ∙ ap (after_turn (setting_in a.files.now) a.cycle a.slot B) c.hear_on.ensures.heard;
      stage = stage-more a.files.now a.cycle (130 * (a.slot - 1) + 65 * 1 + 65) (130 * a.slot) c.hear_on-2.new.self (omega arith) c.hear_on-2.ensures.is_stage;
    }
