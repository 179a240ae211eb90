use Rattle.std.proofs.Common.{◌∙◌, List, None, Some, ap, sym, subst}
use Rattle.fr_world.proofs.Stages.{before-ready, quiet-again, saying-ready}
use Rattle.fr_air.specs.Files.{setting_in}
use Rattle.fr_air.specs.Memory.{frame_on}
use Rattle.fr_air.specs.Sending.{offer_heard}
use Rattle.fr_world.specs.Stage.{StageView, answered, saying, CanAnswer}
use Rattle.fr_air.specs.Turns.{frame_of_turn}
use Rattle.fr_world.proofs.stage.Stage.say.Goals as goal

pub offer-requires-clause-stage : goal.offer-requires-clause-stage
offer-requires-clause-stage c =
    let a = c.args in
    subst (CanAnswer a.files.now a.turn.now.cycle) (sym c.begin_saying.ensures)
    (saying-ready a.files.now a.turn.now.cycle (Some (frame_of_turn a.files.now a.turn.now a.sending.now)) a.self.now (before-ready a.files.now a.turn.now a.self.now c.sane.ensures c.requires.before))

pub returns-clause-heard : goal.returns-clause-heard
returns-clause-heard c =
    let a = c.args in
    let t = a.turn.now in
    let x = setting_in a.files.now in
    let frame : List _ = frame_of_turn a.files.now t a.sending.now in
    c.end_saying.ensures
    ∙ ap (saying None) (c.offer.ensures.heard
    ∙ ap (λ (s : StageView). answered x t.cycle (offer_heard x t a.sending.now.node None (frame_on s.memory None)) s) c.begin_saying.ensures)
    ∙ quiet-again x t.cycle (offer_heard x t a.sending.now.node None frame) a.self.now frame (ap (λ memory. memory.said) c.requires.before.is_stage.memory_is)

pub offer-requires-clause-reach : goal.offer-requires-clause-reach
offer-requires-clause-reach c = c.no_reach.ensures c.args.files.now c.args.turn.now.cycle c.begin_saying.new.self.rows
