use Rattle.std.proofs.Common.{◌≡◌, ◌∙◌, ℕ, List, Some, ap, sym, subst}
use Rattle.fr_base.specs.declared.node_row.NodeRow.{NodeRow}
use Rattle.fr_world.proofs.Stages.{sent-ready}
use Rattle.fr_air.specs.Files.{setting_in}
use Rattle.fr_air.specs.Reaching.{IsReach}
use Rattle.fr_air.specs.Sending.{offer_heard, sending_row_in}
use Rattle.fr_world.specs.Stage.{StageView, answered}
use Rattle.fr_air.specs.Turns.{frame_of_turn}
use Rattle.fr_world.proofs.stage.Stage.send.Goals as goal

pub offer-requires-clause-stage : goal.offer-requires-clause-stage
offer-requires-clause-stage c =
    let a = c.args in
    sent-ready a.files.now a.turn.now a.self.now c.keep-cell.new.self (Some (frame_of_turn a.files.now a.turn.now a.sending.now)) c.sane.ensures c.requires.before c.keep-cell.ensures.sent

pub offer-requires-clause-reach : goal.offer-requires-clause-reach
offer-requires-clause-reach c =
    let P : List NodeRow → Type 0 = λ rows. IsReach c.args.files.now c.args.turn.now.cycle rows c.args.reach in
    let same : c.args.self.now.rows ≡ c.keep-cell.new.self.rows = sym (ap (λ (s : StageView). s.rows) c.keep-cell.ensures.sent) in
    subst P same c.requires.reach

pub offer-requires-clause-sends : goal.offer-requires-clause-sends
offer-requires-clause-sends c =
    let a = c.args in
    let same : a.self.now.rows ≡ c.keep-cell.new.self.rows = sym (ap (λ (s : StageView). s.rows) c.keep-cell.ensures.sent) in
    ap (λ (rows : List NodeRow). sending_row_in (setting_in a.files.now) rows a.sending.now.node a.turn.now.channel) (sym same) ∙ c.requires.among

pub returns-clause-heard : goal.returns-clause-heard
returns-clause-heard c =
    let a = c.args in
    let t = a.turn.now in
    let x = setting_in a.files.now in
    c.offer.ensures.heard
    ∙ ap (λ (frame : List ℕ). answered x t.cycle (offer_heard x t a.sending.now.node (Some a.row) frame) c.keep-cell.new.self) c.keep-cell.ensures.frame
    ∙ ap (answered x t.cycle (offer_heard x t a.sending.now.node (Some a.row) (frame_of_turn a.files.now t a.sending.now))) c.keep-cell.ensures.sent
