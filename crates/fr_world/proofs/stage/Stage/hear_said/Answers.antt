use Rattle.std.proofs.Common.{◌≡◌, ◌∙◌, List, Option, None, ap, true, false}
use Rattle.fr_base.specs.declared.node_row.NodeRow.{NodeRow}
use Rattle.fr_reception.specs.Regular.{is_sync_frame}
use Rattle.fr_reception.specs.Offers.{Offer}
use Rattle.fr_cluster.specs.Setting.{Setting}
use Rattle.fr_history.specs.Offers.{frame_in}
use Rattle.fr_world.proofs.Channels.{arbitrary-frame, said-offer, unsaid-offer}
use Rattle.fr_world.proofs.Stages.{heard-same, hears, silent-same, still-ready}
use Rattle.fr_air.specs.Files.{setting_in}
use Rattle.fr_air.specs.Sending.{offer_heard}
use Rattle.fr_world.specs.Stage.{most_before}
use Rattle.fr_air.specs.Turns.{frame_of_turn}
use Rattle.fr_world.proofs.stage.Stage.hear_said.Goals as goal

pub returns-then-is_sync : goal.returns-then-is_sync
returns-then-is_sync c =
    let a = c.args in
    let t = a.turn.now in
    let x : Setting = setting_in a.files.now in
    let stage = c.requires.before.is_stage in
    let sync : is_sync_frame a.sending.now.kind ≡ true = cc in
    let offer : NodeRow → Option Offer = offer_heard x t a.sending.now.node None (frame_of_turn a.files.now t a.sending.now) in
    let none : frame_in x t.cycle a.self.now.rows t.slot t.channel ≡ None =
    ap (λ (rows : List NodeRow). frame_in x t.cycle rows t.slot t.channel) stage.rows_are
    ∙ arbitrary-frame a.files.now t a.self.now.nodes a.sending.now c.requires.sends stage.ready c.requires.arbitrary in
    hears a.files.now t a.self.now c.say.new.self c.requires.before
    (c.say.ensures.heard ∙ heard-same x t.cycle t.slot t.channel offer None a.self.now (λ r. said-offer x t a.self.now.rows r a.sending.now c.requires.sends c.requires.arbitrary sync) none)
    c.say.ensures.ready

pub returns-else-is_sync : goal.returns-else-is_sync
returns-else-is_sync c =
    let a = c.args in
    let t = a.turn.now in
    let x : Setting = setting_in a.files.now in
    let stage = c.requires.before.is_stage in
    let plain : is_sync_frame a.sending.now.kind ≡ false = cc in
    let none : frame_in x t.cycle a.self.now.rows t.slot t.channel ≡ None =
    ap (λ (rows : List NodeRow). frame_in x t.cycle rows t.slot t.channel) stage.rows_are
    ∙ arbitrary-frame a.files.now t a.self.now.nodes a.sending.now c.requires.sends stage.ready c.requires.arbitrary in
    hears a.files.now t a.self.now a.self.now c.requires.before
    (silent-same x t.cycle t.slot t.channel a.self.now (λ r. unsaid-offer x t a.self.now.rows r a.sending.now c.requires.sends c.requires.arbitrary plain) none)
    (still-ready a.files.now t.cycle (most_before t) a.self.now stage)
