use Rattle.std.proofs.Common.{◌≡◌, ◌∙◌, ℕ, List, Option, Some, None, ap, sym, subst}
use Rattle.std.specs.Prelude.{All}
use Rattle.std.specs.Option.{option_map}
use Rattle.fr_base.specs.declared.node_row.NodeRow.{NodeRow}
use Rattle.fr_reception.specs.Offers.{Offer}
use Rattle.fr_cluster.specs.Setting.{Setting}
use Rattle.fr_history.specs.Offers.{frame_in}
use Rattle.fr_world.proofs.Channels.{sender-frame, sent-offer, unsent-offer}
use Rattle.fr_world.proofs.Stages.{heard-same, hears, silent-same, still-ready}
use Rattle.fr_air.specs.Files.{setting_in}
use Rattle.fr_air.specs.Sending.{offer_heard, sending_row_in, IsEarlyRow}
use Rattle.fr_world.specs.Stage.{most_before}
use Rattle.fr_air.specs.Turns.{frame_of_turn}
use Rattle.fr_world.proofs.stage.Stage.hear_sent.Goals as goal

pub sending_row-requires : goal.sending_row-requires
sending_row-requires c =
    let P : List NodeRow → Type 0 = All (IsEarlyRow c.args.files.now.params) in
    subst P (sym c.rows.ensures) c.requires.before.is_stage.early

pub send-requires-clause-among : goal.send-requires-clause-among
send-requires-clause-among c =
    let a = c.args in
    ap (λ (rs : List NodeRow). sending_row_in (setting_in a.files.now) rs a.sending.now.node a.turn.now.channel) (sym c.rows.ensures) ∙ sym c.sending_row.ensures.row_is ∙ c.in-Some.is

pub returns-in-Some : goal.returns-in-Some
returns-in-Some c =
    let a = c.args in
    let t = a.turn.now in
    let x : Setting = setting_in a.files.now in
    let rows : List NodeRow = a.self.now.rows in
    let row : sending_row_in x rows a.sending.now.node t.channel ≡ Some c.in-Some.row =
    ap (λ (rs : List NodeRow). sending_row_in x rs a.sending.now.node t.channel) (sym c.rows.ensures) ∙ sym c.sending_row.ensures.row_is ∙ c.in-Some.is in
    let frame : List ℕ = frame_of_turn a.files.now t a.sending.now in
    let offer : NodeRow → Option Offer = offer_heard x t a.sending.now.node (Some c.in-Some.row) frame in
    let sent : frame_in x t.cycle rows t.slot t.channel ≡ Some frame = sender-frame x t rows a.sending.now c.requires.sends ∙ ap (option_map (λ (r : NodeRow). frame)) row in
    hears a.files.now t a.self.now c.send.new.self c.requires.before
    (c.send.ensures.heard ∙ heard-same x t.cycle t.slot t.channel offer (Some frame) a.self.now (λ r. sent-offer x t rows r a.sending.now c.in-Some.row c.requires.sends c.requires.correct row) sent)
    c.send.ensures.ready

pub returns-in_default : goal.returns-in_default
returns-in_default c =
    let a = c.args in
    let t = a.turn.now in
    let x : Setting = setting_in a.files.now in
    let rows : List NodeRow = a.self.now.rows in
    let frame : List ℕ = frame_of_turn a.files.now t a.sending.now in
    let none : sending_row_in x rows a.sending.now.node t.channel ≡ None =
    ap (λ (rs : List NodeRow). sending_row_in x rs a.sending.now.node t.channel) (sym c.rows.ensures) ∙ sym c.sending_row.ensures.row_is ∙ c.in_default.is in
    let silent : frame_in x t.cycle rows t.slot t.channel ≡ None = sender-frame x t rows a.sending.now c.requires.sends ∙ ap (option_map (λ (r : NodeRow). frame)) none in
    hears a.files.now t a.self.now a.self.now c.requires.before
    (silent-same x t.cycle t.slot t.channel a.self.now (λ r. unsent-offer x t rows r a.sending.now c.requires.sends c.requires.correct none) silent)
    (still-ready a.files.now t.cycle (most_before t) a.self.now c.requires.before.is_stage)
