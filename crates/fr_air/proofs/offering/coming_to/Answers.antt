use Rattle.std.proofs.Common.{◌≡◌, ◌∙◌, Bool, true, Option, None, ap, sym, subst, if◌then◌else◌}
use Rattle.fr_base.specs.declared.node_row.NodeRow.{NodeRow}
use Rattle.fr_cluster.specs.Setting.{Setting}
use Rattle.fr_reception.specs.Offers.{Offer}
use Rattle.fr_air.specs.Files.{setting_in}
use Rattle.fr_air.specs.Sending.{hears, offer_from, offer_heard, said_with, sent_with, ComesAs}
use Rattle.fr_air.proofs.offering.coming_to.Goals as goal

pub returns-in-Some : goal.returns-in-Some
returns-in-Some c frame =
    let a = c.args in
    let t = a.air.now.turn.now in
    let s = a.air.now.sender.now in
    let x : Setting = setting_in a.files.now in
    let heard : hears x a.receiver.now s.node t.channel ≡ true = cc in
    let same : offer_heard x t s.node s.row frame a.receiver.now ≡ sent_with x t c.in-Some.row frame a.receiver.now.node =
    ap (λ (b : Bool). if b then offer_from x t s.node s.row frame a.receiver.now else None) heard
    ∙ ap (λ (row : Option NodeRow). offer_from x t s.node row frame a.receiver.now) c.in-Some.is in
    let P : Option Offer → Type 0 = λ offer. ComesAs t frame offer c.sent_to.result in
    subst P (sym same) (c.sent_to.ensures frame)

pub returns-in-None : goal.returns-in-None
returns-in-None c frame =
    let a = c.args in
    let t = a.air.now.turn.now in
    let s = a.air.now.sender.now in
    let x : Setting = setting_in a.files.now in
    let heard : hears x a.receiver.now s.node t.channel ≡ true = cc in
    let same : offer_heard x t s.node s.row frame a.receiver.now ≡ said_with x t s.node frame a.receiver.now =
    ap (λ (b : Bool). if b then offer_from x t s.node s.row frame a.receiver.now else None) heard
    ∙ ap (λ (row : Option NodeRow). offer_from x t s.node row frame a.receiver.now) c.in-None.is in
    let P : Option Offer → Type 0 = λ offer. ComesAs t frame offer c.said_to.result in
    subst P (sym same) (c.said_to.ensures frame)
