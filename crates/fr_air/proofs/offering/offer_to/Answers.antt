use Rattle.std.proofs.Common.{◌≡◌, Option, Some, None, List, ℕ, refl, sym, subst, ◌∙◌, ap}
use Rattle.std.specs.Prelude.{IfSome}
use Rattle.fr_reception.specs.Offers.{Offer}
use Rattle.std.specs.Option.{option_map}
use Rattle.fr_node.specs.View.{node_row_of}
use Rattle.fr_cluster.specs.Setting.{Setting}
use Rattle.fr_air.proofs.Listening.{can_hear, is_heard}
use Rattle.fr_air.specs.Files.{setting_in}
use Rattle.fr_air.specs.Memory.{frame_on}
use Rattle.fr_air.specs.Sending.{offer_heard, coming_offer, IsComing}
use Rattle.fr_air.specs.Turns.{HasHeard}
use Rattle.fr_air.proofs.offering.offer_to.Goals as goal

pub hear-requires-clause-hears : goal.hear-requires-clause-hears
hear-requires-clause-hears c =
    let a = c.args in
    let t = a.air.now.turn.now in
    let s = a.air.now.sender.now in
    let x : Setting = setting_in a.files.now in
    let frame : List ℕ = frame_on a.memory.now a.air.now.cell in
    let comes : offer_heard x t s.node s.row frame (node_row_of a.node.now) ≡ Some (coming_offer t frame c.in-Some.coming) =
    sym (ap (offer_heard x t s.node s.row frame) c.row-receiver.ensures.value)
    ∙ sym (c.coming_to.ensures frame).offer_is
    ∙ ap (option_map (coming_offer t frame)) c.in-Some.is in
    can_hear a.files.now t a.node.now s.node c.requires.ready c.requires.air.sent.static_slot c.requires.air.sent.sends
    (is_heard x t s.node s.row frame (node_row_of a.node.now) (coming_offer t frame c.in-Some.coming) comes)

pub hear-requires-clause-coming : goal.hear-requires-clause-coming
hear-requires-clause-coming c = subst (λ some. IfSome some IsComing) c.in-Some.is (c.coming_to.ensures (frame_on c.args.memory.now c.args.air.now.cell)).within

pub returns-in-Some-clause-heard : goal.returns-in-Some-clause-heard
returns-in-Some-clause-heard c =
    let a = c.args in
    let t = a.air.now.turn.now in
    let s = a.air.now.sender.now in
    let x : Setting = setting_in a.files.now in
    let frame : List ℕ = frame_on a.memory.now a.air.now.cell in
    let comes : offer_heard x t s.node s.row frame (node_row_of a.node.now) ≡ Some (coming_offer t frame c.in-Some.coming) =
    sym (ap (offer_heard x t s.node s.row frame) c.row-receiver.ensures.value)
    ∙ sym (c.coming_to.ensures frame).offer_is
    ∙ ap (option_map (coming_offer t frame)) c.in-Some.is in
    let P : Option Offer → Type 0 = λ offer. HasHeard a.files.now t offer a.node.now a.counts.now c.hear.new.node c.hear.new.counts in
    subst P (sym comes) c.hear.ensures.heard

pub returns-in_default-clause-heard : goal.returns-in_default-clause-heard
returns-in_default-clause-heard c =
    let a = c.args in
    let t = a.air.now.turn.now in
    let s = a.air.now.sender.now in
    let x : Setting = setting_in a.files.now in
    let frame : List ℕ = frame_on a.memory.now a.air.now.cell in
    let none : offer_heard x t s.node s.row frame (node_row_of a.node.now) ≡ None =
    sym (ap (offer_heard x t s.node s.row frame) c.row-receiver.ensures.value)
    ∙ sym (c.coming_to.ensures frame).offer_is
    ∙ ap (option_map (coming_offer t frame)) c.in_default.is in
    let P : Option Offer → Type 0 = λ offer. HasHeard a.files.now t offer a.node.now a.counts.now a.node.now a.counts.now in
    subst P (sym none) (record { node_is = refl; ready = c.requires.ready; counts_are = refl })
