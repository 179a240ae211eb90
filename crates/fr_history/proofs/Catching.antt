-- Nothing is caught of an arbitrary node.
use Rattle.std.proofs.Common.{◌≡◌, ◌==◌, ℤ, Bool, true, false, cond, not, ◌||◌, Option, None, refl, ap, ◌∙◌}
use Rattle.std.specs.Prelude.{option_and_then}
use Rattle.fr_time.specs.declared.senders.Sending.{Sending}
use Rattle.fr_reception.specs.Listening.{good_arrival}
use Rattle.fr_reception.specs.Offers.{Offer}
use Rattle.fr_history.specs.History.{row_of}
use Rattle.fr_history.specs.Offers.{active_offer, is_on}
use Rattle.fr_history.specs.Catching.{ArbitraryNodesAreNotCaught, caught_arrival, listening_row, sender_offers}

barred : (own : Bool) (offer : Option Offer) → cond (own || true) None offer ≡ None
barred true offer = refl
barred false offer = refl

nothing_good : (deaf : Bool) (good : Offer → Option ℤ) → let none : Option Offer = None in option_and_then good (cond deaf none none) ≡ None
nothing_good true good = refl
nothing_good false good = refl

pub arbitrary_nodes_are_not_caught : ArbitraryNodesAreNotCaught
unfolding caught_arrival
arbitrary_nodes_are_not_caught x cycle rows node slot channel sending sends arbitrary =
    let good : Offer → Option ℤ = good_arrival slot in
    let deaf : Bool = not (is_on x node channel) in
    let offers : Sending → Option Offer = sender_offers x cycle rows node slot channel in
    let offer : Option Offer = active_offer x cycle sending (row_of rows sending.node) (listening_row node) slot channel in
    let none : offers sending ≡ None = ap (λ (b : Bool). cond ((sending.node == node) || b) None offer) arbitrary ∙ barred (sending.node == node) offer in
    ap (λ (o : Option Sending). option_and_then good (cond deaf None (option_and_then offers o))) sends
    ∙ ap (λ (o : Option Offer). option_and_then good (cond deaf None o)) none
    ∙ nothing_good deaf good
