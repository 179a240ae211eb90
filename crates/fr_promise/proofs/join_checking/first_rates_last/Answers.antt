use Rattle.std.proofs.Common.{◌≡◌, ◌∙◌, Bool, true, false, if◌then◌else◌, Some, ap, sym}
use Rattle.fr_promise.specs.JoinedHistories.{first_rates_of_walk}
use Rattle.fr_bound.specs.SharpBounds.{rate_room, rate_walk}
use Rattle.fr_promise.specs.SharpJoining.{counted_error, sharp_join_holds_of}
use Rattle.fr_promise.proofs.join_checking.first_rates_last.Goals as goal

pub returns-then-first_rate_sides : goal.returns-then-first_rate_sides
returns-then-first_rate_sides c =
    let p = c.args.params.now in
    let f = c.args.flutter in
    let holds : sharp_join_holds_of 6 false f p ≡ true = sym (c.first_rate_sides.ensures false).holds ∙ c.if-first_rate_sides.true in
    c.first_rates_of_walk.ensures ∙ sym (ap (λ (b : Bool). if b then first_rates_of_walk (rate_room p) (counted_error p f) (rate_walk p f) else Some 0) holds)

pub returns-else-first_rate_sides : goal.returns-else-first_rate_sides
returns-else-first_rate_sides c =
    let p = c.args.params.now in
    let f = c.args.flutter in
    let fails : sharp_join_holds_of 6 false f p ≡ false = sym (c.first_rate_sides.ensures false).holds ∙ c.if-first_rate_sides.false in
    sym (ap (λ (b : Bool). if b then first_rates_of_walk (rate_room p) (counted_error p f) (rate_walk p f) else Some 0) fails)
