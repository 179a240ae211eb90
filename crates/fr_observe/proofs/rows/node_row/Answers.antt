use Rattle.std.proofs.Common.{◌≡◌, ◌∙◌, ℕ, List, Option, ◌++◌, ap, rules}
use Rattle.std.specs.Prelude.{codes}
use Rattle.std.specs.Fmt.{decimal, signed_decimal}
use Rattle.std.specs.Option.{option_map}
use Rattle.fr_course.specs.declared.intervals.Interval.{Interval}
use Rattle.fr_text.specs.Pieces.{line, spelling}
use Rattle.fr_observe.specs.Observing.{known, node_row, terms_of}
use Rattle.fr_observe.proofs.rows.node_row.Goals as goal

pub returns : goal.returns
unfolding node_row
returns c =
    let double : spelling c.natural.result ≡ decimal c.args.double = search rules in
    let node : spelling c.natural-2.result ≡ decimal c.args.sender.now.node = search rules in
    let low : spelling c.ticks.result ≡ signed_decimal c.args.sender.now.course.length.low = search rules in
    let high : spelling c.ticks-2.result ≡ signed_decimal c.args.sender.now.course.length.high = search rules in
    let least : spelling c.least_term.result ≡ known (option_map (λ t. t.low) (terms_of c.args.scale.now c.args.sender.now)) =
    c.least_term.ensures.spelt ∙ ap (λ (term : Option Interval). known (option_map (λ t. t.low) term)) c.terms_of-term.ensures.value in
    let most : spelling c.most_term.result ≡ known (option_map (λ t. t.high) (terms_of c.args.scale.now c.args.sender.now)) =
    c.most_term.ensures.spelt ∙ ap (λ (term : Option Interval). known (option_map (λ t. t.high) term)) c.terms_of-term.ensures.value in
    c.row_of.ensures
    ∙ (λ i.
    line
    (
    ((((((codes "node" ++ codes "," ++ double i) ++ codes "," ++ node i) ++ codes "," ++ low i) ++ codes "," ++ high i) ++ codes "," ++ least i) ++ codes "," ++ most i)
    ++ codes "," ++ codes ""
    ))
