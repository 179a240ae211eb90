use Rattle.std.proofs.Common.{ℕ, ◌∙◌, ap}
use Rattle.fr_cluster.specs.Values.{Values}
use Rattle.fr_bound.specs.SharpBounds.{sharp_lambda, sharp_pi}
use Rattle.fr_bound.specs.declared.judging.Heard.{Heard}
use Rattle.fr_bound.specs.declared.settling.Spread.{Spread}
use Rattle.fr_precision.specs.Among.{spread_through_losses}
use Rattle.fr_promise.specs.SharpJoining.{all_heard, first_apart_by, first_lengths_by, group_spread_through, second_apart_by, sharp_first_lengths, GroupSpread}
use Rattle.fr_sharp.proofs.group_losses.GroupLosses.first.Goals as goal

pub returns-clause-spread : goal.returns-clause-spread
unfolding group_spread_through spread_through_losses
returns-clause-spread c = λ what.
    let p : Values = c.args.params.now in
    let t = c.args.flutter in
    let beside = c.args.beside in
    let starts_are = c.from-starts.ensures ∙ c.sharp_pi.ensures.value in
    let lengths_are = c.from-lengths.ensures ∙ c.even_lambda.ensures.value in
    let firsts_are = c.first_lengths-first_lengths.ensures.value ∙ ap (first_lengths_by p t) lengths_are in
    let lengths : ℕ = c.from-lengths.result in
    let starts : ℕ = c.from-starts.result in
    let first : ℕ = c.first_lengths-first_lengths.result in
    let With : Spread → ℕ → ℕ → ℕ → GroupSpread = λ rows seconds apart long. record { rows = rows; seconds = seconds; firsts = record { starts = apart; lengths = long } } in
    let seconds_are =
    c.second_apart.ensures.value ∙ ap (λ (h : Heard). second_apart_by h p starts lengths first) c.all_heard.ensures ∙ ap (λ (n : ℕ). second_apart_by (all_heard beside) p n lengths first) starts_are
    ∙ ap (λ (n : ℕ). second_apart_by (all_heard beside) p (sharp_pi beside p t) n first) lengths_are
    ∙ ap (second_apart_by (all_heard beside) p (sharp_pi beside p t) (sharp_lambda beside p t)) firsts_are in
    let apart_is =
    c.first_apart.ensures.value ∙ ap (λ (n : ℕ). first_apart_by p t n lengths) starts_are ∙ ap (first_apart_by p t (sharp_pi beside p t)) lengths_are in
    ap (λ (rows : Spread). With rows c.second_apart.result c.first_apart.result first) (c.first.ensures.spread what)
    ∙ ap (λ (n : ℕ). With (spread_through_losses beside p t what 0) n c.first_apart.result first) seconds_are
    ∙ ap (λ (n : ℕ). With (spread_through_losses beside p t what 0) (second_apart_by (all_heard beside) p (sharp_pi beside p t) (sharp_lambda beside p t) (sharp_first_lengths beside p t)) n first) apart_is
    ∙ ap
    (With (spread_through_losses beside p t what 0) (second_apart_by (all_heard beside) p (sharp_pi beside p t) (sharp_lambda beside p t) (sharp_first_lengths beside p t))
    (first_apart_by p t (sharp_pi beside p t) (sharp_lambda beside p t)))
    firsts_are
