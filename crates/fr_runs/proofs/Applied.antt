-- What clocks apply are terms of their values.
use Rattle.std.proofs.Common.{◌≡◌, pos, ◌∷◌, ap, ◌∙◌, if◌then◌else◌}
use Rattle.std.proofs.lemmas.List.Elements.{All-contains}
use Rattle.fr_base.specs.declared.node_row.NodeRow.{NodeRow}
use Rattle.fr_correct.proofs.There.{offset_term_is_there, rate_term_is_there}
use Rattle.fr_measure.specs.Deviations.{offset_values_of, rate_values_of}
use Rattle.fr_history.specs.History.{History, row_of}
use Rattle.fr_history.specs.Rows.{offset_after}
use Rattle.fr_history.specs.Terms.{latest_devs, offset_term_in, rate_term_in}
use Rattle.fr_history.specs.Cycles.{told_of}
use Rattle.fr_history.specs.Laws.{rate_by_rows, rate_of_next}
use Rattle.fr_runs.specs.Terms.{OffsetsAreTerms, RatesAreTerms}

pub offsets_are_terms : OffsetsAreTerms
offsets_are_terms x h c row runs among corrected =
    let before : History = told_of h in
    let is = All-contains (λ (one : NodeRow). one.offset ≡ offset_after x.params before c.told one) c.told.rows row runs.offsets among in (
      offset_term_in x.params before c.told.devs row.node,
      offset_term_is_there x.params.offset_limit (offset_values_of x.params (latest_devs before) c.told.devs row.node),
      is ∙ ap (λ b. if b then (offset_term_in x.params before c.told.devs row.node).value else pos 0) corrected,
    )

pub rates_are_terms : RatesAreTerms
rates_are_terms x h c next row next_row runs had among corrected =
    let before : History = told_of h in
    let is = All-contains (λ (one : NodeRow). one.rate ≡ rate_of_next x (c ∷ h) one.node) next.told.rows next_row runs.rates among in (
      rate_term_in x.params before c.told.devs row,
      rate_term_is_there row.rate x.params.damping x.params.rate_limit (rate_values_of x.params (latest_devs before) c.told.devs row.node),
      is
          ∙ ap (λ o. rate_by_rows x c h next_row.node o (row_of c.followers next_row.node)) had
          ∙ ap (λ b. if b then (rate_term_in x.params before c.told.devs row).value else row.rate) corrected,
    )
