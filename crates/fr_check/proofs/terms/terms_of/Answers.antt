use Rattle.std.proofs.Common.{◌∙◌, ap, rules, ℕ, ℤ, Option, w32}
use Rattle.std.proofs.lemmas.Int.{to_z-of_z}
use Rattle.fr_correct.specs.Terms.{offset_term_of, rate_term_of}
use Rattle.fr_measure.specs.Deviations.{deviations_of}
use Rattle.fr_measure.specs.Readings.{reading}
use Rattle.fr_measure.specs.Values.{offset_at, rate_at, values_of}
use Rattle.fr_check.proofs.Taking.{offset_values_same, rate_values_same}
use Rattle.fr_check.proofs.terms.terms_of.Goals as goal

pub returns-clause-offset : goal.returns-clause-offset
returns-clause-offset c =
    c.offset_term_from-offset.ensures.value
    ∙ ap (offset_term_of c.args.params.now.offset_limit)
    (offset_values_same (reading c.table_of-table.result) (deviations_of c.args.params.now c.args.evens.now c.args.odds.now c.args.row.now.node) c.own_key_index-own.result c.table_of-table.ensures
    ∙ ap (λ (own : Option ℕ). values_of (offset_at (deviations_of c.args.params.now c.args.evens.now c.args.odds.now c.args.row.now.node) own)) c.own_key_index-own.ensures)

pub returns-clause-rate : goal.returns-clause-rate
returns-clause-rate c =
    c.rate_term_from-rate.ensures.value
    ∙ ap (λ (rate : ℤ). rate_term_of rate c.args.params.now.damping c.args.params.now.rate_limit (values_of (rate_at (reading c.table_of-table.result) c.own_key_index-own.result)))
    (to_z-of_z w32 c.args.row.now.rate (search rules))
    ∙ ap (rate_term_of c.args.row.now.rate c.args.params.now.damping c.args.params.now.rate_limit)
    (rate_values_same (reading c.table_of-table.result) (deviations_of c.args.params.now c.args.evens.now c.args.odds.now c.args.row.now.node) c.own_key_index-own.result c.table_of-table.ensures
    ∙ ap (λ (own : Option ℕ). values_of (rate_at (deviations_of c.args.params.now c.args.evens.now c.args.odds.now c.args.row.now.node) own)) c.own_key_index-own.ensures)
