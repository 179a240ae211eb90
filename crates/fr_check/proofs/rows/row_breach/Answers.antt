use Rattle.std.proofs.Common.{◌≡◌, ◌∙◌, ap, ap₂, ℤ, FitsSigned, w32, rules}
use Rattle.std.proofs.lemmas.Int.{to_z-of_z}
use Rattle.std.specs.Option.{option_or}
use Rattle.fr_trace.specs.Cycles.{history_by}
use Rattle.fr_verdict.specs.Search.{is_same_number, turned, unless, wrong_offset, wrong_rate, wrong_turn}
use Rattle.fr_verdict.specs.declared.unlawful.Unlawful.TheVariants as unlawful
use Rattle.fr_check.proofs.Ranks.{clock_breach}
use Rattle.fr_check.proofs.rows.row_breach.Goals as goal

pub returns : goal.returns
returns c = λ here kept.
    let p = c.args.params.now in
    let n = c.args.number in
    let h = history_by c.args.behind.now in
    let row = c.args.row.now in
    let rate_fits : FitsSigned w32 row.rate = search rules in
    let offset_fits : FitsSigned w32 row.offset = search rules in
    let wanted_rate_fits : FitsSigned w32 c.rate_behind.result = search rules in
    let wanted_offset_fits : FitsSigned w32 c.offset_after.result = search rules in
    let told_rate : c.wrong_rate-rate.result ≡ unless (is_same_number row.rate c.rate_behind.result) (unlawful.Rate n row.rate c.rate_behind.result) = simp to_z-of_z at c.wrong_rate-rate.ensures in
    let told_offset : c.wrong_offset-offset.result ≡ unless (is_same_number row.offset c.offset_after.result) (unlawful.Offset n row.offset c.offset_after.result) = simp to_z-of_z at c.wrong_offset-offset.ensures in
    let rate : c.wrong_rate-rate.result ≡ wrong_rate p n h row =
    told_rate ∙ ap (λ (wanted : ℤ). unless (is_same_number row.rate wanted) (unlawful.Rate n row.rate wanted)) (c.rate_behind.ensures p c.requires.latest) in
    let turn : c.wrong_turn-turn.result ≡ wrong_turn p n h row =
    c.wrong_turn-turn.ensures ∙ ap (turned n row.state) (c.state.ensures.value p h (c.requires.hold row.node c.state.ensures.from c.state.ensures.to)) in
    let offset : c.wrong_offset-offset.result ≡ wrong_offset p n h here row =
    told_offset ∙ ap (λ (wanted : ℤ). unless (is_same_number row.offset wanted) (unlawful.Offset n row.offset wanted)) (c.offset_after.ensures p here kept) in
    c.first_of-4.ensures
    ∙ ap₂ option_or
    (
    c.first_of-3.ensures
    ∙ ap₂ option_or
    (c.first_of-2.ensures ∙ ap₂ option_or (c.first_of.ensures ∙ ap₂ option_or c.wrong_start-start.ensures rate) turn)
    offset
    )
    c.apart_row-apart.ensures
    ∙ clock_breach p c.args.trace.now n h here row
