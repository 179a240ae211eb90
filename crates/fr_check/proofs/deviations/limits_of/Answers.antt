use Rattle.std.proofs.Common.{◌≡◌, ◌∙◌, ap, ap₂, ℤ, FitsSigned, w64, rules}
use mir.Val.{of_z, to_z}
use Rattle.std.proofs.lemmas.Int.{to_z-of_z}
use Rattle.std.specs.Prelude.{◌+ℤ◌, ◌-ℤ◌}
use Rattle.fr_check.specs.declared.deviations.Limits.{Limits}
use Rattle.fr_check.proofs.deviations.limits_of.Goals as goal

pub returns-clause-value : goal.returns-clause-value
returns-clause-value c =
    let receiver = c.args.receiver.now in
    let gap_fits : FitsSigned w64 c.gap-gap.result = search rules in
    let error_fits : FitsSigned w64 c.arrival_error-error.result = search rules in
    let below : c.less.result ≡ c.gap-gap.result -ℤ c.arrival_error-error.result = simp to_z-of_z at c.less.ensures.value in
    let above : c.more.result ≡ c.gap-gap.result +ℤ c.arrival_error-error.result = simp to_z-of_z at c.more.ensures.value in
    let least_back : to_z w64 (of_z w64 c.less.result) ≡ c.less.result = to_z-of_z w64 c.less.result (search rules) in
    let most_back : to_z w64 (of_z w64 c.more.result) ≡ c.more.result = to_z-of_z w64 c.more.result (search rules) in
    let length_back : to_z w64 (of_z w64 receiver.length) ≡ receiver.length = to_z-of_z w64 receiver.length (search rules) in
    ap (λ (l : ℤ). let limits : Limits = record { least = to_z w64 (of_z w64 c.less.result); most = to_z w64 (of_z w64 c.more.result); length = l } in limits) length_back
    ∙ ap₂ (λ (a b : ℤ). let limits : Limits = record { least = a; most = b; length = receiver.length } in limits)
    (least_back ∙ below ∙ ap₂ (λ (gap error : ℤ). gap -ℤ error) c.gap-gap.ensures.value c.arrival_error-error.ensures.value)
    (most_back ∙ above ∙ ap₂ (λ (gap error : ℤ). gap +ℤ error) c.gap-gap.ensures.value c.arrival_error-error.ensures.value)
