use Rattle.std.proofs.Common.{◌≡◌, ◌∙◌, ◌++◌, ap, w64}
use Rattle.std.proofs.lemmas.Int.{to_z-of_z}
use Rattle.std.specs.Prelude.{codes}
use Rattle.std.specs.Fmt.{signed_decimal}
use Rattle.fr_text.specs.Pieces.{line, spelling}
use Rattle.fr_check.proofs.unlawful_lines.deviation_line.Goals as goal

pub returns : goal.returns
returns c =
    let kept : spelling c.signed.result ≡ signed_decimal c.args.kept = c.signed.ensures.spelt ∙ ap signed_decimal (to_z-of_z w64 c.args.kept c.ranges.kept) in
    let low : spelling c.signed-2.result ≡ signed_decimal c.args.low = c.signed-2.ensures.spelt ∙ ap signed_decimal (to_z-of_z w64 c.args.low c.ranges.low) in
    let high : spelling c.signed-3.result ≡ signed_decimal c.args.high = c.signed-3.ensures.spelt ∙ ap signed_decimal (to_z-of_z w64 c.args.high c.ranges.high) in
    c.line_of.ensures
    ∙ (λ i. line (codes "trace: record " ++ c.natural.ensures.spelt i ++ codes " deviation " ++ kept i ++ codes " expected " ++ low i ++ codes " to " ++ high i))
