use Rattle.std.proofs.Common.{◌∙◌, ℕ, ◌<◌, ◌≤◌, pos, get_or, length, sym, arith}
use Rattle.fr_course.proofs.Fits.{end_read}
use Rattle.fr_course.proofs.Ranked.{least_left-none, least_left-ranked}
use Rattle.fr_course.proofs.middles.least_left.Goals as goal

pub returns-then-ends-ranked-clause-value : goal.returns-then-ends-ranked-clause-value
returns-then-ends-ranked-clause-value c = λ values is.
    let at : ℕ = c.args.ends in
    let inside : at < length c.args.ranked.now = omega arith in
    let short : c.args.ends < length c.args.ranked.now = omega arith in
    end_read (get_or c.args.ranked.now at (pos 0)) (c.requires at (pos 0) inside)
    ∙ sym (least_left-ranked c.args.ends values c.args.ranked.now (pos 0) is short)

pub returns-else-ends-ranked-clause-value : goal.returns-else-ends-ranked-clause-value
returns-else-ends-ranked-clause-value c = λ values is.
    let few : length c.args.ranked.now ≤ c.args.ends = omega arith in
    sym (least_left-none c.args.ends values c.args.ranked.now is few)
