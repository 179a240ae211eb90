use Rattle.std.proofs.Common.{◌≡◌, ap, ◌∙◌}
use Rattle.fr_trace.specs.Order.{doubles_or_0, ends_with}
use Rattle.fr_trace.proofs.Ending.{whole-is}
use Rattle.fr_trace.proofs.reading.is_whole.Goals as goal

pub returns : goal.returns
returns c = λ records h.
    let p = c.args.params.now in
    let d = c.args.draft.now in
    let count : c.so_far.result.doubles ≡ c.args.doubles = c.so_far.ensures.doubles ∙ ap doubles_or_0 c.requires in
    c.ends_with.ensures
    ∙ (λ i. ends_with p (count i) (c.so_far.ensures.named i) (c.so_far.ensures.joins i) (c.so_far.ensures.before i) d.last)
    ∙ whole-is p d records c.args.doubles h c.requires
