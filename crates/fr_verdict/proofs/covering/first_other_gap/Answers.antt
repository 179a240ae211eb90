use Rattle.std.proofs.Common.{◌≡◌, ◌∙◌, None, sym}
use Rattle.fr_coverage.specs.First.{first_in}
use Rattle.fr_verdict.specs.FirstGap.{traced_changes_gap, traced_count_gap, traced_lengths_gap}
use Rattle.fr_verdict.proofs.Stepping.{last_of_gaps}
use Rattle.fr_verdict.proofs.covering.first_other_gap.Goals as goal

pub returns : goal.returns
returns c =
    let p = c.args.params.now in
    let t = c.args.trace.now in
    let count : traced_count_gap p t ≡ None = sym c.wrong_count.ensures ∙ c.in_default.is in
    let lengths : first_in (traced_lengths_gap p t) p.nodes ≡ None = sym c.wrong_length.ensures ∙ c.in_default-wrong_length.is in
    let changes : first_in (traced_changes_gap p t) p.nodes ≡ None = sym c.wrong_change.ensures ∙ c.in_default-wrong_change.is in
    last_of_gaps p t c.args.synced c.broken_link.result count lengths changes c.requires c.broken_link.ensures
