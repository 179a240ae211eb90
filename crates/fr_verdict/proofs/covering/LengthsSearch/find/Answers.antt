use Rattle.std.proofs.Common.{◌∙◌, ap, sym, length}
use Rattle.fr_coverage.specs.First.{first_below}
use Rattle.fr_history.specs.History.{History}
use Rattle.fr_trace.specs.Cycles.{history_by}
use Rattle.fr_verdict.specs.FirstGap.{traced_length_gap}
use Rattle.fr_verdict.proofs.Parts.{history_length}
use Rattle.fr_verdict.proofs.covering.LengthsSearch.find.Goals as goal

pub returns : goal.returns
returns c =
    c.first_length.ensures
    ∙ ap (first_below (traced_length_gap c.args.self.now.0.params.now (history_by c.timed_cycles.result.now) c.args.node.now.id)) (sym (history_length c.timed_cycles.result.now))
    ∙ ap (λ (h : History). first_below (traced_length_gap c.args.self.now.0.params.now h c.args.node.now.id) (length h)) c.timed_cycles.ensures.history
