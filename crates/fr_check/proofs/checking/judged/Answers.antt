use Rattle.std.proofs.Common.{◌∙◌, sym}
use Rattle.fr_verdict.specs.Answer.{IsVerdict}
use Rattle.fr_check.proofs.Followed.{synced_whole}
use Rattle.fr_check.proofs.Judging.{gap_told, precision_told, some_added, verdict_told}
use Rattle.fr_check.proofs.checking.judged.Goals as goal

pub first_gap-requires : goal.first_gap-requires
first_gap-requires c = c.synced.ensures ∙ c.requires.holds.synced ∙ synced_whole c.args.params.now c.args.trace.now

pub returns-in-Some-clause-answer : goal.returns-in-Some-clause-answer
returns-in-Some-clause-answer c = gap_told c.args.params.now c.args.trace.now c.in-Some.gap c.standing.ensures.sane c.requires.none (sym c.first_gap.ensures ∙ c.in-Some.is)

pub verdict-requires : goal.verdict-requires
verdict-requires c = some_added c.args.params.now c.args.trace.now c.args.gauge.now c.standing.ensures.trace c.requires.holds

pub returns-in-None-clause-answer : goal.returns-in-None-clause-answer
returns-in-None-clause-answer c =
    verdict_told c.args.params.now c.args.trace.now c.args.gauge.now c.verdict.result c.standing.ensures.sane c.requires.none (sym c.first_gap.ensures ∙ c.in-None.is) c.requires.holds c.verdict.ensures.synced c.verdict.ensures.peak
    c.verdict.ensures.macrotick

pub returns-in-None-clause-precise : goal.returns-in-None-clause-precise
returns-in-None-clause-precise c =
    let is : IsVerdict c.args.params.now c.args.trace.now c.verdict.result =
    verdict_told c.args.params.now c.args.trace.now c.args.gauge.now c.verdict.result c.standing.ensures.sane c.requires.none (sym c.first_gap.ensures ∙ c.in-None.is) c.requires.holds c.verdict.ensures.synced c.verdict.ensures.peak
    c.verdict.ensures.macrotick in
    precision_told c.args.params.now c.args.trace.now c.verdict.result c.standing.ensures.sane c.standing.ensures.trace c.requires.fits is
