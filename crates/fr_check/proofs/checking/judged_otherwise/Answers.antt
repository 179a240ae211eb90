use Rattle.std.proofs.Common.{◌∙◌, sym}
use Rattle.fr_verdict.proofs.Otherwise.{nothing_told, other_gap_told}
use Rattle.fr_check.proofs.Followed.{synced_whole}
use Rattle.fr_check.proofs.checking.judged_otherwise.Goals as goal

pub first_other_gap-requires : goal.first_other_gap-requires
first_other_gap-requires c = c.synced-synced.ensures ∙ c.requires.holds.synced ∙ synced_whole c.args.params.now c.args.trace.now

pub returns-in-Some-clause-refused : goal.returns-in-Some-clause-refused
returns-in-Some-clause-refused c =
    other_gap_told c.args.params.now c.args.trace.now c.in-Some.gap c.standing.ensures.sane c.requires.none (sym c.first_other_gap.ensures ∙ c.in-Some.is)

pub returns-in-None-clause-covered : goal.returns-in-None-clause-covered
returns-in-None-clause-covered c =
    nothing_told c.args.params.now c.args.trace.now c.standing.ensures.sane c.requires.none (sym c.first_other_gap.ensures ∙ c.in-None.is)

pub returns-in-None-clause-synced : goal.returns-in-None-clause-synced
returns-in-None-clause-synced c = c.synced-synced.ensures ∙ c.requires.holds.synced ∙ synced_whole c.args.params.now c.args.trace.now
