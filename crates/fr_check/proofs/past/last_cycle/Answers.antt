use Rattle.fr_verdict.proofs.Parts.{history_last, history_none, sound_parts}
use Rattle.fr_check.proofs.past.last_cycle.Goals as goal

pub returns-in-None-clause-parts : goal.returns-in-None-clause-parts
returns-in-None-clause-parts c = history_none c.args.cycles.now c.in-None.ensures.cases

pub returns-in-Some-clause-parts : goal.returns-in-Some-clause-parts
returns-in-Some-clause-parts c = history_last c.args.cycles.now c.in-Some.earlier.now c.in-Some.last.now c.in-Some.ensures.cases.0

pub returns-in-Some-clause-last : goal.returns-in-Some-clause-last
returns-in-Some-clause-last c = λ p sound. (sound_parts p c.args.cycles.now c.in-Some.earlier.now c.in-Some.last.now c.in-Some.ensures.cases.0 sound).1

pub returns-in-Some-clause-earlier : goal.returns-in-Some-clause-earlier
returns-in-Some-clause-earlier c = λ p sound. (sound_parts p c.args.cycles.now c.in-Some.earlier.now c.in-Some.last.now c.in-Some.ensures.cases.0 sound).0
