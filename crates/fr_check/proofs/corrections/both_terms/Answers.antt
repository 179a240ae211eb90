use Rattle.std.proofs.Common.{subst, sym}
use Rattle.fr_verdict.specs.Sound.{AreSoundDevs}
use Rattle.fr_check.proofs.corrections.both_terms.Goals as goal

pub terms_of-requires-clause-evens : goal.terms_of-requires-clause-evens
terms_of-requires-clause-evens c = c.latest_devs-evens.ensures.sound c.args.params.now c.requires.behind

pub terms_of-requires-clause-odds : goal.terms_of-requires-clause-odds
terms_of-requires-clause-odds c = subst (AreSoundDevs c.args.params.now) (sym c.deref.ensures.value) c.requires.cycle.devs
