use Rattle.std.proofs.Common.{subst, sym}
use Rattle.fr_verdict.specs.Sound.{AreSoundDevs}
use Rattle.fr_check.proofs.past.latest_devs.Goals as goal

pub returns-in-Some-clause-sound : goal.returns-in-Some-clause-sound
returns-in-Some-clause-sound c = λ p sound. subst (AreSoundDevs p) (sym c.as_slice.ensures.value) (c.in-Some.ensures.last p sound).devs
