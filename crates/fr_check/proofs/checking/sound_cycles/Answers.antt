use Rattle.std.proofs.Common.{subst}
use Rattle.fr_cluster.specs.Sane.{IsSane}
use Rattle.fr_check.proofs.Sounded.{cycles_few, sound_each}
use Rattle.fr_check.proofs.checking.sound_cycles.Goals as goal

pub returns-clause-sound : goal.returns-clause-sound
returns-clause-sound c =
    sound_each c.args.params.now c.args.trace.now c.cycles.result.now (subst IsSane c.params.view_is c.params.invariant) c.cycles.ensures.sane c.requires c.cycles.ensures.history

pub returns-clause-few : goal.returns-clause-few
returns-clause-few c = cycles_few c.args.trace.now c.cycles.result.now c.cycles.ensures.sane c.cycles.ensures.history
