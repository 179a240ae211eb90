use Rattle.std.proofs.Common.{drop}
use Rattle.fr_course.specs.Computed.{measuring_of}
use Rattle.fr_observe.specs.Faults.{stated_flutter}
use Rattle.fr_judging.specs.Zeros.{OthersMayBeZero}
use Rattle.fr_judging.proofs.zeros.others_may_be_0.Given as goal

-- what is so of those that are left is so of all
abbrev pub invariant-loop-other : goal.invariant-loop-other
invariant-loop-other l =
    OthersMayBeZero l.what l.scene.scale.now (measuring_of l.scene.params.now (stated_flutter l.scene.params.now l.scene.log.now)) l.sender (drop l.other-index l.scene.senders.now)
    → OthersMayBeZero l.what l.scene.scale.now (measuring_of l.scene.params.now (stated_flutter l.scene.params.now l.scene.log.now)) l.sender l.scene.senders.now
