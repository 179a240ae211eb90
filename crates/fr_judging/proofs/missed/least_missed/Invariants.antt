use Rattle.std.proofs.Common.{◌≡◌, ◌-◌, is_none, length}
use Rattle.std.specs.List.{find, range_with_len}
use Rattle.fr_judging.specs.Missing.{least_missed, unlike_term}
use Rattle.fr_judging.proofs.missed.least_missed.Given as goal

-- that of those that are left is that of all
abbrev pub invariant-loop-lost : goal.invariant-loop-lost
invariant-loop-lost l =
    find (λ lost. is_none (unlike_term l.term l.scene.params.now l.scene.log.now l.scene.scale.now l.scene.number l.scene.senders.now l.sender lost))
    (range_with_len l.lost (length l.scene.senders.now - l.lost))
    ≡ least_missed l.term l.scene.params.now l.scene.log.now l.scene.scale.now l.scene.number l.scene.senders.now l.sender
