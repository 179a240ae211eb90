use Rattle.std.proofs.Common.{◌≡◌, drop}
use Rattle.std.specs.Prelude.{max}
use Rattle.fr_judging.specs.Knowing.{most_beyond}
use Rattle.fr_judging.proofs.standings.most_beyond.Given as goal

-- that of all is that of those so far or of the others
abbrev pub invariant-loop-sender : goal.invariant-loop-sender
invariant-loop-sender l = max l.most (most_beyond l.params l.scale (drop l.sender-index l.senders)) ≡ most_beyond l.params l.scale l.senders
