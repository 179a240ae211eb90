use Rattle.std.proofs.Common.{◌≡◌, true}
use Rattle.fr_sharp.specs.MeetingCosts.{may_miss}
use Rattle.fr_sharp.proofs.meeting_costs.most_missed.Given as goal

-- so many may be missed
abbrev pub invariant-loop-missed : goal.invariant-loop-missed
invariant-loop-missed l = may_miss l.senders l.missed ≡ true
