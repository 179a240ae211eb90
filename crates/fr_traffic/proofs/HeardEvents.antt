-- What comes of a frame by what becomes of it.
use Rattle.std.proofs.Common.{◌≡◌, true, false, not, ap, arith}
use Rattle.fr_base.specs.Event.{Event}
use Rattle.fr_base.specs.Event as event
use Rattle.fr_coverage.specs.Links.{is_regular}
use Rattle.fr_traffic.specs.Traffic.{comes}
use Rattle.fr_runs.specs.SteadyRuns.{is_silent}

pub regular_of : (e : Event) → is_regular e ≡ true → e ≡ event.Regular
regular_of e is = grind arith

pub may_come : (e : Event) → is_silent e ≡ false → comes false e ≡ true
may_come e is = ap not is
