-- What the checks say of a cluster that nodes join: the room that a node needs that listens and follows.
use Rattle.std.specs.Prelude.{◌≡◌, true, ◌+◌, ◌≤◌, pos}
use Rattle.fr_cluster.specs.Values.{Values}
use Rattle.fr_cluster.specs.Sane.{IsSane}
use Rattle.fr_bound.specs.Bounds.{follower_error, reach_of}
use Rattle.fr_bound.specs.Checks.{holds_of, left_of, right_of}
use Rattle.fr_precision.specs.Offsets.{LimitSuffices}
use Rattle.fr_precision.specs.Reception.{LeavesRoom}

-- the rate limit suffices for a first rate
abbrev pub RateLimitSuffices : Values → Type 0
RateLimitSuffices p = right_of 2 p + follower_error p ≤ left_of 2 p

-- the offset limit suffices for the reach
abbrev pub LimitReaches : Values → Type 0
LimitReaches p = LimitSuffices p (pos (reach_of p))

-- they do where the sixth and the seventh check hold
abbrev pub SixthCheckSuffices : Type 0
SixthCheckSuffices = (p : Values) → holds_of 6 p ≡ true → RateLimitSuffices p

abbrev pub SeventhCheckSuffices : Type 0
SeventhCheckSuffices = (p : Values) → holds_of 7 p ≡ true → LimitReaches p

-- and where the last two hold, there is room in each slot for whoever is within reach
abbrev pub LastChecksSuffice : Type 0
LastChecksSuffice = (p : Values) → IsSane p → holds_of 8 p ≡ true → holds_of 9 p ≡ true → LeavesRoom p (pos (reach_of p))
