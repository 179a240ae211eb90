use Rattle.std.specs.Prelude.{◌≤◌, ◌-◌, length}
use Rattle.fr_script.specs.Sayings.{AreAfter, AreBefore}
use Rattle.fr_script.proofs.sayings.search.Given as goal

-- the passage stands between both places, if it does
abbrev pub invariant-loop-low : goal.invariant-loop-low
invariant-loop-low l = (l.high ≤ length l.rows) × (AreBefore l.rows l.low l.passage × AreAfter l.rows l.high l.passage)

abbrev pub decreases-loop-low : goal.decreases-loop-low
decreases-loop-low l = l.high - l.low
