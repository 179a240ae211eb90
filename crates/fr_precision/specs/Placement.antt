-- What deviations say: each rate value places the length of a sender's cycle within y1.
use Rattle.std.specs.Prelude.{true, false, ℤ, pos, ◌-ℤ◌, ◌≤ℤ◌}
use Rattle.fr_base.specs.declared.node_row.NodeRow.{NodeRow}
use Rattle.fr_cluster.specs.Values.{Values}
use Rattle.fr_cluster.specs.Sane.{IsSane}
use Rattle.fr_base.specs.Within.{IsWithin}
use Rattle.fr_midpoint.specs.Midpoint.{half_of_sum}
use Rattle.fr_precision.specs.Rows.{HasProperMicro, IsDoubleCycle, IsSteady, Sender}
use Rattle.fr_precision.specs.Instants.{gap_of}
use Rattle.fr_precision.specs.Offsets.{IsDeviation, LimitSuffices}
use Rattle.fr_precision.specs.Rates.{PlacesLength}

-- a node in a double cycle: its rate within the limit, its microtick in its range, and little changed in the odd cycle
pub record IsRegular (p : Values) (even odd : NodeRow) : Type 0 where
  pub double : IsDoubleCycle p even odd
  pub rate_within : IsWithin p.rate_limit even.rate
  pub even_micro : HasProperMicro p even
  pub odd_micro : HasProperMicro p odd
  pub steady : IsSteady p even odd

-- a sender's two deviations on one channel, of which the even one was sent within reach
pub record AreDeviations (p : Values) (reach : ℤ) (sender : Sender) (even odd : NodeRow) (early late : ℤ) : Type 0 where
  pub near : IsWithin reach (gap_of p false sender.action sender.even even)
  pub by_even : IsDeviation p false sender.action even sender.even early
  pub by_odd : IsDeviation p true sender.action odd sender.odd late

-- the rate value of one channel places the length of the sender's odd cycle
abbrev pub DifferencePlaces : Type 0
DifferencePlaces =
    (p : Values) (reach : ℤ) (sender : Sender) (even odd : NodeRow) (early late : ℤ)
    → IsSane p → LimitSuffices p reach → IsRegular p even odd → IsRegular p sender.even sender.odd
    → pos 0 ≤ℤ sender.action → sender.action ≤ℤ p.correction
    → AreDeviations p reach sender even odd early late → PlacesLength p odd sender (late -ℤ early)

-- so does half of the sum of two values that do, as where both channels have one
abbrev pub HalfPlaces : Type 0
HalfPlaces =
    (p : Values) (sender : Sender) (row : NodeRow) (one other : ℤ)
    → IsSane p → HasProperMicro p row → PlacesLength p row sender one → PlacesLength p row sender other
    → PlacesLength p row sender (half_of_sum one other)

-- and so does a receiver's own value, 0
abbrev pub OwnValuePlaces : Type 0
OwnValuePlaces = (p : Values) (sender : Sender) → PlacesLength p sender.odd sender (pos 0)
