-- What holds of the limits of skews.
use Rattle.std.specs.Prelude.{◌≡◌, List}
use Rattle.fr_course.specs.Scales.{Scale}
use Rattle.fr_sightings.specs.declared.sender.Sender.{Sender}
use Rattle.fr_observe.specs.Observing.{even_high, even_low, odd_high, odd_low}
use Rattle.fr_observe.specs.declared.skews.Skews.{Skews}

-- these are the limits of the skew of senders
pub record AreSkews (scale : Scale) (senders : List Sender) (skews : Skews) : Type 0 where
  pub even_low : skews.even_low ≡ even_low scale senders
  pub even_high : skews.even_high ≡ even_high scale senders
  pub odd_low : skews.odd_low ≡ odd_low scale senders
  pub odd_high : skews.odd_high ≡ odd_high scale senders
