-- What a double cycle of a log is looked at with.
use Rattle.std.specs.Prelude.{◌<◌, ◌≤◌, All, length}
use Rattle.fr_bound.specs.DoubleNumbers.{too_many_doubles}
use Rattle.fr_sightings.specs.Ranges.{AreLogStamps, IsProperSender}
use Rattle.fr_observe.specs.Skews.{AreSkews}
use Rattle.fr_observe.specs.declared.scene.Scene.{Scene}

-- its stamps lie within the limits of the log, and its senders are those of a cluster, with the limits of their skew
pub record IsScene (scene : Scene) : Type 0 where
  pub here : AreLogStamps scene.log.now scene.here.now
  pub number : scene.number < too_many_doubles
  pub few : length scene.senders.now ≤ 64
  pub senders : All (IsProperSender scene.scale.now) scene.senders.now
  pub skews : AreSkews scene.scale.now scene.senders.now scene.skews.now
