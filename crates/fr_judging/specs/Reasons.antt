-- The law of reasons: a double cycle has a reason why it is not judged exactly where it is not.
use Rattle.std.specs.Prelude.{◌≡◌, ℕ, List, Option, is_none, is_some}
use Rattle.fr_bound.specs.declared.judging.Heard.{Heard}
use Rattle.fr_bound.specs.declared.judging.Known.{Known}
use Rattle.fr_cluster.specs.Values.{Values}
use Rattle.fr_log.specs.View.{LogView}
use Rattle.fr_course.specs.Scales.{Scale}
use Rattle.fr_sightings.specs.declared.sender.Sender.{Sender}
use Rattle.fr_sightings.specs.declared.sighting.Sighting.{Sighting}
use Rattle.fr_observe.specs.declared.fault.Fault.{Fault}
use Rattle.fr_judging.specs.Knowing.{judged_met, standing_of}
use Rattle.fr_judging.specs.declared.knowing.Standing.{Standing}

-- it is judged where it has no reason, and there alone, and where it is, it is by numbers
pub record IsJudgedOrTold (st : Standing) : Type 0 where
  pub reason : is_none st.obstacle ≡ st.is_judged
  pub numbers : is_some (judged_met st) ≡ st.is_judged

abbrev pub ReasonsAreOfUnjudged : Type 0
ReasonsAreOfUnjudged =
    (p : Values) (scale : Scale) (l : LogView) (here : List Sighting) (double : ℕ) (senders : List Sender) (heard : Option Heard)
    (known : Option Known) (told : Option Fault)
    → IsJudgedOrTold (standing_of p scale l here double senders heard known told)
