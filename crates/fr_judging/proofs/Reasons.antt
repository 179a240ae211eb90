-- A double cycle that is not judged, and is not hidden, has numbers: what is seen of it; they are what keeps it from being judged.
use Rattle.std.proofs.Common.{◌≡◌, ℕ, Bool, true, false, List, Option, Some, None, is_none, is_some, refl, sym, ap}
use Rattle.std.specs.Prelude.{◌&&◌, if◌then◌else◌}
use Rattle.std.specs.Option.{option_or}
use Rattle.fr_bound.specs.Judged.{all_but_first_hold, met_with}
use Rattle.fr_bound.specs.SharpSpreads.{sharply_near_in}
use Rattle.fr_bound.specs.declared.judging.Heard.{Heard}
use Rattle.fr_bound.specs.declared.judging.Known.{Known}
use Rattle.fr_cluster.specs.Values.{Values}
use Rattle.fr_log.specs.View.{LogView}
use Rattle.fr_course.specs.Scales.{Scale}
use Rattle.fr_sightings.specs.declared.sender.Sender.{Sender}
use Rattle.fr_sightings.specs.declared.sighting.Sighting.{Sighting}
use Rattle.fr_observe.specs.Faults.{stated_flutter}
use Rattle.fr_observe.specs.declared.fault.Fault.{Fault}
use Rattle.fr_judging.specs.Knowing.{is_judged_by, judged_met, known_as_stated, known_by, known_seen, standing_of, standing_with, unfit, unjudged_by}
use Rattle.fr_judging.specs.Obstacles.{faulty, first_unseen, of_several}
use Rattle.fr_judging.specs.Reasons.{IsJudgedOrTold, ReasonsAreOfUnjudged}
use Rattle.fr_judging.specs.declared.knowing.Standing.{Standing}
use Rattle.fr_judging.specs.declared.obstacle.Obstacle.{Obstacle}
use Rattle.fr_judging.specs.declared.obstacle.ObstacleKind.TheVariants as obstacle

module _ (p : Values) (l : LogView) (double : ℕ) where
  -- numbers that do not fit are a reason
  unfit_tells : (met : Known) → is_none (unfit p l double (Some met)) ≡ false
  unfit_tells met = by (all_but_first_hold (stated_flutter p l) (sharply_near_in p met.spread) p)
    where
      by : (b : Bool) → is_none (if b then of_several obstacle.Drift double else of_several obstacle.Reach double) ≡ false
      by true = refl
      by false = refl

  told_by : (judged : Bool) (hidden : Option Obstacle) (met : Option Known) → (hidden ≡ None → is_some met ≡ true)
      → is_none (unjudged_by judged p l double hidden met) ≡ judged
  told_by true hidden met seen = refl
  told_by false (Some why) met seen = refl
  told_by false None None seen = absurd (cc (seen refl))
  told_by false None (Some met) seen = unfit_tells met

  -- those of a judged one are there
  numbers_by : (met : Option Known) (judged : Bool) → is_judged_by p l met ≡ judged → is_some (if judged then met else None) ≡ judged
  numbers_by met false is = refl
  numbers_by None true is = absurd (cc is)
  numbers_by (Some met) true is = refl

  stands_by : (what : Heard) (hidden : Option Obstacle) (known met : Option Known) → (hidden ≡ None → is_some met ≡ true)
      → IsJudgedOrTold (standing_with p l double what hidden known met)
  stands_by what hidden known met seen =
      record {
        reason = told_by (is_judged_by p l met) hidden met seen;
        numbers = numbers_by met (is_judged_by p l met) refl;
      }

met_some : (known seen : Option Known) → is_some seen ≡ true → is_some (met_with known seen) ≡ true
met_some None seen is = is
met_some (Some known) None is = refl
met_some (Some known) (Some seen) is = refl

-- where nothing hides it, it is seen
seen_by : (unseen : Option Obstacle) (told : Option Fault) (by : Known) → option_or unseen (faulty told) ≡ None
    → is_some (if is_none told && is_none unseen then Some by else None) ≡ true
seen_by None None by is = refl
seen_by None (Some fault) by is = absurd (cc is)
seen_by (Some why) told by is = absurd (cc is)

unhidden_is_seen : (p : Values) (scale : Scale) (l : LogView) (here : List Sighting) (double : ℕ) (senders : List Sender) (told : Option Fault)
    → option_or (first_unseen l here double p.nodes) (faulty told) ≡ None → is_some (known_seen p scale l here double senders told) ≡ true
unfolding known_seen
unhidden_is_seen p scale l here double senders told is = seen_by (first_unseen l here double p.nodes) told (known_by p scale senders) is

pub reasons_are_of_unjudged_lem : ReasonsAreOfUnjudged
unfolding standing_of
reasons_are_of_unjudged_lem p scale l here double senders None known told = record { reason = refl; numbers = refl }
reasons_are_of_unjudged_lem p scale l here double senders (Some what) known told =
    let earlier : Option Known = met_with known (known_as_stated p l what double) in
    stands_by p l double what (option_or (first_unseen l here double p.nodes) (faulty told)) earlier
    (met_with earlier (known_seen p scale l here double senders told))
    (λ unhidden. met_some earlier (known_seen p scale l here double senders told) (unhidden_is_seen p scale l here double senders told unhidden))
