-- What functions pass to each other: what stays the same over a log, and a double cycle.
use Rattle.std.specs.Prelude.{ℕ, ◌+◌, ◌<◌, ◌≤◌, Bool, All, List, [], ◌∷◌, ◌++◌, length, Option}
use Rattle.std.specs.Option.{option_or}
use Rattle.fr_bound.specs.DoubleNumbers.{too_many_doubles}
use Rattle.fr_log.specs.View.{LogView}
use Rattle.fr_observe.specs.Faults.{first_of_faults}
use Rattle.fr_judging.specs.Obstacles.{farther}
use Rattle.fr_observe.specs.Skews.{AreSkews}
use Rattle.fr_findings.specs.Counting.{AreFewCycles, counted}
use Rattle.fr_findings.specs.Verdict.{Basis, DoubleCycle, double_with, judged_by, known_next_told, known_told, own_told, reach_where, standing_told}
use Rattle.fr_findings.specs.declared.ground.Around.{Around}
use Rattle.fr_findings.specs.declared.ground.Double.{Double}
use Rattle.fr_findings.specs.declared.ground.Ground.{Ground}
use Rattle.fr_findings.specs.declared.ground.Offending.{Offending}
use Rattle.fr_findings.specs.declared.progress.OverRow.{OverRow}
use Rattle.fr_findings.specs.declared.progress.Progress.{Progress}
use Rattle.fr_findings.specs.declared.progress.Reach.{Reach}
use Rattle.fr_observe.specs.declared.says.Says.{Says}
use Rattle.fr_observe.specs.declared.scene.Scene.{Scene}
use Rattle.fr_sightings.specs.Ranges.{AreLogStamps, AreNumbered, AreSeenFrom, DoublesAscend, IsProperSender}
use Rattle.fr_sightings.specs.Sightings.{OffendingFrames}
use Rattle.fr_sightings.specs.declared.sighting.Sighting.{Sighting}

abbrev pub basis_in : Ground → Basis
basis_in g =
    record {
      precision = g.precision;
      scale = g.scale.now;
      params = g.params.now;
      log = g.log.now;
      span = g.span;
      heard = g.heard;
    }

abbrev pub offending_given : Offending → OffendingFrames
offending_given frames = record { untimely = frames.untimely.now; irregular = frames.irregular.now }

abbrev pub double_in : Double → DoubleCycle
double_in d =
    record {
      number = d.number;
      before = d.before.now;
      here = d.here.now;
      offending = offending_given d.offending;
      senders = d.senders.now;
    }

-- what it is looked at with
abbrev pub scene_in : Ground → Double → Scene
scene_in g d =
    record {
      params = g.params;
      scale = g.scale;
      log = g.log;
      span = g.span;
      before = d.before;
      here = d.here;
      number = d.number;
      senders = d.senders;
      skews = d.skews;
    }

abbrev pub double_around : Ground → Around → ℕ → DoubleCycle
double_around g a double = double_with (basis_in g) double a.before.now a.here.now a.next.now (offending_given a.offending)

-- stamps lie within the limits of the log
pub record AreOffending (l : LogView) (frames : OffendingFrames) : Type 0 where
  pub untimely : AreLogStamps l frames.untimely
  pub irregular : AreLogStamps l frames.irregular

pub record IsAround (g : Ground) (a : Around) : Type 0 where
  pub here : AreLogStamps g.log.now a.here.now
  pub next : AreLogStamps g.log.now a.next.now
  pub offending : AreOffending g.log.now (offending_given a.offending)

-- and senders are those of a cluster, with the limits of their skew
pub record IsDouble (g : Ground) (d : Double) : Type 0 where
  pub number : d.number < too_many_doubles
  pub here : AreLogStamps g.log.now d.here.now
  pub offending : AreOffending g.log.now (offending_given d.offending)
  pub few : length d.senders.now ≤ 64
  pub senders : All (IsProperSender g.scale.now) d.senders.now
  pub skews : AreSkews g.scale.now d.senders.now d.skews.now

-- sightings come in the order of their double cycles, and stamps lie within the limits of a log
pub record ComeInOrder (l : LogView) (seen : List Sighting) : Type 0 where
  pub numbered : AreNumbered seen
  pub timed : AreLogStamps l seen
  pub ascend : DoublesAscend seen

-- so do offending frames
pub record OffendInOrder (l : LogView) (frames : OffendingFrames) : Type 0 where
  pub untimely : ComeInOrder l frames.untimely
  pub irregular : ComeInOrder l frames.irregular

-- sightings are walked from a double cycle on
pub record AreWalked (g : Ground) (double : ℕ) (seen : List Sighting) : Type 0 where
  pub timed : AreLogStamps g.log.now seen
  pub ascend : DoublesAscend seen
  pub from : AreSeenFrom double seen

-- ---- what is known behind a double cycle, step by step

abbrev pub with_own : Basis → DoubleCycle → Progress → Progress
with_own b d progress = record progress { first = option_or progress.first (first_of_faults (own_told b d)) }

abbrev pub with_faults : Basis → DoubleCycle → Progress → Progress
with_faults b d progress =
    record progress {
      known = known_next_told b d progress.known;
      first = option_or progress.first (first_of_faults (known_told b d progress.known));
      obstacle = farther progress.obstacle (standing_told b d progress.known).obstacle;
    }

abbrev pub reach_passed : Progress → ℕ → Bool → Says → Says → (Option Reach × Bool)
reach_passed progress double is_judged even odd =
    reach_where is_judged progress.judged.span double even odd (progress.reach, progress.is_ended)

abbrev pub with_both : Progress → ℕ → Bool → Says → Says → (Option Reach × Bool) → Option OverRow → Progress
with_both progress double is_judged even odd reach over =
    record progress {
      counts = counted progress.counts (even ∷ odd ∷ []);
      reach = reach.0;
      is_ended = reach.1;
      over = option_or progress.over over;
      doubles = progress.doubles + 1;
      judged = judged_by is_judged progress.judged double (even ∷ odd ∷ []);
    }

-- no count of it passes a number
pub record CountsFew (most : ℕ) (progress : Progress) : Type 0 where
  pub all : AreFewCycles most progress.counts
  pub judged : AreFewCycles most progress.judged.said
  pub doubles : progress.doubles ≤ most
  pub judged_doubles : progress.judged.doubles ≤ most
