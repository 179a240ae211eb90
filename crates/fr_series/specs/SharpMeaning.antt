-- What the figures of a sharper series mean, as facts about the files and about the cycles of the run, beside the search for them.
use Rattle.std.specs.Prelude.{◌≡◌, ◌≢◌, ◌⊎◌, ℕ, ◌<◌, ◌≤◌, ℤ, pos, ◌<ℤ◌, ◌≤ℤ◌, Bool, true, length, Option, Some, None, unwrap_or}
use Rattle.fr_cluster.specs.Values.{Values, amount}
use Rattle.fr_cluster.specs.declared.names.ParamName.TheVariants as name
use Rattle.fr_coverage.specs.Coverage.{some_join}
use Rattle.fr_coverage.specs.Flutter.{flutter_from, fluttering_from, IsFlutterOf, TellsFluttering}
use Rattle.fr_coverage.specs.Order.{IsFirstGapFrom}
use Rattle.fr_coverage.specs.declared.gap.Gap.{Gap}
use Rattle.fr_drift.specs.Questions.{doubles_of}
use Rattle.fr_drift.specs.View.{DriftView}
use Rattle.fr_script.specs.View.{ScriptView}
use Rattle.fr_skew.specs.declared.peak.Peak.{Peak}
use Rattle.fr_time.specs.Cycles.{even_cycle}
use Rattle.fr_history.specs.Cycles.{Cycles, told_of}
use Rattle.fr_history.specs.History.{History}
use Rattle.fr_history.specs.Skew.{IsEarlierPlace, skew_at}
use Rattle.fr_bound.specs.SharpBounds.{sharp_near, sharp_precision}
use Rattle.fr_bound.specs.SharpChecks.{FirstSharpFailing, SharpChecksHold}
use Rattle.fr_promise.specs.SharpJoining.{FirstSharpJoinFailing, SharpJoinChecksHold}
use Rattle.fr_sharp.specs.SharpStatement.{has_arbitrary}
use Rattle.fr_promise.specs.SharpTested.{IsFirstSharpSyncBy, IsUnfollowedSharpSyncAt}
use Rattle.fr_series.specs.Basis.{asked_from, sharp_figures_of}
use Rattle.fr_sharp.specs.SharpCovered.{failed_sharp, failed_sharp_join, first_sharp_gap, IsCoveredSharply}
use Rattle.fr_series.specs.SharpLosses.{TellsLosses}
use Rattle.fr_series.specs.declared.tally.SharpFigures.{SharpFigures}

-- ---- why a run is not sharply covered

-- of the sharper checks from 2 to 5 the one with the least number fails, with both its sides
pub record IsSharpCheckGap (p : Values) (d : DriftView) (s : ScriptView) (flutter : ℕ) (gap : Gap) : Type 0 where
  pub number : ℕ
  pub failing : FirstSharpFailing number (has_arbitrary p s) flutter p
  pub told : gap ≡ failed_sharp (has_arbitrary p s) p flutter number

-- these hold, a correct node joins, and of the sharper checks from 6 to 9 the one with the least number fails, with both its sides
pub record IsSharpJoinGap (p : Values) (d : DriftView) (s : ScriptView) (flutter : ℕ) (gap : Gap) : Type 0 where
  pub checks : SharpChecksHold flutter (sharp_near (has_arbitrary p s) p flutter) p
  pub joins : some_join p s ≡ true
  pub number : ℕ
  pub failing : FirstSharpJoinFailing number (has_arbitrary p s) flutter p
  pub told : gap ≡ failed_sharp_join (has_arbitrary p s) p flutter number

-- the checks that are asked hold, and it is the first gap of the run from a double cycle on
pub record IsSharpRunGap (p : Values) (d : DriftView) (s : ScriptView) (from flutter : ℕ) (gap : Gap) : Type 0 where
  pub checks : SharpChecksHold flutter (sharp_near (has_arbitrary p s) p flutter) p
  pub to_join : some_join p s ≡ true → SharpJoinChecksHold (has_arbitrary p s) flutter p
  pub first : IsFirstGapFrom p d s from gap

-- a check fails, one of nodes that join does where one does, or the run itself has a gap
abbrev pub IsFirstSharpGap : Values → DriftView → ScriptView → ℕ → ℕ → Gap → Type 0
IsFirstSharpGap p d s from flutter gap =
    IsSharpCheckGap p d s flutter gap ⊎ IsSharpJoinGap p d s flutter gap ⊎ IsSharpRunGap p d s from flutter gap

-- what is said where a gap is named, and where none is
abbrev pub IsSharpGapFound : Values → DriftView → ScriptView → ℕ → ℕ → Option Gap → Type 0
IsSharpGapFound p d s from flutter None = IsCoveredSharply p d s from flutter
IsSharpGapFound p d s from flutter (Some gap) = IsFirstSharpGap p d s from flutter gap

-- ---- sharp sync

-- what is said where a double cycle in sharp sync is named, and where none is: one in which no node follows, by the numbers for the
-- flutter from it on
abbrev pub IsSharpSyncFound : Bool → Values → (ℕ → ℕ) → Cycles → Option ℕ → Type 0
IsSharpSyncFound beside p flutter h None = (double : ℕ) → IsUnfollowedSharpSyncAt beside p (flutter double) h double → ⊥
IsSharpSyncFound beside p flutter h (Some double) = IsFirstSharpSyncBy beside p flutter h double

-- ---- the skew since then

-- the greatest skew of the cycles of a history from one on, over all their macroticks, and the first place at which it occurs
pub record IsGreatestSkewFrom (p : Values) (h : History) (from : ℕ) (place : Peak) : Type 0 where
  pub cycle_from : from ≤ place.cycle
  pub cycle_in : place.cycle < length h
  pub macrotick_in : place.macrotick < amount p name.gMacroPerCycle
  pub reached : skew_at p h place.cycle place.macrotick ≡ place.skew
  pub greatest :
      (n m : ℕ) → from ≤ n → n < length h → m < amount p name.gMacroPerCycle → skew_at p h n m ≤ℤ place.skew
  pub first :
      (n m : ℕ) → from ≤ n → m < amount p name.gMacroPerCycle → IsEarlierPlace n m place.cycle place.macrotick
      → skew_at p h n m ≢ place.skew

-- the first place of the cycles of a history from one on at which the skew is above a limit, with the skew there
pub record IsFirstSkewAbove (p : Values) (h : History) (from : ℕ) (limit : ℤ) (place : Peak) : Type 0 where
  pub cycle_from : from ≤ place.cycle
  pub cycle_in : place.cycle < length h
  pub macrotick_in : place.macrotick < amount p name.gMacroPerCycle
  pub reached : skew_at p h place.cycle place.macrotick ≡ place.skew
  pub above : limit <ℤ place.skew
  pub first :
      (n m : ℕ) → from ≤ n → m < amount p name.gMacroPerCycle → IsEarlierPlace n m place.cycle place.macrotick
      → skew_at p h n m ≤ℤ limit

-- what is said of the greatest skew since a double cycle: it is named where that one is
abbrev pub IsGreatestSince : Values → History → Option ℕ → Option Peak → Type 0
IsGreatestSince p h None greatest = greatest ≡ None
IsGreatestSince p h (Some double) None = ⊥
IsGreatestSince p h (Some double) (Some place) = IsGreatestSkewFrom p h (even_cycle double) place

-- what is said where a place is named at which the skew since a double cycle is above a limit, and where none is: then it is
-- nowhere above
abbrev pub IsAboveSince : Values → History → ℤ → Option ℕ → Option Peak → Type 0
IsAboveSince p h limit None above = above ≡ None
IsAboveSince p h limit (Some double) None =
    (n m : ℕ) → even_cycle double ≤ n → n < length h → m < amount p name.gMacroPerCycle → skew_at p h n m ≤ℤ limit
IsAboveSince p h limit (Some double) (Some place) = IsFirstSkewAbove p h (even_cycle double) limit place

-- ---- all of them

-- what the figures of sharp sync mean: the first double cycle in which no node follows, the greatest skew since then with its first
-- place, and the first place at which it is above the sharper precision for the flutter from there on
pub record AreSharpFiguresOf (p : Values) (d : DriftView) (s : ScriptView) (h : Cycles) (figures : SharpFigures) : Type 0 where
  pub synced : IsSharpSyncFound (has_arbitrary p s) p (flutter_from p d s) h figures.synced
  pub greatest : IsGreatestSince p (told_of h) figures.synced figures.greatest
  pub above :
      IsAboveSince p (told_of h) (pos (sharp_precision (has_arbitrary p s) p (flutter_from p d s (unwrap_or figures.synced 0))))
      figures.synced figures.above

-- what a sharper series tells of a run from its first double cycle in sharp sync on, and of all of it where there is none: its flutter
-- with the place, why it is not sharply covered, the figures of sharp sync, and what it loses; an accepted drift file has one double
-- cycle or more
pub record AreSharpFigures (params : Values) (drift : DriftView) (script : ScriptView) (h : Cycles) : Type 0 where
  pub flutter : IsFlutterOf params drift script (asked_from params drift script h) (flutter_from params drift script (asked_from params drift script h))
  pub fluttering :
      TellsFluttering params drift script (asked_from params drift script h)
      (fluttering_from params drift script (asked_from params drift script h))
  pub gap :
      IsSharpGapFound params drift script (asked_from params drift script h)
      (flutter_from params drift script (asked_from params drift script h))
      (first_sharp_gap params drift script (asked_from params drift script h) (flutter_from params drift script (asked_from params drift script h)))
  pub sharp : AreSharpFiguresOf params drift script h (sharp_figures_of params drift script h)
  pub losses : 1 ≤ doubles_of drift → TellsLosses params drift script (asked_from params drift script h) h
