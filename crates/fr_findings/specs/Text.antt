-- What a log tells of a cluster's clocks, as a text: for each double cycle its rows and its faults, then what holds of the
-- whole log.
use Rattle.std.specs.Prelude.{◌≡◌, ℕ, ◌/◌, Bool, true, false, All, List, [], ◌∷◌, ◌++◌, codes, Option, Some, None, if◌then◌else◌}
use Rattle.std.specs.Fmt.{decimal, signed_decimal}
use Rattle.fr_cluster.specs.Values.{Values}
use Rattle.fr_log.specs.View.{LogView}
use Rattle.fr_findings.specs.Census.{census_text}
use Rattle.fr_observe.specs.Faults.{fault_cycle, fault_node, fault_word, stated_flutter}
use Rattle.fr_judging.specs.Obstacles.{obstacle_word}
use Rattle.fr_findings.specs.Counting.{cycles_told, log_row}
use Rattle.fr_observe.specs.Observing.{known_count, precision_row, row, seen_doubles}
use Rattle.fr_sightings.specs.Ranges.{AreLate, DoublesAscend}
use Rattle.fr_sightings.specs.Sightings.{IsSighting, OffendingFrames, SightingsView, offending_frames_of, sightings_of, tally_of}
use Rattle.fr_sightings.specs.Sure.{are_numbers_sure}
use Rattle.fr_findings.specs.Verdict.{Basis, basis_with, log_progress, no_progress, or_none_seen, told_of_doubles, verdict_by}
use Rattle.fr_judging.specs.Hearing.{log_heard}
use Rattle.fr_findings.specs.declared.progress.Progress.{Progress}
use Rattle.fr_findings.specs.declared.progress.Reach.{Reach}
use Rattle.fr_sightings.specs.declared.sighting.Sighting.{Sighting}
use Rattle.fr_sightings.specs.declared.sighting.Tally.{Tally}
use Rattle.fr_judging.specs.declared.obstacle.Obstacle.{Obstacle}
use Rattle.fr_findings.specs.declared.verdict.Verdict.{Verdict}
use Rattle.fr_findings.specs.declared.verdict.Verdict.TheVariants as verdict

-- whether it is sure that frames come in time: where it is not, that is a premise of what the log tells
abbrev pub sure_word : Bool → List ℕ
sure_word true = codes "sure"
sure_word false = codes "premise"

abbrev pub numbers_row : Bool → List ℕ
numbers_row sure = row (codes "numbers") (sure_word sure ∷ [] ∷ [] ∷ [] ∷ [] ∷ [] ∷ [] ∷ [])

-- the first double cycle that is judged, how many of all are, and, where one is not, why the one that came farthest is not
abbrev pub first_judged : Option Reach → Option ℕ
first_judged None = None
first_judged (Some span) = Some (span.from / 2)

abbrev pub sync_word : Option ℕ → List ℕ
sync_word None = codes "open"
sync_word (Some first) = codes "judged"

abbrev pub why_unjudged : Option ℕ → Option Obstacle → Option Obstacle
why_unjudged None why = Some (or_none_seen why)
why_unjudged (Some first) why = why

abbrev pub why_word : Option Obstacle → List ℕ
why_word None = codes "-"
why_word (Some why) = obstacle_word why.kind

abbrev pub why_cycle : Option Obstacle → Option ℕ
why_cycle None = None
why_cycle (Some why) = why.cycle

abbrev pub why_node : Option Obstacle → Option ℕ
why_node None = None
why_node (Some why) = why.node

abbrev pub sync_fields : Option ℕ → ℕ → ℕ → Option Obstacle → List ℕ
sync_fields first judged doubles why =
    row (codes "sync")
    (
    known_count first ∷ sync_word first ∷ decimal judged ∷ decimal doubles ∷ why_word why ∷ known_count (why_cycle why)
    ∷ known_count (why_node why) ∷ []
    )

abbrev pub sync_row : Progress → List ℕ
sync_row progress =
    sync_fields (first_judged progress.judged.span) progress.judged.doubles progress.doubles
    (why_unjudged (first_judged progress.judged.span) progress.obstacle)

abbrev pub verdict_row : Verdict → List ℕ
verdict_row (verdict.No fault) =
    row (codes "verdict")
    (codes "no" ∷ decimal (fault_cycle fault) ∷ fault_word fault ∷ known_count (fault_node fault) ∷ [] ∷ [] ∷ [] ∷ [])
verdict_row (verdict.Over first count) =
    row (codes "verdict")
    (codes "over" ∷ decimal first.cycle ∷ signed_decimal first.low ∷ decimal count ∷ [] ∷ [] ∷ [] ∷ [])
verdict_row (verdict.Open why) =
    row (codes "verdict")
    (codes "open" ∷ obstacle_word why.kind ∷ known_count why.cycle ∷ known_count why.node ∷ [] ∷ [] ∷ [] ∷ [])
verdict_row (verdict.Within reach) =
    row (codes "verdict") (codes "within" ∷ decimal reach.from ∷ decimal reach.to ∷ [] ∷ [] ∷ [] ∷ [] ∷ [])
verdict_row (verdict.Partly part) =
    row (codes "verdict")
    (
    codes "partly" ∷ decimal part.span.from ∷ decimal part.span.to ∷ decimal part.within ∷ decimal part.neither
    ∷ decimal part.judged ∷ decimal part.doubles ∷ []
    )

-- what holds of the whole log, behind the rows of its senders
unfoldable pub end_told : List Sighting → Tally → Bool → Progress → List ℕ
end_told seen tally sure progress =
    log_row tally ++ numbers_row sure ++ sync_row progress ++ cycles_told seen progress.counts ++ verdict_row (verdict_by progress)

-- all behind the precision
unfoldable pub all_told : Basis → List Sighting → OffendingFrames → Tally → List ℕ
all_told b seen offending tally =
    told_of_doubles b seen offending no_progress (seen_doubles seen)
    ++ (census_text b.params b.log seen
    ++ end_told seen tally (are_numbers_sure b.params b.log) (log_progress b seen offending))

unfoldable pub whole_told : Basis → List Sighting → OffendingFrames → Tally → List ℕ
whole_told b seen offending tally =
    precision_row b.precision (stated_flutter b.params b.log) b.log.lost ++ all_told b seen offending tally

-- the text of a log, by its sightings, its offending frames, and what became of its entries
abbrev pub text_with : Values → LogView → List Sighting → OffendingFrames → Tally → List ℕ
text_with p l seen offending tally = whole_told (basis_with p l seen (log_heard p l)) seen offending tally

unfoldable pub observe_text : Values → LogView → List ℕ
observe_text p l = text_with p l (sightings_of p l) (offending_frames_of p l) (tally_of p l)

-- the sightings of a log, its offending frames, and what became of its entries, as they are gathered
pub record AreGathered (p : Values) (l : LogView) (seen : SightingsView) : Type 0 where
  pub list : seen.list ≡ sightings_of p l
  pub offending : seen.offending ≡ offending_frames_of p l
  pub tally : seen.tally ≡ tally_of p l
  pub proper : All (IsSighting p l) seen.list
  pub ascend : DoublesAscend seen.list
  pub late : AreLate l seen.offending.untimely
  pub irregular : AreLate l seen.offending.irregular
