-- The law of what the row `sync` and the verdict name: facts of the list of the double cycles of a log, and how they stand.
use Rattle.std.specs.Prelude.{◌≡◌, ℕ, ◌+◌, ◌-◌, ◌*◌, ◌<◌, ◌≤◌, All, List, [], ◌∷◌, ◌++◌, count_by, filter, filter_map, length, map, Option, Some, None, slice_get}
use Rattle.std.specs.List.{flat_map}
use Rattle.std.specs.Option.{option_map}
use Rattle.fr_bound.specs.declared.judging.Known.{Known}
use Rattle.fr_cluster.specs.Values.{Values}
use Rattle.fr_log.specs.View.{LogView}
use Rattle.fr_sightings.specs.Sightings.{OffendingFrames, offending_frames_of, sightings_of}
use Rattle.fr_sightings.specs.declared.sighting.Sighting.{Sighting}
use Rattle.fr_observe.specs.Observing.{both_say, seen_doubles}
use Rattle.fr_observe.specs.declared.says.Says.{Says}
use Rattle.fr_judging.specs.Obstacles.{obstacle_rank}
use Rattle.fr_judging.specs.declared.knowing.Standing.{Standing}
use Rattle.fr_judging.specs.declared.obstacle.Obstacle.{Obstacle}
use Rattle.fr_findings.specs.Counting.{is_open, is_over, is_within}
use Rattle.fr_findings.specs.Text.{sync_fields, sync_row, why_unjudged}
use Rattle.fr_findings.specs.Verdict.{Basis, double_at, known_next_told, log_basis, log_progress, or_none_seen, standing_told, verdict_of}
use Rattle.fr_findings.specs.declared.progress.Reach.{Reach}
use Rattle.fr_findings.specs.declared.verdict.Partly.{Partly}
use Rattle.fr_findings.specs.declared.verdict.Verdict.{Verdict}
use Rattle.fr_findings.specs.declared.verdict.Verdict.TheVariants as verdict

-- ---- the double cycles of a log

-- one of them: how it stands, and what the rows of both of its cycles say
pub record DoubleStands : Type 0 where
  pub number : ℕ
  pub standing : Standing
  pub says : List Says

abbrev pub stands_at : Basis → List Sighting → OffendingFrames → ℕ → Option Known → DoubleStands
stands_at b seen offending double known =
    record {
      number = double;
      standing = standing_told b (double_at b seen offending double) known;
      says = both_say b.precision b.scale (double_at b seen offending double).senders;
    }

-- some of them, one after the other: each by what is known of it from the one before
unfoldable pub standings_from : Basis → List Sighting → OffendingFrames → Option Known → List ℕ → List DoubleStands
standings_from b seen offending known [] = []
standings_from b seen offending known (double ∷ doubles) =
    stands_at b seen offending double known
    ∷ standings_from b seen offending (known_next_told b (double_at b seen offending double) known) doubles

-- of all of a log
unfoldable pub log_standings : Values → LogView → List DoubleStands
log_standings p l =
    standings_from (log_basis p l) (sightings_of p l) (offending_frames_of p l) None (seen_doubles (sightings_of p l))

-- those of them that are judged, and why others are not
abbrev pub judged_among : List DoubleStands → List DoubleStands
judged_among told = filter (λ d. d.standing.is_judged) told

abbrev pub reasons_of : List DoubleStands → List Obstacle
reasons_of told = filter_map (λ d. d.standing.obstacle) told

-- ---- what is named

-- the even cycle of the first of some double cycles and the odd one of the last
abbrev pub reach_between : Option DoubleStands → Option DoubleStands → Option Reach
reach_between None last = None
reach_between (Some first) None = None
reach_between (Some first) (Some last) = Some (record { from = 2 * first.number; to = 2 * last.number + 1 })

abbrev pub reach_of_doubles : List DoubleStands → Option Reach
reach_of_doubles told = reach_between (slice_get told 0) (slice_get told (length told - 1))

-- what the rows of judged double cycles say
abbrev pub judged_say : List DoubleStands → List Says
judged_say told = flat_map (λ d. d.says) (judged_among told)

-- one of some reasons: no other came farther, and none before it as far
pub record IsFarthestOf (reasons : List Obstacle) (why : Obstacle) : Type 0 where
  pub before : List Obstacle
  pub behind : List Obstacle
  pub parts : reasons ≡ before ++ (why ∷ behind)
  pub farther : All (λ other. obstacle_rank other.kind < obstacle_rank why.kind) before
  pub as_far : All (λ other. obstacle_rank other.kind ≤ obstacle_rank why.kind) behind

-- none where there is none
abbrev pub IsFarthest : List Obstacle → Option Obstacle → Type 0
IsFarthest reasons None = reasons ≡ []
IsFarthest reasons (Some why) = IsFarthestOf reasons why

-- ---- the row `sync`

-- it names the first judged double cycle, how many are judged and how many there are, and the reason that came farthest
pub record SyncNames (told : List DoubleStands) (text : List ℕ) : Type 0 where
  pub reason : Option Obstacle
  pub farthest : IsFarthest (reasons_of told) reason
  pub shown :
      text ≡ sync_fields (option_map (λ d. d.number) (slice_get (judged_among told) 0)) (length (judged_among told)) (length told)
      (why_unjudged (option_map (λ d. d.number) (slice_get (judged_among told) 0)) reason)

-- ---- the verdict

-- `partly`: the first judged cycle and the last, how many rows of judged double cycles say what, how many double
-- cycles are judged, and how many there are
pub record PartlyNames (told : List DoubleStands) (part : Partly) : Type 0 where
  pub span : reach_of_doubles (judged_among told) ≡ Some part.span
  pub within : part.within ≡ count_by is_within (judged_say told)
  pub neither : part.neither ≡ count_by is_open (judged_say told)
  pub judged : part.judged ≡ length (judged_among told)
  pub doubles : part.doubles ≡ length told

-- `within`: the first judged cycle and the last but one
abbrev pub WithinNames : List DoubleStands → Reach → Type 0
WithinNames told reach = reach_of_doubles (judged_among told) ≡ Some (record { from = reach.from; to = reach.to + 1 })

-- `open`: none is judged, and why the one that came farthest is not
pub record OpenNames (told : List DoubleStands) (why : Obstacle) : Type 0 where
  pub none : judged_among told ≡ []
  pub reason : Option Obstacle
  pub farthest : IsFarthest (reasons_of told) reason
  pub is : why ≡ or_none_seen reason

-- ---- the laws

-- the list has each double cycle of the log once, in their order, and each is judged or has a reason
pub record AreStandings (p : Values) (l : LogView) (told : List DoubleStands) : Type 0 where
  pub numbers : map (λ d. d.number) told ≡ seen_doubles (sightings_of p l)
  pub each : length (judged_among told) + length (reasons_of told) ≡ length told

abbrev pub StandingsAreTold : Type 0
StandingsAreTold = (p : Values) (l : LogView) → AreStandings p l (log_standings p l)

abbrev pub SyncIsCounted : Type 0
SyncIsCounted =
    (p : Values) (l : LogView)
    → SyncNames (log_standings p l) (sync_row (log_progress (log_basis p l) (sightings_of p l) (offending_frames_of p l)))

abbrev pub PartlyIsCounted : Type 0
PartlyIsCounted =
    (p : Values) (l : LogView) (part : Partly)
    → verdict_of p l ≡ verdict.Partly part → PartlyNames (log_standings p l) part

abbrev pub WithinIsCounted : Type 0
WithinIsCounted =
    (p : Values) (l : LogView) (reach : Reach)
    → verdict_of p l ≡ verdict.Within reach → WithinNames (log_standings p l) reach

abbrev pub OpenIsCounted : Type 0
OpenIsCounted =
    (p : Values) (l : LogView) (why : Obstacle)
    → verdict_of p l ≡ verdict.Open why → OpenNames (log_standings p l) why

-- `over` has how many rows of all double cycles say so, and where it is none of `no` and `over` none does
abbrev pub OverNames : Verdict → ℕ → Type 0
OverNames (verdict.No fault) rows = Unit {0}
OverNames (verdict.Over first count) rows = (count ≡ rows) × (1 ≤ rows)
OverNames (verdict.Open why) rows = rows ≡ 0
OverNames (verdict.Within reach) rows = rows ≡ 0
OverNames (verdict.Partly part) rows = rows ≡ 0

abbrev pub OverIsTold : Type 0
OverIsTold =
    (p : Values) (l : LogView) → OverNames (verdict_of p l) (count_by is_over (flat_map (λ d. d.says) (log_standings p l)))
