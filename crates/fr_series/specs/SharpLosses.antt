-- What a sharper series tells of what a run loses, and what that means.
use Rattle.std.specs.Prelude.{◌≡◌, ◌↔◌, ◌+◌, ◌-◌, ◌<◌, ◌≤◌, ℕ, pos, Bool, true, false, List, ◌++◌, codes, Option, Some, None, if◌then◌else◌}
use Rattle.std.specs.Fmt.{decimal}
use Rattle.fr_cluster.specs.Values.{Values}
use Rattle.fr_coverage.specs.Coverage.{gap_from, some_join}
use Rattle.fr_coverage.specs.Decided.{setting_of}
use Rattle.fr_coverage.specs.Flutter.{flutter_from}
use Rattle.fr_drift.specs.Questions.{doubles_of}
use Rattle.fr_drift.specs.View.{DriftView}
use Rattle.fr_script.specs.View.{ScriptView}
use Rattle.fr_history.specs.Cycles.{Cycles}
use Rattle.fr_bound.specs.declared.judging.Heard.{Heard}
use Rattle.fr_bound.specs.declared.judging.Heard.TheVariants as heard
use Rattle.fr_bound.specs.SharpBounds.{most_flutter}
use Rattle.fr_sharp.specs.LossSteps.{LossDouble}
use Rattle.fr_sharp.specs.Bearing.{KeepsThrough}
use Rattle.fr_sharp.specs.LossRuns.{is_borne_of, is_through_losses, losses_of, told_apart, told_near, AreLosses, IsThroughLosses, KeepsJoinedAsTold}
use Rattle.fr_promise.specs.SharpTested.{IsUnfollowedSharpSyncAt}
use Rattle.fr_sharp.specs.LossStatement.{spread_since}
use Rattle.fr_traffic.specs.Reaching.{whole_in}
use Rattle.fr_runs.specs.SharpHistories.{IsInSharpSyncAt}
use Rattle.fr_precision.specs.SharpRun.{WalkLastsAfter}
use Rattle.fr_sharp.specs.SharpStatement.{has_arbitrary}
use Rattle.fr_traffic.specs.Traffic.{heard_in, none_lacks, traffic_in}
use Rattle.fr_series.specs.Basis.{basis_of}
use Rattle.fr_series.specs.declared.basis.Basis.{Basis}
use Rattle.fr_series.specs.declared.kept.Kept.{Kept}

-- ---- what a double cycle keeps

-- a number, where the run is covered through losses
abbrev pub bound_of : Bool → ℕ → Option ℕ
bound_of through apart = if through then Some apart else None

-- by what was heard since the first double cycle in sharp sync, if there is one up to it
abbrev pub bound_since : Values → DriftView → ScriptView → Option ℕ → ℕ → Option ℕ
bound_since p d s None double = None
bound_since p d s (Some first) double =
    bound_of (basis_of p d s first).through (told_apart p s first (flutter_from p d s first) double)

-- whether all is heard in a double cycle, what is heard in it, and its number
abbrev pub kept_by : Values → DriftView → ScriptView → Option ℕ → ℕ → Kept
kept_by p d s synced double = record {
  whole = whole_in p s double;
  heard = heard_in (traffic_in p s) double;
  bound = bound_since p d s synced double;
}

-- ---- the same, one double cycle after another

-- from which double cycle on a run is asked, if it is
abbrev pub from_of : Option Basis → Option ℕ
from_of None = None
from_of (Some basis) = Some basis.from

-- what it rests on from there on is held, with how far clocks may lie apart in a double cycle by what was heard since
pub record IsHeldBy (p : Values) (d : DriftView) (s : ScriptView) (double : ℕ) (basis : Basis) (spread : LossDouble) : Type 0 where
  pub is : basis ≡ basis_of p d s basis.from
  pub most : basis.flutter ≤ most_flutter
  pub low : basis.from ≤ double
  pub passed : spread.passed ≡ double - basis.from
  pub apart : spread.spread ≡ spread_since (has_arbitrary p s) p basis.from basis.flutter (heard_in (traffic_in p s)) double

abbrev pub IsHeldSince : Values → DriftView → ScriptView → ℕ → Option Basis → LossDouble → Type 0
IsHeldSince p d s double None spread = Unit {0}
IsHeldSince p d s double (Some basis) spread = IsHeldBy p d s double basis spread

-- ---- the texts

-- whether of any two nodes enough is heard in common, or whatever there is
abbrev pub most_or_any : Heard → List ℕ
most_or_any heard.Clean = codes "all"
most_or_any heard.Meeting = codes "most"
most_or_any heard.Poor = codes "any"

-- the worse of two kinds
abbrev pub worse : Heard → Heard → Heard
worse heard.Clean other = other
worse heard.Meeting heard.Clean = heard.Meeting
worse heard.Meeting heard.Meeting = heard.Meeting
worse heard.Meeting heard.Poor = heard.Poor
worse heard.Poor other = heard.Poor

-- whether all is heard in a double cycle, and else whether of any two nodes enough in common, of offsets and of rates
abbrev pub hearing_text : Kept → List ℕ
hearing_text kept = if kept.whole then codes "all" else most_or_any (worse kept.heard.offsets kept.heard.rates)

-- its number, in ticks; none where the run is not covered through losses
abbrev pub bound_or_none : Option ℕ → List ℕ
bound_or_none None = codes "-"
bound_or_none (Some ticks) = decimal ticks

-- the last double cycle that loses frames, if one does
abbrev pub last_lost_text : Option ℕ → List ℕ
last_lost_text None = codes "-"
last_lost_text (Some double) = decimal double

-- the greatest bound of a double cycle, in ticks, and the first double cycle with it; none where the run is not covered through losses
abbrev pub lost_bound_text : Bool → ℕ → ℕ → List ℕ
lost_bound_text false peak place = codes "-,-"
lost_bound_text true peak place = decimal peak ++ codes "," ++ decimal place

-- in a series: how many double cycles lose frames, the last one, and the greatest bound with its place
abbrev pub lost_text : Basis → List ℕ
lost_text basis =
    codes "lost," ++ decimal basis.lost ++ codes "," ++ last_lost_text basis.last_lost ++ codes ","
    ++ lost_bound_text basis.through basis.peak basis.place

-- ---- what they mean

-- of a run from a double cycle on, with its own flutter: what it loses means what it is called; and a bound is told exactly where it is
-- covered through losses. Where no correct node joins then, from each double cycle in sharp sync on in which no node lacks values and as
-- long as the walk lasts, no macroticks lie further apart than by the number of their double cycle, nor than the greatest of these, no
-- term is cut, none is missing but where a node has no value of its kind, and every correct node is active. Where one does so it is from
-- each double cycle in sharp sync on in which no node follows and as long as first rates last, of nodes with rows; no term is missing,
-- none of a node that follows is cut, no follower is left behind, and whoever listens where its reference's frames come to it joins
pub record TellsLosses (p : Values) (d : DriftView) (s : ScriptView) (from : ℕ) (h : Cycles) : Type 0 where
  pub lost :
      AreLosses (has_arbitrary p s) p from (flutter_from p d s from) (whole_in p s) (heard_in (traffic_in p s)) (is_borne_of p s from (flutter_from p d s from))
      (told_near p s from (flutter_from p d s from)) (doubles_of d) (losses_of p d s from (flutter_from p d s from))
  pub through :
      is_through_losses p s (flutter_from p d s from) (gap_from p d s from) (losses_of p d s from (flutter_from p d s from)) ≡ true
      ↔ IsThroughLosses p d s from (flutter_from p d s from) (losses_of p d s from (flutter_from p d s from)).reach
  pub keeps :
      some_join p s ≡ false → IsThroughLosses p d s from (flutter_from p d s from) (losses_of p d s from (flutter_from p d s from)).reach
      → (double passed : ℕ)
      → from ≤ double → IsInSharpSyncAt (has_arbitrary p s) p (flutter_from p d s from) (pos 0) h double → none_lacks (traffic_in p s) double ≡ true
      → double + passed < doubles_of d → WalkLastsAfter p (flutter_from p d s from) passed
      → KeepsThrough (setting_of p d s) h (double + passed) (told_apart p s from (flutter_from p d s from) (double + passed))
      × KeepsThrough (setting_of p d s) h (double + passed) (losses_of p d s from (flutter_from p d s from)).peak
  pub joined :
      some_join p s ≡ true → IsThroughLosses p d s from (flutter_from p d s from) (losses_of p d s from (flutter_from p d s from)).reach
      → (double : ℕ) → from ≤ double → IsUnfollowedSharpSyncAt (has_arbitrary p s) p (flutter_from p d s from) h double
      → KeepsJoinedAsTold p d s from (flutter_from p d s from) h double
