-- The report of the run that accepted files decide.
use Rattle.std.specs.Prelude.{◌≡◌, ℕ, ◌*◌, List, length, Option, Some, None}
use Rattle.fr_cluster.specs.Values.{Values}
use Rattle.fr_coverage.specs.Coverage.{first_gap}
use Rattle.fr_coverage.specs.Order.{HasNoGap, IsFirstGap}
use Rattle.fr_coverage.specs.declared.gap.Gap.{Gap}
use Rattle.fr_drift.specs.Questions.{doubles_of}
use Rattle.fr_drift.specs.View.{DriftView}
use Rattle.fr_script.specs.View.{ScriptView}
use Rattle.fr_history.specs.History.{History}
use Rattle.fr_history.specs.Skew.{IsGreatestSkew, greatest_skew_of}
use Rattle.fr_skew.specs.declared.peak.Peak.{Peak}
use Rattle.fr_history.specs.Cycles.{Cycles, told_of}
use Rattle.fr_history.specs.Next.{cycles_of}
use Rattle.fr_history.specs.Unfollowed.{IsFirstUnfollowedSync, IsUnfollowedSyncAt, first_unfollowed_sync_of}
use Rattle.fr_lines.specs.Text.{report_of}
use Rattle.fr_coverage.specs.Decided.{setting_of}
use Rattle.fr_promise.specs.Statement.{IsRunOf, KeepsPrecision}

-- the report, by the first gap of the run and by all its cycles
abbrev pub run_text : Values → DriftView → ScriptView → List ℕ
run_text params drift script =
    report_of (setting_of params drift script) (first_gap params drift script)
    (cycles_of (setting_of params drift script) (2 * doubles_of drift))

-- what is said where a gap is named, and where none is
abbrev pub IsGapFound : Values → DriftView → ScriptView → Option Gap → Type 0
IsGapFound params drift script None = HasNoGap params drift script
IsGapFound params drift script (Some gap) = IsFirstGap params drift script gap

-- what is said where a double cycle in sync is named, and where none is: one in which no node follows
abbrev pub IsSyncFound : Values → Cycles → Option ℕ → Type 0
IsSyncFound params h None = (double : ℕ) → IsUnfollowedSyncAt params h double → ⊥
IsSyncFound params h (Some double) = IsFirstUnfollowedSync params h double

-- what is said where a skew and its place are named, and where none is
abbrev pub IsSkewFound : Values → History → Option Peak → Type 0
IsSkewFound params h None = length h ≡ 0
IsSkewFound params h (Some place) = IsGreatestSkew params h place.skew place.cycle place.macrotick

-- what the figures of the report mean: the gap, the first double cycle in sync in which no node follows, the greatest skew
-- with its first place
pub record AreFigures (params : Values) (drift : DriftView) (script : ScriptView) (h : Cycles) : Type 0 where
  pub gap : IsGapFound params drift script (first_gap params drift script)
  pub synced : IsSyncFound params h (first_unfollowed_sync_of params h)
  pub greatest : IsSkewFound params (told_of h) (greatest_skew_of params (told_of h))

-- a text is the report of the run that the files decide. Where they have no gap, the run keeps its precision from its first double
-- cycle in sync on in which no node follows
pub record IsRunText (params : Values) (drift : DriftView) (script : ScriptView) (text : List ℕ) : Type 0 where
  pub cycles : Cycles
  pub run : IsRunOf (setting_of params drift script) cycles
  pub shown : text ≡ report_of (setting_of params drift script) (first_gap params drift script) cycles
  pub keeps :
      HasNoGap params drift script → (double : ℕ) → IsFirstUnfollowedSync params cycles double
      → KeepsPrecision (setting_of params drift script) cycles double
  pub figures : AreFigures params drift script cycles
