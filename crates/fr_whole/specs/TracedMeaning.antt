-- What the figures of a trace by the sharper bounds mean, as facts about the trace, and what is promised of it.
use Rattle.std.specs.Prelude.{◌≡◌, ◌≢◌, ℕ, ◌+◌, ◌<◌, ◌≤◌, pos, Bool, false, [], Option, Some, None, IfSome, if◌then◌else◌}
use Rattle.fr_bound.specs.SharpBounds.{sharp_near, sharp_precision, walk_lasts}
use Rattle.fr_bound.specs.SharpChecks.{sharp_holds_of}
use Rattle.fr_cluster.specs.Values.{Values}
use Rattle.fr_series.specs.SharpMeaning.{IsAboveSince, IsGreatestSince}
use Rattle.fr_trace.specs.Trace.{TraceView}
use Rattle.fr_verdict.specs.Alike.{AreAllAlike, AreSaidFrom}
use Rattle.fr_verdict.specs.SharpTraces.{recorded_flutter, IsRecordedInSharpSync, KeepsSharpClocks, RecordsKeepApart, StaysRecordedInSharpSync, TracedChecksHold}
use Rattle.fr_verdict.specs.Sync.{IsFirstSynced}
use Rattle.fr_whole.specs.TracedFigures.{is_kind_beside}
use Rattle.fr_whole.specs.declared.traced_figures.TracedFigures.{TracedFigures}
use Rattle.fr_whole.specs.declared.traced_figures.TracedKind.{TracedKind}
use Rattle.fr_whole.specs.declared.traced_figures.TracedKind.TheVariants.{Alone, Alike, Beside}

-- ---- sharp sync

-- a double cycle is in sharp sync, with lengths in their range, and not before the first one in sync, from which on all pairs are heard
pub record IsSharpBehindSync (beside : Bool) (p : Values) (t : TraceView) (double : ℕ) : Type 0 where
  pub synced : ℕ
  pub first : IsFirstSynced p t synced
  pub from : synced ≤ double
  pub sharp : IsRecordedInSharpSync beside p (pos 0) t.history double

-- the first one
pub record IsFirstRecordedSharp (beside : Bool) (p : Values) (t : TraceView) (double : ℕ) : Type 0 where
  pub is : IsSharpBehindSync beside p t double
  pub first : (earlier : ℕ) → earlier < double → IsSharpBehindSync beside p t earlier → ⊥

-- what is said where one is named, and where none is
abbrev pub IsRecordedSharpFound : Bool → Values → TraceView → Option ℕ → Type 0
IsRecordedSharpFound beside p t None = (double : ℕ) → IsSharpBehindSync beside p t double → ⊥
IsRecordedSharpFound beside p t (Some double) = IsFirstRecordedSharp beside p t double

-- ---- the kind

-- a trace names sync nodes arbitrary, and from its first double cycle in sharp sync as without such nodes on each is alike
pub record CountsAsAlike (p : Values) (t : TraceView) : Type 0 where
  pub named : t.arbitrary ≢ []
  pub double : ℕ
  pub first : IsFirstRecordedSharp false p t double
  pub alike : AreSaidFrom false p t double

-- it names some, and that is not so
pub record CountsAsBeside (p : Values) (t : TraceView) : Type 0 where
  pub named : t.arbitrary ≢ []
  pub unlike : (double : ℕ) → IsFirstRecordedSharp false p t double → AreSaidFrom false p t double → ⊥

abbrev pub IsTracedKind : Values → TraceView → TracedKind → Type 0
IsTracedKind p t Alone = t.arbitrary ≡ []
IsTracedKind p t Alike = CountsAsAlike p t
IsTracedKind p t Beside = CountsAsBeside p t

-- from a double cycle on all are alike, or a double cycle is the first from there on in which some is not
pub record IsFirstUnlike (p : Values) (t : TraceView) (double unlike : ℕ) : Type 0 where
  pub from : double ≤ unlike
  pub within : unlike < t.doubles
  pub unlike_is : AreAllAlike p t unlike → ⊥
  pub first : (earlier : ℕ) → double ≤ earlier → earlier < unlike → AreAllAlike p t earlier

abbrev pub IsUnlikeFound : Values → TraceView → Option ℕ → Option ℕ → Type 0
IsUnlikeFound p t None unlike = unlike ≡ None
IsUnlikeFound p t (Some double) None = AreSaidFrom false p t double
IsUnlikeFound p t (Some double) (Some unlike) = IsFirstUnlike p t double unlike

-- it is named beside arbitrary nodes
abbrev pub IsUnlikeTold : Values → TraceView → TracedKind → Option ℕ → Option ℕ → Type 0
IsUnlikeTold p t Alone synced unlike = unlike ≡ None
IsUnlikeTold p t Alike synced unlike = unlike ≡ None
IsUnlikeTold p t Beside synced unlike = IsUnlikeFound p t synced unlike

-- ---- all of them

pub record AreTracedFigures (p : Values) (t : TraceView) (figures : TracedFigures) : Type 0 where
  pub kind : IsTracedKind p t figures.kind
  pub synced : IsRecordedSharpFound (is_kind_beside figures.kind) p t figures.sharp.synced
  pub unlike : IsUnlikeTold p t figures.kind figures.sharp.synced figures.unlike
  pub greatest : IsGreatestSince p t.history figures.sharp.synced figures.sharp.greatest
  pub above :
      IsAboveSince p t.history (pos (sharp_precision (is_kind_beside figures.kind) p (recorded_flutter p))) figures.sharp.synced
      figures.sharp.above

-- ---- what is promised

-- for how many double cycles: under the second and the third check as long as the rate limit holds the walk, and for none else
abbrev pub traced_lasts : Bool → Values → Option ℕ
traced_lasts beside p =
    if sharp_holds_of 2 (recorded_flutter p) (sharp_near beside p (recorded_flutter p)) p
    then (if sharp_holds_of 3 (recorded_flutter p) (sharp_near beside p (recorded_flutter p)) p then walk_lasts p (recorded_flutter p) else Some 0)
    else Some 0

-- from a double cycle on, for so many double cycles, no corresponding macroticks lie further apart than the sharper precision, no term is
-- cut or missing, and all nodes stay active; under both checks the trace stays in sharp sync; and where it is so on and on, in each
-- cycle to the end
pub record KeepsTracedSharply (beside : Bool) (p : Values) (t : TraceView) (double : ℕ) : Type 0 where
  pub keeps :
      (passed : ℕ) → double + passed < t.doubles → IfSome (traced_lasts beside p) (λ lasts. passed < lasts)
      → RecordsKeepApart p t (double + passed) (sharp_precision beside p (recorded_flutter p))
  pub stays :
      TracedChecksHold beside p → (passed : ℕ) → double + passed < t.doubles → StaysRecordedInSharpSync beside p t double passed
  pub on : traced_lasts beside p ≡ None → KeepsSharpClocks beside p t double
