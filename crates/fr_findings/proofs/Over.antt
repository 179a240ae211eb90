-- The rows that say over: there is a first one exactly where one is counted.
use Rattle.std.proofs.Common.{◌≡◌, ◌∙◌, ℕ, ◌+◌, ◌≤◌, ℤ, Bool, true, false, List, [], ◌∷◌, ◌++◌, Option, Some, None, refl, ap, subst, arith}
use Rattle.std.specs.Prelude.{count_by, if◌then◌else◌}
use Rattle.std.specs.Option.{option_or}
use Rattle.fr_cluster.specs.Values.{Values}
use Rattle.fr_log.specs.View.{LogView}
use Rattle.fr_sightings.specs.Sightings.{OffendingFrames, offending_frames_of, sightings_of}
use Rattle.fr_sightings.specs.declared.sighting.Sighting.{Sighting}
use Rattle.fr_observe.specs.Observing.{both_say, seen_doubles}
use Rattle.fr_observe.specs.declared.fault.Fault.{Fault}
use Rattle.fr_observe.specs.declared.says.Says.{Says}
use Rattle.fr_observe.specs.declared.says.Says.TheVariants.{Over, Within, Open}
use Rattle.fr_findings.specs.Counting.{is_over}
use Rattle.fr_findings.specs.Outcomes.{DoubleStands, log_standings, OverIsTold, OverNames, standings_from}
use Rattle.fr_findings.specs.Verdict.{Basis, double_at, log_basis, no_progress, over_row, over_told, partly_of, progress_behind, progress_of, progress_told, reaches_end, verdict_by, verdict_of, verdict_unless_over, verdict_where, verdict_with, verdict_within}
use Rattle.fr_findings.specs.declared.progress.OverRow.{OverRow}
use Rattle.fr_findings.specs.declared.progress.Progress.{Progress}
use Rattle.fr_findings.specs.declared.progress.Reach.{Reach}
use Rattle.fr_findings.specs.declared.verdict.Verdict.TheVariants as verdict
use Rattle.fr_findings.proofs.Outcomes.{all_stood, behind_all, count_both, says_in, stood, stood_first}

-- a first row over is there, or none is counted
abbrev FirstOf : Option OverRow → ℕ → Type 0
FirstOf None rows = rows ≡ 0
FirstOf (Some row) rows = 1 ≤ rows

first_more : (o other : Option OverRow) (some more : ℕ) → FirstOf o some → FirstOf other more → FirstOf (option_or o other) (some + more)
first_more None None some more one two = omega (arith, one, two)
first_more None (Some row) some more one two = omega (arith, two)
first_more (Some row) other some more one two = omega (arith, one)

first_both : (even odd : Says) (cycle after : ℕ) (low later : ℤ)
    → FirstOf (option_or (over_row cycle low even) (over_row after later odd)) (count_by is_over (even ∷ odd ∷ []))
first_both Over Over cycle after low later = omega arith
first_both Over Within cycle after low later = omega arith
first_both Over Open cycle after low later = omega arith
first_both Within Over cycle after low later = omega arith
first_both Within Within cycle after low later = refl
first_both Within Open cycle after low later = refl
first_both Open Over cycle after low later = omega arith
first_both Open Within cycle after low later = refl
first_both Open Open cycle after low later = refl

-- both: how many were counted, and the first
record IsOverBehind (q : Progress) (rows : ℕ) : Type 0 where
  counted : q.counts.over ≡ rows
  first : FirstOf q.over rows

module _ (b : Basis) (seen : List Sighting) (frames : OffendingFrames) where
  over_step : (q : Progress) (double rows : ℕ) → IsOverBehind q rows
      → IsOverBehind (progress_behind b seen frames double q) (rows + count_by is_over (stood b seen frames q double).says)
  unfolding progress_told double_at both_say
  over_step q double rows is =
      let more : ℕ = count_by is_over (stood b seen frames q double).says in
      record {
        counted = ap (λ (n : ℕ). n + more) is.counted;
        first =
            first_more q.over (over_told b (double_at b seen frames double)) rows more is.first (first_both _ _ _ _ _ _);
      }

  over_all : (q : Progress) (doubles : List ℕ) (rows : ℕ) → IsOverBehind q rows
      → IsOverBehind (progress_of b seen frames q doubles) (rows + count_by is_over (says_in (all_stood b seen frames q doubles)))
  unfolding progress_of standings_from
  over_all q [] rows is =
      let none : rows ≡ rows + 0 = omega arith in
      subst (IsOverBehind q) none is
  over_all q (double ∷ doubles) rows is =
      let next : Progress = progress_behind b seen frames double q in
      let here : List Says = (stood b seen frames q double).says in
      let rest : List Says = says_in (all_stood b seen frames next doubles) in
      let both : rows + count_by is_over here + count_by is_over rest ≡ rows + count_by is_over (here ++ rest) =
      omega (arith, count_both is_over here rest) in
      let told : rows + count_by is_over (here ++ rest) ≡ rows + count_by is_over (says_in (all_stood b seen frames q (double ∷ doubles))) =
      ap (λ (ds : List DoubleStands). rows + count_by is_over (says_in ds)) (stood_first b seen frames q double doubles) in
      subst (IsOverBehind (progress_of b seen frames next doubles)) (both ∙ told)
      (over_all next doubles (rows + count_by is_over here) (over_step q double rows is))

log_over : (p : Values) (l : LogView) → IsOverBehind (behind_all p l) (count_by is_over (says_in (log_standings p l)))
unfolding log_standings
log_over p l =
    let none : IsOverBehind no_progress 0 = record { counted = refl; first = refl } in
    let all : ℕ = count_by is_over (says_in (all_stood (log_basis p l) (sightings_of p l) (offending_frames_of p l) no_progress (seen_doubles (sightings_of p l)))) in
    let same : 0 + all ≡ all = omega arith in
    subst (IsOverBehind (behind_all p l)) same
    (over_all (log_basis p l) (sightings_of p l) (offending_frames_of p l) no_progress (seen_doubles (sightings_of p l)) 0 none)

-- ---- which verdict

module _ (q : Progress) (rows : ℕ) where
  not_over_end : (span whole : Reach) (ends : Bool) → rows ≡ 0 → OverNames (if ends then verdict.Within whole else verdict.Partly (partly_of span q)) rows
  not_over_end span whole true none = none
  not_over_end span whole false none = none

  not_over_reach : (o : Option Reach) (span : Reach) → rows ≡ 0 → OverNames (verdict_within o span q) rows
  not_over_reach None span none = none
  not_over_reach (Some whole) span none = not_over_end span whole (reaches_end whole span) none

  not_over_span : (o : Option Reach) → rows ≡ 0 → OverNames (verdict_where o q) rows
  not_over_span None none = none
  not_over_span (Some span) none = not_over_reach q.reach span none

  over_by : (o : Option OverRow) → q.counts.over ≡ rows → FirstOf o rows → OverNames (verdict_unless_over o q) rows
  over_by None counted first = not_over_span q.judged.span first
  over_by (Some row) counted first = (counted, first)

  over_with : (o : Option Fault) → IsOverBehind q rows → OverNames (verdict_with o q) rows
  over_with None is = over_by q.over is.counted is.first
  over_with (Some fault) is = tt

  over_names : IsOverBehind q rows → OverNames (verdict_by q) rows
  unfolding verdict_by
  over_names is = over_with q.first is

pub over_is_told_lem : OverIsTold
unfolding verdict_of
over_is_told_lem p l = over_names (behind_all p l) (count_by is_over (says_in (log_standings p l))) (log_over p l)
