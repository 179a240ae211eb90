-- Where the verdict of a log is within, it is so up to the last cycle but one that has a row.
use Rattle.std.proofs.Common.{◌≡◌, ◌⊎◌, ℕ, zero, suc, ◌+◌, ◌-◌, ◌*◌, Bool, true, false, Option, Some, None, List, length, refl, ap, sym, ◌∙◌, subst, inl, inr, arith}
use Rattle.std.specs.Prelude.{IfSome, slice_get}
use Rattle.std.specs.List.{range_with_len}
use Rattle.std.specs.Option.{option_map}
use Rattle.fr_observe.specs.Observing.{both_say, doubles_between, seen_doubles}
use Rattle.fr_observe.specs.declared.says.Says.{Says}
use Rattle.fr_sightings.specs.Senders.{double_of}
use Rattle.fr_sightings.specs.Sightings.{OffendingFrames, offending_frames_of, sightings_of}
use Rattle.fr_sightings.specs.declared.sighting.Sighting.{Sighting}
use Rattle.fr_findings.specs.Verdict.{Basis, DoubleCycle, double_at, even_says, judged_by, log_basis, log_progress, no_progress, odd_says, progress_behind, progress_of, progress_told, reach_where, span_to, standing_told, verdict_of}
use Rattle.fr_findings.specs.declared.progress.Judged.{Judged}
use Rattle.fr_findings.specs.declared.progress.Progress.{Progress}
use Rattle.fr_findings.specs.declared.progress.Reach.{Reach}
use Rattle.fr_seen_runs.specs.NotContradicted.{WithinReachesEnd}
use Rattle.fr_seen_runs.proofs.ToldVerdicts.{told_within}

module _ (b : Basis) (seen : List Sighting) (offending : OffendingFrames) where
  abbrev pub At : ℕ → DoubleCycle
  At double = double_at b seen offending double

  abbrev pub Behind : ℕ → Progress → Progress
  Behind double progress = progress_behind b seen offending double progress

  -- judged double cycles go up to the one before the next, or one that is not leaves no reach
  abbrev pub Ends : ℕ → Progress → Reach → Type 0
  Ends next progress s = (s.to + 1 ≡ 2 * next) ⊎ ((progress.reach ≡ None) × (progress.is_ended ≡ true))

  abbrev pub JudgedTo : ℕ → Progress → Type 0
  JudgedTo next progress = IfSome progress.judged.span (Ends next progress)

  end_of : (span : Option Reach) (double : ℕ) → (span_to span double).to + 1 ≡ 2 * suc double
  end_of None double = omega arith
  end_of (Some s) double = omega arith

  gap : (double : ℕ) (judged : Judged) (said : List Says) (even odd : Says) (reach : Option Reach × Bool) (now : Bool)
      → IfSome (judged_by now judged double said).span
      (λ s. (s.to + 1 ≡ 2 * suc double) ⊎ (((reach_where now judged.span double even odd reach).0 ≡ None) × ((reach_where now judged.span double even odd reach).1 ≡ true)))
  gap double judged said even odd reach true = inl (end_of judged.span double)
  gap double judged said even odd reach false = by judged.span
    where
      by : (span : Option Reach) → IfSome span (λ s. (s.to + 1 ≡ 2 * suc double) ⊎ (((reach_where false span double even odd reach).0 ≡ None) × ((reach_where false span double even odd reach).1 ≡ true)))
      by None = tt
      by (Some s) = inr (refl, refl)

  step : (double : ℕ) (progress : Progress) → JudgedTo (suc double) (Behind double progress)
  unfolding progress_told double_at
  step double progress =
      let d = At double in
      gap double progress.judged (both_say b.precision b.scale d.senders) (even_says b d) (odd_says b d) (progress.reach, progress.is_ended) (standing_told b d progress.known).is_judged

  pub behind : (count first : ℕ) (progress : Progress) → JudgedTo first progress → JudgedTo (first + count) (progress_of b seen offending progress (range_with_len first count))
  unfolding progress_of
  behind zero first progress is = subst (λ n. JudgedTo n progress) (none first) is
    where
      none : (n : ℕ) → n ≡ n + 0
      none n = omega arith
  behind (suc count) first progress is =
      let later = Behind first progress in
      subst (λ n. JudgedTo n (progress_of b seen offending later (range_with_len (first + 1) count))) (more first count)
      (behind count (first + 1) later (subst (λ n. JudgedTo n later) (one first) (step first progress)))
    where
      one : (n : ℕ) → suc n ≡ n + 1
      one n = omega arith

      more : (n count : ℕ) → n + 1 + count ≡ n + suc count
      more n count = omega arith

  span_ends : (next : ℕ) (progress : Progress) (s reach : Reach) → progress.judged.span ≡ Some s → progress.reach ≡ Some reach → JudgedTo next progress → s.to + 1 ≡ 2 * next
  span_ends next progress s reach is reached to =
      by (subst (λ o. IfSome o (λ (r : Reach). (r.to + 1 ≡ 2 * next) ⊎ ((progress.reach ≡ None) × (progress.is_ended ≡ true)))) is to)
    where
      by : ((s.to + 1 ≡ 2 * next) ⊎ ((progress.reach ≡ None) × (progress.is_ended ≡ true))) → s.to + 1 ≡ 2 * next
      by (inl ends) = ends
      by (inr gone) = absurd (let e = sym reached ∙ gone.0 in cc e)

  -- to the last cycle but one
  module _ (s reach : Reach) (ends : reach.to + 1 ≡ s.to) where
    by_count : (count : ℕ) (first last : Sighting) → count ≡ double_of last + 1 - double_of first
        → (progress_of b seen offending no_progress (range_with_len (double_of first) count)).judged.span ≡ Some s
        → (progress_of b seen offending no_progress (range_with_len (double_of first) count)).reach ≡ Some reach → 2 * double_of last + 1 ≡ reach.to + 1
    unfolding progress_of
    by_count zero first last count_is is reached = absurd (cc is)
    by_count (suc count) first last count_is is reached =
        let told = progress_of b seen offending no_progress (range_with_len (double_of first) (suc count)) in
        let to = span_ends (double_of first + suc count) told s reach is reached (behind (suc count) (double_of first) no_progress tt) in
        sums (double_of first) (double_of last) count s.to reach.to count_is to ends
      where
        sums : (a z count t r : ℕ) → suc count ≡ z + 1 - a → t + 1 ≡ 2 * (a + suc count) → r + 1 ≡ t → 2 * z + 1 ≡ r + 1
        sums a z count t r count_is to ends = omega (arith, count_is, to, ends)

    pub by_ends : (first last : Option Sighting) → (progress_of b seen offending no_progress (doubles_between first last)).judged.span ≡ Some s
        → (progress_of b seen offending no_progress (doubles_between first last)).reach ≡ Some reach
        → option_map (λ (t : Sighting). 2 * double_of t + 1) last ≡ Some (reach.to + 1)
    unfolding progress_of
    by_ends None last is reached = absurd (cc is)
    by_ends (Some first) None is reached = absurd (cc is)
    by_ends (Some first) (Some last) is reached = ap Some (by_count (double_of last + 1 - double_of first) first last refl is reached)

pub within_reaches_end : WithinReachesEnd
unfolding verdict_of seen_doubles
within_reaches_end p l reach is =
    let seen = sightings_of p l in
    let offending = offending_frames_of p l in
    let b = log_basis p l in
    let told = told_within (log_progress b seen offending) reach is in
    by_ends b seen offending told.span reach told.ends (slice_get seen 0) (slice_get seen (length seen - 1)) told.spans told.reached
