-- The first double cycle of the worked run is judged by its own numbers, and goes on as they say.
use Rattle.std.proofs.Common.{◌≡◌, ℕ, ◌≤◌, ◌==◌, Bool, true, false, length, refl, lit≤, arith}
use Rattle.fr_cluster.specs.Setting.{IsSetting, Setting}
use Rattle.fr_bound.specs.Judged.{IsJudgedDouble}
use Rattle.fr_bound.specs.SharpBounds.{last_of}
use Rattle.fr_bound.specs.SharpChecks.{sharp_holds_of, SharpChecksHold}
use Rattle.fr_bound.specs.SharpSpreads.{sharply_near_in}
use Rattle.fr_history.specs.Lawful.{IsLawful}
use Rattle.fr_history.specs.Next.{cycles_of}
use Rattle.fr_runs.specs.Stated.{all_cycles}
use Rattle.fr_sharp.specs.JudgedSteps.{IsHeardIn}
use Rattle.fr_sharp.specs.SettlingHistories.{AreStatedNear}
use Rattle.fr_runs.specs.SharpHistories.{IsSteadyRun, IsStatedRun, IsKnownAt}
use Rattle.fr_worked.specs.WorkedJudged.{far_known, heard_beside, known_with, worked_known, FarNumbersAreJudged, WorkedNumbersGoOn, WorkedRunGoesOn}
use Rattle.fr_sharp.specs.WorkedRun.{steady_cluster, steady_run, Said}
use Rattle.fr_sharp.proofs.JudgedLaws.{judged_goes_on_lem, stated_runs_are_known_lem}
use Rattle.fr_promise.proofs.RunSync.{timed}
use Rattle.fr_worked.proofs.RunWorked.{in_its_range, near_lengths, near_starts, steady_run_meets_premises}
use Rattle.fr_promise.proofs.CheckNumbers.{two_to_five}

pub worked_numbers_go_on : WorkedNumbersGoOn
worked_numbers_go_on = (refl, refl, refl, refl, refl, refl)

worked_checks : SharpChecksHold 0 (sharply_near_in steady_cluster worked_known.spread) steady_cluster
unfolding last_of
worked_checks = two_to_five (λ k. sharp_holds_of k 0 (sharply_near_in steady_cluster worked_known.spread) steady_cluster) refl refl refl refl

far_checks : SharpChecksHold 0 (sharply_near_in steady_cluster far_known.spread) steady_cluster
unfolding last_of
far_checks = two_to_five (λ k. sharp_holds_of k 0 (sharply_near_in steady_cluster far_known.spread) steady_cluster) refl refl refl refl

worked_judged : IsJudgedDouble steady_cluster 0 worked_known
worked_judged = record { checks = worked_checks; room = lit≤ tt }

far_judged : IsJudgedDouble steady_cluster 0 far_known
far_judged = record { checks = far_checks; room = lit≤ tt }

too_far : IsJudgedDouble steady_cluster 0 (known_with 120_000_000 4_000_000 0) → ⊥
unfolding last_of
too_far is = let third : false ≡ true = is.checks 3 (lit≤ tt) (lit≤ tt) in cc third

too_long : IsJudgedDouble steady_cluster 0 (known_with 18_000_000 4_000_000 600_000_000) → ⊥
too_long is = let room : 600_000_000 ≤ 560_939_900 = is.room in omega (arith, room)

pub far_numbers_are_judged : FarNumbersAreJudged
far_numbers_are_judged = (worked_judged, far_judged, refl, too_far, too_long)

-- ---- the run

stated_near : (said : Said) (beside : Bool) → AreStatedNear (steady_run said beside) 18_000_000 4_000_000
stated_near said beside = record {
  starts = λ one other here there. near_starts (one.id == 1) (one.id == 2) (other.id == 1) (other.id == 2);
  lengths = λ one other here there. near_lengths (one.id == 1) (one.id == 2) (other.id == 1) (other.id == 2);
  about = λ some there. in_its_range (some.id == 1) (some.id == 2);
}

heard_at : (said : Said) (beside : Bool) → IsSteadyRun beside (steady_run said beside) 0 (all_cycles (steady_run said beside)) → IsHeardIn (heard_beside beside) (steady_run said beside) 0
heard_at said false w = (w.arbitrary, w.covered.links 0 (lit≤ tt) (lit≤ tt))
heard_at said true w = w.covered.links 0 (lit≤ tt) (lit≤ tt)

pub worked_run_goes_on : ((x : Setting) (n : ℕ) → IsSetting x → IsLawful x (cycles_of x n)) → ((x : Setting) (n : ℕ) → length (cycles_of x n) ≡ n) → WorkedRunGoesOn
worked_run_goes_on lawful long said beside bytes =
    let x : Setting = steady_run said beside in
    let h = all_cycles (steady_run said beside) in
    let w : IsSteadyRun beside x 0 h = (steady_run_meets_premises lawful long said beside bytes).0 in
    let run : IsStatedRun x 0 h = timed beside x 0 0 h w in
    let known : IsKnownAt x h 0 worked_known = stated_runs_are_known_lem x 0 18_000_000 4_000_000 h run (stated_near said beside) (lit≤ tt) in
    (known, judged_goes_on_lem (heard_beside beside) x 0 0 h 0 worked_known run (lit≤ tt) (lit≤ tt) (heard_at said beside w) known worked_judged)
