-- The law of judged double cycles: within is said of judged ones alone.
use Rattle.std.specs.Prelude.{◌≡◌, ℕ, ◌/◌, ◌≤◌, true, List, ◌∷◌, ◌++◌}
use Rattle.fr_cluster.specs.Values.{Values}
use Rattle.fr_log.specs.View.{LogView}
use Rattle.fr_sightings.specs.Sightings.{offending_frames_of, sightings_of}
use Rattle.fr_observe.specs.Observing.{seen_doubles}
use Rattle.fr_judging.specs.declared.knowing.Standing.{Standing}
use Rattle.fr_findings.specs.Verdict.{double_at, log_basis, no_progress, progress_of, standing_told, verdict_of}
use Rattle.fr_findings.specs.declared.progress.Reach.{Reach}
use Rattle.fr_findings.specs.declared.verdict.Verdict.TheVariants as verdict

-- how a double cycle of a log stands behind those before it
abbrev pub standing_behind : Values → LogView → List ℕ → ℕ → Standing
standing_behind p l front double =
    standing_told (log_basis p l) (double_at (log_basis p l) (sightings_of p l) (offending_frames_of p l) double)
    (progress_of (log_basis p l) (sightings_of p l) (offending_frames_of p l) no_progress front).known

-- where the verdict is within, each double cycle of the log from that of its first cycle on is judged: so is each up to that of its
-- last one
abbrev pub WithinIsJudged : Type 0
WithinIsJudged =
    (p : Values) (l : LogView) (reach : Reach) (front rest : List ℕ) (double : ℕ)
    → verdict_of p l ≡ verdict.Within reach → seen_doubles (sightings_of p l) ≡ front ++ (double ∷ rest)
    → reach.from / 2 ≤ double → (standing_behind p l front double).is_judged ≡ true
