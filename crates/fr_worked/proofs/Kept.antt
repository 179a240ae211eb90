-- The worked runs without a gap keep their precision.
use Rattle.std.proofs.Common.{◌≡◌, ℕ, ◌*◌, ℤ, pos, true, false, None, length, ap, sym, ◌∙◌, subst}
use Rattle.fr_cluster.specs.Values.{Values}
use Rattle.fr_drift.specs.Files.{IsRateWithin}
use Rattle.fr_drift.proofs.Limits.{zero-within}
use Rattle.fr_cluster.specs.Setting.{IsSetting}
use Rattle.fr_history.specs.Cycles.{some_joins}
use Rattle.fr_history.proofs.UnfollowedSync.{first_unfollowed_sync_is}
use Rattle.fr_coverage.proofs.GapParts.{found-none}
use Rattle.fr_runs.specs.Supplied.{IsCoveredByFiles}
use Rattle.fr_runs.proofs.Covers.{coverage_suffices}
use Rattle.fr_runs.specs.Whole.{KeepsTogether}
use Rattle.fr_runs.proofs.Together.{unfollowed_runs_keep_together}
use Rattle.fr_promise.proofs.Stating.{files_are_covered_alone}
use Rattle.fr_worked.specs.Working.{IsAsWritten, WorkedRun, alone_cycles}

-- a worked run that no node joins, whose files have no gap, and whose first rate terms are 0, meets the premises of the law
pub kept_from : (w : WorkedRun) → IsAsWritten w → IsSetting w.run → some_joins w.run ≡ false → ((node : ℕ) → w.run.rate node ≡ pos 0) → w.gap ≡ None → length (alone_cycles w.history) ≡ 2 * w.run.doubles
    → KeepsTogether w.run (alone_cycles w.history) w.synced
kept_from w right setting joins rates none whole =
    let p : Values = w.run.params in
    let within : (node : ℕ) → IsRateWithin p (w.run.rate node) = λ node. subst (λ (rate : ℤ). IsRateWithin p rate) (sym (rates node)) (zero-within p setting.sane) in
    let covered : IsCoveredByFiles w.run =
    subst IsCoveredByFiles right.files
    (files_are_covered_alone p w.drift w.script setting.sane (ap some_joins right.files ∙ joins)
    (λ g is. found-none p w.drift w.script g setting.sane (right.gap w.drift w.script right.files ∙ none) is)) in
    unfollowed_runs_keep_together w.run (alone_cycles w.history) w.synced
    (record {
      covered = coverage_suffices w.run covered;
      rates = λ node among. record { low = (within node.id).from; high = (within node.id).to };
      starts = λ some. absurd (let e : false ≡ true = sym joins ∙ some in cc);
      lawful = right.lawful;
      whole = whole;
      unfollowed = (first_unfollowed_sync_is p (alone_cycles w.history) w.synced right.synced).unfollowed;
    })
