-- The files of a run define one status of its report with the promises, and those of a startup one.
use Rattle.std.proofs.Common.{ℕ, List, inl, refl}
use Rattle.fr_cluster.specs.Sane.{IsSane}
use Rattle.fr_cluster.specs.Values.{Values}
use Rattle.fr_cold.specs.ColdAnswer.{cold_files}
use Rattle.fr_cold.specs.ColdText.{IsColdText, cold_text}
use Rattle.fr_cold.specs.Files.{PowerFits, power_file}
use Rattle.fr_cold.specs.View.{PowerView}
use Rattle.fr_drift.specs.View.{DriftView}
use Rattle.fr_params.specs.Files.{params_file}
use Rattle.fr_params.specs.Upgrades.{AcceptedAreSane}
use Rattle.fr_script.specs.View.{ScriptView}
use Rattle.fr_text.specs.Defined.{DefinesOneStatus}
use Rattle.fr_text.specs.Kind.{HasOneAnswer, HasSomeAnswer}
use Rattle.fr_text.proofs.Defining.{one_status, some_status}
use Rattle.fr_report.specs.RunText.{IsRunText}
use Rattle.fr_answer.specs.RunAnswer.{IsKeptRunText}
use Rattle.fr_answer.proofs.KeptRuns.{kept_text, FilePromises}
use Rattle.fr_report.proofs.RunStatus.{IsDefinedText}

-- the report with the sharper promises, and those of losses
pub kept_defined : FilePromises → (shown : Values → DriftView → ScriptView → List ℕ) → IsDefinedText IsRunText shown → IsDefinedText IsKeptRunText shown
kept_defined promises shown defined p d s sane fits script proper =
    kept_text promises p d s (shown p d s) sane fits script (defined p d s sane fits script proper)

-- ---- a startup

pub cold_status : HasOneAnswer params_file → HasSomeAnswer params_file → ((p : Values) → HasOneAnswer (power_file p)) → ((p : Values) → HasSomeAnswer (power_file p)) → AcceptedAreSane
    → ((p : Values) (v : PowerView) → IsSane p → PowerFits p v → IsColdText p v (cold_text p v)) → DefinesOneStatus cold_files 2
cold_status one some power_one power_some sane defined = record {
  one = one_status cold_files (one, λ p. (power_one p, λ v written said is never. never));
  some = some_status cold_files 2 (
    some,
    λ bytes p octets accepted. (
      power_some p,
      λ power v octets_too fits.
          (refl, inl (cold_text p v, defined p v (sane p bytes accepted.accepted) (record { records = _; none_refused = fits.accepted.none_refused; stands = fits.accepted.stands }))),
    ),
  );
}
