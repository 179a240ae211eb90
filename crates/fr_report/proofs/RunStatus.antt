-- The three files of a run define one status, whatever is asked of the run.
use Rattle.std.proofs.Common.{ℕ, List, inl, refl}
use Rattle.fr_cluster.specs.Sane.{IsSane}
use Rattle.fr_cluster.specs.Values.{Values}
use Rattle.fr_drift.specs.Files.{DriftFits, drift_file}
use Rattle.fr_drift.specs.View.{DriftView}
use Rattle.fr_params.specs.Files.{params_file}
use Rattle.fr_params.specs.Upgrades.{AcceptedAreSane}
use Rattle.fr_script.specs.Files.{ScriptFits, script_file}
use Rattle.fr_script.specs.View.{IsScript, ScriptView}
use Rattle.fr_script.proofs.ScriptSound.{sound_script}
use Rattle.fr_text.specs.Defined.{DefinesOneStatus}
use Rattle.fr_text.specs.Kind.{HasOneAnswer, HasSomeAnswer}
use Rattle.fr_text.proofs.Defining.{one_status, some_status}
use Rattle.fr_report.specs.Files.{run_files}

-- each of the three kinds has one answer to all bytes, and parameters that are read are sane
pub record RunKinds : Type 0 where
  pub params_one : HasOneAnswer params_file
  pub params_some : HasSomeAnswer params_file
  pub drift_one : (p : Values) → HasOneAnswer (drift_file p)
  pub drift_some : (p : Values) → HasSomeAnswer (drift_file p)
  pub script_one : (p : Values) → HasOneAnswer (script_file p)
  pub script_some : (p : Values) → HasSomeAnswer (script_file p)
  pub sane : AcceptedAreSane

-- a text is defined of parameters, a drift and a script that fit each other
abbrev pub IsDefinedText : (Values → DriftView → ScriptView → List ℕ → Type 0) → (Values → DriftView → ScriptView → List ℕ) → Type 0
IsDefinedText IsText shown = (p : Values) (d : DriftView) (s : ScriptView) → IsSane p → DriftFits p d → ScriptFits p s → IsScript s → IsText p d s (shown p d s)

pub run_status : RunKinds → (IsText : Values → DriftView → ScriptView → List ℕ → Type 0) (shown : Values → DriftView → ScriptView → List ℕ) → IsDefinedText IsText shown → DefinesOneStatus (run_files IsText) 3
run_status kinds IsText shown defined = record {
  one = one_status (run_files IsText) (kinds.params_one, λ p. (kinds.drift_one p, λ d. (kinds.script_one p, λ s written said is never. never)));
  some = some_status (run_files IsText) 3 (
    kinds.params_some,
    λ bytes p octets accepted. (
      kinds.drift_some p,
      λ drift d octets_too fits. (
        kinds.script_some p,
        λ script s octets_all read.
            let sound = sound_script p s script read.accepted in
            (refl, inl (shown p d s, defined p d s (kinds.sane p bytes accepted.accepted) (record { records = _; none_refused = fits.accepted.none_refused; stands = fits.accepted.stands }) sound.fits sound.proper)),
      ),
    ),
  );
}
