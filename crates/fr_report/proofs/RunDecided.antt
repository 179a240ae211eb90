-- The bytes of files decide a text of their run.
use Rattle.std.proofs.Common.{◌≡◌, ℕ, List, ap, sym, subst, ◌∙◌}
use Rattle.std.specs.Prelude.{length, ◌*◌}
use Rattle.fr_cluster.specs.Values.{Values}
use Rattle.fr_coverage.specs.Decided.{setting_of}
use Rattle.fr_drift.specs.Files.{drift_file}
use Rattle.fr_drift.specs.Questions.{doubles_of}
use Rattle.fr_drift.specs.View.{DriftView}
use Rattle.fr_history.specs.Cycles.{Cycles}
use Rattle.fr_history.specs.Lawful.{IsLawful}
use Rattle.fr_history.specs.Next.{cycles_of}
use Rattle.fr_params.specs.Files.{params_file}
use Rattle.fr_text.proofs.Commands.{decided}
use Rattle.fr_text.specs.Files.{IsDecided}
use Rattle.fr_text.specs.Kind.{HasOneAnswer}
use Rattle.fr_script.specs.Files.{script_file}
use Rattle.fr_script.specs.View.{ScriptView}
use Rattle.fr_report.specs.Files.{run_files}

abbrev pub OneRun : Type 0
OneRun = (p : Values) (d : DriftView) (s : ScriptView) (h : Cycles) → IsLawful (setting_of p d s) h → h ≡ cycles_of (setting_of p d s) (length h)

-- two lawful runs over all cycles are the same
pub one_whole : OneRun → (p : Values) (d : DriftView) (s : ScriptView) (h other : Cycles) → IsLawful (setting_of p d s) h → length h ≡ 2 * doubles_of d
    → IsLawful (setting_of p d s) other → length other ≡ 2 * doubles_of d → h ≡ other
one_whole one p d s h other lawful whole too all =
    one p d s h lawful ∙ ap (cycles_of (setting_of p d s)) whole ∙ sym (one p d s other too ∙ ap (cycles_of (setting_of p d s)) all)

-- a text of some values is one of the same values
pub moved : (IsText : Values → DriftView → ScriptView → List ℕ → Type 0) (p q : Values) (d e : DriftView) (s r : ScriptView) (text : List ℕ) → p ≡ q → d ≡ e → s ≡ r
    → IsText q e r text → IsText p d s text
moved IsText p q d e s r text params drift script shown =
    let by_params : IsText p e r text = subst (λ (x : Values). IsText x e r text) (sym params) shown in
    let by_drift : IsText p d r text = subst (λ (x : DriftView). IsText p x r text) (sym drift) by_params in
    subst (λ (x : ScriptView). IsText p d x text) (sym script) by_drift

-- where files decide a text once they are read, their bytes do
pub one_text : (IsText : Values → DriftView → ScriptView → List ℕ → Type 0)
    → ((p : Values) (d : DriftView) (s : ScriptView) (text again : List ℕ) → IsText p d s text → IsText p d s again → text ≡ again)
    → HasOneAnswer params_file → ((p : Values) → HasOneAnswer (drift_file p)) → ((p : Values) → HasOneAnswer (script_file p)) → IsDecided (run_files IsText)
one_text IsText same params_one drift_one script_one = decided (run_files IsText) (params_one, λ p. (drift_one p, λ d. (script_one p, same p d)))
