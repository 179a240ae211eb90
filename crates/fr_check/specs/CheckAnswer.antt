-- What a request to check a trace reads, and writes or says.
use Rattle.std.specs.Prelude.{◌≡◌, ℕ, List, [], ◌∷◌, Ok, Err}
use Rattle.fr_cluster.specs.Values.{Values}
use Rattle.fr_params.specs.Files.{params_file}
use Rattle.fr_params.specs.Told.{params_says}
use Rattle.fr_program.specs.Command.{Command}
use Rattle.fr_text.specs.Files.{Files, file, text}
use Rattle.fr_trace.specs.Files.{trace_file}
use Rattle.fr_trace.specs.Told.{trace_says}
use Rattle.fr_trace.specs.Trace.{TraceView}
use Rattle.fr_verdict.specs.Answer.{IsJudgement}
use Rattle.fr_verdict.specs.Precision.{KeepsItsPrecision}
use Rattle.fr_verdict.specs.declared.unlawful.Unlawful.{Unlawful}
use Rattle.fr_verdict.specs.declared.unlawful.Verdict.{Verdict}
use Rattle.fr_check.specs.UnlawfulText.{unlawful_text}
use Rattle.fr_check.specs.VerdictText.{verdict_text}

-- a trace is that of a lawful and covered run; from its first double cycle in sync on in which no node may follow, if
-- there is one, its clocks keep within the precision; and this is the text of the verdict
pub record IsVerdictText (params : Values) (trace : TraceView) (text : List ℕ) : Type 0 where
  pub verdict : Verdict
  pub answered : IsJudgement params trace (Ok verdict)
  pub precise : KeepsItsPrecision params trace verdict
  pub shown : text ≡ verdict_text params trace verdict

-- it is not, and this says the first record that breaks a law, or the first gap
pub record IsUnlawfulSaid (params : Values) (trace : TraceView) (said : List ℕ) : Type 0 where
  pub why : Unlawful
  pub answered : IsJudgement params trace (Err why)
  pub shown : said ≡ unlawful_text why

-- parameters, and a trace that is accepted against them
abbrev pub check_files : Files
check_files = file params_file params_says (λ (p : Values). file (trace_file p) trace_says (λ (t : TraceView). text (IsVerdictText p t) (IsUnlawfulSaid p t)))

abbrev pub check_command : List ℕ → List ℕ → Command
check_command params trace = record { names = params ∷ trace ∷ []; files = check_files }
