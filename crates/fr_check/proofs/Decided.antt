-- The bytes of files decide the answer to their trace, and so what is written or said of it.
use Rattle.std.proofs.Common.{◌≡◌, ℕ, List, Result, Ok, Err, ap, sym, ◌∙◌}
use Rattle.fr_cluster.specs.Values.{Values}
use Rattle.fr_params.specs.Files.{params_file}
use Rattle.fr_text.proofs.Commands.{decided}
use Rattle.fr_text.specs.Files.{IsDecided, said_of}
use Rattle.fr_text.specs.Kind.{HasOneAnswer}
use Rattle.fr_trace.specs.Files.{trace_file}
use Rattle.fr_trace.specs.Trace.{TraceView}
use Rattle.fr_verdict.specs.Answer.{OneAnswer}
use Rattle.fr_verdict.specs.declared.unlawful.Unlawful.{Unlawful}
use Rattle.fr_verdict.specs.declared.unlawful.Verdict.{Verdict}
use Rattle.fr_check.specs.CheckAnswer.{IsUnlawfulSaid, IsVerdictText, check_files}
use Rattle.fr_check.specs.UnlawfulText.{unlawful_text}
use Rattle.fr_check.specs.VerdictText.{verdict_text}

abbrev verdict_or : Verdict → Result Verdict Unlawful → Verdict
verdict_or other (Ok verdict) = verdict
verdict_or other (Err why) = other

abbrev why_or : Unlawful → Result Verdict Unlawful → Unlawful
why_or other (Ok verdict) = other
why_or other (Err why) = why

one_verdict : OneAnswer → (p : Values) (t : TraceView) (written again : List ℕ) → IsVerdictText p t written → IsVerdictText p t again → written ≡ again
one_verdict one p t written again is more =
    let same : is.verdict ≡ more.verdict = ap (verdict_or is.verdict) (one p t (Ok is.verdict) (Ok more.verdict) is.answered more.answered) in
    is.shown ∙ ap (verdict_text p t) same ∙ sym more.shown

one_reason : OneAnswer → (p : Values) (t : TraceView) (said again : List ℕ) → IsUnlawfulSaid p t said → IsUnlawfulSaid p t again → said ≡ again
one_reason one p t said again is more =
    let same : is.why ≡ more.why = ap (why_or is.why) (one p t (Err is.why) (Err more.why) is.answered more.answered) in
    is.shown ∙ ap unlawful_text same ∙ sym more.shown

pub one_text : HasOneAnswer params_file → ((p : Values) → HasOneAnswer (trace_file p)) → OneAnswer → IsDecided check_files
one_text params_one trace_one answer_one = decided check_files (params_one, λ p. (trace_one p, one_verdict answer_one p))

pub one_line : HasOneAnswer params_file → ((p : Values) → HasOneAnswer (trace_file p)) → OneAnswer → IsDecided (said_of check_files)
one_line params_one trace_one answer_one = decided (said_of check_files) (params_one, λ p. (trace_one p, one_reason answer_one p))
