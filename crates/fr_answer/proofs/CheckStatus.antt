-- The two files of a check define one status.
use Rattle.std.proofs.Common.{ℕ, ◌⊎◌, inl, inr, List, Result, Ok, Err, refl}
use Rattle.fr_cluster.specs.Sane.{IsSane}
use Rattle.fr_cluster.specs.Values.{Values}
use Rattle.fr_params.specs.Files.{params_file}
use Rattle.fr_params.specs.Upgrades.{AcceptedAreSane}
use Rattle.fr_text.specs.Defined.{DefinesOneStatus}
use Rattle.fr_text.specs.Kind.{HasOneAnswer, HasSomeAnswer}
use Rattle.fr_text.proofs.Defining.{one_status, some_status}
use Rattle.fr_trace.specs.Files.{trace_file}
use Rattle.fr_trace.specs.Sound.{IsSoundTrace}
use Rattle.fr_trace.specs.Trace.{TraceView}
use Rattle.fr_trace.proofs.TraceSound.{sound_trace}
use Rattle.fr_verdict.specs.Answer.{IsJudgement, OneAnswer, SomeAnswer}
use Rattle.fr_verdict.specs.Precision.{CheckedTracesKeepPrecision}
use Rattle.fr_verdict.specs.declared.unlawful.Unlawful.{Unlawful}
use Rattle.fr_verdict.specs.declared.unlawful.Verdict.{Verdict}
use Rattle.fr_check.specs.CheckAnswer.{IsUnlawfulSaid, IsVerdictText, check_files}
use Rattle.fr_check.specs.UnlawfulText.{unlawful_text}
use Rattle.fr_check.specs.VerdictText.{verdict_text}

-- a trace that is judged passes or does not, and its text or its line is defined
judged : SomeAnswer → CheckedTracesKeepPrecision → (p : Values) (t : TraceView) → IsSane p → IsSoundTrace p t → ((written : List ℕ) × IsVerdictText p t written) ⊎ ((said : List ℕ) × IsUnlawfulSaid p t said)
judged some keep p t sane sound = let found = some p t sane sound.is in by found.0 found.1
  where
    by : (a : Result Verdict Unlawful) → IsJudgement p t a → ((written : List ℕ) × IsVerdictText p t written) ⊎ ((said : List ℕ) × IsUnlawfulSaid p t said)
    by (Ok verdict) is = inl (verdict_text p t verdict, record { verdict = verdict; answered = is; precise = keep p t verdict sane sound.is sound.fits is; shown = refl })
    by (Err why) is = inr (unlawful_text why, record { why = why; answered = is; shown = refl })

pub check_status : HasOneAnswer params_file → HasSomeAnswer params_file → ((p : Values) → HasOneAnswer (trace_file p)) → ((p : Values) → HasSomeAnswer (trace_file p)) → AcceptedAreSane
    → OneAnswer → SomeAnswer → CheckedTracesKeepPrecision → DefinesOneStatus check_files 2
check_status one some trace_one trace_some are_sane one_judgement some_judgement keep = record {
  one = one_status check_files (one, λ p. (trace_one p, λ t written said is no. absurd (let same = one_judgement p t (Ok is.verdict) (Err no.why) is.answered no.answered in cc same)));
  some = some_status check_files 2 (
    some,
    λ bytes p octets accepted.
        let sane = are_sane p bytes accepted.accepted in
        (trace_some p, λ traced t octets_too fits. (refl, judged some_judgement keep p t sane (sound_trace p t traced sane fits.accepted))),
  );
}
