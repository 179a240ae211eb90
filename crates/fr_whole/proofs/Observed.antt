-- The bytes of parameters and of a log decide what is told of it, and define one status.
use Rattle.std.proofs.Common.{inl, refl, sym, ◌∙◌}
use Rattle.fr_cluster.specs.Values.{Values}
use Rattle.fr_log.specs.Files.{log_file}
use Rattle.fr_findings.specs.Text.{observe_text}
use Rattle.fr_log.specs.View.{LogView}
use Rattle.fr_params.specs.Files.{params_file}
use Rattle.fr_text.proofs.Commands.{decided}
use Rattle.fr_text.proofs.Defining.{one_status, some_status}
use Rattle.fr_text.specs.Defined.{DefinesOneStatus}
use Rattle.fr_text.specs.Files.{IsDecided}
use Rattle.fr_text.specs.Kind.{HasOneAnswer, HasSomeAnswer}
use Rattle.fr_whole.specs.ObserveAnswer.{observe_files}
use Rattle.fr_whole.specs.ObservedText.{IsObservedText}

pub one_observation : HasOneAnswer params_file → ((p : Values) → HasOneAnswer (log_file p)) → IsDecided observe_files
one_observation params_one log_one = decided observe_files (params_one, λ p. (log_one p, λ l written again is more. is.shown ∙ sym more.shown))

pub observe_status : HasOneAnswer params_file → HasSomeAnswer params_file → ((p : Values) → HasOneAnswer (log_file p)) → ((p : Values) → HasSomeAnswer (log_file p))
    → ((p : Values) (l : LogView) → IsObservedText p l (observe_text p l)) → DefinesOneStatus observe_files 2
observe_status one some log_one log_some so = record {
  one = one_status observe_files (one, λ p. (log_one p, λ l written said is never. never));
  some = some_status observe_files 2 (some, λ bytes p octets accepted. (log_some p, λ log l octets_too fits. (refl, inl (observe_text p l, so p l))));
}
