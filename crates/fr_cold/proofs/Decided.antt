-- The bytes of files decide the text of their startup.
use Rattle.std.proofs.Common.{sym, ◌∙◌}
use Rattle.fr_cluster.specs.Values.{Values}
use Rattle.fr_cold.specs.Files.{power_file}
use Rattle.fr_params.specs.Files.{params_file}
use Rattle.fr_text.proofs.Commands.{decided}
use Rattle.fr_text.specs.Files.{IsDecided}
use Rattle.fr_text.specs.Kind.{HasOneAnswer}
use Rattle.fr_cold.specs.ColdAnswer.{cold_files}

pub one_startup : HasOneAnswer params_file → ((p : Values) → HasOneAnswer (power_file p)) → IsDecided cold_files
one_startup params_one power_one = decided cold_files (params_one, λ p. (power_one p, λ v written again is more. is.shown ∙ sym more.shown))
