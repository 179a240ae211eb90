-- The bytes of a file decide its upgrade.
use Rattle.std.proofs.Common.{sym, ◌∙◌}
use Rattle.fr_params.specs.Files.{params_file}
use Rattle.fr_text.proofs.Commands.{decided}
use Rattle.fr_text.specs.Files.{IsDecided}
use Rattle.fr_text.specs.Kind.{HasOneAnswer}
use Rattle.fr_params.specs.UpgradeAnswer.{upgrade_files}

pub one_upgrade : HasOneAnswer params_file → IsDecided upgrade_files
one_upgrade one = decided upgrade_files (one, λ p written again is more. is.shown ∙ sym more.shown)
