-- Upgrading an upgraded file gives the same bytes.
use Rattle.std.proofs.Common.{◌≡◌, ℕ, List, Result, Ok, ap}
use Rattle.fr_text.specs.Kind.{HasOneAnswer}
use Rattle.fr_cluster.specs.Sane.{IsSane}
use Rattle.fr_cluster.specs.Values.{Values}
use Rattle.fr_params.specs.Files.{IsParamsFile, params_file}
use Rattle.fr_params.specs.declared.fault.ParamFault.{ParamFault}
use Rattle.fr_params.proofs.UpgradedAccepted.{texts-accepted}
use Rattle.fr_params.proofs.Channels.{accepted-on}
use Rattle.fr_params.specs.Texts.{upgraded_text}
use Rattle.fr_params.specs.Upgrades.{AcceptedAreSane, FilesAreUpgraded, IsUpgraded}

-- bytes stand for one value at most
one-value : HasOneAnswer params_file → (bytes : List ℕ) (p q : Values) → IsParamsFile p bytes → IsParamsFile q bytes → q ≡ p
one-value one bytes p q here there =
    let first : Result Values ParamFault = Ok q in
    let second : Result Values ParamFault = Ok p in
    let same : first ≡ second = one bytes first second (λ e. cc e) (λ e. cc e) there here in
    cc same

pub files-upgraded : HasOneAnswer params_file → (p : Values) (bytes : List ℕ) → IsSane p → IsParamsFile p bytes → IsUpgraded p (upgraded_text p)
files-upgraded one p bytes sane accepted =
    let again = texts-accepted p sane (accepted-on p bytes accepted) in
    record {
      accepted = again;
      alone = λ q there. one-value one (upgraded_text p) p q again there;
      again = λ q there. ap upgraded_text (one-value one (upgraded_text p) p q again there);
    }

pub all-upgraded : HasOneAnswer params_file → AcceptedAreSane → FilesAreUpgraded
all-upgraded one sane p bytes accepted = files-upgraded one p bytes (sane p bytes accepted) accepted
