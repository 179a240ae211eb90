-- The text of the parameters that a shelf has is that of an upgraded file.
use Rattle.std.proofs.Common.{ℕ, List, refl}
use Rattle.fr_base.specs.Device.{Shelved}
use Rattle.fr_cluster.specs.Values.{Values}
use Rattle.fr_params.proofs.Outcomes.{reads-same}
use Rattle.fr_params.specs.Files.{params_file}
use Rattle.fr_text.specs.Kind.{Has}
use Rattle.fr_params.proofs.Again.{files-upgraded}
use Rattle.fr_params.specs.Texts.{upgraded_text}
use Rattle.fr_params.specs.UpgradeAnswer.{IsUpgrade}

pub upgrade_of : (file : List ℕ) (shelf : Shelved) (p : Values) → Has params_file shelf file p → IsUpgrade p (upgraded_text p)
upgrade_of file shelf p has = record { shown = refl; upgraded = files-upgraded reads-same p has.bytes has.sound has.accepted }
