-- What the text of parameters as a file of version 2 is.
use Rattle.std.specs.Prelude.{◌≡◌, ℕ, ◌||◌, true, List, All}
use Rattle.fr_cluster.specs.Sane.{IsSane}
use Rattle.fr_cluster.specs.Values.{Values}
use Rattle.fr_cluster.specs.declared.nodes.NodeSpec.{NodeSpec}
use Rattle.fr_params.specs.Files.{IsParamsFile}
use Rattle.fr_params.specs.Texts.{upgraded_text}

-- each node is on a channel
abbrev pub AreOnChannels : List NodeSpec → Type 0
AreOnChannels nodes = All (λ node. (node.on_a || node.on_b) ≡ true) nodes

-- the nodes of an accepted file are
abbrev pub AcceptedAreOnChannels : Type 0
AcceptedAreOnChannels = (p : Values) (bytes : List ℕ) → IsParamsFile p bytes → AreOnChannels p.nodes

-- and its parameters are sane
abbrev pub AcceptedAreSane : Type 0
AcceptedAreSane = (p : Values) (bytes : List ℕ) → IsParamsFile p bytes → IsSane p

-- the text is accepted as a file, and it stands for the parameters of which it is the text
abbrev pub TextsAreAccepted : Type 0
TextsAreAccepted = (p : Values) → IsSane p → AreOnChannels p.nodes → IsParamsFile p (upgraded_text p)

-- bytes are those of an upgraded file: they are accepted and stand for the parameters, and for no others, and upgrading
-- them gives the same bytes
pub record IsUpgraded (p : Values) (bytes : List ℕ) : Type 0 where
  pub accepted : IsParamsFile p bytes
  pub alone : (q : Values) → IsParamsFile q bytes → q ≡ p
  pub again : (q : Values) → IsParamsFile q bytes → upgraded_text q ≡ bytes

-- the text of the parameters of an accepted file, of either version, is that of an upgraded one
abbrev pub FilesAreUpgraded : Type 0
FilesAreUpgraded = (p : Values) (bytes : List ℕ) → IsParamsFile p bytes → IsUpgraded p (upgraded_text p)
