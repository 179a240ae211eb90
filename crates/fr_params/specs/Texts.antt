-- The text of parameters as a file of version 2: numbers without leading zeros, and empty the fields that a form leaves empty.
use Rattle.std.specs.Prelude.{ℕ, Bool, true, false, List, [], ◌∷◌, ◌++◌, Option, Some, None, codes, map}
use Rattle.std.specs.Fmt.{decimal}
use Rattle.fr_text.specs.Records.{FileRecord}
use Rattle.fr_params.specs.Names.{word_of}
use Rattle.fr_cluster.specs.Values.{Values, amount}
use Rattle.fr_cluster.specs.declared.names.ParamName.{ParamName}
use Rattle.fr_params.specs.declared.names.TheConstants.{NAMES_OF_TWO}
use Rattle.fr_cluster.specs.declared.nodes.NodeSpec.{NodeSpec}
use Rattle.fr_cluster.specs.declared.nodes.SlotSpec.{SlotSpec}
use Rattle.fr_text.specs.Texts.{text_of_records}

-- `version,2,,,`
abbrev pub version_record : FileRecord
version_record = codes "version" ∷ codes "2" ∷ [] ∷ [] ∷ [] ∷ []

-- `param,NAME,VALUE,,`
abbrev pub param_record : Values → ParamName → FileRecord
param_record p n = codes "param" ∷ word_of n ∷ decimal (amount p n) ∷ [] ∷ [] ∷ []

-- the field of a key slot: empty where there is none
abbrev pub key_text : Option ℕ → List ℕ
key_text None = []
key_text (Some slot) = decimal slot

-- the field of the channels: whether A is one, whether B is one
abbrev pub channels_text : Bool → Bool → List ℕ
channels_text true true = codes "AB"
channels_text true false = codes "A"
channels_text false true = codes "B"
channels_text false false = []

-- the field of a coldstart node
abbrev pub coldstart_text : Bool → List ℕ
coldstart_text true = codes "1"
coldstart_text false = codes "0"

-- `node,ID,KEY,CHANNELS,COLD`
abbrev pub node_record : NodeSpec → FileRecord
node_record node = codes "node" ∷ decimal node.id ∷ key_text node.key ∷ channels_text node.on_a node.on_b ∷ coldstart_text node.coldstart ∷ []

-- `slot,SLOT,NODE,BASE,REPETITION`
abbrev pub slot_record : SlotSpec → FileRecord
slot_record slot = codes "slot" ∷ decimal slot.slot ∷ decimal slot.node ∷ decimal slot.base ∷ decimal slot.repetition ∷ []

-- the version, then the values of names, then nodes, then further slots
abbrev pub records_with : Values → List ParamName → List NodeSpec → List SlotSpec → List FileRecord
records_with p names nodes slots = version_record ∷ (map (param_record p) names ++ (map node_record nodes ++ map slot_record slots))

-- the values in the order of the table of version 2, nodes and further slots in ascending order
abbrev pub upgraded_records : Values → List FileRecord
upgraded_records p = records_with p NAMES_OF_TWO p.nodes p.slots

unfoldable pub upgraded_text : Values → List ℕ
upgraded_text p = text_of_records (upgraded_records p)
