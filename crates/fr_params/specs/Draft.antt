-- What the tables under construction hold of the records so far.
use Rattle.std.specs.Prelude.{ℕ, ℤ, pos, ◌≡◌, ◌<◌, true, false, List, [], ◌∷◌, length, Option, Some, None, IsSome, Result, Ok, slice_index_or}
use Rattle.fr_base.specs.declared.reason.Reason.{Reason}
use Rattle.fr_text.specs.Records.{FileRecord, records_of}
use Rattle.fr_text.specs.Refusal.{NoneRefused}
use Rattle.fr_text.specs.Takes.{TakesRow}
use Rattle.fr_params.specs.Names.{place}
use Rattle.fr_cluster.specs.Ranges.{InRange, IsProperNode, IsProperSlot, has_turn, is_keyless_starter}
use Rattle.fr_params.specs.Reasons.{value_at, node_at, slot_at, param_reason_after, param_row_reason}
use Rattle.fr_params.specs.Rows.{param_row_of}
use Rattle.fr_params.specs.Versions.{name_at, row_name, version_by, version_of}
use Rattle.fr_params.specs.declared.rows.Row.{Row}
use Rattle.fr_cluster.specs.declared.names.ParamName.{ParamName}
use Rattle.fr_params.specs.declared.names.Version.{Version}
use Rattle.fr_params.specs.declared.names.Version.TheVariants.{One}
use Rattle.fr_cluster.specs.declared.nodes.NodeSpec.{NodeSpec}
use Rattle.fr_cluster.specs.declared.nodes.SlotSpec.{SlotSpec}
use Rattle.fr_params.specs.declared.draft.Draft.{Draft}
use Rattle.fr_params.specs.declared.draft.Tables.{Tables}

-- what a table has at a place
abbrev pub entry : {A : Type 0} → List (Option A) → ℕ → Option A
entry table k = slice_index_or table k None

-- a table of a size has at each place what the records say of it
pub record Shows {A : Type 0} (table : List (Option A)) (size : ℕ) (said : ℕ → List FileRecord → Option A) (records : List FileRecord) : Type 0 where
  pub long : length table ≡ size
  pub same : (k : ℕ) → k < size → entry table k ≡ said k records

-- the values lie in their ranges
abbrev pub AreRanged : List (Option ℤ) → Type 0
AreRanged values = (n : ParamName) (v : ℤ) → entry values (place n) ≡ Some v → InRange n v

-- the nodes stand at their numbers, and a coldstart node has a key slot
pub record IsNodeAt (k : ℕ) (node : NodeSpec) : Type 0 where
  pub at : node.id ≡ k
  pub proper : IsProperNode node
  pub starts : is_keyless_starter node ≡ false

abbrev pub AreNodes : List (Option NodeSpec) → Type 0
AreNodes nodes = (k : ℕ) (node : NodeSpec) → entry nodes k ≡ Some node → IsNodeAt k node

-- the slots stand at their numbers, their nodes are there, and base and repetition go together
pub record IsSlotAt (nodes : List (Option NodeSpec)) (k : ℕ) (slot : SlotSpec) : Type 0 where
  pub at : slot.slot ≡ k
  pub proper : IsProperSlot slot
  pub turn : has_turn slot ≡ true
  pub known : IsSome (entry nodes slot.node)

abbrev pub AreSlots : List (Option NodeSpec) → List (Option SlotSpec) → Type 0
AreSlots nodes slots = (k : ℕ) (slot : SlotSpec) → entry slots k ≡ Some slot → IsSlotAt nodes k slot

-- the tables hold what the records say, as those of a file of a version
pub record AreTables (version : Version) (tables : Tables) (records : List FileRecord) : Type 0 where
  pub values : Shows tables.values 21 (value_at version) records
  pub nodes : Shows tables.nodes 65 (node_at version) records
  pub slots : Shows tables.slots 1024 (slot_at version) records
  pub ranged : AreRanged tables.values
  pub numbered : AreNodes tables.nodes
  pub taken : AreSlots tables.nodes tables.slots

-- the version that the first record says, none before it
abbrev pub version_seen : List FileRecord → Option Version
version_seen [] = None
version_seen (first ∷ rest) = Some (version_by first)

-- the version of a file of which this was seen: where no record follows it is the first
abbrev pub version_told : Option Version → Version
version_told None = One
version_told (Some version) = version

-- the version of a file of which this was seen and this record follows
abbrev pub version_after : Option Version → FileRecord → Version
version_after None r = version_by r
version_after (Some version) r = version

-- the version and the tables hold what the records say
pub record IsParamsDraft (draft : Draft) (records : List FileRecord) : Type 0 where
  pub version : draft.version ≡ version_seen records
  pub tables : AreTables (version_of records) draft.tables records

-- a row is refused for its reason, or held after the records so far, of whichever version; it takes no memory
abbrev pub TakesParamRow : Tables → Tables → Row → Option Reason → Type 0
TakesParamRow before after row why =
    let answer : Result (Option Reason) (Unit {0}) = Ok why in
    (version : Version) → TakesRow (AreTables version) (param_row_of version) (param_row_reason version) before after row answer

-- the draft holds what the records of a file say, of which none is refused
pub record IsDraftOf (draft : Draft) (bytes : List ℕ) : Type 0 where
  pub none : NoneRefused param_reason_after (records_of bytes)
  pub holds : IsParamsDraft draft (records_of bytes)

-- each number of the table of version 2 is that of its row
abbrev pub AreNumbers : Version → List (Option ℤ) → List ℤ → Type 0
AreNumbers version values numbers = (k : ℕ) → k < 20 → entry values (place (row_name version (name_at k))) ≡ Some (slice_index_or numbers k (pos 0))
