-- The version of a parameter file, and what its table has to do with the numbers of a cluster.
use Rattle.std.specs.Prelude.{ℕ, Bool, ◌==◌, List, [], ◌∷◌, ◌++◌, slice_index_or, Result, Ok, Err}
use Rattle.std.specs.List.{list_any}
use Rattle.fr_base.specs.declared.reason.Reason.{Reason}
use Rattle.fr_text.specs.Records.{FileRecord}
use Rattle.fr_params.specs.Names.{names_of, place}
use Rattle.fr_cluster.specs.declared.names.ParamName.{ParamName}
use Rattle.fr_cluster.specs.declared.names.ParamName.TheVariants as name
use Rattle.fr_params.specs.declared.names.Version.{Version}
use Rattle.fr_params.specs.declared.names.Version.TheVariants.{One, Two}
use Rattle.fr_params.specs.declared.names.TheConstants.{NAMES_OF_TWO}
use Rattle.fr_params.specs.Rows.{param_row_of}
use Rattle.fr_params.specs.declared.rows.Row.{Row}
use Rattle.fr_params.specs.declared.rows.Row.TheVariants as row

-- the version of a file whose first record says this
abbrev pub version_said : Result Row Reason → Version
version_said (Ok row.Version) = Two
version_said (Ok (row.Param n v)) = One
version_said (Ok (row.Node node)) = One
version_said (Ok (row.Slot slot)) = One
version_said (Err why) = One

-- the version of a file with this first record: a `version` record says the same in files of both versions
abbrev pub version_by : FileRecord → Version
version_by first = version_said (param_row_of One first)

-- the version of a file: what its first record says
abbrev pub version_of : List FileRecord → Version
version_of [] = One
version_of (first ∷ rest) = version_by first

-- the version of a file of which these records are read and this one follows
abbrev pub version_with : List FileRecord → FileRecord → Version
version_with records r = version_of (records ++ r ∷ [])

-- whether a name is one of a version's table
abbrev pub is_of_version : Version → ParamName → Bool
is_of_version version n = list_any (λ other. place other == place n) (names_of version)

-- the name whose row has the number of a name of version 2: in a file of version 1 one row has both delay compensations
abbrev pub row_name : Version → ParamName → ParamName
row_name One name.pDelayCompensationA = name.pDelayCompensation
row_name One name.pDelayCompensationB = name.pDelayCompensation
row_name One n = n
row_name Two n = n

-- the name at a place of the table of version 2
abbrev pub name_at : ℕ → ParamName
name_at k = slice_index_or NAMES_OF_TWO k name.gMacroPerCycle
