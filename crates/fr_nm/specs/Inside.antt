-- The fields of the vectors of a recording, as contracts see them.
use Rattle.fr_nm.specs.View.{VectorsView}
use Rattle.fr_nm.specs.declared.vectors.Vectors.TheInside.{Inside}

-- the list has the entries of the table: nothing is left out
abbrev pub vectors_view_of : Inside → VectorsView
vectors_view_of a = record { width = a.width; rows = a.rows.entries; frames = a.frames; ignored = a.ignored }
