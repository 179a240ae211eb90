-- What is seen of a reader.
use Rattle.std.specs.Prelude.{Bool}
use Rattle.fr_program.specs.declared.watched.Watched.{Watched}

-- the reader
abbrev pub reader_of : {F : Type 0} → Watched F → F
reader_of watched = watched.reader

-- whether a read of it has failed
abbrev pub has_failed : {F : Type 0} → Watched F → Bool
has_failed watched = watched.failed
