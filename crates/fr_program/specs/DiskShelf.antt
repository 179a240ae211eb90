-- What a shelf over a file system counts.
use Rattle.std.specs.Prelude.{ℕ, None}
use Rattle.fr_base.specs.Device.{Shelved}
use Rattle.fr_program.specs.declared.adapters.DiskShelf.{DiskShelf}

-- how many faults were counted, of all names
abbrev pub disk_faults : {R F E : Type 0} → DiskShelf R F E → ℕ
disk_faults shelf = shelf.faults

-- it tells no content and no name that was asked for, and has one count of faults for all names
abbrev pub disk_state : {R F E : Type 0} → DiskShelf R F E → Shelved
disk_state shelf = record { held = λ _. None; faults = λ _. disk_faults shelf; asked = None }
