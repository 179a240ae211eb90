-- A command: files by their names. How it ends, and the status that their bytes define.
use Rattle.std.specs.Prelude.{◌≡◌, ℕ, List, []}
use Rattle.fr_base.specs.Device.{Asks, AsksFront, Rose, Shelved}
use Rattle.fr_text.specs.Files.{AreFaultless, AreTold, Files, IsStatusOf, IsTextOf, StopsIn}
use Rattle.fr_text.specs.declared.status.Status.{Status}
use Rattle.fr_program.specs.Around.{Around, Ending, TextEnds}

-- the names of its files, and what it reads under them
pub record Command : Type 1 where
  pub names : List (List ℕ)
  pub files : Files

-- a text of its files; their names were asked for, all of them in their order, and no other
pub record IsCommandText (command : Command) (before after : Shelved) (written : List ℕ) : Type 0 where
  pub is_text : IsTextOf command.files command.names before written
  pub asked : Asks before.asked after.asked command.names

-- how it ends: with a text of its files, or a front of one where the sink failed, or a stop at the first file that is not accepted
-- or behind all of them
abbrev pub CommandEnds : Command → Around → Ending → Type 0
CommandEnds command around ending =
    TextEnds (IsCommandText command around.shelf_before around.shelf_after) (StopsIn command.files [] command.names around.shelf_before around.shelf_after) around.out_before around.out_after ending

-- a front of these names was asked for, and no other; and where there are none the shelf is as it was
pub record AreLoads (names : List (List ℕ)) (before after : Shelved) : Type 0 where
  pub asked : AsksFront before.asked after.asked names
  pub stays : names ≡ [] → after ≡ before

-- the status is one that the bytes of the files define, where they are told and no fault is counted, of them or of the first sink
abbrev pub IsComplete : Command → Around → Status → Type 0
IsComplete command around answer =
    (bytes : List (List ℕ)) → AreTold command.names around.shelf_before bytes → AreFaultless command.names around.shelf_before around.shelf_after
    → (Rose around.out_before.faults around.out_after.faults → ⊥) → IsStatusOf command.files bytes answer
