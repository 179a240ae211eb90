-- That whatever the words of `flexray` ask for has one status.
use Rattle.std.specs.Prelude.{ℕ, List, length}
use Rattle.fr_text.specs.Defined.{DefinesOneStatus}
use Rattle.fr_answer.specs.Answer.{command_of}
use Rattle.fr_answer.specs.Request.{Asked, AsksFor}

-- where words ask for something, the bytes of as many files as it names define one status
abbrev pub HasOneStatusEach : Type 0
HasOneStatusEach =
    (words : List (List ℕ)) (asked : Asked) → AsksFor words asked
    → DefinesOneStatus (command_of asked).files (length (command_of asked).names)
