-- Files of which all bytes are accepted.
use Rattle.std.specs.Prelude.{◌≡◌, ℕ, List}
use Rattle.fr_base.specs.Device.{Shelved}
use Rattle.fr_text.specs.Kind.{Kind, StopsAt}
use Rattle.fr_text.specs.Told.{stop_text, stop_told}
use Rattle.fr_text.specs.declared.kind.Stop.{Stop}
use Rattle.fr_text.specs.declared.told.Told.{Told}

-- the kind of such a file, which stands for its bytes
abbrev pub any_file : Kind (List ℕ) (Unit {0})
any_file = record { is_file_of = λ value bytes. value ≡ bytes; refuses = λ bytes fault. ⊥; is_sound = λ value. Unit {0}; no_memory = tt }

-- what is said of a stop at it, by what it is called: that it is refused is never said
abbrev pub unread_text : List ℕ → Stop (Unit {0}) → List ℕ
unread_text role = stop_text role (λ front fault. front)

-- a stop at it, told so
pub record IsUnread (role file : List ℕ) (before after : Shelved) (why : Told) : Type 0 where
  pub stop : Stop (Unit {0})
  pub stops : StopsAt any_file before after file stop
  pub told : why ≡ stop_told (unread_text role) stop
