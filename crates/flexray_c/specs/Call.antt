-- How a call of C ends: with the program's own answer, or for want of memory.
use Rattle.std.specs.Prelude.{◌≡◌, ℕ, ◌⊎◌, List, [], IsTrue}
use Rattle.fr_base.specs.Device.{Shelved}
use Rattle.fr_text.specs.declared.status.Status.{Status}
use Rattle.fr_text.specs.declared.status.Status.TheVariants as status
use Rattle.fr_program.specs.Around.{around_of}
use Rattle.fr_program.specs.Failure.{WritesNothing}
use Rattle.fr_program.specs.Program.{IsProgramAnswer, IsProgramComplete, Program}
use Rattle.flexray_c.specs.Kept.{kept}
use Rattle.flexray_c.specs.Lent.{is_lent}
use Rattle.flexray_c.specs.Shown.{IsHandedOver, IsUnanswered, Places}

-- the program's own answer to these words, of these files and to sinks that take all: its text, its line and its status are handed
-- over. Of the files that are there no fault was counted
pub record IsAnswered {Asked : Type 0} (program : Program Asked) (words : List (List ℕ)) (files : Shelved) (places : Places) (result : ℕ) : Type 0 where
  pub left : Shelved
  pub faultless : (name : List ℕ) → IsTrue (is_lent name) → left.faults name ≡ 0
  pub text : List ℕ
  pub line : List ℕ
  pub answer : Status
  pub answers : IsProgramAnswer program words (around_of files left (kept []) (kept text)) (kept []) (kept line) answer
  pub complete : IsProgramComplete program words (around_of files left (kept []) (kept text)) answer
  pub unwritten : WritesNothing answer → text ≡ []
  pub untold : answer ≡ status.Done → line ≡ []
  pub handed_over : IsHandedOver answer text line places result

-- how a call ends
abbrev pub CallEnds : {Asked : Type 0} → Program Asked → List (List ℕ) → Shelved → Places → ℕ → Type 0
CallEnds program words files places result = IsAnswered program words files places result ⊎ IsUnanswered places result
