-- What a call finds around it, and leaves.
use Rattle.std.specs.Prelude.{ℕ, List, Result, Ok, Err}
use Rattle.fr_base.specs.Device.{PutsFront, PutsPiece, PutsWhole, Shelved, Sunk}
use Rattle.fr_base.specs.declared.sink.PutFault.{PutFault}
use Rattle.fr_text.specs.declared.told.Told.{Told}
use Rattle.fr_program.specs.declared.failure.Failure.{Failure}
use Rattle.fr_program.specs.declared.failure.Failure.TheVariants.{Usage, Stopped, WriteFault}

-- the shelf and the first sink, before and after
pub record Around : Type 0 where
  pub shelf_before : Shelved
  pub shelf_after : Shelved
  pub out_before : Sunk
  pub out_after : Sunk

abbrev pub around_of : Shelved → Shelved → Sunk → Sunk → Around
around_of shelf_before shelf_after out_before out_after = record {
  shelf_before = shelf_before;
  shelf_after = shelf_after;
  out_before = out_before;
  out_after = out_after;
}

-- how a request ends, before its status and its line
abbrev pub Ending : Type 0
Ending = Result (Unit {0}) Failure

-- a text that is defined was written whole, in puts of whole lines
pub record IsWritten (IsText : List ℕ → Type 0) (before after : Sunk) : Type 0 where
  pub text : List ℕ
  pub defined : IsText text
  pub put : PutsWhole before after text

-- it was written up to a put of some of its lines that failed, and the sink counted a fault
pub record IsCutShort (IsText : List ℕ → Type 0) (before after : Sunk) : Type 0 where
  pub text : List ℕ
  pub defined : IsText text
  pub put : PutsFront before after text

-- what an ending says where the text of the answer is such a one, and a stop means this
abbrev pub TextEnds : (List ℕ → Type 0) → (Told → Type 0) → Sunk → Sunk → Ending → Type 0
TextEnds IsText Stops before after (Ok done) = IsWritten IsText before after
TextEnds IsText Stops before after (Err WriteFault) = IsCutShort IsText before after
TextEnds IsText Stops before after (Err (Stopped why)) = Stops why
TextEnds IsText Stops before after (Err Usage) = ⊥

-- there was one put, of a line, which took it or failed, and no other
abbrev pub IsLinePut : Sunk → Sunk → List ℕ → Type 0
IsLinePut before after line = (result : Result (Unit {0}) PutFault) × PutsPiece result before after line
