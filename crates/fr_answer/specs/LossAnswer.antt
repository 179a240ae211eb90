-- What a request for the costs of losses reads, and writes.
use Rattle.std.specs.Prelude.{◌≡◌, ◌≤◌, ℕ, List, [], ◌∷◌}
use Rattle.fr_cluster.specs.Values.{Values}
use Rattle.fr_sharp.specs.LossCosts.{IsCrossingCost, IsLongest, IsLossCost, IsSecondCost}
use Rattle.fr_sharp.specs.LossSteps.{most_lost}
use Rattle.fr_sharp.specs.MeetingCosts.{IsMeetingCost}
use Rattle.fr_params.specs.Files.{params_file}
use Rattle.fr_params.specs.Told.{params_says}
use Rattle.fr_program.specs.Command.{Command}
use Rattle.fr_text.specs.Files.{Files, IsNeverSaid, file, text}
use Rattle.fr_answer.specs.declared.bound_lost.LossFigures.{LossFigures}
use Rattle.fr_answer.specs.LossText.{loss_text}

-- what so many double cycles in a row cost where any frames may be lost in them and delays flutter so much, what so many odd cycles and
-- the even ones behind them do, what every second double cycle does, what each costs where lists meet and of how many senders frames may be missed so, and how many in a row the limits bear
pub record AreLossFigures (p : Values) (flutter count : ℕ) (figures : LossFigures) : Type 0 where
  pub row : IsLossCost p flutter count figures.row
  pub crossing : IsCrossingCost p flutter count figures.crossing
  pub second : IsSecondCost p flutter figures.second
  pub meeting : IsMeetingCost p flutter figures.meeting
  pub longest : IsLongest p flutter figures.longest

-- no reach of theirs is greater than any may be
pub record AreReachesSmall (figures : LossFigures) : Type 0 where
  pub row : figures.row.reach ≤ most_lost
  pub crossing : figures.crossing.reach ≤ most_lost
  pub second : figures.second.reach ≤ most_lost

-- a text is the lines of them
pub record IsLossText (p : Values) (flutter count : ℕ) (text : List ℕ) : Type 0 where
  pub figures : LossFigures
  pub are : AreLossFigures p flutter count figures
  pub shown : text ≡ loss_text p flutter count figures

-- those of the parameters in a file
abbrev pub loss_files : ℕ → ℕ → Files
loss_files flutter count = file params_file params_says (λ (p : Values). text (IsLossText p flutter count) IsNeverSaid)

abbrev pub loss_command : List ℕ → ℕ → ℕ → Command
loss_command name flutter count = record { names = name ∷ []; files = loss_files flutter count }
