-- What a request for how long until in sync reads, and writes.
use Rattle.std.specs.Prelude.{◌≡◌, ℕ, true, false, List, [], ◌∷◌, pos, ◌≤ℤ◌, nat_abs}
use Rattle.fr_bound.specs.Settling.{IsPeakTo, IsSettleVerdict, SettlesAt}
use Rattle.fr_bound.specs.declared.settling.Settling.{Settling}
use Rattle.fr_cluster.specs.Values.{Values}
use Rattle.fr_promise.specs.declared.way.SharpWay.{SharpWay}
use Rattle.fr_promise.specs.SharpWay.{IsSharpWay}
use Rattle.fr_params.specs.Files.{params_file}
use Rattle.fr_params.specs.Told.{params_says}
use Rattle.fr_program.specs.Command.{Command}
use Rattle.fr_text.specs.Files.{Files, IsNeverSaid, file, text}
use Rattle.fr_answer.specs.SettleText.{settle_text}
use Rattle.fr_answer.specs.SharpSettleText.{sharp_settle_text}

-- these are the double cycle from which on clocks that begin so far apart are in sync for certain, the peak up to it, and the
-- first check for the way that fails; they may be in sync sooner
pub record IsSettlingFor (p : Values) (start rate : ℕ) (s : Settling) : Type 0 where
  pub settles : SettlesAt p start rate s.doubles
  pub peak : IsPeakTo p start rate s.doubles (nat_abs s.peak)
  pub from : pos 0 ≤ℤ s.peak
  pub failed : IsSettleVerdict p (nat_abs s.peak) s.failed

-- a text is the lines of it
pub record IsSettling (p : Values) (start rate : ℕ) (text : List ℕ) : Type 0 where
  pub settling : Settling
  pub is : IsSettlingFor p start rate settling
  pub shown : text ≡ settle_text start rate settling

-- that of the parameters in a file
abbrev pub settle_files : ℕ → ℕ → Files
settle_files start rate = file params_file params_says (λ (p : Values). text (IsSettling p start rate) IsNeverSaid)

abbrev pub settle_command : List ℕ → ℕ → ℕ → Command
settle_command name start rate = record { names = name ∷ []; files = settle_files start rate }

-- the ways to sharp sync where delays flutter so much, without arbitrary sync nodes and beside them
pub record AreSharpWays (p : Values) (start rate flutter : ℕ) (ways : SharpWay × SharpWay) : Type 0 where
  pub alone : IsSharpWay false p flutter start rate ways.0
  pub beside : IsSharpWay true p flutter start rate ways.1

-- a text is the lines of them
pub record IsSharpSettling (p : Values) (start rate flutter : ℕ) (text : List ℕ) : Type 0 where
  pub ways : SharpWay × SharpWay
  pub are : AreSharpWays p start rate flutter ways
  pub shown : text ≡ sharp_settle_text start rate flutter ways

-- those of the parameters in a file
abbrev pub sharp_settle_files : ℕ → ℕ → ℕ → Files
sharp_settle_files start rate flutter =
    file params_file params_says (λ (p : Values). text (IsSharpSettling p start rate flutter) IsNeverSaid)

abbrev pub sharp_settle_command : List ℕ → ℕ → ℕ → ℕ → Command
sharp_settle_command name start rate flutter = record { names = name ∷ []; files = sharp_settle_files start rate flutter }
