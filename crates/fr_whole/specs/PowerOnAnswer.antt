-- What a request for how long from power-on to sharp sync reads, and writes.
use Rattle.std.specs.Prelude.{◌≡◌, ◌↔◌, ℕ, true, false, List, [], ◌∷◌, ◌++◌, codes, Option, Some, None}
use Rattle.std.specs.Fmt.{decimal}
use Rattle.std.specs.Option.{option_or}
use Rattle.fr_bound.specs.SharpChecks.{sharp_holds_of}
use Rattle.fr_cluster.specs.Values.{Values}
use Rattle.fr_coverage.specs.Phrases.{gap_text}
use Rattle.fr_coverage.specs.declared.gap.Gap.{Gap}
use Rattle.fr_params.specs.Files.{params_file}
use Rattle.fr_params.specs.Told.{params_says}
use Rattle.fr_program.specs.Command.{Command}
use Rattle.fr_promise.specs.SharpJoining.{sharp_reach, SharpJoinChecksHold}
use Rattle.fr_text.specs.Files.{Files, IsNeverSaid, file, text}
use Rattle.fr_text.specs.Pieces.{line}
use Rattle.fr_whole.specs.PowerOn.{leads_ticks, synced_ticks, PowerOnIsInSync}
use Rattle.fr_whole.specs.SharpGaps.{failing_at, failing_to_join}

-- without arbitrary sync nodes, the first check that fails of those that are asked: the first, and those of nodes that join
abbrev pub failing_at_start : Values → ℕ → Option Gap
failing_at_start p flutter =
    option_or (option_or (option_or (option_or (failing_at false p flutter 1) (failing_to_join true false p flutter 6))
    (failing_to_join true false p flutter 7)) (failing_to_join true false p flutter 8)) (failing_to_join true false p flutter 9)

-- ---- the lines

-- how long until all are in sharp sync, in ticks, or the check
abbrev pub all_synced_line : Values → ℕ → Option Gap → List ℕ
all_synced_line p flutter None = line (codes "alone synced " ++ decimal (synced_ticks p flutter))
all_synced_line p flutter (Some gap) = line (gap_text (codes "alone synced no ") gap)

-- the flutter that is stated, how long until a node leads, and that
abbrev pub power_on_text : Values → ℕ → List ℕ
power_on_text p flutter =
    line (codes "flutter " ++ decimal flutter) ++ line (codes "leads " ++ decimal (leads_ticks p))
    ++ all_synced_line p flutter (failing_at_start p flutter)

-- a text is the lines of some parameters; it tells no check exactly where those hold that the promise asks; and its numbers are those
-- of the promise
pub record IsPowerOnText (p : Values) (flutter : ℕ) (text : List ℕ) : Type 0 where
  pub shown : text ≡ power_on_text p flutter
  pub checked :
      (failing_at_start p flutter ≡ None)
      ↔ ((sharp_holds_of 1 flutter (sharp_reach false p flutter) p ≡ true) × SharpJoinChecksHold false flutter p)
  pub promise : PowerOnIsInSync p flutter

-- that of the parameters in a file
abbrev pub power_on_files : ℕ → Files
power_on_files flutter =
    file params_file params_says (λ (p : Values). text (IsPowerOnText p flutter) IsNeverSaid)

abbrev pub power_on_command : List ℕ → ℕ → Command
power_on_command name flutter = record { names = name ∷ []; files = power_on_files flutter }
