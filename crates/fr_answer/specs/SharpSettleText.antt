-- The five lines of how long until in sharp sync, without arbitrary sync nodes and beside them.
use Rattle.std.specs.Prelude.{ℕ, ℤ, Bool, true, false, List, ◌++◌, codes, Option, Some, None}
use Rattle.std.specs.Fmt.{decimal, signed_decimal}
use Rattle.fr_promise.specs.declared.way.SharpWay.{SharpWay}
use Rattle.fr_text.specs.Pieces.{line}
use Rattle.fr_answer.specs.SharpText.{kind_text}

-- what was stated, in ticks
abbrev pub sharp_stated_line : ℕ → ℕ → ℕ → List ℕ
sharp_stated_line start rate flutter =
    line (codes "start " ++ decimal start ++ codes " rate " ++ decimal rate ++ codes " flutter " ++ decimal flutter)

-- how far macroticks may lie apart on the way, in ticks
abbrev pub sharp_peak_line : Bool → ℕ → List ℕ
sharp_peak_line beside peak = line (kind_text beside ++ codes "peak " ++ decimal peak)

-- a check that fails, with both sides
abbrev pub sharp_failing_line : Bool → ℕ → ℤ → ℤ → List ℕ
sharp_failing_line beside number left right = line (
    kind_text beside ++ codes "settles no check " ++ decimal number ++ codes " " ++ signed_decimal left ++ codes " " ++ signed_decimal right
    )

-- the double cycle in sharp sync where every check for the way holds, else the first that fails
abbrev pub sharp_verdict_line : Bool → ℕ → Option (ℕ × ℤ × ℤ) → List ℕ
sharp_verdict_line beside doubles None = line (kind_text beside ++ codes "settles " ++ decimal doubles)
sharp_verdict_line beside doubles (Some failed) = sharp_failing_line beside failed.0 failed.1 failed.2

abbrev pub sharp_settle_text : ℕ → ℕ → ℕ → SharpWay × SharpWay → List ℕ
sharp_settle_text start rate flutter ways =
    sharp_stated_line start rate flutter
    ++ sharp_peak_line false ways.0.peak
    ++ sharp_verdict_line false ways.0.doubles ways.0.failed
    ++ sharp_peak_line true ways.1.peak
    ++ sharp_verdict_line true ways.1.doubles ways.1.failed
