-- The three lines of how long until in sync.
use Rattle.std.specs.Prelude.{ℕ, ℤ, List, ◌++◌, codes, Option, Some, None}
use Rattle.std.specs.Fmt.{decimal, signed_decimal}
use Rattle.fr_bound.specs.declared.settling.Settling.{Settling}
use Rattle.fr_text.specs.Pieces.{line}

-- what was stated, in ticks
abbrev pub stated_line : ℕ → ℕ → List ℕ
stated_line start rate = line (codes "start " ++ decimal start ++ codes " rate " ++ decimal rate)

-- how far macroticks may lie apart on the way, in ticks
abbrev pub apart_line : ℤ → List ℕ
apart_line peak = line (codes "peak " ++ signed_decimal peak)

-- a check that fails, with both sides
abbrev pub failing_line : ℕ → ℤ → ℤ → List ℕ
failing_line number left right =
    line (codes "settles no check " ++ decimal number ++ codes " " ++ signed_decimal left ++ codes " " ++ signed_decimal right)

-- the double cycle in sync where every check for the way holds, else the first that fails
abbrev pub verdict_line : ℕ → Option (ℕ × ℤ × ℤ) → List ℕ
verdict_line doubles None = line (codes "settles " ++ decimal doubles)
verdict_line doubles (Some failed) = failing_line failed.0 failed.1 failed.2

abbrev pub settle_text : ℕ → ℕ → Settling → List ℕ
settle_text start rate s = stated_line start rate ++ apart_line s.peak ++ verdict_line s.doubles s.failed
