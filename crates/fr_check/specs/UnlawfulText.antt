-- The words for why a recorded trace is not that of a lawful and covered run.
use Rattle.std.specs.Prelude.{ℕ, ℤ, List, ◌++◌, codes}
use Rattle.std.specs.Fmt.{decimal, signed_decimal}
use Rattle.fr_base.specs.States.{state_text}
use Rattle.fr_base.specs.declared.state.State.{State}
use Rattle.fr_coverage.specs.Phrases.{gap_text}
use Rattle.fr_verdict.specs.declared.unlawful.Unlawful.{Unlawful}
use Rattle.fr_verdict.specs.declared.unlawful.Unlawful.TheVariants.{Start, Rate, Turn, Offset, Silent, Deviation, Apart, Uncovered}

-- a record with what was kept and what was expected, by the word for the law
abbrev pub kept_text : ℕ → List ℕ → ℤ → ℤ → List ℕ
kept_text number law kept wanted =
    codes "trace: record " ++ decimal number ++ law ++ signed_decimal kept ++ codes " expected " ++ signed_decimal wanted

abbrev pub turn_text : ℕ → State → State → List ℕ
turn_text number kept wanted =
    codes "trace: record " ++ decimal number ++ codes " state " ++ state_text kept ++ codes " expected " ++ state_text wanted

-- a deviation that cannot be in a state
abbrev pub silent_text : ℕ → State → List ℕ
silent_text number state = codes "trace: record " ++ decimal number ++ codes " silent " ++ state_text state

-- a deviation with the least and the greatest that is expected
abbrev pub deviation_text : ℕ → ℤ → ℤ → ℤ → List ℕ
deviation_text number kept low high =
    codes "trace: record " ++ decimal number ++ codes " deviation " ++ signed_decimal kept
    ++ codes " expected " ++ signed_decimal low ++ codes " to " ++ signed_decimal high

-- a record that is apart, with its double cycle
abbrev pub apart_text : ℕ → ℕ → List ℕ
apart_text number double = codes "trace: record " ++ decimal number ++ codes " apart " ++ decimal double

-- the first record that breaks a law, or the first gap
abbrev pub unlawful_text : Unlawful → List ℕ
unlawful_text (Start number kept wanted) = kept_text number (codes " start ") kept wanted
unlawful_text (Rate number kept wanted) = kept_text number (codes " rate ") kept wanted
unlawful_text (Turn number kept wanted) = turn_text number kept wanted
unlawful_text (Offset number kept wanted) = kept_text number (codes " offset ") kept wanted
unlawful_text (Silent number state) = silent_text number state
unlawful_text (Deviation number kept low high) = deviation_text number kept low high
unlawful_text (Apart number double) = apart_text number double
unlawful_text (Uncovered gap) = gap_text (codes "trace: not covered ") gap
