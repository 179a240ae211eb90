-- The sixteen lines of the sharper bounds and checks of a cluster, without arbitrary sync nodes and beside them, where delays
-- flutter by no more than so many ticks.
use Rattle.std.specs.Prelude.{ℕ, Bool, true, false, if◌then◌else◌, List, ◌++◌, codes, Option, Some, None}
use Rattle.std.specs.Fmt.{decimal}
use Rattle.fr_cluster.specs.Values.{Values}
use Rattle.fr_bound.specs.Checks.{holds_of}
use Rattle.fr_bound.specs.SharpBounds.{sharp_lambda, sharp_near, sharp_pi, sharp_precision}
use Rattle.fr_bound.specs.SharpChecks.{sharp_holds_of, sharp_left_of, sharp_right_of}
use Rattle.fr_promise.specs.HeldWalks.{lasts_by}
use Rattle.fr_text.specs.Pieces.{line}
use Rattle.fr_answer.specs.BoundText.{holds_text}

-- a check by its number, with both sides, behind a text in front
abbrev pub sharp_check_line : List ℕ → Bool → ℕ → ℕ → Values → List ℕ
sharp_check_line front beside flutter number p = line (
    front ++ codes "C" ++ decimal number ++ holds_text (sharp_holds_of number flutter (sharp_near beside p flutter) p)
    ++ decimal (sharp_left_of number p) ++ codes " " ++ decimal (sharp_right_of number flutter (sharp_near beside p flutter) p)
    )

-- for how many double cycles: so many, or on and on
abbrev pub lasting_text : Option ℕ → List ℕ
lasting_text None = line (codes "lasts on")
lasting_text (Some doubles) = line (codes "lasts " ++ decimal doubles)

-- for as many as sharp sync lasts, or, where frames may be lost, as the rate limit holds the walk of lengths; and for none where the
-- second check fails
abbrev pub lasts_text : Bool → Values → ℕ → List ℕ
lasts_text heard p flutter = lasting_text (if holds_of 2 p then lasts_by heard p flutter else Some 0)

-- which kind of cluster a line is of
abbrev pub kind_text : Bool → List ℕ
kind_text false = codes "alone "
kind_text true = codes "beside "

-- the three bounds of a kind, in ticks
abbrev pub lambda_line : Bool → Values → ℕ → List ℕ
lambda_line beside p flutter = line (kind_text beside ++ codes "lambda " ++ decimal (sharp_lambda beside p flutter))

abbrev pub pi_line : Bool → Values → ℕ → List ℕ
pi_line beside p flutter = line (kind_text beside ++ codes "pi " ++ decimal (sharp_pi beside p flutter))

abbrev pub precision_line : Bool → Values → ℕ → List ℕ
precision_line beside p flutter = line (kind_text beside ++ codes "precision " ++ decimal (sharp_precision beside p flutter))

-- the flutter, and the bounds of both kinds
abbrev pub sharp_bounds_text : Values → ℕ → List ℕ
sharp_bounds_text p flutter =
    line (codes "flutter " ++ decimal flutter)
    ++ lambda_line false p flutter
    ++ pi_line false p flutter
    ++ precision_line false p flutter
    ++ lambda_line true p flutter
    ++ pi_line true p flutter
    ++ precision_line true p flutter

-- the five checks, of which the first two are the same for both kinds, and how long sharp sync lasts
abbrev pub sharp_checks_text : Values → ℕ → List ℕ
sharp_checks_text p flutter =
    sharp_check_line (codes "") false flutter 1 p
    ++ sharp_check_line (codes "") false flutter 2 p
    ++ sharp_check_line (kind_text false) false flutter 3 p
    ++ sharp_check_line (kind_text false) false flutter 4 p
    ++ sharp_check_line (kind_text false) false flutter 5 p
    ++ sharp_check_line (kind_text true) true flutter 3 p
    ++ sharp_check_line (kind_text true) true flutter 4 p
    ++ sharp_check_line (kind_text true) true flutter 5 p
    ++ lasts_text true p flutter

unfoldable pub sharp_text : Values → ℕ → List ℕ
sharp_text p flutter = sharp_bounds_text p flutter ++ sharp_checks_text p flutter
