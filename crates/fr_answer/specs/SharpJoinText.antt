-- The ten lines of the sharper reach and checks of a cluster that nodes join, without arbitrary sync nodes and beside them, behind
-- those of each cluster.
use Rattle.std.specs.Prelude.{ℕ, Bool, true, false, List, ◌++◌, codes, Option, Some, None}
use Rattle.std.specs.Fmt.{decimal}
use Rattle.fr_cluster.specs.Values.{Values}
use Rattle.fr_bound.specs.Checks.{left_of}
use Rattle.fr_promise.specs.JoinedHistories.{first_rates_last}
use Rattle.fr_promise.specs.SharpJoining.{sharp_join_holds_of, sharp_join_right_of, sharp_reach}
use Rattle.fr_text.specs.Pieces.{line}
use Rattle.fr_answer.specs.BoundText.{holds_text}
use Rattle.fr_answer.specs.SharpText.{kind_text, sharp_text}

-- how far action points of a node that follows may lie from those of the others, in ticks
abbrev pub sharp_reach_line : Bool → Values → ℕ → List ℕ
sharp_reach_line beside p flutter = line (kind_text beside ++ codes "reach " ++ decimal (sharp_reach beside p flutter))

-- a check by its number, from 6 to 9, with both sides, behind a text in front
abbrev pub sharp_join_check_line : List ℕ → Bool → ℕ → ℕ → Values → List ℕ
sharp_join_check_line front beside flutter number p = line (
    front ++ codes "C" ++ decimal number ++ holds_text (sharp_join_holds_of number beside flutter p)
    ++ decimal (left_of number p) ++ codes " " ++ decimal (sharp_join_right_of number beside flutter p)
    )

-- for how many double cycles: so many, or on and on
abbrev pub first_rates_text : Option ℕ → List ℕ
first_rates_text None = line (codes "first rates last on")
first_rates_text (Some doubles) = line (codes "first rates last " ++ decimal doubles)

-- the reach of both kinds, the four checks, of which the first is the same for both, and for how many double cycles the rate limit
-- suffices for the rate that a node begins to follow with
abbrev pub sharp_reach_text : Values → ℕ → List ℕ
sharp_reach_text p flutter =
    sharp_reach_line false p flutter
    ++ sharp_reach_line true p flutter
    ++ sharp_join_check_line (codes "") false flutter 6 p
    ++ sharp_join_check_line (kind_text false) false flutter 7 p
    ++ sharp_join_check_line (kind_text false) false flutter 8 p
    ++ sharp_join_check_line (kind_text false) false flutter 9 p
    ++ sharp_join_check_line (kind_text true) true flutter 7 p
    ++ sharp_join_check_line (kind_text true) true flutter 8 p
    ++ sharp_join_check_line (kind_text true) true flutter 9 p
    ++ first_rates_text (first_rates_last p flutter)

unfoldable pub sharp_with_join_text : Values → ℕ → List ℕ
sharp_with_join_text p flutter = sharp_text p flutter ++ sharp_reach_text p flutter
