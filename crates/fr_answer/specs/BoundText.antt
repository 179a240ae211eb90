-- The nine lines of the bounds and checks of a cluster, and the five more of one that nodes join.
use Rattle.std.specs.Prelude.{ℕ, Bool, true, false, List, ◌++◌, codes}
use Rattle.std.specs.Fmt.{decimal}
use Rattle.fr_cluster.specs.Values.{Values}
use Rattle.fr_bound.specs.Bounds.{y1_of, lambda_of, pi_of, precision_of, reach_of}
use Rattle.fr_bound.specs.Checks.{left_of, right_of, holds_of}
use Rattle.fr_text.specs.Pieces.{line}

-- whether a check holds
abbrev pub holds_text : Bool → List ℕ
holds_text true = codes " holds "
holds_text false = codes " fails "

-- a check by its number, with both sides
abbrev pub check_line : ℕ → Values → List ℕ
check_line number p =
    line (codes "C" ++ decimal number ++ holds_text (holds_of number p) ++ decimal (left_of number p) ++ codes " " ++ decimal (right_of number p))

-- the four bounds in ticks, and the five checks
abbrev pub bound_text : Values → List ℕ
bound_text p =
    line (codes "y1 " ++ decimal (y1_of p))
    ++ line (codes "lambda " ++ decimal (lambda_of p))
    ++ line (codes "pi " ++ decimal (pi_of p))
    ++ line (codes "precision " ++ decimal (precision_of p))
    ++ check_line 1 p
    ++ check_line 2 p
    ++ check_line 3 p
    ++ check_line 4 p
    ++ check_line 5 p

-- the reach in ticks, and the four checks of a cluster that nodes join
abbrev pub reach_text : Values → List ℕ
reach_text p =
    line (codes "reach " ++ decimal (reach_of p))
    ++ check_line 6 p
    ++ check_line 7 p
    ++ check_line 8 p
    ++ check_line 9 p

-- these behind those of each cluster
unfoldable pub with_join_text : Values → List ℕ
with_join_text p = bound_text p ++ reach_text p
