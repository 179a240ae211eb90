-- The lines of what losses cost, without arbitrary sync nodes, where any frames may be lost in so many double cycles in a row and
-- delays flutter by no more than so many ticks.
use Rattle.std.specs.Prelude.{ℕ, zero, suc, ◌+◌, Bool, true, false, List, [], ◌++◌, codes, Option, Some, None}
use Rattle.std.specs.Fmt.{decimal}
use Rattle.fr_cluster.specs.Values.{Values}
use Rattle.fr_sharp.specs.declared.loss_costs.CrossingCost.{CrossingCost}
use Rattle.fr_sharp.specs.declared.loss_costs.SecondCost.{SecondCost}
use Rattle.fr_sharp.specs.declared.meeting_costs.MeetingCost.{MeetingCost}
use Rattle.fr_sharp.specs.LossCosts.{heard_behind, limits_hold}
use Rattle.fr_sharp.specs.Losses.{lost_apart}
use Rattle.fr_bound.specs.SharpChecks.{sharp_holds_of, sharp_left_of, sharp_right_of}
use Rattle.fr_text.specs.Pieces.{line}
use Rattle.fr_answer.specs.declared.bound_lost.LossFigures.{LossFigures}
use Rattle.fr_answer.specs.BoundText.{holds_text}
use Rattle.fr_answer.specs.SharpText.{lambda_line, lasts_text, pi_line, precision_line}

-- the flutter in ticks, the number of double cycles, and the bounds without arbitrary sync nodes
abbrev pub loss_bounds_text : Values → ℕ → ℕ → List ℕ
loss_bounds_text p flutter count =
    line (codes "flutter " ++ decimal flutter)
    ++ line (codes "lost " ++ decimal count)
    ++ lambda_line false p flutter
    ++ pi_line false p flutter
    ++ precision_line false p flutter

-- how far macroticks may lie apart in a double cycle, counted from the first that loses frames, in ticks
abbrev pub loss_apart_line : Values → ℕ → ℕ → ℕ → List ℕ
loss_apart_line p flutter count double =
    line (codes "apart " ++ decimal double ++ codes " " ++ decimal (lost_apart p flutter (heard_behind count) double))

-- so many of these lines, from one double cycle on
unfoldable pub loss_apart_lines : Values → ℕ → ℕ → ℕ → ℕ → List ℕ
loss_apart_lines p flutter count double zero = []
loss_apart_lines p flutter count double (suc lines) =
    loss_apart_line p flutter count double ++ loss_apart_lines p flutter count (suc double) lines

-- a check by its number, from 1 to 5, with both sides, where action points may lie so far apart
abbrev pub loss_check_line : ℕ → ℕ → ℕ → Values → List ℕ
loss_check_line number flutter reach p = line (
    codes "C" ++ decimal number ++ holds_text (sharp_holds_of number flutter reach p)
    ++ decimal (sharp_left_of number p) ++ codes " " ++ decimal (sharp_right_of number flutter reach p)
    )

-- whether a check from the third on fails with a reach
abbrev pub fails_text : Bool → List ℕ
fails_text true = []
fails_text false = codes " fails"

-- how far macroticks may lie apart where so many odd cycles and the even ones behind them lose frames; and where every second double cycle
-- does
abbrev pub crossing_line : Values → ℕ → CrossingCost → List ℕ
crossing_line p flutter crossing =
    line (codes "crossing " ++ decimal crossing.peak ++ fails_text (limits_hold flutter crossing.reach p))

abbrev pub second_line : Values → ℕ → SecondCost → List ℕ
second_line p flutter second =
    line (codes "every second " ++ decimal second.peak ++ fails_text (limits_hold flutter second.reach p))

-- how far they may where each node misses the frames of no more than so many other sync nodes in each double cycle, and that number
abbrev pub meeting_line : Values → ℕ → MeetingCost → List ℕ
meeting_line p flutter meeting = line (
    codes "meeting " ++ decimal meeting.peak ++ codes " " ++ decimal meeting.missed
    ++ fails_text (limits_hold flutter meeting.reach p)
    )

-- the greatest number of double cycles in a row for which those checks hold; none where they fail though nothing is lost
abbrev pub longest_line : Option ℕ → List ℕ
longest_line None = line (codes "longest none")
longest_line (Some longest) = line (codes "longest " ++ decimal longest)

-- the peak, the reach, the checks with it, how long the walk lasts, and the way back; and what is of the parameters alone
abbrev pub loss_figures_text : Values → ℕ → LossFigures → List ℕ
loss_figures_text p flutter figures =
    line (codes "peak " ++ decimal figures.row.peak)
    ++ line (codes "reach " ++ decimal figures.row.reach)
    ++ loss_check_line 1 flutter figures.row.reach p
    ++ loss_check_line 2 flutter figures.row.reach p
    ++ loss_check_line 3 flutter figures.row.reach p
    ++ loss_check_line 4 flutter figures.row.reach p
    ++ loss_check_line 5 flutter figures.row.reach p
    ++ lasts_text false p flutter
    ++ line (codes "back " ++ decimal figures.row.back)
    ++ crossing_line p flutter figures.crossing
    ++ second_line p flutter figures.second
    ++ meeting_line p flutter figures.meeting
    ++ longest_line figures.longest

-- the lines of double cycles go on until macroticks lie no further apart than the sharper precision
unfoldable pub loss_text : Values → ℕ → ℕ → LossFigures → List ℕ
loss_text p flutter count figures =
    loss_bounds_text p flutter count
    ++ (loss_apart_lines p flutter count 0 (figures.row.back + 1) ++ loss_figures_text p flutter figures)
