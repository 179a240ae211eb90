-- What is told of a run and of a recorded trace alike.
use Rattle.std.specs.Prelude.{ℕ, ℤ, List, ◌++◌, codes, Option, Some, None}
use Rattle.std.specs.Fmt.{decimal, signed_decimal}
use Rattle.fr_base.specs.Channels.{letter}
use Rattle.fr_coverage.specs.declared.gap.Gap.{Gap}
use Rattle.fr_coverage.specs.declared.gap.Gap.TheVariants.{Check, Count, Length, Change, Delay, Link}

-- the precision, in ticks
abbrev pub precision_text : ℕ → List ℕ
precision_text precision = codes "precision " ++ decimal precision

-- the first double cycle in sync
abbrev pub sync_text : Option ℕ → List ℕ
sync_text None = codes "in sync never"
sync_text (Some double) = codes "in sync " ++ decimal double

-- the greatest skew, in ticks, and its first place
abbrev pub skew_text : ℤ → ℕ → ℤ → List ℕ
skew_text skew cycle macrotick =
    codes "greatest skew " ++ signed_decimal skew ++ codes " cycle " ++ decimal cycle ++ codes " macrotick " ++ signed_decimal macrotick

-- a gap, after a text in front: of a check its number and both sides; of the nodes how many correct and arbitrary sync
-- nodes there are; of a microtick the node, the cycle and the ticks; of a delay the nodes, the channel, the cycle and the
-- ticks; of a link the nodes and the double cycle
abbrev pub gap_text : List ℕ → Gap → List ℕ
gap_text front (Check number left right) =
    front ++ codes "check " ++ decimal number ++ codes " " ++ signed_decimal left ++ codes " " ++ signed_decimal right
gap_text front (Count correct arbitrary) = front ++ codes "count " ++ decimal correct ++ codes " " ++ decimal arbitrary
gap_text front (Length node cycle ticks) =
    front ++ codes "length " ++ decimal node ++ codes " " ++ decimal cycle ++ codes " " ++ signed_decimal ticks
gap_text front (Change node cycle ticks) =
    front ++ codes "change " ++ decimal node ++ codes " " ++ decimal cycle ++ codes " " ++ signed_decimal ticks
gap_text front (Delay sender receiver channel cycle ticks) =
    front ++ codes "delay " ++ decimal sender ++ codes " " ++ decimal receiver ++ codes " " ++ letter channel
    ++ codes " " ++ decimal cycle ++ codes " " ++ signed_decimal ticks
gap_text front (Link sender receiver double) =
    front ++ codes "link " ++ decimal sender ++ codes " " ++ decimal receiver ++ codes " " ++ decimal double
