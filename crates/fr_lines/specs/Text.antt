-- The report of a run as a text, line by line.
use Rattle.std.specs.Prelude.{ℕ, pos, List, ◌++◌, codes, Option, Some, None}
use Rattle.std.specs.List.{flat_map}
use Rattle.std.specs.Fmt.{decimal, signed_decimal}
use Rattle.std.specs.Option.{option_map}
use Rattle.fr_base.specs.Channels.{letter}
use Rattle.fr_base.specs.States.{state_text}
use Rattle.fr_base.specs.declared.channel.Channel.{Channel}
use Rattle.fr_base.specs.declared.channel.Channel.TheVariants.{A, B}
use Rattle.fr_base.specs.declared.cycle_row.Counts.{Counts}
use Rattle.fr_coverage.specs.declared.gap.Gap.{Gap}
use Rattle.fr_cluster.specs.Setting.{Setting}
use Rattle.fr_history.specs.Cycles.{Cycles}
use Rattle.fr_coverage.specs.Phrases.{gap_text, precision_text, skew_text, sync_text}
use Rattle.fr_skew.specs.declared.peak.Peak.{Peak}
use Rattle.fr_text.specs.Lines.{shown}
use Rattle.fr_text.specs.Numerals.{hexadecimal}
use Rattle.fr_text.specs.Pieces.{line}
use Rattle.fr_lines.specs.Told.{run_told}
use Rattle.fr_lines.specs.declared.clocks.Clock.{Clock}
use Rattle.fr_lines.specs.declared.told.Told.{Told}

-- how many nodes, sync nodes, arbitrary nodes and double cycles there are
abbrev pub nodes_text : Told → List ℕ
nodes_text told =
    codes "nodes " ++ decimal told.nodes ++ codes " sync " ++ decimal told.sync
    ++ codes " arbitrary " ++ decimal told.arbitrary ++ codes " doubles " ++ decimal told.doubles

-- whether a run is covered, by its first gap
abbrev pub covered_text : Option Gap → List ℕ
covered_text None = codes "covered yes"
covered_text (Some gap) = gap_text (codes "covered no ") gap

-- the line of the greatest skew, in ticks, and its first place
abbrev pub greatest_line : Peak → List ℕ
greatest_line peak = line (skew_text peak.skew peak.cycle (pos peak.macrotick))

-- how many frames correct nodes sent on a channel, and the sum without carry of their frame CRCs
abbrev pub sent_text : Channel → ℕ → ℕ → List ℕ
sent_text channel sent crcs =
    codes "sent " ++ letter channel ++ codes " " ++ decimal sent ++ codes " xor " ++ hexadecimal 6 crcs

-- what receivers made of the frames
abbrev pub heard_text : Counts → List ℕ
heard_text sums =
    codes "heard stored " ++ decimal sums.stored
    ++ codes " outside " ++ decimal sums.outside
    ++ codes " damaged " ++ decimal sums.damaged
    ++ codes " id " ++ decimal sums.wrong_id
    ++ codes " cycle " ++ decimal sums.wrong_cycle
    ++ codes " length " ++ decimal sums.wrong_length
    ++ codes " plain " ++ decimal sums.plain

-- how many correction terms were cut
abbrev pub cut_text : ℕ → List ℕ
cut_text cut = codes "cut " ++ decimal cut

-- a node with a row: the state, the start in ticks and the rate term in microticks that hold for its next cycle, and the
-- offset term of the last odd cycle in microticks
abbrev pub node_text : Clock → List ℕ
node_text clock =
    codes "node " ++ decimal clock.node ++ codes " " ++ state_text clock.state
    ++ codes " next " ++ signed_decimal clock.start ++ codes " rate " ++ signed_decimal clock.rate
    ++ codes " offset " ++ signed_decimal clock.offset

-- the lines of a run; one of no cycle has none of a greatest skew
unfoldable pub told_lines : Told → List ℕ
told_lines told =
    line (nodes_text told)
    ++ line (precision_text told.precision)
    ++ line (covered_text told.gap)
    ++ line (sync_text told.synced)
    ++ shown (option_map greatest_line told.greatest)
    ++ line (sent_text A told.sums.sent_a told.sums.xor_a)
    ++ line (sent_text B told.sums.sent_b told.sums.xor_b)
    ++ line (heard_text told.sums)
    ++ line (cut_text told.cut)

-- a line for each node that had a row in the last cycle, in ascending order of node
abbrev pub clocks_text : List Clock → List ℕ
clocks_text clocks = flat_map (λ clock. line (node_text clock)) clocks

-- the whole text
unfoldable pub told_text : Told → List ℕ
told_text told = told_lines told ++ clocks_text told.clocks

-- the report of some cycles
unfoldable pub report_of : Setting → Option Gap → Cycles → List ℕ
report_of x gap h = told_text (run_told x gap h)
