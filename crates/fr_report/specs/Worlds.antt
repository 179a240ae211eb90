-- What a report holds and writes of a world.
use Rattle.std.specs.Prelude.{◌≡◌, ℕ, List}
use Rattle.fr_base.specs.Device.{Sunk}
use Rattle.fr_base.specs.declared.node_row.NodeRow.{NodeRow}
use Rattle.fr_coverage.specs.Coverage.{first_gap}
use Rattle.fr_node.specs.View.{NodeView, state_of_node}
use Rattle.fr_program.specs.Around.{Ending, TextEnds}
use Rattle.fr_world.specs.World.{WorldView, setting_after, world_cycles}
use Rattle.fr_lines.specs.Clocks.{clock_behind}
use Rattle.fr_lines.specs.Held.{ReportHolds, ReportView}
use Rattle.fr_lines.specs.Text.{report_of}
use Rattle.fr_lines.specs.declared.clocks.Clock.{Clock}

-- a report holds the cycles that a world has run
abbrev pub IsReportOf : WorldView → ReportView → Type 0
IsReportOf w report = ReportHolds w.params report (world_cycles w)

-- a node between cycles, by the rows of the last odd cycle
abbrev pub clock_between : List NodeRow → NodeView → Clock
clock_between odd node = clock_behind odd node.id (state_of_node node) node.start node.rate

-- the report of a world's files after as many cycles as it has run, with their first gap
abbrev pub world_text : WorldView → List ℕ
world_text w = report_of (setting_after w) (first_gap w.params w.drift w.script) (world_cycles w)

-- it ended with this text, or at a put of some of its lines that failed, and in no other way
abbrev pub IsPutOnly : List ℕ → Sunk → Sunk → Ending → Type 0
IsPutOnly text = TextEnds (λ written. written ≡ text) (λ why. ⊥)
