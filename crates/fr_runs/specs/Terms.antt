-- The terms that the clocks of a run compute are those that they apply (section 8.6).
use Rattle.std.specs.Prelude.{◌≡◌, true, ◌∷◌, Contains, Some}
use Rattle.fr_base.specs.declared.node_row.NodeRow.{NodeRow}
use Rattle.fr_cluster.specs.Setting.{Setting}
use Rattle.fr_correct.specs.Terms.{IsOffsetTerm, IsRateTerm}
use Rattle.fr_correct.specs.declared.term.Term.{Term}
use Rattle.fr_measure.specs.Deviations.{offset_values_of, rate_values_of}
use Rattle.fr_history.specs.History.{row_of}
use Rattle.fr_history.specs.Rows.{RowsRun, is_corrected, offset_after}
use Rattle.fr_history.specs.Terms.{latest_devs}
use Rattle.fr_history.specs.Cycles.{Cycle, Cycles, told_of}
use Rattle.fr_history.specs.Laws.{row_laws}
use Rattle.fr_history.specs.Standing.{row_nodes}

-- the clocks of the nodes that have a row in a cycle run by their laws, as in a lawful cycle
abbrev pub ToldRuns : Setting → Cycles → Cycle → Type 0
ToldRuns x h c = RowsRun (row_laws x h) (offset_after x.params (told_of h) c.told) (row_nodes x h) c.told.rows

-- the offset with which a cycle of a node ends is the value of a term of its offset values
abbrev pub OffsetsAreTerms : Type 0
OffsetsAreTerms =
    (x : Setting) (h : Cycles) (c : Cycle) (row : NodeRow)
    → ToldRuns x h c → Contains c.told.rows row → is_corrected (told_of h) row ≡ true
    → (term : Term)
    × IsOffsetTerm x.params.offset_limit (offset_values_of x.params (latest_devs (told_of h)) c.told.devs row.node) term
    × (row.offset ≡ term.value)

-- the rate of the next cycle is the value of a term of its rate values
abbrev pub RatesAreTerms : Type 0
RatesAreTerms =
    (x : Setting) (h : Cycles) (c next : Cycle) (row next_row : NodeRow)
    → ToldRuns x (c ∷ h) next → row_of c.told.rows next_row.node ≡ Some row → Contains next.told.rows next_row
    → is_corrected (told_of h) row ≡ true
    → (term : Term)
    × IsRateTerm row.rate x.params.damping x.params.rate_limit
    (rate_values_of x.params (latest_devs (told_of h)) c.told.devs row.node) term
    × (next_row.rate ≡ term.value)
