-- The correction terms of a node and its operation control, over the deviations that a history records (section 8.6 and
-- chapter 2).
use Rattle.std.specs.Prelude.{ℕ, ◌+◌, List, [], ◌∷◌, ◌++◌, length, Option, Some, None, if◌then◌else◌}
use Rattle.fr_base.specs.States.{cut_of}
use Rattle.fr_base.specs.declared.dev.Dev.{Dev}
use Rattle.fr_base.specs.declared.node_row.NodeRow.{NodeRow}
use Rattle.fr_base.specs.declared.state.Outcome.{Outcome}
use Rattle.fr_cluster.specs.Questions.{own_index}
use Rattle.fr_cluster.specs.Values.{Values}
use Rattle.fr_time.specs.Cycles.{is_odd}
use Rattle.fr_correct.specs.Terms.{offset_term_of, rate_term_of}
use Rattle.fr_correct.specs.declared.term.Term.{Term}
use Rattle.fr_poc.specs.Control.{Status, control_of}
use Rattle.fr_poc.specs.Limits.{limits_of}
use Rattle.fr_measure.specs.Deviations.{offset_values_by, rate_values_by}
use Rattle.fr_history.specs.History.{History, row_of}

-- the deviations of the latest cycle of a history: where an odd cycle follows, those of the even cycle of its double
-- cycle
abbrev pub latest_devs : History → List Dev
latest_devs [] = []
latest_devs (r ∷ h) = r.devs

-- the offset term of a receiver at the end of a double cycle, by the deviations of both cycles and by its own key index
abbrev pub offset_term_by : Values → List Dev → List Dev → ℕ → Option ℕ → Term
offset_term_by p evens odds node own = offset_term_of p.offset_limit (offset_values_by p evens odds node own)

-- the rate term there, which the next double cycle has; the row is that of the odd cycle
abbrev pub rate_term_by : Values → List Dev → List Dev → NodeRow → Option ℕ → Term
rate_term_by p evens odds row own =
    rate_term_of row.rate p.damping p.rate_limit (rate_values_by p evens odds row.node own)

-- how many of the two terms of a receiver were cut there
abbrev pub cuts_by : Values → List Dev → List Dev → NodeRow → Option ℕ → ℕ
cuts_by p evens odds row own =
    cut_of (offset_term_by p evens odds row.node own).outcome + cut_of (rate_term_by p evens odds row own).outcome

-- the offset term of a node at the end of an odd cycle, by its deviations and those of the even cycle before it, with
-- which the history ends
abbrev pub offset_term_in : Values → History → List Dev → ℕ → Term
offset_term_in p h odds node = offset_term_by p (latest_devs h) odds node (own_index p node)

-- the rate term there
abbrev pub rate_term_in : Values → History → List Dev → NodeRow → Term
rate_term_in p h odds row = rate_term_by p (latest_devs h) odds row (own_index p row.node)

-- how many of the two terms of a node were cut at the end of an odd cycle
abbrev pub cuts_in : Values → History → List Dev → NodeRow → ℕ
cuts_in p h odds row = cuts_by p (latest_devs h) odds row (own_index p row.node)

-- how both terms of a node ended, in an odd cycle
abbrev pub outcomes_by : Values → History → List Dev → Option NodeRow → List (Outcome × Outcome)
outcomes_by p h odds None = []
outcomes_by p h odds (Some row) = ((offset_term_in p h odds row.node).outcome, (rate_term_in p h odds row).outcome) ∷ []

-- how both terms of a node ended in each complete double cycle of a history, the earliest first
unfoldable pub outcomes_in : Values → History → ℕ → List (Outcome × Outcome)
outcomes_in p [] node = []
outcomes_in p (r ∷ h) node =
    outcomes_in p h node ++ (if is_odd (length h) then outcomes_by p h r.devs (row_of r.rows node) else [])

-- how the operation control of a node stands after a history: after one step for each complete double cycle
abbrev pub status_in : Values → History → ℕ → Status
status_in p h node = control_of (limits_of p) (outcomes_in p h node)
