-- What the calls make of a node: one cycle of one node (chapters 2 and 8).
use Rattle.std.specs.Prelude.{ℕ, ◌+◌, ℤ, Bool, false, not, ◌&&◌, if◌then◌else◌, Option, Some, None}
use Rattle.fr_base.specs.States.{cut_of, is_halted}
use Rattle.fr_base.specs.declared.channel.Channel.{Channel}
use Rattle.fr_base.specs.declared.node_row.NodeRow.{NodeRow}
use Rattle.fr_base.specs.declared.state.Outcome.{Outcome}
use Rattle.fr_cluster.specs.Values.{Values}
use Rattle.fr_cluster.specs.Questions.{key_index_of, own_index}
use Rattle.fr_time.specs.Cycles.{is_odd}
use Rattle.fr_time.specs.Instant.{next_start_of}
use Rattle.fr_time.specs.Position.{grid_for}
use Rattle.fr_measure.specs.Readings.{no_readings, reading, stored}
use Rattle.fr_measure.specs.Values.{offset_at, rate_at, values_of}
use Rattle.fr_correct.specs.declared.term.Term.{Term}
use Rattle.fr_correct.specs.Terms.{offset_term_of, rate_term_of}
use Rattle.fr_poc.specs.Control.{Control, after_double, first_status}
use Rattle.fr_reception.specs.declared.heard.Heard.{Heard}
use Rattle.fr_reception.specs.declared.heard.Heard.TheVariants.{Stored, Ignored}
use Rattle.fr_node.specs.View.{NodeView, node_row_of, state_of_node}
use Rattle.fr_poc.specs.Limits.{limits_of}

-- before cycle 0
abbrev pub fresh : Values → ℕ → ℤ → ℤ → NodeView
fresh p id start rate = record {
  id = id;
  cycle = 0;
  length = None;
  start = start;
  rate = rate;
  table = no_readings;
  control = record { limits = limits_of p; status = first_status };
  follows = false;
  outcomes = None;
}

-- its cycle is under way with this length of a microtick; an even cycle begins a new double cycle
abbrev pub in_cycle : NodeView → ℤ → NodeView
in_cycle node length = record node {
  length = Some length;
  table = if is_odd node.cycle then node.table else no_readings;
}

-- with the deviation of a key index in this cycle, if it is one
abbrev pub with_deviation : NodeView → Option ℕ → Channel → ℤ → NodeView
with_deviation node None channel value = node
with_deviation node (Some index) channel value = record node { table = stored node.table index (is_odd node.cycle) channel value }

-- after its answer to a frame in a slot: what is stored is in the table, and nothing changes where it is ignored
abbrev pub after_hearing : Values → NodeView → ℕ → Channel → Heard → NodeView
after_hearing p node slot channel (Stored value) = with_deviation node (key_index_of p slot) channel value
after_hearing p node slot channel (Ignored why) = node

-- its place among the senders whose clocks it compares: none where it has no key slot, and none where it follows, since
-- its clock is not one of theirs yet
abbrev pub own_index_of_node : Values → NodeView → Option ℕ
own_index_of_node p node = if node.follows then None else own_index p node.id

-- the offset and the rate term of its deviations (sections 8.6.2 and 8.6.3)
abbrev pub offset_term_of_node : Values → NodeView → Term
offset_term_of_node p node = offset_term_of p.offset_limit (values_of (offset_at (reading node.table) (own_index_of_node p node)))

abbrev pub rate_term_of_node : Values → NodeView → Term
rate_term_of_node p node = rate_term_of node.rate p.damping p.rate_limit (values_of (rate_at (reading node.table) (own_index_of_node p node)))

-- a node corrects its clock at the end of an odd cycle, unless it is halted
abbrev pub corrects : NodeView → Bool
corrects node = is_odd node.cycle && not (is_halted (state_of_node node))

-- its row where it corrects: the offset term belongs to the cycle that ends
abbrev pub corrected_row : Values → NodeView → NodeRow
corrected_row p node = record (node_row_of node) {
  offset = (offset_term_of_node p node).value;
  cut = cut_of (offset_term_of_node p node).outcome + cut_of (rate_term_of_node p node).outcome;
}

-- the row of the cycle at its end
abbrev pub ended_row_of_node : Values → NodeView → NodeRow
ended_row_of_node p node = if corrects node then corrected_row p node else node_row_of node

-- the rate term from the next cycle on
abbrev pub next_rate : Values → NodeView → ℤ
next_rate p node = if corrects node then (rate_term_of_node p node).value else node.rate

-- its operation control behind two outcomes: one step, and none where it follows
abbrev pub control_after_terms : NodeView → Outcome → Outcome → Control
control_after_terms node offset rate = if node.follows then node.control else after_double node.control offset rate

-- its operation control from the next cycle on
abbrev pub next_control : Values → NodeView → Control
next_control p node =
    if corrects node then control_after_terms node (offset_term_of_node p node).outcome (rate_term_of_node p node).outcome
    else node.control

-- how both terms of its last odd cycle ended, from the next cycle on: also where it is halted, and takes none
abbrev pub next_outcomes : Values → NodeView → Option (Outcome × Outcome)
next_outcomes p node =
    if is_odd node.cycle then Some ((offset_term_of_node p node).outcome, (rate_term_of_node p node).outcome)
    else node.outcomes

-- before the cycle that follows one with this row
abbrev pub passed : Values → NodeView → NodeRow → ℤ → NodeView
passed p node row rate = record node {
  cycle = node.cycle + 1;
  length = None;
  start = next_start_of (grid_for p) row;
  rate = rate;
}

-- its cycle has ended with a correction
abbrev pub ended_corrected : Values → NodeView → NodeView
ended_corrected p node = record (passed p node (corrected_row p node) (rate_term_of_node p node).value) {
  control = control_after_terms node (offset_term_of_node p node).outcome (rate_term_of_node p node).outcome;
}

-- its cycle has ended, but for what is kept of the outcomes
abbrev pub ended_but : Values → NodeView → NodeView
ended_but p node = record (passed p node (ended_row_of_node p node) (next_rate p node)) { control = next_control p node }

-- its cycle has ended
abbrev pub ended : Values → NodeView → NodeView
ended p node = record (ended_but p node) { outcomes = next_outcomes p node }

-- one that followed has joined the cluster: its operation control begins
abbrev pub as_joined : NodeView → NodeView
as_joined node = record node { follows = false; control = record node.control { status = first_status } }
