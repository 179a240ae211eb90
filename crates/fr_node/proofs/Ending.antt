-- What a node is after an answer, and after a cycle with a correction.
use Rattle.std.proofs.Common.{◌≡◌, ℕ, ℤ, Some, refl, ◌∙◌}
use Rattle.fr_base.specs.declared.channel.Channel.{Channel}
use Rattle.fr_base.specs.declared.node_row.NodeRow.{NodeRow}
use Rattle.fr_cluster.specs.Values.{Values}
use Rattle.fr_cluster.specs.Questions.{key_index_of}
use Rattle.fr_correct.specs.declared.term.Term.{Term}
use Rattle.fr_measure.specs.Readings.{Readings, stored}
use Rattle.fr_reception.specs.declared.heard.Heard.{Heard}
use Rattle.fr_reception.specs.declared.heard.Heard.TheVariants.{Stored}
use Rattle.fr_time.specs.Cycles.{is_odd}
use Rattle.fr_node.specs.View.{NodeView, node_row_of}
use Rattle.fr_node.specs.Cycle.{after_hearing, control_after_terms, ended_corrected, offset_term_of_node, passed, rate_term_of_node}

pub kept : (p : Values) (node : NodeView) (slot index : ℕ) (channel : Channel) (value : ℤ) (heard : Heard) (table : Readings) → heard ≡ Stored value → Some index ≡ key_index_of p slot
    → table ≡ stored node.table index (is_odd node.cycle) channel value → record node { table = table } ≡ after_hearing p node slot channel heard
kept p node slot index channel value heard table is found stores = rw (is, ← found, stores) refl

pub corrected : (p : Values) (node mid new : NodeView) (plain : NodeRow) (offset rate : Term) (cut : ℕ) → mid ≡ record node { control = control_after_terms node offset.outcome rate.outcome }
    → plain ≡ node_row_of node → offset ≡ offset_term_of_node p node → rate ≡ rate_term_of_node p node → new ≡ passed p mid (record plain { offset = offset.value; cut = cut }) rate.value → new ≡ ended_corrected p node
corrected p node mid new plain offset rate cut mid_is plain_is offset_is rate_is new_is =
    new_is ∙ rw (mid_is, plain_is, offset_is, rate_is) refl
