-- The rows of a cycle by what clocks run by, and the record of a cycle with these rows.
use Rattle.std.specs.Prelude.{ℕ, pos, List, length, count_by}
use Rattle.fr_base.specs.declared.channel.Channel.TheVariants.{A, B}
use Rattle.fr_base.specs.declared.cycle_row.Counts.{Counts}
use Rattle.fr_base.specs.declared.node_row.NodeRow.{NodeRow}
use Rattle.fr_cluster.specs.Setting.{Setting}
use Rattle.fr_history.specs.History.{History, Record}
use Rattle.fr_history.specs.Offers.{devs_between, frames_on, receptions_among}
use Rattle.fr_history.specs.Kinds.{is_stored, is_outside, is_damaged, is_wrong_id, is_wrong_cycle, is_wrong_length, is_plain}
use Rattle.fr_history.specs.Rows.{ClockLaws, crcs_sum, cut_after, offset_after}

-- the row of a node that runs by some laws, before its corrections
abbrev pub row_by : ClockLaws → ℕ → NodeRow
row_by laws node = record {
  node = node;
  start = laws.start node;
  length = laws.microtick node;
  rate = laws.rate node;
  offset = pos 0;
  state = laws.state node;
  cut = 0;
}

-- what became of the frames in a cycle, where each of these rows sends and receives
abbrev pub counts_over : Setting → ℕ → List NodeRow → Counts
counts_over x cycle rows = record {
  sent_a = length (frames_on x cycle rows A);
  sent_b = length (frames_on x cycle rows B);
  xor_a = crcs_sum (frames_on x cycle rows A);
  xor_b = crcs_sum (frames_on x cycle rows B);
  stored = count_by (λ reception. is_stored reception.heard) (receptions_among x cycle rows);
  outside = count_by (λ reception. is_outside reception.heard) (receptions_among x cycle rows);
  damaged = count_by (λ reception. is_damaged reception.heard) (receptions_among x cycle rows);
  wrong_id = count_by (λ reception. is_wrong_id reception.heard) (receptions_among x cycle rows);
  wrong_cycle = count_by (λ reception. is_wrong_cycle reception.heard) (receptions_among x cycle rows);
  wrong_length = count_by (λ reception. is_wrong_length reception.heard) (receptions_among x cycle rows);
  plain = count_by (λ reception. is_plain reception.heard) (receptions_among x cycle rows);
}

-- the record of a cycle with these rows, before their corrections
abbrev pub record_over : Setting → ℕ → List NodeRow → Record
record_over x cycle rows = record { rows = rows; devs = devs_between x cycle rows rows; counts = counts_over x cycle rows }

-- a row with its corrections
abbrev pub ended_row : Setting → History → Record → NodeRow → NodeRow
ended_row x h r row = record row { offset = offset_after x.params h r row; cut = cut_after x.params h r row }
