-- The laws of the rows and of the counts of a cycle, given the records before it (chapters 2, 5 and 8).
use Rattle.std.specs.Prelude.{◌≡◌, ℕ, ℤ, pos, Bool, not, ◌&&◌, List, length, fold, All, count_by, bit_xor, Option, Some, None, if◌then◌else◌}
use Rattle.fr_base.specs.States.{is_halted}
use Rattle.fr_base.specs.declared.channel.Channel.TheVariants.{A, B}
use Rattle.fr_base.specs.declared.cycle_row.Counts.{Counts}
use Rattle.fr_base.specs.declared.node_row.NodeRow.{NodeRow}
use Rattle.fr_base.specs.declared.state.State.{State}
use Rattle.fr_cluster.specs.Values.{Values}
use Rattle.fr_cluster.specs.declared.nodes.NodeSpec.{NodeSpec}
use Rattle.fr_time.specs.Cycles.{is_odd}
use Rattle.fr_reception.specs.Regular.{carried_crc}
use Rattle.fr_cluster.specs.Setting.{Setting}
use Rattle.fr_history.specs.History.{AreRowsOf, History, Record}
use Rattle.fr_history.specs.Offers.{Reception, frames_on}
use Rattle.fr_history.specs.Kinds.{is_stored, is_outside, is_damaged, is_wrong_id, is_wrong_cycle, is_wrong_length, is_plain}
use Rattle.fr_history.specs.Terms.{cuts_in, offset_term_in, rate_term_in}

-- ---- the laws of a row, each as a function of the records before it

-- whether a row's cycle ends with corrections: an odd cycle of a node that is not halted
abbrev pub is_corrected : History → NodeRow → Bool
is_corrected h row = is_odd (length h) && not (is_halted row.state)

-- the rate term that follows from the row of the cycle before: within a double cycle it stays; after one it is the
-- rate term of that double cycle's deviations, and a halted node keeps its own
abbrev pub rate_by : Values → History → Record → Option NodeRow → ℤ
rate_by p h r None = pos 0
rate_by p h r (Some before) =
    if is_corrected h before then (rate_term_in p h r.devs before).value else before.rate

-- offsets: 0 in even cycles and in Halt, else the offset term
abbrev pub offset_after : Values → History → Record → NodeRow → ℤ
offset_after p h r row = if is_corrected h row then (offset_term_in p h r.devs row.node).value else pos 0

-- cuts: none in even cycles and in Halt, else how many of the two terms were cut
abbrev pub cut_after : Values → History → Record → NodeRow → ℕ
cut_after p h r row = if is_corrected h row then cuts_in p h r.devs row else 0

-- a row before the corrections at the end of its cycle
abbrev pub uncorrected : NodeRow → NodeRow
uncorrected row = record row { offset = pos 0; cut = 0 }

-- ---- the laws of a record's counts

-- the sum without carry of the frame CRCs of some frames
abbrev pub crcs_sum : List (List ℕ) → ℕ
crcs_sum frames = fold (λ sum frame. bit_xor sum (carried_crc frame)) 0 frames

-- the frames of correct active nodes on each channel, and what the receivers answered
pub record AreCounts (x : Setting) (cycle : ℕ) (rows : List NodeRow) (receptions : List Reception) (counts : Counts) : Type 0 where
  pub sent_a : counts.sent_a ≡ length (frames_on x cycle rows A)
  pub sent_b : counts.sent_b ≡ length (frames_on x cycle rows B)
  pub xor_a : counts.xor_a ≡ crcs_sum (frames_on x cycle rows A)
  pub xor_b : counts.xor_b ≡ crcs_sum (frames_on x cycle rows B)
  pub stored : counts.stored ≡ count_by (λ reception. is_stored reception.heard) receptions
  pub outside : counts.outside ≡ count_by (λ reception. is_outside reception.heard) receptions
  pub damaged : counts.damaged ≡ count_by (λ reception. is_damaged reception.heard) receptions
  pub wrong_id : counts.wrong_id ≡ count_by (λ reception. is_wrong_id reception.heard) receptions
  pub wrong_cycle : counts.wrong_cycle ≡ count_by (λ reception. is_wrong_cycle reception.heard) receptions
  pub wrong_length : counts.wrong_length ≡ count_by (λ reception. is_wrong_length reception.heard) receptions
  pub plain : counts.plain ≡ count_by (λ reception. is_plain reception.heard) receptions

-- ---- the laws of a cycle's rows

-- what clocks run by in a cycle: the start, the length of a microtick, the rate and the state that a node has
pub record ClockLaws : Type 0 where
  pub start : ℕ → ℤ
  pub microtick : ℕ → ℤ
  pub rate : ℕ → ℤ
  pub state : ℕ → State

-- rows are those of some nodes and run by such laws, and each ends with the offset that its law gives
pub record RowsRun (laws : ClockLaws) (offset : NodeRow → ℤ) (members : List NodeSpec) (rows : List NodeRow) : Type 0 where
  pub nodes : AreRowsOf members rows
  pub starts : All (λ row. row.start ≡ laws.start row.node) rows
  pub lengths : All (λ row. row.length ≡ laws.microtick row.node) rows
  pub rates : All (λ row. row.rate ≡ laws.rate row.node) rows
  pub states : All (λ row. row.state ≡ laws.state row.node) rows
  pub offsets : All (λ row. row.offset ≡ offset row) rows

-- what the rows of a record tell of cut terms obeys its law, by the deviations that the record has
abbrev pub CutsRun : Setting → History → Record → Type 0
CutsRun x h r = All (λ row. row.cut ≡ cut_after x.params h r row) r.rows
