-- When each whole frame of a log in the slot of a node is one that the node sends: then none of them is irregular.
use Rattle.std.specs.Prelude.{◌≡◌, ℕ, true, false, [], Contains, Some}
use Rattle.fr_base.specs.declared.channel.Channel.{Channel}
use Rattle.fr_base.specs.declared.node_row.NodeRow.{NodeRow}
use Rattle.fr_base.specs.declared.state.State.TheVariants.{Active}
use Rattle.fr_cluster.specs.Setting.{Setting}
use Rattle.fr_frame.specs.declared.header.Header.{Header}
use Rattle.fr_time.specs.Cycles.{cycle_count}
use Rattle.fr_time.specs.declared.senders.Sending.{Sending}
use Rattle.fr_reception.specs.Regular.{regular_header}
use Rattle.fr_history.specs.Cycles.{Cycle, Cycles, cycle_at}
use Rattle.fr_history.specs.History.{row_of}
use Rattle.fr_history.specs.Offers.{is_on}
use Rattle.fr_log.specs.View.{LogView, is_arbitrary_in}
use Rattle.fr_log.specs.declared.entry.Entry.{Entry}
use Rattle.fr_sightings.specs.Judging.{static_sending, whole_header}
use Rattle.fr_sightings.specs.Sightings.{irregular_of}

-- a header has the payload length and the indicators of sync and startup of another one
pub record IsOfForm (regular header : Header) : Type 0 where
  pub words : header.words ≡ regular.words
  pub sync : header.sync ≡ regular.sync
  pub startup : header.startup ≡ regular.startup

-- a frame with this header on this channel is one that the sender of its slot sends there in some cycle of the run
pub record IsOwnFrame (x : Setting) (h : Cycles) (channel : Channel) (header : Header) (sending : Sending) : Type 0 where
  pub cycle : ℕ
  pub told : Cycle
  pub has_cycle : cycle_at h cycle ≡ Some told
  pub counted : header.cycle ≡ cycle_count cycle
  pub row : NodeRow
  pub has_row : row_of told.told.rows sending.node ≡ Some row
  pub active : row.state ≡ Active
  pub on_channel : is_on x sending.node channel ≡ true
  pub form : IsOfForm (regular_header x.params sending header.id cycle) header

-- so is each whole frame of a log in the slot of a node that the log does not name arbitrary
abbrev pub SlotsAreOwn : Setting → Cycles → LogView → Type 0
SlotsAreOwn x h l =
    (e : Entry) (header : Header) (sending : Sending)
    → Contains l.entries e → whole_header e.kind e.channel e.bytes ≡ Some header
    → static_sending x.params header ≡ Some sending → is_arbitrary_in l sending.node ≡ false
    → IsOwnFrame x h e.channel header sending

-- then none of its frames is irregular
abbrev pub NoFrameIsIrregular : Type 0
NoFrameIsIrregular = (x : Setting) (h : Cycles) (l : LogView) → SlotsAreOwn x h l → irregular_of x.params l ≡ []
