-- What receivers record of senders in a cycle, by the rows of both.
use Rattle.std.proofs.Common.{◌≡◌, ℕ, ◌<◌, ◌≤◌, ◌==◌, ℤ, Bool, true, false, Some, List, [], ◌∷◌, map, refl, ap, sym, ◌∙◌}
use Rattle.std.specs.Prelude.{AllPairs, Contains, is_some}
use Rattle.std.specs.Option.{option_map}
use Rattle.fr_base.specs.declared.channel.Channel.{Channel}
use Rattle.fr_base.specs.declared.dev.Dev.{Dev}
use Rattle.fr_base.specs.declared.node_row.NodeRow.{NodeRow}
use Rattle.fr_cluster.specs.Values.{amount}
use Rattle.fr_cluster.specs.Sane.{IsSane}
use Rattle.fr_cluster.specs.declared.names.ParamName.TheVariants as name
use Rattle.fr_cluster.specs.declared.nodes.NodeSpec.{NodeSpec}
use Rattle.fr_reception.proofs.Answers.{answer_found}
use Rattle.fr_history.specs.History.{AreRowsOf, row_for, row_of}
use Rattle.fr_history.specs.Rows.{uncorrected}
use Rattle.fr_history.specs.Offers.{AreReceptionsBetween, Reception, devs_among, devs_between, stored_in}
use Rattle.fr_cluster.specs.Setting.{Setting, correct_nodes}
use Rattle.fr_base.specs.Rows.{dev_in}
use Rattle.fr_history.proofs.Devs.{dev_in-between}
use Rattle.fr_history.proofs.Flat.{Among}
use Rattle.fr_history.proofs.Found.{receptions_found}
use Rattle.fr_history.proofs.Lists.{map-map}
use Rattle.fr_runs.proofs.Rows.{has_row, rows_are}
use Rattle.fr_runs.specs.Links.{IsNearLink, Link, stored_on}
use Rattle.fr_runs.specs.Exchange.{AbsentIsNotRecorded, Exchange, IsExchangeOf, IsExchanged, IsNearExchange, RecordedIsPlaced, RegularIsRecorded}
use Rattle.fr_runs.proofs.Links.{absent_is_not_stored, regular_is_stored_on, stored_is_placed}
use Rattle.fr_runs.proofs.Nodes.{among_from, among_to, correct_node, key_slot_there}

-- ---- what is recorded

-- the row of a node before its corrections, among such rows
pub uncorrected_row : (rows : List NodeRow) (node : ℕ) → row_of (map uncorrected rows) node ≡ option_map uncorrected (row_of rows node)
uncorrected_row [] node = refl
uncorrected_row (row ∷ rows) node = by_test (row.node == node) refl (uncorrected_row rows node)
  where
    by_test : (b : Bool) → (row.node == node) ≡ b → row_of (map uncorrected rows) node ≡ option_map uncorrected (row_of rows node)
        → row_of (map uncorrected (row ∷ rows)) node ≡ option_map uncorrected (row_of (row ∷ rows) node)
    by_test true is rest = rw is refl
    by_test false is rest = rw is rest

-- what receivers with some rows recorded of senders with others: of each receiver, slot and channel what its row stores
pub recorded_is_stored : (x : Setting) (cycle : ℕ) (rows receivers : List NodeRow) (nodes : List NodeSpec) (receptions : List Reception) (devs : List Dev) (node : NodeSpec) (slot : ℕ) (channel : Channel)
    → AreReceptionsBetween x cycle rows (map uncorrected receivers) receptions → devs ≡ devs_among receptions
    → AllPairs (λ (a : NodeSpec) (b : NodeSpec). a.id < b.id) nodes → AreRowsOf nodes receivers → Contains nodes node
    → 1 ≤ slot → slot ≤ amount x.params name.gNumberOfStaticSlots
    → dev_in devs node.id slot channel ≡ stored_in x cycle rows (uncorrected (row_for receivers node.id)) slot channel
recorded_is_stored x cycle rows receivers nodes receptions devs node slot channel received listed ascend are among low high =
    let row_at : ℕ → NodeRow = λ id. uncorrected (row_for receivers id) in
    let all : map (λ (spec : NodeSpec). row_at spec.id) nodes ≡ map uncorrected receivers =
    sym (map-map uncorrected (λ (spec : NodeSpec). row_for receivers spec.id) nodes) ∙ ap (map uncorrected) (rows_are nodes receivers ascend are) in
    let own = λ (spec : NodeSpec) (there : Among spec nodes). (has_row nodes receivers spec are (among_to nodes spec there)).number in
    ap (λ (found : List Dev). dev_in found node.id slot channel) (listed ∙ ap devs_among (receptions_found answer_found x cycle rows (map uncorrected receivers) receptions received))
    ∙ ap (λ (rs : List NodeRow). dev_in (devs_between x cycle rows rs) node.id slot channel) (sym all)
    ∙ dev_in-between x cycle rows row_at nodes node slot channel own (among_from nodes node among) low high

-- a sender and a receiver of it
unfoldable pub link_of : (e : Exchange) (sender receiver : NodeSpec) (slot : ℕ) → Link
link_of e sender receiver slot = record {
  cycle = e.cycle;
  rows = map uncorrected e.sender_rows;
  sender = sender;
  receiver = receiver;
  slot = slot;
  from = row_for e.sender_rows sender.id;
  at = row_for e.receiver_rows receiver.id;
}

near_link : (x : Setting) (e : Exchange) (is_odd : Bool) (reach : ℤ) (sender receiver : NodeSpec) (slot : ℕ) → IsNearExchange x e is_odd reach → IsExchanged e sender receiver slot
    → IsNearLink x (link_of e sender receiver slot) is_odd reach
unfolding link_of
near_link x e is_odd reach sender receiver slot near link =
    let from = correct_node x sender (near.is.correct_senders sender link.sends) in
    let has = has_row e.senders e.sender_rows sender near.is.sender_nodes link.sends in
    record {
      sane = near.sane;
      room = near.room;
      sends = from.there;
      correct = from.correct;
      key = link.key;
      found = uncorrected_row e.sender_rows sender.id ∙ ap (option_map uncorrected) has.is;
      from_node = has.number;
      hears = (correct_node x receiver (near.is.correct_receivers receiver link.hears)).there;
      at_node = (has_row e.receivers e.receiver_rows receiver near.is.receiver_nodes link.hears).number;
      other = link.other;
      rate = near.rate receiver link.hears;
      micro = near.micro receiver link.hears;
      near = near.near sender receiver slot link;
      delays = λ channel share. near.delays sender receiver slot channel link share;
    }

-- what a receiver recorded in a node's key slot is what its row stores
pub recorded_there : (x : Setting) (e : Exchange) (node receiver : NodeSpec) (slot : ℕ) (channel : Channel) → IsSane x.params → IsExchangeOf x e → Contains x.params.nodes node → node.key ≡ Some slot
    → Contains e.receivers receiver
    → dev_in e.devs receiver.id slot channel ≡ stored_in x e.cycle (map uncorrected e.sender_rows) (uncorrected (row_for e.receiver_rows receiver.id)) slot channel
recorded_there x e node receiver slot channel sane is there key hears =
    let static = key_slot_there x.params node slot sane there key in
    recorded_is_stored x e.cycle (map uncorrected e.sender_rows) e.receiver_rows e.receivers is.receptions e.devs receiver slot channel is.received is.devs
    is.receivers_ascend is.receiver_nodes hears static.from static.to

-- so it is of a correct node
pub recorded_in : (x : Setting) (e : Exchange) (node receiver : NodeSpec) (slot : ℕ) (channel : Channel) → IsSane x.params → IsExchangeOf x e → Contains (correct_nodes x) node → node.key ≡ Some slot
    → Contains e.receivers receiver
    → dev_in e.devs receiver.id slot channel ≡ stored_in x e.cycle (map uncorrected e.sender_rows) (uncorrected (row_for e.receiver_rows receiver.id)) slot channel
recorded_in x e node receiver slot channel sane is correct key hears =
    recorded_there x e node receiver slot channel sane is (correct_node x node correct).there key hears

recorded_on : (x : Setting) (e : Exchange) (is_odd : Bool) (reach : ℤ) (sender receiver : NodeSpec) (slot : ℕ) (channel : Channel) → IsNearExchange x e is_odd reach → IsExchanged e sender receiver slot
    → dev_in e.devs receiver.id slot channel ≡ stored_on x (link_of e sender receiver slot) channel
unfolding link_of
recorded_on x e is_odd reach sender receiver slot channel near link =
    recorded_in x e sender receiver slot channel near.sane near.is (near.is.correct_senders sender link.sends) link.key link.hears

-- ---- the laws

pub recorded_is_placed : RecordedIsPlaced
unfolding link_of
recorded_is_placed x e is_odd reach sender receiver slot channel value near link is =
    stored_is_placed x (link_of e sender receiver slot) is_odd reach channel value (near_link x e is_odd reach sender receiver slot near link)
    (sym (recorded_on x e is_odd reach sender receiver slot channel near link) ∙ is)

pub regular_is_recorded : RegularIsRecorded
unfolding link_of
regular_is_recorded x e is_odd reach sender receiver slot channel near link share regular =
    let stored =
    regular_is_stored_on x (link_of e sender receiver slot) is_odd reach channel (near_link x e is_odd reach sender receiver slot near link) share
    (near.active sender link.sends) (near.hearing receiver link.hears) regular in
    ap is_some (recorded_on x e is_odd reach sender receiver slot channel near link) ∙ stored

pub absent_is_not_recorded : AbsentIsNotRecorded
absent_is_not_recorded x e node receiver slot channel sane is correct key absent hears =
    let from = correct_node x node correct in
    recorded_in x e node receiver slot channel sane is correct key hears
    ∙ absent_is_not_stored x e.cycle (map uncorrected e.sender_rows) node (uncorrected (row_for e.receiver_rows receiver.id)) slot channel sane from.there from.correct key
    (uncorrected_row e.sender_rows node.id ∙ ap (option_map uncorrected) absent)
