-- A node that listens in a double cycle in sync begins to follow behind it.
use Rattle.std.proofs.Common.{◌≡◌, ℕ, suc, ◌*◌, ◌==◌, true, false, cond, ℤ, pos, Option, Some, None, List, ◌∷◌, length, refl, ap, sym, ◌∙◌, subst, arith}
use Rattle.std.specs.Prelude.{◌≤ℤ◌, option_and_then}
use Rattle.fr_base.specs.Event.Event.{Regular}
use Rattle.fr_base.specs.declared.channel.Channel.{Channel}
use Rattle.fr_base.specs.declared.channel.Channel.TheVariants.{A, B}
use Rattle.fr_base.specs.declared.node_row.NodeRow.{NodeRow}
use Rattle.fr_base.specs.declared.state.State.TheVariants.{Active}
use Rattle.fr_cluster.specs.Questions.{own_key}
use Rattle.fr_cluster.specs.Setting.{Setting}
use Rattle.fr_cluster.specs.declared.nodes.NodeSpec.{NodeSpec}
use Rattle.fr_time.specs.Senders.{sync_sending}
use Rattle.fr_time.proofs.SoleSenders.{key_slot_sender}
use Rattle.fr_bound.specs.Sync.{cycle_length_of, IsCycleLength}
use Rattle.fr_frame.specs.Reading.{read_as}
use Rattle.fr_frame.specs.declared.header.Header.{Header}
use Rattle.fr_frame.proofs.Found.{frame_read}
use Rattle.fr_precision.specs.Offsets.{LimitSuffices}
use Rattle.fr_reception.specs.Offers.{Offer}
use Rattle.fr_reception.specs.Regular.{regular_frame, regular_header, regular_payload}
use Rattle.fr_reception.proofs.Frames.{regular_is_frame}
use Rattle.fr_reception.specs.Listening.{Caught, first_or, good_arrival, is_sync_of, kept_if, suffices}
use Rattle.fr_history.specs.Offers.{is_on}
use Rattle.fr_history.specs.Catching.{begins_with, caught_arrival, caught_by_slot, caught_in_run, caught_of, listener_offer, listening_row}
use Rattle.fr_history.specs.Cycles.{Cycle, Cycles, some_joins}
use Rattle.fr_history.specs.Standing.{row_nodes}
use Rattle.fr_history.specs.History.{row_for}
use Rattle.fr_runs.proofs.Rows.{each_row, has_row as row_there}
use Rattle.fr_runs.specs.Links.{IsCarried, Share}
use Rattle.fr_runs.proofs.Nodes.{IsCorrectNode, correct_node, node_there}
use Rattle.fr_runs.proofs.Known.{coming, does_send, is_deaf, offer_with, whole_of}
use Rattle.fr_runs.proofs.Reach.{reach_is, some_joins_by}
use Rattle.fr_runs.proofs.Exchanged.{on_channel}
use Rattle.fr_runs.specs.References.{IsReference}
use Rattle.fr_runs.specs.Supplied.{CoveredListenersBegin}
use Rattle.fr_runs.proofs.Catches.{both_caught, IsOf, Listens, ListensIn, catches_suffice, caught_either, caught_from, listened_offer, reference_key, reference_listened}
use Rattle.fr_runs.proofs.SyncedRows.{row_later}

pub same_test : (a b : ℕ) → a ≡ b → (a == b) ≡ true
same_test a b is = grind arith

-- ---- a regular frame of the reference is a good one

-- when it arrives
pub record Arrives (x : Setting) (cycle : ℕ) (rows : List NodeRow) (node slot : ℕ) (channel : Channel) : Type 0 where
  pub at : ℤ
  pub good : option_and_then (good_arrival slot) (listener_offer x cycle rows node slot channel) ≡ Some at

pub arrives : (x : Setting) (cycle : ℕ) (rows : List NodeRow) (reference node : NodeSpec) (slot : ℕ) (channel : Channel) → Listens x cycle rows reference node slot → Share reference node channel
    → (row_for rows reference.id).state ≡ Active → (row_for rows reference.id).node ≡ reference.id → x.event cycle reference.id node.id channel ≡ Regular → Arrives x cycle rows node.id slot channel
arrives x cycle rows reference node slot channel l share active number regular =
    let p = x.params in
    let from : NodeRow = row_for rows reference.id in
    let at : NodeRow = listening_row node.id in
    let spec : IsCorrectNode x reference = correct_node x reference l.sends in
    let sends = key_slot_sender p slot cycle reference l.sane spec.there l.key in
    let bytes : List ℕ = regular_frame p (sync_sending reference) slot cycle channel in
    let header : Header = regular_header p (sync_sending reference) slot cycle in
    let offer : List ℕ → Offer = offer_with x cycle from at slot channel in
    let on_reference : is_on x reference.id channel ≡ true = on_channel x reference channel (node_there p reference l.sane spec.there) ∙ share.by_sender in
    let on_node : is_on x node.id channel ≡ true = on_channel x node channel (node_there p node l.sane (correct_node x node l.hears).there) ∙ share.by_receiver in
    let hears : is_deaf x at channel ≡ false = rw on_node refl in
    let sent : does_send x reference.id from channel ≡ true = rw (active, on_reference) refl in
    let comes : coming x cycle reference from at slot channel ≡ Some bytes = rw (number, regular) refl in
    let read = frame_read channel header (regular_payload p (sync_sending reference) slot cycle) bytes (regular_is_frame p (sync_sending reference) slot cycle channel l.sane sends) in
    let sync : is_sync_of slot (read_as channel bytes) ≡ true = ap (is_sync_of slot) read ∙ same_test slot slot refl in
    record {
      at = (offer bytes).arrival;
      good =
          ap (option_and_then (good_arrival slot)) (listened_offer x cycle rows reference node slot channel l)
          ∙ whole_of (is_deaf x at channel) (does_send x reference.id from channel) (good_arrival slot) offer (coming x cycle reference from at slot channel) bytes hears sent comes
          ∙ ap (λ b. cond b (Some (offer bytes).arrival) None) sync;
    }

-- ---- so something is caught

pub caught_both : (x : Setting) (cycle : ℕ) (even odd : Cycle) (node slot : ℕ) (channel : Channel) → (early : Arrives x cycle even.told.rows node slot channel)
    → (late : Arrives x (suc cycle) odd.told.rows node slot channel)
    → caught_in_run x cycle even odd node slot channel ≡ Some (caught_from x cycle node slot channel early.at late.at)
unfolding caught_in_run caught_arrival
caught_both x cycle even odd node slot channel early late = rw (early.good, late.good) refl

pub record HasCaught (x : Setting) (cycle : ℕ) (even odd : Cycle) (node slot : ℕ) : Type 0 where
  pub caught : Caught
  pub is : caught_of x cycle even odd node slot ≡ Some caught

pub has_caught : (x : Setting) (cycle : ℕ) (even odd : Cycle) (node slot : ℕ) (channel : Channel) (c : Caught) → caught_in_run x cycle even odd node slot channel ≡ Some c → HasCaught x cycle even odd node slot
has_caught x cycle even odd node slot A c is = record { caught = c; is = ap (λ o. first_or o (caught_in_run x cycle even odd node slot B)) is }
has_caught x cycle even odd node slot B c is = by_first (caught_in_run x cycle even odd node slot A) refl
  where
    by_first : (o : Option Caught) → caught_in_run x cycle even odd node slot A ≡ o → HasCaught x cycle even odd node slot
    by_first None first = record { caught = c; is = ap (λ o. first_or o (caught_in_run x cycle even odd node slot B)) first ∙ is }
    by_first (Some d) first = record { caught = d; is = ap (λ o. first_or o (caught_in_run x cycle even odd node slot B)) first }

catches : (x : Setting) (h : Cycles) (even odd : Cycle) (double : ℕ) (reference node : NodeSpec) (slot : ℕ) → ListensIn x h even odd double reference node slot
    → IsCarried x reference node double → HasCaught x (length h) even odd node.id slot
catches x h even odd double reference node slot l carried =
    let g = l.gathered in
    let later = row_later x h even odd double reference g l.among in
    let channel : Channel = carried.channel in
    let even_regular : x.event (length h) reference.id node.id channel ≡ Regular = ap (λ (n : ℕ). x.event n reference.id node.id channel) g.counted ∙ carried.even in
    let odd_regular : x.event (suc (length h)) reference.id node.id channel ≡ Regular = ap (λ (n : ℕ). x.event (suc n) reference.id node.id channel) g.counted ∙ carried.odd in
    let early =
    arrives x (length h) even.told.rows reference node slot channel l.early carried.share
    (each_row (row_nodes x h) even.told.rows (λ row. row.state ≡ Active) reference g.even_runs.rows.nodes l.among g.in_sync.active_even)
    (row_there (row_nodes x h) even.told.rows reference g.even_runs.rows.nodes l.among).number even_regular in
    let late =
    arrives x (suc (length h)) odd.told.rows reference node slot channel l.late carried.share
    (each_row (row_nodes x (even ∷ h)) odd.told.rows (λ row. row.state ≡ Active) reference g.odd_runs.rows.nodes later g.in_sync.active_odd)
    (row_there (row_nodes x (even ∷ h)) odd.told.rows reference g.odd_runs.rows.nodes later).number odd_regular in
    has_caught x (length h) even odd node.id slot channel (caught_from x (length h) node.id slot channel early.at late.at)
    (caught_both x (length h) even odd node.id slot channel early late)

-- ---- and it suffices

pub covered_listeners_begin : CoveredListenersBegin
unfolding begins_with
covered_listeners_begin x h even odd double node join w g there at listens natural =
    let p = x.params in
    let counted = g.counted in
    let joins : some_joins x ≡ true = some_joins_by x node join there at in
    let ref : IsReference x node join = w.referenced.references node join there at in
    let reference : NodeSpec = ref.reference in
    let slot : ℕ = ref.slot in
    let l = reference_listened x h even odd double node join g w.referenced there ref in
    let key = reference_key x node join g.covered.sane ref in
    let carried : IsCarried x reference node double =
    w.links reference node slot double (record { sends = ref.correct; hears = there; key = ref.key; other = ref.other }) g.within in
    let caught : HasCaught x (length h) even odd node.id slot = catches x h even odd double reference node slot l carried in
    let of : IsOf x even odd double reference node slot caught.caught =
    caught_either x (length h) even odd node.id slot (IsOf x even odd double reference node slot)
    (λ channel early late first second. both_caught x h even odd double reference node slot channel early late l first second) caught.caught caught.is in
    let Starts : ℕ → Type 0 = λ id. pos 0 ≤ℤ (row_for even.told.rows id).start in
    let proper = each_row (row_nodes x h) even.told.rows (λ row. IsCycleLength p (cycle_length_of p row)) reference g.even_runs.rows.nodes l.among g.in_sync.even_proper in
    let enough : suffices p caught.caught ≡ true =
    catches_suffice p caught.caught (row_for even.told.rows reference.id) (row_for odd.told.rows reference.id) g.covered.sane (g.covered.rate_limit joins)
    (subst (λ n. LimitSuffices p (pos n)) (reach_is x joins) g.covered.limit) of.caught proper
    (subst Starts (sym ref.named) natural) in
    let twice : length h ≡ 2 * join.double = counted ∙ ap (λ (n : ℕ). 2 * n) (sym listens) in
    let now : (length h == 2 * join.double) ≡ true = same_test (length h) (2 * join.double) twice in
    let begun : begins_with x (odd ∷ even ∷ h) node.id join ≡ Some caught.caught =
    ap (λ b. cond b (option_and_then (caught_by_slot x (length h) even odd node.id) (own_key p join.reference)) None) now
    ∙ ap (option_and_then (caught_by_slot x (length h) even odd node.id)) key
    ∙ ap (option_and_then (kept_if p)) caught.is
    ∙ ap (λ b. cond b (Some caught.caught) None) enough in
    rw begun refl
