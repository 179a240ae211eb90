-- What a node that listens catches of its reference.
use Rattle.std.proofs.Common.{◌≡◌, ◌≢◌, ℕ, suc, ◌*◌, ◌<◌, ◌==◌, Bool, true, false, cond, not, ℤ, pos, ◌+ℤ◌, ◌-ℤ◌, Option, Some, None, List, ◌∷◌, length, refl, ap, sym, ◌∙◌, subst, arith}
use Rattle.std.specs.Prelude.{◌≤ℤ◌, Contains, int_le, neg_ℤ, option_and_then}
use Rattle.std.specs.Option.{option_map}
use Rattle.std.proofs.lemmas.Bool.{and_parts, ne_eqb, not-false, or_parts}
use Rattle.std.proofs.lemmas.Int.{ints}
use Rattle.fr_base.specs.States.{is_active, is_halted}
use Rattle.fr_base.specs.declared.channel.Channel.{Channel}
use Rattle.fr_base.specs.declared.channel.Channel.TheVariants.{A, B}
use Rattle.fr_base.specs.declared.node_row.NodeRow.{NodeRow}
use Rattle.fr_cluster.specs.Questions.{key_in, own_key}
use Rattle.fr_cluster.specs.Sane.{IsSane}
use Rattle.fr_cluster.specs.Setting.{Setting, correct_nodes}
use Rattle.fr_cluster.specs.Values.{Values}
use Rattle.fr_cluster.specs.declared.nodes.NodeSpec.{NodeSpec}
use Rattle.fr_time.specs.Instant.{action_instant, instant_of}
use Rattle.fr_time.specs.Position.{grid_for}
use Rattle.fr_time.specs.Slots.{action_point_of, slot_end_of}
use Rattle.fr_time.specs.Senders.{sync_sending}
use Rattle.fr_time.specs.declared.senders.Sending.{Sending}
use Rattle.fr_time.proofs.Placing.{action_point_lt}
use Rattle.fr_time.proofs.SoleSenders.{key_slot_sender}
use Rattle.fr_bound.specs.Sync.{cycle_length_of, IsCycleLength}
use Rattle.fr_reception.specs.Offers.{Offer}
use Rattle.fr_reception.proofs.Early.{early}
use Rattle.fr_frame.specs.Reading.{read_as}
use Rattle.fr_reception.specs.Listening.{Caught, caught_by, first_or, first_rate_of, first_start_of, good_arrival, is_sync_of, kept_if, suffices}
use Rattle.fr_precision.specs.Reception.{IsDelay}
use Rattle.fr_history.specs.History.{row_for, row_of}
use Rattle.fr_history.specs.Offers.{active_offer, is_on}
use Rattle.fr_runs.specs.Listening.{IsCaught}
use Rattle.fr_runs.proofs.FirstStart.{first_start_is_natural}
use Rattle.fr_runs.proofs.Listened.{first_rate_is_within}
use Rattle.fr_history.specs.Catching.{begins_with, caught_arrival, caught_by_slot, caught_in_run, caught_of, listener_offer, listening_row, sender_offers}
use Rattle.fr_cluster.specs.declared.join.Join.{Join}
use Rattle.fr_history.specs.Cycles.{Cycle, Cycles}
use Rattle.fr_history.specs.Standing.{has_row, has_row_by, row_nodes}
use Rattle.fr_cluster.proofs.Elements.{kept_filtered}
use Rattle.fr_precision.proofs.RoundSenders.{and_then_some}
use Rattle.fr_runs.proofs.Rows.{each_row, has_row as row_there}
use Rattle.fr_runs.proofs.Nodes.{IsCorrectNode, IsKeySlot, correct_node, key_slot_there, node_there}
use Rattle.fr_runs.proofs.Known.{coming, does_send, is_deaf, offer_with, parts_of}
use Rattle.fr_runs.specs.Gathered.{IsDoubleInSync}
use Rattle.fr_runs.specs.References.{AreReferenced, CatchesAreCaught, CatchesSuffice, IsReference}
use Rattle.fr_runs.proofs.SyncedRows.{row_later, row_regular}

-- ---- it suffices

le_tested : (a b : ℤ) → a ≤ℤ b → int_le a b ≡ true
le_tested a b le = grind (arith, ints)

pub catches_suffice : CatchesSuffice
catches_suffice p c even odd sane rate limit caught proper from =
    let rate_within = first_rate_is_within p c even odd sane rate caught in
    let natural = first_start_is_natural p c even odd sane rate limit caught proper from in
    rw (
      le_tested (neg_ℤ p.rate_limit) (first_rate_of p c) rate_within.low,
      le_tested (first_rate_of p c) p.rate_limit rate_within.high,
      le_tested (pos 0) (first_start_of p c) natural,
    ) refl

-- ---- an arrival

-- a good arrival is that of its offer
pub good_by : (b : Bool) (arrival at : ℤ) → cond b (Some arrival) None ≡ Some at → at ≡ arrival
good_by true arrival at is = let e : arrival ≡ at = cc in sym e
good_by false arrival at is = absurd (cc)

-- a reference and a node that listens to it, in a cycle in which the reference has a row
pub record Listens (x : Setting) (cycle : ℕ) (rows : List NodeRow) (reference node : NodeSpec) (slot : ℕ) : Type 0 where
  pub sane : IsSane x.params
  pub sends : Contains (correct_nodes x) reference
  pub hears : Contains (correct_nodes x) node
  pub key : reference.key ≡ Some slot
  pub other : reference.id ≢ node.id
  pub row : row_of rows reference.id ≡ Some (row_for rows reference.id)
  pub delays :
      (channel : Channel) → is_on x reference.id channel ≡ true → is_on x node.id channel ≡ true
      → IsDelay x.params channel (x.delay reference.id node.id channel cycle)

pub listened_slot : (x : Setting) (cycle : ℕ) (rows : List NodeRow) (reference node : NodeSpec) (slot : ℕ) → Listens x cycle rows reference node slot → IsKeySlot x.params slot
listened_slot x cycle rows reference node slot l =
    let from : IsCorrectNode x reference = correct_node x reference l.sends in
    key_slot_there x.params reference slot l.sane from.there l.key

-- what is offered to it
pub listened_offer : (x : Setting) (cycle : ℕ) (rows : List NodeRow) (reference node : NodeSpec) (slot : ℕ) (channel : Channel) → Listens x cycle rows reference node slot
    → listener_offer x cycle rows node.id slot channel
    ≡ cond (is_deaf x (listening_row node.id) channel) None
    (cond (does_send x reference.id (row_for rows reference.id) channel)
    (option_map (offer_with x cycle (row_for rows reference.id) (listening_row node.id) slot channel)
    (coming x cycle reference (row_for rows reference.id) (listening_row node.id) slot channel)) None)
listened_offer x cycle rows reference node slot channel l =
    let from : IsCorrectNode x reference = correct_node x reference l.sends in
    let deaf : Bool = not (is_on x node.id channel) in
    let offers : Sending → Option Offer = sender_offers x cycle rows node.id slot channel in
    let known : Option NodeRow → Option Offer = λ row. active_offer x cycle (sync_sending reference) row (listening_row node.id) slot channel in
    let own : offers (sync_sending reference) ≡ known (row_of rows reference.id) = rw (ne_eqb reference.id node.id l.other, from.correct) refl in
    ap (λ (o : Option Sending). cond deaf None (option_and_then offers o)) (key_slot_sender x.params slot cycle reference l.sane from.there l.key)
    ∙ ap (λ (o : Option Offer). cond deaf None o) (own ∙ ap known l.row)

-- it sends when its own clock says so
pub sends_at : (p : Values) (row : NodeRow) (slot : ℕ) (is_odd : Bool) → IsSane p → IsKeySlot p slot
    → action_instant p row slot ≡ instant_of (grid_for p) row is_odd (pos (action_point_of p slot))
sends_at p row slot is_odd sane key =
    let less : action_point_of p slot < slot_end_of p slot = action_point_lt p slot sane key.from in
    sym (early p row is_odd slot (action_point_of p slot) sane key.to (omega (arith, less)))

less_delay : (at action delay : ℤ) → at ≡ action +ℤ delay → at -ℤ action ≡ delay
less_delay at action delay is = omega (arith, ints, is)

-- what is caught in a cycle came with the delay of the run, on a channel that both have
pub record Came (x : Setting) (cycle : ℕ) (rows : List NodeRow) (reference node : NodeSpec) (slot : ℕ) (channel : Channel) (is_odd : Bool) (at : ℤ) : Type 0 where
  pub delay : (at -ℤ instant_of (grid_for x.params) (row_for rows reference.id) is_odd (pos (action_point_of x.params slot))) ≡ x.delay reference.id node.id channel cycle
  pub sends : is_on x reference.id channel ≡ true
  pub hears : is_on x node.id channel ≡ true

pub came : (x : Setting) (cycle : ℕ) (rows : List NodeRow) (reference node : NodeSpec) (slot : ℕ) (channel : Channel) (is_odd : Bool) (at : ℤ)
    → Listens x cycle rows reference node slot → (row_for rows reference.id).node ≡ reference.id
    → option_and_then (good_arrival slot) (listener_offer x cycle rows node.id slot channel) ≡ Some at → Came x cycle rows reference node slot channel is_odd at
came x cycle rows reference node slot channel is_odd at l number is =
    let p = x.params in
    let from : NodeRow = row_for rows reference.id in
    let deaf : Bool = is_deaf x (listening_row node.id) channel in
    let sends : Bool = does_send x reference.id from channel in
    let offer : List ℕ → Offer = offer_with x cycle from (listening_row node.id) slot channel in
    let offered = listened_offer x cycle rows reference node slot channel l in
    let parts = parts_of deaf sends (good_arrival slot) offer (coming x cycle reference from (listening_row node.id) slot channel) at
    (sym (ap (option_and_then (good_arrival slot)) offered) ∙ is) in
    let good : at ≡ (offer parts.bytes).arrival = good_by (is_sync_of slot (read_as channel parts.bytes)) (offer parts.bytes).arrival at parts.stored in
    let delay : ℤ = x.delay reference.id node.id channel cycle in
    let action : ℤ = instant_of (grid_for p) from is_odd (pos (action_point_of p slot)) in
    let arrives : at ≡ action +ℤ delay =
    good
    ∙ ap (λ (id : ℕ). action_instant p from slot +ℤ x.delay id node.id channel cycle) number
    ∙ ap (λ (t : ℤ). t +ℤ delay) (sends_at p from slot is_odd l.sane (listened_slot x cycle rows reference node slot l)) in
    let heard = or_parts (is_halted (listening_row node.id).state) (not (is_on x node.id channel)) parts.hears in
    let sent = and_parts (is_active from.state) (is_on x reference.id channel) parts.sent in
    record { delay = less_delay at action delay arrives; sends = sent.1; hears = not-false (is_on x node.id channel) heard.1 }

-- so its delay is a proper one
arrival_is : (x : Setting) (cycle : ℕ) (rows : List NodeRow) (reference node : NodeSpec) (slot : ℕ) (channel : Channel) (is_odd : Bool) (at : ℤ)
    → Listens x cycle rows reference node slot → (row_for rows reference.id).node ≡ reference.id
    → option_and_then (good_arrival slot) (listener_offer x cycle rows node.id slot channel) ≡ Some at
    → IsDelay x.params channel (at -ℤ instant_of (grid_for x.params) (row_for rows reference.id) is_odd (pos (action_point_of x.params slot)))
arrival_is x cycle rows reference node slot channel is_odd at l number is =
    let c = came x cycle rows reference node slot channel is_odd at l number is in
    subst (IsDelay x.params channel) (sym c.delay) (l.delays channel c.sends c.hears)

-- ---- both

-- a node listens to a reference in a double cycle in sync
pub record ListensIn (x : Setting) (h : Cycles) (even odd : Cycle) (double : ℕ) (reference node : NodeSpec) (slot : ℕ) : Type 0 where
  pub gathered : IsDoubleInSync x h even odd double
  pub among : Contains (row_nodes x h) reference
  pub key : reference.key ≡ Some slot
  pub there : Contains (correct_nodes x) node
  pub early : Listens x (length h) even.told.rows reference node slot
  pub late : Listens x (suc (length h)) odd.told.rows reference node slot

-- what is made of both arrivals
abbrev pub caught_from : Setting → ℕ → ℕ → ℕ → Channel → ℤ → ℤ → Caught
caught_from x cycle node slot channel early late = record {
  slot = slot;
  channel = channel;
  early = early;
  late = late;
  even_length = x.microtick node cycle;
  odd_length = x.microtick node (suc cycle);
}

-- ---- what is caught

pub kept_is : (p : Values) (d c : Caught) (b : Bool) → cond b (Some d) None ≡ Some c → d ≡ c
kept_is p d c true is = cc
kept_is p d c false is = absurd (cc)

-- what holds of whatever is made of two arrivals on a channel
module _
    (x : Setting) (cycle : ℕ) (even odd : Cycle) (node slot : ℕ) (Is : Caught → Type 0)
    (both :
    (channel : Channel) (early late : ℤ) → caught_arrival x cycle even.told.rows node slot channel ≡ Some early → caught_arrival x (suc cycle) odd.told.rows node slot channel ≡ Some late
    → Is (caught_from x cycle node slot channel early late)) where
  -- holds of what is caught on one
  caught_is : (channel : Channel) (c : Caught) → caught_in_run x cycle even odd node slot channel ≡ Some c → Is c
  unfolding caught_in_run
  caught_is channel c is =
      by_both (caught_arrival x cycle even.told.rows node slot channel) (caught_arrival x (suc cycle) odd.told.rows node slot channel) refl refl is
    where
      by_both : (early late : Option ℤ) → caught_arrival x cycle even.told.rows node slot channel ≡ early → caught_arrival x (suc cycle) odd.told.rows node slot channel ≡ late
          → caught_by slot channel (x.microtick node cycle) (x.microtick node (suc cycle)) early late ≡ Some c → Is c
      by_both None late first second made = absurd (cc)
      by_both (Some early) None first second made = absurd (cc)
      by_both (Some early) (Some late) first second made =
          let e : caught_from x cycle node slot channel early late ≡ c = cc in
          subst Is e (both channel early late first second)

  -- on either
  pub caught_either : (c : Caught) → caught_of x cycle even odd node slot ≡ Some c → Is c
  caught_either c is = by_first (caught_in_run x cycle even odd node slot A) refl is
    where
      by_first : (o : Option Caught) → caught_in_run x cycle even odd node slot A ≡ o → first_or o (caught_in_run x cycle even odd node slot B) ≡ Some c → Is c
      by_first None first made = caught_is B c made
      by_first (Some d) first made =
          let e : Some d ≡ Some c = made in
          caught_is A c (first ∙ e)

  -- and of what a node begins with, whose reference has the slot
  pub begun_with : (reference : ℕ) (c : Caught) (b : Bool) → own_key x.params reference ≡ Some slot
      → cond b (option_and_then (caught_by_slot x cycle even odd node) (own_key x.params reference)) None ≡ Some c → Is c
  begun_with reference c false key made = absurd (cc)
  begun_with reference c true key made =
      let by_slot : option_and_then (kept_if x.params) (caught_of x cycle even odd node slot) ≡ Some c =
      sym (ap (option_and_then (caught_by_slot x cycle even odd node)) key) ∙ made in
      let some = and_then_some (kept_if x.params) (caught_of x cycle even odd node slot) c by_slot in
      let e : some.0 ≡ c = kept_is x.params some.0 c (suffices x.params some.0) some.2 in
      subst Is e (caught_either some.0 some.1)

-- it was caught of the reference's rows, and has the node's own lengths
pub record IsOf (x : Setting) (even odd : Cycle) (double : ℕ) (reference node : NodeSpec) (slot : ℕ) (c : Caught) : Type 0 where
  pub slot_is : slot ≡ c.slot
  pub caught : IsCaught x.params c (row_for even.told.rows reference.id) (row_for odd.told.rows reference.id)
  pub even_length : c.even_length ≡ x.microtick node.id (2 * double)
  pub odd_length : c.odd_length ≡ x.microtick node.id (suc (2 * double))

pub both_caught : (x : Setting) (h : Cycles) (even odd : Cycle) (double : ℕ) (reference node : NodeSpec) (slot : ℕ) (channel : Channel) (early late : ℤ)
    → ListensIn x h even odd double reference node slot
    → caught_arrival x (length h) even.told.rows node.id slot channel ≡ Some early → caught_arrival x (suc (length h)) odd.told.rows node.id slot channel ≡ Some late
    → IsOf x even odd double reference node slot (caught_from x (length h) node.id slot channel early late)
unfolding caught_arrival
both_caught x h even odd double reference node slot channel early late l first second =
    let g = l.gathered in
    let counted = g.counted in
    let within = g.within in
    let covered = g.covered in
    let less : length h < 2 * x.doubles = omega (arith, counted, within) in
    let more : suc (length h) < 2 * x.doubles = omega (arith, counted, within) in
    let later = row_later x h even odd double reference g l.among in
    let from = row_there (row_nodes x h) even.told.rows reference g.even_runs.rows.nodes l.among in
    let from_odd = row_there (row_nodes x (even ∷ h)) odd.told.rows reference g.odd_runs.rows.nodes later in
    let slots : IsKeySlot x.params slot = listened_slot x (length h) even.told.rows reference node slot l.early in
    record {
      slot_is = refl;
      caught = record {
        slot_from = slots.from;
        slot_to = slots.to;
        regular = row_regular x h even odd double reference g l.among;
        proper = each_row (row_nodes x (even ∷ h)) odd.told.rows (λ row. IsCycleLength x.params (cycle_length_of x.params row)) reference g.odd_runs.rows.nodes later g.in_sync.odd_proper;
        early_delay = arrival_is x (length h) even.told.rows reference node slot channel false early l.early from.number first;
        late_delay = arrival_is x (suc (length h)) odd.told.rows reference node slot channel true late l.late from_odd.number second;
        even_least = covered.least node (length h) l.there less;
        even_most = covered.most node (length h) l.there less;
        odd_least = covered.least node (suc (length h)) l.there more;
        odd_most = covered.most node (suc (length h)) l.there more;
        steady = covered.changes node (length h) l.there more;
      };
      even_length = ap (x.microtick node.id) counted;
      odd_length = ap (λ (n : ℕ). x.microtick node.id (suc n)) counted;
    }

-- ---- the reference of a node that joins

pub reference_listened : (x : Setting) (h : Cycles) (even odd : Cycle) (double : ℕ) (node : NodeSpec) (join : Join)
    → IsDoubleInSync x h even odd double → (r : AreReferenced x) → Contains (correct_nodes x) node → (ref : IsReference x node join)
    → ListensIn x h even odd double ref.reference node ref.slot
reference_listened x h even odd double node join g r there ref =
    let reference = ref.reference in
    let counted = g.counted in
    let within = g.within in
    let has : has_row x h reference.id ≡ true = ap (has_row_by x h reference.id) ref.stays in
    let among : Contains (row_nodes x h) reference = kept_filtered (λ (n : NodeSpec). has_row x h n.id) (correct_nodes x) reference ref.correct has in
    let later = row_later x h even odd double reference g among in
    let delays = λ (cycle : ℕ) (less : cycle < 2 * x.doubles) (channel : Channel) (sends : is_on x reference.id channel ≡ true) (hears : is_on x node.id channel ≡ true).
    r.delays reference node ref.slot channel cycle ref.correct there ref.key ref.other sends hears less in
    record {
      gathered = g;
      among = among;
      key = ref.key;
      there = there;
      early = record {
        sane = g.covered.sane;
        sends = ref.correct;
        hears = there;
        key = ref.key;
        other = ref.other;
        row = (row_there (row_nodes x h) even.told.rows reference g.even_runs.rows.nodes among).is;
        delays = delays (length h) (omega (arith, counted, within));
      };
      late = record {
        sane = g.covered.sane;
        sends = ref.correct;
        hears = there;
        key = ref.key;
        other = ref.other;
        row = (row_there (row_nodes x (even ∷ h)) odd.told.rows reference g.odd_runs.rows.nodes later).is;
        delays = delays (suc (length h)) (omega (arith, counted, within));
      };
    }

-- its key slot is that of its number
pub reference_key : (x : Setting) (node : NodeSpec) (join : Join) → IsSane x.params → (ref : IsReference x node join) → own_key x.params join.reference ≡ Some ref.slot
reference_key x node join sane ref =
    ap (own_key x.params) (sym ref.named)
    ∙ ap key_in (node_there x.params ref.reference sane (correct_node x ref.reference ref.correct).there)
    ∙ ref.key

pub catches_are_caught : CatchesAreCaught
unfolding begins_with
catches_are_caught x h even odd double node join c g r there at is =
    let ref : IsReference x node join = r.references node join there at in
    let l = reference_listened x h even odd double node join g r there ref in
    let key = reference_key x node join g.covered.sane ref in
    let of : IsOf x even odd double ref.reference node ref.slot c =
    begun_with x (length h) even odd node.id ref.slot (IsOf x even odd double ref.reference node ref.slot)
    (λ channel early late first second. both_caught x h even odd double ref.reference node ref.slot channel early late l first second)
    join.reference c (length h == 2 * join.double) key is in
    (ref.reference, l.among, ref.key ∙ ap (λ (s : ℕ). Some s) of.slot_is, of.caught, of.even_length, of.odd_length)
