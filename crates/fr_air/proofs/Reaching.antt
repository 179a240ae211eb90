-- A plain frame that reaches all nodes: each that hears its sender counts it, and none changes.
use Rattle.std.proofs.Common.{◌≡◌, ◌∙◌, ℕ, ◌+◌, ◌-◌, ◌<◌, ◌≤◌, ◌==◌, Bool, true, false, not, ◌&&◌, cond, List, [], ◌∷◌, Option, Some, None, get_or, length, map, refl, ap, sym, subst, arith, if◌then◌else◌}
use Rattle.std.specs.Prelude.{All, AllPairs, Contains, IfSome, IsSome, count_by}
use Rattle.std.specs.Option.{option_map}
use Rattle.std.proofs.lemmas.Bool.{and_parts, cond_both, eqb-true, eq-eqb}
use Rattle.std.proofs.lemmas.List.{get_or-map, length-map}
use Rattle.std.proofs.lemmas.List.Elements.{All-head, All-tail}
use Rattle.std.proofs.lemmas.List.Sums.{sum_by-cons}
use Rattle.fr_base.specs.Event.{Event}
use Rattle.fr_base.specs.States.{is_active, is_halted}
use Rattle.fr_base.specs.declared.channel.Channel.{Channel}
use Rattle.fr_base.specs.declared.cycle_row.Counts.{Counts}
use Rattle.fr_base.specs.declared.node_row.NodeRow.{NodeRow}
use Rattle.fr_base.specs.declared.state.State.{State}
use Rattle.fr_base.specs.declared.state.State.TheVariants.{Active, Passive, Halt}
use Rattle.fr_cluster.proofs.Elements.{Contains-here, Contains-there}
use Rattle.fr_cluster.proofs.KeyNodes.{AllPairs-first, AllPairs-rest}
use Rattle.fr_cluster.specs.Setting.{Setting}
use Rattle.fr_frame.specs.Reading.{read_as}
use Rattle.fr_history.specs.History.{row_of as row_in}
use Rattle.fr_history.specs.Offers.{arrived_of, is_on}
use Rattle.fr_node.proofs.Receptions.{answer_received}
use Rattle.fr_node.specs.Cycle.{after_hearing}
use Rattle.fr_node.specs.Receptions.{answer_with, received_as}
use Rattle.fr_node.specs.View.{NodeView, node_row_of}
use Rattle.fr_node.specs.declared.answers.Reception.{Reception}
use Rattle.fr_node.specs.declared.answers.Reception.TheVariants.{Ignored}
use Rattle.fr_reception.specs.Answers.{answer_of}
use Rattle.fr_reception.specs.Offers.{Offer}
use Rattle.fr_reception.specs.declared.heard.Heard.{Heard}
use Rattle.fr_reception.specs.declared.heard.Heard.TheVariants as heard
use Rattle.fr_reception.specs.declared.heard.Ignored.TheVariants as reason
use Rattle.fr_time.specs.Instant.{slot_begins, slot_ends}
use Rattle.fr_air.specs.Counting.{counted_offer, counted_offers, with_answer}
use Rattle.fr_air.specs.Cycling.{AreListable, IsReady}
use Rattle.fr_air.specs.Files.{setting_in}
use Rattle.fr_air.specs.Hearing.{after_offer}
use Rattle.fr_air.specs.Memory.{MemoryView, frame_on}
use Rattle.fr_air.specs.Reaching.{can_send, how_many_listen, listening_on, listens, AreRowsApart, IsWholeReach, Reaches, ReachesAll, SendsAmong}
use Rattle.fr_air.specs.Sending.{hears, offer_at, offer_from, sending_row_by, sent_instant}
use Rattle.fr_air.specs.Turns.{offer_on, HaveHeard, IsOnAir}
use Rattle.fr_air.specs.declared.files.RunInputs.{RunInputs}
use Rattle.fr_air.specs.declared.reach.Reach.{Reach}
use Rattle.fr_air.specs.declared.turn.Air.{Air}
use Rattle.fr_air.specs.declared.turn.Turn.{Turn}

-- ---- the sender

sends : (x : Setting) (found : Option NodeRow) (node : ℕ) (channel : Channel) (row : NodeRow) → sending_row_by x found node channel ≡ Some row →
    (found ≡ Some row) × ((is_active row.state && is_on x node channel) ≡ true)
sends x None node channel row is = absurd (cc)
sends x (Some r) node channel row is =
    cond_both (is_active r.state && is_on x node channel) (Some r) None (λ o. o ≡ Some row → (Some r ≡ Some row) × ((is_active row.state && is_on x node channel) ≡ true))
    (λ does same. let e : r ≡ row = cc in (same, ap (λ (n : NodeRow). is_active n.state && is_on x node channel) (sym e) ∙ does))
    (λ quiet none. absurd (cc)) is

named : (rows : List NodeRow) (node : ℕ) (row : NodeRow) → row_in rows node ≡ Some row → row.node ≡ node
named [] node row is = absurd (cc)
named (r ∷ rs) node row is =
    cond_both (r.node == node) (Some r) (row_in rs node) (λ o. o ≡ Some row → row.node ≡ node)
    (λ here same. let e : r ≡ row = cc in ap (λ (n : NodeRow). n.node) (sym e) ∙ eqb-true r.node node here)
    (λ there later. named rs node row later) is

not_halted : (state : State) → is_active state ≡ true → not (is_halted state) ≡ true
not_halted Active is = refl
not_halted Passive is = refl
not_halted Halt is = absurd (cc)

-- a node that sends is not halted
pub awake : (x : Setting) (channel : Channel) (row : NodeRow) → can_send x channel row ≡ true → is_halted row.state ≡ false
awake x channel row does = by row.state (and_parts _ _ does).0
  where
    by : (state : State) → is_active state ≡ true → is_halted state ≡ false
    by Active is = refl
    by Passive is = refl
    by Halt is = absurd (cc)

-- a node that sends can send by its own row, and listens
sender_can : (x : Setting) (node : ℕ) (channel : Channel) (row : NodeRow) → row.node ≡ node → (is_active row.state && is_on x node channel) ≡ true → can_send x channel row ≡ true
sender_can x node channel row is does = ap (λ (n : ℕ). is_active row.state && is_on x n channel) is ∙ does

sender_listens : (x : Setting) (channel : Channel) (row : NodeRow) → can_send x channel row ≡ true → listens x channel row ≡ true
sender_listens x channel row does =
    let parts : (is_active row.state ≡ true) × (is_on x row.node channel ≡ true) = and_parts _ _ does in
    ap (λ (b : Bool). b && is_on x row.node channel) (not_halted row.state parts.0) ∙ parts.1

-- ---- how many hear it: all that listen but itself

count-cons : (p : NodeRow → Bool) (r : NodeRow) (rs : List NodeRow) → count_by p (r ∷ rs) ≡ cond (p r) 1 0 + count_by p rs
count-cons p r rs = sum_by-cons (λ (n : NodeRow). cond (p n) 1 0) r rs

differs : (a b : ℕ) → a < b → (a == b) ≡ false
differs a b less = grind arith

differs_back : (a b : ℕ) → (a == b) ≡ false → (b == a) ≡ false
differs_back a b differ = grind (arith, differ)

module _ (x : Setting) (node : ℕ) (channel : Channel) where
  abbrev heard_by : NodeRow → Bool
  heard_by receiver = hears x receiver node channel

  other : (r : NodeRow) → (node == r.node) ≡ false → heard_by r ≡ listens x channel r
  other r is = ap (λ (b : Bool). listens x channel r && not b) is ∙ and_true (listens x channel r)
    where
      and_true : (b : Bool) → (b && true) ≡ b
      and_true true = refl
      and_true false = refl

  itself : (r : NodeRow) → (node == r.node) ≡ true → heard_by r ≡ false
  itself r is = ap (λ (b : Bool). listens x channel r && not b) is ∙ and_false (listens x channel r)
    where
      and_false : (b : Bool) → (b && false) ≡ false
      and_false true = refl
      and_false false = refl

  same_rest : (rs : List NodeRow) → ((r : NodeRow) → Contains rs r → node < r.node) → count_by heard_by rs ≡ count_by (listens x channel) rs
  same_rest [] behind = refl
  same_rest (r ∷ rs) behind =
      count-cons heard_by r rs
      ∙ ap (λ (b : Bool). cond b 1 0 + count_by heard_by rs) (other r (differs node r.node (behind r (Contains-here r rs))))
      ∙ ap (λ (n : ℕ). cond (listens x channel r) 1 0 + n) (same_rest rs (λ n among. behind n (Contains-there r rs n among)))
      ∙ sym (count-cons (listens x channel) r rs)

  pub all_but_one : (rows : List NodeRow) (row : NodeRow) → AllPairs (λ (a : NodeRow) (b : NodeRow). a.node < b.node) rows → row_in rows node ≡ Some row → listens x channel row ≡ true →
      count_by heard_by rows + 1 ≡ count_by (listens x channel) rows
  all_but_one [] row ascend is hear = absurd (cc)
  all_but_one (r ∷ rs) row ascend is hear =
      let R : NodeRow → NodeRow → Type 0 = λ a b. a.node < b.node in
      cond_both (r.node == node) (Some r) (row_in rs node) (λ o. o ≡ Some row → count_by heard_by (r ∷ rs) + 1 ≡ count_by (listens x channel) (r ∷ rs))
      (λ here same.
      let e : r ≡ row = cc in
      let at : r.node ≡ node = eqb-true r.node node here in
      let mine : heard_by r ≡ false = itself r (eq-eqb node r.node (sym at)) in
      let one : listens x channel r ≡ true = ap (listens x channel) e ∙ hear in
      let rest = same_rest rs (λ n among. let less : r.node < n.node = AllPairs-first R r rs n ascend among in omega (arith, less, at)) in
      let left = count-cons heard_by r rs ∙ ap (λ (b : Bool). cond b 1 0 + count_by heard_by rs) mine in
      let right = count-cons (listens x channel) r rs ∙ ap (λ (b : Bool). cond b 1 0 + count_by (listens x channel) rs) one in
      omega (arith, left, right, rest))
      (λ there later.
      let rest = all_but_one rs row (AllPairs-rest R r rs ascend) later hear in
      let same : heard_by r ≡ listens x channel r = other r (differs_back r.node node there) in
      let left = count-cons heard_by r rs ∙ ap (λ (b : Bool). cond b 1 0 + count_by heard_by rs) same in
      let right = count-cons (listens x channel) r rs in
      omega (arith, left, right, rest))
      is

-- ---- a plain frame that reaches a node

-- one more plain frame, if it is heard
abbrev plainer : Bool → Counts → Counts
plainer true c = record c { plain = c.plain + 1 }
plainer false c = c

abbrev plain_to : ℕ → Counts → Counts
plain_to m c = record c { plain = m }

abbrev pub plain_by : ℕ → Counts → Counts
plain_by n c = record c { plain = c.plain + n }

plain_more : (b : Bool) (n : ℕ) (c : Counts) → plain_by n (plainer b c) ≡ plain_by (cond b 1 0 + n) c
plain_more true n c = ap (λ (m : ℕ). plain_to m c) (omega arith)
plain_more false n c = ap (λ (m : ℕ). plain_to m c) (omega arith)

plain_none : (c : Counts) → c ≡ plain_by 0 c
plain_none c = ap (λ (m : ℕ). plain_to m c) (omega arith)

module _ (f : RunInputs) (air : Air) (memory : MemoryView) (row : NodeRow) (on : IsOnAir f air memory) (some : 1 ≤ air.turn.now.slot)
    (plain : air.reception.now ≡ Ignored reason.Plain) (has : air.sender.now.row ≡ Some row) where
  abbrev x : Setting
  x = setting_in f

  abbrev t : Turn
  t = air.turn.now

  abbrev frame : List ℕ
  frame = frame_on memory air.cell

  abbrev offered : NodeRow → Offer
  offered receiver = offer_at t (sent_instant x t row receiver.node) frame

  abbrev heard_at : NodeRow → Bool
  heard_at receiver = hears x receiver air.sender.now.node t.channel

  -- who hears it is not halted
  not-halted : (receiver : NodeRow) → heard_at receiver ≡ true → is_halted receiver.state ≡ false
  not-halted receiver hears =
      let parts : (listens x t.channel receiver ≡ true) × (not (air.sender.now.node == receiver.node) ≡ true) = and_parts _ _ hears in
      awake receiver.state (and_parts (not (is_halted receiver.state)) (is_on x receiver.node t.channel) parts.0).0
    where
      awake : (state : State) → not (is_halted state) ≡ true → is_halted state ≡ false
      awake Active is = refl
      awake Passive is = refl
      awake Halt is = absurd (cc)

  offer-is : (receiver : NodeRow) → Reaches f t.cycle row t.channel receiver → offer_on f air memory receiver ≡ cond (heard_at receiver) (Some (offered receiver)) None
  offer-is receiver reaches = ap (λ (o : Option NodeRow). if heard_at receiver then offer_from x t air.sender.now.node o frame receiver else None) has ∙ by (heard_at receiver) refl
    where
      by : (b : Bool) → heard_at receiver ≡ b → cond b (offer_from x t air.sender.now.node (Some row) frame receiver) None ≡ cond b (Some (offered receiver)) None
      by true hears = ap (λ (e : Event). option_map (λ bytes. offer_at t (sent_instant x t row receiver.node) bytes) (arrived_of e frame)) (reaches (not-halted receiver hears)).regular
      by false unheard = refl

  answer-is : (receiver : NodeRow) → Reaches f t.cycle row t.channel receiver → heard_at receiver ≡ true → answer_of f.params t.cycle receiver (offered receiver) ≡ heard.Ignored reason.Plain
  answer-is receiver reaches hears =
      let offer = offered receiver in
      let made : received_as f.params t.cycle t.slot (read_as t.channel frame) ≡ Ignored reason.Plain = sym on.reception ∙ plain in
      answer_received f.params t.cycle receiver offer
      ∙ ap (λ (r : Reception). answer_with f.params receiver offer r) made
      ∙ ap (λ (b : Bool). if b then heard.Ignored (reason.Outside offer.arrival (slot_begins f.params receiver t.slot) (slot_ends f.params receiver t.slot)) else heard.Ignored reason.Plain)
      ((reaches (not-halted receiver hears)).inside t.slot some on.sent.static_slot)

  -- it is counted where it is heard
  counted-one : (receiver : NodeRow) (c : Counts) → Reaches f t.cycle row t.channel receiver → counted_offer x t.cycle receiver (offer_on f air memory receiver) c ≡ plainer (heard_at receiver) c
  counted-one receiver c reaches = ap (λ (o : Option Offer). counted_offer x t.cycle receiver o c) (offer-is receiver reaches) ∙ by (heard_at receiver) refl
    where
      by : (b : Bool) → heard_at receiver ≡ b → counted_offer x t.cycle receiver (cond b (Some (offered receiver)) None) c ≡ plainer b c
      by true hears = ap (λ (h : Heard). with_answer h c) (answer-is receiver reaches hears)
      by false unheard = refl

  -- and changes nothing
  stays-one : (node : NodeView) → Reaches f t.cycle row t.channel (node_row_of node) → after_offer x t.cycle node (offer_on f air memory (node_row_of node)) ≡ node
  stays-one node reaches = ap (after_offer x t.cycle node) (offer-is (node_row_of node) reaches) ∙ by (heard_at (node_row_of node)) refl
    where
      by : (b : Bool) → heard_at (node_row_of node) ≡ b → after_offer x t.cycle node (cond b (Some (offered (node_row_of node))) None) ≡ node
      by true hears = ap (λ (h : Heard). after_hearing f.params node t.slot t.channel h) (answer-is (node_row_of node) reaches hears)
      by false unheard = refl

  counted-all : (rows : List NodeRow) (c : Counts) → All (Reaches f t.cycle row t.channel) rows → counted_offers x t.cycle (offer_on f air memory) rows c ≡ plain_by (count_by heard_at rows) c
  unfolding counted_offers
  counted-all [] c all = plain_none c
  counted-all (r ∷ rs) c all =
      let P : NodeRow → Type 0 = Reaches f t.cycle row t.channel in
      ap (counted_offers x t.cycle (offer_on f air memory) rs) (counted-one r c (All-head P r rs all))
      ∙ counted-all rs (plainer (heard_at r) c) (All-tail P r rs all)
      ∙ plain_more (heard_at r) (count_by heard_at rs) c
      ∙ ap (λ (n : ℕ). plain_by n c) (sym (count-cons heard_at r rs))

  pub stay-all : (nodes : List NodeView) → All (Reaches f t.cycle row t.channel) (map node_row_of nodes) → nodes ≡ map (λ (node : NodeView). after_offer x t.cycle node (offer_on f air memory (node_row_of node))) nodes
  stay-all [] all = refl
  stay-all (n ∷ ns) all =
      let P : NodeRow → Type 0 = Reaches f t.cycle row t.channel in
      let first : n ≡ after_offer x t.cycle n (offer_on f air memory (node_row_of n)) = sym (stays-one n (All-head P (node_row_of n) (map node_row_of ns) all)) in
      let rest = stay-all ns (All-tail P (node_row_of n) (map node_row_of ns) all) in
      cc

  -- the sender itself listens, and does not hear itself
  pub plain-all : (rows : List NodeRow) (c : Counts) → AllPairs (λ (a : NodeRow) (b : NodeRow). a.node < b.node) rows → SendsAmong f air rows row → All (Reaches f t.cycle row t.channel) rows →
      (1 ≤ how_many_listen x t.channel rows) × (counted_offers x t.cycle (offer_on f air memory) rows c ≡ plain_by (how_many_listen x t.channel rows - 1) c)
  plain-all rows c ascend among all =
      let does = sends x (row_in rows air.sender.now.node) air.sender.now.node t.channel row among in
      let at : row.node ≡ air.sender.now.node = named rows air.sender.now.node row does.0 in
      let one : count_by heard_at rows + 1 ≡ how_many_listen x t.channel rows =
      all_but_one x air.sender.now.node t.channel rows row ascend does.0 (sender_listens x t.channel row (sender_can x air.sender.now.node t.channel row at does.1)) in
      let left : count_by heard_at rows ≡ how_many_listen x t.channel rows - 1 = omega (arith, one) in
      (omega (arith, one), counted-all rows c all ∙ ap (λ (n : ℕ). plain_by n c) left)

-- what holds of all senders holds of one that sends, and it can
among-all : (P : NodeRow → Type 0) (x : Setting) (rows : List NodeRow) (node : ℕ) (channel : Channel) (row : NodeRow) → All P rows → sending_row_by x (row_in rows node) node channel ≡ Some row →
    P row × (can_send x channel row ≡ true)
among-all P x rows node channel row all is =
    let does = sends x (row_in rows node) node channel row is in
    (found rows all does.0, sender_can x node channel row (named rows node row does.0) does.1)
  where
    found : (rs : List NodeRow) → All P rs → row_in rs node ≡ Some row → P row
    found [] every at = absurd (cc)
    found (r ∷ rs) every at =
        cond_both (r.node == node) (Some r) (row_in rs node) (λ o. o ≡ Some row → P row)
        (λ here same. let e : r ≡ row = cc in subst P e (All-head P r rs every))
        (λ there later. found rs (All-tail P r rs every) later) at

-- ---- all nodes

module _ (f : RunInputs) (air : Air) (memory : MemoryView) (reach : Reach) (nodes : List NodeView) (on : IsOnAir f air memory)
    (there : IsSome air.sender.now.row) (among : IfSome air.sender.now.row (SendsAmong f air (map node_row_of nodes)))
    (whole : IsWholeReach f air.turn.now.cycle (map node_row_of nodes) reach)
    (some : 1 ≤ air.turn.now.slot) (plain : air.reception.now ≡ Ignored reason.Plain) where
  abbrev known : ℕ
  known = listening_on reach air.turn.now.channel

  by_row : (counted : Counts) (o : Option NodeRow) → air.sender.now.row ≡ o → IsSome o → IfSome o (SendsAmong f air (map node_row_of nodes)) →
      (1 ≤ known) × (nodes ≡ map (λ (node : NodeView). after_offer (setting_in f) air.turn.now.cycle node (offer_on f air memory (node_row_of node))) nodes)
      × (counted_offers (setting_in f) air.turn.now.cycle (offer_on f air memory) (map node_row_of nodes) counted ≡ plain_by (known - 1) counted)
  by_row counted None has is sent = absurd (cc)
  by_row counted (Some row) has is sent =
      let rows : List NodeRow = map node_row_of nodes in
      let found = among-all (ReachesAll f air.turn.now.cycle rows) (setting_in f) rows air.sender.now.node air.turn.now.channel row whole.all sent in
      let all : All (Reaches f air.turn.now.cycle row air.turn.now.channel) rows = found.0 air.turn.now.channel found.1 in
      let counts = plain-all f air memory row on some plain has rows counted whole.apart.ascending sent all in
      let hear : known ≡ how_many_listen (setting_in f) air.turn.now.channel rows = whole.listening air.turn.now.channel in (
        omega (arith, hear, counts.0),
        stay-all f air memory row on some plain has nodes all,
        counts.1 ∙ ap (λ (n : ℕ). plain_by (n - 1) counted) (sym hear),
      )

  pub one-listens : (counted : Counts) → 1 ≤ known
  one-listens counted = (by_row counted air.sender.now.row refl there among).0

  pub all-heard : (counted counts : Counts) → All (IsReady f air.turn.now.cycle) nodes → counts ≡ plain_by (known - 1) counted → HaveHeard f air.turn.now.cycle (offer_on f air memory) nodes counted nodes counts
  all-heard counted counts ready is =
      let heard = by_row counted air.sender.now.row refl there among in
      record { nodes_are = heard.1; ready = ready; counts_are = is ∙ sym heard.2 }

-- ---- the rows of nodes that can be listed

pub rows-apart : (nodes : List NodeView) → AreListable nodes → AreRowsApart (map node_row_of nodes)
rows-apart [] is = record { ascending = λ i j d less short. absurd (omega (arith, short)); few = omega arith }
rows-apart (n ∷ ns) is =
    let nodes : List NodeView = n ∷ ns in
    let long : length (map node_row_of nodes) ≡ length nodes = length-map nodes node_row_of in record {
      ascending = λ i j d less short.
          let within : j < length nodes = omega (arith, long, short) in
          let first : (get_or (map node_row_of nodes) i d).node ≡ (get_or nodes i n).id = ap (λ (r : NodeRow). r.node) (get_or-map node_row_of nodes i n d (omega (arith, less, within))) in
          let second : (get_or (map node_row_of nodes) j d).node ≡ (get_or nodes j n).id = ap (λ (r : NodeRow). r.node) (get_or-map node_row_of nodes j n d within) in
          let lt : (get_or nodes i n).id < (get_or nodes j n).id = is.ascending i j n less within in
          omega (arith, first, second, lt);
      few = omega (arith, long, is.few);
    }
