-- A stage after a slot on a channel, and after the slots of a cycle.
use Rattle.std.proofs.Common.{◌≡◌, ◌∙◌, ℕ, zero, suc, ◌+◌, ◌-◌, ◌*◌, ◌≤◌, ◌==◌, List, [], ◌∷◌, Option, Some, None, map, length, refl, ap, ap₂, sym, subst, arith, add-one}
use Rattle.std.specs.Prelude.{All}
use Rattle.std.proofs.lemmas.Bool.{cond_both, eqb-true}
use Rattle.std.proofs.lemmas.Int.{ints}
use Rattle.std.proofs.lemmas.List.Elements.{All-head, All-tail}
use Rattle.std.proofs.lemmas.List.{length-map}
use Rattle.fr_base.specs.Counts.{AreAtMost, no_counts}
use Rattle.fr_base.specs.Rows.{channel_rank}
use Rattle.fr_base.specs.declared.channel.Channel.{Channel}
use Rattle.fr_base.specs.declared.channel.Channel.TheVariants.{A, B}
use Rattle.fr_base.specs.declared.cycle_row.Counts.{Counts}
use Rattle.fr_base.specs.declared.node_row.NodeRow.{NodeRow}
use Rattle.fr_cluster.specs.Sane.{IsSane}
use Rattle.fr_cluster.specs.Setting.{Setting}
use Rattle.fr_cluster.specs.Values.{amount}
use Rattle.fr_cluster.specs.declared.names.ParamName.TheVariants as name
use Rattle.fr_reception.specs.Offers.{Offer}
use Rattle.fr_node.specs.Listening.{ListenerView}
use Rattle.fr_node.specs.View.{NodeView, node_row_of}
use Rattle.fr_history.specs.History.{row_of as row_in}
use Rattle.fr_history.specs.Offers.{frame_in, offer_in}
use Rattle.fr_history.proofs.Lists.{map-map}
use Rattle.fr_air.specs.Counting.{counted_frame, counted_offers, counts_after, counts_on}
use Rattle.fr_air.specs.Cycling.{begun_in}
use Rattle.fr_air.specs.Files.{setting_in}
use Rattle.fr_air.specs.Hearing.{after_channel, after_offer, after_slots}
use Rattle.fr_air.specs.Memory.{MemoryView, held_on, held_slots, memory_with, place_of_slot, with_sent}
use Rattle.fr_air.specs.Sending.{IsEarlyRow}
use Rattle.fr_world.specs.Stage.{StageView, answered, answered_by_nodes, begun_nodes, begun_stage, heard_after, after_turn, most_before, saying, sent_on, AllReady, CanAnswer, HearsTurn, IsBefore, IsStage}
use Rattle.fr_air.specs.Walk.{after_both_channels, over_slots}
use Rattle.fr_air.specs.declared.files.RunInputs.{RunInputs}
use Rattle.fr_air.specs.declared.turn.Turn.{Turn}
use Rattle.fr_world.proofs.Channels.{at_most-on, channel-rows, heard-counts, heard-nodes, silent-counts, silent-nodes, slots-none}
use Rattle.fr_air.proofs.Loops.{at_most-frame, at_most-more}

abbrev pub made_stage : List NodeRow → List NodeView → List NodeView → List ListenerView → Counts → MemoryView → StageView
made_stage rows nodes followers listeners counts memory =
    record { rows = rows; nodes = nodes; followers = followers; listeners = listeners; counts = counts; memory = memory }

stage_same : (rows : List NodeRow) (n m f g : List NodeView) (ls : List ListenerView) (c d : Counts) (k l : MemoryView) → n ≡ m → f ≡ g → c ≡ d → k ≡ l → made_stage rows n f ls c k ≡ made_stage rows m g ls d l
stage_same rows n m f g ls c d k l nodes followers counts memory = cc

abbrev holds : MemoryView → ℕ → Channel → Option (List ℕ) → MemoryView
holds memory slot channel frame = record memory { held = with_sent (place_of_slot slot channel) frame memory.held }

-- what all hear is what is offered in the slot on the channel
pub heard-same : (x : Setting) (cycle slot : ℕ) (channel : Channel) (offer : NodeRow → Option Offer) (frame : Option (List ℕ)) (stage : StageView) → ((r : NodeRow) → offer_in x cycle stage.rows r slot channel ≡ offer r) →
    frame_in x cycle stage.rows slot channel ≡ frame → answered x cycle offer (sent_on slot channel frame stage) ≡ after_turn x cycle slot channel stage
heard-same x cycle slot channel offer frame stage same sent =
    stage_same stage.rows
    (answered x cycle offer (sent_on slot channel frame stage)).nodes (after_turn x cycle slot channel stage).nodes
    (answered x cycle offer (sent_on slot channel frame stage)).followers (after_turn x cycle slot channel stage).followers
    stage.listeners
    (answered x cycle offer (sent_on slot channel frame stage)).counts (after_turn x cycle slot channel stage).counts
    (holds stage.memory slot channel frame) (after_turn x cycle slot channel stage).memory
    (heard-nodes x cycle stage.rows slot channel offer stage.nodes same)
    (heard-nodes x cycle stage.rows slot channel offer stage.followers same)
    (heard-counts x cycle stage.rows slot channel offer frame stage.counts same sent)
    (sym (ap (holds stage.memory slot channel) sent))

-- where nothing is sent and nothing comes, nothing changes
pub silent-same : (x : Setting) (cycle slot : ℕ) (channel : Channel) (stage : StageView) → ((r : NodeRow) → offer_in x cycle stage.rows r slot channel ≡ None) → frame_in x cycle stage.rows slot channel ≡ None →
    stage ≡ after_turn x cycle slot channel stage
silent-same x cycle slot channel stage none unsent =
    stage_same stage.rows stage.nodes (after_turn x cycle slot channel stage).nodes stage.followers (after_turn x cycle slot channel stage).followers stage.listeners
    stage.counts (after_turn x cycle slot channel stage).counts stage.memory (after_turn x cycle slot channel stage).memory
    (silent-nodes x cycle stage.rows slot channel stage.nodes none)
    (silent-nodes x cycle stage.rows slot channel stage.followers none)
    (silent-counts x cycle stage.rows slot channel stage.counts none unsent)
    (sym (ap (holds stage.memory slot channel) unsent))

-- ---- what holds of it

pub stage-more : (f : RunInputs) (cycle n m : ℕ) (stage : StageView) → n ≤ m → IsStage f cycle n stage → IsStage f cycle m stage
stage-more f cycle n m stage le is = record {
  rows_are = is.rows_are;
  ready = is.ready;
  early = is.early;
  few_nodes = is.few_nodes;
  followers_ready = is.followers_ready;
  few_followers = is.few_followers;
  few = at_most-more n m stage.counts le is.few;
  memory_is = is.memory_is;
}

pub stage-heard : (f : RunInputs) (turn : Turn) (n : ℕ) (stage after : StageView) → IsStage f turn.cycle n stage → after ≡ after_turn (setting_in f) turn.cycle turn.slot turn.channel stage → AllReady f turn.cycle after →
    IsStage f turn.cycle (n + 65) after
stage-heard f turn n stage after is heard ready =
    let x : Setting = setting_in f in
    let rows : List NodeRow = stage.rows in
    let step : NodeView → NodeView = after_channel x turn.cycle rows turn.slot turn.channel in
    let nodes : after.nodes ≡ map step stage.nodes = ap (λ (s : StageView). s.nodes) heard in
    let few : length rows ≤ 64 = rw (is.rows_are, length-map) is.few_nodes in
    let long : length after.nodes ≡ length stage.nodes = ap length nodes ∙ length-map stage.nodes step in
    let as_long : length after.followers ≡ length stage.followers = ap (λ (s : StageView). length s.followers) heard ∙ length-map stage.followers step in record {
      rows_are = ap (λ (s : StageView). s.rows) heard ∙ is.rows_are ∙ sym (ap (map node_row_of) nodes ∙ channel-rows x turn.cycle rows turn.slot turn.channel stage.nodes);
      ready = ready.nodes;
      early = subst (All (IsEarlyRow f.params)) (sym (ap (λ (s : StageView). s.rows) heard)) is.early;
      few_nodes = omega (arith, long, is.few_nodes);
      followers_ready = ready.followers;
      few_followers = omega (arith, as_long, is.few_followers);
      few = subst (AreAtMost (n + 65)) (sym (ap (λ (s : StageView). s.counts) heard)) (at_most-on x turn.cycle rows turn.slot turn.channel n stage.counts few is.few);
      memory_is = ap (λ (s : StageView). s.memory) heard
          ∙ ap (λ (m : MemoryView). let now : MemoryView = record m { held = held_on x turn.cycle rows turn.slot turn.channel stage.memory.held } in now) is.memory_is
          ∙ ap (λ (s : StageView). memory_with f.params s.memory.held) (sym heard);
    }

pub hears : (f : RunInputs) (turn : Turn) (before after : StageView) → IsBefore f turn before → after ≡ after_turn (setting_in f) turn.cycle turn.slot turn.channel before → AllReady f turn.cycle after → HearsTurn f turn before after
hears f turn before after is heard ready = record { heard = heard; is_stage = stage-heard f turn (most_before turn) before after is.is_stage heard ready }

pub still-ready : (f : RunInputs) (cycle most : ℕ) (stage : StageView) → IsStage f cycle most stage → AllReady f cycle stage
still-ready f cycle most stage is = record { nodes = is.ready; followers = is.followers_ready }

-- ---- the walk

-- nodes, followers, counts and memory each walk by themselves, among the rows of the cycle
pub walk-apart : (x : Setting) (cycle count : ℕ) (stage : StageView) →
    heard_after x cycle count stage
    ≡ made_stage stage.rows (map (after_slots x cycle stage.rows count) stage.nodes) (map (after_slots x cycle stage.rows count) stage.followers) stage.listeners (counts_after x cycle stage.rows count stage.counts)
    (let now : MemoryView = record stage.memory { held = held_slots x cycle stage.rows count stage.memory.held } in now)
unfolding over_slots
walk-apart x cycle zero stage =
    ap₂ (λ (nodes followers : List NodeView). made_stage stage.rows nodes followers stage.listeners stage.counts stage.memory)
    (slots-none x cycle stage.rows stage.nodes) (slots-none x cycle stage.rows stage.followers)
walk-apart x cycle (suc earlier) stage =
    let rows : List NodeRow = stage.rows in
    let slot : ℕ = suc earlier in
    let on_a : NodeView → NodeView = after_channel x cycle rows slot A in
    let on_b : NodeView → NodeView = after_channel x cycle rows slot B in
    let counts : Counts = counts_on x cycle rows slot B (counts_on x cycle rows slot A (counts_after x cycle rows earlier stage.counts)) in
    let memory : MemoryView = record stage.memory { held = held_on x cycle rows slot B (held_on x cycle rows slot A (held_slots x cycle rows earlier stage.memory.held)) } in
    let both : (nodes : List NodeView) → map on_b (map on_a (map (after_slots x cycle rows earlier) nodes)) ≡ map (λ (node : NodeView). on_b (on_a (after_slots x cycle rows earlier node))) nodes = λ nodes.
    map-map on_b on_a (map (after_slots x cycle rows earlier) nodes) ∙ map-map (λ (node : NodeView). on_b (on_a node)) (after_slots x cycle rows earlier) nodes in
    ap (after_both_channels (after_turn x cycle) slot) (walk-apart x cycle earlier stage)
    ∙ ap₂ (λ (nodes followers : List NodeView). made_stage rows nodes followers stage.listeners counts memory) (both stage.nodes) (both stage.followers)

pub walk-more : (x : Setting) (cycle count : ℕ) (stage before after : StageView) → before ≡ heard_after x cycle count stage → after ≡ after_both_channels (after_turn x cycle) (count + 1) before → after ≡ heard_after x cycle (count + 1) stage
unfolding over_slots
walk-more x cycle count stage before after so_far now =
    let P : ℕ → Type 0 = λ k. after ≡ over_slots (after_turn x cycle) k stage in
    subst P (sym (add-one count)) (rw (add-one count) at (now ∙ ap (after_both_channels (after_turn x cycle) (count + 1)) so_far))

-- ---- before a turn

-- no count is above a million
few-before : (f : RunInputs) (turn : Turn) → IsSane f.params → turn.slot ≤ amount f.params name.gNumberOfStaticSlots → most_before turn + 65 ≤ 1_000_000
few-before f turn sane slot = by turn.channel
  where
    by : (channel : Channel) → 130 * (turn.slot - 1) + 65 * channel_rank channel + 65 ≤ 1_000_000
    by A = let slots = sane.ranges name.gNumberOfStaticSlots in omega (arith, ints, slot, slots)
    by B = let slots = sane.ranges name.gNumberOfStaticSlots in omega (arith, ints, slot, slots)

pub before-ready : (f : RunInputs) (turn : Turn) (stage : StageView) → IsSane f.params → IsBefore f turn stage → CanAnswer f turn.cycle stage
before-ready f turn stage sane is = record {
  rows_are = is.is_stage.rows_are;
  ready = record {
    ready = is.is_stage.ready;
    few_nodes = is.is_stage.few_nodes;
    few = at_most-more (most_before turn) 1_000_000 stage.counts (omega (arith, few-before f turn sane is.slot)) is.is_stage.few;
  };
  followers_ready = is.is_stage.followers_ready;
  few_followers = is.is_stage.few_followers;
}

pub sent-ready : (f : RunInputs) (turn : Turn) (stage sent : StageView) (frame : Option (List ℕ)) → IsSane f.params → IsBefore f turn stage → sent ≡ sent_on turn.slot turn.channel frame stage → CanAnswer f turn.cycle sent
sent-ready f turn stage sent frame sane is now =
    let P : StageView → Type 0 = λ s. CanAnswer f turn.cycle s in
    subst P (sym now) (record {
      rows_are = is.is_stage.rows_are;
      ready = record {
        ready = is.is_stage.ready;
        few_nodes = is.is_stage.few_nodes;
        few = at_most-more (most_before turn + 1) 1_000_000 (counted_frame turn.channel frame stage.counts) (omega (arith, few-before f turn sane is.slot))
            (at_most-frame turn.channel frame (most_before turn) stage.counts is.is_stage.few);
      };
      followers_ready = is.is_stage.followers_ready;
      few_followers = is.is_stage.few_followers;
    })

-- it does not matter what is being said
pub saying-ready : (f : RunInputs) (cycle : ℕ) (frame : Option (List ℕ)) (stage : StageView) → CanAnswer f cycle stage → CanAnswer f cycle (saying frame stage)
saying-ready f cycle frame stage is = record { rows_are = is.rows_are; ready = is.ready; followers_ready = is.followers_ready; few_followers = is.few_followers }

-- after a frame was offered to all nodes
pub offered : (x : Setting) (cycle : ℕ) (offer : NodeRow → Option Offer) (rows : List NodeRow) (nodes after followers : List NodeView) (listeners : List ListenerView) (counts counted : Counts) (memory kept : MemoryView) →
    rows ≡ map node_row_of nodes → after ≡ map (λ node. after_offer x cycle node (offer (node_row_of node))) nodes → counted ≡ counted_offers x cycle offer (map node_row_of nodes) counts → kept ≡ memory →
    made_stage rows after followers listeners counted kept ≡ answered_by_nodes x cycle offer (made_stage rows nodes followers listeners counts memory)
offered x cycle offer rows nodes after followers listeners counts counted memory kept are heard now same =
    stage_same rows after (map (λ node. after_offer x cycle node (offer (node_row_of node))) nodes) followers followers listeners counted (counted_offers x cycle offer rows counts) kept memory heard refl
    (now ∙ ap (λ (rs : List NodeRow). counted_offers x cycle offer rs counts) (sym are)) same

-- with its cycle begun
pub begun-same : (f : RunInputs) (cycle : ℕ) (rows listed : List NodeRow) (nodes begun followers : List NodeView) (listeners : List ListenerView) (counts none : Counts) (memory : MemoryView) → begun ≡ map (begun_in f cycle) nodes → listed ≡ map node_row_of begun → none ≡ no_counts →
    made_stage listed begun followers listeners none memory ≡ begun_nodes f cycle (made_stage rows nodes followers listeners counts memory)
begun-same f cycle rows listed nodes begun followers listeners counts none memory are list fresh =
    ap (λ (rs : List NodeRow). made_stage rs begun followers listeners none memory) (list ∙ ap (map node_row_of) are)
    ∙ stage_same (map node_row_of (map (begun_in f cycle) nodes)) begun (map (begun_in f cycle) nodes) followers followers listeners none no_counts memory memory are refl fresh refl

-- what was said is no longer
pub quiet-again : (x : Setting) (cycle : ℕ) (offer : NodeRow → Option Offer) (stage : StageView) (frame : List ℕ) → stage.memory.said ≡ None → saying None (answered x cycle offer (saying (Some frame) stage)) ≡ answered x cycle offer stage
quiet-again x cycle offer stage frame quiet =
    ap (λ (said : Option (List ℕ)). saying said (answered x cycle offer stage)) (sym quiet)

-- ---- a cycle

-- when a cycle has begun
pub begun-stage : (f : RunInputs) (cycle : ℕ) (before begun : StageView) → length before.nodes ≤ 64 → length before.followers ≤ 64 → before.memory ≡ memory_with f.params before.memory.held → begun ≡ begun_stage f cycle before →
    AllReady f cycle begun → All (IsEarlyRow f.params) begun.rows → IsStage f cycle 0 begun
begun-stage f cycle before begun few few_too holds is ready early =
    let nodes : begun.nodes ≡ map (begun_in f cycle) before.nodes = ap (λ (s : StageView). s.nodes) is in
    let memory : begun.memory ≡ before.memory = ap (λ (s : StageView). s.memory) is in record {
      rows_are = ap (λ (s : StageView). s.rows) is ∙ sym (ap (map node_row_of) nodes);
      ready = ready.nodes;
      early = early;
      few_nodes = omega (arith, ap length nodes, length-map before.nodes (begun_in f cycle), few);
      followers_ready = ready.followers;
      few_followers = omega (arith, ap (λ (s : StageView). length s.followers) is, length-map before.followers (begun_in f cycle), few_too);
      few = subst (AreAtMost 0) (sym (ap (λ (s : StageView). s.counts) is)) none_counted;
      memory_is = memory ∙ holds ∙ ap (λ (m : MemoryView). memory_with f.params m.held) (sym memory);
    }
  where
    none_counted : AreAtMost 0 no_counts
    none_counted = record { sent_a = omega arith; sent_b = omega arith; stored = omega arith; outside = omega arith; damaged = omega arith; wrong_id = omega arith; wrong_cycle = omega arith; wrong_length = omega arith; plain = omega arith }

-- the rows with which it began are those of its nodes
begun-rows : (f : RunInputs) (cycle : ℕ) (before begun : StageView) → begun ≡ begun_stage f cycle before → begun.rows ≡ map node_row_of begun.nodes
begun-rows f cycle before begun is = ap (λ (s : StageView). s.rows) is ∙ sym (ap (λ (s : StageView). map node_row_of s.nodes) is)

-- what its slots make of the nodes, the followers, the counts and the memory; the rows and the listeners stay
pub nodes-walked : (f : RunInputs) (cycle : ℕ) (before begun after : StageView) → begun ≡ begun_stage f cycle before → after ≡ heard_after (setting_in f) cycle (amount f.params name.gNumberOfStaticSlots) begun →
    after.nodes ≡ map (after_slots (setting_in f) cycle (map node_row_of begun.nodes) (amount f.params name.gNumberOfStaticSlots)) begun.nodes
nodes-walked f cycle before begun after is now =
    let n : ℕ = amount f.params name.gNumberOfStaticSlots in
    ap (λ (s : StageView). s.nodes) (now ∙ walk-apart (setting_in f) cycle n begun)
    ∙ ap (λ (rows : List NodeRow). map (after_slots (setting_in f) cycle rows n) begun.nodes) (begun-rows f cycle before begun is)

pub followers-walked : (f : RunInputs) (cycle : ℕ) (before begun after : StageView) → begun ≡ begun_stage f cycle before → after ≡ heard_after (setting_in f) cycle (amount f.params name.gNumberOfStaticSlots) begun →
    after.followers ≡ map (after_slots (setting_in f) cycle (map node_row_of begun.nodes) (amount f.params name.gNumberOfStaticSlots)) begun.followers
followers-walked f cycle before begun after is now =
    let n : ℕ = amount f.params name.gNumberOfStaticSlots in
    ap (λ (s : StageView). s.followers) (now ∙ walk-apart (setting_in f) cycle n begun)
    ∙ ap (λ (rows : List NodeRow). map (after_slots (setting_in f) cycle rows n) begun.followers) (begun-rows f cycle before begun is)

pub rows-walked : (f : RunInputs) (cycle : ℕ) (before begun after : StageView) → begun ≡ begun_stage f cycle before → after ≡ heard_after (setting_in f) cycle (amount f.params name.gNumberOfStaticSlots) begun →
    after.rows ≡ map node_row_of begun.nodes
rows-walked f cycle before begun after is now =
    ap (λ (s : StageView). s.rows) (now ∙ walk-apart (setting_in f) cycle (amount f.params name.gNumberOfStaticSlots) begun) ∙ begun-rows f cycle before begun is

pub listeners-walked : (f : RunInputs) (cycle : ℕ) (before begun after : StageView) → begun ≡ begun_stage f cycle before → after ≡ heard_after (setting_in f) cycle (amount f.params name.gNumberOfStaticSlots) begun →
    after.listeners ≡ before.listeners
listeners-walked f cycle before begun after is now =
    ap (λ (s : StageView). s.listeners) (now ∙ walk-apart (setting_in f) cycle (amount f.params name.gNumberOfStaticSlots) begun ∙ refl) ∙ ap (λ (s : StageView). s.listeners) is

pub counts-walked : (f : RunInputs) (cycle : ℕ) (before begun after : StageView) → begun ≡ begun_stage f cycle before → after ≡ heard_after (setting_in f) cycle (amount f.params name.gNumberOfStaticSlots) begun →
    after.counts ≡ counts_after (setting_in f) cycle (map node_row_of begun.nodes) (amount f.params name.gNumberOfStaticSlots) no_counts
counts-walked f cycle before begun after is now =
    let n : ℕ = amount f.params name.gNumberOfStaticSlots in
    ap (λ (s : StageView). s.counts) (now ∙ walk-apart (setting_in f) cycle n begun)
    ∙ ap (λ (rows : List NodeRow). counts_after (setting_in f) cycle rows n begun.counts) (begun-rows f cycle before begun is)
    ∙ ap (counts_after (setting_in f) cycle (map node_row_of begun.nodes) n) (ap (λ (s : StageView). s.counts) is)

pub memory-walked : (f : RunInputs) (cycle : ℕ) (before begun after : StageView) → begun ≡ begun_stage f cycle before → after ≡ heard_after (setting_in f) cycle (amount f.params name.gNumberOfStaticSlots) begun →
    after.memory ≡ record before.memory { held = held_slots (setting_in f) cycle (map node_row_of begun.nodes) (amount f.params name.gNumberOfStaticSlots) before.memory.held }
memory-walked f cycle before begun after is now =
    let n : ℕ = amount f.params name.gNumberOfStaticSlots in
    ap (λ (s : StageView). s.memory) (now ∙ walk-apart (setting_in f) cycle n begun)
    ∙ ap (λ (rows : List NodeRow). let held : MemoryView = record begun.memory { held = held_slots (setting_in f) cycle rows n begun.memory.held } in held) (begun-rows f cycle before begun is)
    ∙ ap (λ (m : MemoryView). let held : MemoryView = record m { held = held_slots (setting_in f) cycle (map node_row_of begun.nodes) n m.held } in held) (ap (λ (s : StageView). s.memory) is)
