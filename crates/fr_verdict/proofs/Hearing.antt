-- What a trace owes of two nodes is enough for each node to hear each other one.
use Rattle.std.proofs.Common.{◌≡◌, ◌⊎◌, ℕ, ◌<◌, ◌==◌, Bool, true, false, not, ℤ, pos, Option, Some, None, List, [], ◌∷◌, refl, ap, sym, ◌∙◌, inl, inr, arith, if◌then◌else◌}
use Rattle.std.specs.Prelude.{AllPairs, Contains, is_some, option_and_then}
use Rattle.fr_base.specs.declared.channel.Channel.{Channel}
use Rattle.fr_cluster.specs.Values.{Values}
use Rattle.fr_cluster.specs.Questions.{key_index_of, node_of, own_index, key_slot_of, index_in, key_in}
use Rattle.fr_cluster.specs.Sane.{IsSane}
use Rattle.fr_cluster.specs.declared.nodes.NodeSpec.{NodeSpec}
use Rattle.fr_time.specs.Senders.{key_node_of}
use Rattle.fr_time.specs.Slots.{action_point_of}
use Rattle.fr_measure.specs.Values.{is_own}
use Rattle.fr_precision.specs.Instants.{row_in}
use Rattle.fr_precision.specs.Offsets.{IsDeviation}
use Rattle.fr_history.specs.History.{Record, row_for}
use Rattle.fr_cluster.specs.Setting.{Setting, correct_nodes, is_correct}
use Rattle.fr_base.specs.Rows.{dev_in}
use Rattle.fr_precision.specs.Round.{IsItself, IsOther}
use Rattle.fr_time.proofs.Keys.{key_node_among, key_node_is, key_slot_has, slot_of_index}
use Rattle.fr_cluster.proofs.Elements.{Contains-none, filtered, sole_found}
use Rattle.fr_precision.proofs.RoundSenders.{and_then_some}
use Rattle.fr_runs.specs.Links.{IsLinked, record_in}
use Rattle.fr_runs.proofs.Receivers.{is_correct_node}
use Rattle.fr_verdict.specs.Heard.{HeardSuffices, IsHeardBy, hearer_of, traced_round}
use Rattle.fr_cluster.proofs.KeyNodes.{AllPairs-first, AllPairs-rest, Contains-cons_cases}

-- ---- a node and its own index

sole_node : (nodes : List NodeSpec) (one other : NodeSpec) → AllPairs (λ (a : NodeSpec) (b : NodeSpec). a.id < b.id) nodes → Contains nodes one → Contains nodes other
    → other.id ≡ one.id → other ≡ one
sole_node [] one other pairs here there is = absurd (Contains-none one here)
sole_node (node ∷ nodes) one other pairs here there is = elim (Contains-cons_cases node nodes one here) [
  | inl first ↦ elim (Contains-cons_cases node nodes other there) [
    | inl first_too ↦ sym first_too ∙ first
    | inr later ↦
        let below = AllPairs-first (λ (a : NodeSpec) (b : NodeSpec). a.id < b.id) node nodes other pairs later in
        let own : node.id ≡ one.id = ap (λ (n : NodeSpec). n.id) first in
        absurd (omega (arith, below, own, is))
  ]
  | inr later ↦ elim (Contains-cons_cases node nodes other there) [
    | inl first ↦
        let below = AllPairs-first (λ (a : NodeSpec) (b : NodeSpec). a.id < b.id) node nodes one pairs later in
        let own : node.id ≡ other.id = ap (λ (n : NodeSpec). n.id) first in
        absurd (omega (arith, below, own, is))
    | inr later_too ↦ sole_node nodes one other (AllPairs-rest (λ (a : NodeSpec) (b : NodeSpec). a.id < b.id) node nodes pairs) later later_too is
  ]
]

equal : (a b : ℕ) → a ≡ b → (a == b) ≡ true
equal a b is = grind arith

same : (a b : ℕ) → (a == b) ≡ true → a ≡ b
same a b is = grind arith

-- the node of its number
node_is : (p : Values) (node : NodeSpec) → IsSane p → Contains p.nodes node → node_of p node.id ≡ Some node
node_is p node sane among =
    sole_found (λ (n : NodeSpec). n.id == node.id) p.nodes node among (equal node.id node.id refl)
    (λ other there passes. sole_node p.nodes node other sane.lists.nodes_ascend among there (same other.id node.id passes))

-- its own index is that of its key slot
own_of : (p : Values) (node : NodeSpec) → IsSane p → Contains p.nodes node → own_index p node.id ≡ index_in p node.key
own_of p node sane among = ap (λ o. index_in p (key_in o)) (node_is p node sane among)

own_index_is : (p : Values) (node : NodeSpec) (slot index : ℕ) → IsSane p → Contains p.nodes node → node.key ≡ Some slot → key_slot_of p index ≡ Some slot
    → own_index p node.id ≡ Some index
own_index_is p node slot index sane among key slot_is = own_of p node sane among ∙ ap (index_in p) key ∙ (key_slot_has p index slot slot_is).0

key_of_index : (p : Values) (key : Option ℕ) (index : ℕ) → index_in p key ≡ Some index → (slot : ℕ) × (key ≡ Some slot) × (key_index_of p slot ≡ Some index)
key_of_index p None index is = absurd (cc)
key_of_index p (Some slot) index is = (slot, refl, is)

correct_has : (x : Setting) (node : NodeSpec) → Contains (correct_nodes x) node → Contains x.params.nodes node × (is_correct x node.id ≡ true)
correct_has x node among = filtered (λ (n : NodeSpec). is_correct x n.id) x.params.nodes node among

-- a receiver is the sender of its own index
itself : (x : Setting) (even odd : Record) (node : NodeSpec) (index : ℕ) → IsSane x.params → Contains (correct_nodes x) node → own_index x.params node.id ≡ Some index
    → (slot : ℕ) × ((sender : NodeSpec) × IsItself (traced_round x even odd) (hearer_of x even odd node.id) index slot sender)
itself x even odd node index sane among own =
    let has = correct_has x node among in
    let key = key_of_index x.params node.key index (sym (own_of x.params node sane has.0) ∙ own) in (
      key.0,
      (
        node,
        record {
          sender = record { there = has.0; rows = has.1; key = key.1 };
          slot_is = slot_of_index x.params index key.0 key.2;
          even = refl;
          odd = refl;
        },
      ),
    )

-- a sender of another index is another node
linked : (x : Setting) (even odd : Record) (node sender : NodeSpec) (index slot : ℕ) → IsSane x.params → Contains (correct_nodes x) node
    → IsOther (traced_round x even odd) (hearer_of x even odd node.id) index slot sender → IsLinked x sender node slot
linked x even odd node sender index slot sane among other = record {
  sends = is_correct_node x sender other.sender.there other.sender.rows;
  hears = among;
  key = other.sender.key;
  other =
      λ is.
      let own = own_index_is x.params sender slot index sane other.sender.there other.sender.key other.slot_is in
      let own_too : own_index x.params node.id ≡ Some index = ap (own_index x.params) (sym is) ∙ own in
      let e : true ≡ false = sym (equal index index refl) ∙ sym (ap (λ o. is_own o index) own_too) ∙ other.other in
      cc;
}

-- ---- a deviation by key index, and by slot

devs_of : Record → Record → Bool → ℕ → ℕ → Channel → Option ℤ
devs_of even odd is_odd receiver slot channel = dev_in (record_in is_odd even odd).devs receiver slot channel

looked : (x : Setting) (even odd : Record) (node : NodeSpec) (index slot : ℕ) (is_odd : Bool) (channel : Channel) → key_slot_of x.params index ≡ Some slot
    → (hearer_of x even odd node.id).look index is_odd channel ≡ devs_of even odd is_odd node.id slot channel
unfolding devs_of
looked x even odd node index slot false channel slot_is = ap (option_and_then (λ s. dev_in even.devs node.id s channel)) slot_is
looked x even odd node index slot true channel slot_is = ap (option_and_then (λ s. dev_in odd.devs node.id s channel)) slot_is

-- a deviation is of a key slot, whose node is correct or arbitrary
only : (x : Setting) (even odd : Record) (node : NodeSpec) (index : ℕ) (is_odd : Bool) (channel : Channel) (value : ℤ) → IsSane x.params
    → (hearer_of x even odd node.id).look index is_odd channel ≡ Some value
    → (slot : ℕ) × ((sender : NodeSpec) × (key_slot_of x.params index ≡ Some slot) × (key_node_of x.params slot ≡ Some sender)
    × ((is_correct x sender.id ≡ true) ⊎ (x.is_arbitrary sender.id ≡ true)))
only x even odd node index is_odd channel value sane some =
    let slot = and_then_some (λ s. dev_in (if is_odd then odd.devs else even.devs) node.id s channel) (key_slot_of x.params index) value some in
    let sender = key_node_among x.params.nodes slot.0 (key_slot_has x.params index slot.0 slot.1).1 in
    (slot.0, (sender.0, slot.1, key_node_is x.params sender.0 slot.0 sane sender.1 sender.2, kind (x.is_arbitrary sender.0.id)))
  where
    kind : (b : Bool) → (not b ≡ true) ⊎ (b ≡ true)
    kind true = inr refl
    kind false = inl refl

-- ---- what suffices

placed_by : (x : Setting) (even odd : Record) (node sender : NodeSpec) (slot : ℕ) (is_odd : Bool) (channel : Channel) (value : ℤ) → IsHeardBy x even odd sender node slot
    → devs_of even odd is_odd node.id slot channel ≡ Some value
    → IsDeviation x.params is_odd (pos (action_point_of x.params slot)) (row_in is_odd (row_for even.rows node.id) (row_for odd.rows node.id))
    (row_in is_odd (row_for even.rows sender.id) (row_for odd.rows sender.id)) value
unfolding devs_of
placed_by x even odd node sender slot false channel value heard is = heard.placed false channel value is
placed_by x even odd node sender slot true channel value heard is = heard.placed true channel value is

pub heard_suffices : HeardSuffices
unfolding devs_of
heard_suffices x even odd sane links node among =
    let look = λ (index slot : ℕ) (is_odd : Bool) (channel : Channel) (slot_is : key_slot_of x.params index ≡ Some slot). looked x even odd node index slot is_odd channel slot_is in
    record {
      itself = λ index own. itself x even odd node index sane among own;
      placed =
          λ index slot sender is_odd channel value other is.
          placed_by x even odd node sender slot is_odd channel value (links sender node slot (linked x even odd node sender index slot sane among other))
          (sym (look index slot is_odd channel other.slot_is) ∙ is);
      heard =
          λ index slot sender other.
          let heard = links sender node slot (linked x even odd node sender index slot sane among other) in (
            heard.channel,
            ap is_some (look index slot false heard.channel other.slot_is) ∙ heard.early,
            ap is_some (look index slot true heard.channel other.slot_is) ∙ heard.late,
          );
      only = λ index is_odd channel value is. only x even odd node index is_odd channel value sane is;
    }
