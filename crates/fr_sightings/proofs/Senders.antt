-- A sync frame is sent by the node of its slot, whose key slot that is.
use Rattle.std.proofs.Common.{◌≡◌, ℕ, ◌<◌, ◌≤◌, ◌==◌, Bool, true, false, List, [], ◌∷◌, Option, Some, None, refl, ap, sym, ◌∙◌, inl, inr, arith}
use Rattle.std.specs.Prelude.{AllPairs, Contains, find, nat_lt, ◌%◌, if◌then◌else◌}
use Rattle.std.specs.Option.{option_map, option_or}
use Rattle.fr_cluster.specs.Questions.{key_in, node_of, own_key}
use Rattle.fr_cluster.specs.Sane.{IsSane}
use Rattle.fr_cluster.specs.Values.{Values, amount}
use Rattle.fr_cluster.specs.declared.names.ParamName.TheVariants as name
use Rattle.fr_cluster.specs.declared.nodes.NodeSpec.{NodeSpec}
use Rattle.fr_cluster.specs.declared.nodes.SlotSpec.{SlotSpec}
use Rattle.fr_cluster.proofs.Elements.{Contains-none, sole_found}
use Rattle.fr_cluster.proofs.KeyNodes.{AllPairs-first, AllPairs-rest, Contains-cons_cases}
use Rattle.fr_time.specs.Cycles.{cycle_count}
use Rattle.fr_time.specs.Senders.{further_sending, further_slot_of, key_node_of, sender_of, sync_sending}
use Rattle.fr_time.specs.declared.senders.Sending.{Sending}
use Rattle.fr_time.specs.declared.senders.Kind.TheVariants.{SyncFrame, ValidFrame, NullFrame}
use Rattle.fr_time.proofs.Keys.{key_node_has}
use Rattle.fr_reception.specs.Regular.{is_sync_frame}
use Rattle.fr_frame.specs.declared.header.Header.{Header}
use Rattle.fr_sightings.specs.Judging.{static_sending}

-- of nodes in ascending order one has a number
sole_node : (nodes : List NodeSpec) (one other : NodeSpec) → AllPairs (λ a b. a.id < b.id) nodes → Contains nodes one → Contains nodes other
    → other.id ≡ one.id → other ≡ one
sole_node [] one other pairs here there is = absurd (Contains-none one here)
sole_node (node ∷ nodes) one other pairs here there is = elim (Contains-cons_cases node nodes one here) [
  | inl first ↦ elim (Contains-cons_cases node nodes other there) [
    | inl first_too ↦ sym first_too ∙ first
    | inr later ↦
        let below = AllPairs-first (λ (a : NodeSpec) (b : NodeSpec). a.id < b.id) node nodes other pairs later in
        let own : node.id ≡ one.id = ap (λ (n : NodeSpec). n.id) first in
        absurd (omega (arith, below, own, is))
  ]
  | inr later ↦ elim (Contains-cons_cases node nodes other there) [
    | inl first ↦
        let below = AllPairs-first (λ (a : NodeSpec) (b : NodeSpec). a.id < b.id) node nodes one pairs later in
        let own : node.id ≡ other.id = ap (λ (n : NodeSpec). n.id) first in
        absurd (omega (arith, below, own, is))
    | inr later_too ↦ sole_node nodes one other (AllPairs-rest (λ (a : NodeSpec) (b : NodeSpec). a.id < b.id) node nodes pairs) later later_too is
  ]
]

equal : (a : ℕ) → (a == a) ≡ true
equal a = grind arith

tested : (a b : ℕ) → (a == b) ≡ true → a ≡ b
tested a b is = grind arith

node_is : (p : Values) (node : NodeSpec) → IsSane p → Contains p.nodes node → node_of p node.id ≡ Some node
node_is p node sane among =
    sole_found (λ (n : NodeSpec). n.id == node.id) p.nodes node among (equal node.id)
    (λ other there passes. sole_node p.nodes node other sane.lists.nodes_ascend among there (tested other.id node.id passes))

-- a further slot has no sync frame
no_sync : (spec : SlotSpec) (cycle : ℕ) → is_sync_frame (further_sending cycle spec).kind ≡ false
no_sync spec cycle = by (cycle_count cycle % spec.repetition == spec.base)
  where
    by : (base : Bool) → is_sync_frame (if base then ValidFrame else NullFrame) ≡ false
    by true = refl
    by false = refl

same : (one other : Sending) → Some one ≡ Some other → one ≡ other
same one other is = cc

pub sync_is_own : (p : Values) (slot cycle : ℕ) (sending : Sending) → IsSane p → sender_of p slot cycle ≡ Some sending
    → is_sync_frame sending.kind ≡ true → own_key p sending.node ≡ Some slot
sync_is_own p slot cycle sending sane sends sync = by (key_node_of p slot) refl (further_slot_of p slot) sends
  where
    by : (node : Option NodeSpec) → key_node_of p slot ≡ node → (spec : Option SlotSpec)
        → option_or (option_map sync_sending node) (option_map (further_sending cycle) spec) ≡ Some sending → own_key p sending.node ≡ Some slot
    by (Some node) is spec sends =
        let has = key_node_has p node slot is in
        let sent : sync_sending node ≡ sending = same (sync_sending node) sending sends in
        let own : own_key p node.id ≡ Some slot = ap key_in (node_is p node sane has.0) ∙ has.1 in
        ap (λ (s : Sending). own_key p s.node) (sym sent) ∙ own
    by None is (Some spec) sends =
        let sent : further_sending cycle spec ≡ sending = same (further_sending cycle spec) sending sends in
        let e : true ≡ false = sym sync ∙ ap (λ (s : Sending). is_sync_frame s.kind) (sym sent) ∙ no_sync spec cycle in
        absurd (cc e)
    by None is None sends = absurd (cc sends)

-- who sends in the slot of a header sends in a static one
pub record IsStatic (p : Values) (header : Header) (sending : Sending) : Type 0 where
  pub slot : header.id ≤ amount p name.gNumberOfStaticSlots
  pub sends : sender_of p header.id header.cycle ≡ Some sending

within : (a b : ℕ) → nat_lt a b ≡ false → b ≤ a
within a b is = grind arith

pub static_is : (p : Values) (header : Header) (sending : Sending) → static_sending p header ≡ Some sending → IsStatic p header sending
static_is p header sending is = by (nat_lt (amount p name.gNumberOfStaticSlots) header.id) refl is
  where
    by : (beyond : Bool) → nat_lt (amount p name.gNumberOfStaticSlots) header.id ≡ beyond
        → (if beyond then None else sender_of p header.id header.cycle) ≡ Some sending → IsStatic p header sending
    by true at is = absurd (cc is)
    by false at is = record { slot = within (amount p name.gNumberOfStaticSlots) header.id at; sends = is }
