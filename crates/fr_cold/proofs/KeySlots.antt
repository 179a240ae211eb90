-- The nodes of a cluster: coldstart nodes have key slots of their own, and send in them within the cycle.
use Rattle.std.proofs.Common.{◌≡◌, ℕ, suc, ◌+◌, ◌-◌, ◌*◌, ◌<◌, ◌≤◌, ◌⊎◌, List, [], ◌∷◌, Bool, true, false, Option, Some, None, inl, inr, refl, ap, sym, ◌∙◌, arith}
use Rattle.std.specs.Prelude.{Contains, find, is_none, ◌==◌, ◌&&◌}
use Rattle.std.specs.Option.{option_map_or}
use Rattle.std.proofs.lemmas.Int.{ints}
use Rattle.std.proofs.lemmas.Bool.{cases_lt}
use Rattle.std.proofs.Math.Nat.{mul-le-mul_right, suc-mul}
use Rattle.std.proofs.lemmas.Bool.Decides.{nat_tests}
use Rattle.std.proofs.lemmas.List.Elements.{All-contains, All-contains_itself}
use Rattle.fr_cluster.specs.Values.{Values, amount}
use Rattle.fr_cluster.specs.declared.names.ParamName.TheVariants as name
use Rattle.fr_cluster.specs.Sane.{IsSane, IsSaneNode}
use Rattle.fr_cluster.specs.Constraints.{key_slots}
use Rattle.fr_cluster.specs.Questions.{key_in, node_of, own_key, is_coldstart}
use Rattle.fr_cluster.specs.declared.nodes.NodeSpec.{NodeSpec}
use Rattle.fr_cluster.proofs.Found.{find_keeps}
use Rattle.fr_cluster.proofs.KeyNodes.{found_key, key_among}
use Rattle.fr_time.specs.Slots.{action_point_of, slot_end_of}
use Rattle.fr_time.proofs.Placing.{action_point_lt, slot_end_lt}
use Rattle.fr_cold.specs.Cluster.{action_of, macroticks_of_cycle}

some-same : {A : Type 0} (x y : A) → Some x ≡ Some y → x ≡ y
some-same x y e = cc e

-- what a search finds passes its test
find-passes : {X : Type 0} (test : X → Bool) (xs : List X) (x : X) → find test xs ≡ Some x → test x ≡ true
find-passes test [] x e = cc e
find-passes {X} test (y ∷ ys) x e = by (test y) refl (λ later. find-passes test ys x later)
  where
    by : (b : Bool) → test y ≡ b → (find test ys ≡ Some x → test x ≡ true) → test x ≡ true
    by true is rest = let here : find test (y ∷ ys) ≡ Some y = rw is refl in let same : y ≡ x = some-same y x (sym here ∙ e) in ap test (sym same) ∙ is
    by false is rest = let later : find test (y ∷ ys) ≡ find test ys = rw is refl in rest (sym later ∙ e)

equal-true : (a b : ℕ) → (a == b) ≡ true → a ≡ b
equal-true a b e = grind (arith, nat_tests)

node-number : (p : Values) (i : ℕ) (spec : NodeSpec) → node_of p i ≡ Some spec → spec.id ≡ i
node-number p i spec e = equal-true spec.id i (find-passes (λ (node : NodeSpec). node.id == i) p.nodes spec e)

node-among : (p : Values) (i : ℕ) (spec : NodeSpec) → node_of p i ≡ Some spec → Contains p.nodes spec
node-among p i spec e = rw e at (find_keeps (Contains p.nodes) (λ (node : NodeSpec). node.id == i) p.nodes (All-contains_itself p.nodes))

-- the key slot of a node is a static slot
key-static : (p : Values) (spec : NodeSpec) (slot : ℕ) → IsSane p → Contains p.nodes spec → spec.key ≡ Some slot → (1 ≤ slot) × (slot ≤ amount p name.gNumberOfStaticSlots)
key-static p spec slot sane among key =
    let proper = (All-contains IsSaneNode p.nodes spec sane.lists.nodes_sane among).proper in
    let ranged : (1 ≤ slot) × (slot ≤ 1023) = rw key at proper.key in
    let limit = All-contains (λ (key : ℕ). key ≤ amount p name.gNumberOfStaticSlots) (key_slots p.nodes) slot sane.constraints.own_slots.0 (key_among p.nodes spec slot among key) in
    (ranged.0, limit)

-- nodes with one key slot are one
key-apart : (p : Values) (i j slot : ℕ) (a b : NodeSpec) → IsSane p → node_of p i ≡ Some a → node_of p j ≡ Some b → a.key ≡ Some slot → b.key ≡ Some slot → i ≡ j
key-apart p i j slot a b sane at_i at_j key_a key_b =
    let first = found_key p.nodes slot a sane.constraints.own_slots.1 (node-among p i a at_i) key_a in
    let second = found_key p.nodes slot b sane.constraints.own_slots.1 (node-among p j b at_j) key_b in
    let same : a ≡ b = some-same a b (sym first ∙ second) in
    sym (node-number p i a at_i) ∙ ap (λ (n : NodeSpec). n.id) same ∙ node-number p j b at_j

-- a coldstart node is a node with a key slot
pub record HasKey (p : Values) (i : ℕ) : Type 0 where
  pub spec : NodeSpec
  pub slot : ℕ
  pub node : node_of p i ≡ Some spec
  pub key : spec.key ≡ Some slot
  pub static : (1 ≤ slot) × (slot ≤ amount p name.gNumberOfStaticSlots)

pub has-key : (p : Values) (i : ℕ) → IsSane p → is_coldstart p i ≡ true → HasKey p i
has-key p i sane starts = by (node_of p i) refl
  where
    with_key : (spec : NodeSpec) → node_of p i ≡ Some spec → (key : Option ℕ) → spec.key ≡ key → HasKey p i
    with_key spec e None k =
        let starter : spec.coldstart ≡ true = rw e at starts in
        let keyless : (spec.coldstart && is_none spec.key) ≡ false = (All-contains IsSaneNode p.nodes spec sane.lists.nodes_sane (node-among p i spec e)).starts in
        let none : (true && true) ≡ false = rw (starter, k) at keyless in
        absurd (cc none)
    with_key spec e (Some slot) k = record { spec = spec; slot = slot; node = e; key = k; static = key-static p spec slot sane (node-among p i spec e) k }

    by : (o : Option NodeSpec) → node_of p i ≡ o → HasKey p i
    by None e = let never : false ≡ true = rw e at starts in absurd (cc never)
    by (Some spec) e = with_key spec e spec.key refl

pub own-key : (p : Values) (i : ℕ) (k : HasKey p i) → own_key p i ≡ Some k.slot
own-key p i k = rw k.node k.key

pub action-is : (p : Values) (i : ℕ) (k : HasKey p i) → action_of p i ≡ action_point_of p k.slot
unfolding action_of
action-is p i k = rw (own-key p i k) refl

pub cycle-from : (p : Values) → IsSane p → 10 ≤ macroticks_of_cycle p
cycle-from p sane = let range = sane.ranges name.gMacroPerCycle in omega (arith, ints, range.0)

pub cycle-to : (p : Values) → IsSane p → macroticks_of_cycle p ≤ 16_000
cycle-to p sane = let range = sane.ranges name.gMacroPerCycle in omega (arith, ints, range.0, range.1)

-- startup frames are sent within the cycle
pub action-within : (p : Values) (i : ℕ) → IsSane p → action_of p i < macroticks_of_cycle p
unfolding action_of
action-within p i sane = by (node_of p i) refl
  where
    slot-within : (slot : ℕ) → 1 ≤ slot → slot ≤ amount p name.gNumberOfStaticSlots → action_point_of p slot < macroticks_of_cycle p
    slot-within slot some static =
        let acts : action_point_of p slot < slot_end_of p slot = action_point_lt p slot sane some in
        let ends : slot_end_of p slot < amount p name.gOffsetCorrectionStart = slot_end_lt p slot sane static in
        let after = sane.constraints.corrects_after in
        omega (arith, acts, ends, after.1)

    with_key : (spec : NodeSpec) → node_of p i ≡ Some spec → (key : Option ℕ) → spec.key ≡ key → option_map_or (λ slot. action_point_of p slot) key 0 < macroticks_of_cycle p
    with_key spec e None k = let some = cycle-from p sane in omega arith
    with_key spec e (Some slot) k = let static = key-static p spec slot sane (node-among p i spec e) k in slot-within slot static.0 static.1

    by : (o : Option NodeSpec) → node_of p i ≡ o → option_map_or (λ slot. action_point_of p slot) (key_in (node_of p i)) 0 < macroticks_of_cycle p
    by None e = rw e (let some = cycle-from p sane in omega arith)
    by (Some spec) e = rw e (with_key spec e spec.key refl)

-- a lesser slot is sent in earlier
pub action-order : (p : Values) (slot key : ℕ) → slot ≤ key → action_point_of p slot ≤ action_point_of p key
action-order p slot key order =
    let less : (slot - 1) * amount p name.gdStaticSlot ≤ (key - 1) * amount p name.gdStaticSlot = mul-le-mul_right (amount p name.gdStaticSlot) (omega arith) in
    omega arith

action-less : (p : Values) (slot key : ℕ) → IsSane p → 1 ≤ slot → slot < key → action_point_of p slot < action_point_of p key
action-less p slot key sane some order =
    let length = amount p name.gdStaticSlot in
    let range = sane.ranges name.gdStaticSlot in
    let long : 1 ≤ length = omega (arith, ints, range.0) in
    let less : suc (slot - 1) * length ≤ (key - 1) * length = mul-le-mul_right length (omega arith) in
    let more : suc (slot - 1) * length ≡ (slot - 1) * length + length = suc-mul (slot - 1) length in
    omega arith

-- two coldstart nodes that send at one macrotick of the cycle are one
pub action-apart : (p : Values) (i j : ℕ) → IsSane p → is_coldstart p i ≡ true → is_coldstart p j ≡ true → action_of p i ≡ action_of p j → i ≡ j
action-apart p i j sane starts_i starts_j same = by (cases_lt a.slot b.slot) (cases_lt b.slot a.slot)
  where
    a : HasKey p i
    a = has-key p i sane starts_i

    b : HasKey p j
    b = has-key p j sane starts_j

    points : action_point_of p a.slot ≡ action_point_of p b.slot
    points = sym (action-is p i a) ∙ same ∙ action-is p j b

    by : (a.slot < b.slot) ⊎ (b.slot ≤ a.slot) → (b.slot < a.slot) ⊎ (a.slot ≤ b.slot) → i ≡ j
    by (inl less) other = let l = action-less p a.slot b.slot sane a.static.0 less in absurd (omega (arith, l, points))
    by (inr not_less) (inl less) = let l = action-less p b.slot a.slot sane b.static.0 less in absurd (omega (arith, l, points))
    by (inr not_less) (inr not_more) =
        let slots : a.slot ≡ b.slot = omega arith in
        key-apart p i j a.slot a.spec b.spec sane a.node b.node a.key (b.key ∙ ap (λ (s : ℕ). Some s) (sym slots))

-- the key slot that a node has, and the macrotick at which it sends, by it
pub own-static : (p : Values) (i slot : ℕ) → IsSane p → own_key p i ≡ Some slot → (1 ≤ slot) × (slot ≤ amount p name.gNumberOfStaticSlots)
own-static p i slot sane own = by (node_of p i) refl
  where
    by : (o : Option NodeSpec) → node_of p i ≡ o → (1 ≤ slot) × (slot ≤ amount p name.gNumberOfStaticSlots)
    by None e = let never : None ≡ Some slot = rw e at own in absurd (cc never)
    by (Some spec) e = key-static p spec slot sane (node-among p i spec e) (rw e at own)

pub action-own : (p : Values) (i slot : ℕ) → own_key p i ≡ Some slot → action_of p i ≡ action_point_of p slot
unfolding action_of
action-own p i slot own = rw own refl

pub action-none : (p : Values) (i : ℕ) → own_key p i ≡ None → action_of p i ≡ 0
unfolding action_of
action-none p i own = rw own refl
