-- The senders of a log: nodes of key slots of their own, so that each has an index that no other one has.
use Rattle.std.proofs.Common.{◌≡◌, ◌≢◌, ℕ, ◌+◌, ◌*◌, ◌<◌, ◌≤◌, suc, ◌==◌, Bool, true, false, not, Option, Some, None, ℤ, pos, List, All, length, refl, ap, sym, ◌∙◌, subst, arith}
use Rattle.std.specs.Prelude.{AllPairs, Contains, filter, unwrap_or, if◌then◌else◌}
use Rattle.std.specs.List.{range_with_len}
use Rattle.std.specs.Option.{option_and_then}
use Rattle.std.proofs.lemmas.List.Kept.{AllPairs-filter}
use Rattle.fr_cluster.specs.Questions.{index_in, key_in, key_slot_of, own_index}
use Rattle.fr_cluster.specs.Sane.{IsSane}
use Rattle.fr_cluster.specs.Setting.{Setting}
use Rattle.fr_cluster.specs.Values.{Values}
use Rattle.fr_cluster.specs.declared.nodes.NodeSpec.{NodeSpec}
use Rattle.fr_cluster.proofs.Elements.{filtered}
use Rattle.fr_cluster.proofs.KeyIndexes.{index-lt}
use Rattle.fr_cluster.proofs.KeyNodes.{key_among}
use Rattle.fr_time.specs.Senders.{key_node_of}
use Rattle.fr_time.specs.Slots.{action_point_of}
use Rattle.fr_time.proofs.Keys.{key_index_is, key_node_is, rank_of, slot_of_index}
use Rattle.fr_precision.proofs.Counting.{range_contains}
use Rattle.fr_runs.proofs.Nodes.{node_there}
use Rattle.fr_log.specs.View.{LogView, is_arbitrary_in}
use Rattle.fr_course.specs.Course.{course_back, course_by, course_from, course_on, apart_by, is_there}
use Rattle.fr_course.specs.Readings.{reading_scale}
use Rattle.fr_course.specs.declared.courses.Course.{Course}
use Rattle.fr_course.specs.declared.intervals.Interval.{Interval}
use Rattle.fr_course.specs.Scales.{Scale}
use Rattle.fr_observe.specs.Observing.{senders_of}
use Rattle.fr_sightings.specs.Senders.{course_in, if_there, own_slot, seen_box, seen_sender, seen_sender_by, seen_senders, sender_on, seen_span, sightings_in}
use Rattle.fr_sightings.specs.Sightings.{sightings_of}
use Rattle.fr_sightings.specs.declared.sender.Sender.{Sender}
use Rattle.fr_sightings.specs.declared.sighting.Sighting.{Sighting}
use Rattle.fr_seen.specs.LogSeen.{log_senders}
use Rattle.fr_seen.proofs.SenderLaws.{all_given, mapped_some}
use Rattle.fr_seen_runs.proofs.ComputedLists.{AllPairs-given, one_left_out}

-- ---- a course

inside : {X : Type 0} (a b : X) → Some a ≡ Some b → a ≡ b
inside a b is = cc is

-- it acts where it is said to
acts_at : (scale : Scale) (action : ℤ) (early late span : Option Interval) (course : Course) → course_from scale action early late span ≡ Some course → course.action ≡ action
acts_at scale action None None span course is = absurd (cc is)
acts_at scale action (Some early) None span course is = ap (λ (c : Course). c.action) (sym (inside (course_on scale action early) course is))
acts_at scale action None (Some late) span course is = ap (λ (c : Course). c.action) (sym (inside (course_back scale action late) course is))
acts_at scale action (Some early) (Some late) span course is =
    ap (λ (c : Course). c.action) (sym (inside (course_by scale action early late (apart_by scale early late span)) course is))

pub there_some : (o : Option Course) (course : Course) → if_there o ≡ Some course → o ≡ Some course
there_some None course is = absurd (cc is)
there_some (Some other) course is = by (is_there other) is
  where
    by : (b : Bool) → (if b then Some other else None) ≡ Some course → Some other ≡ Some course
    by true is = is
    by false is = absurd (cc is)

-- ---- a sender

-- it is that of a node and its key slot, which the log doesn't call arbitrary; its next course is that in the next double cycle
pub record IsSenderOf (p : Values) (l : LogView) (node : NodeSpec) (s : Sender) : Type 0 where
  pub slot : ℕ
  pub there : Contains p.nodes node
  pub named : is_arbitrary_in l node.id ≡ false
  pub key : node.key ≡ Some slot
  pub id : s.node ≡ node.id
  pub acts : s.course.action ≡ pos (action_point_of p slot)

own_parts : (l : LogView) (node : NodeSpec) (slot : ℕ) → own_slot l node ≡ Some slot → (is_arbitrary_in l node.id ≡ false) × (node.key ≡ Some slot)
own_parts l node slot is = by (is_arbitrary_in l node.id) refl is
  where
    by : (b : Bool) → is_arbitrary_in l node.id ≡ b → (if b then None else node.key) ≡ Some slot → (is_arbitrary_in l node.id ≡ false) × (node.key ≡ Some slot)
    by true at is = absurd (cc is)
    by false at is = (at, is)

pub sender_of_node : (scale : Scale) (p : Values) (l : LogView) (here next : List Sighting) (double : ℕ) (node : NodeSpec) (s : Sender) → Contains p.nodes node
    → seen_sender scale p l here next double node ≡ Some s → IsSenderOf p l node s
unfolding seen_sender course_in
sender_of_node scale p l here next double node s among is = by (own_slot l node) refl is
  where
    by : (o : Option ℕ) → own_slot l node ≡ o → option_and_then (seen_sender_by scale p l here next double node.id) o ≡ Some s → IsSenderOf p l node s
    by None own is = absurd (cc is)
    by (Some slot) own is =
        let some =
        mapped_some (sender_on l here next double node.id (if_there (course_in scale p l next (double + 1) node.id slot))) (if_there (course_in scale p l here double node.id slot)) s is in
        let course = there_some (course_in scale p l here double node.id slot) some.0 some.1.0 in
        let parts = own_parts l node slot own in
        record {
          slot = slot;
          there = among;
          named = parts.0;
          key = parts.1;
          id = ap (λ (t : Sender). t.node) (sym some.1.1);
          acts = ap (λ (t : Sender). t.course.action) (sym some.1.1) ∙ acts_at scale (pos (action_point_of p slot)) (seen_box l here node.id (2 * double)) (seen_box l here node.id (2 * double + 1)) (seen_span l here here node.id (2 * double) (2 * double + 1)) some.0 course;
        }

abbrev pub IsLogSender : Values → LogView → Sender → Type 0
IsLogSender p l s = (node : NodeSpec) × IsSenderOf p l node s

pub are_log_senders : (x : Setting) (l : LogView) (double : ℕ) → All (IsLogSender x.params l) (log_senders x l double)
unfolding senders_of seen_senders
are_log_senders x l double =
    let scale = reading_scale l.drift x.params in
    let seen = sightings_of x.params l in
    all_given (seen_sender scale x.params l (sightings_in seen double) (sightings_in seen (double + 1)) double) (IsLogSender x.params l) x.params.nodes
    (λ node among s given. (node, sender_of_node scale x.params l (sightings_in seen double) (sightings_in seen (double + 1)) double node s among given))

-- ---- its key index

abbrev pub index_of : Values → Sender → ℕ
index_of p s = unwrap_or (own_index p s.node) 0

-- that of its key slot
pub record HasIndex (p : Values) (s : Sender) (slot : ℕ) : Type 0 where
  pub is : key_slot_of p (index_of p s) ≡ Some slot
  pub below : Contains (range_with_len 0 15) (index_of p s)

pub has_index : (p : Values) (l : LogView) (node : NodeSpec) (s : Sender) → IsSane p → (of : IsSenderOf p l node s) → HasIndex p s of.slot
has_index p l node s sane of =
    let rank = key_index_is p of.slot (key_among p.nodes node of.slot of.there of.key) in
    let own : own_index p s.node ≡ Some (rank_of p of.slot) =
    ap (λ n. own_index p n) of.id ∙ ap (λ o. index_in p (key_in o)) (node_there p node sane of.there) ∙ ap (index_in p) of.key ∙ rank in
    let same : index_of p s ≡ rank_of p of.slot = ap (λ o. unwrap_or o 0) own in
    let At : ℕ → Type 0 = λ i. key_slot_of p i ≡ Some of.slot in
    record {
      is = subst At (sym same) (slot_of_index p (rank_of p of.slot) of.slot rank);
      below = subst (Contains (range_with_len 0 15)) (sym same) (range_contains 15 (rank_of p of.slot) (index-lt p of.slot (rank_of p of.slot) sane rank));
    }

pub same_node : (p : Values) (l : LogView) (s t : Sender) → IsSane p → IsLogSender p l s → IsLogSender p l t → index_of p s ≡ index_of p t → s.node ≡ t.node
same_node p l s t sane one other same =
    let first = has_index p l one.0 s sane one.1 in
    let second = has_index p l other.0 t sane other.1 in
    let slots : Some one.1.slot ≡ Some other.1.slot = sym first.is ∙ ap (key_slot_of p) same ∙ second.is in
    let nodes : Some one.0 ≡ Some other.0 =
    sym (key_node_is p one.0 one.1.slot sane one.1.there one.1.key) ∙ ap (key_node_of p) (inside one.1.slot other.1.slot slots) ∙ key_node_is p other.0 other.1.slot sane other.1.there other.1.key in
    one.1.id ∙ ap (λ (n : NodeSpec). n.id) (inside one.0 other.0 nodes) ∙ sym other.1.id

-- ---- all of them

abbrev pub AreApart : Sender → Sender → Type 0
AreApart s t = s.node ≢ t.node

pub senders_apart : (x : Setting) (l : LogView) (double : ℕ) → IsSane x.params → AllPairs AreApart (log_senders x l double)
unfolding senders_of seen_senders
senders_apart x l double sane =
    let scale = reading_scale l.drift x.params in
    let seen = sightings_of x.params l in
    let here = sightings_in seen double in
    let next = sightings_in seen (double + 1) in
    AllPairs-given (λ (a : NodeSpec) (b : NodeSpec). a.id < b.id) AreApart (seen_sender scale x.params l here next double) x.params.nodes sane.lists.nodes_ascend
    (λ a b s t among also less first second.
    differ a.id b.id s.node t.node less (sender_of_node scale x.params l here next double a s among first).id (sender_of_node scale x.params l here next double b t also second).id)
  where
    differ : (a b c d : ℕ) → a < b → c ≡ a → d ≡ b → c ≢ d
    differ a b c d less first second same = omega (arith, less, first, second, same)

pub AllPairs-weaker : {X : Type 0} (R S : X → X → Type 0) (xs : List X) → AllPairs R xs → ((a b : X) → R a b → S a b) → AllPairs S xs
AllPairs-weaker R S xs pairs weaker = λ i j d before within. weaker _ _ (pairs i j d before within)

-- and all but one
abbrev pub others_than : ℕ → List Sender → List Sender
others_than node senders = filter (λ (t : Sender). not (t.node == node)) senders

pub other_is : (node : ℕ) (senders : List Sender) (t : Sender) → Contains (others_than node senders) t → Contains senders t × (t.node ≢ node)
other_is node senders t among =
    let kept = filtered (λ (u : Sender). not (u.node == node)) senders t among in
    (kept.0, λ same. differs t.node node same kept.1)
  where
    differs : (a b : ℕ) → a ≡ b → not (a == b) ≡ true → ⊥
    differs a b same is = let equal : (a == b) ≡ true = grind arith in let e : true ≡ false = sym is ∙ ap not equal in cc e

pub one_other : (node : ℕ) (senders : List Sender) → AllPairs AreApart senders → length senders ≤ suc (length (others_than node senders))
one_other node senders apart =
    one_left_out Sender (λ (t : Sender). not (t.node == node)) senders
    (AllPairs-weaker AreApart (λ (s : Sender) (t : Sender). not (s.node == node) ≡ false → not (t.node == node) ≡ true) senders apart
    (λ s t differ. other s.node t.node node differ))
  where
    other : (a b n : ℕ) → a ≢ b → not (a == n) ≡ false → not (b == n) ≡ true
    other a b n differ is = by (a == n) (b == n) refl refl is
      where
        equal : (a b : ℕ) → (a == b) ≡ true → a ≡ b
        equal a b is = grind arith

        by : (c d : Bool) → (a == n) ≡ c → (b == n) ≡ d → not c ≡ false → not d ≡ true
        by true true one two is = absurd (differ (equal a n one ∙ sym (equal b n two)))
        by true false one two is = refl
        by false d one two is = absurd (cc is)

pub others_apart : (node : ℕ) (senders : List Sender) → AllPairs AreApart senders → AllPairs AreApart (others_than node senders)
others_apart node senders apart = AllPairs-filter AreApart (λ (t : Sender). not (t.node == node)) senders apart
