-- The values of the nodes with rows of a double cycle, whatever frames are lost on their way, and the midpoints that they apply.
use Rattle.std.proofs.Common.{◌≡◌, ◌≢◌, ◌⊎◌, ℕ, suc, ◌==◌, Bool, true, false, ℤ, pos, Option, Some, None, refl, ap, sym, ◌∙◌, subst, inl, inr, arith, if◌then◌else◌}
use Rattle.std.specs.Prelude.{◌-ℤ◌, Contains, IfSome, IsSome, int_lt, is_some}
use Rattle.std.proofs.lemmas.Bool.{eqb-true}
use Rattle.fr_base.specs.Within.{IsWithin}
use Rattle.fr_base.specs.declared.channel.Channel.{Channel}
use Rattle.fr_base.specs.declared.channel.Channel.TheVariants.{A, B}
use Rattle.fr_cluster.specs.Questions.{index_in, key_in, key_slot_of, own_index}
use Rattle.fr_cluster.specs.Sane.{IsSane}
use Rattle.fr_cluster.specs.Setting.{Setting, correct_nodes, is_correct}
use Rattle.fr_cluster.specs.Values.{Values}
use Rattle.fr_cluster.specs.declared.nodes.NodeSpec.{NodeSpec}
use Rattle.fr_cluster.proofs.Elements.{filtered}
use Rattle.fr_time.specs.Senders.{key_node_of}
use Rattle.fr_time.specs.Slots.{action_point_of}
use Rattle.fr_time.proofs.Keys.{key_node_is, key_slot_has, slot_of_index}
use Rattle.fr_midpoint.specs.Midpoint.{half_of_sum, IsMidpoint}
use Rattle.fr_measure.specs.Values.{change_at, change_of, is_own, least_of, mean_of, offset_at, rate_at}
use Rattle.fr_precision.specs.Offsets.{IsDeviation}
use Rattle.fr_precision.specs.Round.{Hearer, IsOther, IsRound, IsSender, Round, offsets_of, rates_of}
use Rattle.fr_precision.proofs.Values.{acts_before, change_from, other_value, own_value}
use Rattle.fr_history.specs.Cycles.{Cycle, Cycles}
use Rattle.fr_history.specs.History.{row_for}
use Rattle.fr_history.specs.Standing.{has_row, row_nodes}
use Rattle.fr_runs.specs.Gathered.{round_at, row_hearer}
use Rattle.fr_runs.specs.Links.{IsCarried}
use Rattle.fr_runs.specs.Numbers.{HasDouble, HasRowIn}
use Rattle.fr_runs.proofs.Courses.{is_correct_row}
use Rattle.fr_runs.proofs.Going.{is_row_node}
use Rattle.fr_runs.proofs.Nodes.{correct_node, node_there}
use Rattle.fr_runs.proofs.RowsHeard.{RowLink}
use Rattle.fr_precision.specs.Hearing.{IsHeardInPart}
use Rattle.fr_precision.specs.Steady.{PlacesEven}
use Rattle.fr_runs.specs.SteadyRuns.{AreRowsInReach}
use Rattle.fr_precision.proofs.HearingLemmas.{no_less}
use Rattle.fr_sharp.proofs.JudgedLaws.{Grows}
use Rattle.fr_runs.proofs.RowsSupplied.{few_in, frames_stored, looked_up, pairs_steady, row_regular, rows_heard_in_part, LawfulRows}
use Rattle.fr_precision.proofs.SteadyLemmas.{half_places_even, steady_values_place_lem}
use Rattle.fr_seen_runs.specs.ComputedValues.{AreKeyed, ComputesOffset, ComputesRate, IsHeardOf, IsKeyedAt, told_offsets, told_rates, told_sender}
use Rattle.fr_runs.proofs.RowsNumbers.{here}

-- ---- the values of both channels

-- what holds of the deviations of both holds of the least of them, and what holds of both changes of their mean
least_says : (P : ℤ → Type 0) (a b : Option ℤ) → ((v : ℤ) → a ≡ Some v → P v) → ((v : ℤ) → b ≡ Some v → P v) → IfSome (least_of a b) P
least_says P None None one other = tt
least_says P None (Some b) one other = other b refl
least_says P (Some a) None one other = one a refl
least_says P (Some a) (Some b) one other = by (int_lt b a)
  where
    by : (t : Bool) → P (if t then b else a)
    by true = other b refl
    by false = one a refl

mean_says : (P : ℤ → Type 0) (a b : Option ℤ) → ((x y : ℤ) → P x → P y → P (half_of_sum x y)) → ((v : ℤ) → a ≡ Some v → P v) → ((v : ℤ) → b ≡ Some v → P v)
    → IfSome (mean_of a b) P
mean_says P None None half one other = tt
mean_says P None (Some b) half one other = other b refl
mean_says P (Some a) None half one other = one a refl
mean_says P (Some a) (Some b) half one other = half a b (one a refl) (other b refl)

-- there is one where one channel has one
least_there : (f : Channel → Option ℤ) (channel : Channel) → IsSome (f channel) → IsSome (least_of (f A) (f B))
least_there f A there = by (f A) (f B) there
  where
    by : (a b : Option ℤ) → IsSome a → IsSome (least_of a b)
    by None b is = absurd (cc is)
    by (Some a) None is = refl
    by (Some a) (Some b) is = refl
least_there f B there = by (f A) (f B) there
  where
    by : (a b : Option ℤ) → IsSome b → IsSome (least_of a b)
    by a None is = absurd (cc is)
    by None (Some b) is = refl
    by (Some a) (Some b) is = refl

mean_there : (f : Channel → Option ℤ) (channel : Channel) → IsSome (f channel) → IsSome (mean_of (f A) (f B))
mean_there f A there = by (f A) (f B) there
  where
    by : (a b : Option ℤ) → IsSome a → IsSome (mean_of a b)
    by None b is = absurd (cc is)
    by (Some a) None is = refl
    by (Some a) (Some b) is = refl
mean_there f B there = by (f A) (f B) there
  where
    by : (a b : Option ℤ) → IsSome b → IsSome (mean_of a b)
    by a None is = absurd (cc is)
    by None (Some b) is = refl
    by (Some a) (Some b) is = refl

change_is_there : (early late : Option ℤ) → IsSome early → IsSome late → IsSome (change_of early late)
change_is_there None late is also = absurd (cc is)
change_is_there (Some early) None is also = absurd (cc also)
change_is_there (Some early) (Some late) is also = refl

-- some channel has one where there is one
least_from : (a b : Option ℤ) (v : ℤ) → least_of a b ≡ Some v → ((w : ℤ) × (a ≡ Some w)) ⊎ ((w : ℤ) × (b ≡ Some w))
least_from None b v is = inr (v, is)
least_from (Some a) b v is = inl (a, refl)

mean_from : (a b : Option ℤ) (v : ℤ) → mean_of a b ≡ Some v → ((w : ℤ) × (a ≡ Some w)) ⊎ ((w : ℤ) × (b ≡ Some w))
mean_from None b v is = inr (v, is)
mean_from (Some a) b v is = inl (a, refl)

-- ---- values stand at indexes of key slots

own_some : (own : Option ℕ) (index : ℕ) → is_own own index ≡ true → own ≡ Some index
own_some None index is = absurd (cc is)
own_some (Some own) index is = ap Some (eqb-true own index is)

module _ (r : Round) (n : Hearer) (hears : IsHeardInPart r n) where
  heard_slot : (index : ℕ) (is_odd : Bool) (channel : Channel) (value : ℤ) → n.look index is_odd channel ≡ Some value → (slot : ℕ) × (key_slot_of r.params index ≡ Some slot)
  heard_slot index is_odd channel value is = let only = hears.only index is_odd channel value is in (only.0, only.1.1)

  itself_slot : (index : ℕ) → is_own n.own index ≡ true → (slot : ℕ) × (key_slot_of r.params index ≡ Some slot)
  itself_slot index own = let itself = hears.itself index (own_some n.own index own) in (itself.0, itself.1.1.slot_is)

  pub offsets_keyed : AreKeyed r.params (offset_at n.look n.own)
  offsets_keyed index value is = by (is_own n.own index) refl
    where
      by : (own : Bool) → is_own n.own index ≡ own → (slot : ℕ) × (key_slot_of r.params index ≡ Some slot)
      by true own = itself_slot index own
      by false other =
          elim (least_from (n.look index true A) (n.look index true B) value (sym (other_value n.own index (least_of (n.look index true A) (n.look index true B)) other) ∙ is)) [
            | inl there ↦ heard_slot index true A there.0 there.1
            | inr there ↦ heard_slot index true B there.0 there.1
          ]

  pub rates_keyed : AreKeyed r.params (rate_at n.look n.own)
  rates_keyed index value is = by (is_own n.own index) refl
    where
      on : (channel : Channel) (v : ℤ) → change_at n.look index channel ≡ Some v → (slot : ℕ) × (key_slot_of r.params index ≡ Some slot)
      on channel v some = let both = change_from (n.look index false channel) (n.look index true channel) v some in heard_slot index false channel both.0 both.1.1

      by : (own : Bool) → is_own n.own index ≡ own → (slot : ℕ) × (key_slot_of r.params index ≡ Some slot)
      by true own = itself_slot index own
      by false other =
          elim (mean_from (change_at n.look index A) (change_at n.look index B) value (sym (other_value n.own index (mean_of (change_at n.look index A) (change_at n.look index B)) other) ∙ is)) [
            | inl there ↦ on A there.0 there.1
            | inr there ↦ on B there.0 there.1
          ]

-- a node whose own index is that of a key slot is that of the slot
keyed_alike : (p : Values) (node other : NodeSpec) (slot index : ℕ) → IsSane p → Contains p.nodes node → Contains p.nodes other → other.key ≡ Some slot → key_slot_of p index ≡ Some slot
    → own_index p node.id ≡ Some index → node ≡ other
keyed_alike p node other slot index sane here there key slot_is is = by node.key refl (sym (ap (λ o. index_in p (key_in o)) (node_there p node sane here)) ∙ is)
  where
    by : (own : Option ℕ) → node.key ≡ own → index_in p own ≡ Some index → node ≡ other
    by None at indexed = absurd (cc indexed)
    by (Some own) at indexed =
        let slots : Some own ≡ Some slot = sym (slot_of_index p index own indexed) ∙ slot_is in
        let same : own ≡ slot = cc slots in
        let nodes : Some node ≡ Some other = sym (key_node_is p node own sane here at) ∙ ap (key_node_of p) same ∙ key_node_is p other slot sane there key in
        cc nodes

-- ---- the receivers of a double cycle

-- what the nodes with rows of a double cycle behind some cycles apply, whatever says so
pub record AreApplying (x : Setting) (h : Cycles) (even odd : Cycle) (next : NodeSpec → ℤ) : Type 0 where
  pub among : (node : NodeSpec) → HasRowIn x even node → Contains (row_nodes x h) node
  pub offset :
      (node : NodeSpec) → Contains (row_nodes x h) node
      → IsMidpoint (offsets_of (row_hearer x even odd node.id)) (row_for odd.told.rows node.id).offset
  pub grows :
      (node : NodeSpec) → Contains (row_nodes x h) node
      → Grows (rates_of (row_hearer x even odd node.id)) x.params.damping (row_for odd.told.rows node.id).rate (next node)

module _
    (x : Setting) (flutter : ℕ) (h : Cycles) (even odd : Cycle) (double : ℕ) (reach : ℤ) (next : NodeSpec → ℤ)
    (rows : LawfulRows x flutter h even odd double) (near : AreRowsInReach x h even odd reach) (applies : AreApplying x h even odd next)
  where
    sane : IsSane x.params
    sane = rows.covered.sane

    round_is : IsRound (round_at x h even odd)
    round_is = record {
      sane = sane;
      few = few_in x double flutter h rows.covered;
      regular = λ node there has. row_regular x flutter h even odd double rows near.rates node (is_row_node x h node there has);
    }

    heard_part : (node : NodeSpec) → Contains (row_nodes x h) node → IsHeardInPart (round_at x h even odd) (row_hearer x even odd node.id)
    heard_part node among = rows_heard_in_part x flutter h even odd double reach rows near node among

    -- a node with a row and a key slot is a sender
    is_sender : (node : NodeSpec) (slot index : ℕ) → IsKeyedAt x even node slot index → IsSender (round_at x h even odd) node slot
    is_sender node slot index keyed =
        let among = applies.among node keyed.has in
        let kept = filtered (λ (n : NodeSpec). has_row x h n.id) (correct_nodes x) node among in
        let correct = filtered (λ (n : NodeSpec). is_correct x n.id) x.params.nodes node keyed.has.correct in
        record { there = (correct_node x node keyed.has.correct).there; rows = rw (correct.1, kept.1) refl; key = keyed.key }

    -- its own index is that of its key slot
    own_is : (node : NodeSpec) (slot index : ℕ) → IsKeyedAt x even node slot index → own_index x.params node.id ≡ Some index
    own_is node slot index keyed =
        let there = (correct_node x node keyed.has.correct).there in
        ap (λ o. index_in x.params (key_in o)) (node_there x.params node sane there) ∙ ap (index_in x.params) keyed.key ∙ (key_slot_has x.params index slot keyed.slot_is).0

    own_at : (node : NodeSpec) (slot index : ℕ) → IsKeyedAt x even node slot index → is_own (own_index x.params node.id) index ≡ true
    own_at node slot index keyed = ap (λ o. is_own o index) (own_is node slot index keyed) ∙ equal index
      where
        equal : (a : ℕ) → (a == a) ≡ true
        equal a = grind arith

    -- and that of no other node
    other_at : (node other : NodeSpec) (slot index : ℕ) → Contains (row_nodes x h) node → IsKeyedAt x even other slot index → other.id ≢ node.id → is_own (own_index x.params node.id) index ≡ false
    other_at node other slot index among keyed differs = by (is_own (own_index x.params node.id) index) refl
      where
        by : (own : Bool) → is_own (own_index x.params node.id) index ≡ own → own ≡ false
        by false own = refl
        by true own =
            let here = (correct_node x node (is_correct_row x h node among)).there in
            let there = (correct_node x other keyed.has.correct).there in
            let same = keyed_alike x.params node other slot index sane here there keyed.key keyed.slot_is (own_some (own_index x.params node.id) index own) in
            absurd (differs (ap (λ (n : NodeSpec). n.id) (sym same)))

    is_other : (node other : NodeSpec) (slot index : ℕ) → Contains (row_nodes x h) node → IsKeyedAt x even other slot index → other.id ≢ node.id
        → IsOther (round_at x h even odd) (row_hearer x even odd node.id) index slot other
    is_other node other slot index among keyed differs =
        record { sender = is_sender other slot index keyed; slot_is = keyed.slot_is; other = other_at node other slot index among keyed differs }

    link : (node other : NodeSpec) (slot index : ℕ) → Contains (row_nodes x h) node → IsKeyedAt x even other slot index → other.id ≢ node.id → RowLink x h other node slot
    link node other slot index among keyed differs = record { sends = applies.among other keyed.has; hears = among; key = keyed.key; other = differs }

    -- where its frames of both cycles are carried, both deviations of one channel are there
    both_there : (node other : NodeSpec) (slot index : ℕ) → Contains (row_nodes x h) node → IsKeyedAt x even other slot index → other.id ≢ node.id → (carried : IsCarried x other node double)
        → IsSome ((row_hearer x even odd node.id).look index false carried.channel) × IsSome ((row_hearer x even odd node.id).look index true carried.channel)
    both_there node other slot index among keyed differs carried =
        let own = link node other slot index among keyed differs in
        let channel = carried.channel in (
          ap is_some (looked_up x flutter h even odd double reach rows near node.id index slot false channel keyed.slot_is) ∙ frames_stored x flutter h even odd double reach rows near false other node slot channel own carried.share carried.even,
          ap is_some (looked_up x flutter h even odd double reach rows near node.id index slot true channel keyed.slot_is) ∙ frames_stored x flutter h even odd double reach rows near true other node slot channel own carried.share carried.odd,
        )

    -- ---- offsets

    offset_heard : (node other : NodeSpec) (slot index : ℕ) → Contains (row_nodes x h) node → IsKeyedAt x even other slot index → other.id ≢ node.id
        → IsHeardOf x double other node (told_offsets x even odd node index)
        (IsDeviation x.params true (pos (action_point_of x.params slot)) (row_for odd.told.rows node.id) (row_for odd.told.rows other.id))
    offset_heard node other slot index among keyed differs =
        let n = row_hearer x even odd node.id in
        let Says : ℤ → Type 0 = λ v. IsDeviation x.params true (pos (action_point_of x.params slot)) (row_for odd.told.rows node.id) (row_for odd.told.rows other.id) v in
        let If_says : Option ℤ → Type 0 = λ o. IfSome o Says in
        let is = is_other node other slot index among keyed differs in
        let least = least_of (n.look index true A) (n.look index true B) in
        let same : told_offsets x even odd node index ≡ least = other_value n.own index least is.other in
        record {
          says =
              subst If_says (sym same)
              (
              least_says Says (n.look index true A) (n.look index true B) (λ v there. (heard_part node among).placed index slot other true A v is there)
              (λ v there. (heard_part node among).placed index slot other true B v is there)
              );
          carried = λ carried. ap is_some same ∙ least_there (n.look index true) carried.channel (both_there node other slot index among keyed differs carried).1;
        }

    pub computes_offset : (node : NodeSpec) → HasRowIn x even node → ComputesOffset x double even odd node
    computes_offset node has =
        let among = applies.among node has in
        let n = row_hearer x even odd node.id in
        record {
          own = λ slot index keyed. own_value (own_index x.params node.id) index (least_of (n.look index true A) (n.look index true B)) (own_at node slot index keyed);
          heard = λ other slot index keyed differs. offset_heard node other slot index among keyed differs;
          keyed = offsets_keyed (round_at x h even odd) n (heard_part node among);
          applied = applies.offset node among;
        }

    -- ---- rates

    change_placed : (node other : NodeSpec) (slot index : ℕ) (channel : Channel) (v : ℤ) → Contains (row_nodes x h) node → IsKeyedAt x even other slot index → other.id ≢ node.id
        → change_at (row_hearer x even odd node.id).look index channel ≡ Some v → PlacesEven x.params flutter (told_sender x even odd other slot) (row_for odd.told.rows node.id) v
    change_placed node other slot index channel v among keyed differs some =
        let n = row_hearer x even odd node.id in
        let r = round_at x h even odd in
        let is = is_other node other slot index among keyed differs in
        let both = change_from (n.look index false channel) (n.look index true channel) v some in
        let early = both.0 in
        let late = both.1.0 in
        let Says : ℤ → Type 0 = λ z. PlacesEven x.params flutter (told_sender x even odd other slot) (row_for odd.told.rows node.id) z in
        subst Says (sym both.1.3)
        (
        steady_values_place_lem x.params flutter (told_sender x even odd other slot) n.even n.odd early late sane (row_regular x flutter h even odd double rows near.rates node among)
        (record {
          regular = round_is.regular other is.sender.there is.sender.rows;
          acts_from = no_less (action_point_of x.params slot);
          acts_to = acts_before r slot other sane is.sender;
        })
        (pairs_steady x flutter h even odd double reach rows near node among index slot other channel early late is both.1.1 both.1.2)
        )

    rate_heard : (node other : NodeSpec) (slot index : ℕ) → Contains (row_nodes x h) node → IsKeyedAt x even other slot index → other.id ≢ node.id
        → IsHeardOf x double other node (told_rates x even odd node index)
        (PlacesEven x.params flutter (told_sender x even odd other slot) (row_for odd.told.rows node.id))
    rate_heard node other slot index among keyed differs =
        let n = row_hearer x even odd node.id in
        let Says : ℤ → Type 0 = λ v. PlacesEven x.params flutter (told_sender x even odd other slot) (row_for odd.told.rows node.id) v in
        let If_says : Option ℤ → Type 0 = λ o. IfSome o Says in
        let is = is_other node other slot index among keyed differs in
        let mean = mean_of (change_at n.look index A) (change_at n.look index B) in
        let same : told_rates x even odd node index ≡ mean = other_value n.own index mean is.other in
        let micro = (row_regular x flutter h even odd double rows near.rates node among).odd_micro in
        record {
          says =
              subst If_says (sym same)
              (
              mean_says Says (change_at n.look index A) (change_at n.look index B)
              (λ one two. half_places_even x.params flutter (told_sender x even odd other slot) n.odd one two sane micro)
              (λ v there. change_placed node other slot index A v among keyed differs there) (λ v there. change_placed node other slot index B v among keyed differs there)
              );
          carried = λ carried.
              let both = both_there node other slot index among keyed differs carried in
              ap is_some same ∙ mean_there (change_at n.look index) carried.channel (change_is_there (n.look index false carried.channel) (n.look index true carried.channel) both.0 both.1);
        }

    pub computes_rate : (whole : Cycles) (node : NodeSpec) → HasRowIn x even node
        → ((next_even next_odd : Cycle) → HasDouble whole (suc double) next_even next_odd → (row_for next_even.told.rows node.id).rate ≡ next node)
        → ComputesRate x flutter whole double even odd node
    computes_rate whole node has on =
        let among = applies.among node has in
        let n = row_hearer x even odd node.id in
        let grows = applies.grows node among in
        record {
          own = λ slot index keyed. own_value (own_index x.params node.id) index (mean_of (change_at n.look index A) (change_at n.look index B)) (own_at node slot index keyed);
          heard = λ other slot index keyed differs. rate_heard node other slot index among keyed differs;
          keyed = rates_keyed (round_at x h even odd) n (heard_part node among);
          middle = grows.middle;
          is_middle = grows.is;
          grown = λ next_even next_odd is.
              let Near : ℤ → Type 0 = λ v. IsWithin x.params.damping ((v -ℤ (row_for odd.told.rows node.id).rate) -ℤ grows.middle) in
              subst Near (sym (on next_even next_odd is)) grows.near;
        }
