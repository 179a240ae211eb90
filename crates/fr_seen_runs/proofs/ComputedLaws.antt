-- The terms of the senders of a log are those that the courses of the others allow, in a double cycle in which its nodes apply
-- midpoints, where the node of a sender misses few of the others.
use Rattle.std.proofs.Common.{◌≡◌, ◌≢◌, ap₂, ℕ, suc, ◌+◌, ◌-◌, ◌≤◌, true, false, not, ℤ, pos, Option, Some, None, List, [], ◌∷◌, length, map, ap, sym, ◌∙◌, subst, inl, inr, arith}
use Rattle.std.specs.Prelude.{◌-ℤ◌, ◌+ℤ◌, ◌≤ℤ◌, neg_ℤ, AllPairs, Contains, IfSome, IsSome, count_by, is_some, unwrap_or}
use Rattle.std.specs.List.{range_with_len}
use Rattle.std.specs.Option.{option_map}
use Rattle.std.proofs.lemmas.Int.{ints}
use Rattle.std.proofs.lemmas.List.Elements.{All-contains, All-contains_itself, All-map}
use Rattle.std.proofs.lemmas.List.Kept.{AllPairs-cons}
use Rattle.fr_base.specs.Within.{IsBetween, IsWithin}
use Rattle.fr_base.specs.declared.channel.Channel.{Channel}
use Rattle.fr_cluster.specs.Questions.{key_slot_of, node_of, own_index}
use Rattle.fr_cluster.specs.Sane.{IsSane}
use Rattle.fr_cluster.specs.Setting.{Setting, correct_nodes}
use Rattle.fr_cluster.specs.declared.names.ParamName.TheVariants as name
use Rattle.fr_cluster.specs.declared.nodes.NodeSpec.{NodeSpec}
use Rattle.fr_cluster.proofs.Elements.{Contains-here, Contains-there}
use Rattle.fr_cluster.proofs.KeyNodes.{AllPairs-first, AllPairs-rest, Contains-cons_cases}
use Rattle.fr_time.specs.Slots.{action_point_of}
use Rattle.fr_midpoint.specs.Midpoint.{IsMidpoint}
use Rattle.fr_measure.specs.Values.{values_of}
use Rattle.fr_precision.specs.Offsets.{IsDeviation}
use Rattle.fr_precision.specs.Rows.{Sender as Rows}
use Rattle.fr_precision.proofs.Figures.{natural}
use Rattle.fr_precision.proofs.Senders.{All-along}
use Rattle.fr_history.specs.Cycles.{Cycle, Cycles}
use Rattle.fr_history.specs.History.{row_for, row_of}
use Rattle.fr_history.proofs.Lists.{map-map}
use Rattle.fr_runs.specs.Links.{IsLinked}
use Rattle.fr_runs.specs.Numbers.{HasDouble, HasRowIn}
use Rattle.fr_runs.proofs.Nodes.{correct_node, node_there}
use Rattle.fr_runs.proofs.Receivers.{is_correct_node}
use Rattle.fr_precision.proofs.RoundLemmas.{map_contains}
use Rattle.fr_precision.specs.Steady.{PlacesEven}
use Rattle.fr_log.specs.View.{LogView}
use Rattle.fr_course.specs.Computed.{ValuesAreCounted, ValuesArePlaced, deviation_seen, further_by, measuring_of, own_value, rate_value_seen}
use Rattle.fr_course.specs.Middles.{MiddlesHold, middle}
use Rattle.fr_course.specs.Readings.{reading_scale}
use Rattle.fr_course.specs.declared.intervals.Interval.{Interval}
use Rattle.fr_course.specs.Measures.{Measuring}
use Rattle.fr_course.specs.Scales.{Scale}
use Rattle.fr_course.specs.declared.stamps.Delays.{Delays}
use Rattle.fr_sightings.specs.declared.sender.Sender.{Sender}
use Rattle.fr_observe.specs.Faults.{further_of, other_courses, stated_flutter}
use Rattle.fr_seen.specs.Clocks.{IsWithinDrift, StraightClock}
use Rattle.fr_seen.specs.LogSeen.{IsSenderOn, log_senders, run_double, seen_in}
use Rattle.fr_seen.proofs.SenderLaws.{senders_are_on_course}
use Rattle.fr_seen_runs.specs.ComputedTerms.{IsNamedLog, OffsetIsComputed, RateIsComputed}
use Rattle.fr_seen_runs.specs.ComputedValues.{AreKeyed, ComputesOffset, ComputesRate, IsHeardOf, IsKeyedAt, told_offsets, told_rates, told_sender}
use Rattle.fr_seen.specs.Contradictions.{MissesFew}
use Rattle.fr_seen_runs.proofs.ComputedGaps.{deviation_lies, rate_value_lies}
use Rattle.fr_seen_runs.proofs.ComputedKnown.{indexes_of, middle_lies, LiesIn}
use Rattle.fr_seen_runs.proofs.ComputedLists.{AllPairs-mapped}
use Rattle.fr_seen_runs.proofs.ComputedSenders.{AreApart, IsLogSender, are_log_senders, has_index, index_of, one_other, other_is, others_apart, others_than, same_node, senders_apart}

-- what any two of some have, by what else is known of each
AllPairs-among : {X : Type 0} (R S : X → X → Type 0) (xs : List X) → AllPairs R xs → ((a b : X) → Contains xs a → Contains xs b → R a b → S a b) → AllPairs S xs
AllPairs-among R S [] pairs each = λ i j d before within. absurd (omega (arith, within))
AllPairs-among R S (x ∷ xs) pairs each =
    AllPairs-cons S x xs
    (All-along (Contains xs) (S x) xs (λ y among. each x y (Contains-here x xs) (Contains-there x xs y among) (AllPairs-first R x xs y pairs among)) (All-contains_itself xs))
    (AllPairs-among R S xs (AllPairs-rest R x xs pairs) (λ a b here there. each a b (Contains-there x xs a here) (Contains-there x xs b there)))

-- a number at most a damping away
widened : (damping : ℤ) (o : Option Interval) (mid step : ℤ) → IsWithin damping (step -ℤ mid) → IfSome o (λ m. IsBetween m.low m.high mid)
    → IfSome (option_map (further_by damping) o) (λ m. IsBetween m.low m.high step)
widened damping None mid step near lies = tt
widened damping (Some m) mid step near lies = record { low = low m.low mid step damping lies.low near.low; high = high m.high mid step damping lies.high near.high }
  where
    low : (l m s d : ℤ) → l ≤ℤ m → neg_ℤ d ≤ℤ (s -ℤ m) → (l -ℤ d) ≤ℤ s
    low l m s d h k = omega (arith, ints, h, k)

    high : (l m s d : ℤ) → m ≤ℤ l → (s -ℤ m) ≤ℤ d → s ≤ℤ (l +ℤ d)
    high l m s d h k = omega (arith, ints, h, k)

-- what a value says, if there is one
said_weaker : (o : Option ℤ) (P Q : ℤ → Type 0) → ((v : ℤ) → P v → Q v) → IfSome o P → IfSome o Q
said_weaker None P Q weaker says = tt
said_weaker (Some v) P Q weaker says = weaker v says

-- nodes of different indexes
abbrev Differ : (ℕ → ℕ) → Sender → Sender → Type 0
Differ index a b = index a.node ≢ index b.node

-- ---- the values of one sender

module _
    (x : Setting) (h : Cycles) (base : ℕ) (delays : ℕ → Channel → Delays) (clock : ℕ → StraightClock) (l : LogView) (double : ℕ)
    (log : IsNamedLog x h base delays clock l) (even odd : Cycle) (two : HasDouble h (run_double base double) even odd)
  where
    sane : IsSane x.params
    sane = log.timed.sane

    within : IsWithinDrift l.drift (clock (run_double base double))
    within = log.seen.seen.within_drift (run_double base double)

    abbrev senders : List Sender
    senders = log_senders x l double

    abbrev scale : Scale
    scale = reading_scale l.drift x.params

    abbrev flutter : ℕ
    flutter = stated_flutter x.params l

    abbrev measuring : Measuring
    measuring = measuring_of x.params (stated_flutter x.params l)

    on_course : (t : Sender) → Contains (log_senders x l double) t → IsSenderOn x l.drift (clock (run_double base double)) even odd t
    on_course t among =
        All-contains (IsSenderOn x l.drift (clock (run_double base double)) even odd) (log_senders x l double) t
        (senders_are_on_course x h base delays clock l double even odd log.timed log.log log.seen two) among

    pub is_sender : (t : Sender) → Contains (log_senders x l double) t → IsLogSender x.params l t
    is_sender t among = All-contains (IsLogSender x.params l) (log_senders x l double) t (are_log_senders x l double) among

    keyed : (t : Sender) → (among : Contains (log_senders x l double) t) → IsKeyedAt x even (is_sender t among).0 (is_sender t among).1.slot (index_of x.params t)
    keyed t among =
        let of = is_sender t among in
        let arbitrary : x.is_arbitrary of.0.id ≡ false = log.named of.0 of.1.there ∙ of.1.named in
        let Has : ℕ → Type 0 = λ n. IsSome (row_of even.told.rows n) in
        record {
          has = record { correct = is_correct_node x of.0 of.1.there (ap not arbitrary); row = subst Has of.1.id (on_course t among).rows.in_even };
          key = of.1.key;
          slot_is = (has_index x.params l of.0 t sane of.1).is;
        }

    -- ---- one and the others

    module _ (r : Sender) (here : Contains (log_senders x l double) r) where
      abbrev others : List Sender
      others = others_than r.node (log_senders x l double)

      abbrev number_of : Sender → ℕ
      number_of t = t.node

      abbrev index_at : ℕ → ℕ
      index_at n = unwrap_or (own_index x.params n) 0

      abbrev indexes : List ℕ
      indexes = indexes_of number_of index_at r.node others

      others_differ : AllPairs (Differ index_at) others
      others_differ =
          AllPairs-among AreApart (Differ index_at) others (others_apart r.node (log_senders x l double) (senders_apart x l double sane))
          (λ a b first second apart same.
          apart (same_node x.params l a b sane (is_sender a (other_is r.node (log_senders x l double) a first).0) (is_sender b (other_is r.node (log_senders x l double) b second).0) same))

      all_differ : AllPairs (λ (a : ℕ) (b : ℕ). a ≢ b) indexes
      all_differ =
          let Apart : ℕ → Type 0 = λ b. index_at r.node ≢ b in
          AllPairs-cons (λ (a : ℕ) (b : ℕ). a ≢ b) (index_at r.node) (map (λ (t : Sender). index_at t.node) others)
          (
          All-map Apart (λ (t : Sender). index_at t.node) others
          (
          All-along (Contains others) (λ t. index_at r.node ≢ index_at t.node) others
          (λ t there same.
          let other = other_is r.node (log_senders x l double) t there in
          other.1 (sym (same_node x.params l r t sane (is_sender r here) (is_sender t other.0) same)))
          (All-contains_itself others)
          )
          )
          (AllPairs-mapped (λ (a : ℕ) (b : ℕ). a ≢ b) (λ (t : Sender). index_at t.node) others others_differ)

      -- each index is that of a sender
      of_sender : (i : ℕ) → Contains indexes i → (t : Sender) × Contains (log_senders x l double) t × (index_of x.params t ≡ i)
      of_sender i among = elim (Contains-cons_cases (index_at r.node) (map (λ (t : Sender). index_at t.node) others) i among) [
        | inl same ↦ (r, here, same)
        | inr more ↦
            let t = map_contains (λ (t : Sender). index_at t.node) others i more in
            (t.0, (other_is r.node (log_senders x l double) t.0 t.1).0, t.2)
      ]

      index_slot : (i : ℕ) → Contains indexes i → (slot : ℕ) × (key_slot_of x.params i ≡ Some slot)
      index_slot i among =
          let t = of_sender i among in
          let of = is_sender t.0 t.1 in
          let At : ℕ → Type 0 = λ j. key_slot_of x.params j ≡ Some of.1.slot in
          (of.1.slot, subst At t.2 (has_index x.params l of.0 t.0 sane of.1).is)

      index_below : (i : ℕ) → Contains indexes i → Contains (range_with_len 0 15) i
      index_below i among =
          let t = of_sender i among in
          let of = is_sender t.0 t.1 in
          subst (Contains (range_with_len 0 15)) t.2 (has_index x.params l of.0 t.0 sane of.1).below

      few_extra : (extra : ℕ) → suc (length others) + extra ≤ count_by (λ (n : NodeSpec). is_some n.key) x.params.nodes → extra ≤ further_of x.params (log_senders x l double)
      few_extra extra few =
          let one = one_other r.node (log_senders x l double) (senders_apart x l double sane) in
          fewer (length (log_senders x l double)) (length others) extra (count_by (λ (node : NodeSpec). is_some node.key) x.params.nodes) one few
        where
          fewer : (n o e c : ℕ) → n ≤ suc o → suc o + e ≤ c → e ≤ c - n
          fewer n o e c one few = omega (arith, one, few)

      differs : (t : Sender) (among : Contains others t) → (is_sender t (other_is r.node (log_senders x l double) t among).0).0.id ≢ (is_sender r here).0.id
      differs t among same =
          let other = other_is r.node (log_senders x l double) t among in
          other.1 ((is_sender t other.0).1.id ∙ same ∙ sym (is_sender r here).1.id)

      linked : (t : Sender) (among : Contains others t)
          → IsLinked x (is_sender t (other_is r.node (log_senders x l double) t among).0).0 (is_sender r here).0 (is_sender t (other_is r.node (log_senders x l double) t among).0).1.slot
      linked t among =
          let there = (other_is r.node (log_senders x l double) t among).0 in
          record {
            sends = (keyed t there).has.correct;
            hears = (keyed r here).has.correct;
            key = (is_sender t there).1.key;
            other = differs t among;
          }

      -- what its node has of each of the others, where it misses few of them
      module _ (lost : ℕ) (misses : MissesFew x (run_double base double) lost (is_sender r here).0) (holds : MiddlesHold) where
        -- a value of another one lies in a box, if there is one
        abbrev Heard_in : (ℕ → Option ℤ) → (Sender → Interval) → Type 0
        Heard_in at box =
            (t : Sender) (there : Contains (log_senders x l double) t) → (is_sender t there).0.id ≢ (is_sender r here).0.id
            → IsHeardOf x (run_double base double) (is_sender t there).0 (is_sender r here).0 (at (index_of x.params t)) (LiesIn (box t))

        own_lies : (at : ℕ → Option ℤ) (box : Sender → Interval) (mid : ℤ) → AreKeyed x.params at → at (index_of x.params r) ≡ Some (pos 0) → Heard_in at box → IsMidpoint (values_of at) mid
            → IfSome (middle (further_of x.params (log_senders x l double)) lost (own_value ∷ map box others)) (λ m. IsBetween m.low m.high mid)
        own_lies at box mid values_keyed zero heard is =
            middle_lies x.params at number_of index_at r.node others box misses.missed
            (record { keyed = values_keyed; slots = index_slot; apart = all_differ; below = index_below; zero = zero })
            (record {
              apart = AllPairs-mapped (λ (a : ℕ) (b : ℕ). a ≢ b) number_of others (others_apart r.node (log_senders x l double) (senders_apart x l double sane));
              lies = λ t among. (heard t (other_is r.node (log_senders x l double) t among).0 (differs t among)).says;
              there = λ t among free.
                  let there = (other_is r.node (log_senders x l double) t among).0 in
                  let of = is_sender t there in
                  let Free : ℕ → Type 0 = λ n. Contains misses.missed n → ⊥ in
                  (heard t there (differs t among)).carried (misses.carried of.0 of.1.slot (linked t among) (subst Free of.1.id free));
            })
            holds (further_of x.params (log_senders x l double)) lost mid misses.few few_extra is

        -- ---- offsets

        offset_says : ValuesAreCounted → ComputesOffset x (run_double base double) even odd (is_sender r here).0
            → Heard_in (told_offsets x even odd (is_sender r here).0) (λ t. deviation_seen scale measuring r.course t.course)
        offset_says counted computes t there other_id =
            let one = is_sender r here in
            let other = is_sender t there in
            let heard = computes.heard other.0 other.1.slot (index_of x.params t) (keyed t there) other_id in
            let Says : ℕ → ℕ → ℤ → ℤ → Type 0 = λ a b action value. IsDeviation x.params true action (row_for odd.told.rows a) (row_for odd.told.rows b) value in
            record {
              says =
                  said_weaker (told_offsets x even odd one.0 (index_of x.params t)) (Says one.0.id other.0.id (pos (action_point_of x.params other.1.slot)))
                  (LiesIn (deviation_seen scale measuring r.course t.course))
                  (λ value says.
                  let Here : ℕ → Type 0 = λ a. Says a t.node t.course.action value in
                  let There : ℕ → Type 0 = λ b. Says one.0.id b t.course.action value in
                  let Action : ℤ → Type 0 = λ action. Says one.0.id other.0.id action value in
                  deviation_lies x.params l.drift (clock (run_double base double)) sane within counted flutter (seen_in even odd r) (seen_in even odd t) value
                  (on_course r here).on (on_course t there).on
                  (subst Here (sym one.1.id) (subst There (sym other.1.id) (subst Action (sym other.1.acts) says))))
                  heard.says;
              carried = heard.carried;
            }

        pub offset_lies : ValuesAreCounted → ComputesOffset x (run_double base double) even odd (is_sender r here).0 → OffsetIsComputed x l odd (log_senders x l double) lost r
        offset_lies counted computes =
            let one = is_sender r here in
            let box : Sender → Interval = λ t. deviation_seen scale measuring r.course t.course in
            let further = further_of x.params (log_senders x l double) in
            let lies =
            own_lies (told_offsets x even odd one.0) box (row_for odd.told.rows one.0.id).offset computes.keyed (computes.own one.1.slot (index_of x.params r) (keyed r here)) (offset_says counted computes)
            computes.applied in
            let At : List Interval → ℕ → Type 0 = λ known n. IfSome (middle further lost (own_value ∷ known)) (λ m. IsBetween m.low m.high (row_for odd.told.rows n).offset) in
            let Known : List Interval → Type 0 = λ known. At known r.node in
            subst Known (sym (map-map (deviation_seen scale measuring r.course) (λ (t : Sender). t.course) others)) (subst (At (map box others)) (sym one.1.id) lies)

        -- ---- rates

        rate_says : ValuesAreCounted → ValuesArePlaced → ComputesRate x flutter h (run_double base double) even odd (is_sender r here).0
            → Heard_in (told_rates x even odd (is_sender r here).0) (λ t. rate_value_seen scale measuring r.course t.course)
        rate_says counted placed computes t there other_id =
            let one = is_sender r here in
            let other = is_sender t there in
            let told = told_sender x even odd other.0 other.1.slot in
            let heard = computes.heard other.0 other.1.slot (index_of x.params t) (keyed t there) other_id in
            let Says : ℕ → ℤ → Type 0 = λ a value. PlacesEven x.params flutter told (row_for odd.told.rows a) value in
            let made : ℕ → ℤ → Rows = λ n action. record { even = row_for even.told.rows n; odd = row_for odd.told.rows n; action = action } in
            record {
              says =
                  said_weaker (told_rates x even odd one.0 (index_of x.params t)) (Says one.0.id) (LiesIn (rate_value_seen scale measuring r.course t.course))
                  (λ value says.
                  let Here : ℕ → Type 0 = λ a. Says a value in
                  rate_value_lies x.params l.drift (clock (run_double base double)) sane within counted placed flutter (seen_in even odd r) (seen_in even odd t) told value
                  (on_course r here).on (on_course t there).on (ap₂ made (sym other.1.id) (sym other.1.acts)) (subst Here (sym one.1.id) says))
                  heard.says;
              carried = heard.carried;
            }

        damping_is : x.params.damping ≡ (measuring_of x.params (stated_flutter x.params l)).damping
        damping_is = let range = sane.ranges name.pClusterDriftDamping in natural x.params.damping (omega (arith, ints, range.0))

        pub rate_lies : ValuesAreCounted → ValuesArePlaced → ComputesRate x flutter h (run_double base double) even odd (is_sender r here).0 → (next_even next_odd : Cycle)
            → HasDouble h (suc (run_double base double)) next_even next_odd → RateIsComputed x l odd next_even (log_senders x l double) lost r
        rate_lies counted placed computes next_even next_odd next =
            let one = is_sender r here in
            let box : Sender → Interval = λ t. rate_value_seen scale measuring r.course t.course in
            let further = further_of x.params (log_senders x l double) in
            let lies =
            own_lies (told_rates x even odd one.0) box computes.middle computes.keyed (computes.own one.1.slot (index_of x.params r) (keyed r here)) (rate_says counted placed computes) computes.is_middle in
            let Known : List Interval → Type 0 = λ known. IfSome (middle further lost (own_value ∷ known)) (λ m. IsBetween m.low m.high computes.middle) in
            let known = subst Known (sym (map-map (rate_value_seen scale measuring r.course) (λ (t : Sender). t.course) others)) lies in
            let Near : ℤ → ℕ → Type 0 = λ d n. IsWithin d (((row_for next_even.told.rows n).rate -ℤ (row_for odd.told.rows n).rate) -ℤ computes.middle) in
            let near = subst (Near measuring.damping) (sym one.1.id) (subst (λ d. Near d one.0.id) damping_is (computes.grown next_even next_odd next)) in
            widened measuring.damping (middle further lost (own_value ∷ map (rate_value_seen scale measuring r.course) (other_courses (log_senders x l double) r.node))) computes.middle
            ((row_for next_even.told.rows r.node).rate -ℤ (row_for odd.told.rows r.node).rate) near known

      -- ---- its node

      -- it is the one of its number
      own_node : (node : NodeSpec) → Contains (correct_nodes x) node → node.id ≡ r.node → node ≡ (is_sender r here).0
      own_node node correct same =
          let one = is_sender r here in
          let p = x.params in
          let nodes : Some node ≡ Some one.0 =
          sym (node_there p node sane (correct_node x node correct).there) ∙ ap (node_of p) (same ∙ one.1.id) ∙ node_there p one.0 sane one.1.there in
          cc nodes

      pub misses_own : (lost : ℕ) (node : NodeSpec) → Contains (correct_nodes x) node → node.id ≡ r.node → MissesFew x (run_double base double) lost node
          → MissesFew x (run_double base double) lost (is_sender r here).0
      misses_own lost node correct same misses = subst (MissesFew x (run_double base double) lost) (own_node node correct same) misses

      pub own_row : HasRowIn x even (is_sender r here).0
      own_row = (keyed r here).has
