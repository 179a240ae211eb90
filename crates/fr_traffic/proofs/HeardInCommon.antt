-- What two receivers have in common: the values of each are those of common senders and of others, and where their lists meet the common
-- ones are more than both discard.
use Rattle.std.proofs.Common.{◌≡◌, ◌⊎◌, ℕ, ◌+◌, ◌≤◌, ◌<◌, ◌&&◌, Bool, true, false, not, ℤ, pos, Option, Some, None, List, [], ◌∷◌, ◌++◌, All, map, length, refl, sym, ◌∙◌, subst, inl, inr, arith, if◌then◌else◌}
use Rattle.std.specs.Prelude.{IsPermutation, is_some, nat_lt}
use Rattle.std.specs.List.{AllZip, cons_option, filter_map, range_with_len}
use Rattle.std.proofs.lemmas.Bool.{and_parts}
use Rattle.std.proofs.lemmas.Bool.Decides.{nat_tests}
use Rattle.std.proofs.lemmas.List.Elements.{All-append}
use Rattle.std.proofs.lemmas.List.Sorted.{IsPermutation-append_left, IsPermutation-cons, IsPermutation-middle, IsPermutation-refl, IsPermutation-trans}
use Rattle.fr_base.specs.Within.{IsBetween}
use Rattle.fr_cluster.specs.Sane.{IsSane}
use Rattle.fr_cluster.specs.Setting.{Setting}
use Rattle.fr_cluster.specs.declared.nodes.NodeSpec.{NodeSpec}
use Rattle.fr_time.proofs.Keys.{key_node_is}
use Rattle.fr_midpoint.specs.Midpoint.{discarded}
use Rattle.fr_midpoint.specs.Receivers.{Hears}
use Rattle.fr_measure.specs.Values.{offset_at, rate_at, values_of}
use Rattle.fr_correct.proofs.There.{offset_term_is_there, rate_term_is_there}
use Rattle.fr_precision.specs.Offsets.{IsDeviation}
use Rattle.fr_precision.specs.Round.{offsets_of, rates_of, sender_at, Hearer, IsRound, Round}
use Rattle.fr_precision.specs.Rows.{Sender}
use Rattle.fr_precision.specs.Step.{IsAmong}
use Rattle.fr_precision.proofs.Counting.{count_le}
use Rattle.fr_precision.proofs.Parting.{filter_map_counts}
use Rattle.fr_precision.proofs.RoundSenders.{sender_is, IsFrom}
use Rattle.fr_history.specs.Cycles.{Cycle, Cycles}
use Rattle.fr_runs.specs.Gathered.{round_at}
use Rattle.fr_runs.proofs.Fed.{row_receivers}
use Rattle.fr_runs.proofs.Hearing.{hearer_from, IsReceiver, Receivers, RowsSend}
use Rattle.fr_bound.specs.SharpBounds.{last_action}
use Rattle.fr_precision.specs.Among.{CommonOffsets, CommonRates}
use Rattle.fr_traffic.specs.RoundsInPart.{heard_at, IsSuppliedInPart, IsTrustedOf}
use Rattle.fr_precision.specs.SharpRound.{as_member}
use Rattle.fr_precision.specs.Steady.{PlacesEven}
use Rattle.fr_traffic.specs.Traffic.{common_count, has_value, is_correct_sender, most_count, stays, traffic_of, two_meet}
use Rattle.fr_runs.proofs.KeyedCounts.{discards_more, is_passed, passes_at, passes_is, IsPassed}
use Rattle.fr_traffic.proofs.HeardInPart.{offsets_heard, rates_heard, HaveSenders}
use Rattle.fr_traffic.proofs.HeardAtMost.{most_values, row_owned}
use Rattle.fr_traffic.proofs.HeardSurely.{row_owns, senders_counted, surely_heard, value_by, ReceivesOwn}
use Rattle.fr_precision.proofs.RoundLemmas.{acts_early, all_given, sender_among}

-- ---- the values of some senders, split in two

zip_both : {X Y : Type 0} (R : X → Y → Type 0) (xs us : List X) (ys vs : List Y) → AllZip R xs ys → AllZip R us vs → AllZip R (xs ++ us) (ys ++ vs)
zip_both R [] us [] vs one other = other
zip_both R [] us (y ∷ ys) vs one other = absurd one
zip_both R (x ∷ xs) us [] vs one other = absurd one
zip_both R (x ∷ xs) us (y ∷ ys) vs one other = (one.0, zip_both R xs us ys vs one.1 other)

record IsSplit (X : Type 0) (Says : X → ℤ → Type 0) (senders others : List X) (said : List ℤ) : Type 0 where
  front : List ℤ
  back : List ℤ
  front_said : AllZip Says senders front
  back_said : AllZip Says others back
  moved : IsPermutation (front ++ back) said

-- what is at an index is in one of both parts
abbrev InOne : {X : Type 0} → Option X → Option X → Option X → Type 0
InOne who one other = ((one ≡ who) × (other ≡ None)) ⊎ ((one ≡ None) × (other ≡ who))

module _ (X : Type 0) (Says : X → ℤ → Type 0) (who one other : ℕ → Option X) (parts : (i : ℕ) → InOne (who i) (one i) (other i)) where
  split_at : (is : List ℕ) (said : List ℤ) (o a b : Option X) → InOne o a b → ((rest : List ℤ) → AllZip Says (filter_map who is) rest → IsSplit X Says (filter_map one is) (filter_map other is) rest)
      → AllZip Says (cons_option o (filter_map who is)) said → IsSplit X Says (cons_option a (filter_map one is)) (cons_option b (filter_map other is)) said
  split_at is said None a b in_one split zip = elim in_one [
    | inl first ↦ subst (λ (v : Option X × Option X). IsSplit X Says (cons_option v.0 (filter_map one is)) (cons_option v.1 (filter_map other is)) said) {x = (None, None)} {y = (a, b)}
        (λ i. (sym first.0 i, sym first.1 i)) (split said zip)
    | inr second ↦ subst (λ (v : Option X × Option X). IsSplit X Says (cons_option v.0 (filter_map one is)) (cons_option v.1 (filter_map other is)) said) {x = (None, None)} {y = (a, b)}
        (λ i. (sym second.0 i, sym second.1 i)) (split said zip)
  ]
  split_at is [] (Some x) a b in_one split zip = absurd zip
  split_at is (v ∷ said) (Some x) a b in_one split zip =
      let rest = split said zip.1 in
      elim in_one [
        | inl first ↦ subst (λ (o : Option X × Option X). IsSplit X Says (cons_option o.0 (filter_map one is)) (cons_option o.1 (filter_map other is)) (v ∷ said)) {x = (Some x, None)} {y = (a, b)}
            (λ i. (sym first.0 i, sym first.1 i))
            (record {
              front = v ∷ rest.front;
              back = rest.back;
              front_said = (zip.0, rest.front_said);
              back_said = rest.back_said;
              moved = IsPermutation-cons v (rest.front ++ rest.back) said rest.moved;
            })
        | inr second ↦ subst (λ (o : Option X × Option X). IsSplit X Says (cons_option o.0 (filter_map one is)) (cons_option o.1 (filter_map other is)) (v ∷ said)) {x = (None, Some x)} {y = (a, b)}
            (λ i. (sym second.0 i, sym second.1 i))
            (record {
              front = rest.front;
              back = v ∷ rest.back;
              front_said = rest.front_said;
              back_said = (zip.0, rest.back_said);
              moved =
                  IsPermutation-trans (rest.front ++ v ∷ rest.back) (v ∷ (rest.front ++ rest.back)) (v ∷ said) (IsPermutation-middle rest.front v rest.back)
                  (IsPermutation-cons v (rest.front ++ rest.back) said rest.moved);
            })
      ]

  split : (is : List ℕ) (said : List ℤ) → AllZip Says (filter_map who is) said → IsSplit X Says (filter_map one is) (filter_map other is) said
  split [] [] zip = record { front = []; back = []; front_said = tt; back_said = tt; moved = IsPermutation-refl [] }
  split [] (v ∷ said) zip = absurd zip
  split (i ∷ is) said zip = split_at is said (who i) (one i) (other i) (parts i) (λ rest zipped. split is rest zipped) zip

  hears_both : (is : List ℕ) (values : List ℤ) → Hears X Says (filter_map who is) values → Hears X Says (filter_map one is ++ filter_map other is) values
  hears_both is values hears =
      let two = split is hears.said hears.each in
      record {
        said = two.front ++ two.back;
        further = hears.further;
        parts =
            IsPermutation-trans ((two.front ++ two.back) ++ hears.further) (hears.said ++ hears.further) values
            (IsPermutation-append_left hears.further (two.front ++ two.back) hears.said two.moved) hears.parts;
        few = hears.few;
        each = zip_both Says (filter_map one is) (filter_map other is) two.front two.back two.front_said two.back_said;
      }

-- ---- two receivers of a round

-- the senders of whom both have a value, and those of whom only the first has one
pub both_at : Round → (ℕ → Option ℤ) → (ℕ → Option ℤ) → ℕ → Option Sender
both_at r at other index = if is_some (at index) && is_some (other index) then sender_at r index else None

alone_at : Round → (ℕ → Option ℤ) → (ℕ → Option ℤ) → ℕ → Option Sender
alone_at r at other index = if is_some (at index) && not (is_some (other index)) then sender_at r index else None

abbrev of : (ℕ → Option Sender) → List Sender
of who = filter_map who (range_with_len 0 15)

in_one : (r : Round) (at other : ℕ → Option ℤ) (index : ℕ) → InOne (heard_at r at index) (both_at r at other index) (alone_at r at other index)
unfolding both_at alone_at
in_one r at other index = by (is_some (at index)) (is_some (other index)) (sender_at r index)
  where
    by : (a b : Bool) (o : Option Sender) → InOne (if a then o else None) (if a && b then o else None) (if a && not b then o else None)
    by true true o = inl (refl, refl)
    by true false o = inr (refl, refl)
    by false b o = inl (refl, refl)

in_other : (r : Round) (at other : ℕ → Option ℤ) (index : ℕ) → InOne (heard_at r other index) (both_at r at other index) (alone_at r other at index)
unfolding both_at alone_at
in_other r at other index = by (is_some (at index)) (is_some (other index)) (sender_at r index)
  where
    by : (a b : Bool) (o : Option Sender) → InOne (if b then o else None) (if a && b then o else None) (if b && not a then o else None)
    by true true o = inl (refl, refl)
    by false true o = inr (refl, refl)
    by true false o = inl (refl, refl)
    by false false o = inl (refl, refl)

kept : (b : Bool) (o : Option Sender) (sender : Sender) → (if b then o else None) ≡ Some sender → o ≡ Some sender
kept true o sender is = is
kept false o sender is = let e : None ≡ Some sender = is in absurd (cc)

-- what holds of each sender holds of all of these
all_three : (r : Round) (at other : ℕ → Option ℤ) (P : Sender → Type 0) → ((index : ℕ) (sender : Sender) → IsFrom r index sender → P sender)
    → All P (of (both_at r at other) ++ (of (alone_at r at other) ++ of (alone_at r other at)))
unfolding both_at alone_at
all_three r at other P each =
    All-append P (of (both_at r at other)) (of (alone_at r at other) ++ of (alone_at r other at))
    (given (both_at r at other) (λ index sender some. kept (is_some (at index) && is_some (other index)) (sender_at r index) sender some))
    (
    All-append P (of (alone_at r at other)) (of (alone_at r other at))
    (given (alone_at r at other) (λ index sender some. kept (is_some (at index) && not (is_some (other index))) (sender_at r index) sender some))
    (given (alone_at r other at) (λ index sender some. kept (is_some (other index) && not (is_some (at index))) (sender_at r index) sender some))
    )
  where
    given : (who : ℕ → Option Sender) → ((index : ℕ) (sender : Sender) → who index ≡ Some sender → sender_at r index ≡ Some sender) → All P (of who)
    given who from = all_given who P (range_with_len 0 15) (λ index sender some. each index sender (sender_is r index sender (from index sender some)))

-- the lists of two receivers have more senders in common than both discard
abbrev pub Enough : Round → (ℕ → Option ℤ) → (ℕ → Option ℤ) → Type 0
Enough r at other = discarded (length (values_of at)) + discarded (length (values_of other)) + 1 ≤ length (of (both_at r at other))

pub common_offsets : (r : Round) (flutter : ℕ) (rows : List Hearer) (n m : Hearer) → IsRound r → HaveSenders r rows → IsSuppliedInPart r flutter n → IsSuppliedInPart r flutter m
    → IsTrustedOf r (offset_at n.look n.own) → IsTrustedOf r (offset_at m.look m.own) → Enough r (offset_at n.look n.own) (offset_at m.look m.own)
    → CommonOffsets r.params (map (as_member r.params) rows) (pos (last_action r.params)) (as_member r.params n) (as_member r.params m)
common_offsets r flutter rows n m is among one two trusted other_trusted enough =
    let p = r.params in
    let nodes = map (as_member p) rows in
    let offsets = offset_at n.look n.own in
    let other_offsets = offset_at m.look m.own in
    let range = range_with_len 0 15 in
    let Deviates = λ (k : Hearer) (sender : Sender) (value : ℤ). IsDeviation p true sender.action k.odd sender.odd value in
    record {
      common = of (both_at r offsets other_offsets);
      own = of (alone_at r offsets other_offsets);
      other_own = of (alone_at r other_offsets offsets);
      among = all_three r offsets other_offsets (IsAmong nodes) (sender_among r rows among);
      acts = all_three r offsets other_offsets (λ (sender : Sender). IsBetween (pos 0) (pos (last_action p)) sender.action) (acts_early r is.sane);
      enough = enough;
      round = record {
        micro = one.regular.odd_micro;
        hears =
            hears_both Sender (Deviates n) (heard_at r offsets) (both_at r offsets other_offsets) (alone_at r offsets other_offsets) (in_one r offsets other_offsets) range (offsets_of n)
            (offsets_heard r flutter n is one trusted);
        is_term = offset_term_is_there p.offset_limit (offsets_of n);
        applied = one.applied;
      };
      other_round = record {
        micro = two.regular.odd_micro;
        hears =
            hears_both Sender (Deviates m) (heard_at r other_offsets) (both_at r offsets other_offsets) (alone_at r other_offsets offsets) (in_other r offsets other_offsets) range (offsets_of m)
            (offsets_heard r flutter m is two other_trusted);
        is_term = offset_term_is_there p.offset_limit (offsets_of m);
        applied = two.applied;
      };
    }

pub common_rates : (r : Round) (flutter : ℕ) (rows : List Hearer) (n m : Hearer) → IsRound r → HaveSenders r rows → IsSuppliedInPart r flutter n → IsSuppliedInPart r flutter m
    → IsTrustedOf r (rate_at n.look n.own) → IsTrustedOf r (rate_at m.look m.own) → Enough r (rate_at n.look n.own) (rate_at m.look m.own)
    → CommonRates r.params flutter (map (as_member r.params) rows) (as_member r.params n) (as_member r.params m)
common_rates r flutter rows n m is among one two trusted other_trusted enough =
    let p = r.params in
    let nodes = map (as_member p) rows in
    let rates = rate_at n.look n.own in
    let other_rates = rate_at m.look m.own in
    let range = range_with_len 0 15 in
    let Places = λ (k : Hearer) (sender : Sender) (value : ℤ). PlacesEven p flutter sender k.odd value in
    record {
      common = of (both_at r rates other_rates);
      own = of (alone_at r rates other_rates);
      other_own = of (alone_at r other_rates rates);
      among = all_three r rates other_rates (IsAmong nodes) (sender_among r rows among);
      enough = enough;
      round = record {
        micro = one.regular.odd_micro;
        hears =
            hears_both Sender (Places n) (heard_at r rates) (both_at r rates other_rates) (alone_at r rates other_rates) (in_one r rates other_rates) range (rates_of n)
            (rates_heard r flutter n is one trusted);
        is_term = rate_term_is_there n.odd.rate p.damping p.rate_limit (rates_of n);
      };
      other_round = record {
        micro = two.regular.odd_micro;
        hears =
            hears_both Sender (Places m) (heard_at r other_rates) (both_at r rates other_rates) (alone_at r other_rates rates) (in_other r rates other_rates) range (rates_of m)
            (rates_heard r flutter m is two other_trusted);
        is_term = rate_term_is_there m.odd.rate p.damping p.rate_limit (rates_of m);
      };
    }

-- ---- two receivers of a double cycle, where their lists meet

module _
    (x : Setting) (h : Cycles) (even odd : Cycle) (double : ℕ) (reach : ℤ) (sending : RowsSend x h even odd double reach) (bs cs : Receivers) (b c : NodeSpec) (first : ReceivesOwn x h even odd reach bs b)
    (second : ReceivesOwn x h even odd reach cs c) where
  abbrev at : Bool → (ℕ → Option ℤ)
  at rate = value_by rate (hearer_from x bs b.id)

  abbrev other_at : Bool → (ℕ → Option ℤ)
  other_at rate = value_by rate (hearer_from x cs c.id)

  abbrev has : Bool → NodeSpec → NodeSpec → Bool
  has rate node sender = has_value rate true (traffic_of x) double node sender

  -- of each sender that stays on and that both surely have both have a value
  abbrev common : Bool → NodeSpec → Bool
  common rate sender = is_correct_sender (traffic_of x) sender && (stays (traffic_of x) sender && (has rate b sender && has rate c sender))

  both_heard : (rate : Bool) (index : ℕ) → passes_at x.params (common rate) index ≡ true → is_some (both_at (round_at x h even odd) (at rate) (other_at rate) index) ≡ true
  unfolding both_at
  both_heard rate index is =
      let one = surely_heard x h even odd double reach bs b sending first.is first.owns rate index (passes (has rate b) (has_both.0)) in
      let two = surely_heard x h even odd double reach cs c sending second.is second.owns rate index (passes (has rate c) (has_both.1)) in
      found (is_some (at rate index)) (is_some (other_at rate index)) (sender_at (round_at x h even odd) index) one.0 two.0 one.1
    where
      from : IsPassed x.params (common rate) index
      from = is_passed x.params (common rate) index sending.sane is

      correct : (is_correct_sender (traffic_of x) from.node ≡ true) × ((stays (traffic_of x) from.node && (has rate b from.node && has rate c from.node)) ≡ true)
      correct = and_parts (is_correct_sender (traffic_of x) from.node) (stays (traffic_of x) from.node && (has rate b from.node && has rate c from.node)) from.passes

      stays_there : (stays (traffic_of x) from.node ≡ true) × ((has rate b from.node && has rate c from.node) ≡ true)
      stays_there = and_parts (stays (traffic_of x) from.node) (has rate b from.node && has rate c from.node) correct.1

      has_both : (has rate b from.node ≡ true) × (has rate c from.node ≡ true)
      has_both = and_parts (has rate b from.node) (has rate c from.node) stays_there.1

      passes : (test : NodeSpec → Bool) → test from.node ≡ true → passes_at x.params (λ (a : NodeSpec). is_correct_sender (traffic_of x) a && (stays (traffic_of x) a && test a)) index ≡ true
      passes test is =
          passes_is x.params (λ (a : NodeSpec). is_correct_sender (traffic_of x) a && (stays (traffic_of x) a && test a)) index from.slot from.node from.slot_is
          (key_node_is x.params from.node from.slot sending.sane from.there from.key)
          ∙ all_pass (is_correct_sender (traffic_of x) from.node) (stays (traffic_of x) from.node) (test from.node) correct.0 stays_there.0 is
        where
          all_pass : (a b c : Bool) → a ≡ true → b ≡ true → c ≡ true → (a && (b && c)) ≡ true
          all_pass a b c one two three = rw (one, two, three) refl

      found : (a b : Bool) (o : Option Sender) → a ≡ true → b ≡ true → is_some o ≡ true → is_some (if a && b then o else None) ≡ true
      found true true o one two is = is
      found false b o one two is = absurd (cc)
      found true false o one two is = absurd (cc)

  pub enough_met : (rate : Bool) → two_meet rate (traffic_of x) double b c ≡ true → Enough (round_at x h even odd) (at rate) (other_at rate)
  enough_met rate is =
      let t = traffic_of x in
      let most =
      λ (rs : Receivers) (node : NodeSpec) (r : ReceivesOwn x h even odd reach rs node).
      most_values x h even odd double reach rs (λ n. ReceivesOwn x h even odd reach rs n) sending (λ n r. r.is) (λ n index r own. r.owned index own) rate node r in
      let discards = discards_more (length (values_of (at rate))) (most_count rate t double b) (most bs b first) in
      let also_discards = discards_more (length (values_of (other_at rate))) (most_count rate t double c) (most cs c second) in
      let senders = senders_counted x (λ a. stays t a && (has rate b a && has rate c a)) sending.sane in
      let heard = filter_map_counts (both_at (round_at x h even odd) (at rate) (other_at rate)) (range_with_len 0 15) in
      let within = less (discarded (most_count rate t double b) + discarded (most_count rate t double c)) (common_count rate t double b c) is in
      let le =
      count_le (passes_at x.params (common rate)) (λ i. is_some (both_at (round_at x h even odd) (at rate) (other_at rate) i)) (range_with_len 0 15)
      (λ index passes. both_heard rate index passes) in
      omega (arith, within, discards, also_discards, senders, heard, le)
    where
      less : (a b : ℕ) → nat_lt a b ≡ true → a < b
      less a b is = grind (arith, nat_tests)

-- a node with a row is one
pub row_receives : (x : Setting) (h : Cycles) (even odd : Cycle) (reach : ℤ) (node : NodeSpec) → IsSane x.params → IsReceiver x h even odd reach (row_receivers x h even odd) node
    → ReceivesOwn x h even odd reach (row_receivers x h even odd) node
row_receives x h even odd reach node sane is =
    record { is = is; owns = row_owns x h even odd node sane; owned = λ index own. row_owned x node index sane is.correct own }
