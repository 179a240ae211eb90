-- The step of a double cycle in which lists meet: two nodes that have enough senders in common come half as near.
use Rattle.std.proofs.Common.{◌≡◌, ℕ, ◌+◌, ◌*◌, ◌≤◌, true, ℤ, pos, List, [], ◌∷◌, ◌++◌, length, All, refl, arith}
use Rattle.std.specs.Prelude.{◌+ℤ◌, ◌-ℤ◌, ◌*ℤ◌, ◌≤ℤ◌}
use Rattle.std.proofs.lemmas.Int.{ints}
use Rattle.std.proofs.lemmas.List.{length-append}
use Rattle.std.proofs.lemmas.List.Elements.{All-append, All-cons, All-head, All-nil, All-tail}
use Rattle.fr_base.specs.declared.node_row.NodeRow.{NodeRow}
use Rattle.fr_base.specs.Within.{IsBetween, IsWithin}
use Rattle.fr_cluster.specs.Values.{Values, amount}
use Rattle.fr_cluster.specs.Sane.{IsSane}
use Rattle.fr_cluster.specs.declared.names.ParamName.TheVariants as name
use Rattle.fr_midpoint.specs.Midpoint.{discarded}
use Rattle.fr_midpoint.specs.Receivers.{place_at}
use Rattle.fr_bound.specs.Bounds.{arrival_error, cycle_change, longest_micro}
use Rattle.fr_bound.specs.SharpBounds.{odd_spread, sharp_lambda, steady_error, wide_change}
use Rattle.fr_bound.specs.Sync.{cycle_length_of}
use Rattle.fr_precision.specs.Rows.{corrected_end_of, Sender}
use Rattle.fr_precision.specs.Instants.{LieNear}
use Rattle.fr_precision.specs.Offsets.{IsDeviation, IsOffsetRound}
use Rattle.fr_precision.specs.Step.{IsAmong, Member}
use Rattle.fr_precision.proofs.OffsetLaws.{micro_lasts}
use Rattle.fr_precision.specs.Ends.{EndsCome, TakesOffsets}
use Rattle.fr_precision.specs.Lengths.{CanWalk, EvensAreAbout, IsNextEven, IsSteadyRound, LengthsCome}
use Rattle.fr_precision.specs.Steady.{between_actions, placed_length, PlacesEven}
use Rattle.fr_precision.specs.SharpStep.{ActInReach, IsSharpLimit}
use Rattle.fr_precision.proofs.AmongSteps.{sends, two, widen}
use Rattle.fr_precision.proofs.EndLemmas.{beside_ends, corrected, cross_value, ends_at, pair_of, same_value}
use Rattle.fr_precision.proofs.LengthLemmas.{beside_sum, cross_sum, damping_is, far_of, far_to, next_near, rates_at, round_of, same_sum}
use Rattle.fr_precision.proofs.MeetingReceivers.{two_meeting, Meet}
use Rattle.fr_precision.proofs.StepLemmas.{senders_about, Double}

-- ---- a list and its parts

front : {X : Type 0} (P : X → Type 0) (xs ys : List X) → All P (xs ++ ys) → All P xs
front P [] ys all = All-nil P
front P (x ∷ xs) ys all = All-cons P x xs (All-head P x (xs ++ ys) all) (front P xs ys (All-tail P x (xs ++ ys) all))

back : {X : Type 0} (P : X → Type 0) (xs ys : List X) → All P (xs ++ ys) → All P ys
back P [] ys all = all
back P (x ∷ xs) ys all = back P xs ys (All-tail P x (xs ++ ys) all)

-- what holds of all holds of those of one node, and of those of the other
pub of_one : {X : Type 0} (P : X → Type 0) (common own other : List X) → All P (common ++ (own ++ other)) → All P (common ++ own)
of_one P common own other all =
    All-append P common own (front P common (own ++ other) all) (front P own other (back P common (own ++ other) all))

pub of_other : {X : Type 0} (P : X → Type 0) (common own other : List X) → All P (common ++ (own ++ other)) → All P (common ++ other)
of_other P common own other all =
    All-append P common other (front P common (own ++ other) all) (back P own other (back P common (own ++ other) all))

pub some_of : {X : Type 0} (k k' : ℕ) (common own : List X) → k + k' + 1 ≤ length common → 1 ≤ length (common ++ own)
some_of k k' common own enough = omega (arith, length-append common own, enough)

module _
    (p : Values) (flutter : ℕ) (nodes : List Member) (starts lengths : ℕ) (beyond walk reach last : ℤ)
    (is : IsSharpLimit p flutter beyond walk reach last) (acting : ActInReach p reach last nodes) (double : Double p starts lengths beyond nodes)
    (one other : Member) where
  near_two : (x y : Sender) → IsAmong nodes x → IsAmong nodes y → LieNear p (pos starts) (pos lengths) (pos (odd_spread p lengths)) x.even x.odd y.even y.odd
  near_two x y among also = two p flutter nodes starts lengths beyond walk reach last is acting double x y among also

  -- ---- lengths

  module _
      (common own other_own : List Sender)
      (among : All (IsAmong nodes) (common ++ own)) (also_among : All (IsAmong nodes) (common ++ other_own))
      (enough : discarded (length one.rates) + discarded (length other.rates) + 1 ≤ length common)
      (round : IsSteadyRound p flutter (common ++ own) one.odd one.rates one.rate_term)
      (also : IsSteadyRound p flutter (common ++ other_own) other.odd other.rates other.rate_term) where
    lengths_meet : Meet (IsAmong nodes) (λ (sender : Sender) value. PlacesEven p flutter sender one.odd value) (λ (sender : Sender) value. PlacesEven p flutter sender other.odd value)
        common own other_own (pos (2 * steady_error p flutter)) (pos lengths +ℤ pos (2 * steady_error p flutter)) (pos (longest_micro p)) (rates_at p one.odd one.rates) (rates_at p other.odd other.rates)
    lengths_meet = record {
      lasts = (micro_lasts p one.odd is.sane round.micro).some;
      also_lasts = (micro_lasts p other.odd is.sane also.micro).some;
      short = round.micro.most;
      also_short = also.micro.most;
      holds = among;
      also_holds = also_among;
      hears = round.hears;
      also_hears = also.hears;
      each = λ x v u is_among places also_places.
          same_sum (steady_error p flutter) (placed_length p one.odd v) (placed_length p other.odd u) (between_actions p x) places.actions also_places.actions;
      all = λ x y v u is_among is_also places also_places.
          cross_sum (pos lengths) (far_of p flutter one.odd) (far_of p flutter other.odd) (steady_error p flutter) (placed_length p one.odd v) (placed_length p other.odd u)
          (cycle_length_of p x.even) (cycle_length_of p y.even)
          (far_to flutter (wide_change p) (amount p name.xRateBound) one.odd.length round.micro.most) (far_to flutter (wide_change p) (amount p name.xRateBound) other.odd.length also.micro.most)
          (near_two x y is_among is_also).by_even places.length also_places.length;
      enough = enough;
    }

    pub lengths_come : (even other_even : NodeRow) → IsNextEven p one.odd one.rate_term even → IsNextEven p other.odd other.rate_term other_even
        → LengthsCome true p flutter (pos lengths) (cycle_length_of p even -ℤ cycle_length_of p other_even)
    lengths_come even other_even after other_after =
        let some = some_of (discarded (length one.rates)) (discarded (length other.rates)) common own enough in
        let also_some = some_of (discarded (length one.rates)) (discarded (length other.rates)) common other_own enough in
        let first = round_of p flutter (common ++ own) beyond walk (beyond +ℤ walk) one.odd one.rates one.rate_term is.sane is.walks (itself (beyond +ℤ walk)) some
        (senders_about p starts lengths beyond nodes (common ++ own) double among) round in
        let second = round_of p flutter (common ++ other_own) beyond walk (beyond +ℤ walk) other.odd other.rates other.rate_term is.sane is.walks (itself (beyond +ℤ walk)) also_some
        (senders_about p starts lengths beyond nodes (common ++ other_own) double also_among) also in
        beside_sum (pos lengths) (steady_error p flutter) (longest_micro p) (amount p name.pClusterDriftDamping * longest_micro p) (cycle_change p) (p.damping *ℤ pos (longest_micro p))
        (place_at (rates_at p one.odd one.rates) first.mid) (cycle_length_of p even) (place_at (rates_at p other.odd other.rates) second.mid) (cycle_length_of p other_even) (damping_is p is.sane)
        (
        two_meeting (IsAmong nodes) (λ (sender : Sender) value. PlacesEven p flutter sender one.odd value) (λ (sender : Sender) value. PlacesEven p flutter sender other.odd value)
        common own other_own (pos (2 * steady_error p flutter)) (pos lengths +ℤ pos (2 * steady_error p flutter)) (pos (longest_micro p)) (rates_at p one.odd one.rates) (rates_at p other.odd other.rates)
        first.mid second.mid lengths_meet first.middle second.middle
        )
        (next_near p one.odd one.rates one.rate_term (beyond +ℤ walk) even is.sane round.micro first after) (next_near p other.odd other.rates other.rate_term (beyond +ℤ walk) other_even is.sane also.micro second other_after)
      where
        itself : (a : ℤ) → a ≤ℤ a
        itself a = omega (arith, ints)

  -- ---- ends

  -- a sender is one of the nodes, and acts up to the last macrotick
  IsEarly : Sender → Type 0
  IsEarly sender = IsAmong nodes sender × IsBetween (pos 0) last sender.action

  -- both receivers' odd lengths lie so near those of each of the nodes, and to each other
  module _
      (odds : ℕ) (further : odd_spread p lengths ≤ odds)
      (one_odds : (sender : Sender) → IsAmong nodes sender → IsWithin (pos odds) (cycle_length_of p one.odd -ℤ cycle_length_of p sender.odd))
      (other_odds : (sender : Sender) → IsAmong nodes sender → IsWithin (pos odds) (cycle_length_of p other.odd -ℤ cycle_length_of p sender.odd))
      (near_odd : IsWithin (pos odds) (cycle_length_of p one.odd -ℤ cycle_length_of p other.odd))
      (common own other_own : List Sender)
      (among : All (IsAmong nodes) (common ++ own)) (also_among : All (IsAmong nodes) (common ++ other_own))
      (acts : All (λ sender. IsBetween (pos 0) last sender.action) (common ++ own)) (also_acts : All (λ sender. IsBetween (pos 0) last sender.action) (common ++ other_own))
      (enough : discarded (length one.offsets) + discarded (length other.offsets) + 1 ≤ length common)
      (takes : TakesOffsets p (common ++ own) reach (pos odds) one.odd one.offsets one.offset_term)
      (also_takes : TakesOffsets p (common ++ other_own) reach (pos odds) other.odd other.offsets other.offset_term) where
    round : IsOffsetRound p (common ++ own) one.odd one.offsets one.offset_term
    round = takes.round

    also : IsOffsetRound p (common ++ other_own) other.odd other.offsets other.offset_term
    also = also_takes.round

    ends_meet : Meet IsEarly (λ (sender : Sender) value. IsDeviation p true sender.action one.odd sender.odd value) (λ (sender : Sender) value. IsDeviation p true sender.action other.odd sender.odd value)
        common own other_own (pos odds +ℤ pos (2 * arrival_error p + 2 * longest_micro p))
        (((pos starts +ℤ pos lengths) +ℤ pos odds) +ℤ pos (2 * arrival_error p + 3 * longest_micro p)) (pos (longest_micro p)) (ends_at p one.odd one.offsets) (ends_at p other.odd other.offsets)
    unfolding IsEarly
    ends_meet = record {
      lasts = (micro_lasts p one.odd is.sane round.micro).some;
      also_lasts = (micro_lasts p other.odd is.sane also.micro).some;
      short = round.micro.most;
      also_short = also.micro.most;
      holds = λ i d short. (among i d short, acts i d short);
      also_holds = λ i d short. (also_among i d short, also_acts i d short);
      hears = round.hears;
      also_hears = also.hears;
      each = λ x v u early dev also_dev.
          same_value p (common ++ own) (common ++ other_own) (pos odds) one.odd other.odd one.offsets other.offsets one.offset_term other.offset_term x v u is.sane round also near_odd
          (sends p flutter nodes starts lengths beyond walk reach last is acting double x early.0 early.1) dev also_dev;
      all = λ x y v u early also_early dev also_dev.
          let near = near_two x y early.0 also_early.0 in
          cross_value p (common ++ own) (common ++ other_own) (pos starts) (pos lengths) (pos odds) one.odd other.odd one.offsets other.offsets one.offset_term other.offset_term x y v u is.sane
          round also near_odd
          (
          pair_of p (pos starts) (pos lengths) (pos odds) one.odd other.odd x y
          (sends p flutter nodes starts lengths beyond walk reach last is acting double x early.0 early.1) (sends p flutter nodes starts lengths beyond walk reach last is acting double y also_early.0 also_early.1)
          near.by_start near.by_even (widen (odd_spread p lengths) odds (cycle_length_of p x.odd -ℤ cycle_length_of p y.odd) further near.by_odd)
          (one_odds y also_early.0) (other_odds x early.0)
          )
          dev also_dev;
      enough = enough;
    }

    pub ends_come : EndsCome true p (pos starts) (pos lengths) (pos odds) (corrected_end_of p one.odd -ℤ corrected_end_of p other.odd)
    unfolding IsEarly
    ends_come =
        let some = some_of (discarded (length one.offsets)) (discarded (length other.offsets)) common own enough in
        let also_some = some_of (discarded (length one.offsets)) (discarded (length other.offsets)) common other_own enough in
        let first = corrected p (common ++ own) reach (pos odds) one.odd one.offsets one.offset_term is.sane some takes in
        let second = corrected p (common ++ other_own) reach (pos odds) other.odd other.offsets other.offset_term is.sane also_some also_takes in
        beside_ends (pos starts) (pos lengths) (pos odds) (arrival_error p) (longest_micro p)
        (corrected_end_of p one.odd) (place_at (ends_at p one.odd one.offsets) first.mid) (corrected_end_of p other.odd) (place_at (ends_at p other.odd other.offsets) second.mid) first.is second.is
        (
        two_meeting IsEarly (λ (sender : Sender) value. IsDeviation p true sender.action one.odd sender.odd value) (λ (sender : Sender) value. IsDeviation p true sender.action other.odd sender.odd value)
        common own other_own (pos odds +ℤ pos (2 * arrival_error p + 2 * longest_micro p))
        (((pos starts +ℤ pos lengths) +ℤ pos odds) +ℤ pos (2 * arrival_error p + 3 * longest_micro p)) (pos (longest_micro p)) (ends_at p one.odd one.offsets) (ends_at p other.odd other.offsets)
        first.mid second.mid ends_meet first.middle second.middle
        )

-- ---- a node and itself

-- two next even cycles of one node differ by what its damping and its changes leave
itself_sum : (l b n e q cq j : ℕ) (c u v w : ℤ) → pos cq ≡ c → l + b ≤ 2 * n + 1 → b ≡ 4 * e + 2 * q + 4 * cq + 4 * j
    → IsWithin (c +ℤ pos j) (u -ℤ v) → IsWithin (c +ℤ pos j) (u -ℤ w) → IsWithin (pos n) (v -ℤ w)
itself_sum l b n e q cq j c u v w is le sum near also = record {
  low = omega (arith, ints, is, le, sum, near.low, near.high, also.low, also.high);
  high = omega (arith, ints, is, le, sum, near.low, near.high, also.low, also.high);
}

pub none_apart : (n : ℕ) (x : ℤ) → IsWithin (pos n) (x -ℤ x)
none_apart n x = record { low = omega (arith, ints); high = omega (arith, ints) }

pub lengths_itself : (p : Values) (flutter : ℕ) (senders : List Sender) (lengths next_lengths : ℕ) (beyond walk : ℤ) (one : Member) (even other_even : NodeRow)
    → IsSane p → CanWalk p flutter beyond walk → lengths + sharp_lambda true p flutter ≤ 2 * next_lengths + 1 → 1 ≤ length senders → EvensAreAbout p beyond senders
    → IsSteadyRound p flutter senders one.odd one.rates one.rate_term → IsNextEven p one.odd one.rate_term even → IsNextEven p one.odd one.rate_term other_even
    → IsWithin (pos next_lengths) (cycle_length_of p even -ℤ cycle_length_of p other_even)
lengths_itself p flutter senders lengths next_lengths beyond walk one even other_even sane walks le some about round after other_after =
    let is = round_of p flutter senders beyond walk (beyond +ℤ walk) one.odd one.rates one.rate_term sane walks (itself (beyond +ℤ walk)) some about round in
    itself_sum lengths (sharp_lambda true p flutter) next_lengths (steady_error p flutter) (longest_micro p) (amount p name.pClusterDriftDamping * longest_micro p) (cycle_change p) (p.damping *ℤ pos (longest_micro p))
    (place_at (rates_at p one.odd one.rates) is.mid) (cycle_length_of p even) (cycle_length_of p other_even) (damping_is p sane) le refl
    (next_near p one.odd one.rates one.rate_term (beyond +ℤ walk) even sane round.micro is after) (next_near p one.odd one.rates one.rate_term (beyond +ℤ walk) other_even sane round.micro is other_after)
  where
    itself : (a : ℤ) → a ≤ℤ a
    itself a = omega (arith, ints)
