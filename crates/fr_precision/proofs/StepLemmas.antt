-- The sharper law of the step, from those of lengths, ends and instants.
use Rattle.std.proofs.Common.{◌≡◌, ℕ, ◌+◌, ◌*◌, ◌≤◌, Bool, true, false, ℤ, pos, List, length, map, All, refl, sym, subst, arith}
use Rattle.std.specs.Prelude.{◌+ℤ◌, ◌-ℤ◌, ◌*ℤ◌, ◌≤ℤ◌, Contains}
use Rattle.std.proofs.lemmas.Int.{ints}
use Rattle.std.proofs.lemmas.List.Elements.{All-contains, All-contains_itself, All-map}
use Rattle.fr_base.specs.declared.node_row.NodeRow.{NodeRow}
use Rattle.fr_base.specs.declared.state.State.TheVariants.{Active}
use Rattle.fr_base.specs.Within.{IsBetween, IsWithin, LieWithin}
use Rattle.fr_cluster.specs.Values.{Values}
use Rattle.fr_cluster.specs.Sane.{IsSane}
use Rattle.fr_time.specs.Position.{floor_of}
use Rattle.fr_bound.specs.Bounds.{arrival_error, cycle_change, longest_micro}
use Rattle.fr_bound.specs.Sync.{cycle_length_of, IsCycleLength}
use Rattle.fr_precision.specs.Rows.{corrected_end_of, longest_cycle, shortest_cycle, Sender}
use Rattle.fr_precision.specs.Instants.{gap_of, row_in, LieNear, Runs}
use Rattle.fr_precision.specs.Offsets.{IsSending}
use Rattle.fr_precision.specs.Placement.{IsRegular}
use Rattle.fr_precision.specs.Step.{IsAmong, IsFollowed, Member}
use Rattle.fr_precision.proofs.InstantLaws.{macroticks_lie_in_reach, wider}
use Rattle.fr_precision.proofs.OffsetLaws.{micro_lasts, offset_terms_are_uncut}
use Rattle.fr_precision.proofs.Senders.{All-along}
use Rattle.fr_precision.proofs.StepLaws.{all_lie, any_two, mapped_twice, same_apart, unmapped}
use Rattle.fr_bound.specs.SharpBounds.{last_action, near_by, odd_spread, sharp_lambda, sharp_pi, sharp_precision}
use Rattle.fr_precision.specs.Lengths.{EvensAreAbout, IsAboutCycle, IsNextEven, KeepSenders, LengthsCome}
use Rattle.fr_precision.specs.Ends.{EndsCome, SendApart}
use Rattle.fr_precision.specs.SharpStep.{ActInReach, ActionsLieInReach, AreSharp, ComputesSharply, DrawsTo, InSyncIsSharp, IsSharpDouble, IsSharpLimit, IsSharpReach, MacroticksStaySharp, NextIsInSharpSync, NextIsNear, NextIsSharp, ReceiversComeSharply, SharpIsWider, SharpSpreadsShrink, SharpSyncDraws, SharpSyncIsKept, SpreadsShrinkInReach, TakesSharply}
use Rattle.fr_precision.proofs.BoundLemmas.{sharp_checks_reach}
use Rattle.fr_precision.proofs.EndLemmas.{ends_come_near_lem}
use Rattle.fr_precision.proofs.LengthLemmas.{lengths_come_near_lem, range_walks}
use Rattle.fr_precision.proofs.NearLemmas.{actions_lie_near, odd_lengths_follow}

-- ---- two receivers

pub some_senders : (beside : Bool) (senders : List Sender) (one other : List ℤ) → KeepSenders beside senders one other → 1 ≤ length senders
some_senders false senders one other keep = keep.0
some_senders true senders one other keep = omega (arith, keep)

pub ends_by : (beside : Bool) (p : Values) (flutter starts lengths next_starts next_lengths : ℕ) (apart : ℤ) → DrawsTo beside p flutter starts lengths next_starts next_lengths
    → EndsCome beside p (pos starts) (pos lengths) (pos (odd_spread p lengths)) apart → IsWithin (pos next_starts) apart
ends_by false p flutter starts lengths next_starts next_lengths apart draws come = step (odd_spread p lengths) (arrival_error p) (longest_micro p) next_starts apart draws.0 come
  where
    step : (o e q n : ℕ) (x : ℤ) → o + 2 * e + 3 * q ≤ n → IsWithin (pos o +ℤ pos (2 * e + 3 * q)) x → IsWithin (pos n) x
    step o e q n x le near = record { low = omega (arith, ints, near.low); high = omega (arith, ints, near.high) }
ends_by true p flutter starts lengths next_starts next_lengths apart draws come = step starts lengths (odd_spread p lengths) (arrival_error p) (longest_micro p) next_starts apart draws.0 come
  where
    step : (s l o e q n : ℕ) (x : ℤ) → s + l + 2 * o + 4 * e + 7 * q ≤ 2 * n + 1 → IsWithin (pos s +ℤ pos l +ℤ (pos 2 *ℤ pos o) +ℤ pos (4 * e + 7 * q)) (pos 2 *ℤ x) → IsWithin (pos n) x
    step s l o e q n x le near = record { low = omega (arith, ints, near.low); high = omega (arith, ints, near.high) }

pub lengths_by : (beside : Bool) (p : Values) (flutter starts lengths next_starts next_lengths : ℕ) (apart : ℤ) → DrawsTo beside p flutter starts lengths next_starts next_lengths
    → LengthsCome beside p flutter (pos lengths) apart → IsWithin (pos next_lengths) apart
lengths_by false p flutter starts lengths next_starts next_lengths apart draws come = step (sharp_lambda false p flutter) next_lengths apart draws.1 come
  where
    step : (l n : ℕ) (x : ℤ) → l ≤ n → IsWithin (pos l) x → IsWithin (pos n) x
    step l n x le near = record { low = omega (arith, ints, near.low); high = omega (arith, ints, near.high) }
lengths_by true p flutter starts lengths next_starts next_lengths apart draws come = step lengths (sharp_lambda true p flutter) next_lengths apart draws.1 come
  where
    step : (k l n : ℕ) (x : ℤ) → k + l ≤ 2 * n + 1 → IsWithin (pos k +ℤ pos l) (pos 2 *ℤ x) → IsWithin (pos n) x
    step k l n x le near = record { low = omega (arith, ints, near.low); high = omega (arith, ints, near.high) }

pub receivers_come_sharply : ReceiversComeSharply
receivers_come_sharply beside p flutter senders starts lengths next_starts next_lengths beyond walk next reach other_reach one other sane can next_from to_next draws send about takes also near keep_offsets keep_rates =
    let some = some_senders beside senders one.offsets other.offsets keep_offsets in
    record {
      uncut = offset_terms_are_uncut p senders reach one.odd one.offsets one.offset_term sane takes.offsets.suffices some takes.offsets.reached takes.offsets.round;
      range = range_walks p flutter senders beyond walk next one.odd one.rates one.rate_term sane can some about takes.rates next_from to_next;
      ends =
          ends_by beside p flutter starts lengths next_starts next_lengths (corrected_end_of p one.odd -ℤ corrected_end_of p other.odd) draws
          (
          ends_come_near_lem beside p senders (pos starts) (pos lengths) (pos (odd_spread p lengths)) reach other_reach one.odd other.odd one.offsets other.offsets one.offset_term other.offset_term sane send
          takes.offsets also.offsets near keep_offsets
          );
      lengths =
          λ even other_even after other_after.
          lengths_by beside p flutter starts lengths next_starts next_lengths (cycle_length_of p even -ℤ cycle_length_of p other_even) draws
          (
          lengths_come_near_lem beside p flutter senders (pos lengths) beyond walk one.odd other.odd one.rates other.rates one.rate_term other.rate_term even other_even sane can about send.by_even
          takes.rates also.rates keep_rates after other_after
          );
    }

-- ---- a list of nodes

pub runs_of : (p : Values) (even odd : NodeRow) → IsSane p → IsRegular p even odd → Runs p even odd
runs_of p even odd sane regular = record { double = regular.double; even_lasts = micro_lasts p even sane regular.even_micro; odd_lasts = micro_lasts p odd sane regular.odd_micro }

-- what holds of the rows of each node holds of those of a sender
pub among_rows : (P : NodeRow → NodeRow → Type 0) (nodes : List Member) (sender : Sender) → IsAmong nodes sender → ((node : Member) → Contains nodes node → P node.even node.odd) → P sender.even sender.odd
among_rows P nodes sender (node, here, same_even, same_odd) holds =
    let Odd : NodeRow → Type 0 = λ row. P sender.even row in
    let Even : NodeRow → Type 0 = λ row. P row node.odd in
    subst Odd same_odd (subst Even same_even (holds node here))

-- a double cycle of some nodes with regular rows, whose starts and even lengths lie so near
pub record Double (p : Values) (starts lengths : ℕ) (beyond : ℤ) (nodes : List Member) : Type 0 where
  pub sane : IsSane p
  pub sharp : AreSharp p starts lengths beyond (map (λ (node : Member). node.even) nodes)
  pub regular : (node : Member) → Contains nodes node → IsRegular p node.even node.odd

pub nodes_near : (p : Values) (starts lengths : ℕ) (beyond : ℤ) (nodes : List Member) → Double p starts lengths beyond nodes → (one other : Member) → Contains nodes one → Contains nodes other
    → LieNear p (pos starts) (pos lengths) (pos (odd_spread p lengths)) one.even one.odd other.even other.odd
nodes_near p starts lengths beyond nodes double one other here there =
    let Near : ℕ → List ℤ → Type 0 = λ bound xs. LieWithin (pos bound) xs in
    let even : Member → NodeRow = λ node. node.even in
    let by_start = subst (Near starts) (mapped_twice (λ (row : NodeRow). row.start) even nodes) double.sharp.starts_lie in
    let by_length = subst (Near lengths) (mapped_twice (cycle_length_of p) even nodes) double.sharp.lengths_lie in
    let evens = any_two (λ (node : Member). cycle_length_of p node.even) (pos lengths) nodes one other by_length here there in
    record {
      by_start = any_two (λ (node : Member). node.even.start) (pos starts) nodes one other by_start here there;
      by_even = evens;
      by_odd = odd_lengths_follow p lengths one.even one.odd other.even other.odd double.sane (double.regular one here) (double.regular other there) evens;
    }

pub node_about : (p : Values) (starts lengths : ℕ) (beyond : ℤ) (nodes : List Member) → Double p starts lengths beyond nodes → (node : Member) → Contains nodes node
    → IsAboutCycle p beyond (cycle_length_of p node.even)
node_about p starts lengths beyond nodes double node here =
    All-contains (λ (node : Member). IsAboutCycle p beyond (cycle_length_of p node.even)) nodes node
    (unmapped (λ row. IsAboutCycle p beyond (cycle_length_of p row)) (λ (node : Member). node.even) nodes double.sharp.about) here

-- the rows of a sender and of a node, and of two senders
pub sender_near : (p : Values) (starts lengths : ℕ) (beyond : ℤ) (nodes : List Member) → Double p starts lengths beyond nodes → (sender : Sender) (node : Member) → IsAmong nodes sender → Contains nodes node
    → LieNear p (pos starts) (pos lengths) (pos (odd_spread p lengths)) sender.even sender.odd node.even node.odd
sender_near p starts lengths beyond nodes double sender node among there =
    among_rows (λ even odd. LieNear p (pos starts) (pos lengths) (pos (odd_spread p lengths)) even odd node.even node.odd) nodes sender among
    (λ one here. nodes_near p starts lengths beyond nodes double one node here there)

pub senders_near : (p : Values) (starts lengths : ℕ) (beyond : ℤ) (nodes : List Member) → Double p starts lengths beyond nodes → (one other : Sender) → IsAmong nodes one → IsAmong nodes other
    → LieNear p (pos starts) (pos lengths) (pos (odd_spread p lengths)) one.even one.odd other.even other.odd
senders_near p starts lengths beyond nodes double one other among also =
    among_rows (λ even odd. LieNear p (pos starts) (pos lengths) (pos (odd_spread p lengths)) one.even one.odd even odd) nodes other also
    (λ node there. sender_near p starts lengths beyond nodes double one node among there)

pub turned : (bound x y : ℤ) → IsWithin bound (x -ℤ y) → IsWithin bound (y -ℤ x)
turned bound x y near = record { low = omega (arith, ints, near.high); high = omega (arith, ints, near.low) }

pub double_of : (beside : Bool) (p : Values) (flutter : ℕ) (senders : List Sender) (nodes : List Member) (starts lengths : ℕ) (beyond last : ℤ) → IsSane p
    → AreSharp p starts lengths beyond (map (λ (node : Member). node.even) nodes) → IsSharpDouble beside p flutter senders nodes last → Double p starts lengths beyond nodes
double_of beside p flutter senders nodes starts lengths beyond last sane sharp heard = record {
  sane = sane;
  sharp = sharp;
  regular = λ node here. (All-contains (ComputesSharply p flutter senders) nodes node heard.computes here).regular;
}

pub reached_by : (p : Values) (flutter starts lengths : ℕ) (beyond walk reach last action : ℤ) (is_odd : Bool) (even odd other_even other_odd : NodeRow) → IsSharpReach p flutter starts lengths beyond walk reach last
    → IsRegular p even odd → IsRegular p other_even other_odd → LieNear p (pos starts) (pos lengths) (pos (odd_spread p lengths)) even odd other_even other_odd → pos 0 ≤ℤ action → action ≤ℤ last
    → IsWithin reach (gap_of p is_odd action (row_in is_odd even odd) (row_in is_odd other_even other_odd))
reached_by p flutter starts lengths beyond walk reach last action is_odd even odd other_even other_odd is regular other_regular near from to =
    wider (pos starts +ℤ pos lengths +ℤ floor_of (last *ℤ pos (odd_spread p lengths)) p.macros +ℤ pos (longest_micro p)) reach (gap_of p is_odd action (row_in is_odd even odd) (row_in is_odd other_even other_odd)) is.fits
    (
    actions_lie_near p (pos starts) (pos lengths) (pos (odd_spread p lengths)) action last is_odd even odd other_even other_odd is.sane
    (runs_of p even odd is.sane regular) (runs_of p other_even other_odd is.sane other_regular) near from to is.early
    )

pub actions_lie_in_reach : ActionsLieInReach
actions_lie_in_reach p flutter starts lengths beyond walk reach last action is_odd nodes one other is sharp regular here there from to =
    let at = λ (node : Member) (among : Contains nodes node). All-contains (λ (node : Member). IsRegular p node.even node.odd) nodes node regular among in
    reached_by p flutter starts lengths beyond walk reach last action is_odd one.even one.odd other.even other.odd is (at one here) (at other there)
    (nodes_near p starts lengths beyond nodes (record { sane = is.sane; sharp = sharp; regular = at }) one other here there) from to

-- ---- senders and receivers of a list

pub acts_in_cycle : (last early action : ℤ) → last ≤ℤ early → IsBetween (pos 0) last action → (pos 0 ≤ℤ action) × (action ≤ℤ early)
acts_in_cycle last early action le between = (between.low, omega (arith, ints, between.high))

pub send_apart : (beside : Bool) (p : Values) (flutter : ℕ) (senders : List Sender) (nodes : List Member) (starts lengths : ℕ) (beyond walk reach last : ℤ) → IsSharpLimit p flutter beyond walk reach last
    → Double p starts lengths beyond nodes → IsSharpDouble beside p flutter senders nodes last → SendApart p (pos starts) (pos lengths) (pos (odd_spread p lengths)) senders
send_apart beside p flutter senders nodes starts lengths beyond walk reach last is double heard = record {
  sending = λ i d short. sends _ (heard.among i d short) (heard.acts i d short);
  by_start =
      All-along (IsAmong nodes) (λ one. All (λ (other : Sender). IsWithin (pos starts) (one.even.start -ℤ other.even.start)) senders) senders
      (λ one among. All-along (IsAmong nodes) (λ (other : Sender). IsWithin (pos starts) (one.even.start -ℤ other.even.start)) senders (λ other also. (senders_near p starts lengths beyond nodes double one other among also).by_start) heard.among) heard.among;
  by_even =
      All-along (IsAmong nodes) (λ one. All (λ (other : Sender). IsWithin (pos lengths) (cycle_length_of p one.even -ℤ cycle_length_of p other.even)) senders) senders
      (λ one among. All-along (IsAmong nodes) (λ (other : Sender). IsWithin (pos lengths) (cycle_length_of p one.even -ℤ cycle_length_of p other.even)) senders (λ other also. (senders_near p starts lengths beyond nodes double one other among also).by_even) heard.among) heard.among;
  by_odd =
      All-along (IsAmong nodes) (λ one. All (λ (other : Sender). IsWithin (pos (odd_spread p lengths)) (cycle_length_of p one.odd -ℤ cycle_length_of p other.odd)) senders) senders
      (λ one among. All-along (IsAmong nodes) (λ (other : Sender). IsWithin (pos (odd_spread p lengths)) (cycle_length_of p one.odd -ℤ cycle_length_of p other.odd)) senders (λ other also. (senders_near p starts lengths beyond nodes double one other among also).by_odd) heard.among) heard.among;
}
  where
    sends : (sender : Sender) → IsAmong nodes sender → IsBetween (pos 0) last sender.action → IsSending p sender
    sends sender among acts =
        let regular = among_rows (IsRegular p) nodes sender among double.regular in
        let both = acts_in_cycle last p.correction sender.action is.early acts in
        record { double = regular.double; lasts = micro_lasts p sender.odd is.sane regular.odd_micro; acts_from = both.0; acts_to = both.1 }

pub takes_sharply : (beside : Bool) (p : Values) (flutter : ℕ) (senders : List Sender) (nodes : List Member) (starts lengths : ℕ) (beyond walk reach last : ℤ) (node : Member)
    → IsSharpLimit p flutter beyond walk reach last → ActInReach p reach last nodes → Double p starts lengths beyond nodes → IsSharpDouble beside p flutter senders nodes last → Contains nodes node
    → TakesSharply p flutter senders reach lengths node
takes_sharply beside p flutter senders nodes starts lengths beyond walk reach last node is acting double heard here =
    let computes = All-contains (ComputesSharply p flutter senders) nodes node heard.computes here in
    record {
      offsets = record {
        suffices = is.suffices;
        reached = λ i d short. reached _ (heard.among i d short) (heard.acts i d short);
        near =
            All-along (IsAmong nodes) (λ sender. IsWithin (pos (odd_spread p lengths)) (cycle_length_of p node.odd -ℤ cycle_length_of p sender.odd)) senders (λ sender among. odds sender among) heard.among;
        round = computes.by_offset;
      };
      rates = computes.by_rate;
    }
  where
    reached : (sender : Sender) → IsAmong nodes sender → IsBetween (pos 0) last sender.action → IsWithin reach (gap_of p true sender.action sender.odd node.odd)
    reached sender among acts =
        among_rows (λ even odd. IsWithin reach (gap_of p true sender.action odd node.odd)) nodes sender among
        (λ one there. acting true one node sender.action there here acts.low acts.high)

    odds : (sender : Sender) → IsAmong nodes sender → IsWithin (pos (odd_spread p lengths)) (cycle_length_of p node.odd -ℤ cycle_length_of p sender.odd)
    odds sender among = turned (pos (odd_spread p lengths)) (cycle_length_of p sender.odd) (cycle_length_of p node.odd) (sender_near p starts lengths beyond nodes double sender node among here).by_odd

pub senders_about : (p : Values) (starts lengths : ℕ) (beyond : ℤ) (nodes : List Member) (senders : List Sender) → Double p starts lengths beyond nodes → All (IsAmong nodes) senders → EvensAreAbout p beyond senders
senders_about p starts lengths beyond nodes senders double among =
    All-along (IsAmong nodes) (λ sender. IsAboutCycle p beyond (cycle_length_of p sender.even)) senders
    (λ sender is. among_rows (λ even odd. IsAboutCycle p beyond (cycle_length_of p even)) nodes sender is (node_about p starts lengths beyond nodes double)) among

pub spreads_shrink_in_reach : SpreadsShrinkInReach
spreads_shrink_in_reach beside p flutter senders nodes starts lengths next_starts next_lengths beyond walk next reach last one other is acting next_from to_next draws sharp heard here there =
    let double = double_of beside p flutter senders nodes starts lengths beyond last is.sane sharp heard in
    let kept = heard.keep one other here there in
    receivers_come_sharply beside p flutter senders starts lengths next_starts next_lengths beyond walk next reach reach one other is.sane is.walks next_from to_next draws
    (send_apart beside p flutter senders nodes starts lengths beyond walk reach last is double heard) (senders_about p starts lengths beyond nodes senders double heard.among)
    (takes_sharply beside p flutter senders nodes starts lengths beyond walk reach last one is acting double heard here)
    (takes_sharply beside p flutter senders nodes starts lengths beyond walk reach last other is acting double heard there)
    (nodes_near p starts lengths beyond nodes double one other here there).by_odd kept.0 kept.1

pub limit_of : (p : Values) (flutter starts lengths : ℕ) (beyond walk reach last : ℤ) → IsSharpReach p flutter starts lengths beyond walk reach last → IsSharpLimit p flutter beyond walk reach last
limit_of p flutter starts lengths beyond walk reach last is = record { sane = is.sane; walks = is.walks; suffices = is.suffices; early = is.early }

pub act_in_reach : (beside : Bool) (p : Values) (flutter : ℕ) (senders : List Sender) (nodes : List Member) (starts lengths : ℕ) (beyond walk reach last : ℤ) → IsSharpReach p flutter starts lengths beyond walk reach last
    → AreSharp p starts lengths beyond (map (λ (node : Member). node.even) nodes) → IsSharpDouble beside p flutter senders nodes last → ActInReach p reach last nodes
act_in_reach beside p flutter senders nodes starts lengths beyond walk reach last is sharp heard is_odd one other action here there from to =
    let double = double_of beside p flutter senders nodes starts lengths beyond last is.sane sharp heard in
    reached_by p flutter starts lengths beyond walk reach last action is_odd one.even one.odd other.even other.odd is (double.regular one here) (double.regular other there)
    (nodes_near p starts lengths beyond nodes double one other here there) from to

pub sharp_spreads_shrink_lem : SharpSpreadsShrink
sharp_spreads_shrink_lem beside p flutter senders nodes starts lengths next_starts next_lengths beyond walk next reach last one other is next_from to_next draws sharp heard here there =
    spreads_shrink_in_reach beside p flutter senders nodes starts lengths next_starts next_lengths beyond walk next reach last one other (limit_of p flutter starts lengths beyond walk reach last is)
    (act_in_reach beside p flutter senders nodes starts lengths beyond walk reach last is sharp heard) next_from to_next draws sharp heard here there

pub macroticks_stay_sharp : MacroticksStaySharp
macroticks_stay_sharp p starts lengths next_starts next_lengths beyond next nodes one other apart macrotick is_odd sane sharp regular here there come fits ends_fit from to =
    let at = λ (node : Member) (among : Contains nodes node). All-contains (λ (node : Member). IsRegular p node.even node.odd) nodes node regular among in
    macroticks_lie_in_reach p (pos starts) (pos lengths) (pos (odd_spread p lengths)) (pos next_starts) (pos apart) macrotick is_odd one.even one.odd other.even other.odd sane
    (runs_of p one.even one.odd sane (at one here)) (runs_of p other.even other.odd sane (at other there))
    (nodes_near p starts lengths beyond nodes (record { sane = sane; sharp = sharp; regular = at }) one other here there) come.ends
    (whole starts lengths (odd_spread p lengths) (longest_micro p) apart fits) (end next_starts (longest_micro p) apart ends_fit) from to
  where
    whole : (s l o q a : ℕ) → s + l + o + 2 * q ≤ a → (pos s +ℤ pos l +ℤ pos o +ℤ (pos 2 *ℤ pos q)) ≤ℤ pos a
    whole s l o q a le = omega (arith, ints)

    end : (n q a : ℕ) → n + q ≤ a → (pos n +ℤ pos q) ≤ℤ pos a
    end n q a le = omega (arith, ints)

next_even_of : (p : Values) (node : Member) (even odd : NodeRow) → IsFollowed p node even odd → IsNextEven p node.odd node.rate_term even
next_even_of p node even odd is = record { rate = is.next.even_rate; micro = is.next.even_micro; steady = is.next.even_steady }

pub next_is_near : NextIsNear
next_is_near p nodes next_starts next_lengths next next_even next_odd come followed =
    let Followed : Member → Type 0 = λ node. IsFollowed p node (next_even node) (next_odd node) in
    let follows = λ (node : Member) (here : Contains nodes node). All-contains Followed nodes node followed here in
    let after = λ (node : Member) (here : Contains nodes node). next_even_of p node (next_even node) (next_odd node) (follows node here) in
    let Near : ℕ → List ℤ → Type 0 = λ bound xs. LieWithin (pos bound) xs in
    record {
      starts_lie =
          subst (Near next_starts) (sym (mapped_twice (λ (row : NodeRow). row.start) next_even nodes))
          (
          all_lie (λ node. (next_even node).start) (pos next_starts) nodes
          (λ one other here there.
          same_apart (pos next_starts) (next_even one).start (next_even other).start (corrected_end_of p one.odd) (corrected_end_of p other.odd)
          (follows one here).start (follows other there).start (come one other here there).ends)
          );
      lengths_lie =
          subst (Near next_lengths) (sym (mapped_twice (cycle_length_of p) next_even nodes))
          (
          all_lie (λ node. cycle_length_of p (next_even node)) (pos next_lengths) nodes
          (λ one other here there. (come one other here there).lengths (next_even one) (next_even other) (after one here) (after other there))
          );
      about =
          All-map (λ (row : NodeRow). IsAboutCycle p next (cycle_length_of p row)) next_even nodes
          (
          All-along (Contains nodes) (λ node. IsAboutCycle p next (cycle_length_of p (next_even node))) nodes
          (λ node here. (come node node here here).range.range (next_even node) (after node here)) (All-contains_itself nodes)
          );
    }

pub next_is_sharp : NextIsSharp
next_is_sharp beside p flutter senders nodes starts lengths next_starts next_lengths beyond walk next reach last next_even next_odd is next_from to_next draws sharp heard followed =
    next_is_near p nodes next_starts next_lengths next next_even next_odd
    (λ one other here there.
    sharp_spreads_shrink_lem beside p flutter senders nodes starts lengths next_starts next_lengths beyond walk next reach last one other is next_from to_next draws sharp heard here there)
    followed

-- ---- in sharp sync

pub sharp_sync_draws : SharpSyncDraws
sharp_sync_draws false p flutter = (itself (sharp_pi false p flutter), itself (sharp_lambda false p flutter))
  where
    itself : (n : ℕ) → n ≤ n
    itself n = omega arith
sharp_sync_draws true p flutter = (step (sharp_pi true p flutter) (sharp_lambda true p flutter) (cycle_change p) (arrival_error p) (longest_micro p) refl, omega arith)
  where
    step : (pi l j e q : ℕ) → pi ≡ 3 * l + 4 * j + 4 * e + 7 * q → pi + l + 2 * (l + 2 * j) + 4 * e + 7 * q ≤ 2 * pi + 1
    step pi l j e q is = omega arith

pub ends_fit : (beside : Bool) (p : Values) (flutter : ℕ) → sharp_pi beside p flutter + longest_micro p ≤ sharp_precision beside p flutter
ends_fit beside p flutter = step (sharp_pi beside p flutter) (sharp_lambda beside p flutter) (odd_spread p (sharp_lambda beside p flutter)) (longest_micro p)
  where
    step : (pi l o q : ℕ) → pi + q ≤ pi + l + o + 2 * q
    step pi l o q = omega arith

pub le_itself : (n : ℕ) → n ≤ n
le_itself n = omega arith

pub sharp_sync_is_kept_lem : SharpSyncIsKept
sharp_sync_is_kept_lem beside p flutter senders nodes beyond walk next sane checks can next_from to_next sync heard one other here there =
    let pi = sharp_pi beside p flutter in
    let lambda = sharp_lambda beside p flutter in
    let is = sharp_checks_reach p flutter pi lambda beyond walk sane checks can in
    let come =
    sharp_spreads_shrink_lem beside p flutter senders nodes pi lambda pi lambda beyond walk next (pos (near_by p pi lambda)) (pos (last_action p)) one other is next_from to_next (sharp_sync_draws beside p flutter)
    sync.rows heard here there in
    let regular = All-along (ComputesSharply p flutter senders) (λ (node : Member). IsRegular p node.even node.odd) nodes (λ node computes. computes.regular) heard.computes in
    record {
      come = come;
      precise =
          λ macrotick is_odd from to.
          macroticks_stay_sharp p pi lambda pi lambda beyond next nodes one other (sharp_precision beside p flutter) macrotick is_odd sane sync.rows regular here there come
          (le_itself (sharp_precision beside p flutter)) (ends_fit beside p flutter) from to;
    }

pub next_is_in_sharp_sync : NextIsInSharpSync
next_is_in_sharp_sync beside p flutter senders nodes beyond walk next next_even next_odd sane checks can next_from to_next sync heard followed =
    let pi = sharp_pi beside p flutter in
    let lambda = sharp_lambda beside p flutter in
    let is = sharp_checks_reach p flutter pi lambda beyond walk sane checks can in
    let Followed : Member → Type 0 = λ node. IsFollowed p node (next_even node) (next_odd node) in
    record {
      active_even = All-map (λ (row : NodeRow). row.state ≡ Active) next_even nodes (All-along Followed (λ node. (next_even node).state ≡ Active) nodes (λ node follows. follows.active_even) followed);
      active_odd = All-map (λ (row : NodeRow). row.state ≡ Active) next_odd nodes (All-along Followed (λ node. (next_odd node).state ≡ Active) nodes (λ node follows. follows.active_odd) followed);
      rows =
          next_is_sharp beside p flutter senders nodes pi lambda pi lambda beyond walk next (pos (near_by p pi lambda)) (pos (last_action p)) next_even next_odd is next_from to_next (sharp_sync_draws beside p flutter)
          sync.rows heard followed;
    }

-- ---- from the older sync

pub in_sync_is_sharp : InSyncIsSharp
in_sync_is_sharp p even odd sync = record {
  starts_lie = sync.starts;
  lengths_lie = sync.even_lengths;
  about = All-along (λ row. IsCycleLength p (cycle_length_of p row)) (λ row. IsAboutCycle p (pos 0) (cycle_length_of p row)) even (λ row is. about (cycle_length_of p row) is) sync.even_proper;
}
  where
    about : (long : ℤ) → IsCycleLength p long → IsAboutCycle p (pos 0) long
    about long is = step (shortest_cycle p) (longest_cycle p) long is.0 is.1
      where
        step : (a b : ℕ) (x : ℤ) → pos a ≤ℤ x → x ≤ℤ pos b → IsBetween (pos a -ℤ pos 0) (pos b +ℤ pos 0) x
        step a b x low high = record { low = omega (arith, ints); high = omega (arith, ints) }

-- ---- with greater numbers

lie_wider : (bound more : ℕ) (xs : List ℤ) → bound ≤ more → LieWithin (pos bound) xs → LieWithin (pos more) xs
lie_wider bound more xs le near i d short j e below = further _ bound more le (near i d short j e below)
  where
    further : (x : ℤ) (a b : ℕ) → a ≤ b → x ≤ℤ pos a → x ≤ℤ pos b
    further x a b le within = omega (arith, ints, le, within)

pub sharp_is_wider : SharpIsWider
sharp_is_wider p starts lengths more_starts more_lengths beyond more_beyond even starts_le lengths_le beyond_le sharp = record {
  starts_lie = lie_wider starts more_starts (map (λ (row : NodeRow). row.start) even) starts_le sharp.starts_lie;
  lengths_lie = lie_wider lengths more_lengths (map (cycle_length_of p) even) lengths_le sharp.lengths_lie;
  about =
      All-along (λ row. IsAboutCycle p beyond (cycle_length_of p row)) (λ row. IsAboutCycle p more_beyond (cycle_length_of p row)) even
      (λ row is. about (pos (shortest_cycle p)) (pos (longest_cycle p)) (cycle_length_of p row) is) sharp.about;
}
  where
    about : (a b x : ℤ) → IsBetween (a -ℤ beyond) (b +ℤ beyond) x → IsBetween (a -ℤ more_beyond) (b +ℤ more_beyond) x
    about a b x is = step a b x beyond more_beyond beyond_le is
      where
        step : (a b x c d : ℤ) → c ≤ℤ d → IsBetween (a -ℤ c) (b +ℤ c) x → IsBetween (a -ℤ d) (b +ℤ d) x
        step a b x c d le is = record { low = omega (arith, ints, is.low); high = omega (arith, ints, is.high) }
