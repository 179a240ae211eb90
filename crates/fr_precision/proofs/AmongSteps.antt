-- The step of a double cycle in which anything may be lost.
use Rattle.std.proofs.Common.{◌≡◌, ℕ, ◌+◌, ◌-◌, ◌*◌, ◌≤◌, Bool, ℤ, pos, true, false, List, map, All, inl, inr, refl, sym, ap, ◌∙◌, subst, arith}
use Rattle.std.specs.Prelude.{◌+ℤ◌, ◌-ℤ◌, ◌*ℤ◌, ◌≤ℤ◌, Contains}
use Rattle.std.proofs.lemmas.Int.{ints}
use Rattle.std.proofs.Math.Nat.{mul-le-mul_right}
use Rattle.fr_base.specs.declared.node_row.NodeRow.{NodeRow}
use Rattle.fr_base.specs.declared.state.Outcome.TheVariants.{Within}
use Rattle.fr_base.specs.Within.{IsBetween, IsWithin}
use Rattle.fr_cluster.specs.Values.{Values, amount}
use Rattle.fr_cluster.specs.declared.names.ParamName.TheVariants as name
use Rattle.fr_bound.specs.Bounds.{arrival_error, cycle_change, longest_micro}
use Rattle.fr_bound.specs.Sync.{cycle_length_of}
use Rattle.fr_precision.specs.Rows.{corrected_end_of, longest_cycle, shortest_cycle, Sender}
use Rattle.fr_precision.specs.Instants.{gap_of, LieNear}
use Rattle.fr_precision.specs.Offsets.{IsOffsetRound, IsSending, NearAll}
use Rattle.fr_precision.specs.Placement.{IsRegular}
use Rattle.fr_precision.specs.Step.{IsAmong, Member}
use Rattle.fr_midpoint.proofs.Products.{mulz-subz, mulz_within}
use Rattle.fr_time.proofs.Placing.{is_grid_lem}
use Rattle.fr_precision.proofs.OffsetLaws.{micro_lasts, offset_terms_are_uncut}
use Rattle.fr_precision.proofs.Senders.{All-along}
use Rattle.fr_bound.specs.SharpBounds.{odd_spread, sharp_lambda, steady_error}
use Rattle.fr_bound.specs.SharpSpreads.{lost_lengths, lost_starts}
use Rattle.fr_precision.specs.Ends.{TakesOffsets}
use Rattle.fr_precision.specs.SharpStep.{ActInReach, AreSharp, ComeSharply, IsSharpLimit}
use Rattle.fr_precision.specs.Among.{ComputesOwn, KeptRate, LieAcross, OneLossCosts, OwnOffsets, OwnOrKept, OwnRates}
use Rattle.fr_precision.specs.Lengths.{IsNextEven, WalksOn}
use Rattle.fr_precision.proofs.EndLemmas.{ends_come_among_lem}
use Rattle.fr_precision.proofs.LengthLemmas.{lengths_come_among_lem, near_length, range_walks}
use Rattle.fr_precision.proofs.PlacementLaws.{steady_within}
use Rattle.fr_precision.proofs.Signed.{signed_of}
use Rattle.fr_precision.proofs.SteadyLemmas.{regularly}
use Rattle.fr_precision.proofs.StepLemmas.{acts_in_cycle, among_rows, node_about, nodes_near, sender_near, senders_about, senders_near, turned, Double}

pub widen : (a b : ℕ) (x : ℤ) → a ≤ b → IsWithin (pos a) x → IsWithin (pos b) x
widen a b x le near = record { low = omega (arith, ints, near.low); high = omega (arith, ints, near.high) }

pub starts_sum : (s l o e q n : ℕ) (x : ℤ) → s + l + o + 2 * e + 3 * q ≤ n → IsWithin (pos s +ℤ pos l +ℤ pos o +ℤ pos (2 * e + 3 * q)) x → IsWithin (pos n) x
starts_sum s l o e q n x le near = record { low = omega (arith, ints, near.low); high = omega (arith, ints, near.high) }

-- with one error less, where one length has changed twice, and with none, where both have
less_sum : (l e c j n : ℕ) (x now next : ℤ) → l + (2 * e + 2 * c + 2 * j) ≤ n → j ≤ e → IsWithin (pos l +ℤ pos (e + c + j)) (x -ℤ now) → IsWithin (pos (2 * j)) (next -ℤ now) → IsWithin (pos n) (x -ℤ next)
less_sum l e c j n x now next le small near moved = record { low = omega (arith, ints, near.low, moved.high); high = omega (arith, ints, near.high, moved.low) }

none_sum : (l e c j n : ℕ) (one other next other_next : ℤ) → l + (2 * e + 2 * c + 2 * j) ≤ n → j ≤ e → IsWithin (pos l) (one -ℤ other) → IsWithin (pos (2 * j)) (next -ℤ one) → IsWithin (pos (2 * j)) (other_next -ℤ other)
    → IsWithin (pos n) (next -ℤ other_next)
none_sum l e c j n one other next other_next le small near moved also_moved = record {
  low = omega (arith, ints, near.low, moved.low, also_moved.high);
  high = omega (arith, ints, near.high, moved.high, also_moved.low);
}

-- the change of a cycle is no more than the error of a length
change_small : (n r o w f q : ℕ) → (n + r) * w ≤ f + q + (n + r + o + 1) * w
change_small n r o w f q =
    let more : (n + r) * w ≤ (n + r + o + 1) * w = mul-le-mul_right w (wide n r o) in
    omega (arith, more)
  where
    wide : (n r o : ℕ) → n + r ≤ n + r + o + 1
    wide n r o = omega arith

pub lengths_sum : (l m n : ℕ) (x : ℤ) → l + m ≤ n → IsWithin (pos l +ℤ pos m) x → IsWithin (pos n) x
lengths_sum l m n x le near = record { low = omega (arith, ints, near.low); high = omega (arith, ints, near.high) }

module _
    (p : Values) (flutter : ℕ) (nodes : List Member) (starts lengths : ℕ) (beyond walk reach last : ℤ)
    (is : IsSharpLimit p flutter beyond walk reach last) (acting : ActInReach p reach last nodes) (double : Double p starts lengths beyond nodes) where
  pub odds : (node : Member) → Contains nodes node → (sender : Sender) → IsAmong nodes sender → IsWithin (pos (odd_spread p lengths)) (cycle_length_of p node.odd -ℤ cycle_length_of p sender.odd)
  odds node here sender among = turned (pos (odd_spread p lengths)) (cycle_length_of p sender.odd) (cycle_length_of p node.odd) (sender_near p starts lengths beyond nodes double sender node among here).by_odd

  pub near_all : (node : Member) → Contains nodes node → (senders : List Sender) → All (IsAmong nodes) senders → NearAll p (pos (odd_spread p lengths)) senders node.odd
  near_all node here senders among =
      All-along (IsAmong nodes) (λ (sender : Sender). IsWithin (pos (odd_spread p lengths)) (cycle_length_of p node.odd -ℤ cycle_length_of p sender.odd)) senders (λ sender is_among. odds node here sender is_among) among

  pub sends : (sender : Sender) → IsAmong nodes sender → IsBetween (pos 0) last sender.action → IsSending p sender
  sends sender among acts =
      let regular = among_rows (IsRegular p) nodes sender among double.regular in
      let both = acts_in_cycle last p.correction sender.action is.early acts in
      record { double = regular.double; lasts = micro_lasts p sender.odd is.sane regular.odd_micro; acts_from = both.0; acts_to = both.1 }

  reached : (node : Member) → Contains nodes node → (sender : Sender) → IsAmong nodes sender → IsBetween (pos 0) last sender.action → IsWithin reach (gap_of p true sender.action sender.odd node.odd)
  reached node here sender among acts =
      among_rows (λ even odd. IsWithin reach (gap_of p true sender.action odd node.odd)) nodes sender among
      (λ one there. acting true one node sender.action there here acts.low acts.high)

  pub takes_of : (node : Member) → Contains nodes node → (senders : List Sender) → All (IsAmong nodes) senders → All (λ sender. IsBetween (pos 0) last sender.action) senders
      → IsOffsetRound p senders node.odd node.offsets node.offset_term → TakesOffsets p senders reach (pos (odd_spread p lengths)) node.odd node.offsets node.offset_term
  takes_of node here senders among acts round = record {
    suffices = is.suffices;
    reached = λ i d short. reached node here _ (among i d short) (acts i d short);
    near = near_all node here senders among;
    round = round;
  }

  pub across : (number : Sender → ℤ) (bound : ℤ) (senders other_senders : List Sender) → All (IsAmong nodes) senders → All (IsAmong nodes) other_senders
      → ((one other : Sender) → IsAmong nodes one → IsAmong nodes other → IsWithin bound (number one -ℤ number other)) → LieAcross number bound senders other_senders
  across number bound senders other_senders among also near =
      All-along (IsAmong nodes) (λ one. All (λ (other : Sender). IsWithin bound (number one -ℤ number other)) other_senders) senders
      (λ one is_among. All-along (IsAmong nodes) (λ other. IsWithin bound (number one -ℤ number other)) other_senders (λ other also_among. near one other is_among also_among) also) among

  pub two : (one other : Sender) → IsAmong nodes one → IsAmong nodes other → LieNear p (pos starts) (pos lengths) (pos (odd_spread p lengths)) one.even one.odd other.even other.odd
  two one other among also = senders_near p starts lengths beyond nodes double one other among also

  -- ---- what a node has of offsets

  takes_own : (node : Member) → Contains nodes node → (own : OwnOffsets p nodes last node) → TakesOffsets p own.senders reach (pos (odd_spread p lengths)) node.odd node.offsets node.offset_term
  takes_own node here own = takes_of node here own.senders own.among own.acts own.round

  pub uncut_own : (one : Member) → Contains nodes one → OwnOffsets p nodes last one → one.offset_term.outcome ≡ Within
  uncut_own one here own =
      let takes = takes_own one here own in
      offset_terms_are_uncut p own.senders reach one.odd one.offsets one.offset_term is.sane is.suffices own.some takes.reached own.round

  sends_all : (node : Member) (own : OwnOffsets p nodes last node) → All (IsSending p) own.senders
  sends_all node own i d short = sends _ (own.among i d short) (own.acts i d short)

  pub ends_own : (one other : Member) → Contains nodes one → Contains nodes other → OwnOffsets p nodes last one → OwnOffsets p nodes last other
      → IsWithin (pos starts +ℤ pos lengths +ℤ pos (odd_spread p lengths) +ℤ pos (2 * arrival_error p + 3 * longest_micro p)) (corrected_end_of p one.odd -ℤ corrected_end_of p other.odd)
  ends_own one other here there own also =
      let o = odd_spread p lengths in
      ends_come_among_lem p own.senders also.senders (pos starts) (pos lengths) (pos o) reach reach one.odd other.odd one.offsets other.offsets one.offset_term other.offset_term
      is.sane own.some also.some (sends_all one own) (sends_all other also)
      (across (λ sender. sender.even.start) (pos starts) own.senders also.senders own.among also.among (λ x y among also_among. (two x y among also_among).by_start))
      (across (λ sender. cycle_length_of p sender.even) (pos lengths) own.senders also.senders own.among also.among (λ x y among also_among. (two x y among also_among).by_even))
      (across (λ sender. cycle_length_of p sender.odd) (pos o) own.senders also.senders own.among also.among (λ x y among also_among. (two x y among also_among).by_odd))
      (takes_own one here own) (takes_own other there also)
      (near_all one here also.senders also.among) (near_all other there own.senders own.among)
      (nodes_near p starts lengths beyond nodes double one other here there).by_odd

  -- ---- and of rates, whether it has a row or follows

  pub range_own : (next : ℤ) (one : Member) → OwnRates p flutter nodes one → pos 0 ≤ℤ next → (beyond +ℤ walk) ≤ℤ next → WalksOn p next one.odd one.rate_term
  range_own next one own next_from to_next =
      range_walks p flutter own.senders beyond walk next one.odd one.rates one.rate_term is.sane is.walks own.some
      (senders_about p starts lengths beyond nodes own.senders double own.among) own.round next_from to_next

  pub lengths_own : (one other : Member) → OwnRates p flutter nodes one → OwnRates p flutter nodes other → (even other_even : NodeRow)
      → IsNextEven p one.odd one.rate_term even → IsNextEven p other.odd other.rate_term other_even
      → IsWithin (pos lengths +ℤ pos (2 * steady_error p flutter + 2 * (amount p name.pClusterDriftDamping * longest_micro p) + 2 * cycle_change p)) (cycle_length_of p even -ℤ cycle_length_of p other_even)
  lengths_own one other own also even other_even after other_after =
      lengths_come_among_lem p flutter own.senders also.senders (pos lengths) beyond walk one.odd other.odd one.rates other.rates one.rate_term other.rate_term even other_even is.sane is.walks
      own.some also.some
      (senders_about p starts lengths beyond nodes own.senders double own.among)
      (senders_about p starts lengths beyond nodes also.senders double also.among)
      (across (λ sender. cycle_length_of p sender.even) (pos lengths) own.senders also.senders own.among also.among (λ x y among also_among. (two x y among also_among).by_even))
      own.round also.round after other_after

  -- the length of the next even cycle of a node that keeps its rate has changed twice
  kept_length : (some_keep : Bool) (node : Member) (even : NodeRow) → Contains nodes node → KeptRate some_keep node → IsNextEven p node.odd node.rate_term even
      → IsWithin (pos (2 * cycle_change p)) (cycle_length_of p even -ℤ cycle_length_of p node.even)
  kept_length some_keep node even here keeps after =
      let regular = double.regular node here in
      let s = signed_of p is.sane in
      let n : ℤ = p.micros +ℤ node.even.rate in
      let most : ℤ = p.micros +ℤ p.rate_limit in
      let r = regularly p node.even node.odd (pos 0) is.sane regular nothing (before p.correction (is_grid_lem p is.sane).correction_from) in
      let early = mulz_within n (node.odd.length -ℤ node.even.length) most p.change_bound r.whole_from r.whole_to r.change in
      let late = mulz_within n (even.length -ℤ node.odd.length) most p.change_bound r.whole_from r.whole_to (steady_within p node.odd even is.sane after.steady) in
      let same : cycle_length_of p even ≡ n *ℤ even.length =
      ap (λ (rate : ℤ). (p.micros +ℤ rate) *ℤ even.length) (after.rate ∙ keeps.kept ∙ regular.double.same_rate) in
      twice (cycle_change p) (most *ℤ p.change_bound) (cycle_length_of p node.even) (n *ℤ node.odd.length) (n *ℤ even.length) (cycle_length_of p even) (n *ℤ (node.odd.length -ℤ node.even.length))
      (n *ℤ (even.length -ℤ node.odd.length)) s.j_is same (mulz-subz node.odd.length node.even.length n) (mulz-subz even.length node.odd.length n) early late
    where
      nothing : pos 0 ≤ℤ pos 0
      nothing = omega (arith, ints)

      before : (c : ℤ) → pos 1 ≤ℤ c → pos 0 ≤ℤ c
      before c le = omega (arith, ints)

      twice : (j : ℕ) (jj now middle last next x y : ℤ) → pos j ≡ jj → next ≡ last → x ≡ middle -ℤ now → y ≡ last -ℤ middle → IsWithin jj x → IsWithin jj y → IsWithin (pos (2 * j)) (next -ℤ now)
      twice j jj now middle last next x y a b c e one other = record { low = omega (arith, ints, one.low, other.low); high = omega (arith, ints, one.high, other.high) }

  small : cycle_change p ≤ steady_error p flutter
  small =
      change_small (amount p name.pMicroPerCycle) (amount p name.pRateCorrectionOut) (amount p name.pOffsetCorrectionOut) (amount p name.xChangeBound) flutter (longest_micro p - 1)

  pub range_kept : (some_keep : Bool) (next : ℤ) (one : Member) → Contains nodes one → KeptRate some_keep one → (beyond +ℤ pos (2 * cycle_change p)) ≤ℤ next → WalksOn p next one.odd one.rate_term
  range_kept some_keep next one here keeps further = record {
    uncut = keeps.within;
    limit =
        (
        let Limited : ℤ → Type 0 = λ rate. IsWithin p.rate_limit rate in
        let regular = double.regular one here in
        subst Limited (sym (keeps.kept ∙ regular.double.same_rate)) regular.rate_within
        );
    range = λ even after.
        beside (pos (shortest_cycle p)) (pos (longest_cycle p)) beyond next (cycle_length_of p one.even) (cycle_length_of p even) (cycle_change p) further (node_about p starts lengths beyond nodes double one here)
        (kept_length some_keep one even here keeps after);
  }
    where
      beside : (least most b n x y : ℤ) (j : ℕ) → (b +ℤ pos (2 * j)) ≤ℤ n → IsBetween (least -ℤ b) (most +ℤ b) x → IsWithin (pos (2 * j)) (y -ℤ x) → IsBetween (least -ℤ n) (most +ℤ n) y
      beside least most b n x y j le about moved = record { low = omega (arith, ints, le, about.low, moved.low); high = omega (arith, ints, le, about.high, moved.high) }

  -- a node's even length lies near those of some senders
  lies_near : (node : Member) → Contains nodes node → (senders : List Sender) → All (IsAmong nodes) senders
      → All (λ (sender : Sender). IsWithin (pos lengths) (cycle_length_of p node.even -ℤ cycle_length_of p sender.even)) senders
  lies_near node here senders among =
      All-along (IsAmong nodes) (λ (sender : Sender). IsWithin (pos lengths) (cycle_length_of p node.even -ℤ cycle_length_of p sender.even)) senders
      (λ sender is_among. turned (pos lengths) (cycle_length_of p sender.even) (cycle_length_of p node.even) (sender_near p starts lengths beyond nodes double sender node is_among here).by_even) among

  own_and_kept : (some_keep : Bool) (next_lengths : ℕ) (one other : Member) → Contains nodes other → lost_lengths p flutter lengths ≤ next_lengths → OwnRates p flutter nodes one → KeptRate some_keep other
      → (even other_even : NodeRow) → IsNextEven p one.odd one.rate_term even → IsNextEven p other.odd other.rate_term other_even → IsWithin (pos next_lengths) (cycle_length_of p even -ℤ cycle_length_of p other_even)
  own_and_kept some_keep next_lengths one other there longer own keeps even other_even after other_after =
      less_sum lengths (steady_error p flutter) (amount p name.pClusterDriftDamping * longest_micro p) (cycle_change p) next_lengths (cycle_length_of p even) (cycle_length_of p other.even) (cycle_length_of p other_even) longer small
      (
      near_length p flutter own.senders (pos lengths) beyond walk (cycle_length_of p other.even) one.odd one.rates one.rate_term even is.sane is.walks own.some
      (senders_about p starts lengths beyond nodes own.senders double own.among) (lies_near other there own.senders own.among) own.round after
      )
      (kept_length some_keep other other_even there keeps other_after)

  -- a node that follows keeps no rate
  module _ (some_keep : Bool) (here_by : Member → Type 0) (has_row : some_keep ≡ true → (node : Member) → here_by node → Contains nodes node) where
    pub range_or : (next : ℤ) (one : Member) → here_by one → OwnOrKept some_keep p flutter nodes one → pos 0 ≤ℤ next → (beyond +ℤ walk) ≤ℤ next → (some_keep ≡ true → (beyond +ℤ pos (2 * cycle_change p)) ≤ℤ next)
        → WalksOn p next one.odd one.rate_term
    range_or next one here (inl own) next_from to_next further = range_own next one own next_from to_next
    range_or next one here (inr keeps) next_from to_next further = range_kept some_keep next one (has_row keeps.may one here) keeps (further keeps.may)

    pub lengths_or : (next_lengths : ℕ) (one other : Member) → here_by one → here_by other → lost_lengths p flutter lengths ≤ next_lengths
        → OwnOrKept some_keep p flutter nodes one → OwnOrKept some_keep p flutter nodes other → (even other_even : NodeRow)
        → IsNextEven p one.odd one.rate_term even → IsNextEven p other.odd other.rate_term other_even → IsWithin (pos next_lengths) (cycle_length_of p even -ℤ cycle_length_of p other_even)
    lengths_or next_lengths one other here there longer (inl own) (inl also) even other_even after other_after =
        lengths_sum lengths (2 * steady_error p flutter + 2 * (amount p name.pClusterDriftDamping * longest_micro p) + 2 * cycle_change p) next_lengths (cycle_length_of p even -ℤ cycle_length_of p other_even) longer
        (lengths_own one other own also even other_even after other_after)
    lengths_or next_lengths one other here there longer (inl own) (inr keeps) even other_even after other_after =
        own_and_kept some_keep next_lengths one other (has_row keeps.may other there) longer own keeps even other_even after other_after
    lengths_or next_lengths one other here there longer (inr keeps) (inl also) even other_even after other_after =
        turned (pos next_lengths) (cycle_length_of p other_even) (cycle_length_of p even)
        (own_and_kept some_keep next_lengths other one (has_row keeps.may one here) longer also keeps other_even even other_after after)
    lengths_or next_lengths one other here there longer (inr keeps) (inr also) even other_even after other_after =
        let at = has_row keeps.may one here in
        let also_at = has_row keeps.may other there in
        none_sum lengths (steady_error p flutter) (amount p name.pClusterDriftDamping * longest_micro p) (cycle_change p) next_lengths (cycle_length_of p one.even) (cycle_length_of p other.even) (cycle_length_of p even)
        (cycle_length_of p other_even) longer small (nodes_near p starts lengths beyond nodes double one other at also_at).by_even (kept_length some_keep one even at keeps after) (kept_length some_keep other other_even also_at also other_after)

-- nodes that have both of senders of their own come so near, whatever each of them has heard
pub lost_spreads_grow : (p : Values) (flutter : ℕ) (nodes : List Member) (starts lengths next_starts next_lengths : ℕ) (beyond walk next reach last : ℤ) (one other : Member)
    → IsSharpLimit p flutter beyond walk reach last → ActInReach p reach last nodes → pos 0 ≤ℤ next → (beyond +ℤ walk) ≤ℤ next
    → lost_starts p starts lengths ≤ next_starts → lost_lengths p flutter lengths ≤ next_lengths
    → AreSharp p starts lengths beyond (map (λ (node : Member). node.even) nodes)
    → ((node : Member) → Contains nodes node → ComputesOwn p flutter nodes last node)
    → Contains nodes one → Contains nodes other → ComeSharply p next_starts next_lengths next one other
lost_spreads_grow p flutter nodes starts lengths next_starts next_lengths beyond walk next reach last one other is acting next_from to_next grows longer sharp computes here there =
    let double : Double p starts lengths beyond nodes = record { sane = is.sane; sharp = sharp; regular = λ node at. (computes node at).regular } in
    let own = computes one here in
    let also = computes other there in
    record {
      uncut = uncut_own p flutter nodes starts lengths beyond walk reach last is acting double one here own.offsets;
      range = range_own p flutter nodes starts lengths beyond walk reach last is acting double next one own.rates next_from to_next;
      ends =
          starts_sum starts lengths (odd_spread p lengths) (arrival_error p) (longest_micro p) next_starts (corrected_end_of p one.odd -ℤ corrected_end_of p other.odd) grows
          (ends_own p flutter nodes starts lengths beyond walk reach last is acting double one other here there own.offsets also.offsets);
      lengths =
          λ even other_even after other_after.
          lengths_sum lengths (2 * steady_error p flutter + 2 * (amount p name.pClusterDriftDamping * longest_micro p) + 2 * cycle_change p) next_lengths (cycle_length_of p even -ℤ cycle_length_of p other_even) longer
          (lengths_own p flutter nodes starts lengths beyond walk reach last is acting double one other own.rates also.rates even other_even after other_after);
    }

pub one_loss_costs : OneLossCosts
one_loss_costs p flutter = (
  peak (sharp_lambda false p flutter) (steady_error p flutter) (longest_micro p) (amount p name.pClusterDriftDamping * longest_micro p) (cycle_change p) (arrival_error p) refl,
  later (sharp_lambda false p flutter) (steady_error p flutter) (longest_micro p) (amount p name.pClusterDriftDamping * longest_micro p) (cycle_change p) (arrival_error p) refl,
)
  where
    peak : (l e q c j a : ℕ) → l ≡ 2 * e + q + 2 * c + 2 * j
        → ((((l + 2 * j) + 2 * a + 3 * q) + l + (l + 2 * j) + 2 * a + 3 * q) + (l + (2 * e + 2 * c + 2 * j)) + ((l + (2 * e + 2 * c + 2 * j)) + 2 * j) + 2 * q)
        ≡ ((((l + 2 * j) + 2 * a + 3 * q) + l + (l + 2 * j) + 2 * q) + 4 * l + 2 * a + 2 * j + q)
    peak l e q c j a is = omega (arith, is)

    later : (l e q c j a : ℕ) → l ≡ 2 * e + q + 2 * c + 2 * j
        → ((((l + (2 * e + 2 * c + 2 * j)) + 2 * j) + 2 * a + 3 * q) + l + (l + 2 * j) + 2 * q) + q
        ≡ (((l + 2 * j) + 2 * a + 3 * q) + l + (l + 2 * j) + 2 * q) + l
    later l e q c j a is = omega (arith, is)
