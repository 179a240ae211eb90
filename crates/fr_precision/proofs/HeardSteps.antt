-- The step of a double cycle by what is heard in it: ends by offsets, lengths by rates.
use Rattle.std.proofs.Common.{◌≡◌, ◌⊎◌, ℕ, ◌+◌, ◌*◌, ◌≤◌, Bool, true, false, ℤ, pos, List, ◌++◌, All, inl, inr, sym, subst, arith}
use Rattle.std.specs.Prelude.{◌+ℤ◌, ◌-ℤ◌, ◌*ℤ◌, ◌≤ℤ◌, Contains}
use Rattle.std.proofs.lemmas.Int.{ints}
use Rattle.fr_base.specs.declared.node_row.NodeRow.{NodeRow}
use Rattle.fr_base.specs.declared.state.Outcome.TheVariants.{Within}
use Rattle.fr_base.specs.Within.{IsBetween, IsWithin}
use Rattle.fr_cluster.specs.Values.{Values}
use Rattle.fr_bound.specs.Bounds.{arrival_error, cycle_change, longest_micro}
use Rattle.fr_bound.specs.SharpBounds.{odd_spread, sharp_lambda}
use Rattle.fr_bound.specs.Sync.{cycle_length_of}
use Rattle.fr_bound.specs.declared.judging.Heard.{Heard}
use Rattle.fr_bound.specs.declared.judging.Heard.TheVariants.{Clean, Meeting, Poor}
use Rattle.fr_precision.specs.Among.{AllOffsets, AllRates, CommonOffsets, CommonRates, HeardSpreadsGo, LengthsGoTo, OffsetsSo, RatesSo, StartsGoTo}
use Rattle.fr_precision.specs.Ends.{EndsCome, SendApart}
use Rattle.fr_precision.specs.Lengths.{EvensWithin, IsNextEven, LengthsCome, WalksOn}
use Rattle.fr_precision.specs.Rows.{corrected_end_of, Sender}
use Rattle.fr_precision.specs.SharpStep.{ActInReach, IsSharpLimit}
use Rattle.fr_precision.specs.Step.{IsAmong, Member}
use Rattle.fr_precision.proofs.AmongSteps.{across, ends_own, lengths_or, odds, range_or, range_own, sends, starts_sum, takes_of, two, uncut_own}
use Rattle.fr_precision.proofs.EndLemmas.{ends_come_near_lem}
use Rattle.fr_precision.proofs.LengthLemmas.{lengths_come_near_lem}
use Rattle.fr_precision.proofs.MeetingSteps.{ends_come, lengths_come, lengths_itself, none_apart, of_one, of_other}
use Rattle.fr_precision.proofs.StepLemmas.{le_itself, nodes_near, senders_about, some_senders, Double}

-- ---- how near the next starts lie where ends come so near, and the next lengths

pub clean_starts : (p : Values) (starts lengths next : ℕ) (apart : ℤ) → StartsGoTo Clean p starts lengths next → EndsCome false p (pos starts) (pos lengths) (pos (odd_spread p lengths)) apart → IsWithin (pos next) apart
clean_starts p starts lengths next apart goes come = step (odd_spread p lengths) (arrival_error p) (longest_micro p) next apart goes come
  where
    step : (o e q n : ℕ) (x : ℤ) → o + 2 * e + 3 * q ≤ n → IsWithin (pos o +ℤ pos (2 * e + 3 * q)) x → IsWithin (pos n) x
    step o e q n x le near = record { low = omega (arith, ints, near.low); high = omega (arith, ints, near.high) }

pub meeting_starts : (p : Values) (starts lengths next : ℕ) (apart : ℤ) → StartsGoTo Meeting p starts lengths next → EndsCome true p (pos starts) (pos lengths) (pos (odd_spread p lengths)) apart → IsWithin (pos next) apart
meeting_starts p starts lengths next apart goes come = step starts lengths (odd_spread p lengths) (arrival_error p) (longest_micro p) next apart goes come
  where
    step : (s l o e q n : ℕ) (x : ℤ) → s + l + 2 * o + 4 * e + 7 * q ≤ 2 * n + 1 → IsWithin (pos s +ℤ pos l +ℤ (pos 2 *ℤ pos o) +ℤ pos (4 * e + 7 * q)) (pos 2 *ℤ x) → IsWithin (pos n) x
    step s l o e q n x le near = record { low = omega (arith, ints, near.low); high = omega (arith, ints, near.high) }

pub clean_lengths : (p : Values) (flutter lengths next : ℕ) (apart : ℤ) → LengthsGoTo Clean p flutter lengths next → LengthsCome false p flutter (pos lengths) apart → IsWithin (pos next) apart
clean_lengths p flutter lengths next apart goes come = step (sharp_lambda false p flutter) next apart goes come
  where
    step : (l n : ℕ) (x : ℤ) → l ≤ n → IsWithin (pos l) x → IsWithin (pos n) x
    step l n x le near = record { low = omega (arith, ints, near.low); high = omega (arith, ints, near.high) }

pub meeting_lengths : (p : Values) (flutter lengths next : ℕ) (apart : ℤ) → LengthsGoTo Meeting p flutter lengths next → LengthsCome true p flutter (pos lengths) apart → IsWithin (pos next) apart
meeting_lengths p flutter lengths next apart goes come = step lengths (sharp_lambda true p flutter) next apart goes come
  where
    step : (k l n : ℕ) (x : ℤ) → k + l ≤ 2 * n + 1 → IsWithin (pos k +ℤ pos l) (pos 2 *ℤ x) → IsWithin (pos n) x
    step k l n x le near = record { low = omega (arith, ints, near.low); high = omega (arith, ints, near.high) }

-- ---- any two nodes

module _
    (p : Values) (flutter : ℕ) (nodes : List Member) (starts lengths : ℕ) (beyond walk reach last : ℤ)
    (is : IsSharpLimit p flutter beyond walk reach last) (acting : ActInReach p reach last nodes) (double : Double p starts lengths beyond nodes)
    (senders : List Sender) where
  -- ---- offsets

  evens : All (IsAmong nodes) senders → EvensWithin p (pos lengths) senders
  evens among =
      across p flutter nodes starts lengths beyond walk reach last is acting double (λ sender. cycle_length_of p sender.even) (pos lengths) senders senders among among
      (λ x y is_among also. (two p flutter nodes starts lengths beyond walk reach last is acting double x y is_among also).by_even)

  send : All (IsAmong nodes) senders → All (λ sender. IsBetween (pos 0) last sender.action) senders → SendApart p (pos starts) (pos lengths) (pos (odd_spread p lengths)) senders
  send among acts = record {
    sending = λ i d short. sends p flutter nodes starts lengths beyond walk reach last is acting double _ (among i d short) (acts i d short);
    by_start =
        across p flutter nodes starts lengths beyond walk reach last is acting double (λ sender. sender.even.start) (pos starts) senders senders among among
        (λ x y is_among also. (two p flutter nodes starts lengths beyond walk reach last is acting double x y is_among also).by_start);
    by_even = evens among;
    by_odd =
        across p flutter nodes starts lengths beyond walk reach last is acting double (λ sender. cycle_length_of p sender.odd) (pos (odd_spread p lengths)) senders senders among among
        (λ x y is_among also. (two p flutter nodes starts lengths beyond walk reach last is acting double x y is_among also).by_odd);
  }

  module _ (one other : Member) (here : Contains nodes one) (there : Contains nodes other) where
    uncut_all : (beside : Bool) → AllOffsets beside p senders nodes last (λ node. Contains nodes node) → one.offset_term.outcome ≡ Within
    uncut_all beside all =
        uncut_own p flutter nodes starts lengths beyond walk reach last is acting double one here
        (record { senders = senders; some = some_senders beside senders one.offsets other.offsets (all.keep one other here there); among = all.among; acts = all.acts; round = all.rounds one here })

    ends_all : (beside : Bool) → AllOffsets beside p senders nodes last (λ node. Contains nodes node)
        → EndsCome beside p (pos starts) (pos lengths) (pos (odd_spread p lengths)) (corrected_end_of p one.odd -ℤ corrected_end_of p other.odd)
    ends_all beside all =
        ends_come_near_lem beside p senders (pos starts) (pos lengths) (pos (odd_spread p lengths)) reach reach one.odd other.odd one.offsets other.offsets one.offset_term other.offset_term is.sane
        (send all.among all.acts)
        (takes_of p flutter nodes starts lengths beyond walk reach last is acting double one here senders all.among all.acts (all.rounds one here))
        (takes_of p flutter nodes starts lengths beyond walk reach last is acting double other there senders all.among all.acts (all.rounds other there))
        (nodes_near p starts lengths beyond nodes double one other here there).by_odd (all.keep one other here there)

    ends_common : CommonOffsets p nodes last one other → EndsCome true p (pos starts) (pos lengths) (pos (odd_spread p lengths)) (corrected_end_of p one.odd -ℤ corrected_end_of p other.odd)
    ends_common c =
        let among = of_one (IsAmong nodes) c.common c.own c.other_own c.among in
        let also_among = of_other (IsAmong nodes) c.common c.own c.other_own c.among in
        let acts = of_one (λ sender. IsBetween (pos 0) last sender.action) c.common c.own c.other_own c.acts in
        let also_acts = of_other (λ sender. IsBetween (pos 0) last sender.action) c.common c.own c.other_own c.acts in
        ends_come p flutter nodes starts lengths beyond walk reach last is acting double one other (odd_spread p lengths) (le_itself (odd_spread p lengths))
        (odds p flutter nodes starts lengths beyond walk reach last is acting double one here) (odds p flutter nodes starts lengths beyond walk reach last is acting double other there)
        (nodes_near p starts lengths beyond nodes double one other here there).by_odd c.common c.own c.other_own among also_among acts also_acts c.enough
        (takes_of p flutter nodes starts lengths beyond walk reach last is acting double one here (c.common ++ c.own) among acts c.round)
        (takes_of p flutter nodes starts lengths beyond walk reach last is acting double other there (c.common ++ c.other_own) also_among also_acts c.other_round)

    pub uncut_so : (what : Heard) → OffsetsSo what p senders nodes last (λ node. Contains nodes node) → one.offset_term.outcome ≡ Within
    uncut_so Clean all = uncut_all false all
    uncut_so Meeting (inl all) = uncut_all true all
    uncut_so Meeting (inr meet) = uncut_own p flutter nodes starts lengths beyond walk reach last is acting double one here (meet.each one here)
    uncut_so Poor own = uncut_own p flutter nodes starts lengths beyond walk reach last is acting double one here (own one here)

    pub ends_so : (what : Heard) (next_starts : ℕ) → StartsGoTo what p starts lengths next_starts → OffsetsSo what p senders nodes last (λ node. Contains nodes node)
        → IsWithin (pos next_starts) (corrected_end_of p one.odd -ℤ corrected_end_of p other.odd)
    ends_so Clean next_starts goes all = clean_starts p starts lengths next_starts (corrected_end_of p one.odd -ℤ corrected_end_of p other.odd) goes (ends_all false all)
    ends_so Meeting next_starts goes (inl all) = meeting_starts p starts lengths next_starts (corrected_end_of p one.odd -ℤ corrected_end_of p other.odd) goes (ends_all true all)
    ends_so Meeting next_starts goes (inr meet) = by (meet.two one other here there)
      where
        by : (one ≡ other) ⊎ CommonOffsets p nodes last one other → IsWithin (pos next_starts) (corrected_end_of p one.odd -ℤ corrected_end_of p other.odd)
        by (inl same) =
            let At : Member → Type 0 = λ node. IsWithin (pos next_starts) (corrected_end_of p one.odd -ℤ corrected_end_of p node.odd) in
            subst At same (none_apart next_starts (corrected_end_of p one.odd))
        by (inr common) = meeting_starts p starts lengths next_starts (corrected_end_of p one.odd -ℤ corrected_end_of p other.odd) goes (ends_common common)
    ends_so Poor next_starts goes own =
        starts_sum starts lengths (odd_spread p lengths) (arrival_error p) (longest_micro p) next_starts (corrected_end_of p one.odd -ℤ corrected_end_of p other.odd) goes
        (ends_own p flutter nodes starts lengths beyond walk reach last is acting double one other here there (own one here) (own other there))

  -- ---- rates, of nodes that have rows or follow; those that keep their rates have rows

  module _ (some_keep : Bool) (has : Member → Type 0) (has_row : some_keep ≡ true → (node : Member) → has node → Contains nodes node) (one other : Member) (here : has one) (there : has other) where
    range_all : (beside : Bool) (next : ℤ) → AllRates beside p flutter senders nodes has → pos 0 ≤ℤ next → (beyond +ℤ walk) ≤ℤ next → WalksOn p next one.odd one.rate_term
    range_all beside next all next_from to_next =
        range_own p flutter nodes starts lengths beyond walk reach last is acting double next one
        (record { senders = senders; some = some_senders beside senders one.rates other.rates (all.keep one other here there); among = all.among; round = all.rounds one here }) next_from to_next

    lengths_all : (beside : Bool) → AllRates beside p flutter senders nodes has → (even other_even : NodeRow) → IsNextEven p one.odd one.rate_term even → IsNextEven p other.odd other.rate_term other_even
        → LengthsCome beside p flutter (pos lengths) (cycle_length_of p even -ℤ cycle_length_of p other_even)
    lengths_all beside all even other_even after other_after =
        lengths_come_near_lem beside p flutter senders (pos lengths) beyond walk one.odd other.odd one.rates other.rates one.rate_term other.rate_term even other_even is.sane is.walks
        (senders_about p starts lengths beyond nodes senders double all.among) (evens all.among) (all.rounds one here) (all.rounds other there) (all.keep one other here there) after other_after

    pub range_so : (what : Heard) (next : ℤ) → RatesSo what some_keep p flutter senders nodes has → pos 0 ≤ℤ next → (beyond +ℤ walk) ≤ℤ next → (some_keep ≡ true → (beyond +ℤ pos (2 * cycle_change p)) ≤ℤ next)
        → WalksOn p next one.odd one.rate_term
    range_so Clean next all next_from to_next further = range_all false next all next_from to_next
    range_so Meeting next (inl all) next_from to_next further = range_all true next all next_from to_next
    range_so Meeting next (inr meet) next_from to_next further = range_own p flutter nodes starts lengths beyond walk reach last is acting double next one (meet.each one here) next_from to_next
    range_so Poor next own next_from to_next further =
        range_or p flutter nodes starts lengths beyond walk reach last is acting double some_keep has has_row next one here (own one here) next_from to_next further

    pub lengths_so : (what : Heard) (next_lengths : ℕ) → LengthsGoTo what p flutter lengths next_lengths → RatesSo what some_keep p flutter senders nodes has
        → (even other_even : NodeRow) → IsNextEven p one.odd one.rate_term even → IsNextEven p other.odd other.rate_term other_even → IsWithin (pos next_lengths) (cycle_length_of p even -ℤ cycle_length_of p other_even)
    lengths_so Clean next_lengths goes all even other_even after other_after =
        clean_lengths p flutter lengths next_lengths (cycle_length_of p even -ℤ cycle_length_of p other_even) goes (lengths_all false all even other_even after other_after)
    lengths_so Meeting next_lengths goes (inl all) even other_even after other_after =
        meeting_lengths p flutter lengths next_lengths (cycle_length_of p even -ℤ cycle_length_of p other_even) goes (lengths_all true all even other_even after other_after)
    lengths_so Meeting next_lengths goes (inr meet) even other_even after other_after = by (meet.two one other here there)
      where
        by : (one ≡ other) ⊎ CommonRates p flutter nodes one other → IsWithin (pos next_lengths) (cycle_length_of p even -ℤ cycle_length_of p other_even)
        by (inl same) =
            let own = meet.each one here in
            let After : Member → Type 0 = λ node. IsNextEven p node.odd node.rate_term other_even in
            lengths_itself p flutter own.senders lengths next_lengths beyond walk one even other_even is.sane is.walks goes own.some (senders_about p starts lengths beyond nodes own.senders double own.among) own.round after
            (subst After (sym same) other_after)
        by (inr c) =
            meeting_lengths p flutter lengths next_lengths (cycle_length_of p even -ℤ cycle_length_of p other_even) goes
            (
            lengths_come p flutter nodes starts lengths beyond walk reach last is acting double one other c.common c.own c.other_own
            (of_one (IsAmong nodes) c.common c.own c.other_own c.among) (of_other (IsAmong nodes) c.common c.own c.other_own c.among) c.enough c.round c.other_round even other_even after other_after
            )
    lengths_so Poor next_lengths goes own even other_even after other_after =
        lengths_or p flutter nodes starts lengths beyond walk reach last is acting double some_keep has has_row next_lengths one other here there goes (own one here) (own other there) even other_even after other_after

pub heard_spreads_go : HeardSpreadsGo
heard_spreads_go what some_keep p flutter senders nodes starts lengths next_starts next_lengths beyond walk next reach last one other is acting next_from to_next further goes sharp heard here there =
    let double : Double p starts lengths beyond nodes = record { sane = is.sane; sharp = sharp; regular = heard.regular } in
    record {
      uncut = uncut_so p flutter nodes starts lengths beyond walk reach last is acting double senders one other here there what.offsets heard.offsets;
      range =
          range_so p flutter nodes starts lengths beyond walk reach last is acting double senders some_keep (λ node. Contains nodes node) (λ may node at. at) one other here there what.rates next heard.rates
          next_from to_next further;
      ends = ends_so p flutter nodes starts lengths beyond walk reach last is acting double senders one other here there what.offsets next_starts goes.0 heard.offsets;
      lengths =
          λ even other_even after other_after.
          lengths_so p flutter nodes starts lengths beyond walk reach last is acting double senders some_keep (λ node. Contains nodes node) (λ may node at. at) one other here there what.rates next_lengths goes.1 heard.rates
          even other_even after other_after;
    }
