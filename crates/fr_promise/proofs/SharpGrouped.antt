-- The sharper step of a cluster that nodes join.
use Rattle.std.proofs.Common.{◌≡◌, ℕ, ◌+◌, ◌-◌, ◌*◌, ◌/◌, ◌≤◌, Bool, true, false, ℤ, pos, List, ◌++◌, map, All, refl, subst, inl, inr, arith}
use Rattle.std.specs.Prelude.{◌⊎◌, ◌+ℤ◌, ◌-ℤ◌, ◌*ℤ◌, ◌≤ℤ◌, Contains}
use Rattle.std.proofs.lemmas.Int.{ints}
use Rattle.std.proofs.lemmas.List.Elements.{All-contains, All-contains_itself, All-map}
use Rattle.fr_base.specs.declared.node_row.NodeRow.{NodeRow}
use Rattle.fr_base.specs.declared.state.Outcome.TheVariants.{Within}
use Rattle.fr_base.specs.declared.state.State.TheVariants.{Active}
use Rattle.fr_base.specs.Within.{IsBetween, IsWithin}
use Rattle.fr_cluster.specs.Values.{Values, amount}
use Rattle.fr_cluster.specs.Sane.{IsSane}
use Rattle.fr_cluster.specs.declared.names.ParamName.TheVariants as name
use Rattle.fr_time.specs.Position.{floor_of}
use Rattle.fr_reception.specs.Listening.{first_start_of}
use Rattle.fr_bound.specs.declared.judging.Heard.{Heard}
use Rattle.fr_bound.specs.declared.judging.Heard.TheVariants.{Clean, Meeting, Poor}
use Rattle.fr_bound.specs.declared.judging.Heard.TheVariants as heard
use Rattle.fr_precision.specs.declared.kinds.Kinds.{Kinds}
use Rattle.fr_bound.specs.Bounds.{arrival_error, cycle_change, longest_micro}
use Rattle.fr_bound.specs.Sync.{cycle_length_of}
use Rattle.fr_precision.specs.Rows.{corrected_end_of, end_of, Sender}
use Rattle.fr_precision.specs.Instants.{gap_of, row_in, LieNear}
use Rattle.fr_precision.specs.Offsets.{IsOffsetRound, IsSending, NearAll}
use Rattle.fr_precision.specs.Placement.{IsRegular}
use Rattle.fr_precision.specs.Step.{IsAmong, IsFollowed, Member}
use Rattle.fr_precision.proofs.InstantLaws.{wider}
use Rattle.fr_precision.proofs.OffsetLaws.{offset_terms_are_uncut}
use Rattle.fr_precision.proofs.Senders.{All-along}
use Rattle.fr_runs.specs.Group.{Group, IsOf, WillHaveRow}
use Rattle.fr_bound.specs.SharpBounds.{last_action, near_by, odd_spread, sharp_precision, steady_error, wide_change}
use Rattle.fr_precision.specs.Lengths.{EvensAreAbout, IsNextEven, WalksOn, next_length_error}
use Rattle.fr_precision.specs.Ends.{EndsCome, SendApart, TakesOffsets}
use Rattle.fr_precision.specs.Among.{both, AllOffsets, AllRates, CommonOffsets, LengthsGoTo, LieAcross, OffsetsSo, OwnOffsets, OwnOrKept, OwnRates, RatesSo, StartsGoTo}
use Rattle.fr_precision.specs.SharpStep.{ActInReach, AreSharp, ComeSharply, IsSharpLimit}
use Rattle.fr_promise.specs.SharpJoining.{all_heard, second_apart_by, sharp_group_spread, GroupGoesTo, GroupSpread}
use Rattle.fr_promise.specs.SharpGroup.{AllIsHeard, AllIsHeardOfBoth, GroupHears, IsSteadyGroup, LastApart, SharpGroupsAreKept, StartApart, SteadyGroupsAreKept}
use Rattle.fr_precision.proofs.AmongSteps.{sends}
use Rattle.fr_precision.proofs.BoundLemmas.{floor_is, key_slots_act_early}
use Rattle.fr_precision.proofs.EndLemmas.{end_is_near, ending_of, ends_come_among_lem, ends_come_near_lem, Ending}
use Rattle.fr_promise.proofs.JoinBounds.{sharp_group_spread_goes}
use Rattle.fr_precision.proofs.LengthLemmas.{near_length, range_walks}
use Rattle.fr_precision.proofs.HeardSteps.{lengths_so}
use Rattle.fr_precision.proofs.MeetingSteps.{ends_come, none_apart, of_one, of_other}
use Rattle.fr_precision.proofs.NearLemmas.{actions_lie_near, odd_lengths_follow}
use Rattle.fr_promise.proofs.SharpListened.{sharp_first_length_is_near, sharp_first_start_is_near}
use Rattle.fr_precision.proofs.StepLemmas.{among_rows, ends_fit, le_itself, macroticks_stay_sharp, next_is_near, nodes_near, runs_of, senders_about, senders_near, some_senders, turned, Double}

-- ---- numbers

widen : (a b : ℕ) (x : ℤ) → a ≤ b → IsWithin (pos a) x → IsWithin (pos b) x
widen a b x le near = record { low = omega (arith, ints, le, near.low); high = omega (arith, ints, le, near.high) }

-- what two ends that come near are to the second start
second_by : (beside : Bool) (p : Values) (starts lengths first : ℕ) (apart : ℤ) → EndsCome beside p (pos starts) (pos lengths) (pos (odd_spread p first)) apart
    → IsWithin (pos (second_apart_by (all_heard beside) p starts lengths first)) apart
second_by false p starts lengths first apart come = step (odd_spread p first) (arrival_error p) (longest_micro p) apart come
  where
    step : (o e q : ℕ) (x : ℤ) → IsWithin (pos o +ℤ pos (2 * e + 3 * q)) x → IsWithin (pos (o + 2 * e + 3 * q)) x
    step o e q x near = record { low = omega (arith, ints, near.low); high = omega (arith, ints, near.high) }
second_by true p starts lengths first apart come = step starts lengths (odd_spread p first) (arrival_error p) (longest_micro p) (second_apart_by (all_heard true) p starts lengths first) apart refl come
  where
    step : (s l o e q half : ℕ) (x : ℤ) → half ≡ (s + l + 2 * o + 4 * e + 7 * q) / 2 → IsWithin (pos s +ℤ pos l +ℤ (pos 2 *ℤ pos o) +ℤ pos (4 * e + 7 * q)) (pos 2 *ℤ x) → IsWithin (pos half) x
    step s l o e q half x is near = let most : s + l + 2 * o + 4 * e + 7 * q ≤ 2 * half + 1 = omega (arith, is) in record { low = omega (arith, ints, most, near.low); high = omega (arith, ints, most, near.high) }

odds_wider : (p : Values) (a b : ℕ) → a ≤ b → odd_spread p a ≤ odd_spread p b
odds_wider p a b le = step a b (cycle_change p) le
  where
    step : (a b j : ℕ) → a ≤ b → a + 2 * j ≤ b + 2 * j
    step a b j le = omega (arith, le)

poor_sum : (s l o e q : ℕ) (x : ℤ) → IsWithin (pos s +ℤ pos l +ℤ pos o +ℤ pos (2 * e + 3 * q)) x → IsWithin (pos (s + l + o + 2 * e + 3 * q)) x
poor_sum s l o e q x near = record { low = omega (arith, ints, near.low); high = omega (arith, ints, near.high) }

-- the next starts take in those of nodes whose lengths lie as near as all
starts_by : (what : Heard) (p : Values) (starts lengths next_starts : ℕ) → StartsGoTo what p starts lengths next_starts → second_apart_by what p starts lengths lengths ≤ next_starts
starts_by Clean p starts lengths next_starts goes = goes
starts_by Meeting p starts lengths next_starts goes = half (starts + lengths + 2 * odd_spread p lengths + 4 * arrival_error p + 7 * longest_micro p) next_starts goes
  where
    half : (a n : ℕ) → a ≤ 2 * n + 1 → a / 2 ≤ n
    half a n le = omega (arith, le)
starts_by Poor p starts lengths next_starts goes = goes

-- a corrected end, a reference's end and a first start
first_start_sum : (s l j e t q n : ℕ) (end other start : ℤ) → s + 2 * l + 4 * j + 2 * e + t + 4 * q ≤ n → IsWithin (pos s +ℤ pos l +ℤ pos (l + 2 * j) +ℤ pos (e + 2 * q)) (end -ℤ other)
    → IsWithin (pos (e + t + 2 * q + 2 * j)) (start -ℤ other) → IsWithin (pos n) (end -ℤ start)
first_start_sum s l j e t q n end other start le near also = record { low = omega (arith, ints, le, near.low, also.high); high = omega (arith, ints, le, near.high, also.low) }

-- a next length, a reference's length and a first length
first_length_sum : (l t q w c j k n : ℕ) (next other first : ℤ) → k ≡ t + (q - 1) + w → l + 2 * k + c + 4 * j ≤ n → IsWithin (pos l +ℤ pos (k + c + j)) (next -ℤ other)
    → IsWithin (pos (t + (q - 1) + 3 * j)) (first -ℤ other) → IsWithin (pos n) (next -ℤ first)
first_length_sum l t q w c j k n next other first is le near also = record { low = omega (arith, ints, is, le, near.low, also.high); high = omega (arith, ints, is, le, near.high, also.low) }

-- what lies so near lies in the reach
near_fits : (p : Values) (starts lengths : ℕ) (reach : ℤ) → IsSane p → pos (near_by p starts lengths) ≤ℤ reach
    → (pos starts +ℤ pos lengths +ℤ floor_of (pos (last_action p) *ℤ pos (odd_spread p lengths)) p.macros +ℤ pos (longest_micro p)) ≤ℤ reach
near_fits p starts lengths reach sane fits =
    let macros = sane.ranges name.gMacroPerCycle in
    step starts lengths (last_action p * odd_spread p lengths / amount p name.gMacroPerCycle) (longest_micro p) (floor_of (pos (last_action p) *ℤ pos (odd_spread p lengths)) p.macros) reach
    (floor_is (last_action p) (odd_spread p lengths) p.macros (omega (arith, ints, macros.0))) fits
  where
    step : (s l f q : ℕ) (x r : ℤ) → x ≡ pos f → pos (s + l + f + q) ≤ℤ r → (pos s +ℤ pos l +ℤ x +ℤ pos q) ≤ℤ r
    step s l f q x r is fits = omega (arith, ints, is, fits)

-- so action points of two nodes lie within reach
pub apart_reached : (p : Values) (starts lengths : ℕ) (reach : ℤ) (is_odd : Bool) (row node : Member) (action : ℤ) → IsSane p → pos (near_by p starts lengths) ≤ℤ reach
    → IsRegular p row.even row.odd → IsRegular p node.even node.odd → StartApart starts row node → LastApart p lengths row node → pos 0 ≤ℤ action → action ≤ℤ pos (last_action p)
    → IsWithin reach (gap_of p is_odd action (row_in is_odd row.even row.odd) (row_in is_odd node.even node.odd))
apart_reached p starts lengths reach is_odd row node action sane fits one other start last from to =
    wider (pos starts +ℤ pos lengths +ℤ floor_of (pos (last_action p) *ℤ pos (odd_spread p lengths)) p.macros +ℤ pos (longest_micro p)) reach (gap_of p is_odd action (row_in is_odd row.even row.odd) (row_in is_odd node.even node.odd))
    (near_fits p starts lengths reach sane fits)
    (
    actions_lie_near p (pos starts) (pos lengths) (pos (odd_spread p lengths)) action (pos (last_action p)) is_odd row.even row.odd node.even node.odd sane
    (runs_of p row.even row.odd sane one) (runs_of p node.even node.odd sane other)
    (record { by_start = start; by_even = last; by_odd = odd_lengths_follow p lengths row.even row.odd node.even node.odd sane one other last })
    from to (key_slots_act_early p sane).1
    )

-- ---- how near a node lies to the nodes with rows

-- a node's action points lie within reach of those of each node with a row, and its even length so near theirs
pub record IsPlaced (p : Values) (rows : List Member) (lengths : ℕ) (reach : ℤ) (node : Member) : Type 0 where
  pub reached :
      (is_odd : Bool) (row : Member) (action : ℤ) → Contains rows row → pos 0 ≤ℤ action → action ≤ℤ pos (last_action p)
      → IsWithin reach (gap_of p is_odd action (row_in is_odd row.even row.odd) (row_in is_odd node.even node.odd))
  pub last : (row : Member) → Contains rows row → LastApart p lengths row node

-- ---- what each has heard

all_own_offsets : (beside : Bool) (p : Values) (senders : List Sender) (rows : List Member) (last : ℤ) (is : Member → Type 0) → AllOffsets beside p senders rows last is → (node : Member) → is node
    → OwnOffsets p rows last node
all_own_offsets beside p senders rows last is all node here = record {
  senders = senders;
  some = some_senders beside senders node.offsets node.offsets (all.keep node node here here);
  among = all.among;
  acts = all.acts;
  round = all.rounds node here;
}

all_own_rates : (beside : Bool) (p : Values) (flutter : ℕ) (senders : List Sender) (rows : List Member) (is : Member → Type 0) → AllRates beside p flutter senders rows is → (node : Member) → is node
    → OwnRates p flutter rows node
all_own_rates beside p flutter senders rows is all node here = record {
  senders = senders;
  some = some_senders beside senders node.rates node.rates (all.keep node node here here);
  among = all.among;
  round = all.rounds node here;
}

-- each has offset values of senders of its own, whatever is heard
own_offsets : (what : Heard) (p : Values) (senders : List Sender) (rows : List Member) (last : ℤ) (is : Member → Type 0) → OffsetsSo what p senders rows last is → (node : Member) → is node → OwnOffsets p rows last node
own_offsets Clean p senders rows last is hears node here = all_own_offsets false p senders rows last is hears node here
own_offsets Meeting p senders rows last is (inl hears) node here = all_own_offsets true p senders rows last is hears node here
own_offsets Meeting p senders rows last is (inr hears) node here = hears.each node here
own_offsets Poor p senders rows last is hears node here = hears node here

-- and rate values, where none keeps its rate
own_rates : (what : Heard) (p : Values) (flutter : ℕ) (senders : List Sender) (rows : List Member) (is : Member → Type 0) → RatesSo what false p flutter senders rows is → (node : Member) → is node → OwnRates p flutter rows node
own_rates Clean p flutter senders rows is hears node here = all_own_rates false p flutter senders rows is hears node here
own_rates Meeting p flutter senders rows is (inl hears) node here = all_own_rates true p flutter senders rows is hears node here
own_rates Meeting p flutter senders rows is (inr hears) node here = hears.each node here
own_rates Poor p flutter senders rows is hears node here = none_keeps (hears node here)
  where
    none_keeps : OwnOrKept false p flutter rows node → OwnRates p flutter rows node
    none_keeps (inl own) = own
    none_keeps (inr kept) = let never : false ≡ true = kept.may in absurd (cc never)

module _
    (p : Values) (flutter : ℕ) (now : GroupSpread) (beyond walk : ℤ) (senders : List Sender) (g : Group) (reach : ℤ)
    (s : IsSteadyGroup p flutter now beyond walk senders g reach) (wide : now.rows.lengths ≤ now.firsts.lengths)
    (regular : (node : Member) → IsOf g node → IsRegular p node.even node.odd) where
  row_of : (node : Member) → Contains g.rows node → IsOf g node
  row_of node here = inl (inl here)

  limit : IsSharpLimit p flutter beyond walk reach (pos (last_action p))
  limit = record { sane = s.sane; walks = s.walks; suffices = s.takes.limit; early = (key_slots_act_early p s.sane).1 }

  double : Double p now.rows.starts now.rows.lengths beyond g.rows
  double = record { sane = s.sane; sharp = s.placed.sharp; regular = λ node here. regular node (row_of node here) }

  rows_near : (one other : Member) → Contains g.rows one → Contains g.rows other → LieNear p (pos now.rows.starts) (pos now.rows.lengths) (pos (odd_spread p now.rows.lengths)) one.even one.odd other.even other.odd
  rows_near one other here there = nodes_near p now.rows.starts now.rows.lengths beyond g.rows double one other here there

  placed_by : (starts lengths : ℕ) (node : Member) → IsOf g node → pos (near_by p starts lengths) ≤ℤ reach → ((row : Member) → Contains g.rows row → StartApart starts row node)
      → ((row : Member) → Contains g.rows row → LastApart p lengths row node) → IsPlaced p g.rows lengths reach node
  placed_by starts lengths node here fits start last = record {
    reached = λ is_odd row action there from to.
        apart_reached p starts lengths reach is_odd row node action s.sane fits (regular row (row_of row there)) (regular node here) (start row there) (last row there) from to;
    last = last;
  }

  will_placed : (node : Member) → WillHaveRow g node → IsPlaced p g.rows now.rows.lengths reach node
  will_placed node (inl here) =
      placed_by now.rows.starts now.rows.lengths node (inl (inl here)) s.takes.fits (λ row there. (rows_near row node there here).by_start) (λ row there. (rows_near row node there here).by_even)
  will_placed node (inr here) =
      placed_by now.seconds now.rows.lengths node (inl (inr here)) (s.takes.fits_seconds node here) (λ row there. s.placed.seconds_start row node there here)
      (λ row there. s.placed.seconds_last row node (inl there) here)

  all_placed : (node : Member) → IsOf g node → IsPlaced p g.rows now.firsts.lengths reach node
  all_placed node (inl here) =
      let placed = will_placed node here in
      record {
        reached = placed.reached;
        last = λ row there. widen now.rows.lengths now.firsts.lengths (cycle_length_of p row.even -ℤ cycle_length_of p node.even) wide (placed.last row there);
      }
  all_placed node (inr here) =
      placed_by now.firsts.starts now.firsts.lengths node (inr here) (s.takes.fits_firsts node here) (λ row there. s.placed.firsts_start row node there here)
      (λ row there. s.placed.firsts_last row node (inl there) here)

  rows_act : ActInReach p reach (pos (last_action p)) g.rows
  rows_act is_odd one other action here there from to = (will_placed other (inl there)).reached is_odd one action here from to

  lasts_near : (one other : Member) → WillHaveRow g one → WillHaveRow g other → LastApart p now.rows.lengths one other
  lasts_near one other here (inr there) = s.placed.seconds_last one other here there
  lasts_near one other (inl here) (inl there) = (rows_near one other here there).by_even
  lasts_near one other (inr here) (inl there) = turned (pos now.rows.lengths) (cycle_length_of p other.even) (cycle_length_of p one.even) (s.placed.seconds_last other one (inl there) here)

  -- ---- senders among the nodes with rows, and what a node takes from them

  sends_one : (sender : Sender) → IsAmong g.rows sender → IsBetween (pos 0) (pos (last_action p)) sender.action → IsSending p sender
  sends_one = sends p flutter g.rows now.rows.starts now.rows.lengths beyond walk reach (pos (last_action p)) limit rows_act double

  sends_all : (others : List Sender) → All (IsAmong g.rows) others → All (λ sender. IsBetween (pos 0) (pos (last_action p)) sender.action) others → All (IsSending p) others
  sends_all others among acts i d short = sends_one _ (among i d short) (acts i d short)

  pair_near : (one other : Sender) → IsAmong g.rows one → IsAmong g.rows other
      → LieNear p (pos now.rows.starts) (pos now.rows.lengths) (pos (odd_spread p now.rows.lengths)) one.even one.odd other.even other.odd
  pair_near one other among also = senders_near p now.rows.starts now.rows.lengths beyond g.rows double one other among also

  pair_odd : (lengths : ℕ) → now.rows.lengths ≤ lengths → (one other : Sender) → IsAmong g.rows one → IsAmong g.rows other
      → IsWithin (pos (odd_spread p lengths)) (cycle_length_of p one.odd -ℤ cycle_length_of p other.odd)
  pair_odd lengths le one other among also =
      widen (odd_spread p now.rows.lengths) (odd_spread p lengths) (cycle_length_of p one.odd -ℤ cycle_length_of p other.odd) (odds_wider p now.rows.lengths lengths le)
      (pair_near one other among also).by_odd

  across : (number : Sender → ℤ) (bound : ℤ) (some others : List Sender) → All (IsAmong g.rows) some → All (IsAmong g.rows) others
      → ((one other : Sender) → IsAmong g.rows one → IsAmong g.rows other → IsWithin bound (number one -ℤ number other)) → LieAcross number bound some others
  across number bound some others among also near =
      All-along (IsAmong g.rows) (λ one. All (λ (other : Sender). IsWithin bound (number one -ℤ number other)) others) some
      (λ one is_among. All-along (IsAmong g.rows) (λ other. IsWithin bound (number one -ℤ number other)) others (λ other also_among. near one other is_among also_among) also) among

  odd_near : (lengths : ℕ) (node : Member) → IsOf g node → IsPlaced p g.rows lengths reach node → (sender : Sender) → IsAmong g.rows sender
      → IsWithin (pos (odd_spread p lengths)) (cycle_length_of p node.odd -ℤ cycle_length_of p sender.odd)
  odd_near lengths node here placed sender among =
      among_rows (λ even odd. IsWithin (pos (odd_spread p lengths)) (cycle_length_of p node.odd -ℤ cycle_length_of p odd)) g.rows sender among
      (λ row there.
      turned (pos (odd_spread p lengths)) (cycle_length_of p row.odd) (cycle_length_of p node.odd)
      (odd_lengths_follow p lengths row.even row.odd node.even node.odd s.sane (regular row (row_of row there)) (regular node here) (placed.last row there)))

  near_all : (lengths : ℕ) (node : Member) → IsOf g node → IsPlaced p g.rows lengths reach node → (others : List Sender) → All (IsAmong g.rows) others → NearAll p (pos (odd_spread p lengths)) others node.odd
  near_all lengths node here placed others among =
      All-along (IsAmong g.rows) (λ (sender : Sender). IsWithin (pos (odd_spread p lengths)) (cycle_length_of p node.odd -ℤ cycle_length_of p sender.odd)) others
      (λ sender is. odd_near lengths node here placed sender is) among

  takes : (lengths : ℕ) (node : Member) → IsOf g node → IsPlaced p g.rows lengths reach node → (others : List Sender) → All (IsAmong g.rows) others
      → All (λ sender. IsBetween (pos 0) (pos (last_action p)) sender.action) others → IsOffsetRound p others node.odd node.offsets node.offset_term
      → TakesOffsets p others reach (pos (odd_spread p lengths)) node.odd node.offsets node.offset_term
  takes lengths node here placed others among acts round = record {
    suffices = s.takes.limit;
    reached = λ i d short. reached _ (among i d short) (acts i d short);
    near = near_all lengths node here placed others among;
    round = round;
  }
    where
      reached : (sender : Sender) → IsAmong g.rows sender → IsBetween (pos 0) (pos (last_action p)) sender.action → IsWithin reach (gap_of p true sender.action sender.odd node.odd)
      reached sender is acts =
          among_rows (λ even odd. IsWithin reach (gap_of p true sender.action odd node.odd)) g.rows sender is
          (λ row there. placed.reached true row sender.action there acts.low acts.high)

  takes_own : (lengths : ℕ) (node : Member) → IsOf g node → IsPlaced p g.rows lengths reach node → (own : OwnOffsets p g.rows (pos (last_action p)) node)
      → TakesOffsets p own.senders reach (pos (odd_spread p lengths)) node.odd node.offsets node.offset_term
  takes_own lengths node here placed own = takes lengths node here placed own.senders own.among own.acts own.round

  about : (others : List Sender) → All (IsAmong g.rows) others → EvensAreAbout p beyond others
  about others among = senders_about p now.rows.starts now.rows.lengths beyond g.rows others double among

  -- ---- each node

  own_uncut : (node : Member) → IsOf g node → OwnOffsets p g.rows (pos (last_action p)) node → node.offset_term.outcome ≡ Within
  own_uncut node here own =
      let offsets = takes_own now.firsts.lengths node here (all_placed node here) own in
      offset_terms_are_uncut p own.senders reach node.odd node.offsets node.offset_term s.sane s.takes.limit own.some offsets.reached offsets.round

  own_range : (next : ℤ) (node : Member) → OwnRates p flutter g.rows node → pos 0 ≤ℤ next → (beyond +ℤ walk) ≤ℤ next → WalksOn p next node.odd node.rate_term
  own_range next node own next_from next_to =
      range_walks p flutter own.senders beyond walk next node.odd node.rates node.rate_term s.sane s.walks own.some (about own.senders own.among) own.round next_from next_to

  -- the corrected end of one that will have a row lies near each sender's end, and the next length of each near its even one
  end_by_reference : (row : Member) (reference : Sender) → WillHaveRow g row → OwnOffsets p g.rows (pos (last_action p)) row → Contains senders reference
      → IsWithin (pos now.rows.starts +ℤ pos now.rows.lengths +ℤ pos (odd_spread p now.rows.lengths) +ℤ pos (arrival_error p + 2 * longest_micro p)) (corrected_end_of p row.odd -ℤ end_of p reference.odd)
  end_by_reference row reference here own there =
      end_is_near p own.senders (pos now.rows.starts) (pos now.rows.lengths) (pos (odd_spread p now.rows.lengths)) reach row.odd row.offsets row.offset_term s.sane own.some
      (takes_own now.rows.lengths row (inl here) (will_placed row here) own) reference
      (λ i d short. ending _ (own.among i d short) (own.acts i d short))
    where
      ending : (sender : Sender) → IsAmong g.rows sender → IsBetween (pos 0) (pos (last_action p)) sender.action
          → Ending p (pos now.rows.starts) (pos now.rows.lengths) (pos (odd_spread p now.rows.lengths)) row.odd reference sender
      ending sender is_among is_early =
          let among = All-contains (IsAmong g.rows) senders reference s.among there in
          let near = pair_near sender reference is_among among in
          ending_of p (pos now.rows.starts) (pos now.rows.lengths) (pos (odd_spread p now.rows.lengths)) row.odd reference sender
          (sends_one reference among (All-contains (λ (sender : Sender). IsBetween (pos 0) (pos (last_action p)) sender.action) senders reference s.acts there)) (sends_one sender is_among is_early)
          near.by_start near.by_even near.by_odd (odd_near now.rows.lengths row (inl here) (will_placed row here) reference among)

  length_by_reference : (other : Member) (reference : Sender) (even : NodeRow) → OwnRates p flutter g.rows other → Contains senders reference → IsNextEven p other.odd other.rate_term even
      → IsWithin (pos now.rows.lengths +ℤ pos (next_length_error p flutter)) (cycle_length_of p even -ℤ cycle_length_of p reference.even)
  length_by_reference other reference even own there after =
      let among = All-contains (IsAmong g.rows) senders reference s.among there in
      near_length p flutter own.senders (pos now.rows.lengths) beyond walk (cycle_length_of p reference.even) other.odd other.rates other.rate_term even s.sane s.walks own.some (about own.senders own.among)
      (
      All-along (IsAmong g.rows) (λ (sender : Sender). IsWithin (pos now.rows.lengths) (cycle_length_of p reference.even -ℤ cycle_length_of p sender.even)) own.senders
      (λ sender also. (pair_near reference sender among also).by_even) own.among
      ) own.round after

  -- ---- any two, where each has heard senders of its own

  ends_own : (lengths : ℕ) (one other : Member) → now.rows.lengths ≤ lengths → IsOf g one → IsOf g other → IsPlaced p g.rows lengths reach one → IsPlaced p g.rows lengths reach other → LastApart p lengths one other
      → OwnOffsets p g.rows (pos (last_action p)) one → OwnOffsets p g.rows (pos (last_action p)) other
      → IsWithin (pos (second_apart_by heard.Poor p now.rows.starts now.rows.lengths lengths)) (corrected_end_of p one.odd -ℤ corrected_end_of p other.odd)
  ends_own lengths one other le here there placed also near is as_well =
      let odds = pos (odd_spread p lengths) in
      poor_sum now.rows.starts now.rows.lengths (odd_spread p lengths) (arrival_error p) (longest_micro p) (corrected_end_of p one.odd -ℤ corrected_end_of p other.odd)
      (
      ends_come_among_lem p is.senders as_well.senders (pos now.rows.starts) (pos now.rows.lengths) odds reach reach one.odd other.odd one.offsets other.offsets one.offset_term other.offset_term
      s.sane is.some as_well.some (sends_all is.senders is.among is.acts) (sends_all as_well.senders as_well.among as_well.acts)
      (across (λ sender. sender.even.start) (pos now.rows.starts) is.senders as_well.senders is.among as_well.among (λ x y among also_among. (pair_near x y among also_among).by_start))
      (across (λ sender. cycle_length_of p sender.even) (pos now.rows.lengths) is.senders as_well.senders is.among as_well.among (λ x y among also_among. (pair_near x y among also_among).by_even))
      (across (λ sender. cycle_length_of p sender.odd) odds is.senders as_well.senders is.among as_well.among (λ x y among also_among. pair_odd lengths le x y among also_among))
      (takes_own lengths one here placed is) (takes_own lengths other there also as_well)
      (near_all lengths one here placed as_well.senders as_well.among) (near_all lengths other there also is.senders is.among)
      (odd_lengths_follow p lengths one.even one.odd other.even other.odd s.sane (regular one here) (regular other there) near)
      )

  -- ---- any two that hear enough in common

  ends_common : (lengths : ℕ) (one other : Member) → now.rows.lengths ≤ lengths → IsOf g one → IsOf g other → IsPlaced p g.rows lengths reach one → IsPlaced p g.rows lengths reach other → LastApart p lengths one other
      → (one ≡ other) ⊎ CommonOffsets p g.rows (pos (last_action p)) one other
      → IsWithin (pos (second_apart_by heard.Meeting p now.rows.starts now.rows.lengths lengths)) (corrected_end_of p one.odd -ℤ corrected_end_of p other.odd)
  ends_common lengths one other le here there placed also near (inl same) =
      let Near : Member → Type 0 = λ node. IsWithin (pos (second_apart_by heard.Meeting p now.rows.starts now.rows.lengths lengths)) (corrected_end_of p one.odd -ℤ corrected_end_of p node.odd) in
      subst Near same (none_apart (second_apart_by heard.Meeting p now.rows.starts now.rows.lengths lengths) (corrected_end_of p one.odd))
  ends_common lengths one other le here there placed also near (inr is) =
      let Early : Sender → Type 0 = λ sender. IsBetween (pos 0) (pos (last_action p)) sender.action in
      let among = of_one (IsAmong g.rows) is.common is.own is.other_own is.among in
      let other_among = of_other (IsAmong g.rows) is.common is.own is.other_own is.among in
      let acts = of_one Early is.common is.own is.other_own is.acts in
      let other_acts = of_other Early is.common is.own is.other_own is.acts in
      second_by true p now.rows.starts now.rows.lengths lengths (corrected_end_of p one.odd -ℤ corrected_end_of p other.odd)
      (
      ends_come p flutter g.rows now.rows.starts now.rows.lengths beyond walk reach (pos (last_action p)) limit rows_act double one other (odd_spread p lengths) (odds_wider p now.rows.lengths lengths le)
      (odd_near lengths one here placed) (odd_near lengths other there also) (odd_lengths_follow p lengths one.even one.odd other.even other.odd s.sane (regular one here) (regular other there) near)
      is.common is.own is.other_own among other_among acts other_acts is.enough
      (takes lengths one here placed (is.common ++ is.own) among acts is.round)
      (takes lengths other there also (is.common ++ is.other_own) other_among other_acts is.other_round)
      )

  -- ---- any two, where all is heard

  send_all : (lengths : ℕ) → now.rows.lengths ≤ lengths → SendApart p (pos now.rows.starts) (pos now.rows.lengths) (pos (odd_spread p lengths)) senders
  send_all lengths le = record {
    sending = sends_all senders s.among s.acts;
    by_start = across (λ sender. sender.even.start) (pos now.rows.starts) senders senders s.among s.among (λ x y among also. (pair_near x y among also).by_start);
    by_even = across (λ sender. cycle_length_of p sender.even) (pos now.rows.lengths) senders senders s.among s.among (λ x y among also. (pair_near x y among also).by_even);
    by_odd = across (λ sender. cycle_length_of p sender.odd) (pos (odd_spread p lengths)) senders senders s.among s.among (λ x y among also. pair_odd lengths le x y among also);
  }

  ends_all : (beside : Bool) → AllOffsets beside p senders g.rows (pos (last_action p)) (λ node. IsOf g node) → (lengths : ℕ) (one other : Member) → now.rows.lengths ≤ lengths → IsOf g one → IsOf g other
      → IsPlaced p g.rows lengths reach one → IsPlaced p g.rows lengths reach other → LastApart p lengths one other
      → IsWithin (pos (second_apart_by (all_heard beside) p now.rows.starts now.rows.lengths lengths)) (corrected_end_of p one.odd -ℤ corrected_end_of p other.odd)
  ends_all beside all lengths one other le here there placed also near =
      second_by beside p now.rows.starts now.rows.lengths lengths (corrected_end_of p one.odd -ℤ corrected_end_of p other.odd)
      (
      ends_come_near_lem beside p senders (pos now.rows.starts) (pos now.rows.lengths) (pos (odd_spread p lengths)) reach reach one.odd other.odd one.offsets other.offsets one.offset_term other.offset_term s.sane
      (send_all lengths le)
      (takes lengths one here placed senders s.among s.acts (all.rounds one here)) (takes lengths other there also senders s.among s.acts (all.rounds other there))
      (odd_lengths_follow p lengths one.even one.odd other.even other.odd s.sane (regular one here) (regular other there) near) (all.keep one other here there)
      )

  -- ---- by what is heard: ends by offsets, and lengths by rates

  ends : (what : Heard) → OffsetsSo what p senders g.rows (pos (last_action p)) (λ node. IsOf g node) → (lengths : ℕ) (one other : Member) → now.rows.lengths ≤ lengths → IsOf g one → IsOf g other
      → IsPlaced p g.rows lengths reach one → IsPlaced p g.rows lengths reach other → LastApart p lengths one other
      → IsWithin (pos (second_apart_by what p now.rows.starts now.rows.lengths lengths)) (corrected_end_of p one.odd -ℤ corrected_end_of p other.odd)
  ends Clean hears lengths one other le here there placed also near = ends_all false hears lengths one other le here there placed also near
  ends Meeting (inl hears) lengths one other le here there placed also near = ends_all true hears lengths one other le here there placed also near
  ends Meeting (inr hears) lengths one other le here there placed also near = ends_common lengths one other le here there placed also near (hears.two one other here there)
  ends Poor hears lengths one other le here there placed also near = ends_own lengths one other le here there placed also near (hears one here) (hears other there)

  lasts : (what : Heard) → RatesSo what false p flutter senders g.rows (λ node. IsOf g node) → (next_lengths : ℕ) → LengthsGoTo what p flutter now.rows.lengths next_lengths → (one other : Member) (even other_even : NodeRow)
      → IsOf g one → IsOf g other → IsNextEven p one.odd one.rate_term even → IsNextEven p other.odd other.rate_term other_even
      → IsWithin (pos next_lengths) (cycle_length_of p even -ℤ cycle_length_of p other_even)
  lasts what hears next_lengths goes one other even other_even here there =
      lengths_so p flutter g.rows now.rows.starts now.rows.lengths beyond walk reach (pos (last_action p)) limit rows_act double senders false (λ node. IsOf g node) none_keeps one other here there what next_lengths goes hears
      even other_even
    where
      none_keeps : false ≡ true → (node : Member) → IsOf g node → Contains g.rows node
      none_keeps never node here = absurd (cc never)

-- ---- the step

module _
    (what : Kinds) (p : Values) (flutter : ℕ) (now to : GroupSpread) (beyond walk : ℤ) (senders : List Sender) (g : Group) (reach : ℤ)
    (s : IsSteadyGroup p flutter now beyond walk senders g reach) (hears : GroupHears what p flutter senders g) (goes : GroupGoesTo what p flutter now to) where
  offsets_at : (node : Member) → IsOf g node → OwnOffsets p g.rows (pos (last_action p)) node
  offsets_at = own_offsets what.offsets p senders g.rows (pos (last_action p)) (λ node. IsOf g node) hears.offsets

  rates_at : (node : Member) → IsOf g node → OwnRates p flutter g.rows node
  rates_at = own_rates what.rates p flutter senders g.rows (λ node. IsOf g node) hears.rates

  will_lie : (node : Member) → WillHaveRow g node → IsPlaced p g.rows now.rows.lengths reach node
  will_lie = will_placed p flutter now beyond walk senders g reach s goes.wide hears.regular

  all_lie_near : (node : Member) → IsOf g node → IsPlaced p g.rows now.firsts.lengths reach node
  all_lie_near = all_placed p flutter now beyond walk senders g reach s goes.wide hears.regular

  uncut_at : (node : Member) → IsOf g node → node.offset_term.outcome ≡ Within
  uncut_at node here = own_uncut p flutter now beyond walk senders g reach s goes.wide hears.regular node here (offsets_at node here)

  range_at : (next : ℤ) (node : Member) → IsOf g node → pos 0 ≤ℤ next → (beyond +ℤ walk) ≤ℤ next → WalksOn p next node.odd node.rate_term
  range_at next node here next_from next_to = own_range p flutter now beyond walk senders g reach s goes.wide hears.regular next node (rates_at node here) next_from next_to

  ends_at : (lengths : ℕ) (one other : Member) → now.rows.lengths ≤ lengths → IsOf g one → IsOf g other → IsPlaced p g.rows lengths reach one → IsPlaced p g.rows lengths reach other → LastApart p lengths one other
      → IsWithin (pos (second_apart_by what.offsets p now.rows.starts now.rows.lengths lengths)) (corrected_end_of p one.odd -ℤ corrected_end_of p other.odd)
  ends_at = ends p flutter now beyond walk senders g reach s goes.wide hears.regular what.offsets hears.offsets

  lasts_at : (one other : Member) (even other_even : NodeRow) → IsOf g one → IsOf g other → IsNextEven p one.odd one.rate_term even → IsNextEven p other.odd other.rate_term other_even
      → IsWithin (pos to.rows.lengths) (cycle_length_of p even -ℤ cycle_length_of p other_even)
  lasts_at = lasts p flutter now beyond walk senders g reach s goes.wide hears.regular what.rates hears.rates to.rows.lengths goes.rows.1

  come : (next : ℤ) (one other : Member) → pos 0 ≤ℤ next → (beyond +ℤ walk) ≤ℤ next → WillHaveRow g one → WillHaveRow g other → ComeSharply p to.rows.starts to.rows.lengths next one other
  come next one other next_from next_to here there = record {
    uncut = uncut_at one (inl here);
    range = range_at next one (inl here) next_from next_to;
    ends =
        widen (second_apart_by what.offsets p now.rows.starts now.rows.lengths now.rows.lengths) to.rows.starts (corrected_end_of p one.odd -ℤ corrected_end_of p other.odd)
        (starts_by what.offsets p now.rows.starts now.rows.lengths to.rows.starts goes.rows.0)
        (
        ends_at now.rows.lengths one other (le_itself now.rows.lengths) (inl here) (inl there) (will_lie one here) (will_lie other there)
        (lasts_near p flutter now beyond walk senders g reach s goes.wide hears.regular one other here there)
        );
    lengths = λ even other_even after other_after. lasts_at one other even other_even (inl here) (inl there) after other_after;
  }

  rows_next : (next : ℤ) → pos 0 ≤ℤ next → (beyond +ℤ walk) ≤ℤ next → (nodes : List Member) (next_even next_odd : Member → NodeRow)
      → ((node : Member) → Contains nodes node → WillHaveRow g node × IsFollowed p node (next_even node) (next_odd node))
      → All (λ row. row.state ≡ Active) (map next_even nodes) × All (λ row. row.state ≡ Active) (map next_odd nodes) × AreSharp p to.rows.starts to.rows.lengths next (map next_even nodes)
  rows_next next next_from next_to nodes next_even next_odd follow =
      let Follows : Member → Type 0 = λ node. IsFollowed p node (next_even node) (next_odd node) in
      let followed = All-along (Contains nodes) Follows nodes (λ node here. (follow node here).1) (All-contains_itself nodes) in (
        All-map (λ (row : NodeRow). row.state ≡ Active) next_even nodes (All-along Follows (λ node. (next_even node).state ≡ Active) nodes (λ node is. is.active_even) followed),
        All-map (λ (row : NodeRow). row.state ≡ Active) next_odd nodes (All-along Follows (λ node. (next_odd node).state ≡ Active) nodes (λ node is. is.active_odd) followed),
        next_is_near p nodes to.rows.starts to.rows.lengths next next_even next_odd (λ one other here there. come next one other next_from next_to (follow one here).0 (follow other there).0) followed,
      )

  starts_second : (row node : Member) → WillHaveRow g row → Contains g.firsts node → IsWithin (pos to.seconds) (corrected_end_of p row.odd -ℤ corrected_end_of p node.odd)
  starts_second row node here there =
      widen (second_apart_by what.offsets p now.rows.starts now.rows.lengths now.firsts.lengths) to.seconds (corrected_end_of p row.odd -ℤ corrected_end_of p node.odd) goes.seconds
      (ends_at now.firsts.lengths row node goes.wide (inl here) (inr there) (all_lie_near row (inl here)) (all_lie_near node (inr there)) (s.placed.firsts_last row node here there))

pub steady_groups_are_kept : SteadyGroupsAreKept
steady_groups_are_kept what p flutter now to apart beyond walk next senders g reach s hears goes fits ends_fit next_from next_to = record {
  reached = λ is_odd row node action there here from last. (all_lie_near what p flutter now to beyond walk senders g reach s hears goes node here).reached is_odd row action there from last;
  uncut = λ node here. uncut_at what p flutter now to beyond walk senders g reach s hears goes node here;
  range = λ node here. range_at what p flutter now to beyond walk senders g reach s hears goes next node here next_from next_to;
  precise =
      λ one other macrotick is_odd here there from last.
      macroticks_stay_sharp p now.rows.starts now.rows.lengths to.rows.starts to.rows.lengths beyond next g.rows one other apart macrotick is_odd s.sane s.placed.sharp
      (All-along (Contains g.rows) (λ (node : Member). IsRegular p node.even node.odd) g.rows (λ node at. hears.regular node (inl (inl at))) (All-contains_itself g.rows)) here there
      (come what p flutter now to beyond walk senders g reach s hears goes next one other next_from next_to (inl here) (inl there)) fits ends_fit from last;
  next_rows = rows_next what p flutter now to beyond walk senders g reach s hears goes next next_from next_to;
  second_starts = starts_second what p flutter now to beyond walk senders g reach s hears goes;
  second_lasts = λ other node even node_even here there after node_after. lasts_at what p flutter now to beyond walk senders g reach s hears goes other node even node_even here (inr there) after node_after;
  first_starts =
      λ row c reference rate here there caught.
      first_start_sum now.rows.starts now.rows.lengths (cycle_change p) (arrival_error p) flutter (longest_micro p) to.firsts.starts (corrected_end_of p row.odd) (end_of p reference.odd) (first_start_of p c) goes.first_starts
      (
      end_by_reference p flutter now beyond walk senders g reach s goes.wide hears.regular row reference here
      (offsets_at what p flutter now to beyond walk senders g reach s hears goes row (inl here)) there
      ) (sharp_first_start_is_near p flutter beyond c reference.even reference.odd s.sane rate caught);
  first_lasts =
      λ other c reference even first_even first_odd rate here after there caught begins.
      first_length_sum now.rows.lengths flutter (longest_micro p) (wide_change p) (amount p name.pClusterDriftDamping * longest_micro p) (cycle_change p) (steady_error p flutter) to.firsts.lengths (cycle_length_of p even)
      (cycle_length_of p reference.even) (cycle_length_of p first_even) refl goes.first_lengths
      (
      length_by_reference p flutter now beyond walk senders g reach s goes.wide hears.regular other reference even (rates_at what p flutter now to beyond walk senders g reach s hears goes other here) there after
      )
      (sharp_first_length_is_near p flutter beyond c reference.even reference.odd first_even first_odd s.sane rate caught begins);
}

-- ---- where all is heard of all

all_offsets : (beside : Bool) (p : Values) (flutter : ℕ) (senders : List Sender) (g : Group) → All (IsAmong g.rows) senders → All (λ sender. IsBetween (pos 0) (pos (last_action p)) sender.action) senders
    → AllIsHeard beside p flutter senders g → AllOffsets beside p senders g.rows (pos (last_action p)) (λ node. IsOf g node)
all_offsets beside p flutter senders g among acts hears = record {
  among = among;
  acts = acts;
  rounds = λ node here. (hears.computes node here).by_offset;
  keep = λ one other here there. (hears.keep one other here there).0;
}

all_rates : (beside : Bool) (p : Values) (flutter : ℕ) (senders : List Sender) (g : Group) → All (IsAmong g.rows) senders → AllIsHeard beside p flutter senders g → AllRates beside p flutter senders g.rows (λ node. IsOf g node)
all_rates beside p flutter senders g among hears = record {
  among = among;
  rounds = λ node here. (hears.computes node here).by_rate;
  keep = λ one other here there. (hears.keep one other here there).1;
}

pub all_is_heard_of_both_lem : AllIsHeardOfBoth
all_is_heard_of_both_lem false p flutter senders g among acts hears = record {
  regular = λ node here. (hears.computes node here).regular;
  offsets = all_offsets false p flutter senders g among acts hears;
  rates = all_rates false p flutter senders g among hears;
}
all_is_heard_of_both_lem true p flutter senders g among acts hears = record {
  regular = λ node here. (hears.computes node here).regular;
  offsets = inl (all_offsets true p flutter senders g among acts hears);
  rates = inl (all_rates true p flutter senders g among hears);
}

pub sharp_groups_are_kept : SharpGroupsAreKept
sharp_groups_are_kept beside p flutter beyond walk next senders g reach s next_from next_to =
    steady_groups_are_kept (both (all_heard beside)) p flutter (sharp_group_spread beside p flutter) (sharp_group_spread beside p flutter) (sharp_precision beside p flutter) beyond walk next senders g reach s.0
    (all_is_heard_of_both_lem beside p flutter senders g s.0.among s.0.acts s.1) (sharp_group_spread_goes beside p flutter) (le_itself (sharp_precision beside p flutter)) (ends_fit beside p flutter) next_from next_to
