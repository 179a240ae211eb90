-- The nodes with rows of a double cycle of a run, whoever follows in it: their rows are regular, and each has its deviations of
-- every other one, those of one channel as a steady pair.
use Rattle.std.proofs.Common.{◌≡◌, ℕ, suc, ◌*◌, ◌<◌, ◌≤◌, Bool, true, false, ◌&&◌, ℤ, pos, Some, All, ◌∷◌, ◌++◌, length, map, refl, sym, ◌∙◌, subst, arith}
use Rattle.std.specs.Prelude.{◌≤ℤ◌, ◌+ℤ◌, ◌-ℤ◌, Contains, IsSome, is_some}
use Rattle.std.proofs.lemmas.Bool.{and_parts}
use Rattle.std.proofs.lemmas.Int.{ints}
use Rattle.std.proofs.lemmas.List.{length-append}
use Rattle.fr_base.specs.Event.Event.{Regular}
use Rattle.fr_base.specs.Rows.{dev_in}
use Rattle.fr_base.specs.Within.{IsWithin}
use Rattle.fr_base.specs.declared.channel.Channel.{Channel}
use Rattle.fr_base.specs.declared.state.State.TheVariants.{Active}
use Rattle.fr_cluster.specs.Questions.{key_slot_of}
use Rattle.fr_cluster.specs.Sane.{IsSane}
use Rattle.fr_cluster.specs.Setting.{Setting, correct_nodes, is_correct}
use Rattle.fr_cluster.specs.Values.{amount}
use Rattle.fr_cluster.specs.declared.names.ParamName.TheVariants as name
use Rattle.fr_cluster.specs.declared.nodes.NodeSpec.{NodeSpec}
use Rattle.fr_cluster.proofs.KeyNodes.{key_among}
use Rattle.fr_midpoint.specs.Receivers.{AreFew}
use Rattle.fr_midpoint.proofs.Counts.{count_by-le-count_by}
use Rattle.fr_time.specs.Instant.{instant_of}
use Rattle.fr_time.specs.Position.{grid_for}
use Rattle.fr_time.specs.Slots.{action_point_of}
use Rattle.fr_bound.specs.Bounds.{longest_micro, shortest_micro}
use Rattle.fr_bound.specs.Sync.{cycle_length_of}
use Rattle.fr_precision.specs.Reception.{IsDelay, LeavesRoom}
use Rattle.fr_precision.specs.Deviations.{counted_of}
use Rattle.fr_precision.specs.Instants.{gap_of, row_in}
use Rattle.fr_precision.specs.Placement.{IsRegular}
use Rattle.fr_precision.specs.Round.{sender_with, senders_of, sync_count, Hearer, IsOther}
use Rattle.fr_precision.specs.Step.{Member}
use Rattle.fr_precision.proofs.RoundSenders.{few_more as more_are_few}
use Rattle.fr_history.specs.History.{row_for}
use Rattle.fr_history.specs.Cycles.{Cycle, Cycles}
use Rattle.fr_history.specs.Lawful.{IsLawful, Obeys}
use Rattle.fr_history.specs.Standing.{has_row, row_nodes}
use Rattle.fr_runs.specs.Exchange.{Exchange}
use Rattle.fr_runs.specs.Gathered.{CycleRuns, round_at, row_hearer}
use Rattle.fr_runs.specs.Links.{IsLinked, Share, cycle_in}
use Rattle.fr_runs.specs.Rounds.{IsDoubleOf}
use Rattle.fr_runs.specs.Supplied.{stays_on}
use Rattle.fr_runs.proofs.Courses.{RunTwo, is_correct_row, row_applied, row_two, run_two}
use Rattle.fr_runs.proofs.Covers.{coverage_suffices, stays_has}
use Rattle.fr_runs.proofs.Doubles.{even_length, odd_length}
use Rattle.fr_runs.proofs.Fed.{lawful_part, row_other, row_receiver, row_receivers}
use Rattle.fr_runs.proofs.Going.{is_row_node, rows_ascend}
use Rattle.fr_runs.proofs.Hearing.{before_in, counted_from, cycle_of, delayed, heard_at, heard_in_part, looked, stored, IsReceiver, RowsSend}
use Rattle.fr_runs.proofs.Begun.{row_sends}
use Rattle.fr_runs.proofs.Lawful.{lawful_cycles_run}
use Rattle.fr_runs.proofs.Nodes.{IsKeySlot, correct_node, key_slot_there}
use Rattle.fr_runs.proofs.Receivers.{no_less}
use Rattle.fr_runs.proofs.Rows.{all_rows, each_row}
use Rattle.fr_runs.proofs.RowsHeard.{RowLink}
use Rattle.fr_runs.proofs.Succeeding.{followers_stay, rows_stay}
use Rattle.fr_runs.proofs.Whole.{double_runs}
use Rattle.fr_precision.specs.Hearing.{AllowsArbitrary, AreSteadyPairs, IsHeardInPart}
use Rattle.fr_precision.specs.Lengths.{IsAboutCycle}
use Rattle.fr_bound.specs.SharpBounds.{last_action}
use Rattle.fr_bound.specs.SharpChecks.{RateSuffices}
use Rattle.fr_precision.specs.SharpRound.{as_member, IsRoundInReach, IsSteadilySupplied}
use Rattle.fr_precision.specs.SharpStep.{IsSharpDouble}
use Rattle.fr_precision.specs.Steady.{IsSteadyPair}
use Rattle.fr_runs.specs.SteadyRuns.{row_hearers, row_members, AreRowsInReach, CoveredRunsAreSteady, IsSteadyPart, IsSteadyPartFrom, IsTimedFrom, IsTimedPartFrom, IsWhole, MayHaveArbitrary, RowsAreSharpDoubles, RowsHearSteadily, SteadyRunsAreLater, TimedRunsAreLater}
use Rattle.fr_precision.proofs.Arriving.{frames_are_steady}
use Rattle.fr_precision.proofs.BoundLemmas.{key_slots_act_early}
use Rattle.fr_runs.proofs.FramesCounted.{link_in}
use Rattle.fr_runs.proofs.Links.{IsCounted}
use Rattle.fr_precision.proofs.RateRange.{rate_in_limit}
use Rattle.fr_precision.proofs.RoundLemmas.{rounds_in_reach_are_sharp, contains_map, map_contains}

-- a double cycle of a run in which the clocks run by their laws, stated from that double cycle on
pub record LawfulRows (x : Setting) (flutter : ℕ) (h : Cycles) (even odd : Cycle) (double : ℕ) : Type 0 where
  pub covered : IsTimedFrom x double flutter
  pub counted : length h ≡ 2 * double
  pub within : double < x.doubles
  pub even_obeys : Obeys x h even
  pub odd_obeys : Obeys x (even ∷ h) odd
  pub even_runs : CycleRuns x h even
  pub odd_runs : CycleRuns x (even ∷ h) odd
  pub two : RunTwo x h even odd

pub double_within : (h : Cycles) (double doubles : ℕ) (earlier : Cycles) (even odd : Cycle) → IsDoubleOf h double earlier even odd → length h ≤ 2 * doubles → double < doubles
double_within h double doubles earlier even odd d within =
    let counted : length earlier ≡ 2 * double = d.counted in
    let long = length-append d.later (odd ∷ even ∷ earlier) in
    let Short : Cycles → Type 0 = λ t. length t ≤ 2 * doubles in
    let whole : length (d.later ++ odd ∷ even ∷ earlier) ≤ 2 * doubles = subst Short d.parted within in
    omega (arith, counted, long, whole)

-- ---- what is stated from a double cycle on is so from a later one on

pub timed_runs_are_later : TimedRunsAreLater
timed_runs_are_later x from later flutter up w = record {
  sane = w.sane;
  few = w.few;
  least = λ node cycle there late less. w.least node cycle there (omega (arith, up, late)) less;
  most = λ node cycle there late less. w.most node cycle there (omega (arith, up, late)) less;
  changes = λ node cycle there late less. w.changes node cycle there (omega (arith, up, late)) less;
  delays = λ sender receiver slot channel cycle linked share late less. w.delays sender receiver slot channel cycle linked share (omega (arith, up, late)) less;
  flutters = λ sender receiver slot channel double linked share late less. w.flutters sender receiver slot channel double linked share (omega (arith, up, late)) less;
}

pub steady_runs_are_later : SteadyRunsAreLater
steady_runs_are_later x from later flutter up w = record {
  timed = timed_runs_are_later x from later flutter up w.timed;
  links = λ double late less. w.links double (omega (arith, up, late)) less;
}

-- ---- the double cycles of such a run

pub timed_rows_from : (x : Setting) (from flutter : ℕ) (h : Cycles) → IsTimedPartFrom x from flutter h → (double : ℕ) → from ≤ double → (earlier : Cycles) (even odd : Cycle)
    → IsDoubleOf h double earlier even odd → LawfulRows x flutter earlier even odd double
timed_rows_from x from flutter h w double late earlier even odd d =
    let lawful = lawful_part x d.later (odd ∷ even ∷ earlier) (subst (IsLawful x) d.parted w.lawful) in
    let runs = double_runs x h double earlier even odd d (lawful_cycles_run x h w.lawful) in
    record {
      covered = timed_runs_are_later x from double flutter late w.covered;
      counted = d.counted;
      within = double_within h double x.doubles earlier even odd d w.within;
      even_obeys = lawful.1.0;
      odd_obeys = lawful.0;
      even_runs = runs.1.0;
      odd_runs = runs.0;
      two = run_two x earlier even odd runs.1.0 runs.0 (rows_stay x earlier even double d.counted runs.1.0) (followers_stay x earlier even double d.counted runs.1.0);
    }

pub lawful_rows_from : (x : Setting) (from flutter : ℕ) (h : Cycles) → IsSteadyPartFrom x from flutter h → (double : ℕ) → from ≤ double → (earlier : Cycles) (even odd : Cycle)
    → IsDoubleOf h double earlier even odd → LawfulRows x flutter earlier even odd double
lawful_rows_from x from flutter h w double late earlier even odd d =
    timed_rows_from x from flutter h (record { covered = w.covered.timed; lawful = w.lawful; within = w.within }) double late earlier even odd d

-- where it is stated from the first one on
pub lawful_rows : (x : Setting) (flutter : ℕ) (h : Cycles) → IsSteadyPart x flutter h → (double : ℕ) (earlier : Cycles) (even odd : Cycle) → IsDoubleOf h double earlier even odd
    → LawfulRows x flutter earlier even odd double
lawful_rows x flutter h w double earlier even odd d = lawful_rows_from x 0 flutter h w double (omega arith) earlier even odd d

-- ---- a run that is covered in the older sense

pub covered_runs_are_steady : CoveredRunsAreSteady
covered_runs_are_steady x from flutter w flutters = record {
  timed = record {
    sane = w.sane;
    few = w.few;
    least = λ node cycle there late less. w.least node cycle there less;
    most = λ node cycle there late less. w.most node cycle there less;
    changes = λ node cycle there late less. w.changes node cycle there less;
    delays = λ sender receiver slot channel cycle linked share late within.
        delayed x sender receiver slot cycle channel (coverage_suffices x w) linked.sends linked.hears linked.key linked.other within share;
    flutters = flutters;
  };
  links = λ double late within sender receiver slot linked. w.links sender receiver slot double linked within;
}

-- ---- the microticks of a node

pub proper_in : (x : Setting) (from flutter : ℕ) (node : NodeSpec) (cycle : ℕ) (micro : ℤ) → IsTimedFrom x from flutter → Contains (correct_nodes x) node → 2 * from ≤ cycle → cycle < 2 * x.doubles → micro ≡ x.microtick node.id cycle
    → (pos (shortest_micro x.params) ≤ℤ micro) × (micro ≤ℤ pos (longest_micro x.params))
proper_in x from flutter node cycle micro covered among late less is =
    let Proper : ℤ → Type 0 = λ z. (pos (shortest_micro x.params) ≤ℤ z) × (z ≤ℤ pos (longest_micro x.params)) in
    subst Proper (sym is) (covered.least node cycle among late less, covered.most node cycle among late less)

pub steady_in : (x : Setting) (from flutter : ℕ) (node : NodeSpec) (cycle : ℕ) (micro next : ℤ) → IsTimedFrom x from flutter → Contains (correct_nodes x) node → 2 * from ≤ cycle → suc cycle < 2 * x.doubles
    → micro ≡ x.microtick node.id cycle → next ≡ x.microtick node.id (suc cycle) → IsWithin (pos (amount x.params name.xChangeBound)) (next -ℤ micro)
steady_in x from flutter node cycle micro next covered among late less is next_is =
    let Change : ℤ → ℤ → Type 0 = λ a b. IsWithin (pos (amount x.params name.xChangeBound)) (b -ℤ a) in
    let First : ℤ → Type 0 = λ a. Change a next in
    let Second : ℤ → Type 0 = λ b. Change (x.microtick node.id cycle) b in
    subst First (sym is) (subst Second (sym next_is) (covered.changes node cycle among late less))

-- ---- whoever has rows, the senders outweigh the arbitrary nodes

all_three : (key correct has : Bool) → key ≡ true → correct ≡ true → has ≡ true → (key && (correct && has)) ≡ true
all_three key correct has a b c = rw (a, b, c) refl

pub few_in : (x : Setting) (from flutter : ℕ) (h : Cycles) → IsTimedFrom x from flutter
    → AreFew (sync_count x.params (λ node. is_correct x node && has_row x h node)) (sync_count x.params x.is_arbitrary)
few_in x from flutter h covered =
    let stay : ℕ → Bool = λ node. is_correct x node && stays_on x node in
    let has : ℕ → Bool = λ node. is_correct x node && has_row x h node in
    more_are_few (sync_count x.params stay) (sync_count x.params has) (sync_count x.params x.is_arbitrary)
    (
    count_by-le-count_by (λ (node : NodeSpec). is_some node.key && (is_correct x node.id && stays_on x node.id)) (λ (node : NodeSpec). is_some node.key && (is_correct x node.id && has_row x h node.id))
    x.params.nodes
    (λ node passes.
    let both = and_parts (is_some node.key) (is_correct x node.id && stays_on x node.id) passes in
    let two = and_parts (is_correct x node.id) (stays_on x node.id) both.1 in
    all_three (is_some node.key) (is_correct x node.id) (has_row x h node.id) both.0 two.0 (stays_has x h node.id (x.join node.id) refl two.1))
    )
    covered.few

-- ---- their rows

module _ (x : Setting) (flutter : ℕ) (h : Cycles) (even odd : Cycle) (double : ℕ) (s : LawfulRows x flutter h even odd double) where
  -- rates are within their limit where lengths lie no further beyond their range than it can follow
  pub rates_in_limit : (beyond : ℤ) → RateSuffices x.params beyond → All (λ row. IsAboutCycle x.params beyond (cycle_length_of x.params row)) even.told.rows
      → All (λ row. IsWithin x.params.rate_limit row.rate) even.told.rows
  rates_in_limit beyond suffices about =
      all_rows (row_nodes x h) even.told.rows (λ row. IsWithin x.params.rate_limit row.rate) (rows_ascend x h s.covered.sane) s.two.even_rows.nodes
      (λ node among.
      let counted = s.counted in
      let within = s.within in
      let less : length h < 2 * x.doubles = omega (arith, counted, within) in
      let at = row_two x h even odd node s.two (even_length (length h) double counted) among in
      let micro = proper_in x double flutter node (length h) (row_for even.told.rows node.id).length s.covered (is_correct_row x h node among) (omega (arith, counted)) less at.even_length in
      rate_in_limit x.params beyond (row_for even.told.rows node.id) s.covered.sane suffices (record { least = micro.0; most = micro.1 })
      (each_row (row_nodes x h) even.told.rows (λ row. IsAboutCycle x.params beyond (cycle_length_of x.params row)) node s.two.even_rows.nodes among about))

module _ (x : Setting) (flutter : ℕ) (h : Cycles) (even odd : Cycle) (double : ℕ) (s : LawfulRows x flutter h even odd double) (rates : All (λ row. IsWithin x.params.rate_limit row.rate) even.told.rows) where
  pub row_regular : (node : NodeSpec) → Contains (row_nodes x h) node → IsRegular x.params (row_for even.told.rows node.id) (row_for odd.told.rows node.id)
  row_regular node among =
      let counted = s.counted in
      let within = s.within in
      let less : suc (length h) < 2 * x.doubles = omega (arith, counted, within) in
      let correct = is_correct_row x h node among in
      let at = row_two x h even odd node s.two (even_length (length h) double counted) among in
      let row = row_for even.told.rows node.id in
      let next = row_for odd.told.rows node.id in
      let first = proper_in x double flutter node (length h) row.length s.covered correct (omega (arith, counted)) (omega (arith, less)) at.even_length in
      let second = proper_in x double flutter node (suc (length h)) next.length s.covered correct (omega (arith, counted)) less at.odd_length in
      record {
        double = at.double;
        rate_within = each_row (row_nodes x h) even.told.rows (λ row. IsWithin x.params.rate_limit row.rate) node s.two.even_rows.nodes among rates;
        even_micro = record { least = first.0; most = first.1 };
        odd_micro = record { least = second.0; most = second.1 };
        steady = steady_in x double flutter node (length h) row.length next.length s.covered correct (omega (arith, counted)) less at.even_length at.odd_length;
      }

  pub members_regular : (node : Member) → Contains (row_members x h even odd) node → IsRegular x.params node.even node.odd
  members_regular node here =
      let n = map_contains (as_member x.params) (row_hearers x h even odd) node here in
      let at = map_contains (λ (node : NodeSpec). row_hearer x even odd node.id) (row_nodes x h) n.0 n.1 in
      let Hears : Hearer → Type 0 = λ n. IsRegular x.params n.even n.odd in
      let Of : Member → Type 0 = λ node. IsRegular x.params node.even node.odd in
      subst Of n.2 (subst Hears at.2 (row_regular at.0 at.1))

-- the nodes with rows send in it, where they are active and slots leave room for a reach
pub lawful_rows_send : (x : Setting) (flutter : ℕ) (h : Cycles) (even odd : Cycle) (double : ℕ) (reach : ℤ) → LawfulRows x flutter h even odd double → All (λ row. row.state ≡ Active) even.told.rows
    → All (λ row. row.state ≡ Active) odd.told.rows → LeavesRoom x.params reach → RowsSend x h even odd double reach
lawful_rows_send x flutter h even odd double reach s active_even active_odd room = record {
  sane = s.covered.sane;
  counted = s.counted;
  even_runs = s.even_runs;
  odd_runs = s.odd_runs;
  active_even = active_even;
  active_odd = active_odd;
  room = room;
  delays = delayed_in;
}
  where
    delayed_in : (is_odd : Bool) (sender receiver : NodeSpec) (slot : ℕ) (channel : Channel) → IsLinked x sender receiver slot → Share sender receiver channel
        → IsDelay x.params channel (x.delay sender.id receiver.id channel (length (before_in is_odd h even)))
    delayed_in false sender receiver slot channel link share =
        let c = s.counted in
        let l = s.within in
        s.covered.delays sender receiver slot channel (length h) link share (omega (arith, c)) (omega (arith, c, l))
    delayed_in true sender receiver slot channel link share =
        let c = s.counted in
        let l = s.within in
        s.covered.delays sender receiver slot channel (suc (length h)) link share (omega (arith, c)) (omega (arith, c, l))

-- a node with a row sends by the last action point
pub acts_early : (x : Setting) (h : Cycles) → IsSane x.params → (sender : NodeSpec) (slot : ℕ) → Contains (row_nodes x h) sender → sender.key ≡ Some slot
    → pos (action_point_of x.params slot) ≤ℤ pos (last_action x.params)
acts_early x h sane sender slot among key =
    let correct = correct_node x sender (is_correct_row x h sender among) in
    no_more (action_point_of x.params slot) (last_action x.params) ((key_slots_act_early x.params sane).0 slot (key_among x.params.nodes sender slot correct.there key))
  where
    no_more : (a b : ℕ) → a ≤ b → pos a ≤ℤ pos b
    no_more a b le = omega (arith, ints, le)

module _ (x : Setting) (flutter : ℕ) (h : Cycles) (even odd : Cycle) (double : ℕ) (reach : ℤ) (s : LawfulRows x flutter h even odd double) (r : AreRowsInReach x h even odd reach) where
  sane : IsSane x.params
  sane = s.covered.sane

  -- a node with a row is one of the step
  pub member_there : (node : NodeSpec) → Contains (row_nodes x h) node → Contains (row_members x h even odd) (as_member x.params (row_hearer x even odd node.id))
  member_there node among =
      let at : NodeSpec → Hearer = λ n. row_hearer x even odd n.id in
      contains_map (as_member x.params) (map at (row_nodes x h)) (at node) (contains_map at (row_nodes x h) node among)

  row_reached : (node sender : NodeSpec) (is_odd : Bool) (action : ℤ) → Contains (row_nodes x h) node → Contains (row_nodes x h) sender → pos 0 ≤ℤ action → action ≤ℤ pos (last_action x.params)
      → IsWithin reach
      (
      gap_of x.params is_odd action (row_in is_odd (row_for even.told.rows sender.id) (row_for odd.told.rows sender.id))
      (row_in is_odd (row_for even.told.rows node.id) (row_for odd.told.rows node.id))
      )
  row_reached node sender is_odd action here there from to =
      let at : NodeSpec → Member = λ n. as_member x.params (row_hearer x even odd n.id) in
      r.acts is_odd (at sender) (at node) action (member_there sender there) (member_there node here) from to

  -- these nodes send in it, and receive
  abbrev rows_exchange : Bool → Exchange
  rows_exchange is_odd = record {
    cycle = length (before_in is_odd h even);
    senders = row_nodes x h;
    sender_rows = (cycle_of is_odd even odd).told.rows;
    receivers = row_nodes x h;
    receiver_rows = (cycle_of is_odd even odd).told.rows;
    devs = (cycle_of is_odd even odd).told.devs;
  }

  linked_by : (sender receiver : NodeSpec) (slot : ℕ) → RowLink x h sender receiver slot → IsLinked x sender receiver slot
  linked_by sender receiver slot link = record {
    sends = is_correct_row x h sender link.sends;
    hears = is_correct_row x h receiver link.hears;
    key = link.key;
    other = link.other;
  }

  pub sending : RowsSend x h even odd double reach
  sending = lawful_rows_send x flutter h even odd double reach s r.active_even r.active_odd r.room

  pub receiving : (node : NodeSpec) → Contains (row_nodes x h) node → IsReceiver x h even odd reach (row_receivers x h even odd) node
  receiving node among =
      row_receiver x h even odd double reach node s.even_obeys s.odd_obeys sending among (row_regular x flutter h even odd double s r.rates node among)
      (λ is_odd sender slot there key. row_reached node sender is_odd (pos (action_point_of x.params slot)) among there (no_less (action_point_of x.params slot)) (acts_early x h sane sender slot there key))

  -- ---- what each of them has

  -- regular frames are stored
  pub frames_stored : (is_odd : Bool) (sender receiver : NodeSpec) (slot : ℕ) (channel : Channel) → RowLink x h sender receiver slot → Share sender receiver channel
      → x.event (cycle_in is_odd double) sender.id receiver.id channel ≡ Regular → IsSome (dev_in (cycle_of is_odd even odd).told.devs receiver.id slot channel)
  frames_stored false sender receiver slot channel link share regular =
      stored x h even odd double reach (row_receivers x h even odd) receiver sender slot false channel sending (receiving receiver link.hears) (row_sends x h even odd sender slot link.sends link.key) link.other share regular
  frames_stored true sender receiver slot channel link share regular =
      stored x h even odd double reach (row_receivers x h even odd) receiver sender slot true channel sending (receiving receiver link.hears) (row_sends x h even odd sender slot link.sends link.key) link.other share regular

  -- each deviation is counted from the arrival of the frame
  pub counted_in : (is_odd : Bool) (sender receiver : NodeSpec) (slot : ℕ) (channel : Channel) (value : ℤ) → RowLink x h sender receiver slot
      → dev_in (cycle_of is_odd even odd).told.devs receiver.id slot channel ≡ Some value → IsCounted x (link_in (rows_exchange is_odd) sender receiver slot) is_odd channel value
  counted_in false sender receiver slot channel value link is =
      counted_from x h even odd double reach (row_receivers x h even odd) receiver sender slot false channel value sending (receiving receiver link.hears) (row_sends x h even odd sender slot link.sends link.key) link.other is
  counted_in true sender receiver slot channel value link is =
      counted_from x h even odd double reach (row_receivers x h even odd) receiver sender slot true channel value sending (receiving receiver link.hears) (row_sends x h even odd sender slot link.sends link.key) link.other is

  -- so two of one channel are a steady pair
  pair_steady : (sender receiver : NodeSpec) (slot : ℕ) (channel : Channel) (early late : ℤ) → RowLink x h sender receiver slot → dev_in even.told.devs receiver.id slot channel ≡ Some early
      → dev_in odd.told.devs receiver.id slot channel ≡ Some late
      → IsSteadyPair x.params flutter (sender_with (round_at x h even odd) slot sender.id) (row_for even.told.rows receiver.id) (row_for odd.told.rows receiver.id) early late
  pair_steady sender receiver slot channel early late link is late_is =
      let p = x.params in
      let first = counted_in false sender receiver slot channel early link is in
      let second = counted_in true sender receiver slot channel late link late_is in
      let linked = linked_by sender receiver slot link in
      let key : IsKeySlot p slot = key_slot_there p sender slot sane (correct_node x sender linked.sends).there link.key in
      let at : NodeSpec → Member = λ n. as_member p (row_hearer x even odd n.id) in
      let delay : ℕ → ℤ = λ n. x.delay sender.id receiver.id channel n in
      let Flutters : ℕ → Type 0 = λ n. IsWithin (pos flutter) (delay (suc n) -ℤ delay n) in
      let Early : ℤ → Type 0 = λ v. IsSteadyPair p flutter (sender_with (round_at x h even odd) slot sender.id) (row_for even.told.rows receiver.id) (row_for odd.told.rows receiver.id) v late in
      let Late : ℤ → Type 0 = λ v.
      IsSteadyPair p flutter (sender_with (round_at x h even odd) slot sender.id) (row_for even.told.rows receiver.id) (row_for odd.told.rows receiver.id)
      (counted_of p (row_for even.told.rows receiver.id) slot channel (instant_of (grid_for p) (row_for even.told.rows sender.id) false (pos (action_point_of p slot)) +ℤ delay (length h))) v in
      subst Early (sym first.counted)
      (
      subst Late (sym second.counted)
      (
      frames_are_steady p flutter slot channel (row_for even.told.rows receiver.id) (row_for odd.told.rows receiver.id) (row_for even.told.rows sender.id) (row_for odd.told.rows sender.id)
      (delay (length h)) (delay (suc (length h))) reach sane r.room r.limit (row_regular x flutter h even odd double s r.rates receiver link.hears) key.from key.to
      (r.acts false (at sender) (at receiver) (pos (action_point_of p slot)) (member_there sender link.sends) (member_there receiver link.hears) (no_less (action_point_of p slot)) (acts_early x h sane sender slot link.sends link.key))
      (sending.delays false sender receiver slot channel linked first.share)
      (subst Flutters (sym s.counted) (s.covered.flutters sender receiver slot channel double linked first.share (omega arith) s.within))
      )
      )

  -- a deviation by key index is that of the key slot
  pub looked_up : (node index slot : ℕ) (is_odd : Bool) (channel : Channel) → key_slot_of x.params index ≡ Some slot
      → (row_hearer x even odd node).look index is_odd channel ≡ dev_in (cycle_of is_odd even odd).told.devs node slot channel
  looked_up node index slot false channel slot_is = looked x (row_receivers x h even odd) node index slot false channel slot_is
  looked_up node index slot true channel slot_is = looked x (row_receivers x h even odd) node index slot true channel slot_is

  link_to : (node : NodeSpec) (index slot : ℕ) (sender : NodeSpec) → Contains (row_nodes x h) node → IsOther (round_at x h even odd) (row_hearer x even odd node.id) index slot sender → RowLink x h sender node slot
  link_to node index slot sender among other = record {
    sends = is_row_node x h sender other.sender.there other.sender.rows;
    hears = among;
    key = other.sender.key;
    other = row_other x h even odd node sender index slot sane other;
  }

  pub rows_heard_in_part : (node : NodeSpec) → Contains (row_nodes x h) node → IsHeardInPart (round_at x h even odd) (row_hearer x even odd node.id)
  rows_heard_in_part node among = heard_in_part x h even odd double reach (row_receivers x h even odd) node sending (receiving node among)

  pub pairs_steady : (node : NodeSpec) → Contains (row_nodes x h) node → AreSteadyPairs (round_at x h even odd) flutter (row_hearer x even odd node.id)
  pairs_steady node among index slot sender channel early late other is late_is =
      pair_steady sender node slot channel early late (link_to node index slot sender among other)
      (sym (looked_up node.id index slot false channel other.slot_is) ∙ is) (sym (looked_up node.id index slot true channel other.slot_is) ∙ late_is)

  pub odd_active : (node : NodeSpec) → Contains (row_nodes x h) node → (row_for odd.told.rows node.id).state ≡ Active
  odd_active node among = each_row (row_nodes x h) odd.told.rows (λ row. row.state ≡ Active) node s.two.odd_rows.nodes among r.active_odd

  allows : (beside : Bool) → MayHaveArbitrary beside x → AllowsArbitrary beside (round_at x h even odd)
  allows false none = none
  allows true any = any

  -- ---- where all is heard

  module _ (links : IsWhole x double) where
    pub supplied_at : (node : NodeSpec) → Contains (row_nodes x h) node → IsSteadilySupplied (round_at x h even odd) flutter (row_hearer x even odd node.id)
    supplied_at node among = record {
      regular = row_regular x flutter h even odd double s r.rates node among;
      applied = row_applied x h even odd node s.two (odd_length (length h) double s.counted) among (odd_active node among);
      hears = heard_at x h even odd double reach (row_receivers x h even odd) node links sending (receiving node among);
      steady = pairs_steady node among;
    }

    -- ---- their round

    pub round_in_reach : (beside : Bool) → MayHaveArbitrary beside x → IsRoundInReach beside (round_at x h even odd) flutter reach (row_hearers x h even odd)
    round_in_reach beside may =
        let at : NodeSpec → Hearer = λ n. row_hearer x even odd n.id in
        record {
          round = record {
            sane = sane;
            few = few_in x double flutter h s.covered;
            regular = λ node there has. row_regular x flutter h even odd double s r.rates node (is_row_node x h node there has);
          };
          arbitrary = allows beside may;
          suffices = r.limit;
          acts = r.acts;
          supplied = λ n here.
              let found = map_contains at (row_nodes x h) n here in
              subst (IsSteadilySupplied (round_at x h even odd) flutter) found.2 (supplied_at found.0 found.1);
          among = λ node slot sender.
              (at node, contains_map at (row_nodes x h) node (is_row_node x h node sender.there sender.rows), refl, refl);
        }

    pub double_is_sharp : (beside : Bool) → MayHaveArbitrary beside x
        → IsSharpDouble beside x.params flutter (senders_of (round_at x h even odd)) (row_members x h even odd) (pos (last_action x.params))
    double_is_sharp beside may = rounds_in_reach_are_sharp beside (round_at x h even odd) flutter reach (row_hearers x h even odd) (round_in_reach beside may)

-- ---- the laws

pub rows_hear_steadily : RowsHearSteadily
rows_hear_steadily x from flutter h earlier even odd double reach node w late d r among =
    let s = lawful_rows_from x from flutter h w double late earlier even odd d in
    supplied_at x flutter earlier even odd double reach s r (w.covered.links double late s.within) node among

pub rows_are_sharp_doubles : RowsAreSharpDoubles
rows_are_sharp_doubles beside x from flutter h earlier even odd double reach may w late d r =
    let s = lawful_rows_from x from flutter h w double late earlier even odd d in
    let links = w.covered.links double late s.within in
    (round_in_reach x flutter earlier even odd double reach s r links beside may, double_is_sharp x flutter earlier even odd double reach s r links beside may)
