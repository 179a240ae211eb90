-- The law of the step, from those of rates, offsets and instants.
use Rattle.std.proofs.Common.{◌≡◌, ℕ, ◌+◌, ◌*◌, true, ℤ, pos, List, [], ◌∷◌, map, All, refl, ap, sym, subst, arith}
use Rattle.std.specs.Prelude.{◌+ℤ◌, ◌-ℤ◌, ◌*ℤ◌, ◌≤ℤ◌, Contains}
use Rattle.std.proofs.lemmas.Int.{ints}
use Rattle.std.proofs.lemmas.List.Elements.{All-cons, All-contains, All-contains_itself, All-head, All-map, All-nil, All-tail}
use Rattle.fr_base.specs.declared.node_row.NodeRow.{NodeRow}
use Rattle.fr_base.specs.declared.state.State.TheVariants.{Active}
use Rattle.fr_cluster.specs.Values.{Values}
use Rattle.fr_cluster.specs.Sane.{IsSane}
use Rattle.fr_base.specs.Within.{IsWithin}
use Rattle.fr_bound.specs.Bounds.{arrival_error, lambda_of, longest_micro, pi_of, precision_of}
use Rattle.fr_bound.specs.Checks.{holds_of}
use Rattle.fr_bound.specs.Sync.{cycle_length_of, IsInSync, IsCycleLength}
use Rattle.fr_base.specs.Within.{LieWithin}
use Rattle.fr_precision.specs.Rows.{corrected_end_of, Sender}
use Rattle.fr_precision.specs.Instants.{gap_of, LieNear, Runs}
use Rattle.fr_precision.specs.Offsets.{IsSending, LimitSuffices, NearAll, ReachAll}
use Rattle.fr_precision.specs.Receivers.{SendNear, TakesInRound}
use Rattle.fr_precision.specs.Step.{AllKeepOne, AreSpread, AreSynced, ComputesTerms, DrawNear, IsAmong, IsFollowed, InSyncIsSpread, IsSpreadDouble, Member, NextIsInSync, NextIsSpread, SpreadsShrink, StaySynced, SyncIsKept, SyncOfAllIsKept, SyncShrinks, TakesPart}
use Rattle.fr_precision.proofs.InstantLaws.{actions_stay_near, precision_holds_lem}
use Rattle.fr_precision.proofs.OffsetLaws.{third_check_suffices}
use Rattle.fr_precision.proofs.ReceiverLaws.{comes_near, receivers_draw_near}
use Rattle.fr_precision.proofs.Senders.{lie_within, All-along, All-both}

pub turned : (bound x y : ℤ) → IsWithin bound (x -ℤ y) → IsWithin bound (y -ℤ x)
turned bound x y within = record { low = omega (arith, ints, within.high); high = omega (arith, ints, within.low) }

pub near_turned : (p : Values) (starts lengths : ℤ) (even odd other_even other_odd : NodeRow)
    → LieNear p starts lengths lengths even odd other_even other_odd → LieNear p starts lengths lengths other_even other_odd even odd
near_turned p starts lengths even odd other_even other_odd near = record {
  by_start = turned starts even.start other_even.start near.by_start;
  by_even = turned lengths (cycle_length_of p even) (cycle_length_of p other_even) near.by_even;
  by_odd = turned lengths (cycle_length_of p odd) (cycle_length_of p other_odd) near.by_odd;
}

-- the senders of a round as a node hears them whose instants lie so near theirs: a reach takes their action points in
pub record AreHeard (p : Values) (senders : List Sender) (starts lengths reach : ℤ) : Type 0 where
  pub sane : IsSane p
  pub limit : LimitSuffices p reach
  pub fits : (starts +ℤ (pos 2 *ℤ lengths) +ℤ pos (longest_micro p)) ≤ℤ reach
  pub sending : All (IsSending p) senders
  pub run : All (λ sender. Runs p sender.even sender.odd) senders

-- a node lies so near every sender
abbrev pub IsNearAll : Values → List Sender → ℤ → ℤ → Member → Type 0
IsNearAll p senders starts lengths node = All (λ sender. LieNear p starts lengths lengths sender.even sender.odd node.even node.odd) senders

pub in_reach : (p : Values) (senders : List Sender) (starts lengths reach : ℤ) (node : Member) → AreHeard p senders starts lengths reach
    → Runs p node.even node.odd → IsNearAll p senders starts lengths node → ReachAll p reach senders node.odd
in_reach p senders starts lengths reach node heard runs near =
    let Run : Sender → Type 0 = λ sender. Runs p sender.even sender.odd in
    let Both : Sender → Type 0 = λ sender. IsSending p sender × Runs p sender.even sender.odd in
    let both = All-both (IsSending p) Run Both senders (λ sender one other. (one, other)) heard.sending heard.run in
    All-both Both (λ sender. LieNear p starts lengths lengths sender.even sender.odd node.even node.odd) (λ sender. IsWithin reach (gap_of p true sender.action sender.odd node.odd)) senders
    (λ sender is close.
    actions_stay_near p starts lengths reach sender.action true sender.even sender.odd node.even node.odd heard.sane is.1 runs close heard.fits is.0.acts_from is.0.acts_to) both near

near_of : (p : Values) (senders : List Sender) (starts lengths : ℤ) (node : Member) → IsNearAll p senders starts lengths node → NearAll p lengths senders node.odd
near_of p senders starts lengths node near =
    All-along (λ sender. LieNear p starts lengths lengths sender.even sender.odd node.even node.odd) (λ sender. IsWithin lengths (cycle_length_of p node.odd -ℤ cycle_length_of p sender.odd)) senders
    (λ sender close. turned lengths (cycle_length_of p sender.odd) (cycle_length_of p node.odd) close.by_odd) near

-- such a node is a receiver within that reach
pub takes_near : (p : Values) (senders : List Sender) (starts lengths reach : ℤ) (node : Member) → AreHeard p senders starts lengths reach
    → ComputesTerms p senders node → IsNearAll p senders starts lengths node → TakesInRound p senders reach lengths node
takes_near p senders starts lengths reach node heard computes near = record {
  hears = record {
    suffices = heard.limit;
    reached = in_reach p senders starts lengths reach node heard computes.runs near;
    near = near_of p senders starts lengths node near;
    round = computes.by_offset;
  };
  by_rate = computes.by_rate;
}

-- the senders of a double cycle, which lie so near each other besides
pub record AreSenders (p : Values) (senders : List Sender) (starts lengths reach : ℤ) : Type 0 where
  pub heard : AreHeard p senders starts lengths reach
  pub send : SendNear p starts lengths senders
  pub proper : All (λ sender. IsCycleLength p (cycle_length_of p sender.odd)) senders

-- ---- in sync: with pi and lambda

pub reach_fits : (pi l q : ℕ) → (pos pi +ℤ (pos 2 *ℤ pos l) +ℤ pos q) ≤ℤ pos (pi + 2 * l + 2 * q)
reach_fits pi l q = omega (arith, ints)

-- pi and lambda are fixed points
pub sync_shrinks : SyncShrinks
sync_shrinks p = record { starts_to = twice (pi_of p) (lambda_of p) (arrival_error p) (longest_micro p) refl; lengths_to = omega (arith, ints) }
  where
    twice : (pi l e q : ℕ) → pi ≡ 6 * l + 4 * e + 8 * q → (pos pi +ℤ (pos 6 *ℤ pos l) +ℤ pos (4 * e + 8 * q)) ≤ℤ ((pos 2 *ℤ pos pi) +ℤ pos 1)
    twice pi l e q is = omega (arith, ints)

pub stays_synced : (p : Values) (one other : Member) → IsSane p → Runs p one.even one.odd → Runs p other.even other.odd → AreSynced p one.even one.odd other.even other.odd
    → DrawNear p (pos (pi_of p)) (pos (lambda_of p)) one other → StaySynced p one other
stays_synced p one other sane runs other_runs near draw =
    let come = comes_near p (pos (pi_of p)) (pos (lambda_of p)) (pos (pi_of p)) (pos (lambda_of p)) one other (sync_shrinks p) draw in
    record {
      uncut = come.uncut;
      range = come.range;
      starts = come.starts;
      precise = λ macrotick is_odd from to. precision_holds_lem p macrotick is_odd one.even one.odd other.even other.odd sane runs other_runs near come.starts from to;
      proper = come.proper;
      lengths = come.lengths;
    }

pub sync_is_kept_lem : SyncIsKept
sync_is_kept_lem p senders one other sane first second third synced part other_part near keep_offsets keep_rates =
    stays_synced p one other sane part.runs other_part.runs near
    (
    receivers_draw_near p senders (pos (pi_of p)) (pos (lambda_of p)) (pos (precision_of p)) one other sane first second
    (record { sending = synced.sending; near = synced.near }) synced.proper
    (taken one part) (taken other other_part) keep_offsets keep_rates
    )
  where
    taken : (node : Member) → TakesPart p senders node → TakesInRound p senders (pos (precision_of p)) (pos (lambda_of p)) node
    taken node takes =
        takes_near p senders (pos (pi_of p)) (pos (lambda_of p)) (pos (precision_of p)) node
        (record {
          sane = sane;
          limit = third_check_suffices p third;
          fits = reach_fits (pi_of p) (lambda_of p) (longest_micro p);
          sending = synced.sending;
          run = synced.run;
        })
        (record { runs = takes.runs; by_offset = takes.by_offset; by_rate = takes.by_rate }) takes.near

-- ---- a list of nodes

-- what holds of a list of what some have holds of them
pub unmapped : {X Y : Type 0} (P : Y → Type 0) (f : X → Y) (xs : List X) → All P (map f xs) → All (λ x. P (f x)) xs
unmapped P f [] all = All-nil (λ x. P (f x))
unmapped P f (x ∷ xs) all = All-cons (λ y. P (f y)) x xs (All-head P (f x) (map f xs) all) (unmapped P f xs (All-tail P (f x) (map f xs) all))

-- any two of a list lie as near as it says
no_more : {X : Type 0} (f : X → ℤ) (bound : ℤ) (xs : List X) (x y : X) → All (λ a. All (λ b. (a -ℤ b) ≤ℤ bound) (map f xs)) (map f xs)
    → Contains xs x → Contains xs y → (f x -ℤ f y) ≤ℤ bound
no_more f bound xs x y all here there =
    let from_x : All (λ b. (f x -ℤ b) ≤ℤ bound) (map f xs) =
    All-contains (λ x. All (λ b. (f x -ℤ b) ≤ℤ bound) (map f xs)) xs x (unmapped (λ a. All (λ b. (a -ℤ b) ≤ℤ bound) (map f xs)) f xs all) here in
    All-contains (λ y. (f x -ℤ f y) ≤ℤ bound) xs y (unmapped (λ b. (f x -ℤ b) ≤ℤ bound) f xs from_x) there

both_ways : (bound x y : ℤ) → (x -ℤ y) ≤ℤ bound → (y -ℤ x) ≤ℤ bound → IsWithin bound (x -ℤ y)
both_ways bound x y up down = record { low = omega (arith, ints); high = omega (arith, ints) }

pub any_two : {X : Type 0} (f : X → ℤ) (bound : ℤ) (xs : List X) (x y : X) → All (λ a. All (λ b. (a -ℤ b) ≤ℤ bound) (map f xs)) (map f xs)
    → Contains xs x → Contains xs y → IsWithin bound (f x -ℤ f y)
any_two f bound xs x y all here there = both_ways bound (f x) (f y) (no_more f bound xs x y all here there) (no_more f bound xs y x all there here)

pub mapped_twice : {X Y : Type 0} (g : Y → ℤ) (f : X → Y) (xs : List X) → map g (map f xs) ≡ map (λ x. g (f x)) xs
mapped_twice g f [] = refl
mapped_twice g f (x ∷ xs) = ap (λ (rest : List ℤ). g (f x) ∷ rest) (mapped_twice g f xs)

-- two nodes of a list lie as near as it is spread
pub nodes_near : (p : Values) (starts lengths : ℤ) (nodes : List Member) (one other : Member)
    → AreSpread p starts lengths (map (λ (node : Member). node.even) nodes) (map (λ (node : Member). node.odd) nodes)
    → Contains nodes one → Contains nodes other → LieNear p starts lengths lengths one.even one.odd other.even other.odd
nodes_near p starts lengths nodes one other spread here there =
    let Near : ℤ → List ℤ → Type 0 = λ bound xs. All (λ a. All (λ b. (a -ℤ b) ≤ℤ bound) xs) xs in
    let even : Member → NodeRow = λ node. node.even in
    let odd : Member → NodeRow = λ node. node.odd in
    let by_start = subst (Near starts) (mapped_twice (λ (row : NodeRow). row.start) even nodes) spread.starts_lie in
    let evens = subst (Near lengths) (mapped_twice (cycle_length_of p) even nodes) spread.even_lengths in
    let odds = subst (Near lengths) (mapped_twice (cycle_length_of p) odd nodes) spread.odd_lengths in
    record {
      by_start = any_two (λ (node : Member). node.even.start) starts nodes one other by_start here there;
      by_even = any_two (λ (node : Member). cycle_length_of p node.even) lengths nodes one other evens here there;
      by_odd = any_two (λ (node : Member). cycle_length_of p node.odd) lengths nodes one other odds here there;
    }

-- a sender lies as near each node, and each sender
pub sender_near : (p : Values) (starts lengths : ℤ) (nodes : List Member) (sender : Sender) (even odd : NodeRow) → IsAmong nodes sender
    → ((node : Member) → Contains nodes node → LieNear p starts lengths lengths node.even node.odd even odd) → LieNear p starts lengths lengths sender.even sender.odd even odd
sender_near p starts lengths nodes sender even odd (node, here, same_even, same_odd) near =
    let At : NodeRow → Type 0 = λ row. LieNear p starts lengths lengths row node.odd even odd in
    let Also : NodeRow → Type 0 = λ row. LieNear p starts lengths lengths sender.even row even odd in
    subst Also same_odd (subst At same_even (near node here))

pub are_senders : (p : Values) (senders : List Sender) (nodes : List Member) (starts lengths reach : ℤ) → IsSpreadDouble p senders nodes starts lengths reach
    → AreSenders p senders starts lengths reach
are_senders p senders nodes starts lengths reach is =
    let to_node = λ (sender : Sender) (among : IsAmong nodes sender) (node : Member) (here : Contains nodes node).
    sender_near p starts lengths nodes sender node.even node.odd among (λ one there. nodes_near p starts lengths nodes one node is.spread there here) in
    let pair = λ (one other : Sender) (among : IsAmong nodes one) (also : IsAmong nodes other).
    sender_near p starts lengths nodes one other.even other.odd among
    (λ node here. near_turned p starts lengths other.even other.odd node.even node.odd (to_node other also node here)) in
    record {
      heard = record {
        sane = is.sane;
        limit = is.limit;
        fits = is.fits;
        sending = is.sending;
        run = All-along (IsAmong nodes) (λ sender. Runs p sender.even sender.odd) senders (λ sender among. runs_of sender among) is.among;
      };
      send = record {
        sending = is.sending;
        near = record {
          by_start =
              All-along (IsAmong nodes) (λ one. All (λ (other : Sender). IsWithin starts (one.even.start -ℤ other.even.start)) senders) senders
              (λ one among. All-along (IsAmong nodes) (λ other. IsWithin starts (one.even.start -ℤ other.even.start)) senders (λ other also. (pair one other among also).by_start) is.among) is.among;
          by_even =
              All-along (IsAmong nodes) (λ one. All (λ (other : Sender). IsWithin lengths (cycle_length_of p one.even -ℤ cycle_length_of p other.even)) senders) senders
              (λ one among. All-along (IsAmong nodes) (λ other. IsWithin lengths (cycle_length_of p one.even -ℤ cycle_length_of p other.even)) senders (λ other also. (pair one other among also).by_even) is.among) is.among;
          by_odd =
              All-along (IsAmong nodes) (λ one. All (λ (other : Sender). IsWithin lengths (cycle_length_of p one.odd -ℤ cycle_length_of p other.odd)) senders) senders
              (λ one among. All-along (IsAmong nodes) (λ other. IsWithin lengths (cycle_length_of p one.odd -ℤ cycle_length_of p other.odd)) senders (λ other also. (pair one other among also).by_odd) is.among) is.among;
        };
      };
      proper = All-along (IsAmong nodes) (λ sender. IsCycleLength p (cycle_length_of p sender.odd)) senders (λ sender among. proper_of sender among) is.among;
    }
  where
    runs_of : (sender : Sender) → IsAmong nodes sender → Runs p sender.even sender.odd
    runs_of sender (node, here, same_even, same_odd) =
        let At : NodeRow → Type 0 = λ row. Runs p row node.odd in
        let Also : NodeRow → Type 0 = λ row. Runs p sender.even row in
        subst Also same_odd (subst At same_even (All-contains (ComputesTerms p senders) nodes node is.computes here).runs)

    proper_of : (sender : Sender) → IsAmong nodes sender → IsCycleLength p (cycle_length_of p sender.odd)
    proper_of sender (node, here, same_even, same_odd) =
        let At : NodeRow → Type 0 = λ row. IsCycleLength p (cycle_length_of p row) in
        subst At same_odd
        (All-contains (λ (node : Member). IsCycleLength p (cycle_length_of p node.odd)) nodes node (unmapped (λ row. IsCycleLength p (cycle_length_of p row)) (λ (node : Member). node.odd) nodes is.spread.odd_proper) here)

pub takes_in : (p : Values) (senders : List Sender) (nodes : List Member) (starts lengths reach : ℤ) (node : Member) → IsSpreadDouble p senders nodes starts lengths reach
    → Contains nodes node → TakesInRound p senders reach lengths node
takes_in p senders nodes starts lengths reach node is here =
    takes_near p senders starts lengths reach node (are_senders p senders nodes starts lengths reach is).heard (All-contains (ComputesTerms p senders) nodes node is.computes here)
    (
    All-along (IsAmong nodes) (λ sender. LieNear p starts lengths lengths sender.even sender.odd node.even node.odd) senders
    (λ sender among. sender_near p starts lengths nodes sender node.even node.odd among (λ one there. nodes_near p starts lengths nodes one node is.spread there here)) is.among
    )

pub spreads_shrink_lem : SpreadsShrink
spreads_shrink_lem p senders nodes starts lengths reach one other is here there =
    let kept = is.keep one other here there in
    let are = are_senders p senders nodes starts lengths reach is in
    receivers_draw_near p senders starts lengths reach one other is.sane is.first is.second are.send are.proper
    (takes_in p senders nodes starts lengths reach one is here) (takes_in p senders nodes starts lengths reach other is there) kept.0 kept.1

-- nodes in sync are spread by pi and lambda
pub sync_is_spread : (p : Values) (evens odds : List NodeRow) → IsInSync p evens odds → AreSpread p (pos (pi_of p)) (pos (lambda_of p)) evens odds
sync_is_spread p evens odds sync = record {
  starts_lie = sync.starts;
  even_lengths = sync.even_lengths;
  odd_lengths = sync.odd_lengths;
  even_proper = sync.even_proper;
  odd_proper = sync.odd_proper;
}

synced_double : (p : Values) (senders : List Sender) (nodes : List Member) → IsSane p → holds_of 1 p ≡ true → holds_of 2 p ≡ true → holds_of 3 p ≡ true
    → IsInSync p (map (λ (node : Member). node.even) nodes) (map (λ (node : Member). node.odd) nodes) → All (IsSending p) senders → All (IsAmong nodes) senders
    → All (ComputesTerms p senders) nodes → AllKeepOne senders nodes → IsSpreadDouble p senders nodes (pos (pi_of p)) (pos (lambda_of p)) (pos (precision_of p))
synced_double p senders nodes sane first second third sync sending among computes keep = record {
  sane = sane;
  first = first;
  second = second;
  limit = third_check_suffices p third;
  fits = reach_fits (pi_of p) (lambda_of p) (longest_micro p);
  spread = sync_is_spread p (map (λ (node : Member). node.even) nodes) (map (λ (node : Member). node.odd) nodes) sync;
  sending = sending;
  among = among;
  computes = computes;
  keep = keep;
}

pub sync_of_all_is_kept : SyncOfAllIsKept
sync_of_all_is_kept p senders nodes sane first second third sync sending among computes keep one other here there =
    let spread = sync_is_spread p (map (λ (node : Member). node.even) nodes) (map (λ (node : Member). node.odd) nodes) sync in
    let runs = λ (node : Member) (is : Contains nodes node). (All-contains (ComputesTerms p senders) nodes node computes is).runs in
    stays_synced p one other sane (runs one here) (runs other there) (nodes_near p (pos (pi_of p)) (pos (lambda_of p)) nodes one other spread here there)
    (
    spreads_shrink_lem p senders nodes (pos (pi_of p)) (pos (lambda_of p)) (pos (precision_of p)) one other
    (synced_double p senders nodes sane first second third sync sending among computes keep) here there
    )

-- a list lies as near as any two of it
pub all_lie : (g : Member → ℤ) (bound : ℤ) (nodes : List Member)
    → ((one other : Member) → Contains nodes one → Contains nodes other → IsWithin bound (g one -ℤ g other))
    → LieWithin bound (map g nodes)
all_lie g bound nodes near =
    lie_within g bound nodes
    (
    All-along (Contains nodes) (λ one. All (λ other. IsWithin bound (g one -ℤ g other)) nodes) nodes
    (λ one here. All-along (Contains nodes) (λ other. IsWithin bound (g one -ℤ g other)) nodes (λ other there. near one other here there) (All-contains_itself nodes))
    (All-contains_itself nodes)
    )

pub same_apart : (bound a b x y : ℤ) → a ≡ x → b ≡ y → IsWithin bound (x -ℤ y) → IsWithin bound (a -ℤ b)
same_apart bound a b x y e g within = record { low = omega (arith, ints, within.low); high = omega (arith, ints, within.high) }

-- the rows that some nodes have next are spread as any two of them
pub next_spread : (p : Values) (nodes : List Member) (starts lengths : ℤ) (next_even next_odd : Member → NodeRow)
    → ((one other : Member) → Contains nodes one → Contains nodes other → IsWithin starts ((next_even one).start -ℤ (next_even other).start))
    → ((one other : Member) → Contains nodes one → Contains nodes other
    → IsWithin lengths (cycle_length_of p (next_even one) -ℤ cycle_length_of p (next_even other))
    × IsWithin lengths (cycle_length_of p (next_odd one) -ℤ cycle_length_of p (next_odd other)))
    → ((node : Member) → Contains nodes node → IsCycleLength p (cycle_length_of p (next_even node)) × IsCycleLength p (cycle_length_of p (next_odd node)))
    → AreSpread p starts lengths (map next_even nodes) (map next_odd nodes)
next_spread p nodes starts lengths next_even next_odd near both proper =
    let Near : ℤ → List ℤ → Type 0 = LieWithin in
    record {
      starts_lie = subst (Near starts) (sym (mapped_twice (λ (row : NodeRow). row.start) next_even nodes)) (all_lie (λ node. (next_even node).start) starts nodes near);
      even_lengths =
          subst (Near lengths) (sym (mapped_twice (cycle_length_of p) next_even nodes))
          (all_lie (λ node. cycle_length_of p (next_even node)) lengths nodes (λ one other here there. (both one other here there).0));
      odd_lengths =
          subst (Near lengths) (sym (mapped_twice (cycle_length_of p) next_odd nodes))
          (all_lie (λ node. cycle_length_of p (next_odd node)) lengths nodes (λ one other here there. (both one other here there).1));
      even_proper =
          All-map (λ (row : NodeRow). IsCycleLength p (cycle_length_of p row)) next_even nodes
          (All-along (Contains nodes) (λ node. IsCycleLength p (cycle_length_of p (next_even node))) nodes (λ node here. (proper node here).0) (All-contains_itself nodes));
      odd_proper =
          All-map (λ (row : NodeRow). IsCycleLength p (cycle_length_of p row)) next_odd nodes
          (All-along (Contains nodes) (λ node. IsCycleLength p (cycle_length_of p (next_odd node))) nodes (λ node here. (proper node here).1) (All-contains_itself nodes));
    }

pub next_is_spread : NextIsSpread
next_is_spread p senders nodes starts lengths reach next_starts next_lengths next_even next_odd is shrinks followed =
    let come = λ (one other : Member) (here : Contains nodes one) (there : Contains nodes other).
    comes_near p starts lengths next_starts next_lengths one other shrinks (spreads_shrink_lem p senders nodes starts lengths reach one other is here there) in
    let Followed : Member → Type 0 = λ node. IsFollowed p node (next_even node) (next_odd node) in
    let follows = λ (node : Member) (here : Contains nodes node). All-contains Followed nodes node followed here in
    let proper = λ (node : Member) (here : Contains nodes node). (come node node here here).proper (next_even node) (next_odd node) (follows node here).next in
    let both = λ (one other : Member) (here : Contains nodes one) (there : Contains nodes other).
    (come one other here there).lengths (next_even one) (next_odd one) (next_even other) (next_odd other) (follows one here).next (follows other there).next in
    next_spread p nodes next_starts next_lengths next_even next_odd
    (λ one other here there.
    same_apart next_starts (next_even one).start (next_even other).start (corrected_end_of p one.odd) (corrected_end_of p other.odd)
    (follows one here).start (follows other there).start (come one other here there).starts)
    both proper

-- all nodes active, and spread by pi and lambda: in sync
pub spread_is_sync : (p : Values) (evens odds : List NodeRow) → All (λ (row : NodeRow). row.state ≡ Active) evens → All (λ (row : NodeRow). row.state ≡ Active) odds
    → AreSpread p (pos (pi_of p)) (pos (lambda_of p)) evens odds → IsInSync p evens odds
spread_is_sync p evens odds even_active odd_active spread = record {
  active_even = even_active;
  active_odd = odd_active;
  starts = spread.starts_lie;
  even_lengths = spread.even_lengths;
  odd_lengths = spread.odd_lengths;
  even_proper = spread.even_proper;
  odd_proper = spread.odd_proper;
}

-- so in sync is a case of the spread
pub in_sync_is_spread : InSyncIsSpread
in_sync_is_spread p evens odds =
    (λ sync. (sync.active_even, sync.active_odd, sync_is_spread p evens odds sync), λ is. spread_is_sync p evens odds is.0 is.1 is.2)

pub next_is_in_sync : NextIsInSync
next_is_in_sync p senders nodes next_even next_odd sane first second third sync sending among computes keep followed =
    let Followed : Member → Type 0 = λ node. IsFollowed p node (next_even node) (next_odd node) in
    spread_is_sync p (map next_even nodes) (map next_odd nodes)
    (All-map (λ (row : NodeRow). row.state ≡ Active) next_even nodes (All-along Followed (λ node. (next_even node).state ≡ Active) nodes (λ node is. is.active_even) followed))
    (All-map (λ (row : NodeRow). row.state ≡ Active) next_odd nodes (All-along Followed (λ node. (next_odd node).state ≡ Active) nodes (λ node is. is.active_odd) followed))
    (
    next_is_spread p senders nodes (pos (pi_of p)) (pos (lambda_of p)) (pos (precision_of p)) (pos (pi_of p)) (pos (lambda_of p)) next_even next_odd
    (synced_double p senders nodes sane first second third sync sending among computes keep) (sync_shrinks p) followed
    )
