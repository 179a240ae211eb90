-- The step of a cluster that nodes join.
use Rattle.std.proofs.Common.{◌≡◌, ℕ, ◌+◌, ◌*◌, ◌≤◌, ℤ, pos, List, length, map, inl, inr, arith}
use Rattle.std.specs.Prelude.{◌+ℤ◌, ◌*ℤ◌, ◌≤ℤ◌, Contains}
use Rattle.std.proofs.lemmas.Int.{ints}
use Rattle.std.proofs.lemmas.List.Elements.{All-contains, All-contains_itself, All-map}
use Rattle.fr_base.specs.declared.node_row.NodeRow.{NodeRow}
use Rattle.fr_base.specs.declared.state.State.TheVariants.{Active}
use Rattle.fr_base.specs.declared.state.Outcome.TheVariants.{Within}
use Rattle.fr_cluster.specs.Values.{Values}
use Rattle.fr_bound.specs.Bounds.{arrival_error, follower_error, lambda_of, longest_micro, pi_of}
use Rattle.fr_bound.specs.Sync.{IsInSync}
use Rattle.fr_precision.specs.Rows.{corrected_end_of, Sender}
use Rattle.fr_precision.specs.Instants.{LieNear, Runs}
use Rattle.fr_precision.specs.Rates.{IsNext, KeepsRange}
use Rattle.fr_precision.specs.Receivers.{ComeNear, TakesInRound}
use Rattle.fr_precision.specs.Step.{AreSpread, ComputesTerms, IsAmong, IsFollowed, IsSpreadDouble, Member}
use Rattle.fr_precision.proofs.InstantLaws.{actions_stay_near, precision_holds_lem}
use Rattle.fr_precision.proofs.OffsetLaws.{offset_terms_are_uncut}
use Rattle.fr_precision.proofs.RateLaws.{lengths_stay_together, rate_terms_are_uncut}
use Rattle.fr_precision.proofs.ReceiverLaws.{receivers_come_near}
use Rattle.fr_precision.proofs.Senders.{All-along}
use Rattle.fr_precision.proofs.StepLaws.{AreHeard, AreSenders, are_senders, next_spread, nodes_near, same_apart, sender_near, spread_is_sync, sync_is_spread, sync_shrinks, takes_near}
use Rattle.fr_runs.specs.Following.{first_apart, first_lengths, second_apart, IsInReach}
use Rattle.fr_runs.specs.Group.{Group, GroupsAreKept, IsGroupSynced, IsOf, WillHaveRow}
use Rattle.fr_runs.proofs.Followed.{first_double_is_near, second_start_is_near}

-- ---- how near a node lies to the nodes with rows

-- a node lies so near each node with a row, and the reach takes that in
record IsPlacedAt (p : Values) (rows : List Member) (starts lengths reach : ℤ) (node : Member) : Type 0 where
  near : (row : Member) → Contains rows row → LieNear p starts lengths lengths row.even row.odd node.even node.odd
  fits : (starts +ℤ (pos 2 *ℤ lengths) +ℤ pos (longest_micro p)) ≤ℤ reach

rows_fit : (pi l q : ℕ) (reach : ℤ) → pos (pi + 2 * l + 2 * q) ≤ℤ reach → (pos pi +ℤ (pos 2 *ℤ pos l) +ℤ pos q) ≤ℤ reach
rows_fit pi l q reach takes = omega (arith, ints, takes)

seconds_fit : (pi l y e q : ℕ) (reach : ℤ) → pos (pi + 8 * l + 4 * y + 4 * e + 8 * q) ≤ℤ reach
    → (pos (pi + 5 * l + y + 2 * e + 3 * q) +ℤ (pos 2 *ℤ pos l) +ℤ pos q) ≤ℤ reach
seconds_fit pi l y e q reach takes = omega (arith, ints, takes)

firsts_fit : (pi l y e q : ℕ) (reach : ℤ) → pos (pi + 8 * l + 4 * y + 4 * e + 8 * q) ≤ℤ reach
    → (pos (pi + 3 * l + y + 2 * e + 3 * q) +ℤ (pos 2 *ℤ pos (2 * l + y)) +ℤ pos q) ≤ℤ reach
firsts_fit pi l y e q reach takes = omega (arith, ints, takes)

rows_spread : (p : Values) (senders : List Sender) (g : Group) (reach : ℤ) → IsGroupSynced p senders g reach
    → AreSpread p (pos (pi_of p)) (pos (lambda_of p)) (map (λ (node : Member). node.even) g.rows) (map (λ (node : Member). node.odd) g.rows)
rows_spread p senders g reach s = sync_is_spread p (map (λ (node : Member). node.even) g.rows) (map (λ (node : Member). node.odd) g.rows) s.in_sync

row_placed : (p : Values) (senders : List Sender) (g : Group) (reach : ℤ) (node : Member) → IsGroupSynced p senders g reach → Contains g.rows node
    → IsPlacedAt p g.rows (pos (pi_of p)) (pos (lambda_of p)) reach node
row_placed p senders g reach node s here = record {
  near = λ row there. nodes_near p (pos (pi_of p)) (pos (lambda_of p)) g.rows row node (rows_spread p senders g reach s) there here;
  fits = rows_fit (pi_of p) (lambda_of p) (longest_micro p) reach s.fits;
}

second_placed : (p : Values) (senders : List Sender) (g : Group) (reach : ℤ) (node : Member) → IsGroupSynced p senders g reach → Contains g.seconds node
    → IsPlacedAt p g.rows (pos (second_apart p)) (pos (lambda_of p)) reach node
second_placed p senders g reach node s here = record {
  near = s.seconds_near node here;
  fits = seconds_fit (pi_of p) (lambda_of p) (follower_error p) (arrival_error p) (longest_micro p) reach (s.fits_followers node (inl here));
}

first_placed : (p : Values) (senders : List Sender) (g : Group) (reach : ℤ) (node : Member) → IsGroupSynced p senders g reach → Contains g.firsts node
    → IsPlacedAt p g.rows (pos (first_apart p)) (pos (first_lengths p)) reach node
first_placed p senders g reach node s here = record {
  near = s.firsts_near node here;
  fits = firsts_fit (pi_of p) (lambda_of p) (follower_error p) (arrival_error p) (longest_micro p) reach (s.fits_followers node (inr here));
}

-- ---- the senders, and each node as a receiver

rows_double : (p : Values) (senders : List Sender) (g : Group) (reach : ℤ) → IsGroupSynced p senders g reach
    → IsSpreadDouble p senders g.rows (pos (pi_of p)) (pos (lambda_of p)) reach
rows_double p senders g reach s = record {
  sane = s.sane;
  first = s.first;
  second = s.second;
  limit = s.limit;
  fits = rows_fit (pi_of p) (lambda_of p) (longest_micro p) reach s.fits;
  spread = rows_spread p senders g reach s;
  sending = s.sending;
  among = s.among;
  computes = All-along (Contains g.rows) (ComputesTerms p senders) g.rows (λ node here. s.computes node (inl (inl here))) (All-contains_itself g.rows);
  keep = λ one other here there. s.keep one other (inl (inl here)) (inl (inl there));
}

senders_are : (p : Values) (senders : List Sender) (g : Group) (reach : ℤ) → IsGroupSynced p senders g reach → AreSenders p senders (pos (pi_of p)) (pos (lambda_of p)) reach
senders_are p senders g reach s = are_senders p senders g.rows (pos (pi_of p)) (pos (lambda_of p)) reach (rows_double p senders g reach s)

-- whoever lies near each node with a row takes in the round
takes_placed : (p : Values) (senders : List Sender) (g : Group) (reach starts lengths : ℤ) (node : Member) → IsGroupSynced p senders g reach → IsOf g node
    → IsPlacedAt p g.rows starts lengths reach node → TakesInRound p senders reach lengths node
takes_placed p senders g reach starts lengths node s is placed =
    let are = senders_are p senders g reach s in
    let heard : AreHeard p senders starts lengths reach = record {
      sane = s.sane;
      limit = s.limit;
      fits = placed.fits;
      sending = s.sending;
      run = are.heard.run;
    } in
    takes_near p senders starts lengths reach node heard (s.computes node is)
    (
    All-along (IsAmong g.rows) (λ sender. LieNear p starts lengths lengths sender.even sender.odd node.even node.odd) senders
    (λ sender among. sender_near p starts lengths g.rows sender node.even node.odd among placed.near) s.among
    )

takes_row : (p : Values) (senders : List Sender) (g : Group) (reach : ℤ) (node : Member) → IsGroupSynced p senders g reach → WillHaveRow g node
    → TakesInRound p senders reach (pos (lambda_of p)) node
takes_row p senders g reach node s (inl here) = takes_placed p senders g reach (pos (pi_of p)) (pos (lambda_of p)) node s (inl (inl here)) (row_placed p senders g reach node s here)
takes_row p senders g reach node s (inr there) = takes_placed p senders g reach (pos (second_apart p)) (pos (lambda_of p)) node s (inl (inr there)) (second_placed p senders g reach node s there)

takes_first : (p : Values) (senders : List Sender) (g : Group) (reach : ℤ) (node : Member) → IsGroupSynced p senders g reach → Contains g.firsts node
    → TakesInRound p senders reach (pos (first_lengths p)) node
takes_first p senders g reach node s there = takes_placed p senders g reach (pos (first_apart p)) (pos (first_lengths p)) node s (inr there) (first_placed p senders g reach node s there)

some_senders : (p : Values) (senders : List Sender) (g : Group) (reach : ℤ) (node : Member) → IsGroupSynced p senders g reach → IsOf g node → 1 ≤ length senders
some_senders p senders g reach node s is = let kept = (s.keep node node is is).1 in omega (arith, kept)

-- ---- what holds at the end of the double cycle

reached_at : (p : Values) (senders : List Sender) (g : Group) (reach starts lengths : ℤ) (node : Member) (sender : Sender) → IsGroupSynced p senders g reach → IsOf g node
    → IsPlacedAt p g.rows starts lengths reach node → Contains senders sender → IsInReach p reach sender.even sender.odd node.even node.odd
reached_at p senders g reach starts lengths node sender s is placed there macrotick is_odd from to =
    let near = sender_near p starts lengths g.rows sender node.even node.odd (All-contains (IsAmong g.rows) senders sender s.among there) placed.near in
    let runs = All-contains (λ (sender : Sender). Runs p sender.even sender.odd) senders sender (senders_are p senders g reach s).heard.run there in
    actions_stay_near p starts lengths reach macrotick is_odd sender.even sender.odd node.even node.odd s.sane runs (s.computes node is).runs near placed.fits from to

reached : (p : Values) (senders : List Sender) (g : Group) (reach : ℤ) (node : Member) (sender : Sender) → IsGroupSynced p senders g reach → IsOf g node → Contains senders sender
    → IsInReach p reach sender.even sender.odd node.even node.odd
reached p senders g reach node sender s (inl (inl here)) there = reached_at p senders g reach (pos (pi_of p)) (pos (lambda_of p)) node sender s (inl (inl here)) (row_placed p senders g reach node s here) there
reached p senders g reach node sender s (inl (inr here)) there =
    reached_at p senders g reach (pos (second_apart p)) (pos (lambda_of p)) node sender s (inl (inr here)) (second_placed p senders g reach node s here) there
reached p senders g reach node sender s (inr here) there =
    reached_at p senders g reach (pos (first_apart p)) (pos (first_lengths p)) node sender s (inr here) (first_placed p senders g reach node s here) there

-- neither term of a receiver is cut
uncut_at : (p : Values) (senders : List Sender) (g : Group) (reach lengths : ℤ) (node : Member) → IsGroupSynced p senders g reach → IsOf g node
    → TakesInRound p senders reach lengths node → (node.offset_term.outcome ≡ Within) × KeepsRange p node.odd node.rate_term
uncut_at p senders g reach lengths node s is takes =
    let some = some_senders p senders g reach node s is in
    let hears = takes.hears in (
      offset_terms_are_uncut p senders reach node.odd node.offsets node.offset_term s.sane hears.suffices some hears.reached hears.round,
      rate_terms_are_uncut p senders node.odd node.rates node.rate_term s.sane s.first s.second some (senders_are p senders g reach s).proper takes.by_rate,
    )

uncut : (p : Values) (senders : List Sender) (g : Group) (reach : ℤ) (node : Member) → IsGroupSynced p senders g reach → IsOf g node
    → (node.offset_term.outcome ≡ Within) × KeepsRange p node.odd node.rate_term
uncut p senders g reach node s (inl will) = uncut_at p senders g reach (pos (lambda_of p)) node s (inl will) (takes_row p senders g reach node s will)
uncut p senders g reach node s (inr here) = uncut_at p senders g reach (pos (first_lengths p)) node s (inr here) (takes_first p senders g reach node s here)

-- two nodes that will have rows
come_near : (p : Values) (senders : List Sender) (g : Group) (reach : ℤ) (one other : Member) → IsGroupSynced p senders g reach → WillHaveRow g one → WillHaveRow g other
    → ComeNear p (pos (pi_of p)) (pos (lambda_of p)) one other
come_near p senders g reach one other s will also =
    let are = senders_are p senders g reach s in
    let kept = s.keep one other (inl will) (inl also) in
    receivers_come_near p senders (pos (pi_of p)) (pos (lambda_of p)) reach (pos (pi_of p)) (pos (lambda_of p)) one other s.sane s.first s.second
    are.send are.proper (sync_shrinks p) (takes_row p senders g reach one s will) (takes_row p senders g reach other s also) kept.0 kept.1

-- ---- the next double cycle

next_rows : (p : Values) (senders : List Sender) (g : Group) (reach : ℤ) (nodes : List Member) (next_even next_odd : Member → NodeRow) → IsGroupSynced p senders g reach
    → ((node : Member) → Contains nodes node → WillHaveRow g node × IsFollowed p node (next_even node) (next_odd node))
    → IsInSync p (map next_even nodes) (map next_odd nodes)
next_rows p senders g reach nodes next_even next_odd s each =
    let come = λ (one other : Member) (here : Contains nodes one) (there : Contains nodes other). come_near p senders g reach one other s (each one here).0 (each other there).0 in
    let next = λ (node : Member) (here : Contains nodes node). (each node here).1.next in
    spread_is_sync p (map next_even nodes) (map next_odd nodes)
    (All-map (λ (row : NodeRow). row.state ≡ Active) next_even nodes
    (All-along (Contains nodes) (λ node. (next_even node).state ≡ Active) nodes (λ node here. (each node here).1.active_even) (All-contains_itself nodes)))
    (All-map (λ (row : NodeRow). row.state ≡ Active) next_odd nodes
    (All-along (Contains nodes) (λ node. (next_odd node).state ≡ Active) nodes (λ node here. (each node here).1.active_odd) (All-contains_itself nodes)))
    (
    next_spread p nodes (pos (pi_of p)) (pos (lambda_of p)) next_even next_odd
    (λ one other here there.
    same_apart (pos (pi_of p)) (next_even one).start (next_even other).start (corrected_end_of p one.odd) (corrected_end_of p other.odd)
    (each one here).1.start (each other there).1.start (come one other here there).starts)
    (λ one other here there. (come one other here there).lengths (next_even one) (next_odd one) (next_even other) (next_odd other) (next one here) (next other there))
    (λ node here. (come node node here here).proper (next_even node) (next_odd node) (next node here))
    )

next_seconds : (p : Values) (senders : List Sender) (g : Group) (reach : ℤ) (row node : Member) (even odd node_even node_odd : NodeRow) → IsGroupSynced p senders g reach
    → WillHaveRow g row → Contains g.firsts node
    → even.start ≡ corrected_end_of p row.odd → IsNext p row.odd row.rate_term even odd
    → node_even.start ≡ corrected_end_of p node.odd → IsNext p node.odd node.rate_term node_even node_odd
    → LieNear p (pos (second_apart p)) (pos (lambda_of p)) (pos (lambda_of p)) even odd node_even node_odd
next_seconds p senders g reach row node even odd node_even node_odd s will first start next node_start node_next =
    let are = senders_are p senders g reach s in
    let takes = takes_row p senders g reach row s will in
    let also = takes_first p senders g reach node s first in
    let kept = s.keep row node (inl will) (inr first) in
    let ends =
    second_start_is_near p senders reach reach row.odd node.odd row.offsets node.offsets row.offset_term node.offset_term s.sane
    (some_senders p senders g reach row s (inl will)) are.send takes.hears also.hears in
    let lengths =
    lengths_stay_together p senders row.odd node.odd row.rates node.rates row.rate_term node.rate_term even odd node_even node_odd s.sane s.first s.second are.proper are.send.near.by_odd
    takes.by_rate also.by_rate kept.1 next node_next in
    record {
      by_start = same_apart (pos (second_apart p)) even.start node_even.start (corrected_end_of p row.odd) (corrected_end_of p node.odd) start node_start ends;
      by_even = lengths.0;
      by_odd = lengths.1;
    }

pub groups_are_kept_lem : GroupsAreKept
groups_are_kept_lem p senders g reach s =
    let are = senders_are p senders g reach s in
    record {
      reached = λ node sender is there. reached p senders g reach node sender s is there;
      uncut = λ node is. (uncut p senders g reach node s is).0;
      range = λ node is. (uncut p senders g reach node s is).1;
      precise =
          λ one other macrotick is_odd here there from to.
          precision_holds_lem p macrotick is_odd one.even one.odd other.even other.odd s.sane (s.computes one (inl (inl here))).runs (s.computes other (inl (inl there))).runs
          (nodes_near p (pos (pi_of p)) (pos (lambda_of p)) g.rows one other (rows_spread p senders g reach s) here there) (come_near p senders g reach one other s (inl here) (inl there)).starts from to;
      next_rows = λ nodes next_even next_odd each. next_rows p senders g reach nodes next_even next_odd s each;
      next_seconds =
          λ row node even odd node_even node_odd will first start next node_start node_next.
          next_seconds p senders g reach row node even odd node_even node_odd s will first start next node_start node_next;
      next_firsts =
          λ row c reference even odd first_even first_odd suffices will start next there caught begins.
          let takes = takes_row p senders g reach row s will in
          first_double_is_near p senders reach c reference row.odd row.offsets row.rates row.offset_term row.rate_term even odd first_even first_odd s.sane s.first s.second suffices
          are.send are.proper takes.hears takes.by_rate next start there caught begins;
    }
