-- The nodes that follow in a double cycle of a run: their rows are regular, and each has its deviations of every node with a row,
-- those of one channel as a steady pair.
use Rattle.std.proofs.Common.{◌≡◌, ◌≢◌, ℕ, suc, ◌*◌, ◌<◌, Bool, true, false, ℤ, pos, Some, length, sym, ◌∙◌, subst, arith}
use Rattle.std.specs.Prelude.{◌+ℤ◌, ◌-ℤ◌, Contains}
use Rattle.fr_base.specs.Rows.{dev_in}
use Rattle.fr_base.specs.Within.{IsWithin}
use Rattle.fr_base.specs.declared.channel.Channel.{Channel}
use Rattle.fr_cluster.specs.Questions.{key_slot_of}
use Rattle.fr_cluster.specs.Sane.{IsSane}
use Rattle.fr_cluster.specs.Setting.{Setting}
use Rattle.fr_cluster.specs.declared.nodes.NodeSpec.{NodeSpec}
use Rattle.fr_time.specs.Instant.{instant_of}
use Rattle.fr_time.specs.Position.{grid_for}
use Rattle.fr_time.specs.Slots.{action_point_of}
use Rattle.fr_precision.specs.Deviations.{counted_of}
use Rattle.fr_precision.specs.Placement.{IsRegular}
use Rattle.fr_history.specs.History.{row_for}
use Rattle.fr_history.specs.Cycles.{Cycle, Cycles}
use Rattle.fr_runs.specs.Exchange.{Exchange}
use Rattle.fr_runs.proofs.Nodes.{IsKeySlot, correct_node, key_slot_there}
use Rattle.fr_runs.proofs.Receivers.{no_less}
use Rattle.fr_precision.specs.Steady.{IsSteadyPair}
use Rattle.fr_precision.proofs.Arriving.{frames_are_steady}
use Rattle.fr_runs.proofs.FramesCounted.{link_in}
use Rattle.fr_runs.proofs.Links.{IsCounted}
use Rattle.fr_precision.specs.Round.{sender_with, IsOther}
use Rattle.fr_history.specs.Standing.{following_nodes, row_nodes}
use Rattle.fr_runs.specs.Gathered.{follower_hearer, round_at}
use Rattle.fr_runs.specs.Links.{IsLinked}
use Rattle.fr_runs.proofs.Courses.{follower_applied, follower_two, is_correct_follower, is_correct_row}
use Rattle.fr_runs.proofs.Doubles.{even_length, odd_length}
use Rattle.fr_runs.proofs.Going.{is_row_node}
use Rattle.fr_runs.proofs.Hearing.{before_in, counted_from, cycle_of, heard_at, looked, IsReceiver, RowsSend}
use Rattle.fr_runs.proofs.Begun.{row_sends}
use Rattle.fr_runs.proofs.Fed.{follower_other, follower_receiver, follower_receivers}
use Rattle.fr_precision.specs.Hearing.{AreSteadyPairs}
use Rattle.fr_precision.specs.SharpRound.{IsSteadilySupplied}
use Rattle.fr_promise.specs.SharpFollowing.{AreFollowersInReach, FollowersHearSteadily}
use Rattle.fr_runs.specs.SteadyRuns.{IsWhole}
use Rattle.fr_runs.proofs.RowsSupplied.{acts_early, lawful_rows_from, lawful_rows_send, proper_in, steady_in, LawfulRows}

-- a node with a row, and one that follows
record FollowerLink (x : Setting) (h : Cycles) (sender receiver : NodeSpec) (slot : ℕ) : Type 0 where
  sends : Contains (row_nodes x h) sender
  hears : Contains (following_nodes x h) receiver
  key : sender.key ≡ Some slot
  other : sender.id ≢ receiver.id

module _
    (x : Setting) (flutter : ℕ) (h : Cycles) (even odd : Cycle) (double : ℕ) (s : LawfulRows x flutter h even odd double)
    (rates : (node : NodeSpec) → Contains (following_nodes x h) node → IsWithin x.params.rate_limit (row_for even.followers node.id).rate) where
  pub follower_regular : (node : NodeSpec) → Contains (following_nodes x h) node → IsRegular x.params (row_for even.followers node.id) (row_for odd.followers node.id)
  follower_regular node among =
      let counted = s.counted in
      let within = s.within in
      let less : suc (length h) < 2 * x.doubles = omega (arith, counted, within) in
      let correct = is_correct_follower x h node among in
      let at = follower_two x h even odd node s.two (even_length (length h) double counted) among in
      let row = row_for even.followers node.id in
      let next = row_for odd.followers node.id in
      let first = proper_in x double flutter node (length h) row.length s.covered correct (omega (arith, counted)) (omega (arith, less)) at.even_length in
      let second = proper_in x double flutter node (suc (length h)) next.length s.covered correct (omega (arith, counted)) less at.odd_length in
      record {
        double = at.double;
        rate_within = rates node among;
        even_micro = record { least = first.0; most = first.1 };
        odd_micro = record { least = second.0; most = second.1 };
        steady = steady_in x double flutter node (length h) row.length next.length s.covered correct (omega (arith, counted)) less at.even_length at.odd_length;
      }

module _ (x : Setting) (flutter : ℕ) (h : Cycles) (even odd : Cycle) (double : ℕ) (reach : ℤ) (s : LawfulRows x flutter h even odd double) (r : AreFollowersInReach x h even odd reach) where
  sane : IsSane x.params
  sane = s.covered.sane

  -- the nodes with rows send in it, and these receive
  abbrev followers_exchange : Bool → Exchange
  followers_exchange is_odd = record {
    cycle = length (before_in is_odd h even);
    senders = row_nodes x h;
    sender_rows = (cycle_of is_odd even odd).told.rows;
    receivers = following_nodes x h;
    receiver_rows = (cycle_of is_odd even odd).followers;
    devs = (cycle_of is_odd even odd).follower_devs;
  }

  linked_by : (sender receiver : NodeSpec) (slot : ℕ) → FollowerLink x h sender receiver slot → IsLinked x sender receiver slot
  linked_by sender receiver slot link = record {
    sends = is_correct_row x h sender link.sends;
    hears = is_correct_follower x h receiver link.hears;
    key = link.key;
    other = link.other;
  }

  pub sending : RowsSend x h even odd double reach
  sending = lawful_rows_send x flutter h even odd double reach s r.active_even r.active_odd r.room

  pub receiving : (node : NodeSpec) → Contains (following_nodes x h) node → IsReceiver x h even odd reach (follower_receivers x h even odd) node
  receiving node among =
      follower_receiver x h even odd double reach node s.even_obeys s.odd_obeys sending among (follower_regular x flutter h even odd double s r.rates node among)
      (λ is_odd sender slot there key. r.acts is_odd sender node (pos (action_point_of x.params slot)) there among (no_less (action_point_of x.params slot)) (acts_early x h sane sender slot there key))

  -- ---- what each of them has

  -- each deviation is counted from the arrival of the frame
  counted_in : (is_odd : Bool) (sender receiver : NodeSpec) (slot : ℕ) (channel : Channel) (value : ℤ) → FollowerLink x h sender receiver slot
      → dev_in (cycle_of is_odd even odd).follower_devs receiver.id slot channel ≡ Some value → IsCounted x (link_in (followers_exchange is_odd) sender receiver slot) is_odd channel value
  counted_in false sender receiver slot channel value link is =
      counted_from x h even odd double reach (follower_receivers x h even odd) receiver sender slot false channel value sending (receiving receiver link.hears) (row_sends x h even odd sender slot link.sends link.key) link.other is
  counted_in true sender receiver slot channel value link is =
      counted_from x h even odd double reach (follower_receivers x h even odd) receiver sender slot true channel value sending (receiving receiver link.hears) (row_sends x h even odd sender slot link.sends link.key) link.other is

  -- so two of one channel are a steady pair
  pair_steady : (sender receiver : NodeSpec) (slot : ℕ) (channel : Channel) (early late : ℤ) → FollowerLink x h sender receiver slot → dev_in even.follower_devs receiver.id slot channel ≡ Some early
      → dev_in odd.follower_devs receiver.id slot channel ≡ Some late
      → IsSteadyPair x.params flutter (sender_with (round_at x h even odd) slot sender.id) (row_for even.followers receiver.id) (row_for odd.followers receiver.id) early late
  pair_steady sender receiver slot channel early late link is late_is =
      let p = x.params in
      let first = counted_in false sender receiver slot channel early link is in
      let second = counted_in true sender receiver slot channel late link late_is in
      let linked = linked_by sender receiver slot link in
      let key : IsKeySlot p slot = key_slot_there p sender slot sane (correct_node x sender linked.sends).there link.key in
      let delay : ℕ → ℤ = λ n. x.delay sender.id receiver.id channel n in
      let Flutters : ℕ → Type 0 = λ n. IsWithin (pos flutter) (delay (suc n) -ℤ delay n) in
      let Early : ℤ → Type 0 = λ v. IsSteadyPair p flutter (sender_with (round_at x h even odd) slot sender.id) (row_for even.followers receiver.id) (row_for odd.followers receiver.id) v late in
      let Late : ℤ → Type 0 = λ v.
      IsSteadyPair p flutter (sender_with (round_at x h even odd) slot sender.id) (row_for even.followers receiver.id) (row_for odd.followers receiver.id)
      (counted_of p (row_for even.followers receiver.id) slot channel (instant_of (grid_for p) (row_for even.told.rows sender.id) false (pos (action_point_of p slot)) +ℤ delay (length h))) v in
      subst Early (sym first.counted)
      (
      subst Late (sym second.counted)
      (
      frames_are_steady p flutter slot channel (row_for even.followers receiver.id) (row_for odd.followers receiver.id) (row_for even.told.rows sender.id) (row_for odd.told.rows sender.id)
      (delay (length h)) (delay (suc (length h))) reach sane r.room r.limit (follower_regular x flutter h even odd double s r.rates receiver link.hears) key.from key.to
      (r.acts false sender receiver (pos (action_point_of p slot)) link.sends link.hears (no_less (action_point_of p slot)) (acts_early x h sane sender slot link.sends link.key))
      (sending.delays false sender receiver slot channel linked first.share)
      (subst Flutters (sym s.counted) (s.covered.flutters sender receiver slot channel double linked first.share (omega arith) s.within))
      )
      )

  -- a deviation by key index is that of the key slot
  looked_up : (node index slot : ℕ) (is_odd : Bool) (channel : Channel) → key_slot_of x.params index ≡ Some slot
      → (follower_hearer x even odd node).look index is_odd channel ≡ dev_in (cycle_of is_odd even odd).follower_devs node slot channel
  looked_up node index slot false channel slot_is = looked x (follower_receivers x h even odd) node index slot false channel slot_is
  looked_up node index slot true channel slot_is = looked x (follower_receivers x h even odd) node index slot true channel slot_is

  link_to : (node : NodeSpec) (index slot : ℕ) (sender : NodeSpec) → Contains (following_nodes x h) node → IsOther (round_at x h even odd) (follower_hearer x even odd node.id) index slot sender → FollowerLink x h sender node slot
  link_to node index slot sender among other = record {
    sends = is_row_node x h sender other.sender.there other.sender.rows;
    hears = among;
    key = other.sender.key;
    other = follower_other x h even odd node sender index slot s.even_runs among other;
  }

  pub pairs_steady : (node : NodeSpec) → Contains (following_nodes x h) node → AreSteadyPairs (round_at x h even odd) flutter (follower_hearer x even odd node.id)
  pairs_steady node among index slot sender channel early late other is late_is =
      pair_steady sender node slot channel early late (link_to node index slot sender among other)
      (sym (looked_up node.id index slot false channel other.slot_is) ∙ is) (sym (looked_up node.id index slot true channel other.slot_is) ∙ late_is)

  -- ---- where all is heard

  module _ (links : IsWhole x double) where
    pub supplied_at : (node : NodeSpec) → Contains (following_nodes x h) node → IsSteadilySupplied (round_at x h even odd) flutter (follower_hearer x even odd node.id)
    supplied_at node among = record {
      regular = follower_regular x flutter h even odd double s r.rates node among;
      applied = follower_applied x h even odd node s.two (odd_length (length h) double s.counted) among;
      hears = heard_at x h even odd double reach (follower_receivers x h even odd) node links sending (receiving node among);
      steady = pairs_steady node among;
    }

pub followers_hear_steadily : FollowersHearSteadily
followers_hear_steadily x from flutter h earlier even odd double reach node w late d r among =
    let s = lawful_rows_from x from flutter h w double late earlier even odd d in
    supplied_at x flutter earlier even odd double reach s r (w.covered.links double late s.within) node among
