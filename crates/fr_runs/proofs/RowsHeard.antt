-- The nodes with rows of a double cycle, in sync or not yet, whoever follows in it: each has its deviations of each other one.
use Rattle.std.proofs.Common.{◌≡◌, ◌≢◌, ℕ, suc, ◌*◌, ◌<◌, Bool, ℤ, pos, Some, List, All, ◌∷◌, length, arith, if◌then◌else◌}
use Rattle.std.specs.Prelude.{◌≤ℤ◌, ◌+ℤ◌, ◌*ℤ◌, Contains, IsSome}
use Rattle.fr_base.specs.Event.Event.{Regular}
use Rattle.fr_base.specs.Rows.{dev_in}
use Rattle.fr_base.specs.Within.{IsWithin}
use Rattle.fr_base.specs.declared.channel.Channel.{Channel}
use Rattle.fr_base.specs.declared.node_row.NodeRow.{NodeRow}
use Rattle.fr_base.specs.declared.state.State.TheVariants.{Active}
use Rattle.fr_cluster.specs.Setting.{Setting}
use Rattle.fr_cluster.specs.declared.nodes.NodeSpec.{NodeSpec}
use Rattle.fr_time.specs.Slots.{action_point_of}
use Rattle.fr_bound.specs.Bounds.{longest_micro}
use Rattle.fr_bound.specs.Sync.{cycle_length_of}
use Rattle.fr_precision.specs.Instants.{LieNear, Runs, row_in}
use Rattle.fr_precision.specs.Offsets.{IsDeviation, LimitSuffices}
use Rattle.fr_precision.specs.Placement.{IsRegular}
use Rattle.fr_precision.specs.Reception.{LeavesRoom}
use Rattle.fr_precision.specs.Step.{AreSpread}
use Rattle.fr_precision.proofs.InstantLaws.{actions_stay_near}
use Rattle.fr_precision.proofs.StepLaws.{any_two}
use Rattle.fr_history.specs.History.{row_for}
use Rattle.fr_history.specs.Cycles.{Cycle, Cycles}
use Rattle.fr_history.specs.Lawful.{Obeys}
use Rattle.fr_history.specs.Standing.{row_nodes}
use Rattle.fr_precision.specs.Round.{IsHeardAt}
use Rattle.fr_runs.proofs.Doubles.{even_length}
use Rattle.fr_runs.proofs.Rows.{has_row as row_there}
use Rattle.fr_runs.specs.Links.{Share, cycle_in}
use Rattle.fr_runs.specs.Gathered.{CycleRuns, round_at, row_hearer}
use Rattle.fr_runs.proofs.Begun.{row_sends}
use Rattle.fr_runs.proofs.Courses.{RunTwo, is_correct_row, proper_micro, row_two, steady}
use Rattle.fr_runs.proofs.Drawing.{runs_of}
use Rattle.fr_runs.specs.Supplied.{IsCovered}
use Rattle.fr_runs.proofs.Fed.{acts_reached, row_receiver, row_receivers}
use Rattle.fr_runs.proofs.Hearing.{delays_in, heard_at, placed, stored, IsReceiver, RowsSend}
use Rattle.fr_runs.specs.Following.{IsInReach}

-- the nodes with rows of a double cycle of a covered run are active, with rates within their limit, and lie so far apart, whoever
-- follows; the offset limit suffices for a reach that takes that in, and slots leave room for it
pub record SpreadRows (x : Setting) (h : Cycles) (even odd : Cycle) (double : ℕ) (starts lengths reach : ℤ) : Type 0 where
  pub covered : IsCovered x
  pub counted : length h ≡ 2 * double
  pub within : double < x.doubles
  pub even_obeys : Obeys x h even
  pub odd_obeys : Obeys x (even ∷ h) odd
  pub even_runs : CycleRuns x h even
  pub odd_runs : CycleRuns x (even ∷ h) odd
  pub two : RunTwo x h even odd
  pub rates :
      (node : NodeSpec) → Contains (row_nodes x h) node → IsWithin x.params.rate_limit (row_for even.told.rows node.id).rate
  pub active_even : All (λ row. row.state ≡ Active) even.told.rows
  pub active_odd : All (λ row. row.state ≡ Active) odd.told.rows
  pub limit : LimitSuffices x.params reach
  pub room : LeavesRoom x.params reach
  pub fits : (starts +ℤ (pos 2 *ℤ lengths) +ℤ pos (longest_micro x.params)) ≤ℤ reach
  pub spread : AreSpread x.params starts lengths even.told.rows odd.told.rows

-- a link between two of them
pub record RowLink (x : Setting) (h : Cycles) (sender receiver : NodeSpec) (slot : ℕ) : Type 0 where
  pub sends : Contains (row_nodes x h) sender
  pub hears : Contains (row_nodes x h) receiver
  pub key : sender.key ≡ Some slot
  pub other : sender.id ≢ receiver.id

module _ (x : Setting) (h : Cycles) (even odd : Cycle) (double : ℕ) (starts lengths reach : ℤ) (s : SpreadRows x h even odd double starts lengths reach) where
  -- ---- their rows

  pub row_regular : (node : NodeSpec) → Contains (row_nodes x h) node → IsRegular x.params (row_for even.told.rows node.id) (row_for odd.told.rows node.id)
  row_regular node among =
      let counted = s.counted in
      let within = s.within in
      let covered = s.covered.clocks in
      let less : suc (length h) < 2 * x.doubles = omega (arith, counted, within) in
      let correct = is_correct_row x h node among in
      let at = row_two x h even odd node s.two (even_length (length h) double counted) among in
      let row = row_for even.told.rows node.id in
      let next = row_for odd.told.rows node.id in
      record {
        double = at.double;
        rate_within = s.rates node among;
        even_micro = proper_micro x node (length h) row covered correct (omega (arith, less)) at.even_length;
        odd_micro = proper_micro x node (suc (length h)) next covered correct less at.odd_length;
        steady = steady x node (length h) row.length next.length covered correct less at.even_length at.odd_length;
      }

  pub row_runs : (node : NodeSpec) → Contains (row_nodes x h) node → Runs x.params (row_for even.told.rows node.id) (row_for odd.told.rows node.id)
  row_runs node among = runs_of x.params (row_for even.told.rows node.id) (row_for odd.told.rows node.id) s.covered.clocks.sane (row_regular node among)

  -- any two of them lie so far apart
  pub row_near : (node sender : NodeSpec) → Contains (row_nodes x h) node → Contains (row_nodes x h) sender
      → LieNear x.params starts lengths lengths (row_for even.told.rows sender.id) (row_for odd.told.rows sender.id) (row_for even.told.rows node.id) (row_for odd.told.rows node.id)
  row_near node sender here there =
      let p = x.params in
      let evens : List NodeRow = even.told.rows in
      let odds : List NodeRow = odd.told.rows in
      let row = λ (n : NodeSpec) (is : Contains (row_nodes x h) n). (row_there (row_nodes x h) evens n s.two.even_rows.nodes is).there in
      let late = λ (n : NodeSpec) (is : Contains (row_nodes x h) n). (row_there (row_nodes x h) odds n s.two.odd_rows.nodes is).there in
      let from : NodeRow = row_for evens sender.id in
      let at : NodeRow = row_for evens node.id in
      record {
        by_start = any_two (λ (r : NodeRow). r.start) starts evens from at s.spread.starts_lie (row sender there) (row node here);
        by_even = any_two (cycle_length_of p) lengths evens from at s.spread.even_lengths (row sender there) (row node here);
        by_odd = any_two (cycle_length_of p) lengths odds (row_for odds sender.id) (row_for odds node.id) s.spread.odd_lengths (late sender there) (late node here);
      }

  -- and within reach
  row_reached : (node sender : NodeSpec) → Contains (row_nodes x h) node → Contains (row_nodes x h) sender
      → IsInReach x.params reach (row_for even.told.rows sender.id) (row_for odd.told.rows sender.id) (row_for even.told.rows node.id) (row_for odd.told.rows node.id)
  row_reached node sender here there macrotick is_odd from to =
      actions_stay_near x.params starts lengths reach macrotick is_odd (row_for even.told.rows sender.id) (row_for odd.told.rows sender.id) (row_for even.told.rows node.id) (row_for odd.told.rows node.id)
      s.covered.clocks.sane (row_runs sender there) (row_runs node here) (row_near node sender here there) s.fits from to

  -- ---- so each of them hears the others

  sending : RowsSend x h even odd double reach
  sending = record {
    sane = s.covered.clocks.sane;
    counted = s.counted;
    even_runs = s.even_runs;
    odd_runs = s.odd_runs;
    active_even = s.active_even;
    active_odd = s.active_odd;
    room = s.room;
    delays = delays_in x h even double s.covered s.counted s.within;
  }

  receiving : (node : NodeSpec) → Contains (row_nodes x h) node → IsReceiver x h even odd reach (row_receivers x h even odd) node
  receiving node among =
      row_receiver x h even odd double reach node s.even_obeys s.odd_obeys sending among (row_regular node among)
      (λ is_odd sender slot there key.
      acts_reached x h even odd reach sender slot (row_for even.told.rows node.id) (row_for odd.told.rows node.id) is_odd s.covered.clocks.sane there key (row_reached node sender among there))

  -- regular frames are stored
  pub frames_stored : (is_odd : Bool) (sender receiver : NodeSpec) (slot : ℕ) (channel : Channel) → RowLink x h sender receiver slot → Share sender receiver channel
      → x.event (cycle_in is_odd double) sender.id receiver.id channel ≡ Regular → IsSome (dev_in (if is_odd then odd.told.devs else even.told.devs) receiver.id slot channel)
  frames_stored is_odd sender receiver slot channel link share regular =
      stored x h even odd double reach (row_receivers x h even odd) receiver sender slot is_odd channel sending (receiving receiver link.hears) (row_sends x h even odd sender slot link.sends link.key)
      link.other share regular

  -- and each deviation is one of both rows
  pub placed_in : (is_odd : Bool) (sender receiver : NodeSpec) (slot : ℕ) (channel : Channel) (value : ℤ) → RowLink x h sender receiver slot
      → dev_in (if is_odd then odd.told.devs else even.told.devs) receiver.id slot channel ≡ Some value
      → IsDeviation x.params is_odd (pos (action_point_of x.params slot)) (row_in is_odd (row_for even.told.rows receiver.id) (row_for odd.told.rows receiver.id))
      (row_in is_odd (row_for even.told.rows sender.id) (row_for odd.told.rows sender.id)) value
  placed_in is_odd sender receiver slot channel value link is =
      placed x h even odd double reach (row_receivers x h even odd) receiver sender slot is_odd channel value sending (receiving receiver link.hears)
      (row_sends x h even odd sender slot link.sends link.key) link.other is

  pub rows_hear : (node : NodeSpec) → Contains (row_nodes x h) node → IsHeardAt (round_at x h even odd) (row_hearer x even odd node.id)
  rows_hear node among =
      heard_at x h even odd double reach (row_receivers x h even odd) node (λ sender receiver slot link. s.covered.links sender receiver slot double link s.within) sending (receiving node among)
