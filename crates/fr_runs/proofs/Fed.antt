-- The nodes with rows and the nodes that follow are such receivers, so a double cycle in sync is fed.
use Rattle.std.proofs.Common.{◌≡◌, ◌≢◌, ℕ, ◌==◌, Bool, true, false, ℤ, pos, Option, Some, None, List, [], ◌∷◌, ◌++◌, refl, ap, sym, ◌∙◌, subst, inl, inr, arith}
use Rattle.std.specs.Prelude.{AllPairs, Contains, ◌<◌}
use Rattle.std.proofs.lemmas.Bool.{and_parts}
use Rattle.std.proofs.lemmas.List.Kept.{AllPairs-filter}
use Rattle.fr_base.specs.States.{is_halted}
use Rattle.fr_base.specs.declared.node_row.NodeRow.{NodeRow}
use Rattle.fr_base.specs.declared.state.State.TheVariants.{Active, Passive}
use Rattle.fr_cluster.specs.Questions.{index_in, key_in, key_index_of, own_index}
use Rattle.fr_cluster.specs.Sane.{IsSane}
use Rattle.fr_cluster.specs.Setting.{Setting, correct_nodes, is_correct}
use Rattle.fr_cluster.specs.Values.{Values}
use Rattle.fr_cluster.specs.declared.nodes.NodeSpec.{NodeSpec}
use Rattle.fr_measure.specs.Values.{is_own}
use Rattle.fr_bound.specs.Bounds.{lambda_of, pi_of}
use Rattle.fr_bound.specs.Sync.{cycle_length_of}
use Rattle.fr_precision.specs.Instants.{gap_of, row_in, Runs}
use Rattle.fr_base.specs.Within.{IsWithin}
use Rattle.fr_time.specs.Slots.{action_point_of}
use Rattle.fr_precision.proofs.Values.{acts_before}
use Rattle.fr_precision.proofs.StepLaws.{any_two}
use Rattle.fr_history.specs.History.{row_for, row_of}
use Rattle.fr_runs.specs.Following.{IsInReach}
use Rattle.fr_history.specs.Cycles.{Cycle, Cycles}
use Rattle.fr_history.specs.Lawful.{IsLawful, Obeys}
use Rattle.fr_history.specs.Standing.{follows, following_nodes, has_row, row_nodes}
use Rattle.fr_precision.specs.Round.{Hearer, IsHeardAt, IsItself, IsOther}
use Rattle.fr_time.proofs.Keys.{key_slot_has, slot_of_index}
use Rattle.fr_cluster.proofs.Elements.{filtered, kept_filtered}
use Rattle.fr_runs.proofs.Begun.{row_sends}
use Rattle.fr_runs.proofs.Receivers.{is_correct_node, no_less}
use Rattle.fr_precision.proofs.RoundLemmas.{contains_map, map_contains}
use Rattle.fr_runs.proofs.Rows.{correct_ascend, each_row, has_row as row_there}
use Rattle.fr_runs.proofs.Nodes.{node_there}
use Rattle.fr_runs.specs.Gathered.{CycleRuns, IsDoubleInSync, follower_hearer, followers_since, hearers_of, reach_in, round_at, row_hearer}
use Rattle.fr_runs.specs.Hearers.{IsOneOf}
use Rattle.fr_runs.proofs.Courses.{no_row}
use Rattle.fr_runs.proofs.Going.{is_since, rows_ascend}
use Rattle.fr_runs.proofs.Drawing.{runs_of}
use Rattle.fr_runs.proofs.Reach.{first_reached, second_reached, some_follows, synced_reached, takes_precision, takes_reach}
use Rattle.fr_runs.specs.Supplied.{GatheringsAreFed, IsCovered, LawfulCyclesAreFed}
use Rattle.fr_runs.proofs.Catches.{catches_are_caught}
use Rattle.fr_runs.proofs.SyncedRows.{follower_regular, follows_later, row_later, row_regular, stays_later}
use Rattle.fr_runs.proofs.Hearing.{delays_in, heard_at, IsReceiver, Receivers, RowsSend}
use Rattle.fr_precision.specs.Placement.{IsRegular}

-- ---- own indexes

same_test : (a b : ℕ) → a ≡ b → (a == b) ≡ true
same_test a b is = grind arith

own_of : (p : Values) (node : NodeSpec) → IsSane p → Contains p.nodes node → own_index p node.id ≡ index_in p node.key
own_of p node sane there = ap (λ o. index_in p (key_in o)) (node_there p node sane there)

key_of_index : (p : Values) (key : Option ℕ) (index : ℕ) → index_in p key ≡ Some index → (slot : ℕ) × (key ≡ Some slot) × (key_index_of p slot ≡ Some index)
key_of_index p None index is = absurd (cc)
key_of_index p (Some slot) index is = (slot, refl, is)

-- ---- the nodes with rows

abbrev pub row_receivers : Setting → Cycles → Cycle → Cycle → Receivers
row_receivers x h even odd = record {
  own = own_index x.params;
  early = row_nodes x h;
  evens = even.told.rows;
  even_devs = even.told.devs;
  late = row_nodes x (even ∷ h);
  odds = odd.told.rows;
  odd_devs = odd.told.devs;
}

row_reached : (x : Setting) (h : Cycles) (even odd : Cycle) (double : ℕ) (node sender : NodeSpec) → IsDoubleInSync x h even odd double → Contains (row_nodes x h) node → Contains (row_nodes x h) sender
    → IsInReach x.params (pos (reach_in x)) (row_for even.told.rows sender.id) (row_for odd.told.rows sender.id) (row_for even.told.rows node.id) (row_for odd.told.rows node.id)
row_reached x h even odd double node sender g here there =
    let p = x.params in
    let sane : IsSane p = g.covered.sane in
    let evens : List NodeRow = even.told.rows in
    let odds : List NodeRow = odd.told.rows in
    let row = λ (n : NodeSpec) (is : Contains (row_nodes x h) n). (row_there (row_nodes x h) evens n g.even_runs.rows.nodes is).there in
    let late = λ (n : NodeSpec) (is : Contains (row_nodes x h) n).
    (row_there (row_nodes x (even ∷ h)) odds n g.odd_runs.rows.nodes (row_later x h even odd double n g is)).there in
    let runs = λ (n : NodeSpec) (is : Contains (row_nodes x h) n). runs_of p (row_for evens n.id) (row_for odds n.id) sane (row_regular x h even odd double n g is) in
    let from : NodeRow = row_for evens sender.id in
    let at : NodeRow = row_for evens node.id in
    let starts = any_two (λ (r : NodeRow). r.start) (pos (pi_of p)) evens from at g.in_sync.starts (row sender there) (row node here) in
    synced_reached p (pos (reach_in x)) from (row_for odds sender.id) at (row_for odds node.id) sane (runs sender there) (runs node here) (takes_precision x)
    (record {
      by_start = starts;
      by_even = any_two (cycle_length_of p) (pos (lambda_of p)) evens from at g.in_sync.even_lengths (row sender there) (row node here);
      by_odd = any_two (cycle_length_of p) (pos (lambda_of p)) odds (row_for odds sender.id) (row_for odds node.id) g.in_sync.odd_lengths (late sender there) (late node here);
    })

pub row_itself : (x : Setting) (h : Cycles) (even odd : Cycle) (node : NodeSpec) (index : ℕ) → IsSane x.params → Contains (row_nodes x h) node → own_index x.params node.id ≡ Some index
    → (slot : ℕ) × ((spec : NodeSpec) × IsItself (round_at x h even odd) (row_hearer x even odd node.id) index slot spec)
row_itself x h even odd node index sane among own =
    let has = filtered (λ (n : NodeSpec). has_row x h n.id) (correct_nodes x) node among in
    let correct = filtered (λ (n : NodeSpec). is_correct x n.id) x.params.nodes node has.0 in
    let key = key_of_index x.params node.key index (sym (own_of x.params node sane correct.0) ∙ own) in (
      key.0,
      (
        node,
        record {
          sender = record { there = correct.0; rows = rw (correct.1, has.1) refl; key = key.1 };
          slot_is = slot_of_index x.params index key.0 key.2;
          even = refl;
          odd = refl;
        },
      ),
    )

pub row_other : (x : Setting) (h : Cycles) (even odd : Cycle) (node sender : NodeSpec) (index slot : ℕ) → IsSane x.params
    → IsOther (round_at x h even odd) (row_hearer x even odd node.id) index slot sender → sender.id ≢ node.id
row_other x h even odd node sender index slot sane other is =
    let p = x.params in
    let indexed = (key_slot_has p index slot other.slot_is).0 in
    let own : own_index p sender.id ≡ Some index = own_of p sender sane other.sender.there ∙ ap (index_in p) other.sender.key ∙ indexed in
    let own_too : own_index p node.id ≡ Some index = ap (own_index p) (sym is) ∙ own in
    let e : true ≡ false = sym (same_test index index refl) ∙ sym (ap (λ o. is_own o index) own_too) ∙ other.other in
    cc

-- one whose rows are regular and within reach of each node with rows
pub row_receiver : (x : Setting) (h : Cycles) (even odd : Cycle) (double : ℕ) (reach : ℤ) (node : NodeSpec) → Obeys x h even → Obeys x (even ∷ h) odd → RowsSend x h even odd double reach
    → Contains (row_nodes x h) node → IsRegular x.params (row_for even.told.rows node.id) (row_for odd.told.rows node.id)
    → ((is_odd : Bool) (sender : NodeSpec) (slot : ℕ) → Contains (row_nodes x h) sender → sender.key ≡ Some slot
    → IsWithin reach
    (gap_of x.params is_odd (pos (action_point_of x.params slot)) (row_in is_odd (row_for even.told.rows sender.id) (row_for odd.told.rows sender.id)) (row_in is_odd (row_for even.told.rows node.id) (row_for odd.told.rows node.id))))
    → IsReceiver x h even odd reach (row_receivers x h even odd) node
row_receiver x h even odd double reach node obeys odd_obeys g among regular reached =
    let sane : IsSane x.params = g.sane in
    let later = stays_later x h even double node g.counted g.even_runs among in
    let t = obeys.told in
    let u = odd_obeys.told in
    record {
      correct = (filtered (λ (n : NodeSpec). has_row x h n.id) (correct_nodes x) node among).0;
      evens = record {
        correct_senders = λ sender is. (filtered (λ (n : NodeSpec). has_row x h n.id) (correct_nodes x) sender is).0;
        correct_receivers = λ receiver is. (filtered (λ (n : NodeSpec). has_row x h n.id) (correct_nodes x) receiver is).0;
        sender_nodes = g.even_runs.rows.nodes;
        receiver_nodes = g.even_runs.rows.nodes;
        receivers_ascend = rows_ascend x h sane;
        receptions = t.receptions;
        received = t.received;
        devs = t.devs;
      };
      odds = record {
        correct_senders = λ sender is. (filtered (λ (n : NodeSpec). has_row x (even ∷ h) n.id) (correct_nodes x) sender is).0;
        correct_receivers = λ receiver is. (filtered (λ (n : NodeSpec). has_row x (even ∷ h) n.id) (correct_nodes x) receiver is).0;
        sender_nodes = g.odd_runs.rows.nodes;
        receiver_nodes = g.odd_runs.rows.nodes;
        receivers_ascend = rows_ascend x (even ∷ h) sane;
        receptions = u.receptions;
        received = u.received;
        devs = u.devs;
      };
      hears_even = among;
      hears_odd = later;
      even_awake = ap is_halted (each_row (row_nodes x h) even.told.rows (λ row. row.state ≡ Active) node g.even_runs.rows.nodes among g.active_even);
      odd_awake = ap is_halted (each_row (row_nodes x (even ∷ h)) odd.told.rows (λ row. row.state ≡ Active) node g.odd_runs.rows.nodes later g.active_odd);
      regular = regular;
      reached = reached;
      itself = λ index own. row_itself x h even odd node index sane among own;
      other = λ index slot sender other. row_other x h even odd node sender index slot sane other;
    }

-- within reach up to the start of the offset correction is within it wherever a sender acts
pub acts_reached : (x : Setting) (h : Cycles) (even odd : Cycle) (reach : ℤ) (sender : NodeSpec) (slot : ℕ) (row next : NodeRow) (is_odd : Bool) → IsSane x.params → Contains (row_nodes x h) sender
    → sender.key ≡ Some slot → IsInReach x.params reach (row_for even.told.rows sender.id) (row_for odd.told.rows sender.id) row next
    → IsWithin reach (gap_of x.params is_odd (pos (action_point_of x.params slot)) (row_in is_odd (row_for even.told.rows sender.id) (row_for odd.told.rows sender.id)) (row_in is_odd row next))
acts_reached x h even odd reach sender slot row next is_odd sane sends key reached =
    reached (pos (action_point_of x.params slot)) is_odd (no_less (action_point_of x.params slot)) (acts_before (round_at x h even odd) slot sender sane (row_sends x h even odd sender slot sends key))

-- ---- the nodes that follow

abbrev pub follower_receivers : Setting → Cycles → Cycle → Cycle → Receivers
follower_receivers x h even odd = record {
  own = λ _. None;
  early = following_nodes x h;
  evens = even.followers;
  even_devs = even.follower_devs;
  late = following_nodes x (even ∷ h);
  odds = odd.followers;
  odd_devs = odd.follower_devs;
}

followers_ascend : (x : Setting) (h : Cycles) → IsSane x.params → AllPairs (λ (a : NodeSpec) (b : NodeSpec). a.id < b.id) (following_nodes x h)
followers_ascend x h sane =
    AllPairs-filter (λ (a : NodeSpec) (b : NodeSpec). a.id < b.id) (λ (node : NodeSpec). follows x h node.id) (correct_nodes x) (correct_ascend x sane)

-- a sender has a row, and so is no follower
pub follower_other : (x : Setting) (h : Cycles) (even odd : Cycle) (node sender : NodeSpec) (index slot : ℕ) → CycleRuns x h even → Contains (following_nodes x h) node
    → IsOther (round_at x h even odd) (follower_hearer x even odd node.id) index slot sender → sender.id ≢ node.id
follower_other x h even odd node sender index slot runs among other is =
    let both = and_parts (is_correct x sender.id) (has_row x h sender.id) other.sender.rows in
    let sends = kept_filtered (λ (n : NodeSpec). has_row x h n.id) (correct_nodes x) sender (is_correct_node x sender other.sender.there both.0) both.1 in
    let row = (row_there (row_nodes x h) even.told.rows sender runs.rows.nodes sends).is in
    let e : Some (row_for even.told.rows sender.id) ≡ None = sym row ∙ ap (row_of even.told.rows) is ∙ no_row (following_nodes x h) even.told.rows even.followers node runs.followers.nodes among runs.apart in
    cc

-- a follower whose rows are regular and within reach of each node with rows
pub follower_receiver : (x : Setting) (h : Cycles) (even odd : Cycle) (double : ℕ) (reach : ℤ) (node : NodeSpec) → Obeys x h even → Obeys x (even ∷ h) odd → RowsSend x h even odd double reach
    → Contains (following_nodes x h) node → IsRegular x.params (row_for even.followers node.id) (row_for odd.followers node.id)
    → ((is_odd : Bool) (sender : NodeSpec) (slot : ℕ) → Contains (row_nodes x h) sender → sender.key ≡ Some slot
    → IsWithin reach
    (gap_of x.params is_odd (pos (action_point_of x.params slot)) (row_in is_odd (row_for even.told.rows sender.id) (row_for odd.told.rows sender.id)) (row_in is_odd (row_for even.followers node.id) (row_for odd.followers node.id))))
    → IsReceiver x h even odd reach (follower_receivers x h even odd) node
follower_receiver x h even odd double reach node obeys odd_obeys g among regular reached =
    let sane : IsSane x.params = g.sane in
    let later = follows_later x h even double node g.counted g.even_runs among in
    let t = obeys.followers in
    let u = odd_obeys.followers in
    record {
      correct = (filtered (λ (n : NodeSpec). follows x h n.id) (correct_nodes x) node among).0;
      evens = record {
        correct_senders = λ sender is. (filtered (λ (n : NodeSpec). has_row x h n.id) (correct_nodes x) sender is).0;
        correct_receivers = λ receiver is. (filtered (λ (n : NodeSpec). follows x h n.id) (correct_nodes x) receiver is).0;
        sender_nodes = g.even_runs.rows.nodes;
        receiver_nodes = g.even_runs.followers.nodes;
        receivers_ascend = followers_ascend x h sane;
        receptions = t.receptions;
        received = t.received;
        devs = t.devs;
      };
      odds = record {
        correct_senders = λ sender is. (filtered (λ (n : NodeSpec). has_row x (even ∷ h) n.id) (correct_nodes x) sender is).0;
        correct_receivers = λ receiver is. (filtered (λ (n : NodeSpec). follows x (even ∷ h) n.id) (correct_nodes x) receiver is).0;
        sender_nodes = g.odd_runs.rows.nodes;
        receiver_nodes = g.odd_runs.followers.nodes;
        receivers_ascend = followers_ascend x (even ∷ h) sane;
        receptions = u.receptions;
        received = u.received;
        devs = u.devs;
      };
      hears_even = among;
      hears_odd = later;
      even_awake = ap is_halted (each_row (following_nodes x h) even.followers (λ row. row.state ≡ Passive) node g.even_runs.followers.nodes among g.even_runs.followers.states);
      odd_awake = ap is_halted (each_row (following_nodes x (even ∷ h)) odd.followers (λ row. row.state ≡ Passive) node g.odd_runs.followers.nodes later g.odd_runs.followers.states);
      regular = regular;
      reached = reached;
      itself = λ index own. absurd (cc);
      other = λ index slot sender other. follower_other x h even odd node sender index slot g.even_runs among other;
    }

rows_send : (x : Setting) (h : Cycles) (even odd : Cycle) (double : ℕ) → IsCovered x → IsDoubleInSync x h even odd double → RowsSend x h even odd double (pos (reach_in x))
rows_send x h even odd double w g = record {
  sane = g.covered.sane;
  counted = g.counted;
  even_runs = g.even_runs;
  odd_runs = g.odd_runs;
  active_even = g.in_sync.active_even;
  active_odd = g.in_sync.active_odd;
  room = w.room;
  delays = delays_in x h even double w g.counted g.within;
}

-- in its second double cycle, and in its first
follower_runs_at : (x : Setting) (h : Cycles) (even odd : Cycle) (double : ℕ) (node : NodeSpec) → IsDoubleInSync x h even odd double → Contains (following_nodes x h) node
    → Runs x.params (row_for even.followers node.id) (row_for odd.followers node.id)
follower_runs_at x h even odd double node g among =
    runs_of x.params (row_for even.followers node.id) (row_for odd.followers node.id) g.covered.sane (follower_regular x h even odd double node g among)

sender_runs : (x : Setting) (h : Cycles) (even odd : Cycle) (double : ℕ) (node : NodeSpec) → IsDoubleInSync x h even odd double → Contains (row_nodes x h) node
    → Runs x.params (row_for even.told.rows node.id) (row_for odd.told.rows node.id)
sender_runs x h even odd double node g among =
    runs_of x.params (row_for even.told.rows node.id) (row_for odd.told.rows node.id) g.covered.sane (row_regular x h even odd double node g among)

second_receiver : (x : Setting) (h : Cycles) (even odd : Cycle) (double : ℕ) (node : NodeSpec) → IsCovered x → Obeys x h even → Obeys x (even ∷ h) odd → IsDoubleInSync x h even odd double
    → Contains (followers_since x h 2 double) node → IsReceiver x h even odd (pos (reach_in x)) (follower_receivers x h even odd) node
second_receiver x h even odd double node w obeys odd_obeys g among =
    let follows_it = is_since x h 2 double node among in
    let n : Hearer = follower_hearer x even odd node.id in
    let listed = contains_map (λ (m : NodeSpec). follower_hearer x even odd m.id) (followers_since x h 2 double) node among in
    follower_receiver x h even odd double (pos (reach_in x)) node obeys odd_obeys (rows_send x h even odd double w g) follows_it (follower_regular x h even odd double node g follows_it)
    (λ is_odd sender slot there key.
    let row = contains_map (λ (m : NodeSpec). row_hearer x even odd m.id) (row_nodes x h) sender there in
    acts_reached x h even odd (pos (reach_in x)) sender slot n.even n.odd is_odd g.covered.sane there key
    (
    second_reached x.params (pos (reach_in x)) (row_for even.told.rows sender.id) (row_for odd.told.rows sender.id) n.even n.odd g.covered.sane
    (sender_runs x h even odd double sender g there) (follower_runs_at x h even odd double node g follows_it) (takes_reach x (some_follows x h 2 double node among))
    (g.seconds_near n listed (row_hearer x even odd sender.id) row)
    ))

first_receiver : (x : Setting) (h : Cycles) (even odd : Cycle) (double : ℕ) (node : NodeSpec) → IsCovered x → Obeys x h even → Obeys x (even ∷ h) odd → IsDoubleInSync x h even odd double
    → Contains (followers_since x h 1 double) node → IsReceiver x h even odd (pos (reach_in x)) (follower_receivers x h even odd) node
first_receiver x h even odd double node w obeys odd_obeys g among =
    let follows_it = is_since x h 1 double node among in
    let n : Hearer = follower_hearer x even odd node.id in
    let listed = contains_map (λ (m : NodeSpec). follower_hearer x even odd m.id) (followers_since x h 1 double) node among in
    follower_receiver x h even odd double (pos (reach_in x)) node obeys odd_obeys (rows_send x h even odd double w g) follows_it (follower_regular x h even odd double node g follows_it)
    (λ is_odd sender slot there key.
    let row = contains_map (λ (m : NodeSpec). row_hearer x even odd m.id) (row_nodes x h) sender there in
    acts_reached x h even odd (pos (reach_in x)) sender slot n.even n.odd is_odd g.covered.sane there key
    (
    first_reached x.params (pos (reach_in x)) (row_for even.told.rows sender.id) (row_for odd.told.rows sender.id) n.even n.odd g.covered.sane
    (sender_runs x h even odd double sender g there) (follower_runs_at x h even odd double node g follows_it) (takes_reach x (some_follows x h 1 double node among))
    (g.firsts_near n listed (row_hearer x even odd sender.id) row)
    ))

-- ---- each of them hears the round

supplied : (x : Setting) (h : Cycles) (even odd : Cycle) (double : ℕ) (n : Hearer) → IsCovered x → Obeys x h even → Obeys x (even ∷ h) odd → IsDoubleInSync x h even odd double
    → IsOneOf (hearers_of x h even odd double) n → IsHeardAt (round_at x h even odd) n
supplied x h even odd double n w obeys odd_obeys g (inl (inl here)) =
    let from = map_contains (λ (m : NodeSpec). row_hearer x even odd m.id) (row_nodes x h) n here in
    subst (IsHeardAt (round_at x h even odd)) from.2
    (
    heard_at x h even odd double (pos (reach_in x)) (row_receivers x h even odd) from.0 (λ sender receiver slot link. w.links sender receiver slot double link g.within) (rows_send x h even odd double w g)
    (row_receiver x h even odd double (pos (reach_in x)) from.0 obeys odd_obeys (rows_send x h even odd double w g) from.1 (row_regular x h even odd double from.0 g from.1)
    (λ is_odd sender slot there key.
    acts_reached x h even odd (pos (reach_in x)) sender slot (row_for even.told.rows from.0.id) (row_for odd.told.rows from.0.id) is_odd g.covered.sane there key (row_reached x h even odd double from.0 sender g from.1 there)))
    )
supplied x h even odd double n w obeys odd_obeys g (inl (inr here)) =
    let from = map_contains (λ (m : NodeSpec). follower_hearer x even odd m.id) (followers_since x h 2 double) n here in
    subst (IsHeardAt (round_at x h even odd)) from.2
    (heard_at x h even odd double (pos (reach_in x)) (follower_receivers x h even odd) from.0 (λ sender receiver slot link. w.links sender receiver slot double link g.within) (rows_send x h even odd double w g) (second_receiver x h even odd double from.0 w obeys odd_obeys g from.1))
supplied x h even odd double n w obeys odd_obeys g (inr here) =
    let from = map_contains (λ (m : NodeSpec). follower_hearer x even odd m.id) (followers_since x h 1 double) n here in
    subst (IsHeardAt (round_at x h even odd)) from.2
    (heard_at x h even odd double (pos (reach_in x)) (follower_receivers x h even odd) from.0 (λ sender receiver slot link. w.links sender receiver slot double link g.within) (rows_send x h even odd double w g) (first_receiver x h even odd double from.0 w obeys odd_obeys g from.1))

pub gatherings_are_fed : GatheringsAreFed
gatherings_are_fed x h even odd double w obeys odd_obeys g = record {
  supplied = λ n is. supplied x h even odd double n w obeys odd_obeys g is;
  caught = λ node join c there at is. catches_are_caught x h even odd double node join c g w.referenced there at is;
}

pub lawful_part : (x : Setting) (later earlier : Cycles) → IsLawful x (later ++ earlier) → IsLawful x earlier
lawful_part x [] earlier lawful = lawful
lawful_part x (c ∷ later) earlier lawful = lawful_part x later earlier lawful.1

pub lawful_cycles_are_fed : LawfulCyclesAreFed
lawful_cycles_are_fed x h double w lawful k earlier even odd from part g =
    let lawful_there = lawful_part x part.later (odd ∷ even ∷ earlier) (subst (IsLawful x) part.parted lawful) in
    gatherings_are_fed x earlier even odd k w lawful_there.1.0 lawful_there.0 g
