-- Nodes that join, listeners and followers, as contracts see them.
use Rattle.std.proofs.Common.{◌≡◌, ℕ, suc, ◌+◌, ◌*◌, ◌<◌, ◌≤◌, Bool, true, false, Option, Some, None, [], ◌∷◌, length, refl, ap, sym, ◌∙◌, arith, if◌then◌else◌}
use Rattle.std.specs.Prelude.{Contains, is_some}
use Rattle.std.specs.Option.{option_map}
use Rattle.fr_base.specs.declared.state.Outcome.{Outcome}
use Rattle.fr_cluster.specs.Setting.{Setting, correct_nodes}
use Rattle.fr_cluster.specs.Values.{Values}
use Rattle.fr_cluster.specs.declared.join.Join.{Join}
use Rattle.fr_cluster.specs.declared.nodes.NodeSpec.{NodeSpec}
use Rattle.fr_measure.specs.Readings.{no_readings}
use Rattle.fr_poc.specs.Control.{Status, control_of}
use Rattle.fr_poc.specs.Limits.{limits_of}
use Rattle.fr_reception.specs.Listening.{first_rate_of, first_start_of}
use Rattle.fr_node.specs.Listening.{follower_by}
use Rattle.fr_node.specs.View.{NodeView}
use Rattle.fr_time.specs.Cycles.{is_odd}
use Rattle.fr_history.specs.History.{row_of}
use Rattle.fr_history.specs.Cycles.{Cycle, Cycles}
use Rattle.fr_history.specs.Laws.{begun_by, caught_rate, caught_start, rate_by_rows, rate_of_next, start_by_rows, start_of_next}
use Rattle.fr_history.specs.Lawful.{IsLawful}
use Rattle.fr_history.specs.Standing.{follows, has_row}
use Rattle.fr_history.proofs.Standing.{stand_in_time}
use Rattle.fr_air.specs.Nodes.{outcomes_after, pair_in, readings_after}
use Rattle.fr_air.specs.Views.{FollowersBegin, JoiningNodesAreJoined, ListenersComeFirst, node_of_next}
use Rattle.fr_air.proofs.Listeners.{listeners_begin}
use Rattle.fr_air.proofs.Nodes.{is_none, joining_nodes_are_fresh, without_rows}
use Rattle.fr_air.proofs.NextStanding.{begins_in, not_so, told_follows, told_has}

-- a node with some parts and a status
abbrev with_status : Setting → Cycles → Bool → ℕ → Status → NodeView
with_status x h follows node status = let n : NodeView = node_of_next x h follows node in record n { control = record { limits = limits_of x.params; status = status } }

pub joining_nodes_are_joined : JoiningNodesAreJoined
joining_nodes_are_joined x h node lawful among =
    ap (λ pairs. with_status x h false node.id (control_of (limits_of x.params) pairs)) (joining_nodes_are_fresh x h node lawful among)

pub listeners_come_first : ListenersComeFirst
listeners_come_first x h even odd node join slot twice key =
    sym (ap (λ o. option_map (follower_by x.params node (suc (suc (length h)))) o) (listeners_begin x h even odd node join slot twice key))

-- ---- a node that has not begun to follow has no row of either kind

record TakesNoPart (c : Cycle) (node : ℕ) : Type 0 where
  no_row : row_of c.told.rows node ≡ None
  no_follower : row_of c.followers node ≡ None

no_part : (x : Setting) (h : Cycles) (c : Cycle) (node : NodeSpec) (join : Join) → IsLawful x (c ∷ h) → Contains (correct_nodes x) node → x.join node.id ≡ Some join
    → length h < 2 * join.double + 2 → TakesNoPart c node.id
no_part x h c node join lawful there at early =
    let stands = stand_in_time x h node.id join lawful.1 at in
    let had : has_row x h node.id ≡ false = not_so (has_row x h node.id) (λ has. let from = stands.row_from has in omega (arith, from, early)) in
    let followed : follows x h node.id ≡ false = not_so (follows x h node.id) (λ does. let from = stands.follows_from does in omega (arith, from, early)) in
    record {
      no_row = is_none (row_of c.told.rows node.id) (told_has x h c node lawful.0 there ∙ had);
      no_follower = is_none (row_of c.followers node.id) (told_follows x h c node lawful.0 there ∙ followed);
    }

same_either : (b : Bool) (o : Option (Outcome × Outcome)) → o ≡ None → (if b then o else o) ≡ None
same_either true o is = is
same_either false o is = is

no_outcomes : (x : Setting) (h : Cycles) (node : NodeSpec) (join : Join) → IsLawful x h → Contains (correct_nodes x) node → x.join node.id ≡ Some join
    → length h ≤ 2 * join.double + 2 → outcomes_after x h node.id ≡ None
unfolding outcomes_after
no_outcomes x [] node join lawful there at early = refl
no_outcomes x (c ∷ h) node join lawful there at early =
    let none = no_part x h c node join lawful there at early in
    let before : Option (Outcome × Outcome) = outcomes_after x h node.id in
    ap (λ o. if is_odd (length h) then pair_in x.params h c o (row_of c.followers node.id) before else before) none.no_row
    ∙ ap (λ o. if is_odd (length h) then pair_in x.params h c None o before else before) none.no_follower
    ∙ same_either (is_odd (length h)) before (no_outcomes x h node join lawful.1 there at (omega (arith, early)))

no_readings_yet : (x : Setting) (h : Cycles) (c : Cycle) (node : ℕ) → TakesNoPart c node → readings_after x (c ∷ h) node ≡ no_readings
unfolding readings_after
no_readings_yet x h c node none = rw (none.no_row, none.no_follower) refl

pub followers_begin : FollowersBegin
followers_begin x h even odd node join c lawful there at begins =
    let p : Values = x.params in
    let all : Cycles = odd ∷ even ∷ h in
    let long : suc (suc (length h)) ≡ 2 * join.double + 2 = begins_in x all node.id join (ap (λ o. is_some o) begins) in
    let none = no_part x (even ∷ h) odd node join lawful there at (omega (arith, long)) in
    let begun : begun_by x all node.id (x.join node.id) ≡ Some c = ap (begun_by x all node.id) at ∙ begins in
    let start : start_of_next x all node.id ≡ first_start_of p c =
    ap (λ o. start_by_rows x all node.id o (row_of odd.followers node.id)) none.no_row ∙ ap (λ o. start_by_rows x all node.id None o) none.no_follower ∙ ap (caught_start p) begun in
    let rate : rate_of_next x all node.id ≡ first_rate_of p c =
    ap (λ o. rate_by_rows x odd (even ∷ h) node.id o (row_of odd.followers node.id)) none.no_row ∙ ap (λ o. rate_by_rows x odd (even ∷ h) node.id None o) none.no_follower ∙ ap (caught_rate p) begun in
    let table = no_readings_yet x (even ∷ h) odd node.id none in
    let outcomes = no_outcomes x all node join lawful there at (omega (arith, long)) in
    let fails : has_row x all node.id ≡ false =
    not_so (has_row x all node.id) (λ has. let from = (stand_in_time x all node.id join lawful at).row_from has in omega (arith, from, long)) in
    let fresh = without_rows x all node lawful there fails in
    λ i. record {
      id = node.id;
      cycle = suc (suc (length h));
      length = None;
      start = start i;
      rate = rate i;
      table = table i;
      control = record { limits = limits_of p; status = control_of (limits_of p) (fresh i) };
      follows = true;
      outcomes = outcomes i;
    }
