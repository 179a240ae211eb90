-- What follows a double cycle at the nodes that it had, with a row or as followers.
use Rattle.std.proofs.Common.{◌≡◌, ℕ, suc, ◌+◌, ◌*◌, ◌<◌, ◌≤◌, Bool, true, false, Some, None, List, [], ◌∷◌, All, length, map, pos, refl, ap, sym, ◌∙◌, subst, inl, inr, arith}
use Rattle.std.specs.Prelude.{Contains}
use Rattle.fr_base.specs.declared.node_row.NodeRow.{NodeRow}
use Rattle.fr_base.specs.declared.state.Outcome.TheVariants.{Within}
use Rattle.fr_base.specs.declared.state.State.TheVariants.{Active}
use Rattle.fr_cluster.specs.Setting.{Setting, correct_nodes}
use Rattle.fr_cluster.specs.Values.{Values}
use Rattle.fr_cluster.specs.declared.nodes.NodeSpec.{NodeSpec}
use Rattle.fr_correct.specs.declared.term.Term.{Term}
use Rattle.fr_precision.specs.Rows.{corrected_end_of, HasProperMicro, IsSteady}
use Rattle.fr_precision.specs.Step.{IsFollowed, Member}
use Rattle.fr_precision.specs.Rates.{IsNext}
use Rattle.fr_history.specs.Rows.{offset_after}
use Rattle.fr_history.proofs.Lists.{map-map}
use Rattle.fr_history.specs.Terms.{offset_term_in, outcomes_in, status_in}
use Rattle.fr_runs.specs.Group.{Group, IsGroupKept, IsOf, WillHaveRow}
use Rattle.fr_history.specs.Cycles.{Cycle, Cycles, told_of}
use Rattle.fr_history.specs.Laws.{follower_laws, follower_offset, rate_of_next, row_laws, start_of_next}
use Rattle.fr_history.specs.Standing.{following_nodes, has_row, row_nodes}
use Rattle.fr_precision.specs.Round.{Hearer, senders_of}
use Rattle.fr_cluster.proofs.Elements.{filtered, kept_filtered}
use Rattle.fr_history.specs.History.{AreRowsOf, row_for}
use Rattle.fr_runs.proofs.Doubles.{even_length, odd_length, status_even}
use Rattle.fr_runs.proofs.Receivers.{same_mapped}
use Rattle.fr_precision.proofs.RoundLemmas.{contains_map, map_contains}
use Rattle.fr_runs.proofs.Rows.{each_row, has_row as has_row_in, row_runs_by, rows_are, Ascend}
use Rattle.fr_runs.specs.Gathered.{IsHeardByAll, IsDoubleInSync, AreClocksCovered, follower_hearer, followers_since, hearers_of, reach_in, round_at, row_hearer}
use Rattle.fr_runs.specs.Hearers.{group_of, member_from}
use Rattle.fr_runs.specs.Succession.{IsSucceeded}
use Rattle.fr_runs.proofs.Courses.{NodeTwo, RunTwo, follower_term_is, follower_two, is_correct_follower, is_correct_row, no_row, proper_micro, rate_followed_odd, rate_told_odd, row_term_is, row_two, start_followed, start_told, steady}
use Rattle.fr_runs.proofs.Going.{is_since, kept}
use Rattle.fr_runs.proofs.Outcomes.{active_after, begun_active, outcomes_none, told_counted}

-- ---- a step of a run

-- a double cycle and the next one
pub record IsStep (x : Setting) (h : Cycles) (even odd even2 odd2 : Cycle) (double : ℕ) : Type 0 where
  pub gathered : IsDoubleInSync x h even odd double
  pub fed : IsHeardByAll x h even odd double
  pub more : suc double < x.doubles
  pub succeeded : IsSucceeded x h even odd double
  pub two : RunTwo x h even odd
  pub next : RunTwo x (odd ∷ even ∷ h) even2 odd2

pub kept_in : (x : Setting) (h : Cycles) (even odd even2 odd2 : Cycle) (double : ℕ) → IsStep x h even odd even2 odd2 double
    → IsGroupKept x.params (senders_of (round_at x h even odd)) (group_of x.params (hearers_of x h even odd double)) (pos (reach_in x))
kept_in x h even odd even2 odd2 double s = kept x h even odd double s.gathered s.fed s.two

-- the rows with which a receiver goes on
pub record Moves (p : Values) (n : Hearer) (even odd : NodeRow) : Type 0 where
  pub start : even.start ≡ corrected_end_of p n.odd
  pub next : IsNext p n.odd (member_from p n).rate_term even odd

-- from a double cycle to the end of the next one microticks lie in their range and change within the bound
pub record MicrosFit (x : Setting) (double : ℕ) : Type 0 where
  pub proper : (node : NodeSpec) (cycle : ℕ) (row : NodeRow) → Contains (correct_nodes x) node → 2 * double ≤ cycle → cycle < 2 * double + 4 → row.length ≡ x.microtick node.id cycle → HasProperMicro x.params row
  pub steady : (node : NodeSpec) (cycle : ℕ) (row next : NodeRow) → Contains (correct_nodes x) node → 2 * double ≤ cycle → suc cycle < 2 * double + 4
      → row.length ≡ x.microtick node.id cycle → next.length ≡ x.microtick node.id (suc cycle) → IsSteady x.params row next

pub covered_micros : (x : Setting) (double : ℕ) → AreClocksCovered x → suc double < x.doubles → MicrosFit x double
covered_micros x double covered more = record {
  proper = λ node cycle row correct from to is. proper_micro x node cycle row covered correct (omega (arith, to, more)) is;
  steady = λ node cycle row next correct from to is next_is. steady x node cycle row.length next.length covered correct (omega (arith, to, more)) is next_is;
}

pub moves_by : (x : Setting) (h : Cycles) (even odd : Cycle) (double : ℕ) (node : NodeSpec) (n : Hearer) (even2 odd2 : NodeRow) → MicrosFit x double → length h ≡ 2 * double
    → Contains (correct_nodes x) node → n.odd.length ≡ x.microtick node.id (suc (length h))
    → even2.start ≡ corrected_end_of x.params n.odd → even2.rate ≡ (member_from x.params n).rate_term.value → NodeTwo x (odd ∷ even ∷ h) even2 odd2 node
    → Moves x.params n even2 odd2
moves_by x h even odd double node n even2 odd2 micros counted correct long start rate at = record {
  start = start;
  next = record {
    even_rate = rate;
    odd_rate = at.double.same_rate ∙ rate;
    even_micro = micros.proper node (suc (suc (length h))) even2 correct (omega (arith, counted)) (omega (arith, counted)) at.even_length;
    odd_micro = micros.proper node (suc (suc (suc (length h)))) odd2 correct (omega (arith, counted)) (omega (arith, counted)) at.odd_length;
    even_steady = micros.steady node (suc (length h)) n.odd even2 correct (omega (arith, counted)) (omega (arith, counted)) long at.even_length;
    odd_steady = micros.steady node (suc (suc (length h))) even2 odd2 correct (omega (arith, counted)) (omega (arith, counted)) at.even_length at.odd_length;
  };
}

pub two_on : (h : Cycles) (even odd : Cycle) (double : ℕ) → length h ≡ 2 * double → length (odd ∷ even ∷ h) ≡ 2 * suc double
two_on h even odd double counted = omega (arith, counted)

-- ---- whatever is known of the clocks, where nodes with rows are active and no term of a receiver is cut

pub record IsUncutStep (x : Setting) (h : Cycles) (even odd even2 odd2 : Cycle) (double : ℕ) : Type 0 where
  pub micros : MicrosFit x double
  pub counted : length h ≡ 2 * double
  pub two : RunTwo x h even odd
  pub next : RunTwo x (odd ∷ even ∷ h) even2 odd2
  pub succeeded : IsSucceeded x h even odd double
  pub active_even : All (λ row. row.state ≡ Active) even.told.rows
  pub active_odd : All (λ row. row.state ≡ Active) odd.told.rows
  pub fresh : (node : NodeSpec) → Contains (correct_nodes x) node → has_row x h node.id ≡ false → outcomes_in x.params (told_of h) node.id ≡ []
  pub offset : (node : Member) → IsOf (group_of x.params (hearers_of x h even odd double)) node → node.offset_term.outcome ≡ Within
  pub rate : (node : Member) → IsOf (group_of x.params (hearers_of x h even odd double)) node → node.rate_term.outcome ≡ Within

pub uncut_step : (x : Setting) (h : Cycles) (even odd even2 odd2 : Cycle) (double : ℕ) → IsStep x h even odd even2 odd2 double → IsUncutStep x h even odd even2 odd2 double
uncut_step x h even odd even2 odd2 double s =
    let g = s.gathered in
    let all = kept_in x h even odd even2 odd2 double s in
    record {
      micros = covered_micros x double g.covered s.more;
      counted = g.counted;
      two = s.two;
      next = s.next;
      succeeded = s.succeeded;
      active_even = g.in_sync.active_even;
      active_odd = g.in_sync.active_odd;
      fresh = g.fresh;
      offset = all.uncut;
      rate = λ node here. (all.range node here).uncut;
    }

-- what the clock of a node goes on by, by the receiver that it was
record GoesOnBy (x : Setting) (h : Cycles) (even odd : Cycle) (node : ℕ) (n : Hearer) : Type 0 where
  start : start_of_next x (odd ∷ even ∷ h) node ≡ corrected_end_of x.params n.odd
  rate : rate_of_next x (odd ∷ even ∷ h) node ≡ (member_from x.params n).rate_term.value
  long : n.odd.length ≡ x.microtick node (suc (length h))

row_goes_on : (x : Setting) (h : Cycles) (even odd even2 odd2 : Cycle) (double : ℕ) (node : NodeSpec) → IsUncutStep x h even odd even2 odd2 double → Contains (row_nodes x h) node
    → GoesOnBy x h even odd node.id (row_hearer x even odd node.id)
row_goes_on x h even odd even2 odd2 double node s among =
    let row = row_for odd.told.rows node.id in
    let late = row_runs_by (row_laws x (even ∷ h)) (offset_after x.params (told_of (even ∷ h)) odd.told) (row_nodes x h) odd.told.rows node s.two.odd_rows among in
    let active = each_row (row_nodes x h) odd.told.rows (λ row. row.state ≡ Active) node s.two.odd_rows.nodes among s.active_odd in
    record {
      start = start_told x (even ∷ h) odd node.id row late.has.is;
      rate =
          rate_told_odd x (even ∷ h) odd node.id row (odd_length (length h) double s.counted) active late.has.is
          ∙ ap (λ (t : Term). t.value) (row_term_is x h even odd node.id late.has.number);
      long = late.length_is;
    }

follower_goes_on : (x : Setting) (h : Cycles) (even odd : Cycle) (double : ℕ) (node : NodeSpec) → length h ≡ 2 * double → RunTwo x h even odd
    → Contains (following_nodes x h) node → GoesOnBy x h even odd node.id (follower_hearer x even odd node.id)
follower_goes_on x h even odd double node counted two among =
    let row = row_for odd.followers node.id in
    let nodes = following_nodes x h in
    let late = row_runs_by (follower_laws x (even ∷ h)) (follower_offset x.params (even ∷ h) odd.follower_devs) nodes odd.followers node two.odd_followers among in
    let none = no_row nodes odd.told.rows odd.followers node two.odd_followers.nodes among two.odd_apart in
    record {
      start = start_followed x (even ∷ h) odd node.id row none late.has.is;
      rate =
          rate_followed_odd x (even ∷ h) odd node.id row (odd_length (length h) double counted) none late.has.is
          ∙ ap (λ (t : Term). t.value) (follower_term_is x h even odd node.id late.has.number);
      long = late.length_is;
    }

-- to a row
to_row : (x : Setting) (h : Cycles) (even odd even2 odd2 : Cycle) (double : ℕ) (node : NodeSpec) (n : Hearer) → IsUncutStep x h even odd even2 odd2 double
    → GoesOnBy x h even odd node.id n → Contains (row_nodes x (odd ∷ even ∷ h)) node → Moves x.params n (row_for even2.told.rows node.id) (row_for odd2.told.rows node.id)
to_row x h even odd even2 odd2 double node n s on among =
    let after = odd ∷ even ∷ h in
    let first = row_runs_by (row_laws x after) (offset_after x.params (told_of after) even2.told) (row_nodes x after) even2.told.rows node s.next.even_rows among in
    moves_by x h even odd double node n (row_for even2.told.rows node.id) (row_for odd2.told.rows node.id) s.micros s.counted (is_correct_row x after node among) on.long
    (first.start ∙ on.start) (first.rate ∙ on.rate)
    (row_two x after even2 odd2 node s.next (even_length (length after) (suc double) (two_on h even odd double s.counted)) among)

-- or to the next row as a follower
pub follower_moves : (x : Setting) (h : Cycles) (even odd even2 odd2 : Cycle) (double : ℕ) (node : NodeSpec) → IsUncutStep x h even odd even2 odd2 double
    → Contains (following_nodes x h) node → Contains (following_nodes x (odd ∷ even ∷ h)) node
    → Moves x.params (follower_hearer x even odd node.id) (row_for even2.followers node.id) (row_for odd2.followers node.id)
follower_moves x h even odd even2 odd2 double node s before among =
    let after = odd ∷ even ∷ h in
    let on = follower_goes_on x h even odd double node s.counted s.two before in
    let first = row_runs_by (follower_laws x after) (follower_offset x.params after even2.follower_devs) (following_nodes x after) even2.followers node s.next.even_followers among in
    moves_by x h even odd double node (follower_hearer x even odd node.id) (row_for even2.followers node.id) (row_for odd2.followers node.id) s.micros s.counted
    (is_correct_follower x after node among) on.long (first.start ∙ on.start) (first.rate ∙ on.rate)
    (follower_two x after even2 odd2 node s.next (even_length (length after) (suc double) (two_on h even odd double s.counted)) among)

-- ---- states

row_stays : (x : Setting) (h : Cycles) (even odd even2 odd2 : Cycle) (double : ℕ) (node : NodeSpec) → IsUncutStep x h even odd even2 odd2 double → Contains (row_nodes x h) node
    → (status_in x.params (told_of (odd ∷ even ∷ h)) node.id).state ≡ Active
row_stays x h even odd even2 odd2 double node s among =
    let p = x.params in
    let nodes = row_nodes x h in
    let at : NodeSpec → Hearer = λ n. row_hearer x even odd n.id in
    let early = row_runs_by (row_laws x h) (offset_after p (told_of h) even.told) nodes even.told.rows node s.two.even_rows among in
    let late = row_runs_by (row_laws x (even ∷ h)) (offset_after p (told_of (even ∷ h)) odd.told) nodes odd.told.rows node s.two.odd_rows among in
    let active = each_row nodes even.told.rows (λ row. row.state ≡ Active) node s.two.even_rows.nodes among s.active_even in
    let member = contains_map (member_from p) (map at nodes) (at node) (contains_map at nodes node among) in
    active_after x h even odd double node.id (row_for odd.told.rows node.id) s.counted late.has.is (sym early.state ∙ active)
    (ap (λ n. (offset_term_in p (told_of (even ∷ h)) odd.told.devs n).outcome) late.has.number ∙ s.offset (member_from p (at node)) (inl (inl member)))
    (ap (λ (t : Term). t.outcome) (row_term_is x h even odd node.id late.has.number) ∙ s.rate (member_from p (at node)) (inl (inl member)))

-- a node that follows had no row
follower_had_none : (x : Setting) (h : Cycles) (even odd : Cycle) (node : NodeSpec) → RunTwo x h even odd → Contains (following_nodes x h) node → has_row x h node.id ≡ false
follower_had_none x h even odd node two among = by_test (has_row x h node.id) refl
  where
    by_test : (b : Bool) → has_row x h node.id ≡ b → has_row x h node.id ≡ false
    by_test false has = has
    by_test true has =
        let none = no_row (following_nodes x h) even.told.rows even.followers node two.even_followers.nodes among two.even_apart in
        let there = kept_filtered (λ (n : NodeSpec). has_row x h n.id) (correct_nodes x) node (is_correct_follower x h node among) has in
        let some = (has_row_in (row_nodes x h) even.told.rows node two.even_rows.nodes there).is in
        let e : None ≡ Some (row_for even.told.rows node.id) = sym none ∙ some in
        absurd (cc)

follower_begins : (x : Setting) (h : Cycles) (even odd even2 odd2 : Cycle) (double : ℕ) (node : NodeSpec) → IsUncutStep x h even odd even2 odd2 double
    → Contains (following_nodes x h) node → (status_in x.params (told_of (odd ∷ even ∷ h)) node.id).state ≡ Active
follower_begins x h even odd even2 odd2 double node s among =
    let none = no_row (following_nodes x h) odd.told.rows odd.followers node s.two.odd_followers.nodes among s.two.odd_apart in
    let fresh = s.fresh node (is_correct_follower x h node among) (follower_had_none x h even odd node s.two among) in
    begun_active x (odd ∷ even ∷ h) node.id (outcomes_none x h even odd double node.id s.counted none ∙ fresh)

-- ---- a node that has a row behind the double cycle, by whether it had one

abbrev pub hearer_by : Setting → Cycle → Cycle → Bool → ℕ → Hearer
hearer_by x even odd true node = row_hearer x even odd node
hearer_by x even odd false node = follower_hearer x even odd node

pub record Moved (x : Setting) (h : Cycles) (even odd even2 odd2 : Cycle) (double : ℕ) (node : NodeSpec) (n : Hearer) : Type 0 where
  pub will : WillHaveRow (group_of x.params (hearers_of x h even odd double)) (member_from x.params n)
  pub number : n.even.node ≡ node.id
  pub moves : Moves x.params n (row_for even2.told.rows node.id) (row_for odd2.told.rows node.id)
  pub active : (status_in x.params (told_of (odd ∷ even ∷ h)) node.id).state ≡ Active

pub moved : (x : Setting) (h : Cycles) (even odd even2 odd2 : Cycle) (double : ℕ) (node : NodeSpec) → IsUncutStep x h even odd even2 odd2 double
    → Contains (row_nodes x (odd ∷ even ∷ h)) node → Moved x h even odd even2 odd2 double node (hearer_by x even odd (has_row x h node.id) node.id)
moved x h even odd even2 odd2 double node s among = by_kind (has_row x h node.id) refl
  where
    by_kind : (b : Bool) → has_row x h node.id ≡ b → Moved x h even odd even2 odd2 double node (hearer_by x even odd b node.id)
    by_kind true has =
        let p = x.params in
        let nodes = row_nodes x h in
        let at : NodeSpec → Hearer = λ n. row_hearer x even odd n.id in
        let had = kept_filtered (λ (n : NodeSpec). has_row x h n.id) (correct_nodes x) node (is_correct_row x (odd ∷ even ∷ h) node among) has in
        record {
          will = inl (contains_map (member_from p) (map at nodes) (at node) (contains_map at nodes node had));
          number = (has_row_in nodes even.told.rows node s.two.even_rows.nodes had).number;
          moves = to_row x h even odd even2 odd2 double node (at node) s (row_goes_on x h even odd even2 odd2 double node s had) among;
          active = row_stays x h even odd even2 odd2 double node s had;
        }
    by_kind false has = elim (s.succeeded.rows_from node among) [
      | inl had ↦
          let e : false ≡ true = sym has ∙ (filtered (λ (n : NodeSpec). has_row x h n.id) (correct_nodes x) node had).1 in
          absurd (cc)
      | inr second ↦
          let p = x.params in
          let nodes = followers_since x h 2 double in
          let at : NodeSpec → Hearer = λ n. follower_hearer x even odd n.id in
          let followed = is_since x h 2 double node second in
          record {
            will = inr (contains_map (member_from p) (map at nodes) (at node) (contains_map at nodes node second));
            number = (has_row_in (following_nodes x h) even.followers node s.two.even_followers.nodes followed).number;
            moves = to_row x h even odd even2 odd2 double node (at node) s (follower_goes_on x h even odd double node s.counted s.two followed) among;
            active = follower_begins x h even odd even2 odd2 double node s followed;
          }
    ]

-- ---- the rows of the next double cycle

-- the member that a node was which has a row behind the double cycle
unfoldable pub member_at : Setting → Cycles → Cycle → Cycle → NodeSpec → Member
member_at x h even odd node = member_from x.params (hearer_by x even odd (has_row x h node.id) node.id)

-- the rows of such a node follow that member
pub followed : (x : Setting) (h : Cycles) (even odd even2 odd2 : Cycle) (double : ℕ) (node : NodeSpec) → IsUncutStep x h even odd even2 odd2 double → Contains (row_nodes x (odd ∷ even ∷ h)) node
    → ((member_at x h even odd node).even.node ≡ node.id) × WillHaveRow (group_of x.params (hearers_of x h even odd double)) (member_at x h even odd node)
    × IsFollowed x.params (member_at x h even odd node) (row_for even2.told.rows node.id) (row_for odd2.told.rows node.id)
unfolding member_at
followed x h even odd even2 odd2 double node s among =
    let p = x.params in
    let after = odd ∷ even ∷ h in
    let nodes = row_nodes x after in
    let goes = moved x h even odd even2 odd2 double node s among in
    let early = row_runs_by (row_laws x after) (offset_after p (told_of after) even2.told) nodes even2.told.rows node s.next.even_rows among in
    let late = row_runs_by (row_laws x (even2 ∷ after)) (offset_after p (told_of (even2 ∷ after)) odd2.told) nodes odd2.told.rows node s.next.odd_rows among in
    let parity = even_length (length (told_of after)) (suc double) (told_counted after (suc double) (two_on h even odd double s.counted)) in (
      goes.number,
      goes.will,
      record {
        start = goes.moves.start;
        next = goes.moves.next;
        active_even = early.state ∙ goes.active;
        active_odd = late.state ∙ status_even x (told_of after) even2.told node.id parity ∙ goes.active;
      },
    )

-- what holds of all rows that follow members of a group holds of rows that follow the members of their nodes
pub next_rows_hold : (p : Values) (group : Group) (nodes : List NodeSpec) (at : NodeSpec → Member) (evens odds : List NodeRow) → Ascend nodes → AreRowsOf nodes evens → AreRowsOf nodes odds
    → ((node : NodeSpec) → Contains nodes node → ((at node).even.node ≡ node.id) × WillHaveRow group (at node) × IsFollowed p (at node) (row_for evens node.id) (row_for odds node.id))
    → (P : List NodeRow → List NodeRow → Type 0)
    → ((members : List Member) (next_even next_odd : Member → NodeRow) → ((member : Member) → Contains members member → WillHaveRow group member × IsFollowed p member (next_even member) (next_odd member)) → P (map next_even members) (map next_odd members))
    → P evens odds
next_rows_hold p group nodes at evens odds ascend evens_are odds_are each P holds =
    let next : List NodeRow → Member → NodeRow = λ rows member. row_for rows member.even.node in
    let members = map at nodes in
    let Goes : Member → Type 0 = λ member. WillHaveRow group member × IsFollowed p member (next evens member) (next odds member) in
    let goes = λ (member : Member) (among : Contains members member).
    (
    let found = map_contains at nodes member among in
    let node = found.0 in
    let is = each node found.1 in
    let Follow : ℕ → Type 0 = λ n. IsFollowed p (at node) (row_for evens n) (row_for odds n) in
    let own : Goes (at node) = (is.1, subst Follow (sym is.0) is.2) in
    subst Goes found.2 own
    ) in
    let rows = λ (rows : List NodeRow) (are : AreRowsOf nodes rows).
    map-map (next rows) at nodes
    ∙ same_mapped (λ (node : NodeSpec). next rows (at node)) (λ (node : NodeSpec). row_for rows node.id) nodes (λ node among. ap (row_for rows) (each node among).0)
    ∙ rows_are nodes rows ascend are in
    let Even : List NodeRow → Type 0 = λ rows. P rows (map (next odds) members) in
    subst (P evens) (rows odds odds_are) (subst Even (rows evens evens_are) (holds members (next evens) (next odds) goes))
