-- The clock of one node over the two cycles of a double cycle, with a row and as a follower, and behind it.
use Rattle.std.proofs.Common.{◌≡◌, ℕ, suc, ◌*◌, ◌<◌, Bool, true, false, ℤ, pos, Some, None, List, ◌∷◌, length, ap, sym, ◌∙◌, subst, if◌then◌else◌}
use Rattle.std.specs.Prelude.{◌≤ℤ◌, ◌-ℤ◌, All, Contains}
use Rattle.std.proofs.lemmas.List.{length-map}
use Rattle.fr_base.specs.Within.{IsWithin}
use Rattle.fr_base.specs.declared.node_row.NodeRow.{NodeRow}
use Rattle.fr_base.specs.declared.state.State.TheVariants.{Active}
use Rattle.fr_cluster.specs.Setting.{Setting, correct_nodes}
use Rattle.fr_cluster.specs.Values.{amount}
use Rattle.fr_cluster.specs.declared.names.ParamName.TheVariants as name
use Rattle.fr_cluster.specs.declared.nodes.NodeSpec.{NodeSpec}
use Rattle.fr_time.specs.Cycles.{is_odd}
use Rattle.fr_reception.specs.Listening.{Caught, first_rate_of, first_start_of}
use Rattle.fr_bound.specs.Bounds.{longest_micro, shortest_micro}
use Rattle.fr_precision.specs.Rows.{corrected_end_of, HasProperMicro, IsDoubleCycle}
use Rattle.fr_history.specs.History.{AreRowsOf, row_for, row_of}
use Rattle.fr_history.specs.Rows.{RowsRun, offset_after, rate_by}
use Rattle.fr_history.specs.Terms.{offset_term_by, offset_term_in, rate_term_by, rate_term_in}
use Rattle.fr_cluster.specs.declared.join.Join.{Join}
use Rattle.fr_history.specs.Cycles.{Cycle, Cycles, follower_devs_after, told_of}
use Rattle.fr_history.specs.Catching.{begins_with}
use Rattle.fr_history.specs.Laws.{begun_by, caught_rate, caught_start, follower_laws, follower_offset, follower_rate, follower_start, rate_by_rows, rate_of_next, row_laws, start_by_rows, start_of_next}
use Rattle.fr_history.specs.Standing.{following_nodes, follows, has_row, row_nodes}
use Rattle.fr_cluster.proofs.Elements.{filtered}
use Rattle.fr_runs.proofs.Doubles.{even_stands, odd_is_corrected}
use Rattle.fr_runs.proofs.Rows.{each_row, has_row as has_row_in, row_runs_by}
use Rattle.fr_runs.specs.Gathered.{CycleRuns, AreClocksCovered, follower_hearer, row_hearer}
use Rattle.fr_runs.specs.Hearers.{member_from}

-- ---- starts and rates behind a cycle, by the row that a node had there

pub start_told : (x : Setting) (h : Cycles) (c : Cycle) (node : ℕ) (before : NodeRow) → row_of c.told.rows node ≡ Some before
    → start_of_next x (c ∷ h) node ≡ corrected_end_of x.params before
start_told x h c node before is = ap (λ o. start_by_rows x (c ∷ h) node o (row_of c.followers node)) is

pub start_followed : (x : Setting) (h : Cycles) (c : Cycle) (node : ℕ) (before : NodeRow) → row_of c.told.rows node ≡ None → row_of c.followers node ≡ Some before
    → start_of_next x (c ∷ h) node ≡ corrected_end_of x.params before
start_followed x h c node before none is =
    ap (λ o. start_by_rows x (c ∷ h) node o (row_of c.followers node)) none ∙ ap (follower_start x (c ∷ h) node) is

pub start_begun : (x : Setting) (h : Cycles) (c : Cycle) (node : ℕ) (join : Join) (caught : Caught) → row_of c.told.rows node ≡ None → row_of c.followers node ≡ None
    → x.join node ≡ Some join → begins_with x (c ∷ h) node join ≡ Some caught → start_of_next x (c ∷ h) node ≡ first_start_of x.params caught
start_begun x h c node join caught none none_too at is =
    ap (λ o. start_by_rows x (c ∷ h) node o (row_of c.followers node)) none
    ∙ ap (follower_start x (c ∷ h) node) none_too
    ∙ ap (λ o. caught_start x.params (begun_by x (c ∷ h) node o)) at
    ∙ ap (caught_start x.params) is

pub told_parity : (h : Cycles) (b : Bool) → is_odd (length h) ≡ b → is_odd (length (told_of h)) ≡ b
told_parity h b is = ap is_odd (length-map h (λ (c : Cycle). c.told)) ∙ is

rate_told : (x : Setting) (h : Cycles) (c : Cycle) (node : ℕ) (before : NodeRow) → row_of c.told.rows node ≡ Some before
    → rate_of_next x (c ∷ h) node ≡ rate_by x.params (told_of h) c.told (Some before)
rate_told x h c node before is = ap (λ o. rate_by_rows x c h node o (row_of c.followers node)) is

pub rate_told_even : (x : Setting) (h : Cycles) (c : Cycle) (node : ℕ) (before : NodeRow) → is_odd (length h) ≡ false → row_of c.told.rows node ≡ Some before
    → rate_of_next x (c ∷ h) node ≡ before.rate
rate_told_even x h c node before parity is =
    rate_told x h c node before is
    ∙ ap (λ b. if b then (rate_term_in x.params (told_of h) c.told.devs before).value else before.rate) (even_stands (told_of h) before (told_parity h false parity))

pub rate_told_odd : (x : Setting) (h : Cycles) (c : Cycle) (node : ℕ) (before : NodeRow) → is_odd (length h) ≡ true → before.state ≡ Active → row_of c.told.rows node ≡ Some before
    → rate_of_next x (c ∷ h) node ≡ (rate_term_in x.params (told_of h) c.told.devs before).value
rate_told_odd x h c node before parity active is =
    rate_told x h c node before is
    ∙ ap (λ b. if b then (rate_term_in x.params (told_of h) c.told.devs before).value else before.rate) (odd_is_corrected (told_of h) before (told_parity h true parity) active)

rate_followed : (x : Setting) (h : Cycles) (c : Cycle) (node : ℕ) (before : NodeRow) → row_of c.told.rows node ≡ None → row_of c.followers node ≡ Some before
    → rate_of_next x (c ∷ h) node ≡ follower_rate x c h node (Some before)
rate_followed x h c node before none is =
    ap (λ o. rate_by_rows x c h node o (row_of c.followers node)) none ∙ ap (follower_rate x c h node) is

pub rate_followed_even : (x : Setting) (h : Cycles) (c : Cycle) (node : ℕ) (before : NodeRow) → is_odd (length h) ≡ false → row_of c.told.rows node ≡ None
    → row_of c.followers node ≡ Some before → rate_of_next x (c ∷ h) node ≡ before.rate
rate_followed_even x h c node before parity none is =
    rate_followed x h c node before none is
    ∙ ap (λ b. if b then (rate_term_by x.params (follower_devs_after h) c.follower_devs before None).value else before.rate) parity

pub rate_followed_odd : (x : Setting) (h : Cycles) (c : Cycle) (node : ℕ) (before : NodeRow) → is_odd (length h) ≡ true → row_of c.told.rows node ≡ None
    → row_of c.followers node ≡ Some before → rate_of_next x (c ∷ h) node ≡ (rate_term_by x.params (follower_devs_after h) c.follower_devs before None).value
rate_followed_odd x h c node before parity none is =
    rate_followed x h c node before none is
    ∙ ap (λ b. if b then (rate_term_by x.params (follower_devs_after h) c.follower_devs before None).value else before.rate) parity

pub rate_begun : (x : Setting) (h : Cycles) (c : Cycle) (node : ℕ) (join : Join) (caught : Caught) → row_of c.told.rows node ≡ None → row_of c.followers node ≡ None
    → x.join node ≡ Some join → begins_with x (c ∷ h) node join ≡ Some caught → rate_of_next x (c ∷ h) node ≡ first_rate_of x.params caught
rate_begun x h c node join caught none none_too at is =
    ap (λ o. rate_by_rows x c h node o (row_of c.followers node)) none
    ∙ ap (follower_rate x c h node) none_too
    ∙ ap (λ o. caught_rate x.params (begun_by x (c ∷ h) node o)) at
    ∙ ap (caught_rate x.params) is

-- ---- the two cycles of a double cycle, over the same nodes

-- the clocks of two cycles run by their laws, and the same nodes have rows in both, and follow in both
pub record RunTwo (x : Setting) (h : Cycles) (even odd : Cycle) : Type 0 where
  pub even_rows : RowsRun (row_laws x h) (offset_after x.params (told_of h) even.told) (row_nodes x h) even.told.rows
  pub odd_rows : RowsRun (row_laws x (even ∷ h)) (offset_after x.params (told_of (even ∷ h)) odd.told) (row_nodes x h) odd.told.rows
  pub even_followers : RowsRun (follower_laws x h) (follower_offset x.params h even.follower_devs) (following_nodes x h) even.followers
  pub odd_followers : RowsRun (follower_laws x (even ∷ h)) (follower_offset x.params (even ∷ h) odd.follower_devs) (following_nodes x h) odd.followers
  pub even_apart : All (λ row. row_of even.told.rows row.node ≡ None) even.followers
  pub odd_apart : All (λ row. row_of odd.told.rows row.node ≡ None) odd.followers

pub run_two : (x : Setting) (h : Cycles) (even odd : Cycle) → CycleRuns x h even → CycleRuns x (even ∷ h) odd → row_nodes x (even ∷ h) ≡ row_nodes x h
    → following_nodes x (even ∷ h) ≡ following_nodes x h → RunTwo x h even odd
run_two x h even odd runs next rows followers =
    let Rows : List NodeSpec → Type 0 = λ nodes. RowsRun (row_laws x (even ∷ h)) (offset_after x.params (told_of (even ∷ h)) odd.told) nodes odd.told.rows in
    let Followers : List NodeSpec → Type 0 = λ nodes. RowsRun (follower_laws x (even ∷ h)) (follower_offset x.params (even ∷ h) odd.follower_devs) nodes odd.followers in
    record {
      even_rows = runs.rows;
      odd_rows = subst Rows rows next.rows;
      even_followers = runs.followers;
      odd_followers = subst Followers followers next.followers;
      even_apart = runs.apart;
      odd_apart = next.apart;
    }

pub is_correct_row : (x : Setting) (h : Cycles) (node : NodeSpec) → Contains (row_nodes x h) node → Contains (correct_nodes x) node
is_correct_row x h node among = (filtered (λ (n : NodeSpec). has_row x h n.id) (correct_nodes x) node among).0

pub is_correct_follower : (x : Setting) (h : Cycles) (node : NodeSpec) → Contains (following_nodes x h) node → Contains (correct_nodes x) node
is_correct_follower x h node among = (filtered (λ (n : NodeSpec). follows x h n.id) (correct_nodes x) node among).0

-- the laws at the rows of a node
pub record NodeTwo (x : Setting) (h : Cycles) (even odd : NodeRow) (node : NodeSpec) : Type 0 where
  pub double : IsDoubleCycle x.params even odd
  pub even_length : even.length ≡ x.microtick node.id (length h)
  pub odd_length : odd.length ≡ x.microtick node.id (suc (length h))

pub row_two : (x : Setting) (h : Cycles) (even odd : Cycle) (node : NodeSpec) → RunTwo x h even odd → is_odd (length h) ≡ false → Contains (row_nodes x h) node
    → NodeTwo x h (row_for even.told.rows node.id) (row_for odd.told.rows node.id) node
row_two x h even odd node two parity among =
    let p = x.params in
    let row = row_for even.told.rows node.id in
    let early = row_runs_by (row_laws x h) (offset_after p (told_of h) even.told) (row_nodes x h) even.told.rows node two.even_rows among in
    let late = row_runs_by (row_laws x (even ∷ h)) (offset_after p (told_of (even ∷ h)) odd.told) (row_nodes x h) odd.told.rows node two.odd_rows among in
    record {
      double = record {
        follows = late.start ∙ start_told x h even node.id row early.has.is;
        same_rate = late.rate ∙ rate_told_even x h even node.id row parity early.has.is;
        no_offset =
            early.offset
            ∙ ap (λ b. if b then (offset_term_in p (told_of h) even.told.devs row.node).value else pos 0) (even_stands (told_of h) row (told_parity h false parity));
      };
      even_length = early.length_is;
      odd_length = late.length_is;
    }

-- a follower has no row
pub no_row : (nodes : List NodeSpec) (rows followers : List NodeRow) (node : NodeSpec) → AreRowsOf nodes followers → Contains nodes node
    → All (λ row. row_of rows row.node ≡ None) followers → row_of rows node.id ≡ None
no_row nodes rows followers node are among apart =
    let None_of : ℕ → Type 0 = λ n. row_of rows n ≡ None in
    subst None_of (has_row_in nodes followers node are among).number (each_row nodes followers (λ row. row_of rows row.node ≡ None) node are among apart)

pub follower_two : (x : Setting) (h : Cycles) (even odd : Cycle) (node : NodeSpec) → RunTwo x h even odd → is_odd (length h) ≡ false → Contains (following_nodes x h) node
    → NodeTwo x h (row_for even.followers node.id) (row_for odd.followers node.id) node
follower_two x h even odd node two parity among =
    let p = x.params in
    let row = row_for even.followers node.id in
    let nodes = following_nodes x h in
    let early = row_runs_by (follower_laws x h) (follower_offset p h even.follower_devs) nodes even.followers node two.even_followers among in
    let late = row_runs_by (follower_laws x (even ∷ h)) (follower_offset p (even ∷ h) odd.follower_devs) nodes odd.followers node two.odd_followers among in
    let none = no_row nodes even.told.rows even.followers node two.even_followers.nodes among two.even_apart in
    record {
      double = record {
        follows = late.start ∙ start_followed x h even node.id row none early.has.is;
        same_rate = late.rate ∙ rate_followed_even x h even node.id row parity none early.has.is;
        no_offset = early.offset ∙ ap (λ b. if b then (offset_term_by p (follower_devs_after h) even.follower_devs row.node None).value else pos 0) parity;
      };
      even_length = early.length_is;
      odd_length = late.length_is;
    }

-- ---- microticks

pub proper_micro : (x : Setting) (node : NodeSpec) (cycle : ℕ) (row : NodeRow) → AreClocksCovered x → Contains (correct_nodes x) node → cycle < 2 * x.doubles
    → row.length ≡ x.microtick node.id cycle → HasProperMicro x.params row
proper_micro x node cycle row covered among less is =
    let Least : ℤ → Type 0 = λ z. pos (shortest_micro x.params) ≤ℤ z in
    let Most : ℤ → Type 0 = λ z. z ≤ℤ pos (longest_micro x.params) in
    record {
      least = subst Least (sym is) (covered.least node cycle among less);
      most = subst Most (sym is) (covered.most node cycle among less);
    }

pub steady : (x : Setting) (node : NodeSpec) (cycle : ℕ) (row next : ℤ) → AreClocksCovered x → Contains (correct_nodes x) node → suc cycle < 2 * x.doubles
    → row ≡ x.microtick node.id cycle → next ≡ x.microtick node.id (suc cycle) → IsWithin (pos (amount x.params name.xChangeBound)) (next -ℤ row)
steady x node cycle row next covered among less is next_is =
    let Change : ℤ → ℤ → Type 0 = λ a b. IsWithin (pos (amount x.params name.xChangeBound)) (b -ℤ a) in
    let First : ℤ → Type 0 = λ a. Change a next in
    let Second : ℤ → Type 0 = λ b. Change (x.microtick node.id cycle) b in
    subst First (sym is) (subst Second (sym next_is) (covered.changes node cycle among less))

-- ---- the terms of a double cycle

numbered : NodeRow → ℕ → NodeRow
numbered row n = record row { node = n }

pub row_term_is : (x : Setting) (h : Cycles) (even odd : Cycle) (node : ℕ) → (row_for odd.told.rows node).node ≡ node
    → rate_term_in x.params (told_of (even ∷ h)) odd.told.devs (row_for odd.told.rows node) ≡ (member_from x.params (row_hearer x even odd node)).rate_term
unfolding numbered
row_term_is x h even odd node own = ap (λ n. rate_term_in x.params (told_of (even ∷ h)) odd.told.devs (numbered (row_for odd.told.rows node) n)) own

pub follower_term_is : (x : Setting) (h : Cycles) (even odd : Cycle) (node : ℕ) → (row_for odd.followers node).node ≡ node
    → rate_term_by x.params even.follower_devs odd.follower_devs (row_for odd.followers node) None ≡ (member_from x.params (follower_hearer x even odd node)).rate_term
unfolding numbered
follower_term_is x h even odd node own = ap (λ n. rate_term_by x.params even.follower_devs odd.follower_devs (numbered (row_for odd.followers node) n) None) own

pub row_applied : (x : Setting) (h : Cycles) (even odd : Cycle) (node : NodeSpec) → RunTwo x h even odd → is_odd (suc (length h)) ≡ true → Contains (row_nodes x h) node
    → (row_for odd.told.rows node.id).state ≡ Active
    → (row_for odd.told.rows node.id).offset ≡ (member_from x.params (row_hearer x even odd node.id)).offset_term.value
row_applied x h even odd node two parity among active =
    let p = x.params in
    let row = row_for odd.told.rows node.id in
    let late = row_runs_by (row_laws x (even ∷ h)) (offset_after p (told_of (even ∷ h)) odd.told) (row_nodes x h) odd.told.rows node two.odd_rows among in
    late.offset
    ∙ ap (λ b. if b then (offset_term_in p (told_of (even ∷ h)) odd.told.devs row.node).value else pos 0)
    (odd_is_corrected (told_of (even ∷ h)) row (told_parity (even ∷ h) true parity) active)
    ∙ ap (λ n. (offset_term_in p (told_of (even ∷ h)) odd.told.devs n).value) late.has.number

pub follower_applied : (x : Setting) (h : Cycles) (even odd : Cycle) (node : NodeSpec) → RunTwo x h even odd → is_odd (suc (length h)) ≡ true → Contains (following_nodes x h) node
    → (row_for odd.followers node.id).offset ≡ (member_from x.params (follower_hearer x even odd node.id)).offset_term.value
follower_applied x h even odd node two parity among =
    let p = x.params in
    let row = row_for odd.followers node.id in
    let late = row_runs_by (follower_laws x (even ∷ h)) (follower_offset p (even ∷ h) odd.follower_devs) (following_nodes x h) odd.followers node two.odd_followers among in
    late.offset
    ∙ ap (λ b. if b then (offset_term_by p even.follower_devs odd.follower_devs row.node None).value else pos 0) parity
    ∙ ap (λ n. (offset_term_by p even.follower_devs odd.follower_devs n None).value) late.has.number
