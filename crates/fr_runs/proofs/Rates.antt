-- Rates lie within their limit in every cycle of a run.
use Rattle.std.proofs.Common.{◌≡◌, ◌⊎◌, ℕ, ◌*◌, ◌==◌, Bool, true, false, ◌&&◌, ℤ, pos, Option, Some, None, List, [], ◌∷◌, length, refl, ap, sym, ◌∙◌, subst, inl, inr, arith, if◌then◌else◌}
use Rattle.std.specs.Prelude.{neg_ℤ, int_le, ◌≤ℤ◌, ◌+ℤ◌, All, Contains, option_and_then}
use Rattle.std.proofs.lemmas.Bool.{and_parts}
use Rattle.std.proofs.lemmas.Int.{ints}
use Rattle.std.proofs.lemmas.List.Elements.{All-contains}
use Rattle.fr_base.specs.Within.{IsWithin}
use Rattle.fr_base.specs.declared.node_row.NodeRow.{NodeRow}
use Rattle.fr_cluster.specs.Questions.{own_index, own_key}
use Rattle.fr_cluster.specs.Sane.{IsSane}
use Rattle.fr_cluster.specs.Setting.{Setting, correct_nodes}
use Rattle.fr_cluster.specs.Values.{Values}
use Rattle.fr_cluster.specs.declared.names.ParamName.TheVariants as name
use Rattle.fr_cluster.specs.declared.nodes.NodeSpec.{NodeSpec}
use Rattle.fr_time.specs.Cycles.{is_odd}
use Rattle.fr_reception.specs.Listening.{Caught, first_rate_of, first_start_of, kept_if, suffices}
use Rattle.fr_midpoint.specs.Midpoint.{midpoint_by_ranks}
use Rattle.fr_measure.specs.Deviations.{rate_values_by}
use Rattle.fr_correct.specs.Terms.{damped, rate_term_of}
use Rattle.fr_correct.proofs.There.{term_lies_within}
use Rattle.fr_history.specs.History.{row_of}
use Rattle.fr_history.specs.Rows.{is_corrected, offset_after}
use Rattle.fr_history.specs.Terms.{latest_devs, rate_term_by, rate_term_in}
use Rattle.fr_cluster.specs.declared.join.Join.{Join}
use Rattle.fr_history.specs.Cycles.{Cycle, Cycles, follower_devs_after, told_of}
use Rattle.fr_history.specs.Catching.{begins_with, caught_by_slot, caught_of}
use Rattle.fr_history.specs.Laws.{begun_by, caught_rate, follower_laws, follower_offset, rate_by_rows, rate_of_next, row_laws}
use Rattle.fr_history.specs.Standing.{following_nodes, follows, follows_by, row_nodes}
use Rattle.fr_cluster.proofs.Elements.{filtered, found}
use Rattle.fr_precision.proofs.RoundSenders.{and_then_some}
use Rattle.fr_runs.proofs.Rows.{all_rows, row_runs_by}
use Rattle.fr_runs.specs.Gathered.{CycleRuns}
use Rattle.fr_runs.specs.Precision.{RatesStayWithin}
use Rattle.fr_runs.specs.Rounds.{AllClocksRun, RatesBegin}
use Rattle.fr_runs.proofs.Going.{followers_ascend, rows_ascend}

-- ---- a rate term, and a first rate

Limit : Values → ℤ → Type 0
Limit p rate = IsWithin p.rate_limit rate

from_0 : (p : Values) → IsSane p → pos 0 ≤ℤ p.rate_limit
from_0 p sane = let range = sane.ranges name.pRateCorrectionOut in omega (arith, ints, range.0)

term_within : (p : Values) (old : ℤ) (values : List ℤ) → IsSane p → Limit p old → Limit p (rate_term_of old p.damping p.rate_limit values).value
unfolding Limit
term_within p old [] sane within = within
term_within p old (v ∷ values) sane within = term_lies_within p.rate_limit (damped p.damping (old +ℤ midpoint_by_ranks (v ∷ values))) (from_0 p sane)

from_le : (a b : ℤ) → int_le a b ≡ true → a ≤ℤ b
from_le a b le = grind (arith, ints)

suffices_within : (p : Values) (c : Caught) → suffices p c ≡ true → Limit p (first_rate_of p c)
unfolding Limit
suffices_within p c is =
    let rate = first_rate_of p c in
    let all = and_parts (int_le (neg_ℤ p.rate_limit) rate && int_le rate p.rate_limit) (int_le (pos 0) (first_start_of p c)) is in
    let both = and_parts (int_le (neg_ℤ p.rate_limit) rate) (int_le rate p.rate_limit) all.0 in
    record { low = from_le (neg_ℤ p.rate_limit) rate both.0; high = from_le rate p.rate_limit both.1 }

kept_suffices : (p : Values) (d c : Caught) → kept_if p d ≡ Some c → suffices p c ≡ true
kept_suffices p d c is = by_test (suffices p d) refl is
  where
    by_test : (b : Bool) → suffices p d ≡ b → (if b then Some d else None) ≡ Some c → suffices p c ≡ true
    by_test true passes some = let same : d ≡ c = cc in ap (suffices p) (sym same) ∙ passes
    by_test false fails none = absurd (cc)

-- what a node begins to follow with suffices
pub begun_suffices : (x : Setting) (h : Cycles) (node : ℕ) (join : Join) (c : Caught) → begins_with x h node join ≡ Some c → suffices x.params c ≡ true
unfolding begins_with
begun_suffices x [] node join c is = absurd (cc)
begun_suffices x (odd ∷ []) node join c is = absurd (cc)
begun_suffices x (odd ∷ even ∷ h) node join c is = by_test (length h == 2 * join.double) is
  where
    by_test : (b : Bool) → (if b then option_and_then (caught_by_slot x (length h) even odd node) (own_key x.params join.reference) else None) ≡ Some c
        → suffices x.params c ≡ true
    by_test true some =
        let slot = and_then_some (caught_by_slot x (length h) even odd node) (own_key x.params join.reference) c some in
        let caught = and_then_some (kept_if x.params) (caught_of x (length h) even odd node slot.0) c slot.2 in
        kept_suffices x.params caught.0 c caught.2
    by_test false none = absurd (cc)

begun_within : (x : Setting) (h : Cycles) (node : ℕ) (join : Option Join) → IsSane x.params → Limit x.params (caught_rate x.params (begun_by x h node join))
unfolding Limit
begun_within x h node None sane = let limit = from_0 x.params sane in record { low = omega (arith, ints, limit); high = limit }
begun_within x h node (Some join) sane = by_caught (begins_with x h node join) refl
  where
    by_caught : (o : Option Caught) → begins_with x h node join ≡ o → Limit x.params (caught_rate x.params o)
    by_caught None is = let limit = from_0 x.params sane in record { low = omega (arith, ints, limit); high = limit }
    by_caught (Some c) is = suffices_within x.params c (begun_suffices x h node join c is)

-- ---- the rates of a cycle, and behind it

-- a node that has a row or follows in the cycle behind some cycles
IsInCycle : Setting → Cycles → NodeSpec → Type 0
IsInCycle x h node = Contains (row_nodes x h) node ⊎ Contains (following_nodes x h) node

AllWithin : Values → List NodeRow → Type 0
AllWithin p rows = All (λ row. IsWithin p.rate_limit row.rate) rows

rows_within : (x : Setting) (h : Cycles) (c : Cycle) → IsSane x.params → CycleRuns x h c
    → ((node : NodeSpec) → IsInCycle x h node → Limit x.params (rate_of_next x h node.id))
    → AllWithin x.params c.told.rows × AllWithin x.params c.followers
unfolding Limit AllWithin IsInCycle
rows_within x h c sane runs behind =
    let p = x.params in
    let Within : NodeRow → Type 0 = λ row. IsWithin p.rate_limit row.rate in (
      all_rows (row_nodes x h) c.told.rows Within (rows_ascend x h sane) runs.rows.nodes
          (λ node among.
          let own = row_runs_by (row_laws x h) (offset_after p (told_of h) c.told) (row_nodes x h) c.told.rows node runs.rows among in
          subst (IsWithin p.rate_limit) (sym own.rate) (behind node (inl among))),
      all_rows (following_nodes x h) c.followers Within (followers_ascend x h sane) runs.followers.nodes
          (λ node among.
          let own = row_runs_by (follower_laws x h) (follower_offset p h c.follower_devs) (following_nodes x h) c.followers node runs.followers among in
          subst (IsWithin p.rate_limit) (sym own.rate) (behind node (inr among))),
    )

-- a row that is found is within, if all are
found_within : (p : Values) (rows : List NodeRow) (node : ℕ) (row : NodeRow) → AllWithin p rows → row_of rows node ≡ Some row → Limit p row.rate
unfolding Limit AllWithin
found_within p rows node row all is =
    All-contains (λ (r : NodeRow). IsWithin p.rate_limit r.rate) rows row all (found (λ (r : NodeRow). r.node == node) rows row is).1

told_within : (x : Setting) (h : Cycles) (c : Cycle) (row : NodeRow) (b : Bool) → IsSane x.params → Limit x.params row.rate
    → Limit x.params (if b then (rate_term_in x.params (told_of h) c.told.devs row).value else row.rate)
told_within x h c row true sane within =
    term_within x.params row.rate (rate_values_by x.params (latest_devs (told_of h)) c.told.devs row.node (own_index x.params row.node)) sane within
told_within x h c row false sane within = within

followed_within : (x : Setting) (h : Cycles) (c : Cycle) (row : NodeRow) (b : Bool) → IsSane x.params → Limit x.params row.rate
    → Limit x.params (if b then (rate_term_by x.params (follower_devs_after h) c.follower_devs row None).value else row.rate)
followed_within x h c row true sane within =
    term_within x.params row.rate (rate_values_by x.params (follower_devs_after h) c.follower_devs row.node None) sane within
followed_within x h c row false sane within = within

after_within : (x : Setting) (h : Cycles) (c : Cycle) (node : ℕ) (row follower : Option NodeRow) → IsSane x.params → AllWithin x.params c.told.rows
    → AllWithin x.params c.followers → row_of c.told.rows node ≡ row → row_of c.followers node ≡ follower → Limit x.params (rate_by_rows x c h node row follower)
after_within x h c node (Some row) follower sane rows followers is follows_is =
    told_within x h c row (is_corrected (told_of h) row) sane (found_within x.params c.told.rows node row rows is)
after_within x h c node None (Some row) sane rows followers is follows_is =
    followed_within x h c row (is_odd (length h)) sane (found_within x.params c.followers node row followers follows_is)
after_within x h c node None None sane rows followers is follows_is = begun_within x (c ∷ h) node (x.join node) sane

-- none follows in cycle 0
none_at_first : (x : Setting) (node : ℕ) (join : Option Join) → follows_by x [] node join ≡ false
unfolding begins_with
none_at_first x node None = refl
none_at_first x node (Some join) = refl

behind_within : (x : Setting) (h : Cycles) (node : NodeSpec) → IsSane x.params → RatesBegin x → AllClocksRun x h → IsInCycle x h node
    → Limit x.params (rate_of_next x h node.id)
unfolding Limit IsInCycle
behind_within x [] node sane first run (inl has) = first node has
behind_within x [] node sane first run (inr follows_too) =
    let is = (filtered (λ (n : NodeSpec). follows x [] n.id) (correct_nodes x) node follows_too).1 in
    let e : false ≡ true = sym (none_at_first x node.id (x.join node.id)) ∙ is in
    absurd (cc)
behind_within x (c ∷ h) node sane first run is =
    let within = rows_within x h c sane run.0 (λ other there. behind_within x h other sane first run.1 there) in
    after_within x h c node.id (row_of c.told.rows node.id) (row_of c.followers node.id) sane within.0 within.1 refl refl

pub rates_stay_within : RatesStayWithin
unfolding Limit AllWithin
rates_stay_within x h c sane first run = rows_within x h c sane run.0 (λ node is. behind_within x h node sane first run.1 is)
