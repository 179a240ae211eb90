-- A run is covered by what is stated of it alone, whoever has rows.
use Rattle.std.proofs.Common.{◌≡◌, ℕ, ◌≤◌, pos, Bool, true, false, ◌&&◌, Option, Some, None, refl, ap, sym, subst, lit≤}
use Rattle.std.specs.Prelude.{is_none, is_some}
use Rattle.std.proofs.lemmas.Bool.{and_parts}
use Rattle.fr_cluster.specs.Setting.{Setting, is_correct}
use Rattle.fr_cluster.specs.declared.nodes.NodeSpec.{NodeSpec}
use Rattle.fr_midpoint.proofs.Counts.{count_by-le-count_by}
use Rattle.fr_bound.specs.Bounds.{precision_of, reach_of}
use Rattle.fr_precision.specs.Offsets.{LimitSuffices}
use Rattle.fr_precision.specs.Reception.{LeavesRoom}
use Rattle.fr_precision.proofs.OffsetLaws.{third_check_suffices}
use Rattle.fr_precision.proofs.ReceptionLaws.{room_checks_suffice}
use Rattle.fr_runs.proofs.Checked.{last_checks_suffice, seventh_check_suffices, sixth_check_suffices}
use Rattle.fr_cluster.specs.declared.join.Join.{Join}
use Rattle.fr_history.specs.Cycles.{Cycles, some_joins}
use Rattle.fr_history.specs.Standing.{has_row, has_row_by}
use Rattle.fr_precision.specs.Round.{sync_count}
use Rattle.fr_runs.specs.Gathered.{reach_in}
use Rattle.fr_runs.proofs.Reach.{precision_is, reach_is}
use Rattle.fr_runs.specs.Supplied.{CoverageSuffices, stays_on}
use Rattle.fr_precision.proofs.RoundSenders.{few_more as more_are_few}

-- a node that does not join has a row in every cycle
pub stays_has : (x : Setting) (h : Cycles) (node : ℕ) (join : Option Join) → x.join node ≡ join → is_none join ≡ true → has_row x h node ≡ true
stays_has x h node None at stays = ap (has_row_by x h node) at
stays_has x h node (Some join) at stays = absurd (cc)

all_three : (key correct has : Bool) → key ≡ true → correct ≡ true → has ≡ true → (key && (correct && has)) ≡ true
all_three key correct has a b c = rw (a, b, c) refl

counts_more : (x : Setting) (h : Cycles)
    → sync_count x.params (λ node. is_correct x node && stays_on x node) ≤ sync_count x.params (λ node. is_correct x node && has_row x h node)
counts_more x h =
    count_by-le-count_by (λ (node : NodeSpec). is_some node.key && (is_correct x node.id && stays_on x node.id)) (λ (node : NodeSpec). is_some node.key && (is_correct x node.id && has_row x h node.id))
    x.params.nodes
    (λ node passes.
    let both = and_parts (is_some node.key) (is_correct x node.id && stays_on x node.id) passes in
    let two = and_parts (is_correct x node.id) (stays_on x node.id) both.1 in
    all_three (is_some node.key) (is_correct x node.id) (has_row x h node.id) both.0 two.0 (stays_has x h node.id (x.join node.id) refl two.1))

-- what holds of the precision where no node joins, and of the reach where some node does, holds of the reach of the run
by_reach : (x : Setting) (P : ℕ → Type 0) → (some_joins x ≡ true → P (reach_of x.params)) → (some_joins x ≡ false → P (precision_of x.params)) → P (reach_in x)
by_reach x P joins none = by (some_joins x) refl
  where
    by : (b : Bool) → some_joins x ≡ b → P (reach_in x)
    by true is = subst P (sym (reach_is x is)) (joins is)
    by false is = subst P (sym (precision_is x is)) (none is)

pub coverage_suffices : CoverageSuffices
coverage_suffices x w = record {
  clocks = record {
    sane = w.sane;
    first = w.checks 1 (lit≤ tt) (lit≤ tt);
    second = w.checks 2 (lit≤ tt) (lit≤ tt);
    limit =
        by_reach x (λ n. LimitSuffices x.params (pos n)) (λ joins. seventh_check_suffices x.params (w.join_checks joins 7 (lit≤ tt) (lit≤ tt)))
        (λ none. third_check_suffices x.params (w.checks 3 (lit≤ tt) (lit≤ tt)));
    rate_limit = λ joins. sixth_check_suffices x.params (w.join_checks joins 6 (lit≤ tt) (lit≤ tt));
    few =
        λ h.
        more_are_few (sync_count x.params (λ node. is_correct x node && stays_on x node)) (sync_count x.params (λ node. is_correct x node && has_row x h node))
        (sync_count x.params x.is_arbitrary) (counts_more x h) w.few;
    least = w.least;
    most = w.most;
    changes = w.changes;
  };
  room =
      by_reach x (λ n. LeavesRoom x.params (pos n))
      (λ joins. last_checks_suffice x.params w.sane (w.join_checks joins 8 (lit≤ tt) (lit≤ tt)) (w.join_checks joins 9 (lit≤ tt) (lit≤ tt)))
      (λ none. room_checks_suffice x.params w.sane (w.checks 4 (lit≤ tt) (lit≤ tt)) (w.checks 5 (lit≤ tt) (lit≤ tt)));
  referenced = w.referenced;
  links = w.links;
}
