-- The walk over the cycles of a trace, one more at a time.
use Rattle.std.proofs.Common.{◌≡◌, ℕ, ◌+◌, ◌/◌, ◌<◌, Bool, List, [], ◌∷◌, ◌++◌, length, take, drop, get_or, append_assoc, All, Option, Some, None, refl, ap, sym, ◌∙◌, subst, arith}
use Rattle.fr_cluster.specs.Values.{Values}
use Rattle.fr_base.specs.declared.node_row.NodeRow.{NodeRow}
use Rattle.fr_time.specs.Instant.{KeepsLimits}
use Rattle.fr_time.specs.Placed.{IsPlacedRow}
use Rattle.fr_time.specs.Position.{CanPlace, grid_for}
use Rattle.fr_time.specs.declared.grid.Grid.{Grid}
use Rattle.fr_poc.specs.Control.{Control}
use Rattle.fr_skew.specs.Gauge.{GaugeView, fresh_gauge, gauged}
use Rattle.fr_history.specs.Gauged.{FollowedHistory, GaugeHolds}
use Rattle.fr_history.specs.History.{History, record_at}
use Rattle.fr_history.proofs.Gauged.{gauge_holds_more, gauge_holds_none}
use Rattle.fr_trace.specs.Cycles.{history_by, kept_of}
use Rattle.fr_trace.specs.Items.{first_number, items_by, items_in}
use Rattle.fr_trace.specs.Trace.{TraceView}
use Rattle.fr_trace.specs.declared.trace.TracedCycle.{TracedCycle}
use Rattle.fr_check.specs.Controls.{Hold}
use Rattle.fr_check.specs.Corrections.{AreLatest}
use Rattle.fr_check.specs.declared.corrections.Correction.{Correction}
use Rattle.fr_verdict.specs.Sound.{IsSound}
use Rattle.fr_verdict.specs.Search.{first_breach_of, first_from}
use Rattle.fr_verdict.specs.declared.unlawful.Unlawful.{Unlawful}
use Rattle.fr_verdict.proofs.Parts.{history_length}
use Rattle.fr_verdict.specs.Sync.{may_follow}
use Rattle.fr_check.specs.Followed.{Foretells, followed_by}
use Rattle.fr_check.proofs.Followed.{followed_length, foretold, same_records}
use Rattle.fr_check.proofs.Sounded.{placed_all}
use Rattle.fr_verdict.proofs.Parts.{history_more, take_one_more}
use Rattle.fr_check.proofs.Walking.{cycle_found, cycle_passed, first_parts}

-- the records of a history are passed from one record number to another, without a breach
abbrev pub Passed : Values → TraceView → ℕ → ℕ → History → Type 0
Passed p t first next h = (first_from p t first (items_in h) ≡ None) × (next ≡ first + length (items_in h))

pub passed_none : (p : Values) (t : TraceView) (first : ℕ) → Passed p t first first (history_by [])
unfolding items_in history_by first_from
passed_none p t first = (refl, omega arith)

pub taken_more : (cycles : List TracedCycle) (n : ℕ) (cycle : TracedCycle) → n < length cycles → cycle ≡ get_or cycles n cycle → history_by (take (n + 1) cycles) ≡ kept_of cycle ∷ history_by (take n cycles)
taken_more cycles n cycle lt is = ap history_by (take_one_more cycles n cycle lt is) ∙ history_more (take n cycles) cycle

pub passed_more : (p : Values) (t : TraceView) (first next after : ℕ) (cycles : List TracedCycle) (n : ℕ) (cycle : TracedCycle) → n < length cycles → cycle ≡ get_or cycles n cycle
    → Passed p t first next (history_by (take n cycles)) → first_from p t next (items_by (history_by (take n cycles)) (kept_of cycle) cycle.rows.items) ≡ None
    → after ≡ next + length (items_by (history_by (take n cycles)) (kept_of cycle) cycle.rows.items) → Passed p t first after (history_by (take (n + 1) cycles))
passed_more p t first next after cycles n cycle lt is so e counted =
    subst (Passed p t first after) (sym (taken_more cycles n cycle lt is)) (cycle_passed p t first next after (history_by (take n cycles)) (kept_of cycle) so.0 so.1 e counted)

pub found_at : (p : Values) (t : TraceView) (first next : ℕ) (cycles : List TracedCycle) (n : ℕ) (cycle : TracedCycle) (u : Unlawful) → n < length cycles → cycle ≡ get_or cycles n cycle
    → Passed p t first next (history_by (take n cycles)) → first_from p t next (items_by (history_by (take n cycles)) (kept_of cycle) cycle.rows.items) ≡ Some u
    → first_from p t first (items_in (history_by cycles)) ≡ Some u
found_at p t first next cycles n cycle u lt is so e =
    let parted : cycles ≡ take n cycles ++ cycle ∷ drop (n + 1) cycles =
    first_parts cycles (n + 1) ∙ ap (λ (ys : List TracedCycle). ys ++ drop (n + 1) cycles) (take_one_more cycles n cycle lt is) ∙ append_assoc (take n cycles) (cycle ∷ []) (drop (n + 1) cycles) in
    cycle_found p t first next cycles (take n cycles) (drop (n + 1) cycles) cycle u parted so.0 so.1 e

pub breach_is : (p : Values) (t : TraceView) (first : ℕ) (cycles : List TracedCycle) (o : Option Unlawful) → first ≡ first_number t → history_by cycles ≡ t.history
    → first_from p t first (items_in (history_by cycles)) ≡ o → first_breach_of p t ≡ o
unfolding first_breach_of
breach_is p t first cycles o same whole e =
    ap (λ (n : ℕ). first_from p t n (items_in t.history)) (sym same) ∙ ap (λ (h : History). first_from p t first (items_in h)) (sym whole) ∙ e

-- ---- the gauge

pub gauge_more : (p : Values) (t : TraceView) (g new : GaugeView) (h : History) (cycle : TracedCycle) (rows : List NodeRow) (following : Bool) → new ≡ gauged g rows following → rows ≡ cycle.rows.items
    → following ≡ may_follow t (length h / 2) → GaugeHolds p g (followed_by t h) → GaugeHolds p new (followed_by t (kept_of cycle ∷ h))
unfolding followed_by
gauge_more p t g new h cycle rows following added same is held =
    subst (λ (v : GaugeView). GaugeHolds p v (record { told = kept_of cycle; following = may_follow t (length h / 2) } ∷ followed_by t h))
    (sym (added ∙ ap (λ (rs : List NodeRow). gauged g rs following) same ∙ ap (gauged g cycle.rows.items) is))
    (gauge_holds_more p g (followed_by t h) (record { told = kept_of cycle; following = may_follow t (length h / 2) }) held)

pub placed_rows : (p : Values) (g : GaugeView) (h : FollowedHistory) (grid : Grid) (cycle : TracedCycle) (rows : List NodeRow) → GaugeHolds p g h → CanPlace p grid → grid ≡ grid_for p → IsSound p (kept_of cycle) → rows ≡ cycle.rows.items
    → All (IsPlacedRow g.grid) rows
placed_rows p g h grid cycle rows held can is sound same =
    subst (λ (lines : Grid). All (IsPlacedRow lines) rows) (is ∙ sym held.grid) (placed_all p grid rows can (subst (All (KeepsLimits p)) (sym same) sound.rows))

pub few_added : (p : Values) (t : TraceView) (g : GaugeView) (behind : List TracedCycle) → GaugeHolds p g (followed_by t (history_by behind)) → length behind < 200_000 → g.added < 200_000
few_added p t g behind held few =
    let long = history_length behind in
    let whole = followed_length t (history_by behind) in
    let counted : g.added ≡ length (followed_by t (history_by behind)) = held.counted in
    omega arith

pub gauge_none : (p : Values) (t : TraceView) (g : GaugeView) → g ≡ fresh_gauge p → GaugeHolds p g (followed_by t (history_by []))
unfolding history_by followed_by
gauge_none p t g same = subst (λ (v : GaugeView). GaugeHolds p v []) (sym same) (gauge_holds_none p)

-- what it tells of the cycles so far foretells whether the next rows are apart
pub gauge_foretells : (p : Values) (t : TraceView) (g : GaugeView) (cycles : List TracedCycle) (n : ℕ) (synced : Option ℕ) → history_by cycles ≡ t.history → synced ≡ g.synced
    → GaugeHolds p g (followed_by t (history_by (take n cycles))) → Foretells p t (history_by (take n cycles)) synced
gauge_foretells p t g cycles n synced whole told held =
    subst (Foretells p t (history_by (take n cycles))) (sym (told ∙ held.synced))
    (foretold p t (history_by (take n cycles)) (λ k lt. ap (λ (h : History). record_at h k) (sym whole) ∙ same_records cycles n k lt))

pub hold_none : (p : Values) (controls : List Control) → Hold p [] controls → Hold p (history_by []) controls
unfolding history_by
hold_none p controls hold = hold

pub latest_none : (p : Values) (corrections : List Correction) → AreLatest p (history_by []) corrections
unfolding history_by
latest_none p corrections = tt
