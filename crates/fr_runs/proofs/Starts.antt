-- No cycle of a run starts below 0, where none does in cycle 0.
use Rattle.std.proofs.Common.{◌≡◌, ℕ, ◌-◌, ◌*◌, ◌<◌, ◌≤◌, Bool, true, false, ◌&&◌, ℤ, pos, Option, Some, None, List, [], ◌∷◌, length, refl, sym, subst, arith, if◌then◌else◌}
use Rattle.std.specs.Prelude.{◌≤ℤ◌, ◌+ℤ◌, ◌*ℤ◌, ◌==◌, neg_ℤ, int_le, All, Contains}
use Rattle.std.proofs.lemmas.Bool.{and_parts}
use Rattle.std.proofs.lemmas.Int.{ints}
use Rattle.std.proofs.lemmas.List.Elements.{All-contains, All-weaker}
use Rattle.fr_base.specs.Within.{IsWithin}
use Rattle.fr_base.specs.declared.node_row.NodeRow.{NodeRow}
use Rattle.fr_cluster.specs.Constraints.{correction_macros, least_micros}
use Rattle.fr_cluster.specs.Questions.{own_index}
use Rattle.fr_cluster.specs.Sane.{IsSane}
use Rattle.fr_cluster.specs.Setting.{Setting, correct_nodes}
use Rattle.fr_cluster.specs.Values.{Values, amount}
use Rattle.fr_cluster.specs.declared.names.ParamName.TheVariants as name
use Rattle.fr_cluster.specs.declared.nodes.NodeSpec.{NodeSpec}
use Rattle.fr_time.specs.Cycles.{is_odd}
use Rattle.fr_reception.specs.Listening.{Caught, first_rate_of, first_start_of}
use Rattle.fr_midpoint.specs.Midpoint.{midpoint_of}
use Rattle.fr_midpoint.proofs.Products.{mulz_from}
use Rattle.fr_measure.specs.Deviations.{offset_values_by}
use Rattle.fr_correct.specs.Terms.{offset_term_at}
use Rattle.fr_correct.proofs.There.{term_lies_within}
use Rattle.fr_bound.proofs.Uncut.{uncut_lem}
use Rattle.fr_bound.specs.Bounds.{shortest_micro}
use Rattle.fr_precision.specs.Rows.{corrected_end_of}
use Rattle.fr_precision.proofs.Figures.{natural}
use Rattle.fr_precision.proofs.PlacementLaws.{limit_below}
use Rattle.fr_history.specs.History.{row_for, row_of}
use Rattle.fr_history.specs.Rows.{is_corrected, offset_after}
use Rattle.fr_history.specs.Terms.{latest_devs, offset_term_by, offset_term_in}
use Rattle.fr_history.specs.Catching.{begins_with}
use Rattle.fr_cluster.specs.declared.join.Join.{Join}
use Rattle.fr_history.specs.Cycles.{Cycle, Cycles, follower_devs_after, told_of}
use Rattle.fr_history.specs.Laws.{begun_by, caught_start, follower_laws, follower_offset, row_laws, start_by_rows, start_of_next}
use Rattle.fr_history.specs.Standing.{following_nodes, row_nodes}
use Rattle.fr_cluster.proofs.Elements.{found}
use Rattle.fr_runs.proofs.Rows.{all_rows, each_row, row_runs_by}
use Rattle.fr_runs.specs.Gathered.{CycleRuns, AreClocksCovered}
use Rattle.fr_runs.specs.Rounds.{AllClocksRun, RatesBegin}
use Rattle.fr_runs.proofs.Courses.{is_correct_follower, is_correct_row}
use Rattle.fr_runs.proofs.Going.{followers_ascend, rows_ascend}
use Rattle.fr_runs.proofs.Rates.{begun_suffices, rates_stay_within}
use Rattle.fr_runs.specs.Supplied.{StartsBegin, StartsStayNatural}

-- ---- a cycle does not end before it starts

-- the numbers of a row from which the next start follows
record Goes (p : Values) (row : NodeRow) : Type 0 where
  start : pos 0 ≤ℤ row.start
  rate : IsWithin p.rate_limit row.rate
  offset : IsWithin p.offset_limit row.offset
  micro : pos 0 ≤ℤ row.length

micros_from : (n r o rate offset : ℤ) (a b c : ℕ) → n ≡ pos a → r ≡ pos b → o ≡ pos c → b ≤ a → c ≤ a - b → IsWithin r rate → IsWithin o offset → pos 0 ≤ℤ (n +ℤ rate +ℤ offset)
micros_from n r o rate offset a b c n_is r_is o_is fits below rate_lies offset_lies = omega (arith, ints, rate_lies.low, offset_lies.low)

more : (a b : ℤ) → pos 0 ≤ℤ a → pos 0 ≤ℤ b → pos 0 ≤ℤ (a +ℤ b)
more a b from some = omega (arith, ints)

ends_later : (p : Values) (row : NodeRow) → IsSane p → Goes p row → pos 0 ≤ℤ corrected_end_of p row
ends_later p row sane goes =
    let f = amount p in
    let micros = sane.ranges name.pMicroPerCycle in
    let rate = sane.ranges name.pRateCorrectionOut in
    let offset = sane.ranges name.pOffsetCorrectionOut in
    let macros = sane.ranges name.gMacroPerCycle in
    let below : f name.pOffsetCorrectionOut ≤ least_micros f =
    limit_below (f name.gMacroPerCycle) (correction_macros f) (f name.pOffsetCorrectionOut) (least_micros f) (omega (arith, ints, macros.0)) (omega arith) sane.constraints.leaves_microticks in
    let whole =
    micros_from p.micros p.rate_limit p.offset_limit row.rate row.offset (f name.pMicroPerCycle) (f name.pRateCorrectionOut) (f name.pOffsetCorrectionOut)
    (natural p.micros (omega (arith, ints, micros.0))) (natural p.rate_limit (omega (arith, ints, rate.0))) (natural p.offset_limit (omega (arith, ints, offset.0)))
    (uncut_lem p sane).cycle below goes.rate goes.offset in
    more row.start ((p.micros +ℤ row.rate +ℤ row.offset) *ℤ row.length) goes.start
    (mulz_from (p.micros +ℤ row.rate +ℤ row.offset) row.length whole goes.micro)

-- ---- an offset lies within its limit

from_0 : (p : Values) → IsSane p → pos 0 ≤ℤ p.offset_limit
from_0 p sane = let range = sane.ranges name.pOffsetCorrectionOut in omega (arith, ints, range.0)

nothing_within : (limit : ℤ) → pos 0 ≤ℤ limit → IsWithin limit (pos 0)
nothing_within limit from = record { low = omega (arith, ints, from); high = from }

term_within : (p : Values) (mid : Option ℤ) → IsSane p → IsWithin p.offset_limit (offset_term_at p.offset_limit mid).value
term_within p None sane = nothing_within p.offset_limit (from_0 p sane)
term_within p (Some mid) sane = term_lies_within p.offset_limit mid (from_0 p sane)

told_offset : (x : Setting) (h : Cycles) (c : Cycle) (row : NodeRow) (b : Bool) → IsSane x.params
    → IsWithin x.params.offset_limit (if b then (offset_term_in x.params (told_of h) c.told.devs row.node).value else pos 0)
told_offset x h c row true sane =
    let p = x.params in
    term_within p (midpoint_of (offset_values_by p (latest_devs (told_of h)) c.told.devs row.node (own_index p row.node))) sane
told_offset x h c row false sane = nothing_within x.params.offset_limit (from_0 x.params sane)

followed_offset : (x : Setting) (h : Cycles) (c : Cycle) (row : NodeRow) (b : Bool) → IsSane x.params
    → IsWithin x.params.offset_limit (if b then (offset_term_by x.params (follower_devs_after h) c.follower_devs row.node None).value else pos 0)
followed_offset x h c row true sane =
    let p = x.params in
    term_within p (midpoint_of (offset_values_by p (follower_devs_after h) c.follower_devs row.node None)) sane
followed_offset x h c row false sane = nothing_within x.params.offset_limit (from_0 x.params sane)

-- ---- a first start

from_le : (a b : ℤ) → int_le a b ≡ true → a ≤ℤ b
from_le a b le = grind (arith, ints)

begun_natural : (x : Setting) (h : Cycles) (node : ℕ) (join : Option Join) → pos 0 ≤ℤ caught_start x.params (begun_by x h node join)
begun_natural x h node None = omega (arith, ints)
begun_natural x h node (Some join) = by_caught (begins_with x h node join) refl
  where
    by_caught : (o : Option Caught) → begins_with x h node join ≡ o → pos 0 ≤ℤ caught_start x.params o
    by_caught None is = omega (arith, ints)
    by_caught (Some c) is =
        let p = x.params in
        let rate = first_rate_of p c in
        let all = and_parts (int_le (neg_ℤ p.rate_limit) rate && int_le rate p.rate_limit) (int_le (pos 0) (first_start_of p c)) (begun_suffices x h node join c is) in
        from_le (pos 0) (first_start_of p c) all.1

-- ---- the rows of a cycle, and behind it

-- all rows of a cycle are such, and so are its followers
abbrev BothGo : Setting → Cycle → Type 0
BothGo x c = All (Goes x.params) c.told.rows × All (Goes x.params) c.followers

-- microticks of correct nodes are no less than 0 in so many cycles
abbrev pub MicroticksAreNatural : Setting → ℕ → Type 0
MicroticksAreNatural x cycles = (node : NodeSpec) (cycle : ℕ) → Contains (correct_nodes x) node → cycle < cycles → pos 0 ≤ℤ x.microtick node.id cycle

rows_go : (x : Setting) (h : Cycles) (c : Cycle) → IsSane x.params → MicroticksAreNatural x (length (c ∷ h)) → RatesBegin x → AllClocksRun x (c ∷ h)
    → ((node : NodeSpec) → Contains (correct_nodes x) node → pos 0 ≤ℤ start_of_next x h node.id) → BothGo x c
rows_go x h c sane micros rates run behind =
    let p = x.params in
    let runs : CycleRuns x h c = run.0 in
    let within = rates_stay_within x h c sane rates run in
    let Natural : ℤ → Type 0 = λ z. pos 0 ≤ℤ z in
    let Offset : ℤ → Type 0 = IsWithin p.offset_limit in
    let Rate : NodeRow → Type 0 = λ row. IsWithin p.rate_limit row.rate in (
      all_rows (row_nodes x h) c.told.rows (Goes p) (rows_ascend x h sane) runs.rows.nodes
          (λ node among.
          let row : NodeRow = row_for c.told.rows node.id in
          let own = row_runs_by (row_laws x h) (offset_after p (told_of h) c.told) (row_nodes x h) c.told.rows node runs.rows among in
          let there = is_correct_row x h node among in
          record {
            start = subst Natural (sym own.start) (behind node there);
            rate = each_row (row_nodes x h) c.told.rows Rate node runs.rows.nodes among within.0;
            offset = subst Offset (sym own.offset) (told_offset x h c row (is_corrected (told_of h) row) sane);
            micro = subst Natural (sym own.length_is) (micros node (length h) there (omega arith));
          }),
      all_rows (following_nodes x h) c.followers (Goes p) (followers_ascend x h sane) runs.followers.nodes
          (λ node among.
          let row : NodeRow = row_for c.followers node.id in
          let own = row_runs_by (follower_laws x h) (follower_offset p h c.follower_devs) (following_nodes x h) c.followers node runs.followers among in
          let there = is_correct_follower x h node among in
          record {
            start = subst Natural (sym own.start) (behind node there);
            rate = each_row (following_nodes x h) c.followers Rate node runs.followers.nodes among within.1;
            offset = subst Offset (sym own.offset) (followed_offset x h c row (is_odd (length h)) sane);
            micro = subst Natural (sym own.length_is) (micros node (length h) there (omega arith));
          }),
    )

found_goes : (p : Values) (rows : List NodeRow) (node : ℕ) (row : NodeRow) → All (Goes p) rows → row_of rows node ≡ Some row → Goes p row
found_goes p rows node row all is = All-contains (Goes p) rows row all (found (λ (r : NodeRow). r.node == node) rows row is).1

after_natural : (x : Setting) (h : Cycles) (c : Cycle) (node : ℕ) (row follower : Option NodeRow) → IsSane x.params → BothGo x c
    → row_of c.told.rows node ≡ row → row_of c.followers node ≡ follower → pos 0 ≤ℤ start_by_rows x (c ∷ h) node row follower
after_natural x h c node (Some row) follower sane go is follows_is = ends_later x.params row sane (found_goes x.params c.told.rows node row go.0 is)
after_natural x h c node None (Some row) sane go is follows_is = ends_later x.params row sane (found_goes x.params c.followers node row go.1 follows_is)
after_natural x h c node None None sane go is follows_is = begun_natural x (c ∷ h) node (x.join node)

behind_natural : (x : Setting) (h : Cycles) (node : NodeSpec) → IsSane x.params → MicroticksAreNatural x (length h) → RatesBegin x → StartsBegin x → AllClocksRun x h
    → Contains (correct_nodes x) node → pos 0 ≤ℤ start_of_next x h node.id
behind_natural x [] node sane micros rates starts run correct = starts node correct
behind_natural x (c ∷ h) node sane micros rates starts run correct =
    let go = rows_go x h c sane micros rates run (λ other there. behind_natural x h other sane (λ spec cycle among less. micros spec cycle among (omega (arith, less))) rates starts run.1 there) in
    after_natural x h c node.id (row_of c.told.rows node.id) (row_of c.followers node.id) sane go refl refl

natural_start : (p : Values) (row : NodeRow) → Goes p row → pos 0 ≤ℤ row.start
natural_start p row goes = goes.start

-- so it is of any run whose microticks are no less than 0
pub starts_are_natural : (x : Setting) (h : Cycles) (c : Cycle) → IsSane x.params → MicroticksAreNatural x (length (c ∷ h)) → RatesBegin x → StartsBegin x → AllClocksRun x (c ∷ h)
    → All (λ row. pos 0 ≤ℤ row.start) c.told.rows × All (λ row. pos 0 ≤ℤ row.start) c.followers
starts_are_natural x h c sane micros rates starts run =
    let p = x.params in
    let go = rows_go x h c sane micros rates run (λ node correct. behind_natural x h node sane (λ spec cycle among less. micros spec cycle among (omega (arith, less))) rates starts run.1 correct) in
    (All-weaker (Goes p) (λ row. pos 0 ≤ℤ row.start) (natural_start p) c.told.rows go.0, All-weaker (Goes p) (λ row. pos 0 ≤ℤ row.start) (natural_start p) c.followers go.1)

-- and of a covered one
from_shortest : (short : ℕ) (t : ℤ) → pos short ≤ℤ t → pos 0 ≤ℤ t
from_shortest short t le = omega (arith, ints, le)

pub starts_stay_natural : StartsStayNatural
starts_stay_natural x h c covered rates starts run less =
    starts_are_natural x h c covered.sane
    (λ node cycle there before. from_shortest (shortest_micro x.params) (x.microtick node.id cycle) (covered.least node cycle there (omega (arith, before, less)))) rates starts run
