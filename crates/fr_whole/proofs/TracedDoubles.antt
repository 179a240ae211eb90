-- The figures of a trace by the sharper bounds, gathered double cycle by double cycle.
use Rattle.std.proofs.Common.{◌≡◌, ◌∙◌, ℕ, suc, ◌+◌, ◌*◌, ◌<◌, ◌≤◌, Bool, true, false, not, ◌&&◌, List, [], ◌∷◌, length, take, get_or, Option, Some, None, refl, ap, ap₂, sym, subst, arith, add-one}
use Rattle.std.specs.Prelude.{All, if◌then◌else◌, slice_index_or}
use Rattle.std.specs.Option.{option_or}
use Rattle.std.proofs.lemmas.List.{length-take, take_all}
use Rattle.fr_base.specs.declared.node_row.NodeRow.{NodeRow}
use Rattle.fr_cluster.specs.Values.{Values}
use Rattle.fr_coverage.specs.First.{first_below}
use Rattle.fr_history.specs.Cycles.{Cycle, Cycles, told_of}
use Rattle.fr_history.specs.History.{History, Record, record_at}
use Rattle.fr_series.specs.Basis.{next_sharply, sharp_scale_of}
use Rattle.fr_series.specs.Figures.{above_since, figures_by, greatest_since}
use Rattle.fr_series.specs.Scale.{next_above, next_figures, next_greatest, next_synced}
use Rattle.fr_series.specs.declared.figures.Figures.{Figures}
use Rattle.fr_series.specs.declared.scale.Scale.{Scale}
use Rattle.fr_series.specs.declared.tally.SharpFigures.{SharpFigures}
use Rattle.fr_series.proofs.Following.{IsNoLater, figures_by-next}
use Rattle.fr_skew.specs.Sync.{are_in_sync_by_even}
use Rattle.fr_skew.specs.declared.peak.Peak.{Peak}
use Rattle.fr_time.specs.Cycles.{even_cycle, odd_cycle}
use Rattle.fr_time.specs.Instant.{KeepsLimits}
use Rattle.fr_time.specs.Placed.{IsPlacedRow}
use Rattle.fr_time.specs.Position.{CanPlace, grid_for}
use Rattle.fr_time.specs.declared.grid.Grid.{Grid}
use Rattle.fr_trace.specs.Cycles.{history_by, kept_of}
use Rattle.fr_trace.specs.Lasting.{IsTrace}
use Rattle.fr_trace.specs.Trace.{TraceView}
use Rattle.fr_trace.specs.declared.trace.TracedCycle.{TracedCycle}
use Rattle.fr_verdict.specs.SharpTraces.{recorded_flutter}
use Rattle.fr_verdict.specs.Sound.{IsSound}
use Rattle.fr_verdict.specs.Sync.{first_synced_of, is_early}
use Rattle.fr_verdict.proofs.AlikeFound.{FoundFirst, below_some}
use Rattle.fr_verdict.proofs.Parts.{history_length, history_more, take_one_more}
use Rattle.fr_verdict.proofs.Records.{record_of_cycle}
use Rattle.fr_whole.specs.TracedFigures.{are_sharp_by, is_sharp_at, recorded_figures, sharp_at}

-- ---- records as cycles without followers

abbrev as_cycle : Record → Cycle
as_cycle r = record { told = r; followers = []; follower_devs = [] }

as_cycles : History → Cycles
as_cycles [] = []
as_cycles (r ∷ h) = as_cycle r ∷ as_cycles h

told_as : (h : History) → told_of (as_cycles h) ≡ h
unfolding as_cycles
told_as [] = refl
told_as (r ∷ h) = ap (λ (g : History). r ∷ g) (told_as h)

length_as : (h : History) → length (as_cycles h) ≡ length h
unfolding as_cycles
length_as [] = refl
length_as (r ∷ h) = ap suc (length_as h)

-- ---- the figures of a front of a trace

abbrev pub figures_upto : Bool → Values → TraceView → History → ℕ → SharpFigures
figures_upto beside p t h n = record {
  synced = first_below (sharp_at beside p t) n;
  greatest = greatest_since (grid_for p) h (first_below (sharp_at beside p t) n);
  above = above_since (sharp_scale_of beside p (recorded_flutter p)) h (first_below (sharp_at beside p t) n);
}

pub sharp_at-place : (beside : Bool) (p : Values) (t : TraceView) (n k : ℕ) → sharp_at beside p t n ≡ Some k → n ≡ k
sharp_at-place beside p t n k is = by (not (is_early (first_synced_of p t) n) && is_sharp_at beside p t.history n) is
  where
    by : (b : Bool) → (if b then Some n else None) ≡ Some k → n ≡ k
    by true is = cc is
    by false is = absurd (cc is)

no_later : (beside : Bool) (p : Values) (t : TraceView) (n : ℕ) (first : Option ℕ) → first_below (sharp_at beside p t) n ≡ first → IsNoLater n first
no_later beside p t n None is = tt
no_later beside p t n (Some k) is =
    let found : FoundFirst (sharp_at beside p t) n k = below_some (sharp_at beside p t) n k is in
    let same = sharp_at-place beside p t found.place k found.found in
    let lt = found.within in
    omega (arith, same, lt)

and_true : (b : Bool) → (b && not false) ≡ b
and_true true = refl
and_true false = refl

first_next : (f : ℕ → Option ℕ) (n : ℕ) (free : Bool) → f n ≡ (if free then Some n else None) → first_below f (n + 1) ≡ next_synced n (free && not false) (first_below f n)
unfolding first_below
first_next f n free is =
    ap (first_below f) (add-one n) ∙ ap (option_or (first_below f n)) is ∙ sym (ap (λ (b : Bool). next_synced n b (first_below f n)) (and_true free))

module _ (beside : Bool) (p : Values) (t : TraceView) where
  abbrev free_in : ℕ → List NodeRow → List NodeRow → Bool
  free_in n even odd = not (is_early (first_synced_of p t) n) && are_in_sync_by_even (sharp_scale_of beside p (recorded_flutter p)).bounds even odd

  -- one more double cycle of a history
  upto_next : (h : History) (even odd : Record) (n : ℕ) → length h ≡ 2 * n → sharp_at beside p t n ≡ (if free_in n even.rows odd.rows then Some n else None)
      → next_sharply (sharp_scale_of beside p (recorded_flutter p)) n even.rows odd.rows (free_in n even.rows odd.rows) false (figures_upto beside p t h n)
      ≡ figures_upto beside p t (odd ∷ even ∷ h) (n + 1)
  upto_next h even odd n long at =
      let s : Scale = sharp_scale_of beside p (recorded_flutter p) in
      let free : Bool = free_in n even.rows odd.rows in
      let f : ℕ → Option ℕ = sharp_at beside p t in
      let first : Option ℕ = first_below f n in
      let after : Option ℕ = next_synced n (free && not false) first in
      let next : first_below f (n + 1) ≡ after = first_next f n free at in
      let more : figures_by s (λ a b. free) after (as_cycle odd ∷ as_cycle even ∷ as_cycles h) ≡ next_figures s n even.rows odd.rows free false (figures_by s (λ a b. free) first (as_cycles h)) =
      figures_by-next s (λ a b. free) (as_cycles h) (as_cycle even) (as_cycle odd) n free false first after (length_as h ∙ long) (no_later beside p t n first refl) refl refl in
      let greatest : next_greatest s n even.rows odd.rows after (greatest_since (grid_for p) h first) ≡ greatest_since (grid_for p) (odd ∷ even ∷ h) after =
      ap (λ (g : History). next_greatest s n even.rows odd.rows after (greatest_since (grid_for p) g first)) (sym (told_as h))
      ∙ sym (ap (λ (x : Figures). x.greatest) more)
      ∙ ap (λ (g : History). greatest_since (grid_for p) (odd ∷ even ∷ g) after) (told_as h) in
      let above : next_above s n even.rows odd.rows after (above_since s h first) ≡ above_since s (odd ∷ even ∷ h) after =
      ap (λ (g : History). next_above s n even.rows odd.rows after (above_since s g first)) (sym (told_as h))
      ∙ sym (ap (λ (x : Figures). x.above) more)
      ∙ ap (λ (g : History). above_since s (odd ∷ even ∷ g) after) (told_as h) in
      ap₂ (λ (g a : Option Peak). record { synced = after; greatest = g; above = a }) greatest above
      ∙ ap
      (λ (o : Option ℕ). record { synced = o; greatest = greatest_since (grid_for p) (odd ∷ even ∷ h) o; above = above_since s (odd ∷ even ∷ h) o })
      (sym next)

  -- ---- by the cycles of the trace

  at_double : (cycles : List TracedCycle) (n : ℕ) (even odd : TracedCycle) → history_by cycles ≡ t.history → 2 * n + 1 < length cycles → even ≡ get_or cycles (2 * n) even
      → odd ≡ get_or cycles (2 * n + 1) odd → sharp_at beside p t n ≡ (if free_in n even.rows.items odd.rows.items then Some n else None)
  at_double cycles n even odd whole lt is_even is_odd =
      let early : record_at t.history (even_cycle n) ≡ Some (kept_of even) =
      ap (λ (h : History). record_at h (2 * n)) (sym whole) ∙ record_of_cycle cycles (2 * n) even (omega (arith, lt)) is_even in
      let place : odd_cycle n ≡ 2 * n + 1 = omega arith in
      let late : record_at t.history (odd_cycle n) ≡ Some (kept_of odd) =
      ap (record_at t.history) place ∙ ap (λ (h : History). record_at h (2 * n + 1)) (sym whole) ∙ record_of_cycle cycles (2 * n + 1) odd lt is_odd in
      ap (λ (b : Bool). if not (is_early (first_synced_of p t) n) && b then Some n else None) (ap₂ (are_sharp_by beside p) early late)

  taken_more : (cycles : List TracedCycle) (n : ℕ) (cycle : TracedCycle) → n < length cycles → cycle ≡ get_or cycles n cycle → history_by (take (n + 1) cycles) ≡ kept_of cycle ∷ history_by (take n cycles)
  taken_more cycles n cycle lt is = ap history_by (take_one_more cycles n cycle lt is) ∙ history_more (take n cycles) cycle

  taken_two : (cycles : List TracedCycle) (n : ℕ) (even odd : TracedCycle) → 2 * n + 1 < length cycles → even ≡ get_or cycles (2 * n) even → odd ≡ get_or cycles (2 * n + 1) odd
      → history_by (take (2 * (n + 1)) cycles) ≡ kept_of odd ∷ kept_of even ∷ history_by (take (2 * n) cycles)
  taken_two cycles n even odd lt is_even is_odd =
      let two : 2 * (n + 1) ≡ 2 * n + 1 + 1 = omega arith in
      ap (λ (k : ℕ). history_by (take k cycles)) two
      ∙ taken_more cycles (2 * n + 1) odd lt is_odd
      ∙ ap (λ (h : History). kept_of odd ∷ h) (taken_more cycles (2 * n) even (omega (arith, lt)) is_even)

  pub figures_more : (cycles : List TracedCycle) (n : ℕ) (even odd : TracedCycle) (s : Scale) (synced : Option ℕ) (old new : SharpFigures) → history_by cycles ≡ t.history → 2 * n + 1 < length cycles
      → even ≡ get_or cycles (2 * n) even → odd ≡ get_or cycles (2 * n + 1) odd → s ≡ sharp_scale_of beside p (recorded_flutter p) → synced ≡ first_synced_of p t
      → old ≡ figures_upto beside p t (history_by (take (2 * n) cycles)) n
      → new ≡ next_sharply s n even.rows.items odd.rows.items (not (is_early synced n) && are_in_sync_by_even s.bounds even.rows.items odd.rows.items) false old
      → new ≡ figures_upto beside p t (history_by (take (2 * (n + 1)) cycles)) (n + 1)
  figures_more cycles n even odd s synced old new whole lt is_even is_odd is from so next =
      let h : History = history_by (take (2 * n) cycles) in
      let long : length h ≡ 2 * n = front_length cycles n (omega (arith, lt)) in
      next
      ∙ (λ i. next_sharply (is i) n even.rows.items odd.rows.items (not (is_early (from i) n) && are_in_sync_by_even (is i).bounds even.rows.items odd.rows.items) false (so i))
      ∙ upto_next h (kept_of even) (kept_of odd) n long (at_double cycles n even odd whole lt is_even is_odd)
      ∙ ap (λ (g : History). figures_upto beside p t g (n + 1)) (sym (taken_two cycles n even odd lt is_even is_odd))
    where
      front_length : (cycles : List TracedCycle) (n : ℕ) → 2 * n ≤ length cycles → length (history_by (take (2 * n) cycles)) ≡ 2 * n
      front_length cycles n le = let long = history_length (take (2 * n) cycles) in omega (arith, long, length-take (2 * n) cycles, le)

  pub figures_none : (cycles : List TracedCycle) (figures : SharpFigures) → figures ≡ record { synced = None; greatest = None; above = None }
      → figures ≡ figures_upto beside p t (history_by (take (2 * 0) cycles)) 0
  unfolding first_below
  figures_none cycles figures is = is

  pub figures_all : (cycles : List TracedCycle) (n : ℕ) (figures : SharpFigures) → IsTrace t → history_by cycles ≡ t.history → n ≡ t.doubles
      → figures ≡ figures_upto beside p t (history_by (take (2 * n) cycles)) n → figures ≡ recorded_figures beside p t
  figures_all cycles n figures trace whole end so =
      let long = history_length cycles in
      let same : length (history_by cycles) ≡ length t.history = ap (λ (h : History). length h) whole in
      let twice = trace.whole in
      let all : take (2 * n) cycles ≡ cycles = take_all (2 * n) cycles (omega (arith, long, same, twice, end)) in
      so
      ∙ ap (λ (cs : List TracedCycle). figures_upto beside p t (history_by cs) n) all
      ∙ ap₂ (λ (h : History) (m : ℕ). figures_upto beside p t h m) whole end

-- the rows of a sound cycle can be placed on the grid of its cluster
pub placed_rows : (p : Values) (can lines : Grid) (cycle : TracedCycle) (rows : List NodeRow) → CanPlace p can → can ≡ grid_for p → lines ≡ grid_for p → IsSound p (kept_of cycle) → rows ≡ cycle.rows.items
    → All (IsPlacedRow lines) rows
placed_rows p can lines cycle rows place is own sound same =
    let each : All (KeepsLimits p) rows = subst (All (KeepsLimits p)) (sym same) sound.rows in
    subst (λ (grid : Grid). All (IsPlacedRow grid) rows) (is ∙ sym own)
    (λ k d lt. record { placeable = place.terms (slice_index_or rows k d).rate (slice_index_or rows k d).offset (each k d lt).rate (each k d lt).offset; timed = (each k d lt).timed })

-- a double cycle of a trace has both its cycles
pub both_there : (t : TraceView) (cycles : List TracedCycle) (n : ℕ) → IsTrace t → history_by cycles ≡ t.history → n < t.doubles → 2 * n + 1 < length cycles
both_there t cycles n trace whole lt =
    let long = history_length cycles in
    let same : length (history_by cycles) ≡ length t.history = ap (λ (h : History). length h) whole in
    let twice = trace.whole in
    omega (arith, long, same, twice, lt)
