-- What is known of a world that has run so many double cycles, and behind its next one.
use Rattle.std.proofs.Common.{◌≡◌, ◌∙◌, ℕ, zero, suc, ◌+◌, ◌*◌, ◌-◌, ◌≤◌, Bool, true, false, not, ◌&&◌, ◌||◌, List, [], ◌++◌, Option, Some, None, refl, sym, ap, ap₂, subst, append_assoc, append-nil, arith}
use Rattle.std.specs.Prelude.{unwrap_or, IfSome}
use Rattle.fr_base.specs.declared.node_row.NodeRow.{NodeRow}
use Rattle.fr_history.specs.Next.{cycles_of}
use Rattle.fr_skew.specs.Sync.{are_in_sync, are_in_sync_by_even, sync_bounds_of}
use Rattle.fr_skew.proofs.Closeness.{in_sync_is}
use Rattle.fr_time.specs.Position.{grid_for}
use Rattle.fr_coverage.specs.Flutter.{flutter_from}
use Rattle.fr_promise.specs.SharpTested.{is_in_sharp_sync}
use Rattle.fr_promise.proofs.FreeLemmas.{first_free-none}
use Rattle.fr_sharp.specs.LossSteps.{LossDouble}
use Rattle.fr_sharp.specs.SharpStatement.{has_arbitrary}
use Rattle.fr_world.specs.World.{WorldView, setting_after}
use Rattle.fr_series.specs.Basis.{first_sharp_of, scale_from, sharp_figures_of, sharply_followed, tallied, tally_of, IsCourse}
use Rattle.fr_series.specs.Figures.{figures_of}
use Rattle.fr_series.specs.Scale.{followed, next_synced, scale_of, IsScale}
use Rattle.fr_series.specs.SharpLosses.{from_of, kept_by, IsHeldSince}
use Rattle.fr_series.specs.SharpText.{sharp_double_by, sharp_rows}
use Rattle.fr_series.specs.Stopping.{sharp_rows_before}
use Rattle.fr_series.specs.Writing.{first_sharp_at, is_double_followed, rows_of, sharp_double_at, sharp_text_of_double, IsKnown}
use Rattle.fr_series.specs.declared.basis.Basis.{Basis}
use Rattle.fr_series.specs.declared.figures.Figures.{Figures}
use Rattle.fr_series.specs.declared.kept.Kept.{Kept}
use Rattle.fr_series.specs.declared.known.Known.{Known}
use Rattle.fr_series.specs.declared.scale.Scale.{Scale}
use Rattle.fr_series.specs.declared.tally.SharpFigures.{SharpFigures}
use Rattle.fr_series.specs.declared.tally.Tally.{Tally}
use Rattle.fr_series.proofs.Doubles.{followed_at, no_cycles, rows_at}
use Rattle.fr_series.proofs.SharpFollowing.{sharp_figures-at, sharp_rows-at}
use Rattle.fr_series.proofs.Worlds.{both-followed, even-rows, figures-more, odd-rows}

-- ---- the figures

-- behind the next double cycle, by the numbers that it is tested by
pub sharp_figures-more : (w v : WorldView) (n : ℕ) (scale : Scale) (old new : SharpFigures) → v ≡ record w { cycles = 2 * n }
    → scale ≡ scale_from w.params w.drift w.script (unwrap_or (first_sharp_at w n) n)
    → old ≡ sharp_figures_of w.params w.drift w.script (cycles_of (setting_after w) (2 * n)) → new ≡ sharply_followed scale n (rows_of v v.cycles) (rows_of v (v.cycles + 1)) (is_double_followed v v.cycles) old
    → new ≡ sharp_figures_of w.params w.drift w.script (cycles_of (setting_after w) (2 * (n + 1)))
sharp_figures-more w v n scale old new at is held next =
    let x = setting_after w in
    let numbers : Scale = scale_from w.params w.drift w.script (unwrap_or (first_sharp_at w n) n) in
    let following : Bool = is_double_followed v v.cycles in
    next
    ∙ ap (λ (s : Scale). sharply_followed s n (rows_of v v.cycles) (rows_of v (v.cycles + 1)) following old) is
    ∙ ap (λ (even : List NodeRow). sharply_followed numbers n even (rows_of v (v.cycles + 1)) following old) (even-rows w v n at)
    ∙ ap (λ (odd : List NodeRow). sharply_followed numbers n (rows_at x (2 * n)) odd following old) (odd-rows w v n at)
    ∙ ap (λ (follow : Bool). sharply_followed numbers n (rows_at x (2 * n)) (rows_at x (2 * n + 1)) follow old) (both-followed w v n at)
    ∙ ap (sharply_followed numbers n (rows_at x (2 * n)) (rows_at x (2 * n + 1)) (followed_at x (2 * n) || followed_at x (2 * n + 1))) held
    ∙ sym (sharp_figures-at w.params w.drift w.script x n)

pub tally-more : (w : WorldView) (n : ℕ) (older sharp : Scale) (old new : Tally) → w.cycles ≡ 2 * n → older ≡ scale_of w.params
    → sharp ≡ scale_from w.params w.drift w.script (unwrap_or (first_sharp_at w n) n)
    → old ≡ tally_of w.params w.drift w.script (cycles_of (setting_after w) (2 * n))
    → new ≡ tallied older sharp n (rows_of w w.cycles) (rows_of w (w.cycles + 1)) (is_double_followed w w.cycles) old
    → new ≡ tally_of w.params w.drift w.script (cycles_of (setting_after w) (2 * (n + 1)))
tally-more w n older sharp old new at is by held next =
    let here : w ≡ record w { cycles = 2 * n } = ap (λ (k : ℕ). record w { cycles = k }) at in
    next
    ∙ ap₂ (λ (one : Figures) (other : SharpFigures). record { older = one; sharp = other })
    (figures-more w w n older old.older _ here is (ap (λ (t : Tally). t.older) held) refl)
    (sharp_figures-more w w n sharp old.sharp _ here by (ap (λ (t : Tally). t.sharp) held) refl)

-- ---- what a run rests on

-- it stays what it was from the first double cycle in sharp sync on, and begins there
pub begun_same : (basis : Option Basis) (was : Option ℕ) (n : ℕ) (free : Bool) → from_of basis ≡ was → IfSome basis (λ b. next_synced n free was ≡ Some b.from)
begun_same None was n free is = tt
begun_same (Some basis) was n free is = rw (← is) refl

pub begun_starts : (basis : Option Basis) (was : Option ℕ) (n : ℕ) (free : Bool) → from_of basis ≡ was → basis ≡ None → IfSome (next_synced n free was) (λ first. first ≡ n)
begun_starts basis was n free is none = by was free (sym is ∙ ap from_of none)
  where
    by : (o : Option ℕ) (b : Bool) → o ≡ None → IfSome (next_synced n b o) (λ first. first ≡ n)
    by None true e = refl
    by None false e = tt
    by (Some k) b e = cc e

-- the first double cycle stays the first
pub still_first : (n : ℕ) (free : Bool) (was : Option ℕ) → unwrap_or was n ≡ unwrap_or (next_synced n free was) n
still_first n free (Some k) = refl
still_first n true None = refl
still_first n false None = refl

-- ---- the text

pub sharp_text_is : (w : WorldView) (n : ℕ) (older sharp : Scale) (kept : Kept) → w.cycles ≡ 2 * n → older ≡ scale_of w.params
    → sharp ≡ scale_from w.params w.drift w.script (unwrap_or (first_sharp_at w n) n) → kept ≡ kept_by w.params w.drift w.script (first_sharp_at w (n + 1)) n
    → sharp_text_of_double older sharp kept n (rows_of w w.cycles) (rows_of w (w.cycles + 1)) ≡ sharp_double_at w n
sharp_text_is w n older sharp kept at is by held =
    let even : List NodeRow = rows_of w (2 * n) in
    let odd : List NodeRow = rows_of w (2 * n + 1) in
    ap (λ (k : ℕ). sharp_text_of_double older sharp kept n (rows_of w k) (rows_of w (k + 1))) at
    ∙ ap (λ (s : Scale). sharp_text_of_double s sharp kept n even odd) is
    ∙ ap (λ (s : Scale). sharp_text_of_double (scale_of w.params) s kept n even odd) by
    ∙ ap (λ (k : Kept). sharp_text_of_double (scale_of w.params) (scale_from w.params w.drift w.script (unwrap_or (first_sharp_at w n) n)) k n even odd) held
    ∙ ap (λ (b : Bool).
    sharp_double_by (grid_for w.params) b (are_in_sync_by_even (scale_from w.params w.drift w.script (unwrap_or (first_sharp_at w n) n)).bounds even odd)
    (kept_by w.params w.drift w.script (first_sharp_at w (n + 1)) n) (2 * n) even odd)
    (in_sync_is w.params even odd)

-- the lines of one more double cycle
pub sharp_rows-more : (w : WorldView) (n : ℕ) → sharp_rows_before w n ++ sharp_double_at w n ≡ sharp_rows_before w (n + 1)
sharp_rows-more w n = sym (sharp_rows-at w.params w.drift w.script (setting_after w) n)

-- ---- what is known

-- of no cycle nothing
pub first_none : (w : WorldView) → first_sharp_at w 0 ≡ None
first_none w =
    ap (first_sharp_of w.params w.drift w.script) (no_cycles (setting_after w))
    ∙ first_free-none (λ k. is_in_sharp_sync (has_arbitrary w.params w.script) w.params (flutter_from w.params w.drift w.script k))

pub rows_none : (w : WorldView) → sharp_rows_before w 0 ≡ []
unfolding sharp_rows
rows_none w = ap (sharp_rows w.params w.drift w.script) (no_cycles (setting_after w))

pub known_first : (w : WorldView) (known : Known) (spread : LossDouble) (tally : Tally) → known.older ≡ scale_of w.params → IsScale known.older → IsScale known.course.scale
    → IsCourse w.params w.drift w.script 0 known.course → known.basis ≡ None → tally ≡ tally_of w.params w.drift w.script [] → IsKnown w 0 known spread tally
known_first w known spread tally older proper sharp course none is =
    let zero_is : 0 ≡ unwrap_or (first_sharp_at w 0) 0 = sym (ap (λ (o : Option ℕ). unwrap_or o 0) (first_none w)) in
    let H : Option Basis → Type 0 = λ o. IsHeldSince w.params w.drift w.script 0 o spread in
    record {
      older = older;
      proper = proper;
      sharp = sharp;
      course = subst (λ (n : ℕ). IsCourse w.params w.drift w.script n known.course) zero_is course;
      begun = ap from_of none ∙ sym (first_none w);
      held = subst H (sym none) tt;
      figures = is ∙ ap (tally_of w.params w.drift w.script) (sym (no_cycles (setting_after w)));
    }

-- whatever is run of it
pub known_of : (w v : WorldView) (k n : ℕ) (known : Known) (spread : LossDouble) (tally : Tally) → v ≡ record w { cycles = k } → IsKnown v n known spread tally → IsKnown w n known spread tally
known_of w v k n known spread tally at is = here (subst (λ (u : WorldView). IsKnown u n known spread tally) at is)
  where
    here : IsKnown (record w { cycles = k }) n known spread tally → IsKnown w n known spread tally
    here so = record {
      older = so.older;
      proper = so.proper;
      sharp = so.sharp;
      course = so.course;
      begun = so.begun;
      held = so.held;
      figures = so.figures;
    }

pub known_from : (w v : WorldView) (k n : ℕ) (known : Known) (spread : LossDouble) (tally : Tally) → v ≡ record w { cycles = k } → IsKnown w n known spread tally → IsKnown v n known spread tally
known_from w v k n known spread tally at is = subst (λ (u : WorldView). IsKnown u n known spread tally) (sym at) there
  where
    there : IsKnown (record w { cycles = k }) n known spread tally
    there = record {
      older = is.older;
      proper = is.proper;
      sharp = is.sharp;
      course = is.course;
      begun = is.begun;
      held = is.held;
      figures = is.figures;
    }

-- the lines of fewer double cycles come first
pub rows_upto : (w : WorldView) (last all : ℕ) → last ≤ all → (more : List ℕ) × (sharp_rows_before w all ≡ sharp_rows_before w last ++ more)
rows_upto w last all le = let found = rest (all - last) in let same : all ≡ last + (all - last) = omega (arith, le) in (found.0, ap (sharp_rows_before w) same ∙ found.1)
  where
    rest : (more : ℕ) → (left : List ℕ) × (sharp_rows_before w (last + more) ≡ sharp_rows_before w last ++ left)
    rest zero = let same : last + 0 ≡ last = omega arith in ([], ap (sharp_rows_before w) same ∙ sym (append-nil (sharp_rows_before w last)))
    rest (suc more) =
        let before = rest more in
        let one : last + suc more ≡ (last + more) + 1 = omega arith in (
          before.0 ++ sharp_double_at w (last + more),
          ap (sharp_rows_before w) one
              ∙ sym (sharp_rows-more w (last + more))
              ∙ ap (λ (l : List ℕ). l ++ sharp_double_at w (last + more)) before.1
              ∙ append_assoc (sharp_rows_before w last) before.0 (sharp_double_at w (last + more)),
        )
