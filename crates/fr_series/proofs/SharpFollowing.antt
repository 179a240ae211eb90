-- The sharper figures and the sharper text of some cycles and of one more double cycle.
use Rattle.std.proofs.Common.{◌≡◌, ◌∙◌, ℕ, ◌+◌, ◌*◌, ◌/◌, Bool, true, false, not, ◌&&◌, ◌||◌, List, [], ◌∷◌, ◌++◌, length, Option, Some, None, refl, ap, ap₂, sym, arith}
use Rattle.std.specs.Prelude.{unwrap_or}
use Rattle.fr_base.specs.declared.node_row.NodeRow.{NodeRow}
use Rattle.fr_cluster.specs.Setting.{Setting}
use Rattle.fr_cluster.specs.Values.{Values}
use Rattle.fr_coverage.specs.Flutter.{flutter_from}
use Rattle.fr_drift.specs.View.{DriftView}
use Rattle.fr_script.specs.View.{ScriptView}
use Rattle.fr_history.specs.Cycles.{Cycle, Cycles, told_of}
use Rattle.fr_history.specs.Next.{cycles_of, next_cycle}
use Rattle.fr_history.specs.Unfollowed.{is_none}
use Rattle.fr_history.proofs.RunsExist.{length-cycles_of}
use Rattle.fr_promise.specs.SharpTested.{IsFirstSharpSyncBy, is_in_sharp_sync}
use Rattle.fr_promise.proofs.FreeLemmas.{first_free-next, first_free-none, first_sharp_sync_by_is, sharp_sync_within}
use Rattle.fr_sharp.specs.SharpStatement.{has_arbitrary}
use Rattle.fr_series.specs.Basis.{first_sharp_of, next_sharply, scale_from, sharp_figures_of, sharply_followed, tally_of}
use Rattle.fr_series.specs.Figures.{above_since, greatest_since}
use Rattle.fr_series.specs.Scale.{next_synced}
use Rattle.fr_series.specs.SharpText.{sharp_double_text, sharp_rows}
use Rattle.fr_series.specs.declared.figures.Figures.{Figures}
use Rattle.fr_series.specs.declared.scale.Scale.{Scale}
use Rattle.fr_series.specs.declared.tally.SharpFigures.{SharpFigures}
use Rattle.fr_series.specs.declared.tally.Tally.{Tally}
use Rattle.fr_series.proofs.Doubles.{cycles-two, followed_at, rows_at}
use Rattle.fr_series.proofs.Following.{IsNoLater, figures-none, figures_by-next}

-- ---- the first double cycle in sharp sync

-- none follows in two cycles
neither_follows : (b : Bool) (early late : List NodeRow) → (b && is_none early && is_none late) ≡ (b && not (not (is_none early) || not (is_none late)))
neither_follows true [] [] = refl
neither_follows true [] (row ∷ rows) = refl
neither_follows true (row ∷ rows) late = refl
neither_follows false early late = refl

module _ (p : Values) (d : DriftView) (s : ScriptView) where
  -- the test of a double cycle, by the numbers for the flutter from it on
  abbrev passes : ℕ → List NodeRow → List NodeRow → Bool
  passes double even odd = is_in_sharp_sync (has_arbitrary p s) p (flutter_from p d s double) even odd

  sharp_synced-next : (h : Cycles) (even odd : Cycle) (double : ℕ) → length h ≡ 2 * double
      → first_sharp_of p d s (odd ∷ even ∷ h)
      ≡ next_synced double (passes double even.told.rows odd.told.rows && not (not (is_none even.followers) || not (is_none odd.followers))) (first_sharp_of p d s h)
  sharp_synced-next h even odd double long =
      first_free-next passes h even odd double long
      ∙ ap (λ (b : Bool). next_synced double b (first_sharp_of p d s h)) (neither_follows (passes double even.told.rows odd.told.rows) even.followers odd.followers)

  sharp_low : (h : Cycles) (double : ℕ) (first : Option ℕ) → length h ≡ 2 * double → first_sharp_of p d s h ≡ first → IsNoLater double first
  sharp_low h double None long is = tt
  sharp_low h double (Some first) long is =
      let synced : IsFirstSharpSyncBy (has_arbitrary p s) p (flutter_from p d s) h first = first_sharp_sync_by_is (has_arbitrary p s) p (flutter_from p d s) h first is in
      let less = sharp_sync_within (has_arbitrary p s) p (flutter_from p d s first) h first synced.unfollowed in
      omega (arith, less, long)

  -- ---- the figures

  -- by the first double cycle that counts
  abbrev figures_with : Scale → Option ℕ → Cycles → SharpFigures
  figures_with scale first h = record {
    synced = first;
    greatest = greatest_since scale.grid (told_of h) first;
    above = above_since scale (told_of h) first;
  }

  pub sharp_figures-none : sharp_figures_of p d s [] ≡ record { synced = None; greatest = None; above = None }
  sharp_figures-none =
      ap (λ (first : Option ℕ). figures_with (scale_from p d s (unwrap_or first 0)) first []) (first_free-none passes)

  -- the numbers count only where there is a first one
  with_scale : (first : Option ℕ) (double : ℕ) (h : Cycles) → figures_with (scale_from p d s (unwrap_or first 0)) first h ≡ figures_with (scale_from p d s (unwrap_or first double)) first h
  with_scale None double h = refl
  with_scale (Some k) double h = refl

  -- a first double cycle stays the first
  unwrapped : (double : ℕ) (free : Bool) (first : Option ℕ) → unwrap_or (next_synced double free first) double ≡ unwrap_or first double
  unwrapped double free (Some k) = refl
  unwrapped double true None = refl
  unwrapped double false None = refl

  -- where one is first the test of a later double cycle has no say
  same_synced : (double : ℕ) (first : Option ℕ) (one other : Bool) → (first ≡ None → one ≡ other) → next_synced double one first ≡ next_synced double other first
  same_synced double None one other same = rw (same refl) refl
  same_synced double (Some k) one other same = refl

  tested_by : (double : ℕ) (first : Option ℕ) (even odd : List NodeRow) → first ≡ None → passes double even odd ≡ passes (unwrap_or first double) even odd
  tested_by double first even odd is = rw is refl

  pub sharp_figures-next : (h : Cycles) (even odd : Cycle) (double : ℕ) → length h ≡ 2 * double
      → sharp_figures_of p d s (odd ∷ even ∷ h)
      ≡ sharply_followed (scale_from p d s (unwrap_or (first_sharp_of p d s h) double)) double even.told.rows odd.told.rows
      (not (is_none even.followers) || not (is_none odd.followers)) (sharp_figures_of p d s h)
  sharp_figures-next h even odd double long =
      let following : Bool = not (is_none even.followers) || not (is_none odd.followers) in
      let first : Option ℕ = first_sharp_of p d s h in
      let after : Option ℕ = first_sharp_of p d s (odd ∷ even ∷ h) in
      let by : ℕ = unwrap_or first double in
      let scale : Scale = scale_from p d s by in
      let told : Bool = passes by even.told.rows odd.told.rows in
      let synced : after ≡ next_synced double (told && not following) first =
      sharp_synced-next h even odd double long
      ∙ same_synced double first (passes double even.told.rows odd.told.rows && not following) (told && not following)
      (λ none. ap (λ (b : Bool). b && not following) (tested_by double first even.told.rows odd.told.rows none)) in
      let same : unwrap_or after double ≡ by = ap (λ (o : Option ℕ). unwrap_or o double) synced ∙ unwrapped double (told && not following) first in
      let next = figures_by-next scale (passes by) h even odd double told following first after long (sharp_low h double first long refl) refl synced in
      with_scale after double (odd ∷ even ∷ h)
      ∙ ap (λ (n : ℕ). figures_with (scale_from p d s n) after (odd ∷ even ∷ h)) same
      ∙ ap (λ (f : Figures). record { synced = f.synced; greatest = f.greatest; above = f.above }) next
      ∙ ap (next_sharply scale double even.told.rows odd.told.rows told following) (sym (with_scale first double h))

pub sharp_figures-at : (p : Values) (d : DriftView) (s : ScriptView) (x : Setting) (double : ℕ) →
    sharp_figures_of p d s (cycles_of x (2 * (double + 1)))
    ≡ sharply_followed (scale_from p d s (unwrap_or (first_sharp_of p d s (cycles_of x (2 * double))) double)) double (rows_at x (2 * double)) (rows_at x (2 * double + 1))
    (followed_at x (2 * double) || followed_at x (2 * double + 1)) (sharp_figures_of p d s (cycles_of x (2 * double)))
sharp_figures-at p d s x double =
    ap (sharp_figures_of p d s) (cycles-two x double)
    ∙ sharp_figures-next p d s (cycles_of x (2 * double)) (next_cycle x (cycles_of x (2 * double))) (next_cycle x (cycles_of x (2 * double + 1))) double (length-cycles_of x (2 * double))

-- ---- both

pub tally-none : (p : Values) (d : DriftView) (s : ScriptView) (tally : Tally) → tally.older ≡ record { synced = None; greatest = None; lost = None; above = None }
    → tally.sharp ≡ record { synced = None; greatest = None; above = None } → tally ≡ tally_of p d s []
tally-none p d s tally older sharp =
    ap₂ (λ (one : Figures) (other : SharpFigures). record { older = one; sharp = other }) (older ∙ sym (figures-none p)) (sharp ∙ sym (sharp_figures-none p d s))

-- ---- the text

half : (n double : ℕ) → n ≡ 2 * double → n / 2 ≡ double
half n double is = omega (arith, is)

-- one more double cycle of a run adds its own lines
pub sharp_rows-at : (p : Values) (d : DriftView) (s : ScriptView) (x : Setting) (double : ℕ)
    → sharp_rows p d s (cycles_of x (2 * (double + 1)))
    ≡ sharp_rows p d s (cycles_of x (2 * double))
    ++ sharp_double_text p d s (first_sharp_of p d s (cycles_of x (2 * double))) (first_sharp_of p d s (cycles_of x (2 * (double + 1)))) double
    (rows_at x (2 * double)) (rows_at x (2 * double + 1))
unfolding sharp_rows
sharp_rows-at p d s x double =
    let h : Cycles = cycles_of x (2 * double) in
    let even = next_cycle x h in
    let odd = next_cycle x (cycles_of x (2 * double + 1)) in
    ap (sharp_rows p d s) (cycles-two x double)
    ∙ ap (λ (n : ℕ). sharp_rows p d s h ++ sharp_double_text p d s (first_sharp_of p d s h) (first_sharp_of p d s (odd ∷ even ∷ h)) n even.told.rows odd.told.rows)
    (half (length h) double (length-cycles_of x (2 * double)))
    ∙ ap (λ (c : Cycles). sharp_rows p d s h ++ sharp_double_text p d s (first_sharp_of p d s h) (first_sharp_of p d s c) double even.told.rows odd.told.rows)
    (sym (cycles-two x double))
